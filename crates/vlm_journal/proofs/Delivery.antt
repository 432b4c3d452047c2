-- Where an AST is pending for a node, a take of its process answers one.
use Rattle.std.proofs.Common.{◌≡◌, ◌≢◌, ◌<◌, ◌/◌, ◌==◌, ℕ, suc, Bool, true, false, List, [], ◌∷◌, length, Option, None}
use Rattle.std.proofs.Common.{Some, inl, inr, refl, sym, ap, ◌∙◌, subst, arith, cond}
use Rattle.std.specs.Prelude.{AllPairs, find, is_some, nat_lt}
use Rattle.std.specs.List.{AllByRecursion}
use Rattle.std.specs.Option.{option_map, option_map_or}
use Rattle.std.proofs.lemmas.Bool.{and_parts, eqb-true}
use Rattle.std.proofs.lemmas.Bool.Decides.{Decides-eqb}
use Rattle.std.proofs.lemmas.List.Elements.{recursion_from_All}
use Rattle.vlm_words.specs.declared.asts.Ast.{Ast}
use Rattle.vlm_words.specs.declared.conditions.Cond.TheVariants.{Departed as departed_cond, Nonexpr}
use Rattle.vlm_words.specs.declared.conditions.Cond.{Cond}
use Rattle.vlm_words.specs.declared.steps.Answer.TheVariants.{Plain, Taken}
use Rattle.vlm_words.specs.declared.steps.Answer.{Answer}
use Rattle.vlm_words.specs.declared.steps.Step.TheVariants.{Take}
use Rattle.vlm_words.specs.Processes.{oldest, is_pending_on}
use Rattle.vlm_model.specs.Checks.{caller_refusal, has_departed}
use Rattle.vlm_model.specs.Pending.{ProcessesRise, first_pending}
use Rattle.vlm_model.specs.Runs.{History}
use Rattle.vlm_words.specs.State.{Process, State, process_of}
use Rattle.vlm_model.specs.Stepped.{Outcome, Stepped, refused, refused_or, step_change, stepped}
use Rattle.vlm_words.specs.Steps.{node_of_pid}
use Rattle.vlm_model.specs.Take.{take_refusal, taken_ast}
use Rattle.vlm_model.specs.Departing.{DepartedNodesAreToldSo, NoneLivesOnDepartedNodes}
use Rattle.vlm_journal.specs.Delivery.{GivesAst}

-- what is found is among them, and passes the test
found_so : {X : Type 0} (Q : X → Type 0) (test : X → Bool) (xs : List X) (x : X) → AllByRecursion Q xs → find test xs ≡ Some x → Q x × (test x ≡ true)
found_so Q test [] x all found = cc
found_so Q test (y ∷ ys) x all found = by_test (λ there. found_so Q test ys x all.1 there) (test y) refl found
  where
    here : Some y ≡ Some x → y ≡ x
    here h = cc

    by_test : (find test ys ≡ Some x → Q x × (test x ≡ true)) → (b : Bool) → test y ≡ b → cond b (Some y) (find test ys) ≡ Some x → Q x × (test x ≡ true)
    by_test later true is found =
        let same : y ≡ x = here found in (subst Q same all.0, subst (λ z. test z ≡ true) same is)
    by_test later false is found = later found

-- of two processes of one node the later has the greater ID
abbrev Rises : Process → Process → Type 0
Rises a b = node_of_pid a.pid ≡ node_of_pid b.pid → a.pid < b.pid

-- a process that has an AST pending, and lives by this ID
record Lives (node pid : ℕ) (processes : List Process) : Type 0 where
  process : Process
  lives : process_of processes pid ≡ Some process
  pending : is_pending_on node process ≡ true

module _ (node pid : ℕ) where
  -- one process more before them
  lives_behind : (x : Process) (ps : List Process) → AllByRecursion (Rises x) ps → Lives node pid ps → Lives node pid (x ∷ ps)
  lives_behind x ps rises lives = record { process = lives.process; lives = by_test (x.pid == pid) refl; pending = lives.pending }
    where
      by_test : (b : Bool) → (x.pid == pid) ≡ b → process_of (x ∷ ps) pid ≡ Some lives.process
      by_test true is =
          let found = found_so (Rises x) (λ (p : Process). p.pid == pid) ps lives.process rises lives.lives in
          let same : x.pid ≡ lives.process.pid = eqb-true x.pid pid is ∙ sym (eqb-true lives.process.pid pid found.1) in
          absurd (omega (arith, same, found.0 (ap node_of_pid same)))
      by_test false is = rw is lives.lives

  first_lives : (ps : List Process) → AllPairs Rises ps → first_pending node ps ≡ Some pid → Lives node pid ps
  first_lives [] rising first = cc
  first_lives (x ∷ ps) rising first = by_test (λ there. first_lives ps rest there) (is_pending_on node x) refl first
    where
      rest : AllPairs Rises ps
      rest i j d before within = rising (suc i) (suc j) d (omega (arith, before)) (omega (arith, within))

      later : AllByRecursion (Rises x) ps
      later = recursion_from_All (Rises x) ps (λ i d within. rising 0 (suc i) d (omega arith) (omega (arith, within)))

      same : Some x.pid ≡ Some pid → x.pid ≡ pid
      same h = cc

      by_test : (first_pending node ps ≡ Some pid → Lives node pid ps) → (b : Bool) → is_pending_on node x ≡ b
          → option_map (λ (p : Process). p.pid) (cond b (Some x) (find (is_pending_on node) ps)) ≡ Some pid → Lives node pid (x ∷ ps)
      by_test behind true is first =
          let named : (x.pid == pid) ≡ true = (Decides-eqb x.pid pid).1 (same first) in
          record { process = x; lives = rw named refl; pending = is }
      by_test behind false is first = lives_behind x ps later (behind first)

-- where some are pending, there is an oldest
an_oldest : (asts : List Ast) → nat_lt 0 (length asts) ≡ true → (ast : Ast) × (oldest asts ≡ Some ast)
an_oldest [] some = cc
an_oldest (ast ∷ asts) some = (ast, refl)

-- a take of a node that has departed is refused
take_refused : (s : State) (pid : ℕ) → take_refusal s pid ≡ Some departed_cond → Outcome s (Take pid) s (Plain departed_cond)
take_refused s pid refused_so =
    let so : stepped s (Take pid) None ≡ refused s departed_cond = ap (λ (told : Option Cond). refused_or told s (step_change s (Take pid) None)) refused_so in
    inl (record {
      choice = None;
      chosen = refl;
      state = sym (ap (λ (x : Stepped). x.state) so);
      answered = sym (ap (λ (x : Stepped). x.answer) so);
    })

module _ (history : History) (s : State) (told : DepartedNodesAreToldSo history s)
    (none_lives : NoneLivesOnDepartedNodes history s) (rise : ProcessesRise s) (node pid : ℕ)
    (first : first_pending node s.processes ≡ Some pid) where
  lives : Lives node pid s.processes
  lives = first_lives node pid s.processes rise.rising first

  -- the ID and the node of what lives
  named : lives.process.pid ≡ pid
  named =
      eqb-true lives.process.pid pid
      (found_so (λ (p : Process). Unit {0}) (λ (p : Process). p.pid == pid) s.processes lives.process
      (anything s.processes) lives.lives).1
    where
      anything : (ps : List Process) → AllByRecursion (λ (p : Process). Unit {0}) ps
      anything [] = tt
      anything (p ∷ ps) = (tt, anything ps)

  node_is : pid / 65536 ≡ node
  node_is =
      let tests = and_parts _ _ lives.pending in
      ap node_of_pid (sym named) ∙ eqb-true (node_of_pid lives.process.pid) node tests.0

  -- no check refuses the take
  not_departed : take_refusal s pid ≡ Some departed_cond → ⊥
  not_departed refused_so =
      let gone = told.only (Take pid) s (take_refused s pid refused_so) in
      let living : lives.process.pid / 65536 ≢ gone.0 =
      (found_so (λ (p : Process). p.pid / 65536 ≢ gone.0) (λ (p : Process). p.pid == pid) s.processes lives.process
      (recursion_from_All _ s.processes (none_lives gone.0 gone.2)) lives.lives).0 in
      living (ap node_of_pid named ∙ gone.1)

  accepted : take_refusal s pid ≡ None
  unfolding caller_refusal
  accepted = by_test (has_departed s.nodes (node_of_pid pid)) refl
    where
      by_test : (b : Bool) → has_departed s.nodes (node_of_pid pid) ≡ b → take_refusal s pid ≡ None
      by_test true is = absurd
          (not_departed (ap (λ (b : Bool). cond b (Some departed_cond)
          (cond (is_some (process_of s.processes pid)) None (Some Nonexpr))) is))
      by_test false is = rw (is, lives.lives) refl

  pub gives_ast : (new : State) (answer : Answer) → Outcome s (Take pid) new answer → GivesAst node pid answer
  gives_ast new answer (inl made) =
      let tests = and_parts _ _ lives.pending in
      let one = an_oldest lives.process.asts tests.1 in
      let taken : taken_ast s pid ≡ Some one.0 = ap (λ (o : Option Process). oldest (option_map_or (λ (p : Process). p.asts) o [])) lives.lives ∙ one.1 in
      let so = ap (λ (told : Option Cond). (refused_or told s (step_change s (Take pid) made.choice)).answer) accepted in
      record { ast = one.0; answered = made.answered ∙ so ∙ ap Taken taken; of_node = node_is }
  gives_ast new answer (inr short) = absurd short.may
