-- Who lives, and that nobody lives twice: a declaration gives an ID that was never given before.
use Rattle.std.proofs.Common.{◌≡◌, ◌≢◌, ◌++◌, ◌+◌, ◌-◌, ◌/◌, ℕ, Bool, true, false, List, [], ◌∷◌, map, cond, Option}
use Rattle.std.proofs.Common.{None, Some, inl, inr, refl, sym, subst, ap, ◌∙◌, arith}
use Rattle.std.specs.Prelude.{◌==◌, is_some}
use Rattle.std.specs.List.{AllByRecursion}
use Rattle.std.specs.Option.{option_map_or}
use Rattle.std.proofs.lemmas.Bool.{eqb-true}
use Rattle.std.proofs.lemmas.List.Elements.{All-from_recursion}
use Rattle.vlm_words.specs.declared.conditions.Cond.{Cond}
use Rattle.vlm_words.specs.declared.conditions.Cond.TheVariants.{Insfmem, Normal}
use Rattle.vlm_words.specs.declared.locks.LockState.{LockState}
use Rattle.vlm_words.specs.declared.steps.Answer.TheVariants.{Process as process_answer, Plain}
use Rattle.vlm_words.specs.declared.steps.Answer.{Answer}
use Rattle.vlm_words.specs.declared.steps.Declaration.{Declaration}
use Rattle.vlm_words.specs.declared.steps.Step.TheVariants.{Declare, SetValue, Enq, Convert, Deq, Rundown, Leave, Search, Take}
use Rattle.vlm_words.specs.declared.steps.Step.{Step}
use Rattle.vlm_words.specs.State.{Node, Process, State, node_at, process_of}
use Rattle.vlm_words.specs.ValueBlocks.{new_value_block}
use Rattle.vlm_model.specs.Effects.{blocks_with}
use Rattle.vlm_model.specs.Asts.{asts_of}
use Rattle.vlm_model.specs.Quotas.{quota_of}
use Rattle.vlm_model.specs.Declare.{declare_change, declared_process, next_pid}
use Rattle.vlm_model.specs.SetValue.{set_change}
use Rattle.vlm_model.specs.Take.{take_change}
use Rattle.vlm_model.specs.Enqueue.{enq_change}
use Rattle.vlm_model.specs.Convert.{ConversionAdmission, convert_change}
use Rattle.vlm_model.specs.Dequeue.{deq_change, deq_endings}
use Rattle.vlm_model.specs.Rundown.{is_ended_by, nodes_after_departure, processes_but, state_after_rundown}
use Rattle.vlm_words.specs.Steps.{is_of_node}
use Rattle.vlm_model.specs.Stepped.{Outcome, Stepped, conversion_change, end_of_processes, refused_or, step_change, step_refusal, stepped, stepped_after_sweep}
use Rattle.vlm_model.specs.Runs.{History, Run, begin, next}
use Rattle.vlm_model.proofs.Each.{each_append, each_weaker}
use Rattle.vlm_model.specs.Anew.{GivesNoneTwice}
use Rattle.vlm_model.proofs.Always.{admission_of}
use Rattle.vlm_model.proofs.Declarations.{AllGiven, HasOrdinal, IsGiven, declared_given, given_always, next_is_new}
use Rattle.vlm_model.proofs.Declarations.{none_less, ordinal_left, pids, same_declared}
use Rattle.vlm_model.proofs.ProcessEnds.{found_still, is_left, same_living, swept_living}
use Rattle.vlm_model.proofs.Processes.{kept_converted, kept_ended, kept_entered, kept_set, kept_taken}
use Rattle.vlm_model.specs.Search.{search_change, search_endings}

-- ---- who lives

-- the ID of a process
abbrev pub named : Process → ℕ
named p = p.pid

-- a process of this ID lives
abbrev pub lives : List Process → ℕ → Bool
lives processes pid = is_some (process_of processes pid)

pub no : {A : Type 0} → true ≡ false → A
no e = cc

-- who lives is there
pub who : (o : Option Process) → is_some o ≡ true → (p : Process) × (o ≡ Some p)
who None is = no (sym is)
who (Some p) is = (p, refl)

-- who does not is not, and has no ASTs and no quota
nobody : (o : Option Process) → is_some o ≡ false → o ≡ None
nobody None is = refl
nobody (Some p) is = no is

pub no_asts : (processes : List Process) (pid : ℕ) → lives processes pid ≡ false → asts_of processes pid ≡ []
no_asts processes pid out = ap (λ (o : Option Process). option_map_or (λ p. p.asts) o []) (nobody (process_of processes pid) out)

pub no_quota : (processes : List Process) (pid : ℕ) → lives processes pid ≡ false → quota_of processes pid ≡ 0
no_quota processes pid out = ap (λ (o : Option Process). option_map_or (λ p. p.quota) o 0) (nobody (process_of processes pid) out)

-- a sweep leaves who lives, and where the change before it kept the IDs, those before it live
pub swept_still : (s : State) (change : Stepped) → map named change.state.processes ≡ map named s.processes → (pid : ℕ)
    → lives (stepped_after_sweep change).state.processes pid ≡ lives s.processes pid
swept_still s change same pid =
    swept_living change.state.processes change.state.resources pid
    ∙ same_living s.processes change.state.processes same pid

-- a new process behind the others: who lives now and did not is the new one, and it has no ASTs
pub is_the_new_one : (processes : List Process) (p : Process) (pid : ℕ) → lives processes pid ≡ false → lives (processes ++ p ∷ []) pid ≡ true
    → p.pid ≡ pid
is_the_new_one [] p pid out is = of_test (p.pid == pid) refl is
  where
    of_test : (b : Bool) → (p.pid == pid) ≡ b → is_some (cond b (Some p) None) ≡ true → p.pid ≡ pid
    of_test true same is = eqb-true p.pid pid same
    of_test false other is = no (sym is)
is_the_new_one (q ∷ rest) p pid out is = of_test (q.pid == pid) (is_the_new_one rest p pid) out is
  where
    of_test : (b : Bool) → (lives rest pid ≡ false → lives (rest ++ p ∷ []) pid ≡ true → p.pid ≡ pid)
        → is_some (cond b (Some q) (process_of rest pid)) ≡ false
        → is_some (cond b (Some q) (process_of (rest ++ p ∷ []) pid)) ≡ true → p.pid ≡ pid
    of_test true behind out is = no out
    of_test false behind out is = behind out is

pub new_has_none : (processes : List Process) (p : Process) (pid : ℕ) → p.asts ≡ [] → lives processes pid ≡ false → asts_of (processes ++ p ∷ []) pid ≡ []
new_has_none [] p pid none out = of_test (p.pid == pid)
  where
    of_test : (b : Bool) → option_map_or (λ q. q.asts) (cond b (Some p) None) [] ≡ []
    of_test true = none
    of_test false = refl
new_has_none (q ∷ rest) p pid none out = of_test (q.pid == pid) (new_has_none rest p pid none) out
  where
    of_test : (b : Bool) → (lives rest pid ≡ false → asts_of (rest ++ p ∷ []) pid ≡ []) → is_some (cond b (Some q) (process_of rest pid)) ≡ false
        → option_map_or (λ x. x.asts) (cond b (Some q) (process_of (rest ++ p ∷ []) pid)) [] ≡ []
    of_test true behind out = no out
    of_test false behind out = behind out

-- where processes end, who lives lived before
pub lived_before : (is_one : ℕ → Bool) (nodes : List Node) (s : State) (pid : ℕ)
    → lives (stepped_after_sweep (end_of_processes is_one nodes s)).state.processes pid ≡ true → lives s.processes pid ≡ true
unfolding state_after_rundown
lived_before is_one nodes s pid is =
    let left : List Process = processes_but is_one s.processes in
    let there : lives left pid ≡ true = sym (swept_living left (state_after_rundown is_one nodes s).resources pid) ∙ is in
    sym (ap (λ (o : Option Process). is_some o) (found_still is_one pid (is_left is_one pid s.processes there) s.processes)) ∙ there

-- ---- no ID is given twice

-- what a step answers as an ID is given once it is done, and what was given stays so; who lives once it
-- is done and did not before has the ID that it answers, which was not given before
pub record GivesAnew (s t : State) (answer : Answer) : Type 0 where
  pub kept : (pid : ℕ) → IsGiven s.nodes pid → IsGiven t.nodes pid
  pub given : (pid : ℕ) → answer ≡ process_answer pid → IsGiven t.nodes pid
  pub anew : (pid : ℕ) → answer ≡ process_answer pid → IsGiven s.nodes pid → ⊥
  pub new : (pid : ℕ) → lives s.processes pid ≡ false → lives t.processes pid ≡ true
      → (answer ≡ process_answer pid) × (IsGiven s.nodes pid → ⊥)

-- a change that keeps the nodes and the IDs, and answers none, and its sweep
none_given : (s : State) (change : Stepped) → change.state.nodes ≡ s.nodes → map named change.state.processes ≡ map named s.processes
    → ((pid : ℕ) → change.answer ≡ process_answer pid → ⊥) → GivesAnew s (stepped_after_sweep change).state change.answer
none_given s change nodes same other = record {
  kept = λ pid is. subst (λ (all : List Node). IsGiven all pid) (sym nodes) is;
  given = λ pid is. absurd (other pid is);
  anew = λ pid is. absurd (other pid is);
  new = λ pid out is. no (sym is ∙ swept_still s change same pid ∙ out);
}

-- nothing is changed
pub none_given_refused : (s : State) (refusal : Cond) → GivesAnew s s (Plain refusal)
none_given_refused s refusal = record {
  kept = λ pid is. is;
  given = λ pid is. cc;
  anew = λ pid is. cc;
  new = λ pid out is. no (sym is ∙ out);
}

-- the last of them
last_given : (nodes : List Node) (processes : List Process) (p : Process) → AllByRecursion (IsGiven nodes) (pids (processes ++ p ∷ []))
    → IsGiven nodes p.pid
last_given nodes [] p given = given.0
last_given nodes (q ∷ rest) p given = last_given nodes rest p given.1

-- a declaration
declaration_gives : (s : State) (d : Declaration) (choice : Option LockState) → AllGiven s → HasOrdinal s d
    → GivesAnew s (stepped_after_sweep (step_change s (Declare d) choice)).state (step_change s (Declare d) choice).answer
unfolding declare_change
declaration_gives s d choice given has = record {
  kept = λ pid is.
      omega (
        arith,
        is,
        none_less s.nodes (d.node - 1) (pid / 65536 - 1) (record (node_at s.nodes d.node) { declared = (node_at s.nodes d.node).declared + 1 }) (omega arith),
      );
  given = λ pid is.
      subst (IsGiven (declare_change s d).nodes) (same_answer (next_pid s d.node) pid is)
      (last_given (declare_change s d).nodes s.processes (declared_process s d) (declared_given s d has given).living);
  anew = λ pid is before. next_is_new s.nodes d.node pid has.left before (sym (same_answer (next_pid s d.node) pid is));
  new = λ pid out is.
      let next : next_pid s d.node ≡ pid =
      is_the_new_one s.processes (declared_process s d) pid out (sym (swept_living (s.processes ++ declared_process s d ∷ []) s.resources pid) ∙ is) in
      (ap process_answer next, λ before. next_is_new s.nodes d.node pid (omega (arith, has.left)) before (sym next));
}
  where
    same_answer : (a b : ℕ) → process_answer a ≡ process_answer b → a ≡ b
    same_answer a b is = cc

-- the end of processes
end_gives : (s : State) (is_one : ℕ → Bool) (nodes : List Node) → ((pid : ℕ) → IsGiven s.nodes pid → IsGiven nodes pid)
    → GivesAnew s (stepped_after_sweep (end_of_processes is_one nodes s)).state (Plain Normal)
unfolding state_after_rundown
end_gives s is_one nodes kept = record {
  kept = kept;
  given = λ pid is. cc;
  anew = λ pid is. cc;
  new = λ pid out is. no (sym (lived_before is_one nodes s pid is) ∙ out);
}

-- a step that no check refuses
made_gives : (s : State) (step : Step) (choice : Option LockState) → AllGiven s → step_refusal s step ≡ None
    → GivesAnew s (stepped_after_sweep (step_change s step choice)).state (step_change s step choice).answer
unfolding set_change take_change enq_change convert_change deq_change search_change
made_gives s (Declare d) choice given passed = declaration_gives s d choice given (ordinal_left s d passed)
made_gives s (SetValue v) choice given passed =
    none_given s (step_change s (SetValue v) choice) refl (kept_set named (λ _ _. refl) v.pid v.block v.value v.tail s.processes) (λ pid is. cc)
made_gives s (Enq e) choice given passed =
    none_given s (step_change s (Enq e) choice) refl (kept_entered named (λ _ _ _. refl) s e) (λ pid is. cc)
made_gives s (Convert c) choice given passed =
    let admitted = admission_of s c passed in
    subst (λ (a : Option ConversionAdmission). GivesAnew s (stepped_after_sweep (conversion_change s c a)).state
    (conversion_change s c a).answer) (sym admitted.1)
    (none_given s (conversion_change s c (Some admitted.0)) refl (kept_converted named (λ _ _ _. refl) s c admitted.0) (λ pid is. cc))
made_gives s (Deq d) choice given passed =
    none_given s (step_change s (Deq d) choice) refl
    (kept_ended named (λ _ _ _. refl) (deq_endings s d) (blocks_with new_value_block s.processes)) (λ pid is. cc)
made_gives s (Rundown pid) choice given passed = end_gives s (is_ended_by pid) s.nodes (λ other is. is)
made_gives s (Leave node) choice given passed =
    end_gives s (is_of_node node) (nodes_after_departure s.nodes node)
    (λ pid is. omega (arith, is, same_declared s.nodes (node - 1) (pid / 65536 - 1)))
made_gives s (Search node) choice given passed =
    none_given s (step_change s (Search node) choice) refl
    (kept_ended named (λ _ _ _. refl) (search_endings s choice) (blocks_with new_value_block s.processes)) (λ pid is. cc)
made_gives s (Take process) choice given passed =
    none_given s (step_change s (Take process) choice) refl (kept_taken named (λ _ _. refl) process s.processes) (λ pid is. cc)

-- a step, with its refusal
pub step_gives : (s : State) (step : Step) (choice : Option LockState) → AllGiven s → (refusal : Option Cond) → step_refusal s step ≡ refusal
    → GivesAnew s (refused_or refusal s (step_change s step choice)).state (refused_or refusal s (step_change s step choice)).answer
step_gives s step choice given None passed = made_gives s step choice given passed
step_gives s step choice given (Some refusal) is = none_given_refused s refusal

-- an outcome
pub outcome_gives : (s t : State) (step : Step) (answer : Answer) → AllGiven s → Outcome s step t answer → GivesAnew s t answer
outcome_gives s t step answer given (inl made) =
    subst (λ (after : State). GivesAnew s after answer) (sym made.state)
    (subst (GivesAnew s (stepped s step made.choice).state) (sym made.answered) (step_gives s step made.choice given (step_refusal s step) refl))
outcome_gives s t step answer given (inr short) =
    subst (λ (after : State). GivesAnew s after answer) (sym short.state)
    (subst (GivesAnew s s) (sym short.answered) (none_given_refused s Insfmem))

-- what was answered as an ID is given after every run
answers_given : (history : History) (last : State) → Run history last
    → AllByRecursion (λ answer. (pid : ℕ) → answer ≡ process_answer pid → IsGiven last.nodes pid) history.answers
answers_given _ _ begin = tt
answers_given _ last (next {history} {old} {new} {step} {answer} run outcome) =
    let gives : GivesAnew old new answer = outcome_gives old new step answer (given_always history old run) outcome in
    each_append (λ told. (pid : ℕ) → told ≡ process_answer pid → IsGiven new.nodes pid) history.answers (answer ∷ [])
    (each_weaker (λ told. (pid : ℕ) → told ≡ process_answer pid → IsGiven old.nodes pid) (λ told. (pid : ℕ) → told ≡ process_answer pid → IsGiven new.nodes pid)
    (λ told given pid same. gives.kept pid (given pid same)) history.answers (answers_given history old run))
    (gives.given, tt)

-- so none is given twice
pub none_given_twice : (history : History) (last : State) → Run history last → GivesNoneTwice history last
none_given_twice history last run step choice chosen pid is =
    let gives : GivesAnew last (stepped last step choice).state (stepped last step choice).answer =
    step_gives last step choice (given_always history last run) (step_refusal last step) refl in
    All-from_recursion (λ answer. answer ≢ process_answer pid) history.answers
    (each_weaker (λ told. (other : ℕ) → told ≡ process_answer other → IsGiven last.nodes other) (λ told. told ≢ process_answer pid)
    (λ told given same. gives.anew pid is (given pid same)) history.answers (answers_given history last run))
