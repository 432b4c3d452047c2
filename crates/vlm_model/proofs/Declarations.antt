-- After every run each living process has an ID that its node has given, and so a declaration gives
-- a new one, above those of its node.
use Rattle.std.proofs.Common.{◌≡◌, ◌≢◌, ◌≤◌, ◌<◌, ◌+◌, ◌-◌, ◌*◌, ◌/◌, ◌%◌, ℕ, zero, suc, Bool, true, false, not, cond}
use Rattle.std.proofs.Common.{List, [], ◌∷◌, ◌++◌, map, length, get_or, set, Option, None, Some, refl, sym, ap, subst}
use Rattle.std.proofs.Common.{◌∙◌, arith}
use Rattle.std.specs.Prelude.{nat_le, nat_lt, All}
use Rattle.std.specs.List.{AllByRecursion}
use Rattle.std.proofs.lemmas.Bool.{and_parts, leb-true, cond_both}
use Rattle.std.proofs.lemmas.Bool.Decides.{nat_tests}
use Rattle.std.proofs.lemmas.List.{get_or-set_same, length-set}
use Rattle.std.proofs.lemmas.List.Elements.{All-from_recursion}
use Rattle.vlm_words.specs.declared.conditions.Cond.TheVariants.{Badparam, Departed}
use Rattle.vlm_words.specs.declared.conditions.Cond.{Cond}
use Rattle.vlm_words.specs.declared.steps.Answer.TheVariants.{Process as process_answer}
use Rattle.vlm_words.specs.declared.steps.Declaration.{Declaration}
use Rattle.vlm_words.specs.declared.steps.Step.TheVariants.{Declare}
use Rattle.vlm_words.specs.State.{Node, Process, State, new_node, node_at}
use Rattle.vlm_model.specs.Effects.{blocks_with}
use Rattle.vlm_words.specs.ValueBlocks.{new_value_block}
use Rattle.vlm_model.specs.Sweeps.{state_after_sweep}
use Rattle.vlm_model.specs.Checks.{has_departed}
use Rattle.vlm_model.specs.Declare.{declare_change, declare_refusal, declared_process, is_node, next_pid}
use Rattle.vlm_model.specs.SetValue.{set_change}
use Rattle.vlm_model.specs.Take.{take_change}
use Rattle.vlm_model.specs.Enqueue.{enq_change}
use Rattle.vlm_model.specs.Convert.{convert_change}
use Rattle.vlm_model.specs.Stepped.{refused_or, step_change}
use Rattle.vlm_model.specs.Runs.{History, Run}
use Rattle.vlm_model.specs.Laws.{DeclarationsGiveNewIds}
use Rattle.vlm_model.specs.Pending.{ProcessesRise}
use Rattle.vlm_model.proofs.Each.{each_append, each_weaker}
use Rattle.vlm_model.proofs.Pairs.{AllPairs-from_recursion, EachPair}
use Rattle.vlm_model.proofs.Processes.{kept_converted, kept_ended, kept_entered, kept_set, kept_swept, kept_taken}
use Rattle.vlm_model.proofs.Always.{always, kept_by_stepped, EndsNow, departs, run_down}
use Rattle.vlm_model.specs.Rundown.{processes_but, state_after_rundown}
use Rattle.vlm_model.specs.Withdrawals.{state_after_withdrawals, withdrawn_endings}

-- the IDs of living processes
abbrev pub pids : List Process → List ℕ
pids processes = map (λ p. p.pid) processes

-- the ID is one that its node has given: its ordinal is not past the node's last
abbrev pub IsGiven : List Node → ℕ → Type 0
IsGiven nodes pid = pid % 65536 ≤ (node_at nodes (pid / 65536)).declared

-- there are eight nodes, and each living process has an ID that its node has given
pub record AllGiven (s : State) : Type 0 where
  pub eight : length s.nodes ≡ 8
  pub living : AllByRecursion (IsGiven s.nodes) (pids s.processes)

-- a process that is added
pub pids_added : (processes : List Process) (p : Process) → pids (processes ++ p ∷ []) ≡ pids processes ++ p.pid ∷ []
pids_added [] p = refl
pids_added (q ∷ rest) p = ap (λ (others : List ℕ). q.pid ∷ others) (pids_added rest p)

-- what was given stays given where no node and no ID changes
same_given : (s t : State) → t.nodes ≡ s.nodes → pids t.processes ≡ pids s.processes → AllGiven s → AllGiven t
same_given s t nodes processes given = record {
  eight = ap (λ (all : List Node). length all) nodes ∙ given.eight;
  living =
      subst (λ (all : List ℕ). AllByRecursion (IsGiven t.nodes) all) (sym processes)
      (subst (λ (all : List Node). AllByRecursion (IsGiven all) (pids s.processes)) (sym nodes) given.living);
}

-- a sweep keeps what is given
swept_given : (s : State) → AllGiven s → AllGiven (state_after_sweep s)
swept_given s given = same_given s (state_after_sweep s) refl (kept_swept (λ p. p.pid) (λ _ _ _. refl) s.processes s.resources) given

-- where one node has declared more, no node has declared less
pub none_less : (nodes : List Node) (place at : ℕ) (node : Node) → (get_or nodes place new_node).declared ≤ node.declared
    → (get_or nodes at new_node).declared ≤ (get_or (set nodes place node) at new_node).declared
none_less [] place at node more = omega arith
none_less (x ∷ xs) zero zero node more = more
none_less (x ∷ xs) zero (suc at) node more = omega arith
none_less (x ∷ xs) (suc place) zero node more = omega arith
none_less (x ∷ xs) (suc place) (suc at) node more = none_less xs place at node more

-- an accepted declaration names a node that has an ordinal left
pub record HasOrdinal (s : State) (d : Declaration) : Type 0 where
  pub first : 1 ≤ d.node
  pub last : d.node ≤ 8
  pub left : (node_at s.nodes d.node).declared < 65535

-- where the checks of a declaration pass, its node has an ordinal left
pub ordinal_left : (s : State) (d : Declaration) → declare_refusal s d ≡ None → HasOrdinal s d
unfolding declare_refusal
ordinal_left s d passed = of_tests (is_node d.node) (has_departed s.nodes d.node) (nat_lt (node_at s.nodes d.node).declared 65535) refl refl passed
  where
    of_tests : (node departed left : Bool) → is_node d.node ≡ node → nat_lt (node_at s.nodes d.node).declared 65535 ≡ left
        → cond (not node) (Some Badparam) (cond departed (Some Departed) (cond left None (Some Badparam))) ≡ None → HasOrdinal s d
    of_tests true false true is_named is_left passed =
        let parts = and_parts (nat_le 1 d.node) (nat_le d.node 8) is_named in
        record {
          first = leb-true 1 d.node parts.0;
          last = leb-true d.node 8 parts.1;
          left = grind (arith, nat_tests);
        }
    of_tests true false false is_named is_left passed = cc
    of_tests true true left is_named is_left passed = cc
    of_tests false departed left is_named is_left passed = cc

-- the next ordinal of a node is not given yet
pub next_is_new : (nodes : List Node) (node pid : ℕ) → (node_at nodes node).declared < 65535
    → IsGiven nodes pid → pid ≢ node * 65536 + ((node_at nodes node).declared + 1)
next_is_new nodes node pid left given is =
    let upper : pid / 65536 ≡ node = omega arith in
    let lower : pid % 65536 ≡ (node_at nodes node).declared + 1 = omega arith in
    let last : (node_at nodes (pid / 65536)).declared ≡ (node_at nodes node).declared =
    ap (λ (number : ℕ). (node_at nodes number).declared) upper in
    omega arith

-- after a declaration the new ID is given too
pub declared_given : (s : State) (d : Declaration) → HasOrdinal s d → AllGiven s → AllGiven (declare_change s d)
unfolding declare_change
declared_given s d has given =
    let node : Node = record (node_at s.nodes d.node) { declared = (node_at s.nodes d.node).declared + 1 } in
    let nodes : List Node = set s.nodes (d.node - 1) node in
    let own : node_at nodes d.node ≡ node = get_or-set_same s.nodes (d.node - 1) node new_node (omega (arith, has.first, has.last, given.eight)) in
    let old : AllByRecursion (IsGiven nodes) (pids s.processes) =
    each_weaker (IsGiven s.nodes) (IsGiven nodes)
    (λ pid is. omega (arith, is, none_less s.nodes (d.node - 1) (pid / 65536 - 1) node (omega arith))) (pids s.processes) given.living in
    let upper : next_pid s d.node / 65536 ≡ d.node = omega (arith, has.left) in
    let lower : next_pid s d.node % 65536 ≡ (node_at s.nodes d.node).declared + 1 = omega (arith, has.left) in
    let new : IsGiven nodes (next_pid s d.node) = rw (upper, lower, own) (omega arith) in
    record {
      eight = length-set s.nodes (d.node - 1) node ∙ given.eight;
      living = subst (AllByRecursion (IsGiven nodes)) (sym (pids_added s.processes (declared_process s d)))
          (each_append (IsGiven nodes) (pids s.processes) (next_pid s d.node ∷ []) old (new, tt));
    }

-- the nodes have declared as many
record DeclareAsMany (nodes after : List Node) : Type 0 where
  many : length after ≡ length nodes
  each : (node : ℕ) → (node_at after node).declared ≡ (node_at nodes node).declared

pub same_declared : (nodes : List Node) (place at : ℕ)
    → (get_or (set nodes place (record (get_or nodes place new_node) { departed = true })) at new_node).declared ≡ (get_or nodes at new_node).declared
same_declared [] place at = refl
same_declared (x ∷ xs) zero zero = refl
same_declared (x ∷ xs) zero (suc at) = refl
same_declared (x ∷ xs) (suc place) zero = refl
same_declared (x ∷ xs) (suc place) (suc at) = same_declared xs place at

declare_as_many : (s : State) (is_one : ℕ → Bool) (nodes : List Node) → EndsNow s is_one nodes → DeclareAsMany s.nodes nodes
declare_as_many s _ _ (run_down pid passed) = record { many = refl; each = λ node. refl }
declare_as_many s _ _ (departs node passed) = record {
  many = length-set s.nodes (node - 1) (record (node_at s.nodes node) { departed = true });
  each = λ at. same_declared s.nodes (node - 1) (at - 1);
}

-- and those that are left have what they had
pids_left : (is_one : ℕ → Bool) (P : ℕ → Type 0) (processes : List Process) → AllByRecursion P (pids processes)
    → AllByRecursion P (pids (processes_but is_one processes))
pids_left is_one P [] each = tt
pids_left is_one P (p ∷ rest) each =
    let behind : AllByRecursion P (pids (processes_but is_one rest)) = pids_left is_one P rest each.1 in
    cond_both (not (is_one p.pid)) (p ∷ processes_but is_one rest) (processes_but is_one rest) (λ left. AllByRecursion P (pids left))
    (λ _. (each.0, behind)) (λ _. behind)

ended_given : (s : State) (is_one : ℕ → Bool) (nodes : List Node) → DeclareAsMany s.nodes nodes → AllGiven s
    → AllGiven (state_after_rundown is_one nodes s)
unfolding state_after_rundown
ended_given s is_one nodes same given = record {
  eight = same.many ∙ given.eight;
  living =
      pids_left is_one (IsGiven nodes) s.processes
      (each_weaker (IsGiven s.nodes) (IsGiven nodes) (λ pid is. omega (arith, is, same.each (pid / 65536))) (pids s.processes) given.living);
}

-- after every run each living process has an ID that its node has given
pub given_always : (history : History) (last : State)
    → Run history last → AllGiven last
unfolding set_change take_change enq_change convert_change
given_always =
    always (λ _ s. AllGiven s) (record { eight = refl; living = tt })
    (λ history s _ given.
    kept_by_stepped (λ _ t. AllGiven t) history.endings s given
    (λ d passed. swept_given (declare_change s d) (declared_given s d (ordinal_left s d passed) given))
    (λ v _. swept_given (set_change s v)
    (same_given s (set_change s v) refl
    (kept_set (λ p. p.pid) (λ _ _. refl) v.pid v.block v.value v.tail s.processes) given))
    (λ taker _. swept_given (take_change s taker) (same_given s (take_change s taker) refl (kept_taken (λ p. p.pid) (λ _ _. refl) taker s.processes) given))
    (λ e _. swept_given (enq_change s e) (same_given s (enq_change s e) refl (kept_entered (λ p. p.pid) (λ _ _ _. refl) s e) given))
    (λ c a _ _. swept_given (convert_change s c a) (same_given s (convert_change s c a) refl (kept_converted (λ p. p.pid) (λ _ _ _. refl) s c a) given))
    (λ withdrawals _.
    let after : State = state_after_withdrawals withdrawals s in
    swept_given after
    (same_given s after refl (kept_ended (λ p. p.pid) (λ _ _ _. refl) (withdrawn_endings withdrawals s.resources)
    (blocks_with new_value_block s.processes)) given))
    (λ is_one nodes ends. swept_given (state_after_rundown is_one nodes s) (ended_given s is_one nodes (declare_as_many s is_one nodes ends) given)))

-- no living process has the next ID of a node
each_new : (nodes : List Node) (node pid : ℕ) → node * 65536 + ((node_at nodes node).declared + 1) ≡ pid
    → (node_at nodes node).declared < 65535 → (processes : List Process) → AllByRecursion (IsGiven nodes) (pids processes)
    → AllByRecursion (λ p. p.pid ≢ pid) processes
each_new nodes node pid next left [] given = tt
each_new nodes node pid next left (p ∷ rest) given = (
  λ is. next_is_new nodes node p.pid left given.0 (is ∙ sym next),
  each_new nodes node pid next left rest given.1,
)

-- after every run a declaration gives a new ID
pub declarations_always : (history : History) (last : State)
    → Run history last → DeclarationsGiveNewIds last
declarations_always history last run d choice pid chosen answered = of_refusal (declare_refusal last d) refl answered
  where
    given : AllGiven last
    given = given_always history last run

    of_refusal : (refusal : Option Cond) → declare_refusal last d ≡ refusal
        → (refused_or refusal last (step_change last (Declare d) choice)).answer ≡ process_answer pid → All (λ p. p.pid ≢ pid) last.processes
    of_refusal (Some refusal) is answered = cc
    of_refusal None passed answered =
        let same : next_pid last d.node ≡ pid = cc in
        let has : HasOrdinal last d = ordinal_left last d passed in
        All-from_recursion (λ p. p.pid ≢ pid) last.processes (each_new last.nodes d.node pid same has.left last.processes given.living)

-- ---- they rise

-- the ID is one of the eight nodes'
abbrev pub IsOfNode : ℕ → Type 0
IsOfNode pid = is_node (pid / 65536) ≡ true

-- of two processes of one node the one that was declared later has the greater ID
abbrev pub Rises : ℕ → ℕ → Type 0
Rises a b = a / 65536 ≡ b / 65536 → a < b

-- each living process has an ID that its node has given, and those of a node rise
pub record AllRise (s : State) : Type 0 where
  pub given : AllGiven s
  pub named : AllByRecursion IsOfNode (pids s.processes)
  pub rising : EachPair Rises (pids s.processes)

-- they do where no node and no ID changes
same_rise : (s t : State) → t.nodes ≡ s.nodes → pids t.processes ≡ pids s.processes → AllRise s → AllRise t
same_rise s t nodes processes rise = record {
  given = same_given s t nodes processes rise.given;
  named = subst (λ (all : List ℕ). AllByRecursion IsOfNode all) (sym processes) rise.named;
  rising = subst (λ (all : List ℕ). EachPair Rises all) (sym processes) rise.rising;
}

-- a sweep changes none
swept_rise : (s : State) → AllRise s → AllRise (state_after_sweep s)
swept_rise s rise = same_rise s (state_after_sweep s) refl (kept_swept (λ p. p.pid) (λ _ _ _. refl) s.processes s.resources) rise

-- one more at the end, above all of its node
rises_at_end : (all : List ℕ) (last : ℕ) → AllByRecursion (λ pid. Rises pid last) all → EachPair Rises all → EachPair Rises (all ++ last ∷ [])
rises_at_end [] last below rising = (tt, tt)
rises_at_end (pid ∷ rest) last below rising = (
  each_append (Rises pid) rest (last ∷ []) rising.0 (below.0, tt),
  rises_at_end rest last below.1 rising.1,
)

-- what a node has given is below what it gives next
next_is_above : (nodes : List Node) (node pid : ℕ) → (node_at nodes node).declared < 65535
    → IsGiven nodes pid → Rises pid (node * 65536 + ((node_at nodes node).declared + 1))
next_is_above nodes node pid left given same =
    let upper : pid / 65536 ≡ node = omega arith in
    let last : (node_at nodes (pid / 65536)).declared ≡ (node_at nodes node).declared =
    ap (λ (number : ℕ). (node_at nodes number).declared) upper in
    omega arith

-- after a declaration they rise too
declared_rise : (s : State) (d : Declaration) → is_node d.node ≡ true → HasOrdinal s d → AllRise s → AllRise (declare_change s d)
unfolding declare_change
declared_rise s d of_node has rise =
    let upper : next_pid s d.node / 65536 ≡ d.node = omega (arith, has.left) in
    let added = sym (pids_added s.processes (declared_process s d)) in
    record {
      given = declared_given s d has rise.given;
      named = subst (λ (all : List ℕ). AllByRecursion IsOfNode all) added
          (each_append IsOfNode (pids s.processes) (next_pid s d.node ∷ []) rise.named (ap is_node upper ∙ of_node, tt));
      rising = subst (λ (all : List ℕ). EachPair Rises all) added
          (rises_at_end (pids s.processes) (next_pid s d.node)
          (each_weaker (IsGiven s.nodes) (λ pid. Rises pid (next_pid s d.node))
          (λ pid. next_is_above s.nodes d.node pid has.left) (pids s.processes) rise.given.living) rise.rising);
    }

-- where the checks of a declaration pass, it names one of the eight nodes
names_node : (d : Declaration) → 1 ≤ d.node → d.node ≤ 8 → is_node d.node ≡ true
names_node d first last = grind (arith, nat_tests)

-- those that are left after some have ended rise as before
rising_left : (is_one : ℕ → Bool) (processes : List Process) → EachPair Rises (pids processes) → EachPair Rises (pids (processes_but is_one processes))
rising_left is_one [] rising = tt
rising_left is_one (p ∷ rest) rising =
    let behind : EachPair Rises (pids (processes_but is_one rest)) = rising_left is_one rest rising.1 in
    cond_both (not (is_one p.pid)) (p ∷ processes_but is_one rest) (processes_but is_one rest) (λ left. EachPair Rises (pids left))
    (λ _. (pids_left is_one (Rises p.pid) rest rising.0, behind)) (λ _. behind)

ended_rise : (s : State) (is_one : ℕ → Bool) (nodes : List Node) → DeclareAsMany s.nodes nodes → AllRise s
    → AllRise (state_after_rundown is_one nodes s)
unfolding state_after_rundown
ended_rise s is_one nodes same rise = record {
  given = ended_given s is_one nodes same rise.given;
  named = pids_left is_one IsOfNode s.processes rise.named;
  rising = rising_left is_one s.processes rise.rising;
}

-- after every run each living process is of a node, and those of a node rise
rise_always : (history : History) (last : State)
    → Run history last → AllRise last
unfolding set_change take_change enq_change convert_change
rise_always =
    always (λ _ s. AllRise s) (record { given = record { eight = refl; living = tt }; named = tt; rising = tt })
    (λ history s _ rise.
    kept_by_stepped (λ _ t. AllRise t) history.endings s rise
    (λ d passed.
    let has = ordinal_left s d passed in
    swept_rise (declare_change s d) (declared_rise s d (names_node d has.first has.last) has rise))
    (λ v _. swept_rise (set_change s v) (same_rise s (set_change s v) refl (kept_set (λ p. p.pid) (λ _ _. refl) v.pid v.block v.value v.tail s.processes) rise))
    (λ taker _. swept_rise (take_change s taker) (same_rise s (take_change s taker) refl (kept_taken (λ p. p.pid) (λ _ _. refl) taker s.processes) rise))
    (λ e _. swept_rise (enq_change s e) (same_rise s (enq_change s e) refl (kept_entered (λ p. p.pid) (λ _ _ _. refl) s e) rise))
    (λ c a _ _. swept_rise (convert_change s c a) (same_rise s (convert_change s c a) refl (kept_converted (λ p. p.pid) (λ _ _ _. refl) s c a) rise))
    (λ withdrawals _.
    let after : State = state_after_withdrawals withdrawals s in
    swept_rise after
    (same_rise s after refl (kept_ended (λ p. p.pid) (λ _ _ _. refl) (withdrawn_endings withdrawals s.resources)
    (blocks_with new_value_block s.processes)) rise))
    (λ is_one nodes ends. swept_rise (state_after_rundown is_one nodes s) (ended_rise s is_one nodes (declare_as_many s is_one nodes ends) rise)))

-- what holds of IDs, of the processes that have them
of_processes : (processes : List Process) → AllByRecursion IsOfNode (pids processes) → AllByRecursion (λ p. IsOfNode p.pid) processes
of_processes [] named = tt
of_processes (p ∷ rest) named = (named.0, of_processes rest named.1)

each_above : (pid : ℕ) (processes : List Process) → AllByRecursion (Rises pid) (pids processes) → AllByRecursion (λ p. Rises pid p.pid) processes
each_above pid [] above = tt
each_above pid (p ∷ rest) above = (above.0, each_above pid rest above.1)

rise_of_processes : (processes : List Process) → EachPair Rises (pids processes) → EachPair (λ a b. Rises a.pid b.pid) processes
rise_of_processes [] rising = tt
rise_of_processes (p ∷ rest) rising = (each_above p.pid rest rising.0, rise_of_processes rest rising.1)

-- after every run the processes of a node rise
pub processes_always : (history : History) (last : State)
    → Run history last → ProcessesRise last
processes_always history last run =
    let rise = rise_always history last run in
    record {
      named = All-from_recursion (λ p. IsOfNode p.pid) last.processes (of_processes last.processes rise.named);
      rising = AllPairs-from_recursion (λ a b. Rises a.pid b.pid) last.processes (rise_of_processes last.processes rise.rising);
    }
