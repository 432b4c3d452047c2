-- What a departed node is told, and that none of its processes lives.
use Rattle.std.proofs.Common.{◌≡◌, ◌≢◌, ◌≤◌, ◌<◌, ◌+◌, ◌-◌, ◌/◌, ◌⊎◌, ℕ, zero, suc, Bool, true, false, not, cond, List}
use Rattle.std.proofs.Common.{[], ◌∷◌, length, get_or, set, Option, None, Some, inl, inr, refl, sym, ap, subst, ◌∙◌}
use Rattle.std.proofs.Common.{arith}
use Rattle.std.specs.Prelude.{◌==◌, is_some, replicate}
use Rattle.std.specs.List.{AllByRecursion}
use Rattle.std.proofs.lemmas.Bool.{eqb-false, eqb-true, true≢false}
use Rattle.std.proofs.lemmas.Bool.Decides.{nat_tests}
use Rattle.std.proofs.lemmas.List.{get_or-set_other, get_or-set_same}
use Rattle.std.proofs.lemmas.List.Elements.{All-from_recursion}
use Rattle.vlm_words.specs.declared.conditions.Cond.TheVariants.{Badparam, Departed, Insfmem, Nonexpr, Normal}
use Rattle.vlm_words.specs.declared.conditions.Cond.{Cond}
use Rattle.vlm_words.specs.declared.locks.LockState.{LockState}
use Rattle.vlm_words.specs.declared.steps.Answer.TheVariants.{Plain}
use Rattle.vlm_words.specs.declared.steps.Answer.{Answer}
use Rattle.vlm_words.specs.declared.steps.Declaration.{Declaration}
use Rattle.vlm_words.specs.declared.steps.Step.TheVariants.{Declare, SetValue, Enq, Convert, Deq, Rundown, Leave, Search, Take}
use Rattle.vlm_words.specs.declared.steps.Step.{Step}
use Rattle.vlm_words.specs.State.{Node, Process, State, new_node, node_at, process_of, start}
use Rattle.vlm_words.specs.ValueBlocks.{new_value_block}
use Rattle.vlm_model.specs.Effects.{blocks_with}
use Rattle.vlm_model.specs.Sweeps.{state_after_sweep}
use Rattle.vlm_model.specs.Checks.{caller_refusal, has_departed, or_else}
use Rattle.vlm_model.specs.Declare.{declare_change, declare_refusal, declared_process, is_node, next_pid}
use Rattle.vlm_model.specs.SetValue.{set_change, set_refusal}
use Rattle.vlm_model.specs.Take.{take_change}
use Rattle.vlm_model.specs.Enqueue.{enq_change, enq_refusal}
use Rattle.vlm_model.specs.Convert.{ConversionAdmission, convert_change, convert_refusal}
use Rattle.vlm_model.specs.Dequeue.{deq_change, deq_refusal}
use Rattle.vlm_model.specs.Rundown.{leave_refusal, nodes_after_departure, processes_but, state_after_rundown}
use Rattle.vlm_model.specs.Stepped.{Outcome, conversion_change, refused_or, step_change, step_refusal, stepped, stepped_after_sweep}
use Rattle.vlm_model.specs.Runs.{History, Run, begin, next}
use Rattle.vlm_model.specs.Reasons.{Breaks, IsAcceptance}
use Rattle.vlm_model.proofs.Always.{EndsNow, admission_of, always, departs, kept_by_stepped, run_down}
use Rattle.vlm_model.proofs.Declarations.{HasOrdinal, given_always, ordinal_left, pids, pids_added}
use Rattle.vlm_model.proofs.Each.{each_append, each_weaker}
use Rattle.vlm_model.proofs.Processes.{kept_converted, kept_ended, kept_entered, kept_set, kept_swept, kept_taken}
use Rattle.vlm_model.proofs.Reasons.{declaration_keeps, reasons_always}
use Rattle.vlm_model.proofs.Refusals.{node_departed}
use Rattle.vlm_model.proofs.WrittenBlocks.{departure_not_normal}
use Rattle.vlm_model.specs.Departing.{DepartedNodesAreToldSo, HasLeft, IsDeparture, IsStepOf, NoneLivesOnDepartedNodes}
use Rattle.vlm_model.proofs.LongerRuns.{all_answered, happened_before, happened_either, happened_now, refused_outcome}
use Rattle.vlm_model.specs.Withdrawals.{state_after_withdrawals, withdrawn_endings}
use Rattle.vlm_model.specs.Search.{search_change}

-- ---- what a step makes of the nodes

-- the node is one that has departed
abbrev HasGone : List Node → ℕ → Type 0
HasGone nodes node = (0 < node) × ((node_at nodes node).departed ≡ true)

-- a node that has declared more has departed as before
same_departed : (nodes : List Node) (place at declared : ℕ)
    → (get_or (set nodes place (record (get_or nodes place new_node) { declared = declared })) at new_node).departed ≡ (get_or nodes at new_node).departed
same_departed [] place at declared = refl
same_departed (x ∷ xs) zero zero declared = refl
same_departed (x ∷ xs) zero (suc at) declared = refl
same_departed (x ∷ xs) (suc place) zero declared = refl
same_departed (x ∷ xs) (suc place) (suc at) declared = same_departed xs place at declared

-- where one node departs, those that have departed have done so
still_departed : (nodes : List Node) (place at : ℕ) → (get_or nodes at new_node).departed ≡ true
    → (get_or (set nodes place (record (get_or nodes place new_node) { departed = true })) at new_node).departed ≡ true
still_departed [] place at is = is
still_departed (x ∷ xs) zero zero is = refl
still_departed (x ∷ xs) zero (suc at) is = is
still_departed (x ∷ xs) (suc place) zero is = is
still_departed (x ∷ xs) (suc place) (suc at) is = still_departed xs place at is

-- where one node departs, another has departed only if it had
departed_before : (nodes : List Node) (node other : ℕ) → is_node node ≡ true → other ≢ node
    → HasGone (nodes_after_departure nodes node) other → HasGone nodes other
departed_before nodes node other of_node differs gone =
    let first : 1 ≤ node = first_node node of_node in (
      gone.0,
      subst (λ (n : Node). n.departed ≡ true)
          (get_or-set_other nodes (node - 1) (other - 1) (record (node_at nodes node) { departed = true }) new_node
          (λ same. differs (omega (arith, same, first, gone.0)))) gone.1,
    )
  where
    first_node : (n : ℕ) → is_node n ≡ true → 1 ≤ n
    first_node n is = grind (arith, nat_tests, is)

-- only the accepted departure of a node makes it one that has departed, and none comes back
record Departs (before after : List Node) (step : Step) (answer : Answer) : Type 0 where
  kept : (node : ℕ) → HasGone before node → HasGone after node
  left : (node : ℕ) → IsDeparture node step answer → HasGone after node
  only : (node : ℕ) → HasGone after node → HasGone before node ⊎ IsDeparture node step answer

-- no node departs
none_departs : (before after : List Node) (step : Step) (answer : Answer) → ((node : ℕ) → HasGone after node → HasGone before node)
    → ((node : ℕ) → HasGone before node → HasGone after node) → ((node : ℕ) → IsDeparture node step answer → ⊥) → Departs before after step answer
none_departs before after step answer back kept other = record {
  kept = kept;
  left = λ node is. absurd (other node is);
  only = λ node gone. inl (back node gone);
}

-- an accepted departure is that of a node
leaver_is_node : (s : State) (node : ℕ) → leave_refusal s node ≡ None → is_node node ≡ true
unfolding leave_refusal
leaver_is_node s node passed = of_tests (is_node node) (has_departed s.nodes node) refl passed
  where
    of_tests : (a b : Bool) → is_node node ≡ a → cond (not a) (Some Badparam) (cond b (Some Departed) None) ≡ None → is_node node ≡ true
    of_tests true b is passed = is
    of_tests false b is passed = cc

-- a departure
departure_departs : (s : State) (node : ℕ) → length s.nodes ≡ 8 → is_node node ≡ true
    → Departs s.nodes (nodes_after_departure s.nodes node) (Leave node) (Plain Normal)
departure_departs s node eight of_node =
    let bounds : (1 ≤ node) × (node ≤ 8) = within node of_node in
    let gone : Node = record (node_at s.nodes node) { departed = true } in
    let own : node_at (nodes_after_departure s.nodes node) node ≡ gone =
    get_or-set_same s.nodes (node - 1) gone new_node (omega (arith, bounds.0, bounds.1, eight)) in
    record {
      kept = λ other is. (is.0, still_departed s.nodes (node - 1) (other - 1) is.1);
      left = λ other is.
          let same : node ≡ other = same_leaver node other is.0 in
          subst (HasGone (nodes_after_departure s.nodes node)) same (omega (arith, bounds.0), ap (λ (n : Node). n.departed) own);
      only = λ other is. of_test other (other == node) refl is;
    }
  where
    within : (n : ℕ) → is_node n ≡ true → (1 ≤ n) × (n ≤ 8)
    within n is = (grind (arith, nat_tests, is), grind (arith, nat_tests, is))

    same_leaver : (a b : ℕ) → Leave a ≡ Leave b → a ≡ b
    same_leaver a b is = cc

    of_test : (other : ℕ) (b : Bool) → (other == node) ≡ b → HasGone (nodes_after_departure s.nodes node) other
        → HasGone s.nodes other ⊎ IsDeparture other (Leave node) (Plain Normal)
    of_test other true same is = inr (ap Leave (sym (eqb-true other node same)), refl)
    of_test other false same is = inl (departed_before s.nodes node other of_node (eqb-false other node same) is)

-- a step that no check refuses
made_departs : (s : State) (step : Step) (choice : Option LockState) → length s.nodes ≡ 8 → step_refusal s step ≡ None
    → Departs s.nodes (stepped_after_sweep (step_change s step choice)).state.nodes step (step_change s step choice).answer
unfolding declare_change set_change take_change enq_change convert_change deq_change search_change state_after_rundown
made_departs s (Declare d) choice eight passed =
    let same : (node : ℕ) → (node_at (declare_change s d).nodes node).departed ≡ (node_at s.nodes node).departed =
    λ node. same_departed s.nodes (d.node - 1) (node - 1) ((node_at s.nodes d.node).declared + 1) in
    none_departs s.nodes (declare_change s d).nodes (Declare d) _ (λ node is. (is.0, sym (same node) ∙ is.1))
    (λ node is. (is.0, same node ∙ is.1)) (λ node is. cc)
made_departs s (SetValue v) choice eight passed =
    none_departs s.nodes s.nodes (SetValue v) _ (λ node is. is) (λ node is. is) (λ node is. cc)
made_departs s (Enq e) choice eight passed =
    none_departs s.nodes s.nodes (Enq e) _ (λ node is. is) (λ node is. is) (λ node is. cc)
made_departs s (Convert c) choice eight passed =
    let admitted = admission_of s c passed in
    subst (λ (a : Option ConversionAdmission). Departs s.nodes
    (stepped_after_sweep (conversion_change s c a)).state.nodes (Convert c) (conversion_change s c a).answer)
    (sym admitted.1) (none_departs s.nodes s.nodes (Convert c) _ (λ node is. is) (λ node is. is) (λ node is. cc))
made_departs s (Deq d) choice eight passed =
    none_departs s.nodes s.nodes (Deq d) _ (λ node is. is) (λ node is. is) (λ node is. cc)
made_departs s (Rundown pid) choice eight passed =
    none_departs s.nodes s.nodes (Rundown pid) _ (λ node is. is) (λ node is. is) (λ node is. cc)
made_departs s (Leave node) choice eight passed = departure_departs s node eight (leaver_is_node s node passed)
made_departs s (Search node) choice eight passed =
    none_departs s.nodes s.nodes (Search node) _ (λ node is. is) (λ node is. is) (λ node is. cc)
made_departs s (Take pid) choice eight passed =
    none_departs s.nodes s.nodes (Take pid) _ (λ node is. is) (λ node is. is) (λ node is. cc)

-- a refused step
refused_departs : (s : State) (step : Step) (refusal : Cond) → step_refusal s step ≡ Some refusal → Departs s.nodes s.nodes step (Plain refusal)
refused_departs s step refusal is =
    none_departs s.nodes s.nodes step (Plain refusal) (λ node gone. gone) (λ node gone. gone)
    (λ node departure.
    departure_not_normal s node refusal (ap (step_refusal s) (sym departure.0) ∙ is) (same_refusal refusal Normal departure.1))
  where
    same_refusal : (a b : Cond) → Plain a ≡ Plain b → a ≡ b
    same_refusal a b same = cc

-- a step, with its refusal
step_departs : (s : State) (step : Step) (choice : Option LockState) → length s.nodes ≡ 8 → (refusal : Option Cond) → step_refusal s step ≡ refusal
    → Departs s.nodes (refused_or refusal s (step_change s step choice)).state.nodes step (refused_or refusal s (step_change s step choice)).answer
step_departs s step choice eight None passed = made_departs s step choice eight passed
step_departs s step choice eight (Some refusal) is = refused_departs s step refusal is

-- an outcome
outcome_departs : (s t : State) (step : Step) (answer : Answer) → length s.nodes ≡ 8 → Outcome s step t answer → Departs s.nodes t.nodes step answer
outcome_departs s t step answer eight (inl made) =
    subst (λ (after : State). Departs s.nodes after.nodes step answer) (sym made.state)
    (subst (Departs s.nodes (stepped s step made.choice).state.nodes step) (sym made.answered)
    (step_departs s step made.choice eight (step_refusal s step) refl))
outcome_departs s t step answer eight (inr short) =
    subst (λ (after : State). Departs s.nodes after.nodes step answer) (sym short.state)
    (subst (Departs s.nodes s.nodes step) (sym short.answered)
    (none_departs s.nodes s.nodes step (Plain Insfmem) (λ node gone. gone) (λ node gone. gone) (λ node departure. let is = departure.1 in cc)))

-- ---- what happened, and which nodes have departed

-- the nodes that have departed are those whose departure was accepted
record IsFollowed (history : History) (s : State) : Type 0 where
  gone : (node : ℕ) → HasLeft node history.steps history.answers → HasGone s.nodes node
  only : (node : ℕ) → HasGone s.nodes node → HasLeft node history.steps history.answers

-- none has departed at the start
none_gone : (many at : ℕ) → (get_or (replicate many new_node) at new_node).departed ≡ false
none_gone zero at = refl
none_gone (suc many) zero = refl
none_gone (suc many) (suc at) = none_gone many at

none_at_start : (node : ℕ) → HasGone start.nodes node → ⊥
none_at_start node gone =
    let is : (node_at start.nodes node).departed ≡ true = gone.1 in
    true≢false (sym is ∙ none_gone 8 (node - 1))

-- after every run it is so
followed_always : (history : History) (last : State) → Run history last → IsFollowed history last
followed_always _ _ begin = record {
  gone = λ node left. absurd left;
  only = λ node gone. absurd (none_at_start node gone);
}
followed_always _ last (next {history} {old} {new} {step} {answer} run outcome) =
    let before : IsFollowed history old = followed_always history old run in
    let long : length history.answers ≡ length history.steps = all_answered history old run in
    let departs_so : Departs old.nodes new.nodes step answer =
    outcome_departs old new step answer (given_always history old run).eight outcome in
    record {
      gone = λ node left.
          elim (happened_either (IsDeparture node) history.steps history.answers step answer long left) [
            | inl earlier ↦ departs_so.kept node (before.gone node earlier)
            | inr now ↦ departs_so.left node now
          ];
      only = λ node gone.
          elim (departs_so.only node gone) [
            | inl earlier ↦ happened_before (IsDeparture node) history.steps history.answers step answer (before.only node earlier)
            | inr now ↦ happened_now (IsDeparture node) history.steps history.answers step answer long now
          ];
    }

-- ---- what a departed node is told

-- the test of a node that has departed
gone_is : (s : State) (node : ℕ) → HasGone s.nodes node → has_departed s.nodes node ≡ true
gone_is s node gone = of_test (has_departed s.nodes node) refl
  where
    of_test : (b : Bool) → has_departed s.nodes node ≡ b → b ≡ true
    of_test true is = refl
    of_test false is = absurd (node_departed s node is gone)

-- only a node has departed
gone_within : (nodes : List Node) (at : ℕ) → (get_or nodes at new_node).departed ≡ true → at < length nodes
gone_within [] at is = cc
gone_within (x ∷ xs) zero is = omega arith
gone_within (x ∷ xs) (suc at) is = omega (arith, gone_within xs at is)

gone_is_node : (s : State) (node : ℕ) → length s.nodes ≡ 8 → HasGone s.nodes node → is_node node ≡ true
gone_is_node s node eight gone =
    let within : node - 1 < length s.nodes = gone_within s.nodes (node - 1) gone.1 in
    named (omega (arith, gone.0)) (omega (arith, within, eight))
  where
    named : 1 ≤ node → node ≤ 8 → is_node node ≡ true
    named first last = grind (arith, nat_tests)

-- a caller of such a node
told_caller : (s : State) (pid : ℕ) → HasGone s.nodes (pid / 65536) → caller_refusal s pid ≡ Some Departed
unfolding caller_refusal
told_caller s pid gone =
    ap (λ (b : Bool). cond b (Some Departed) (cond (is_some (process_of s.processes pid)) None (Some Nonexpr))) (gone_is s (pid / 65536) gone)

-- so the first of its checks refuses
told_first : (s : State) (pid : ℕ) (later : Option Cond) → HasGone s.nodes (pid / 65536) → or_else (caller_refusal s pid) later ≡ Some Departed
told_first s pid later gone = ap (λ (first : Option Cond). or_else first later) (told_caller s pid gone)

-- the checks of a step of such a node
told_by_checks : (s : State) (node : ℕ) → length s.nodes ≡ 8 → HasGone s.nodes node → (step : Step) → IsStepOf node step
    → step_refusal s step ≡ Some Departed
unfolding declare_refusal set_refusal enq_refusal convert_refusal deq_refusal leave_refusal
told_by_checks s node eight gone (Declare d) of_node =
    let here : HasGone s.nodes d.node = subst (HasGone s.nodes) (sym of_node) gone in
    rw (gone_is_node s d.node eight here, gone_is s d.node here) refl
told_by_checks s node eight gone (SetValue v) of_node = told_first s v.pid _ (subst (HasGone s.nodes) (sym of_node) gone)
told_by_checks s node eight gone (Enq e) of_node = told_first s e.pid _ (subst (HasGone s.nodes) (sym of_node) gone)
told_by_checks s node eight gone (Convert c) of_node = told_first s c.pid _ (subst (HasGone s.nodes) (sym of_node) gone)
told_by_checks s node eight gone (Deq d) of_node = told_first s d.pid _ (subst (HasGone s.nodes) (sym of_node) gone)
told_by_checks s node eight gone (Rundown pid) of_node = told_caller s pid (subst (HasGone s.nodes) (sym of_node) gone)
told_by_checks s node eight gone (Leave other) of_node =
    let here : HasGone s.nodes other = subst (HasGone s.nodes) (sym of_node) gone in
    rw (gone_is_node s other eight here, gone_is s other here) refl
told_by_checks s node eight gone (Search other) of_node =
    let here : HasGone s.nodes other = subst (HasGone s.nodes) (sym of_node) gone in
    rw (gone_is_node s other eight here, gone_is s other here) refl
told_by_checks s node eight gone (Take pid) of_node = told_caller s pid (subst (HasGone s.nodes) (sym of_node) gone)

-- which node breaks the rule of DEPARTED
broken_by : (s : State) (step : Step) → Breaks s step Departed → (node : ℕ) × IsStepOf node step × HasGone s.nodes node
broken_by s (Declare d) broken = (d.node, refl, broken)
broken_by s (SetValue v) broken = (v.pid / 65536, refl, broken)
broken_by s (Enq e) broken = (e.pid / 65536, refl, broken)
broken_by s (Convert c) broken = (c.pid / 65536, refl, broken)
broken_by s (Deq d) broken = (d.pid / 65536, refl, broken)
broken_by s (Rundown pid) broken = (pid / 65536, refl, broken)
broken_by s (Leave node) broken = (node, refl, broken)
broken_by s (Search node) broken = (node, refl, broken)
broken_by s (Take pid) broken = (pid / 65536, refl, broken)

-- no accepted step is answered DEPARTED
accepted_otherwise : (step : Step) (AtOnce : Type 0) → IsAcceptance step AtOnce (Plain Departed) → ⊥
accepted_otherwise (Declare d) AtOnce is = is
accepted_otherwise (SetValue v) AtOnce is = is
accepted_otherwise (Enq e) AtOnce is = is
accepted_otherwise (Convert c) AtOnce is = is
accepted_otherwise (Deq d) AtOnce is = is
accepted_otherwise (Rundown pid) AtOnce is = is
accepted_otherwise (Leave node) AtOnce is = is
accepted_otherwise (Search node) AtOnce is = is
accepted_otherwise (Take pid) AtOnce is = is

-- who is answered DEPARTED is of a node that has departed
told_is_gone : (history : History) (last : State) → Run history last → (step : Step) (new : State) → Outcome last step new (Plain Departed)
    → (node : ℕ) × IsStepOf node step × HasGone last.nodes node
told_is_gone history last run step new (inr short) = let answered = short.answered in cc
told_is_gone history last run step new (inl made) =
    elim (reasons_always history last run step made.choice made.chosen) [
      | inl accepted ↦ absurd (accepted_otherwise step _ (subst (IsAcceptance step _) (sym made.answered) accepted.answered))
      | inr refusal ↦ broken_by last step
          (subst (Breaks last step) (same_refusal refusal.told Departed (sym refusal.answered
          ∙ sym made.answered)) refusal.breaks)
    ]
  where
    same_refusal : (a b : Cond) → Plain a ≡ Plain b → a ≡ b
    same_refusal a b same = cc

-- after every run a departed node is told so, and no other
pub told_always : (history : History) (last : State) → Run history last → DepartedNodesAreToldSo history last
told_always history last run =
    let followed : IsFollowed history last = followed_always history last run in
    record {
      departed = λ node. (followed.only node, followed.gone node);
      told = λ node left step of_node new answer outcome.
          refused_outcome Departed last new step answer
          (told_by_checks last node (given_always history last run).eight (followed.gone node left) step of_node) outcome;
      only = λ step new outcome.
          let gone = told_is_gone history last run step new outcome in
          (gone.0, gone.1, followed.only gone.0 gone.2);
    }

-- ---- who lives

-- the process is of no node that has departed
abbrev Stays : List Node → ℕ → Type 0
Stays nodes pid = HasGone nodes (pid / 65536) → ⊥

-- no living process is of one
abbrev AllStay : State → Type 0
AllStay s = AllByRecursion (Stays s.nodes) (pids s.processes)

-- where no node and no ID changes
same_stay : (s t : State) → t.nodes ≡ s.nodes → pids t.processes ≡ pids s.processes → AllStay s → AllStay t
same_stay s t nodes processes stay =
    subst (λ (all : List ℕ). AllByRecursion (Stays t.nodes) all) (sym processes)
    (subst (λ (all : List Node). AllByRecursion (Stays all) (pids s.processes)) (sym nodes) stay)

-- a sweep changes none
swept_stay : (s : State) → AllStay s → AllStay (state_after_sweep s)
swept_stay s stay = same_stay s (state_after_sweep s) refl (kept_swept (λ p. p.pid) (λ _ _ _. refl) s.processes s.resources) stay

-- a declaration adds a process of a node that has not departed
declared_stay : (s : State) (d : Declaration) → declare_refusal s d ≡ None → AllStay s → AllStay (declare_change s d)
unfolding declare_change
declared_stay s d passed stay =
    let has : HasOrdinal s d = ordinal_left s d passed in
    let upper : next_pid s d.node / 65536 ≡ d.node = omega (arith, has.left) in
    let as_before : (node : ℕ) → HasGone (declare_change s d).nodes node → HasGone s.nodes node =
    λ node gone. (gone.0, sym (same_departed s.nodes (d.node - 1) (node - 1) ((node_at s.nodes d.node).declared + 1)) ∙ gone.1) in
    subst (λ (all : List ℕ). AllByRecursion (Stays (declare_change s d).nodes) all) (sym (pids_added s.processes (declared_process s d)))
    (each_append (Stays (declare_change s d).nodes) (pids s.processes) (next_pid s d.node ∷ [])
    (each_weaker (Stays s.nodes) (Stays (declare_change s d).nodes) (λ pid stays gone. stays (as_before (pid / 65536) gone)) (pids s.processes) stay)
    (λ gone. declaration_keeps s d passed Departed (subst (HasGone s.nodes) upper (as_before (next_pid s d.node / 65536) gone)), tt))

-- those that are left where some end
left_stay : (is_one : ℕ → Bool) (nodes after : List Node) → ((pid : ℕ) → is_one pid ≡ false → Stays nodes pid → Stays after pid)
    → (processes : List Process) → AllByRecursion (Stays nodes) (pids processes) → AllByRecursion (Stays after) (pids (processes_but is_one processes))
left_stay is_one nodes after kept [] stay = tt
left_stay is_one nodes after kept (p ∷ rest) stay = of_test (is_one p.pid) refl (left_stay is_one nodes after kept rest stay.1)
  where
    of_test : (b : Bool) → is_one p.pid ≡ b → AllByRecursion (Stays after) (pids (processes_but is_one rest))
        → AllByRecursion (Stays after) (pids (cond (not b) (p ∷ processes_but is_one rest) (processes_but is_one rest)))
    of_test true is behind = behind
    of_test false is behind = (kept p.pid is stay.0, behind)

-- none of those is of the node that departs
still_stays : (s : State) (is_one : ℕ → Bool) (nodes : List Node) → EndsNow s is_one nodes → (pid : ℕ) → is_one pid ≡ false → Stays s.nodes pid
    → Stays nodes pid
still_stays s _ _ (run_down process passed) pid other stays = stays
still_stays s _ _ (departs node passed) pid other stays =
    λ gone. stays (departed_before s.nodes node (pid / 65536) (leaver_is_node s node passed) (eqb-false (pid / 65536) node other) gone)

ended_stay : (s : State) (is_one : ℕ → Bool) (nodes : List Node) → EndsNow s is_one nodes → AllStay s → AllStay (state_after_rundown is_one nodes s)
unfolding state_after_rundown
ended_stay s is_one nodes ends stay = left_stay is_one s.nodes nodes (still_stays s is_one nodes ends) s.processes stay

-- after every run no living process is of a node that has departed
stay_always : (history : History) (last : State) → Run history last → AllStay last
unfolding set_change take_change enq_change convert_change
stay_always =
    always (λ _ s. AllStay s) tt
    (λ history s _ stay.
    kept_by_stepped (λ _ t. AllStay t) history.endings s stay
    (λ d passed. swept_stay (declare_change s d) (declared_stay s d passed stay))
    (λ v _. swept_stay (set_change s v) (same_stay s (set_change s v) refl (kept_set (λ p. p.pid) (λ _ _. refl) v.pid v.block v.value v.tail s.processes) stay))
    (λ taker _. swept_stay (take_change s taker) (same_stay s (take_change s taker) refl (kept_taken (λ p. p.pid) (λ _ _. refl) taker s.processes) stay))
    (λ e _. swept_stay (enq_change s e) (same_stay s (enq_change s e) refl (kept_entered (λ p. p.pid) (λ _ _ _. refl) s e) stay))
    (λ c a _ _. swept_stay (convert_change s c a) (same_stay s (convert_change s c a) refl (kept_converted (λ p. p.pid) (λ _ _ _. refl) s c a) stay))
    (λ withdrawals _.
    let after : State = state_after_withdrawals withdrawals s in
    swept_stay after
    (same_stay s after refl (kept_ended (λ p. p.pid) (λ _ _ _. refl) (withdrawn_endings withdrawals s.resources)
    (blocks_with new_value_block s.processes)) stay))
    (λ is_one nodes ends. swept_stay (state_after_rundown is_one nodes s) (ended_stay s is_one nodes ends stay)))

-- so none is of this one
each_elsewhere : (nodes : List Node) (node : ℕ) → HasGone nodes node → (processes : List Process) → AllByRecursion (Stays nodes) (pids processes)
    → AllByRecursion (λ p. p.pid / 65536 ≢ node) processes
each_elsewhere nodes node gone [] stay = tt
each_elsewhere nodes node gone (p ∷ rest) stay = (
  λ same. stay.0 (subst (HasGone nodes) (sym same) gone),
  each_elsewhere nodes node gone rest stay.1,
)

pub none_lives_always : (history : History) (last : State) → Run history last → NoneLivesOnDepartedNodes history last
none_lives_always history last run node left =
    All-from_recursion (λ p. p.pid / 65536 ≢ node) last.processes
    (each_elsewhere last.nodes node ((followed_always history last run).gone node left) last.processes (stay_always history last run))
