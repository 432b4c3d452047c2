-- What was queued was taken, is pending, or went with its process.
use Rattle.std.proofs.Common.{◌≡◌, ◌≢◌, ◌++◌, ℕ, Bool, true, false, List, [], ◌∷◌, map, cond, length, length-append}
use Rattle.std.proofs.Common.{Option, None, Some, inl, inr, append_assoc, refl, sym, subst, ap, ◌∙◌, arith}
use Rattle.std.specs.Prelude.{◌==◌, is_some}
use Rattle.std.specs.List.{AllByRecursion}
use Rattle.std.proofs.lemmas.Bool.{eqb-true}
use Rattle.std.proofs.lemmas.List.{append-nil}
use Rattle.std.proofs.lemmas.List.Elements.{recursion_from_All}
use Rattle.vlm_words.specs.declared.asts.Ast.{Ast}
use Rattle.vlm_words.specs.declared.conditions.Cond.{Cond}
use Rattle.vlm_words.specs.declared.conditions.Cond.TheVariants.{Insfmem, Normal}
use Rattle.vlm_words.specs.declared.locks.LockState.{LockState}
use Rattle.vlm_words.specs.declared.steps.Answer.TheVariants.{Process as process_answer, Lock, Plain, Taken, Victim}
use Rattle.vlm_words.specs.declared.steps.Answer.{Answer}
use Rattle.vlm_words.specs.declared.steps.Declaration.{Declaration}
use Rattle.vlm_words.specs.declared.steps.Step.TheVariants.{Declare, SetValue, Enq, Convert, Deq, Rundown, Leave, Search, Take}
use Rattle.vlm_words.specs.declared.steps.Step.{Step}
use Rattle.vlm_words.specs.State.{Node, Process, State, process_of}
use Rattle.vlm_words.specs.ValueBlocks.{new_value_block}
use Rattle.vlm_model.specs.Effects.{blocks_with}
use Rattle.vlm_model.specs.Endings.{Ending}
use Rattle.vlm_model.specs.Asts.{Queued, asts_of}
use Rattle.vlm_words.specs.Processes.{oldest}
use Rattle.vlm_model.specs.Sweeps.{processes_after_service, sweep_asts}
use Rattle.vlm_model.specs.Declare.{declare_change, declared_process}
use Rattle.vlm_model.specs.SetValue.{set_change}
use Rattle.vlm_model.specs.Take.{take_change}
use Rattle.vlm_model.specs.Convert.{ConversionAdmission}
use Rattle.vlm_model.specs.Dequeue.{deq_change, deq_endings, withdrawals_of}
use Rattle.vlm_model.specs.Rundown.{is_ended_by, nodes_after_departure}
use Rattle.vlm_words.specs.Steps.{is_of_node}
use Rattle.vlm_model.specs.Taking.{AstsAfter, AstsAfterTake, AstsAreTakenInOrder, AstsLeft, queued_to}
use Rattle.vlm_model.specs.Stepped.{IsChoice, Outcome, Stepped, conversion_change, end_of_processes, outcome_endings}
use Rattle.vlm_model.specs.Stepped.{outcome_queued, refused_or, step_change, step_refusal, stepped, stepped_after_sweep}
use Rattle.vlm_model.specs.Runs.{History, Run, begin, history_after, next}
use Rattle.vlm_model.proofs.Always.{admission_of}
use Rattle.vlm_model.proofs.Declarations.{IsGiven, given_always}
use Rattle.vlm_model.proofs.Each.{each_append, each_at, each_weaker}
use Rattle.vlm_model.proofs.ProcessEnds.{swept_living}
use Rattle.vlm_model.proofs.Processes.{kept_converted, kept_ended, kept_entered, kept_set, kept_taken}
use Rattle.vlm_model.proofs.AstQueueing.{asts_are, queued_to-append, sweep_queues}
use Rattle.vlm_model.proofs.WhoseLocks.{owning}
use Rattle.vlm_model.specs.Accounting.{IsTakenButFor, WhatIsQueuedIsTakenOrPending, taken_by, taken_in}
use Rattle.vlm_model.proofs.Living.{GivesAnew, lived_before, lives, named, new_has_none, no, no_asts, no_quota}
use Rattle.vlm_model.proofs.Living.{none_given_refused, step_gives, swept_still, who}
use Rattle.vlm_model.proofs.Strangers.{none_withdrawn, NoneOf, none_converted, none_ended, none_owned, none_requested, none_swept}
use Rattle.vlm_model.specs.Search.{victim_withdrawals, search_change, search_endings}

-- ---- what a step does

-- who does not live after the step is answered no AST; to who did not live before it none is queued, and none is
-- answered, and it has none after
record IsAccountedForOthers (s t : State) (step : Step) (answer : Answer) (queued : List Queued) : Type 0 where
  gone : (pid : ℕ) → lives t.processes pid ≡ false → taken_in pid step answer ≡ []
  others : (pid : ℕ) → lives s.processes pid ≡ false → queued_to pid queued ≡ []
  untaken : (pid : ℕ) → lives s.processes pid ≡ false → taken_in pid step answer ≡ []
  asts : (pid : ℕ) → lives s.processes pid ≡ false → asts_of t.processes pid ≡ []

-- and of each process that lives before the step and after it, the ASTs before, and behind them what the step queues
-- to it, are what the step answers it, and behind that those after the step
record IsAccountedStep (s t : State) (step : Step) (answer : Answer) (queued : List Queued) : Type 0 where
  living : (pid : ℕ) → lives s.processes pid ≡ true → lives t.processes pid ≡ true
      → asts_of s.processes pid ++ queued_to pid queued ≡ taken_in pid step answer ++ asts_of t.processes pid
  rest : IsAccountedForOthers s t step answer queued
  gives : GivesAnew s t answer

-- what a step leaves, behind what it takes, is what was there
pub taken_and_left : (step : Step) (answer : Answer) (pid : ℕ) (before left : List Ast) → AstsLeft step answer pid before left
    → before ≡ taken_in pid step answer ++ left
taken_and_left (Declare d) answer pid before left is = sym is
taken_and_left (SetValue v) answer pid before left is = sym is
taken_and_left (Enq e) answer pid before left is = sym is
taken_and_left (Convert c) answer pid before left is = sym is
taken_and_left (Deq d) answer pid before left is = sym is
taken_and_left (Rundown process) answer pid before left is = sym is
taken_and_left (Leave node) answer pid before left is = sym is
taken_and_left (Search node) answer pid before left is = sym is
taken_and_left (Take process) (process_answer made) pid before left is = sym is
taken_and_left (Take process) (Lock cond lkid) pid before left is = sym is
taken_and_left (Take process) (Victim lkid) pid before left is = sym is
taken_and_left (Take process) (Plain cond) pid before left is = sym is
taken_and_left (Take process) (Taken None) pid before left is = of_test (process == pid) is
  where
    of_test : (b : Bool) → AstsAfterTake b None before left → before ≡ left
    of_test true none = none.0 ∙ sym none.1
    of_test false same = sym same
taken_and_left (Take process) (Taken (Some ast)) pid before left is = of_test (process == pid) is
  where
    of_test : (b : Bool) → AstsAfterTake b (Some ast) before left → before ≡ cond b (ast ∷ []) [] ++ left
    of_test true first = first
    of_test false same = sym same

-- a refusal answers no AST
none_refused : (pid : ℕ) (step : Step) (refusal : Cond) → taken_in pid step (Plain refusal) ≡ []
none_refused pid (Declare d) refusal = refl
none_refused pid (SetValue v) refusal = refl
none_refused pid (Enq e) refusal = refl
none_refused pid (Convert c) refusal = refl
none_refused pid (Deq d) refusal = refl
none_refused pid (Rundown process) refusal = refl
none_refused pid (Leave node) refusal = refl
none_refused pid (Search node) refusal = refl
none_refused pid (Take process) refusal = refl

-- nor does a take of a process that has none
none_taken : (pid process : ℕ) (processes : List Process) → asts_of processes pid ≡ []
    → taken_in pid (Take process) (Taken (oldest (asts_of processes process))) ≡ []
none_taken pid process processes none = of_test (process == pid) refl
  where
    of_oldest : (o : Option Ast) → (process == pid) ≡ false → taken_in pid (Take process) (Taken o) ≡ []
    of_oldest None other = refl
    of_oldest (Some ast) other = ap (λ (b : Bool). cond b (ast ∷ []) []) other

    of_test : (b : Bool) → (process == pid) ≡ b → taken_in pid (Take process) (Taken (oldest (asts_of processes process))) ≡ []
    of_test true same =
        ap (λ (asts : List Ast). taken_in pid (Take process) (Taken (oldest asts))) (ap (asts_of processes) (eqb-true process pid same) ∙ none)
    of_test false other = of_oldest (oldest (asts_of processes process)) other

-- what a change and its sweep queue to a process to which the change queues none, and which has no lock then
change_queues_none : (pid : ℕ) (change : Stepped) → NoneOf pid change.queued change.state.resources
    → queued_to pid (stepped_after_sweep change).queued ≡ []
change_queues_none pid change none =
    queued_to-append pid change.queued (sweep_asts change.state.resources)
    ∙ ap (λ (asts : List Ast). asts ++ queued_to pid (sweep_asts change.state.resources)) none.queued
    ∙ none_swept pid change.state.resources none.locks

-- a change that keeps the IDs, and its sweep
swept_for_others : (s : State) (step : Step) (change : Stepped) → map named change.state.processes ≡ map named s.processes
    → ((pid : ℕ) → lives s.processes pid ≡ false → NoneOf pid change.queued change.state.resources)
    → ((pid : ℕ) → lives s.processes pid ≡ false → taken_in pid step change.answer ≡ [])
    → IsAccountedForOthers s (stepped_after_sweep change).state step change.answer (stepped_after_sweep change).queued
swept_for_others s step change same none untaken = record {
  gone = λ pid out. untaken pid (sym (swept_still s change same pid) ∙ out);
  others = λ pid out. change_queues_none pid change (none pid out);
  untaken = untaken;
  asts = λ pid out. no_asts (stepped_after_sweep change).state.processes pid (swept_still s change same pid ∙ out);
}

-- a declaration
declared_for_others : (s : State) (d : Declaration) (choice : Option LockState)
    → ((pid : ℕ) → lives s.processes pid ≡ false → owning pid s.resources ≡ 0)
    → IsAccountedForOthers s (stepped_after_sweep (step_change s (Declare d) choice)).state (Declare d) (step_change s (Declare d) choice).answer
    (stepped_after_sweep (step_change s (Declare d) choice)).queued
unfolding declare_change
declared_for_others s d choice none = record {
  gone = λ pid out. refl;
  others = λ pid out. none_swept pid s.resources (none pid out);
  untaken = λ pid out. refl;
  asts = λ pid out. of_lives pid out (lives (s.processes ++ declared_process s d ∷ []) pid) refl;
}
  where
    of_lives : (pid : ℕ) → lives s.processes pid ≡ false → (b : Bool) → lives (s.processes ++ declared_process s d ∷ []) pid ≡ b
        → asts_of (processes_after_service (s.processes ++ declared_process s d ∷ []) s.resources) pid ≡ []
    of_lives pid out true is =
        (sweep_queues (s.processes ++ declared_process s d ∷ []) s.resources).asts pid is
        ∙ ap (λ (asts : List Ast). asts ++ queued_to pid (sweep_asts s.resources)) (new_has_none s.processes (declared_process s d) pid refl out)
        ∙ none_swept pid s.resources (none pid out)
    of_lives pid out false none_there =
        no_asts (processes_after_service (s.processes ++ declared_process s d ∷ []) s.resources) pid
        (swept_living (s.processes ++ declared_process s d ∷ []) s.resources pid ∙ none_there)

-- the end of processes
ended_for_others : (s : State) (step : Step) (is_one : ℕ → Bool) (nodes : List Node)
    → ((pid : ℕ) → lives s.processes pid ≡ false → owning pid s.resources ≡ 0)
    → ((pid : ℕ) → taken_in pid step (Plain Normal) ≡ [])
    → IsAccountedForOthers s (stepped_after_sweep (end_of_processes is_one nodes s)).state step (Plain Normal)
    (stepped_after_sweep (end_of_processes is_one nodes s)).queued
ended_for_others s step is_one nodes none untaken = record {
  gone = λ pid out. untaken pid;
  others = λ pid out. change_queues_none pid (end_of_processes is_one nodes s) (none_ended s is_one nodes pid (none pid out));
  untaken = λ pid out. untaken pid;
  asts = λ pid out. no_asts after pid (of_lives pid out (lives after pid) refl);
}
  where
    after : List Process
    after = (stepped_after_sweep (end_of_processes is_one nodes s)).state.processes

    of_lives : (pid : ℕ) → lives s.processes pid ≡ false → (b : Bool) → lives after pid ≡ b → lives after pid ≡ false
    of_lives pid out true is = no (sym (lived_before is_one nodes s pid is) ∙ out)
    of_lives pid out false is = is

-- a step that no check refuses
made_for_others : (s : State) (step : Step) (choice : Option LockState) → ((pid : ℕ) → lives s.processes pid ≡ false → owning pid s.resources ≡ 0)
    → step_refusal s step ≡ None
    → IsAccountedForOthers s (stepped_after_sweep (step_change s step choice)).state step (step_change s step choice).answer
    (stepped_after_sweep (step_change s step choice)).queued
unfolding set_change take_change deq_change search_change
made_for_others s (Declare d) choice none passed = declared_for_others s d choice none
made_for_others s (SetValue v) choice none passed =
    swept_for_others s (SetValue v) (step_change s (SetValue v) choice) (kept_set named (λ _ _. refl) v.pid v.block v.value v.tail s.processes)
    (λ pid out. record { queued = refl; locks = none pid out }) (λ pid out. refl)
made_for_others s (Enq e) choice none passed =
    swept_for_others s (Enq e) (step_change s (Enq e) choice) (kept_entered named (λ _ _ _. refl) s e)
    (λ pid out. none_requested s e pid passed (no_quota s.processes pid out) (none pid out)) (λ pid out. refl)
made_for_others s (Convert c) choice none passed =
    let admitted = admission_of s c passed in
    subst (λ (a : Option ConversionAdmission).
    IsAccountedForOthers s (stepped_after_sweep (conversion_change s c a)).state (Convert c) (conversion_change s c a).answer
    (stepped_after_sweep (conversion_change s c a)).queued) (sym admitted.1)
    (swept_for_others s (Convert c) (conversion_change s c (Some admitted.0)) (kept_converted named (λ _ _ _. refl) s c admitted.0)
    (λ pid out. none_converted s c admitted.0 pid admitted.1 (none pid out)) (λ pid out. refl))
made_for_others s (Deq d) choice none passed =
    swept_for_others s (Deq d) (step_change s (Deq d) choice) (kept_ended named (λ _ _ _. refl) (deq_endings s d) (blocks_with new_value_block s.processes))
    (λ pid out. none_withdrawn s (withdrawals_of s d) pid (none pid out)) (λ pid out. refl)
made_for_others s (Rundown process) choice none passed = ended_for_others s (Rundown process) (is_ended_by process) s.nodes none (λ pid. refl)
made_for_others s (Leave node) choice none passed =
    ended_for_others s (Leave node) (is_of_node node) (nodes_after_departure s.nodes node) none (λ pid. refl)
made_for_others s (Search node) choice none passed =
    swept_for_others s (Search node) (step_change s (Search node) choice)
    (kept_ended named (λ _ _ _. refl) (search_endings s choice) (blocks_with new_value_block s.processes))
    (λ pid out. none_withdrawn s (victim_withdrawals choice) pid (none pid out)) (λ pid out. refl)
made_for_others s (Take process) choice none passed =
    swept_for_others s (Take process) (step_change s (Take process) choice) (kept_taken named (λ _ _. refl) process s.processes)
    (λ pid out. record { queued = refl; locks = none pid out })
    (λ pid out. none_taken pid process s.processes (no_asts s.processes pid out))

-- a step that changes nothing and queues nothing
refused_for_others : (s : State) (step : Step) (refusal : Cond) → IsAccountedForOthers s s step (Plain refusal) []
refused_for_others s step refusal = record {
  gone = λ pid out. none_refused pid step refusal;
  others = λ pid out. refl;
  untaken = λ pid out. none_refused pid step refusal;
  asts = λ pid out. no_asts s.processes pid out;
}

-- a step, with its refusal
step_for_others : (s : State) (step : Step) (choice : Option LockState) → ((pid : ℕ) → lives s.processes pid ≡ false → owning pid s.resources ≡ 0)
    → (refusal : Option Cond) → step_refusal s step ≡ refusal
    → IsAccountedForOthers s (refused_or refusal s (step_change s step choice)).state step (refused_or refusal s (step_change s step choice)).answer
    (refused_or refusal s (step_change s step choice)).queued
step_for_others s step choice none None passed = made_for_others s step choice none passed
step_for_others s step choice none (Some refusal) is = refused_for_others s step refusal

-- with the ASTs of those who lived, all is accounted for
all_accounted : (s t : State) (step : Step) (answer : Answer) (queued : List Queued)
    → ((pid : ℕ) (before after : Process) → process_of s.processes pid ≡ Some before → process_of t.processes pid ≡ Some after
    → AstsAfter step answer queued pid before.asts after.asts)
    → IsAccountedForOthers s t step answer queued → GivesAnew s t answer → IsAccountedStep s t step answer queued
all_accounted s t step answer queued in_order out gives = record {
  living = λ pid lived living.
      let before = who (process_of s.processes pid) lived in
      let after = who (process_of t.processes pid) living in
      let order : AstsAfter step answer queued pid before.0.asts after.0.asts = in_order pid before.0 after.0 before.1 after.1 in
      ap (λ (asts : List Ast). asts ++ queued_to pid queued)
      (asts_are s.processes pid before.0 before.1 ∙ taken_and_left step answer pid before.0.asts order.left order.taken)
      ∙ append_assoc (taken_in pid step answer) order.left (queued_to pid queued)
      ∙ ap (λ (asts : List Ast). taken_in pid step answer ++ asts) (sym order.behind ∙ sym (asts_are t.processes pid after.0 after.1));
  rest = out;
  gives = gives;
}

-- where nothing is changed and nothing is queued, all is accounted for
unchanged_accounted : (s : State) (step : Step) (refusal : Cond) → IsAccountedStep s s step (Plain refusal) []
unchanged_accounted s step refusal = record {
  living = λ pid lived living.
      append-nil (asts_of s.processes pid)
      ∙ ap (λ (asts : List Ast). asts ++ asts_of s.processes pid) (sym (none_refused pid step refusal));
  rest = refused_for_others s step refusal;
  gives = none_given_refused s refusal;
}

-- that takes answer in the order of queueing, after every run
abbrev pub TakesInOrder : Type 0
TakesInOrder =
    (history : History) (old : State) → Run history old → (step : Step) (choice : Option LockState)
    → IsChoice old step choice → AstsAreTakenInOrder old step choice

-- after every run a step is accounted for, but for the ASTs of those who lived
others_accounted : (history : History) (old : State) → Run history old → (step : Step) (choice : Option LockState)
    → IsAccountedForOthers old (stepped old step choice).state step (stepped old step choice).answer (stepped old step choice).queued
others_accounted history old run step choice =
    step_for_others old step choice (λ pid out. none_owned history old run pid (no_quota old.processes pid out)) (step_refusal old step) refl

-- an outcome
outcome_accounted : TakesInOrder → (history : History) (old new : State) (step : Step) (answer : Answer) → Run history old
    → (outcome : Outcome old step new answer) → IsAccountedStep old new step answer (outcome_queued outcome)
outcome_accounted in_order history old new step answer run (inl made) =
    let X : Stepped = stepped old step made.choice in
    subst (λ (t : State). IsAccountedStep old t step answer X.queued) (sym made.state)
    (subst (λ (a : Answer). IsAccountedStep old X.state step a X.queued) (sym made.answered)
    (all_accounted old X.state step X.answer X.queued (in_order history old run step made.choice made.chosen).asts
    (others_accounted history old run step made.choice)
    (step_gives old step made.choice (given_always history old run) (step_refusal old step) refl)))
outcome_accounted in_order history old new step answer run (inr short) =
    subst (λ (t : State). IsAccountedStep old t step answer []) (sym short.state)
    (subst (λ (a : Answer). IsAccountedStep old old step a []) (sym short.answered) (unchanged_accounted old step Insfmem))

-- ---- runs

-- what the takes of the process answered, with one step more
taken_more : (pid : ℕ) (steps : List Step) (answers : List Answer) (step : Step) (answer : Answer) → length answers ≡ length steps
    → taken_by pid (steps ++ step ∷ []) (answers ++ answer ∷ []) ≡ taken_by pid steps answers ++ taken_in pid step answer
taken_more pid [] [] step answer long = append-nil (taken_in pid step answer)
taken_more pid [] (a ∷ answers) step answer long = absurd (omega (arith, long))
taken_more pid (x ∷ steps) [] step answer long = absurd (omega (arith, long))
taken_more pid (x ∷ steps) (a ∷ answers) step answer long =
    ap (λ (asts : List Ast). taken_in pid x a ++ asts) (taken_more pid steps answers step answer (omega (arith, long)))
    ∙ sym (append_assoc (taken_in pid x a) (taken_by pid steps answers) (taken_in pid step answer))

-- the answer is of no declaration that gives this ID
abbrev IsOfAnother : ℕ → Answer → Type 0
IsOfAnother pid answer = answer ≢ process_answer pid

-- the answer gives no ID but one that is given
abbrev AnswersGiven : List Node → Answer → Type 0
AnswersGiven nodes answer = (pid : ℕ) → answer ≡ process_answer pid → IsGiven nodes pid

-- to a process that was never declared nothing was queued, it took nothing, and it does not live
record HasNothing (pid : ℕ) (history : History) (s : State) : Type 0 where
  queued : queued_to pid history.queued ≡ []
  taken : taken_by pid history.steps history.answers ≡ []
  out : lives s.processes pid ≡ false

-- all that happened is accounted for
record IsAccounted (history : History) (s : State) : Type 0 where
  long : length history.answers ≡ length history.steps
  given : AllByRecursion (AnswersGiven s.nodes) history.answers
  living : (pid : ℕ) → lives s.processes pid ≡ true
      → queued_to pid history.queued ≡ taken_by pid history.steps history.answers ++ asts_of s.processes pid
  ended : (pid : ℕ) → lives s.processes pid ≡ false
      → IsTakenButFor (queued_to pid history.queued) (taken_by pid history.steps history.answers)
  undeclared : (pid : ℕ) → AllByRecursion (IsOfAnother pid) history.answers → HasNothing pid history s

-- what holds of each of two lists, of the first
pub each_first : {X : Type 0} (P : X → Type 0) (xs ys : List X) → AllByRecursion P (xs ++ ys) → AllByRecursion P xs
each_first P [] ys each = tt
each_first P (x ∷ xs) ys each = (each.0, each_first P xs ys each.1)

-- one step more, with what it queues
module _ (history : History) (s t : State) (step : Step) (answer : Answer) (endings : List Ending) (queued : List Queued)
    (all : IsAccounted history s) (one : IsAccountedStep s t step answer queued) where
  abbrev after : History
  after = history_after history step answer endings queued

  abbrev before : List Ast → ℕ → List Ast
  before asts pid = taken_by pid history.steps history.answers ++ asts

  -- what was queued to a process of which this is what was not taken before
  queued_more : (pid : ℕ) (left : List Ast) → queued_to pid history.queued ≡ before left pid
      → queued_to pid after.queued ≡ before (left ++ queued_to pid queued) pid
  queued_more pid left is =
      queued_to-append pid history.queued queued
      ∙ ap (λ (asts : List Ast). asts ++ queued_to pid queued) is
      ∙ append_assoc (taken_by pid history.steps history.answers) left (queued_to pid queued)

  -- and what it has taken
  taken_with : (pid : ℕ) (left : List Ast)
      → before (taken_in pid step answer ++ left) pid ≡ taken_by pid after.steps after.answers ++ left
  taken_with pid left =
      sym (append_assoc (taken_by pid history.steps history.answers) (taken_in pid step answer) left)
      ∙ ap (λ (asts : List Ast). asts ++ left) (sym (taken_more pid history.steps history.answers step answer all.long))

  -- a process that lived before
  lived_on : (pid : ℕ) → lives s.processes pid ≡ true → lives t.processes pid ≡ true
      → queued_to pid after.queued ≡ taken_by pid after.steps after.answers ++ asts_of t.processes pid
  lived_on pid lived is =
      queued_more pid (asts_of s.processes pid) (all.living pid lived)
      ∙ ap (λ (asts : List Ast). before asts pid) (one.living pid lived is)
      ∙ taken_with pid (asts_of t.processes pid)

  -- a process that was never declared, not by this step either, or whom this step declares
  nothing_yet : (pid : ℕ) → HasNothing pid history s
      → (queued_to pid after.queued ≡ []) × (taken_by pid after.steps after.answers ≡ [])
  nothing_yet pid none = (
    queued_to-append pid history.queued queued
        ∙ ap (λ (asts : List Ast). asts ++ queued_to pid queued) none.queued ∙ one.rest.others pid none.out,
    taken_more pid history.steps history.answers step answer all.long
        ∙ ap (λ (asts : List Ast). asts ++ taken_in pid step answer) none.taken ∙ one.rest.untaken pid none.out,
  )

  -- a process that did not live before
  declared_now : (pid : ℕ) → lives s.processes pid ≡ false → lives t.processes pid ≡ true
      → queued_to pid after.queued ≡ taken_by pid after.steps after.answers ++ asts_of t.processes pid
  declared_now pid out is =
      let fresh : IsGiven s.nodes pid → ⊥ = (one.gives.new pid out is).1 in
      let none : HasNothing pid history s =
      all.undeclared pid (each_weaker (AnswersGiven s.nodes) (IsOfAnother pid) (λ a given same. fresh (given pid same)) history.answers all.given) in
      let nothing = nothing_yet pid none in
      nothing.0 ∙ sym (ap (λ (asts : List Ast). asts ++ asts_of t.processes pid) nothing.1 ∙ one.rest.asts pid out)

  -- a process that does not live any more, or still not
  gone_with : (pid : ℕ) → lives t.processes pid ≡ false → (left : List Ast) → queued_to pid history.queued ≡ before left pid
      → IsTakenButFor (queued_to pid after.queued) (taken_by pid after.steps after.answers)
  gone_with pid out left is = record {
    lost = left ++ queued_to pid queued;
    all =
        queued_more pid left is
        ∙ ap (λ (asts : List Ast). before (asts ++ (left ++ queued_to pid queued)) pid) (sym (one.rest.gone pid out))
        ∙ taken_with pid (left ++ queued_to pid queued);
  }

  more_accounted : IsAccounted after t
  more_accounted = record {
    long = omega (arith, all.long, length-append history.answers (answer ∷ []), length-append history.steps (step ∷ []));
    given =
        each_append (AnswersGiven t.nodes) history.answers (answer ∷ [])
        (each_weaker (AnswersGiven s.nodes) (AnswersGiven t.nodes) (λ a given pid same. one.gives.kept pid (given pid same)) history.answers all.given)
        (one.gives.given, tt);
    living = λ pid is. of_lived pid is (lives s.processes pid) refl;
    ended = λ pid out. of_lives pid out (lives s.processes pid) refl;
    undeclared = λ pid never.
        let none : HasNothing pid history s = all.undeclared pid (each_first (IsOfAnother pid) history.answers (answer ∷ []) never) in
        let nothing = nothing_yet pid none in
        record {
          queued = nothing.0;
          taken = nothing.1;
          out = still_out pid none.out (each_at (IsOfAnother pid) history.answers answer [] never) (lives t.processes pid) refl;
        };
  }
    where
      of_lived : (pid : ℕ) → lives t.processes pid ≡ true → (b : Bool) → lives s.processes pid ≡ b
          → queued_to pid after.queued ≡ taken_by pid after.steps after.answers ++ asts_of t.processes pid
      of_lived pid is true lived = lived_on pid lived is
      of_lived pid is false out = declared_now pid out is

      of_lives : (pid : ℕ) → lives t.processes pid ≡ false → (b : Bool) → lives s.processes pid ≡ b
          → IsTakenButFor (queued_to pid after.queued) (taken_by pid after.steps after.answers)
      of_lives pid out true lived = gone_with pid out (asts_of s.processes pid) (all.living pid lived)
      of_lives pid out false before_out =
          let some : IsTakenButFor (queued_to pid history.queued) (taken_by pid history.steps history.answers) = all.ended pid before_out in
          gone_with pid out some.lost some.all

      still_out : (pid : ℕ) → lives s.processes pid ≡ false → IsOfAnother pid answer → (b : Bool) → lives t.processes pid ≡ b
          → lives t.processes pid ≡ false
      still_out pid out other true is = absurd (other (one.gives.new pid out is).0)
      still_out pid out other false is = is

accounted_always : TakesInOrder → (history : History) (last : State) → Run history last → IsAccounted history last
accounted_always in_order _ _ begin = record {
  long = refl;
  given = tt;
  living = λ pid is. refl;
  ended = λ pid out. record { lost = []; all = refl };
  undeclared = λ pid never. record { queued = refl; taken = refl; out = refl };
}
accounted_always in_order _ last (next {history} {old} {new} {step} {answer} run outcome) =
    more_accounted history old new step answer (outcome_endings outcome) (outcome_queued outcome)
    (accounted_always in_order history old run) (outcome_accounted in_order history old new step answer run outcome)

-- after every run
pub taken_or_pending_always : TakesInOrder → (history : History) (last : State) → Run history last → WhatIsQueuedIsTakenOrPending history last
taken_or_pending_always in_order history last run =
    let all : IsAccounted history last = accounted_always in_order history last run in
    record {
      living = λ pid p is.
          all.living pid (ap (λ (o : Option Process). is_some o) is)
          ∙ ap (λ (asts : List Ast). taken_by pid history.steps history.answers ++ asts) (asts_are last.processes pid p is);
      ended = λ pid out. all.ended pid (ap (λ (o : Option Process). is_some o) out);
      no_more = λ pid out step choice chosen.
          (others_accounted history last run step choice).others pid (ap (λ (o : Option Process). is_some o) out);
      undeclared = λ pid never. (all.undeclared pid (recursion_from_All (IsOfAnother pid) history.answers never)).queued;
    }
