-- What every step keeps holds after every run.
use Rattle.std.proofs.Common.{ℕ, Bool, ◌≡◌, inl, inr, List, [], ◌++◌, Option, None, Some, refl, sym, subst}
use Rattle.std.proofs.lemmas.List.{append-nil}
use Rattle.vlm_words.specs.declared.conditions.Cond.{Cond}
use Rattle.vlm_words.specs.declared.locks.LockState.{LockState}
use Rattle.vlm_words.specs.declared.conditions.Cond.TheVariants.{Normal}
use Rattle.vlm_words.specs.declared.steps.Answer.TheVariants.{Plain}
use Rattle.vlm_words.specs.declared.steps.Answer.{Answer}
use Rattle.vlm_words.specs.declared.steps.Conversion.{Conversion}
use Rattle.vlm_words.specs.declared.steps.Declaration.{Declaration}
use Rattle.vlm_words.specs.declared.steps.Dequeue.{Dequeue}
use Rattle.vlm_words.specs.declared.steps.NewRequest.{NewRequest}
use Rattle.vlm_words.specs.declared.steps.Step.TheVariants.{Declare, SetValue, Enq, Convert, Deq, Rundown, Leave, Search, Take}
use Rattle.vlm_words.specs.declared.steps.Step.{Step}
use Rattle.vlm_words.specs.declared.steps.ValueSetting.{ValueSetting}
use Rattle.vlm_words.specs.State.{Node, State, start}
use Rattle.vlm_model.specs.Endings.{Ending}
use Rattle.vlm_model.specs.Declare.{declare_refusal}
use Rattle.vlm_model.specs.SetValue.{set_refusal}
use Rattle.vlm_model.specs.Take.{take_refusal}
use Rattle.vlm_model.specs.Enqueue.{enq_refusal}
use Rattle.vlm_model.specs.Convert.{ConversionAdmission, convert_admission, convert_refusal}
use Rattle.vlm_model.specs.Dequeue.{deq_change, deq_refusal, withdrawals_of}
use Rattle.vlm_model.specs.Withdrawals.{Withdrawal, state_after_withdrawals, withdrawn_endings}
use Rattle.vlm_model.specs.Deadlocks.{IsVictim}
use Rattle.vlm_model.specs.Search.{search_change, search_refusal, victim_withdrawals}
use Rattle.vlm_model.specs.Rundown.{is_ended_by, leave_refusal, nodes_after_departure, rundown_refusal}
use Rattle.vlm_words.specs.Steps.{is_of_node}
use Rattle.vlm_model.specs.Stepped.{IsChoice, Outcome, end_of_processes, Stepped, conversion_change, outcome_endings}
use Rattle.vlm_model.specs.Stepped.{refused_or, step_change, step_refusal, stepped, stepped_after_sweep}
use Rattle.vlm_model.specs.Runs.{History, Run, begin, next}
use Rattle.vlm_model.specs.Asts.{completions_of}
use Rattle.vlm_model.proofs.PassedChecks.{admission_passes, some_admission}
use Rattle.vlm_model.proofs.Victims.{victim_of}

-- what is said of a run: of the requests that have ended, and of the state
abbrev pub Said : Type 1
Said = List Ending → State → Type 0

-- it holds after a step is made, with the requests that end in it
abbrev pub HoldsAfter : Said → List Ending → Stepped → Type 0
HoldsAfter P endings made = P (endings ++ made.endings) made.state

-- where nothing ends and nothing changes, what was said stays so
unchanged : (P : Said) (endings : List Ending) (s : State) → P endings s → P (endings ++ []) s
unchanged P endings s held = subst (λ (all : List Ending). P all s) (sym (append-nil endings)) held

-- what each made step keeps, each outcome keeps
kept_by_outcome : (P : Said) (endings : List Ending) (old new : State) (step : Step) (answer : Answer) → P endings old
    → ((choice : Option LockState) → IsChoice old step choice → HoldsAfter P endings (stepped old step choice))
    → (outcome : Outcome old step new answer) → P (endings ++ outcome_endings outcome) new
kept_by_outcome P endings old new step answer held made_so (inl made) =
    subst (P (endings ++ (stepped old step made.choice).endings)) (sym made.state) (made_so made.choice made.chosen)
kept_by_outcome P endings old new step answer held made_so (inr short) = subst (P (endings ++ [])) (sym short.state) (unchanged P endings old held)

-- what holds at the start and is kept by each step holds after every run
pub always : (P : Said) → P [] start
    → ((history : History) (s : State) → Run history s → P history.endings s
    → (step : Step) (choice : Option LockState) → IsChoice s step choice → HoldsAfter P history.endings (stepped s step choice))
    → (history : History) (last : State) → Run history last → P history.endings last
always P at_start kept _ _ begin = at_start
always P at_start kept _ last (next {history} {old} {new} {step} {answer} run outcome) =
    let held : P history.endings old = always P at_start kept history old run in
    kept_by_outcome P history.endings old new step answer held (kept history old run held step) outcome

-- a refusal keeps what was said, and a change that is swept keeps what it keeps
kept_by_refused_or : (P : Said) (endings : List Ending) (refusal : Option Cond) (old : State) (change : Stepped) → P endings old
    → (refusal ≡ None → HoldsAfter P endings (stepped_after_sweep change)) → HoldsAfter P endings (refused_or refusal old change)
kept_by_refused_or P endings None old change held kept = kept refl
kept_by_refused_or P endings (Some refusal) old change held kept = unchanged P endings old held

-- an accepted conversion is that of a lock that is granted
pub admission_of : (s : State) (c : Conversion) → convert_refusal s c ≡ None → (a : ConversionAdmission) × (convert_admission s c ≡ Some a)
admission_of s c passed = some_admission s c (convert_admission s c) (admission_passes s c passed)

-- some processes end: one that is run down, or those of a node that departs
pub data EndsNow (s : State) : (ℕ → Bool) → List Node → Type 0 where
  run_down : (pid : ℕ) → rundown_refusal s pid ≡ None → EndsNow s (is_ended_by pid) s.nodes
  departs : (node : ℕ) → leave_refusal s node ≡ None
      → EndsNow s (is_of_node node) (nodes_after_departure s.nodes node)

-- requests end, with their locks or without: those that a dequeue withdraws, or that of the victim of a search
pub data WithdrawsNow (s : State) : List Withdrawal → Type 0 where
  gives_up : (d : Dequeue) → deq_refusal s d ≡ None → WithdrawsNow s (withdrawals_of s d)
  ends_deadlock : (choice : Option LockState) → IsVictim s choice → WithdrawsNow s (victim_withdrawals choice)

-- these withdrawals, with what is answered
abbrev pub withdrawal_of_all : Answer → List Withdrawal → State → Stepped
withdrawal_of_all answer withdrawals s = record {
  state = state_after_withdrawals withdrawals s;
  answer = answer;
  endings = withdrawn_endings withdrawals s.resources;
  queued = completions_of (withdrawn_endings withdrawals s.resources);
}

-- what is kept where each kind of step is made, every step keeps
pub kept_by_stepped : (P : Said) (endings : List Ending) (s : State) → P endings s
    → ((d : Declaration) → declare_refusal s d ≡ None → HoldsAfter P endings (stepped_after_sweep (step_change s (Declare d) None)))
    → ((v : ValueSetting) → set_refusal s v ≡ None → HoldsAfter P endings (stepped_after_sweep (step_change s (SetValue v) None)))
    → ((pid : ℕ) → take_refusal s pid ≡ None → HoldsAfter P endings (stepped_after_sweep (step_change s (Take pid) None)))
    → ((e : NewRequest) → enq_refusal s e ≡ None → HoldsAfter P endings (stepped_after_sweep (step_change s (Enq e) None)))
    → ((c : Conversion) (a : ConversionAdmission) → convert_refusal s c ≡ None → convert_admission s c ≡ Some a
    → HoldsAfter P endings (stepped_after_sweep (conversion_change s c (Some a))))
    → ((withdrawals : List Withdrawal) → WithdrawsNow s withdrawals
    → HoldsAfter P endings (stepped_after_sweep (withdrawal_of_all (Plain Normal) withdrawals s)))
    → ((is_one : ℕ → Bool) (nodes : List Node) → EndsNow s is_one nodes → HoldsAfter P endings (stepped_after_sweep (end_of_processes is_one nodes s)))
    → (step : Step) (choice : Option LockState) → IsChoice s step choice → HoldsAfter P endings (stepped s step choice)
unfolding deq_change search_change
kept_by_stepped P endings s held declare set take enq convert withdraw end step choice chosen =
    kept_by_refused_or P endings (step_refusal s step) s (step_change s step choice) held (each_kind step chosen)
  where
    converts : (c : Conversion) → convert_refusal s c ≡ None → HoldsAfter P endings (stepped_after_sweep (step_change s (Convert c) choice))
    converts c passed =
        let admitted = admission_of s c passed in
        subst (λ (a : Option ConversionAdmission). HoldsAfter P endings (stepped_after_sweep (conversion_change s c a))) (sym admitted.1)
        (convert c admitted.0 passed admitted.1)

    each_kind : (kind : Step) → IsChoice s kind choice → step_refusal s kind ≡ None → HoldsAfter P endings (stepped_after_sweep (step_change s kind choice))
    each_kind (Declare d) chosen passed = declare d passed
    each_kind (SetValue v) chosen passed = set v passed
    each_kind (Enq e) chosen passed = enq e passed
    each_kind (Convert c) chosen passed = converts c passed
    each_kind (Deq d) chosen passed = withdraw (withdrawals_of s d) (gives_up d passed)
    each_kind (Rundown pid) chosen passed = end (is_ended_by pid) s.nodes (run_down pid passed)
    each_kind (Leave node) chosen passed = end (is_of_node node) (nodes_after_departure s.nodes node) (departs node passed)
    each_kind (Search node) chosen passed =
        withdraw (victim_withdrawals choice) (ends_deadlock choice (victim_of s choice (search_refusal s node) passed chosen))
    each_kind (Take pid) chosen passed = take pid passed
