-- One step of the plain machine, and the outcomes of a step.
use Rattle.std.specs.Prelude.{◌≡◌, ◌⊎◌, ⊤, ℕ, Bool, List, [], ◌++◌, Option, None, Some, IsSome}
use Rattle.std.proofs.Common.{inl, inr}
use Rattle.vlm_words.specs.declared.conditions.Cond.TheVariants.{Normal, Badparam, Insfmem}
use Rattle.vlm_words.specs.declared.conditions.Cond.{Cond}
use Rattle.vlm_words.specs.declared.locks.LockState.{LockState}
use Rattle.vlm_words.specs.declared.steps.Answer.TheVariants.{Process as process_answer, Lock, Plain, Taken, Victim}
use Rattle.vlm_words.specs.declared.steps.Answer.{Answer}
use Rattle.vlm_words.specs.declared.steps.Conversion.{Conversion}
use Rattle.vlm_words.specs.declared.steps.Step.TheVariants.{Declare, SetValue, Enq, Convert, Deq, Rundown, Leave, Search, Take}
use Rattle.vlm_words.specs.declared.steps.Step.{Step}
use Rattle.vlm_words.specs.State.{Node, State}
use Rattle.vlm_model.specs.Endings.{Ending}
use Rattle.vlm_model.specs.Asts.{Queued, completions_of}
use Rattle.vlm_model.specs.Sweeps.{state_after_sweep, sweep_asts, sweep_endings}
use Rattle.vlm_model.specs.Checks.{acceptance}
use Rattle.vlm_model.specs.Declare.{declare_change, declare_refusal, next_pid}
use Rattle.vlm_model.specs.SetValue.{set_change, set_refusal}
use Rattle.vlm_model.specs.Take.{take_change, take_refusal, taken_ast}
use Rattle.vlm_model.specs.Enqueue.{enq_at_once, enq_change, enq_endings, enq_refusal}
use Rattle.vlm_model.specs.Convert.{ConversionAdmission, conversion_endings, convert_admission, convert_change, convert_lkid, convert_refusal}
use Rattle.vlm_model.specs.Dequeue.{deq_change, deq_endings, deq_refusal}
use Rattle.vlm_model.specs.Search.{IsSearchedFor, search_change, search_endings, search_refusal, victim_lkid}
use Rattle.vlm_model.specs.Rundown.{is_ended_by, leave_refusal, nodes_after_departure, rundown_endings, rundown_refusal, state_after_rundown}
use Rattle.vlm_words.specs.Steps.{is_of_node}

-- the result of a step: the new state, the answer, the endings, and the queued ASTs
pub record Stepped : Type 0 where
  pub state : State
  pub answer : Answer
  pub endings : List Ending
  pub queued : List Queued

-- a refusal changes nothing
abbrev pub refused : State → Cond → Stepped
refused s refusal = record { state = s; answer = Plain refusal; endings = []; queued = [] }

-- the change of a conversion; without an admission a check has already refused the step
abbrev pub conversion_change : State → Conversion → Option ConversionAdmission → Stepped
conversion_change s c None = refused s Badparam
conversion_change s c (Some a) = record {
  state = convert_change s c a;
  answer = Lock (acceptance c.flags a.at_once) (convert_lkid s c);
  endings = conversion_endings a;
  queued = completions_of (conversion_endings a);
}

-- the end of these processes
abbrev pub end_of_processes : (ℕ → Bool) → List Node → State → Stepped
end_of_processes is_one nodes s = record {
  state = state_after_rundown is_one nodes s;
  answer = Plain Normal;
  endings = rundown_endings is_one s;
  queued = completions_of (rundown_endings is_one s);
}

-- the refusal of a step by its checks, if there is one
abbrev pub step_refusal : State → Step → Option Cond
step_refusal s (Declare d) = declare_refusal s d
step_refusal s (SetValue v) = set_refusal s v
step_refusal s (Enq e) = enq_refusal s e
step_refusal s (Convert c) = convert_refusal s c
step_refusal s (Deq d) = deq_refusal s d
step_refusal s (Rundown pid) = rundown_refusal s pid
step_refusal s (Leave node) = leave_refusal s node
step_refusal s (Search node) = search_refusal s node
step_refusal s (Take pid) = take_refusal s pid

-- the choice of a step: a search chooses its victim, no other step chooses
abbrev pub IsChoice : State → Step → Option LockState → Type 0
IsChoice s (Search node) choice = IsSearchedFor (search_refusal s node) s choice
IsChoice s step choice = choice ≡ None

-- the change of a step that no check refuses, before its sweep, with its own endings and their completions
abbrev pub step_change : State → Step → Option LockState → Stepped
step_change s (Declare d) choice = record {
  state = declare_change s d;
  answer = process_answer (next_pid s d.node);
  endings = [];
  queued = [];
}
step_change s (SetValue v) choice = record {
  state = set_change s v;
  answer = Plain Normal;
  endings = [];
  queued = [];
}
step_change s (Enq e) choice = record {
  state = enq_change s e;
  answer = Lock (acceptance e.flags (enq_at_once s e)) s.next_lkid;
  endings = enq_endings s e;
  queued = completions_of (enq_endings s e);
}
step_change s (Convert c) choice = conversion_change s c (convert_admission s c)
step_change s (Deq d) choice = record {
  state = deq_change s d;
  answer = Plain Normal;
  endings = deq_endings s d;
  queued = completions_of (deq_endings s d);
}
step_change s (Rundown pid) choice = end_of_processes (is_ended_by pid) s.nodes s
step_change s (Leave node) choice =
    end_of_processes (is_of_node node) (nodes_after_departure s.nodes node) s
step_change s (Search node) choice = record {
  state = search_change s choice;
  answer = Victim (victim_lkid choice);
  endings = search_endings s choice;
  queued = completions_of (search_endings s choice);
}
step_change s (Take pid) choice = record {
  state = take_change s pid;
  answer = Taken (taken_ast s pid);
  endings = [];
  queued = [];
}

-- the sweep after a change
abbrev pub stepped_after_sweep : Stepped → Stepped
stepped_after_sweep change = record {
  state = state_after_sweep change.state;
  answer = change.answer;
  endings = change.endings ++ sweep_endings change.state.resources;
  queued = change.queued ++ sweep_asts change.state.resources;
}

-- the refusal, or the change and its sweep
abbrev pub refused_or : Option Cond → State → Stepped → Stepped
refused_or None s change = stepped_after_sweep change
refused_or (Some refusal) s change = refused s refusal

-- a step of the plain machine: the checks in order, then the change, then the sweep
abbrev pub stepped : State → Step → Option LockState → Stepped
stepped s step choice = refused_or (step_refusal s step) s (step_change s step choice)

-- the conversion names a routine, so it may need memory for an AST
abbrev pub NamesRoutine : Conversion → Type 0
NamesRoutine c = IsSome c.ast ⊎ IsSome c.bast

-- the kinds of step that may need memory
abbrev pub MayWantMemory : Step → Type 0
MayWantMemory (Declare d) = ⊤
MayWantMemory (SetValue v) = ⊥
MayWantMemory (Enq e) = ⊤
MayWantMemory (Convert c) = NamesRoutine c
MayWantMemory (Deq d) = ⊥
MayWantMemory (Rundown pid) = ⊥
MayWantMemory (Leave node) = ⊥
MayWantMemory (Search node) = ⊥
MayWantMemory (Take pid) = ⊥

-- the step is made, with some choice
pub record IsMade (old : State) (step : Step) (new : State) (answer : Answer) : Type 0 where
  pub choice : Option LockState
  pub chosen : IsChoice old step choice
  pub state : new ≡ (stepped old step choice).state
  pub answered : answer ≡ (stepped old step choice).answer

-- no check refuses the step, but memory is refused, and nothing changes
pub record IsShortOfMemory (old : State) (step : Step) (new : State) (answer : Answer) : Type 0 where
  pub may : MayWantMemory step
  pub accepted : step_refusal old step ≡ None
  pub state : new ≡ old
  pub answered : answer ≡ Plain Insfmem

-- the outcomes of a step: it is made, or memory is refused
abbrev pub Outcome : State → Step → State → Answer → Type 0
Outcome old step new answer = IsMade old step new answer ⊎ IsShortOfMemory old step new answer

-- the endings of an outcome
abbrev pub outcome_endings : {old : State} {step : Step} {new : State} {answer : Answer} → Outcome old step new answer
    → List Ending
outcome_endings {old} {step} (inl made) = (stepped old step made.choice).endings
outcome_endings (inr short) = []

-- the ASTs that an outcome queues
abbrev pub outcome_queued : {old : State} {step : Step} {new : State} {answer : Answer} → Outcome old step new answer
    → List Queued
outcome_queued {old} {step} (inl made) = (stepped old step made.choice).queued
outcome_queued (inr short) = []
