-- A process that gives up all its locks and goes on, beside one that ends.
use Rattle.std.specs.Prelude.{◌≡◌, ℕ, true, false, None}
use Rattle.vlm_words.specs.declared.steps.Dequeue.{Dequeue}
use Rattle.vlm_words.specs.declared.steps.Step.TheVariants.{Deq, Rundown}
use Rattle.vlm_words.specs.declared.steps.Which.TheVariants.{Id}
use Rattle.vlm_words.specs.Flags.{cancel, deqall, has_flag, invvalblk}
use Rattle.vlm_words.specs.State.{State}
use Rattle.vlm_model.specs.Rundown.{is_ended_by, processes_but}
use Rattle.vlm_model.specs.Stepped.{stepped}

-- the dequeue is of all locks of its process, and marks value blocks invalid
pub record GivesUpAll (d : Dequeue) : Type 0 where
  pub lock : d.lock ≡ Id 0
  pub all : has_flag d.flags deqall ≡ true
  pub goes : has_flag d.flags cancel ≡ false
  pub invalidates : has_flag d.flags invvalblk ≡ true
  pub no_value : d.value ≡ None
  pub no_tail : d.tail ≡ None

-- the state without this process
abbrev pub state_but : ℕ → State → State
state_but pid s = record s { processes = processes_but (is_ended_by pid) s.processes }

-- without its process, the state after the dequeue is the state after a rundown
abbrev pub ChangesOthersAsARundown : State → Dequeue → Type 0
ChangesOthersAsARundown s d = state_but d.pid (stepped s (Deq d) None).state ≡ (stepped s (Rundown d.pid) None).state
