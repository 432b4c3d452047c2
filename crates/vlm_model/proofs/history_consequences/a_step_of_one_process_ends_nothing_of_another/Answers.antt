use Rattle.std.proofs.Common.{◌≢◌, ℕ, Option, arith}
use Rattle.vlm_words.specs.declared.locks.LockState.{LockState}
use Rattle.vlm_words.specs.declared.steps.Step.TheVariants.{Declare, SetValue, Enq, Convert, Deq, Rundown, Leave, Search, Take}
use Rattle.vlm_words.specs.declared.steps.Step.{Step}
use Rattle.vlm_model.specs.EndedProcesses.{IsStepOfProcess}
use Rattle.vlm_model.specs.Owners.{IsConcerned}
use Rattle.vlm_model.proofs.history_consequences.a_step_of_one_process_ends_nothing_of_another.Goals as goal

-- a step of one process concerns no other
concerns_one : (step : Step) (choice : Option LockState) (pid other : ℕ) → IsStepOfProcess pid step → other ≢ pid
    → IsConcerned step choice other → ⊥
concerns_one (Declare d) choice pid other own differ concerned = concerned
concerns_one (SetValue v) choice pid other own differ concerned = omega arith
concerns_one (Enq e) choice pid other own differ concerned = omega arith
concerns_one (Convert c) choice pid other own differ concerned = omega arith
concerns_one (Deq d) choice pid other own differ concerned = omega arith
concerns_one (Rundown process) choice pid other own differ concerned = omega arith
concerns_one (Leave node) choice pid other own differ concerned = own
concerns_one (Search node) choice pid other own differ concerned = own
concerns_one (Take process) choice pid other own differ concerned = omega arith

pub returns-clause-locks : goal.returns-clause-locks
returns-clause-locks c = λ old step choice pid other lkid law own differ fewer.
    omega (arith, law.locks other lkid (concerns_one step choice pid other own differ))
