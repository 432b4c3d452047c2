use Rattle.std.proofs.Common.{◌≡◌, ℕ, None, true, cond, refl, sym, ap, ◌∙◌}
use Rattle.std.specs.Prelude.{◌==◌}
use Rattle.vlm_words.specs.declared.conditions.Cond.TheVariants.{Normal}
use Rattle.vlm_words.specs.declared.steps.Answer.TheVariants.{Plain}
use Rattle.vlm_words.specs.declared.steps.Dequeue.{Dequeue}
use Rattle.vlm_words.specs.declared.steps.Step.TheVariants.{Deq}
use Rattle.vlm_model.specs.Checks.{lock_refusal}
use Rattle.vlm_model.specs.Dequeue.{deq_refusal, dequeue_lkid}
use Rattle.vlm_words.specs.Flags.{deqall, has_flag}
use Rattle.vlm_model.specs.Sweeps.{state_after_sweep}
use Rattle.vlm_machine.specs.declared.dequeues.CheckedDequeue.{CheckedDequeue}
use Rattle.vlm_machine.specs.Admissions.{IsCheckedDequeue}
use Rattle.vlm_machine.specs.Machine.{MachineState, plain_state}
use Rattle.vlm_machine.proofs.Admitting.{cancels_nothing, later_of_all}
use Rattle.vlm_machine.proofs.ChangedAndSwept.{made_refused, made_swept}
use Rattle.vlm_machine.proofs.records.Machine.deq_all.Goals as goal

-- what such a dequeue is refused for, by what it named
refused_for : (m : MachineState) (d : Dequeue) (c : CheckedDequeue) → IsCheckedDequeue m d c → has_flag d.flags deqall ≡ true
    → deq_refusal (plain_state m) d ≡ cond (c.lkid == 0) None (lock_refusal (plain_state m) c.caller.pid c.lkid)
refused_for m d c checked all =
    let s = plain_state m in
    checked.later ∙ later_of_all s d all (cancels_nothing d all checked.fitting)
    ∙ ap (λ (pid : ℕ). cond (dequeue_lkid s d == 0) None (lock_refusal s pid (dequeue_lkid s d))) (sym checked.pid)
    ∙ ap (λ (lkid : ℕ). cond (lkid == 0) None (lock_refusal s c.caller.pid lkid)) (sym checked.lkid)

pub returns-in-Ok-clause-outcome : goal.returns-in-Ok-clause-outcome
returns-in-Ok-clause-outcome c d checked all =
    let s = plain_state c.args.self.now in
    let refused = refused_for c.args.self.now d c.args.checked.now checked all in
    made_swept s (plain_state c.sweep_touched.new.self) (Deq d) (Plain Normal) refl (c.in-Ok.ensures.refusal ∙ sym refused)
    (c.sweep_touched.ensures.swept ∙ ap state_after_sweep (c.deq_all_change.ensures.change d checked all)) refl

pub returns-in-Err-clause-outcome : goal.returns-in-Err-clause-outcome
returns-in-Err-clause-outcome c d checked all =
    let s = plain_state c.args.self.now in
    let refused = refused_for c.args.self.now d c.args.checked.now checked all in
    made_refused s (Deq d) c.in-Err.refusal refl (refused ∙ sym c.in-Err.ensures.refusal)
