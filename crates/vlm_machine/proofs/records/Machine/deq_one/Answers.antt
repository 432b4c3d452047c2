use Rattle.std.proofs.Common.{rules, ◌≡◌, ℕ, false, refl, sym, ap, ◌∙◌}
use Rattle.vlm_words.specs.declared.conditions.Cond.TheVariants.{Normal}
use Rattle.vlm_words.specs.declared.steps.Answer.TheVariants.{Plain}
use Rattle.vlm_words.specs.declared.steps.Dequeue.{Dequeue}
use Rattle.vlm_words.specs.declared.steps.Step.TheVariants.{Deq}
use Rattle.vlm_model.specs.Checks.{lock_refusal, or_else}
use Rattle.vlm_model.specs.Dequeue.{deq_refusal, dequeue_lkid}
use Rattle.vlm_words.specs.Flags.{deqall, has_flag}
use Rattle.vlm_model.specs.Sweeps.{state_after_sweep}
use Rattle.vlm_machine.specs.declared.dequeues.CheckedDequeue.{CheckedDequeue}
use Rattle.vlm_machine.specs.Admissions.{IsAdmittedDequeue, IsCheckedDequeue, refusal_alone}
use Rattle.vlm_machine.specs.Machine.{MachineState, plain_state}
use Rattle.vlm_machine.proofs.Admitting.{later_alone}
use Rattle.vlm_machine.proofs.ChangedAndSwept.{made_refused, made_swept}
use Rattle.vlm_machine.proofs.NothingToSweep.{stable_but}
use Rattle.vlm_machine.proofs.records.Machine.deq_one.Goals as goal

-- what such a dequeue is refused for, by what it named
refused_for : (m : MachineState) (d : Dequeue) (c : CheckedDequeue) → IsCheckedDequeue m d c → has_flag d.flags deqall ≡ false
    → deq_refusal (plain_state m) d ≡ or_else (lock_refusal (plain_state m) c.caller.pid c.lkid) (refusal_alone (plain_state m) d)
refused_for m d c checked alone =
    let s = plain_state m in
    checked.later ∙ later_alone s d alone
    ∙ ap (λ (pid : ℕ). or_else (lock_refusal s pid (dequeue_lkid s d)) (refusal_alone s d)) (sym checked.pid)
    ∙ ap (λ (lkid : ℕ). or_else (lock_refusal s c.caller.pid lkid) (refusal_alone s d)) (sym checked.lkid)

pub deq_change-requires-clause-childless : goal.deq_change-requires-clause-childless
deq_change-requires-clause-childless c = c.in-Ok-check_alone.ensures.childless c.args.dequeue.now c.requires.checked.flags

-- only the resource of the lock may be swept
pub sweep-requires-clause-stable : goal.sweep-requires-clause-stable
sweep-requires-clause-stable c =
    stable_but c.args.self.now.records c.deq_change.new.self.records c.located-located.result.res c.requires.between.stable c.deq_change.ensures.others

pub returns-in-Err : goal.returns-in-Err
returns-in-Err c =
    let s = plain_state c.args.self.now in
    let refused = refused_for c.args.self.now c.args.dequeue.now c.args.checked.now c.requires.checked c.requires.alone in
    made_refused s (Deq c.args.dequeue.now) c.in-Err.refusal refl (refused
    ∙ ap (λ o. or_else o (refusal_alone s c.args.dequeue.now)) (sym c.in-Err.ensures.refusal))

pub returns-in-Err-check_alone : goal.returns-in-Err-check_alone
returns-in-Err-check_alone c =
    let admitted : IsAdmittedDequeue c.args.self.now c.args.dequeue.now c.located-located.result = search rules in
    let s = plain_state c.args.self.now in
    let refused = refused_for c.args.self.now c.args.dequeue.now c.args.checked.now c.requires.checked c.requires.alone in
    made_refused s (Deq c.args.dequeue.now) c.in-Err-check_alone.refusal refl
    (refused ∙ ap (λ o. or_else o (refusal_alone s c.args.dequeue.now)) (sym c.in-Ok.ensures.refusal)
    ∙ sym (c.in-Err-check_alone.ensures.refusal c.args.dequeue.now c.requires.checked.flags admitted))

pub returns-in-Ok-check_alone : goal.returns-in-Ok-check_alone
returns-in-Ok-check_alone c =
    let admitted : IsAdmittedDequeue c.args.self.now c.args.dequeue.now c.located-located.result = search rules in
    let s = plain_state c.args.self.now in
    let refused = refused_for c.args.self.now c.args.dequeue.now c.args.checked.now c.requires.checked c.requires.alone in
    made_swept s (plain_state c.sweep.new.self) (Deq c.args.dequeue.now) (Plain Normal) refl
    (sym (refused ∙ ap (λ o. or_else o (refusal_alone s c.args.dequeue.now)) (sym c.in-Ok.ensures.refusal)
    ∙ sym (c.in-Ok-check_alone.ensures.refusal c.args.dequeue.now c.requires.checked.flags admitted)))
    (c.sweep.ensures ∙ ap state_after_sweep c.deq_change.ensures.change) refl
