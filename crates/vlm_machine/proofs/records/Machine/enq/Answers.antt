use Rattle.std.proofs.Common.{◌≡◌, None, true, ap, sym, arith, ◌∙◌, refl, rules, subst}
use Rattle.vlm_store.specs.Plain.{plain_resources}
use Rattle.vlm_machine.specs.Machine.{MachineState, plain_state}
use Rattle.vlm_machine.specs.Notes.{total_locks_on}
use Rattle.vlm_machine.proofs.RoomToNote.{as_many_stored, room_after}
use Rattle.std.proofs.lemmas.Option.{same_Some}
use Rattle.vlm_words.specs.declared.locks.Request.{Request}
use Rattle.vlm_words.specs.declared.locks.LockState.{LockState}
use Rattle.vlm_words.specs.declared.steps.Answer.TheVariants.{Lock}
use Rattle.vlm_words.specs.declared.steps.Step.TheVariants.{Enq}
use Rattle.vlm_model.specs.Checks.{acceptance}
use Rattle.vlm_words.specs.Flags.{flag_bits}
use Rattle.vlm_model.specs.Enqueue.{enq_at_once, enq_change, enq_refusal, enq_request, enq_resource, enq_row, resources_after_entry}
use Rattle.std.specs.List.{AllByRecursion}
use Rattle.vlm_model.specs.Stable.{IsStable}
use Rattle.vlm_words.specs.State.{State}
use Rattle.vlm_model.specs.Trees.{enq_site}
use Rattle.vlm_model.specs.Sweeps.{state_after_sweep}
use Rattle.vlm_machine.proofs.ChangedAndSwept.{made_swept}
use Rattle.vlm_machine.proofs.Quiet.{all_quiet}
use Rattle.vlm_machine.proofs.NothingToSweep.{stable_but}
use Rattle.vlm_machine.proofs.records.Machine.enq.Goals as goal
use Rattle.vlm_locks.proofs.Rising.{none_loose}

pub enq_change-requires-clause-admitted : goal.enq_change-requires-clause-admitted
enq_change-requires-clause-admitted c = (c.args.request.now, c.new_lock-new_lock.ensures)

pub sweep_entered-requires-clause-stable : goal.sweep_entered-requires-clause-stable
sweep_entered-requires-clause-stable c =
    stable_but c.args.self.now.records c.enq_change.new.self.records c.in-Ok-enq_change.res c.requires.between.stable c.in-Ok-enq_change.ensures.others

pub sweep_entered-requires-clause-at_once : goal.sweep_entered-requires-clause-at_once
unfolding enq_change enq_resource
sweep_entered-requires-clause-at_once c at_once plain =
    let s = plain_state c.args.self.now in
    let e = c.args.request.now in
    let new_lock = c.new_lock-new_lock.result in
    let is = c.new_lock-new_lock.ensures.entered in
    let asked : new_lock.asked ≡ enq_request s e = same_Some new_lock.asked (enq_request s e) (ap (λ (row : LockState). row.want) is.row) in
    let now : enq_at_once s e ≡ true = sym is.at_once ∙ at_once in
    let all = all_quiet (enq_request s e) s.next_serial (enq_site s e) (enq_row s e) s.resources c.requires.between.stable now (rw asked at plain) in
    subst (λ (t : State). AllByRecursion IsStable t.resources) (sym (c.in-Ok-enq_change.ensures.change e c.new_lock-new_lock.ensures))
    (subst (λ now_at_once. AllByRecursion IsStable (resources_after_entry s.next_serial (enq_site s e) (enq_row s e) now_at_once s.resources)) (sym now) all)

pub returns-in-Ok-enq_change-clause-outcome : goal.returns-in-Ok-enq_change-clause-outcome
unfolding enq_change
returns-in-Ok-enq_change-clause-outcome c =
    let s = plain_state c.args.self.now in
    let e = c.args.request.now in
    let new_lock = c.new_lock-new_lock.result in
    let is = c.new_lock-new_lock.ensures.entered in
    let passed : None ≡ enq_refusal s e = search rules in
    let wants = ap (λ (row : LockState). row.want) is.row in
    let asked : new_lock.asked ≡ enq_request s e = same_Some new_lock.asked (enq_request s e) wants in
    made_swept s (plain_state c.sweep_entered.new.self) (Enq e) (Lock c.acceptance.result new_lock.lkid) refl passed
    (c.sweep_entered.ensures ∙ ap state_after_sweep (c.in-Ok-enq_change.ensures.change e c.new_lock-new_lock.ensures))
    (ap (λ answer. Lock answer new_lock.lkid) c.acceptance.ensures
    ∙ ap (λ (q : Request). Lock (acceptance (flag_bits q.flags) new_lock.at_once) new_lock.lkid) asked
    ∙ ap (λ at_once. Lock (acceptance e.flags at_once) new_lock.lkid) is.at_once
    ∙ ap (λ (row : LockState). Lock (acceptance e.flags (enq_at_once s e)) row.lkid) is.row)

-- room to note its resource was made before the lock entered
pub returns-in-Ok-enq_change-clause-notes : goal.returns-in-Ok-enq_change-clause-notes
returns-in-Ok-enq_change-clause-notes c =
    let stored = as_many_stored c.self.inside.store in
    let same : total_locks_on (plain_state c.args.self.now).resources ≡ total_locks_on (plain_resources c.self.inside.store) =
    ap (λ (m : MachineState). total_locks_on (plain_state m).resources) (sym c.self.view_is) in
    room_after c.args.self.now c.sweep_entered.new.self c.make_room_beyond.new.self (Enq c.args.request.now)
    (Lock c.acceptance.result c.new_lock-new_lock.result.lkid)
    (returns-in-Ok-enq_change-clause-outcome c) c.make_room_beyond.ensures.none
    (omega (arith, stored, same, c.in-Ok-make_room_beyond.ensures.room, c.lock_count.ensures (none_loose c.self.inside.store c.self.invariant.rest.rising)))
