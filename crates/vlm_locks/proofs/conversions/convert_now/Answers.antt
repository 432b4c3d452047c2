use Rattle.std.proofs.Common.{◌≡◌, ◌≤◌, ◌+◌, ℕ, true, IfSome, sym, ap, ◌∙◌, subst, refl}
use Rattle.vlm_words.specs.Dues.{due_to, row_due}
use Rattle.vlm_words.specs.Rows.{granted_row}
use Rattle.vlm_model.specs.Effects.{blocks_after, blocks_with}
use Rattle.vlm_model.specs.Grants.{grant_endings}
use Rattle.vlm_model.specs.StatusBlocks.{processes_after_acceptance}
use Rattle.vlm_store.specs.Plain.{plain_processes}
use Rattle.vlm_store.specs.Records.{IsSameLock, Records, due_of}
use Rattle.vlm_locks.specs.Converting.{IsConvertedAtOnce, processes_converting}
use Rattle.vlm_locks.specs.Owing.{due_for}
use Rattle.vlm_locks.specs.Rest.{OtherLocksStay}
use Rattle.vlm_locks.proofs.Converted.{granted_at_once, granted_without_value_block}
use Rattle.vlm_locks.proofs.FoundByHandle.{process_still, process_there}
use Rattle.vlm_locks.proofs.MovedForGrant.{due_still, found_moved, moved_as, others_still, owner_still, resource_still}
use Rattle.vlm_locks.proofs.OtherLocks.{block_alone, locks_stay_over}
use Rattle.vlm_locks.proofs.QueuedLocks.{stored}
use Rattle.vlm_locks.proofs.ReservedAsts.{notices_twice}
use Rattle.vlm_locks.proofs.ReservedByRequests.{due_valued}
use Rattle.vlm_locks.proofs.SoundRecords.{still_sound}
use Rattle.vlm_locks.proofs.conversions.convert_now.Goals as goal

pub move_lock-requires-clause-lock : goal.move_lock-requires-clause-lock
move_lock-requires-clause-lock c =
    let f = c.args.located.now in
    let same : IsSameLock f.row (granted_row c.args.row.now) =
    record { lkid = c.requires.row.lkid; pid = c.requires.row.pid; parent = c.requires.row.parent } in
    (f.row, (stored c.args.store.now f c.requires.located, subst (IsSameLock f.row) (sym c.granted.ensures) same))

-- ---- where the request names the value block

-- a lock that moves leaves the processes
pub accept-requires : goal.accept-requires
accept-requires c = rw c.move_lock.ensures.moved (process_there c.args.store.now c.args.located.now.owner c.args.located.now.row.pid c.requires.located.owner)

pub end_by_grant-requires-clause-process : goal.end_by_grant-requires-clause-process
end_by_grant-requires-clause-process c =
    process_still c.move_lock.new.self c.accept.new.store c.args.located.now.owner c.args.row.now.pid c.accept.ensures.only_notices
    (owner_still c.requires.located c.requires.row c.granted.ensures c.move_lock.ensures.moved)

-- and what they are owed
pub end_by_grant-requires-clause-owed : goal.end_by_grant-requires-clause-owed
end_by_grant-requires-clause-owed c =
    subst (λ (due : ℕ). row_due c.args.row.now ≤ due) (sym (c.accept.ensures.dues c.args.row.now.pid)) (rw c.move_lock.ensures.moved c.requires.owed)

pub resource_record-requires : goal.resource_record-requires
resource_record-requires c =
    resource_still c.requires.located c.requires.row c.granted.ensures c.move_lock.ensures.moved c.accept.new.store c.accept.ensures.only_notices

pub set_value_block-requires : goal.set_value_block-requires
set_value_block-requires c =
    resource_still c.requires.located c.requires.row c.granted.ensures c.move_lock.ensures.moved c.end_by_grant.new.store
    (notices_twice _ _ _ c.accept.ensures.only_notices c.end_by_grant.ensures.only_notices)

pub returns-then-has-clause-granted : goal.returns-then-has-clause-granted
returns-then-has-clause-granted c =
    let s = c.args.store.now in
    let f = c.args.located.now in
    let asked = c.args.asked.now in
    let located = c.requires.located in
    let row = c.args.row.now in
    let block = c.resource_record.result.now.value_block in
    let told = subst (λ o. IfSome o (λ r. block ≡ r.value_block)) (sym located.found)
    (subst (λ o. IfSome o (λ r. block ≡ r.value_block))
    (found_moved located c.requires.row c.granted.ensures c.move_lock.ensures.moved c.accept.new.store c.accept.ensures.only_notices)
    c.resource_record.ensures.value_block) in
    let accepted : plain_processes c.accept.new.store ≡ processes_converting f asked s =
    rw c.lkid.ensures at c.accept.ensures.written f.row.pid (rw c.move_lock.ensures.moved c.requires.located.owner)
    ∙ ap (λ lkid. processes_after_acceptance f.row.pid asked.block lkid (plain_processes c.move_lock.new.self)) (sym c.requires.row.lkid)
    ∙ ap (λ (x : Records). processes_converting f asked x) c.move_lock.ensures.moved in
    subst (λ o. IfSome o (λ r. IsConvertedAtOnce f row (processes_converting f asked s) r s c.set_value_block.new.self)) (sym located.found)
    (granted_at_once s located.sound f located row
    (processes_converting f asked s) c.move_lock.new.self c.accept.new.store c.end_by_grant.new.store c.set_value_block.new.self
    block c.end_by_grant.new.value_block told (moved_as located c.requires.row c.granted.ensures c.move_lock.ensures.moved)
    c.accept.ensures.only_notices accepted
    (record {
      value_block = c.end_by_grant.ensures.value_block;
      statuses = c.end_by_grant.ensures.statuses;
      only_notices = c.end_by_grant.ensures.only_notices;
    })
    c.set_value_block.ensures.written)

-- the lock alone is moved
pub returns-then-has-clause-locks : goal.returns-then-has-clause-locks
returns-then-has-clause-locks c =
    let f = c.args.located.now in
    let noticed = notices_twice c.move_lock.new.self _ _ c.accept.ensures.only_notices c.end_by_grant.ensures.only_notices in
    locks_stay_over f.lock c.args.store.now c.end_by_grant.new.store c.set_value_block.new.self
    (others_still c.requires.located c.requires.row c.granted.ensures c.move_lock.ensures.moved c.end_by_grant.new.store noticed)
    (subst (OtherLocksStay f.lock c.end_by_grant.new.store) (sym c.set_value_block.ensures.written)
    (block_alone f.lock f.res c.end_by_grant.new.value_block c.end_by_grant.new.store))

pub returns-then-has-clause-due : goal.returns-then-has-clause-due
returns-then-has-clause-due c =
    let noticed = notices_twice c.move_lock.new.self _ _ c.accept.ensures.only_notices c.end_by_grant.ensures.only_notices in
    due_still c.requires.located c.requires.row c.granted.ensures c.move_lock.ensures.moved c.end_by_grant.new.store noticed c.set_value_block.new.self
    (λ pid. ap (due_for pid) c.set_value_block.ensures.written
    ∙ due_valued pid c.args.located.now.res c.end_by_grant.new.value_block c.end_by_grant.new.store)

pub returns-then-has-clause-owed : goal.returns-then-has-clause-owed
returns-then-has-clause-owed c pid =
    rw c.set_value_block.ensures.written
    (c.end_by_grant.ensures.owed pid
    ∙ ap (λ (due : ℕ). due + due_to pid (granted_row c.args.row.now)) (c.accept.ensures.dues pid ∙ ap (due_of pid) c.move_lock.ensures.moved))

pub returns-then-has-clause-sound : goal.returns-then-has-clause-sound
returns-then-has-clause-sound c = c.set_value_block.ensures.sound.after

-- ---- where the request says nothing of the value block

pub grant_without_value_block-requires-clause-process : goal.grant_without_value_block-requires-clause-process
grant_without_value_block-requires-clause-process c = owner_still c.requires.located c.requires.row c.granted.ensures c.move_lock.ensures.moved

pub grant_without_value_block-requires-clause-owed : goal.grant_without_value_block-requires-clause-owed
grant_without_value_block-requires-clause-owed c = rw c.move_lock.ensures.moved c.requires.owed

pub returns-else-has-clause-granted : goal.returns-else-has-clause-granted
returns-else-has-clause-granted c =
    let s = c.args.store.now in
    let f = c.args.located.now in
    let block = c.args.asked.now.block in
    let located = c.requires.located in
    let row = c.args.row.now in
    let accepted : processes_after_acceptance row.pid block row.lkid (plain_processes c.move_lock.new.self) ≡ processes_converting f c.args.asked.now s =
    ap (λ (x : Records). processes_after_acceptance row.pid block row.lkid (plain_processes x)) c.move_lock.ensures.moved
    ∙ sym (ap (λ pid. processes_after_acceptance pid block f.row.lkid (plain_processes s)) c.requires.row.pid
    ∙ ap (λ lkid. processes_after_acceptance row.pid block lkid (plain_processes s)) c.requires.row.lkid) in
    let after = processes_converting f c.args.asked.now s in
    subst (λ o. IfSome o (λ r. IsConvertedAtOnce f row after r s c.grant_without_value_block.new.store)) (sym located.found)
    (granted_without_value_block s located.sound f located row after c.move_lock.new.self c.grant_without_value_block.new.store
    (moved_as located c.requires.row c.granted.ensures c.move_lock.ensures.moved)
    (λ b. c.grant_without_value_block.ensures.statuses b ∙ ap (λ ps. blocks_after (grant_endings true row) (blocks_with b ps)) accepted)
    c.grant_without_value_block.ensures.only_notices)

pub returns-else-has-clause-locks : goal.returns-else-has-clause-locks
returns-else-has-clause-locks c =
    others_still c.requires.located c.requires.row c.granted.ensures c.move_lock.ensures.moved c.grant_without_value_block.new.store
    c.grant_without_value_block.ensures.only_notices

pub returns-else-has-clause-due : goal.returns-else-has-clause-due
returns-else-has-clause-due c =
    due_still c.requires.located c.requires.row c.granted.ensures c.move_lock.ensures.moved c.grant_without_value_block.new.store
    c.grant_without_value_block.ensures.only_notices c.grant_without_value_block.new.store (λ pid. refl)

pub returns-else-has-clause-owed : goal.returns-else-has-clause-owed
returns-else-has-clause-owed c pid = rw c.move_lock.ensures.moved at c.grant_without_value_block.ensures.owed pid

pub returns-else-has-clause-sound : goal.returns-else-has-clause-sound
returns-else-has-clause-sound c =
    still_sound c.move_lock.new.self c.grant_without_value_block.new.store c.grant_without_value_block.ensures.only_notices c.move_lock.ensures.sound.after
