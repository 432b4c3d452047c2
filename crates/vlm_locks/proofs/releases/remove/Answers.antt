use Rattle.vlm_locks.specs.Rest.{OtherLocksStay}
use Rattle.vlm_locks.proofs.OtherLocks.{removed_alone}
use Rattle.std.proofs.Common.{sym, subst, ap, map}
use Rattle.vlm_model.specs.Withdrawals.{resource_without}
use Rattle.vlm_locks.specs.Withdrawing.{IsChange}
use Rattle.vlm_store.specs.Records.{Records, but_notices, without_stored_lock}
use Rattle.vlm_locks.proofs.ChangedResource.{changed_room}
use Rattle.vlm_locks.proofs.ReservedAsts.{weighs_gone}
use Rattle.vlm_locks.proofs.QueuedLocks.{stored}
use Rattle.vlm_locks.proofs.SoundRecords.{sound_alike}
use Rattle.vlm_locks.proofs.Withdrawn.{removed}
use Rattle.vlm_locks.proofs.releases.remove.Goals as goal

pub remove_lock-requires-clause-stored : goal.remove_lock-requires-clause-stored
remove_lock-requires-clause-stored c =
    let f = c.args.located.now in
    (f.row, stored c.args.store.now f c.requires.located)

-- the lock alone is gone
pub returns-clause-done : goal.returns-clause-done
returns-clause-done c =
    let s = c.args.store.now in
    let f = c.args.located.now in
    record {
      made =
          subst (IsChange f.res (resource_without f.row.lkid) s) (sym c.remove_lock.ensures.removed)
          (changed_room f.res (resource_without f.row.lkid) s (without_stored_lock f.lock s) _ (removed s c.requires.located.sound f c.requires.located
          (sound_alike c.remove_lock.new.self (without_stored_lock f.lock s) (ap (λ (x : Records). x.resources) (sym c.remove_lock.ensures.removed))
          (ap (λ (x : Records). map but_notices x.processes) (sym c.remove_lock.ensures.removed)) c.remove_lock.ensures.sound.after)
          c.requires.rest));
      locks = subst (OtherLocksStay f.lock s) (sym c.remove_lock.ensures.removed) (removed_alone f.lock _ s);
      own_locks = ap (λ (x : Records). x.processes) c.remove_lock.ensures.removed;
    }

-- and it weighs nothing any more
pub returns-clause-loses : goal.returns-clause-loses
returns-clause-loses c =
    let s = c.args.store.now in
    let f = c.args.located.now in
    weighs_gone s c.requires.located.sound f.lock f.row (stored s f c.requires.located) c.remove_lock.new.self
    (ap (λ (x : Records). x.resources) c.remove_lock.ensures.removed)
