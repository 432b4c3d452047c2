use Rattle.std.proofs.Common.{ℕ, inl, inr, subst}
use Rattle.vlm_words.specs.declared.locks.LockState.{LockState}
use Rattle.vlm_collections.specs.Lists.{IsIn}
use Rattle.vlm_records.specs.declared.handles.Place.{Place}
use Rattle.vlm_records.specs.declared.handles.Place.TheVariants.{Queued}
use Rattle.vlm_store.specs.Records.{HasLock, Records, Rooms, Stores, locks_at}
use Rattle.vlm_store.proofs.store.Store.add_lock.Goals as goal

-- the room says nothing of the locks
had_lock : (s : Records) (room : Rooms) (at : ℕ) (row : LockState) → HasLock (record s { room = room }) at row → HasLock s at row
had_lock s room at row (inl stored) = inl (by_place stored.0 stored.1)
  where
    by_place : (place : Place) → IsIn (record { at = at; row = row }) (locks_at place (record s { room = room })) → Stores s at row
    by_place (Queued res queue) stands = (Queued res queue, stands)
had_lock s room at row (inr loose) = inr loose

pub add_lock_reserved-requires-clause-new : goal.add_lock_reserved-requires-clause-new
add_lock_reserved-requires-clause-new c at row has =
    c.requires.new at row (had_lock c.args.self.now _ at row (subst (λ s. HasLock s at row) c.reserve_lock.ensures.only has))
