use Rattle.std.proofs.Common.{◌≡◌, ℕ, List, [], ◌∷◌, Option, None, Some, IfSome, sym, ap, inl}
use Rattle.std.proofs.lemmas.Option.{none-some, same_Some}
use Rattle.vlm_words.specs.declared.locks.LockState.{LockState}
use Rattle.vlm_collections.specs.Lists.{IsIn}
use Rattle.vlm_records.specs.declared.handles.Place.{Place}
use Rattle.vlm_records.specs.declared.handles.Place.TheVariants.{Queued}
use Rattle.vlm_store.specs.Records.{Records, StoredLock, IsStored, first_at, locks_at}
use Rattle.vlm_queue.proofs.queues.head.Goals as goal

-- the first lock of a list is one of it
first_among : (locks : List StoredLock) (at : ℕ) → Some at ≡ first_at locks → (row : LockState) × IsIn (record { at = at; row = row }) locks
first_among [] at is = absurd (none-some at (sym is))
first_among (k ∷ rest) at is = (k.row, inl (ap (λ x. record { at = x; row = k.row }) (sym (same_Some at k.at is))))

first_stored : (s : Records) (place : Place) (result : Option ℕ) → result ≡ first_at (locks_at place s) → IfSome result (λ lock. IsStored lock s)
first_stored s place None is = tt
first_stored s place (Some at) is = let found = first_among (locks_at place s) at is in (found.0, (place, found.1))

pub returns-clause-stored : goal.returns-clause-stored
returns-clause-stored c = first_stored c.args.store.now (Queued c.args.res c.args.queue) c.first.result c.first.ensures.first
