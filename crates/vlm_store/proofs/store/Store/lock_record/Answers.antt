use Rattle.std.proofs.Common.{◌≡◌, ◌∙◌, sym, ap, subst}
use Rattle.std.proofs.lemmas.Option.{same_Some}
use Rattle.vlm_words.specs.declared.locks.LockState.{LockState}
use Rattle.vlm_collections.specs.Lists.{IsIn}
use Rattle.vlm_store.specs.Kept.{beside_shown, records_shown}
use Rattle.vlm_store.specs.Records.{IsProcess, Records, StoredLock, Stores, locks_at}
use Rattle.vlm_records.specs.Shown.{row_in}
use Rattle.vlm_store.specs.Store.{records_of, tables}
use Rattle.vlm_store.proofs.KeptRecords.{stored_there, there_stored}
use Rattle.vlm_store.proofs.Layouts.{HasPlace-among, locks_at-among}
use Rattle.vlm_store.proofs.LivingProcesses.{is_sound, lock_there, owner_is, stored_in_queue, stored_queued}
use Rattle.vlm_store.proofs.store.Store.lock_record.Goals as goal
use Rattle.vlm_records.proofs.PlacesOnLists.{noted_as}

pub index-requires : goal.index-requires
index-requires c =
    let s = c.self.inside in
    let stored = rw (← c.self.view_is) at c.requires in
    rw c.slot.ensures (stored_there s.queues s.order (beside_shown s) c.self.invariant.placed c.args.lock stored.0 stored.1).0

pub returns-clause-row : goal.returns-clause-row
returns-clause-row c =
    let s = c.self.inside in
    let kept = c.self.invariant in
    let stored = rw (← c.self.view_is) at c.requires in
    let there = (stored_there s.queues s.order (beside_shown s) kept.placed c.args.lock stored.0 stored.1).0 in
    let is = ap row_in (rw c.slot.ensures at c.index.ensures) in
    subst (λ (x : Records). Stores x c.args.lock c.index.result.now.row) c.self.view_is
    (subst (λ (row : LockState). Stores (records_of (tables s.queues s.order (beside_shown s))) c.args.lock row) is
    (there_stored s.queues s.order (beside_shown s) kept.placed kept.linked kept.ordered c.args.lock there
    (stored_queued s kept c.args.lock stored.0 stored.1)))

pub returns-clause-only : goal.returns-clause-only
returns-clause-only c row stored =
    let s = c.self.inside in
    let there = stored_there s.queues s.order (beside_shown s) c.self.invariant.placed c.args.lock row
    (subst (λ (x : Records). Stores x c.args.lock row) (sym c.self.view_is) stored) in
    sym there.2 ∙ ap row_in (rw c.slot.ensures at c.index.ensures)

-- the place that the record notes is that at which a caller sees the lock
pub returns-clause-stands : goal.returns-clause-stands
returns-clause-stands c =
    let s = c.self.inside in
    let stored = returns-clause-row c in
    let lock : StoredLock = record { at = c.args.lock; row = c.index.result.now.row } in
    let there = subst (λ (x : Records). IsIn lock (locks_at stored.0 x)) (sym c.self.view_is) stored.1 in
    let found = (locks_at-among (tables s.queues s.order (beside_shown s)) stored.0 lock there).0 in
    let was = rw (← c.self.view_is) at c.requires in
    let is : c.index.result.now.place ≡ stored.0 =
    same_Some c.index.result.now.place stored.0
    (sym (noted_as _ _ (rw c.slot.ensures at c.index.ensures)
    (stored_in_queue s c.self.invariant c.args.lock was.0 was.1))
    ∙ c.self.invariant.placed.listed stored.0 c.args.lock found) in
    rw (← c.self.view_is) (subst (λ p. IsIn lock (locks_at p (records_shown s))) (sym is) there)

pub returns-clause-there : goal.returns-clause-there
returns-clause-there c =
    let s = c.self.inside in
    let lock : StoredLock = record { at = c.args.lock; row = c.index.result.now.row } in
    let stands : IsIn lock (locks_at c.index.result.now.place c.args.self.now) = returns-clause-stands c in
    rw (← c.self.view_is) (HasPlace-among (records_shown s) c.index.result.now.place lock (rw (← c.self.view_is) at stands))

pub returns-clause-owner : goal.returns-clause-owner
returns-clause-owner c =
    let stored : Stores c.args.self.now c.args.lock c.index.result.now.row = returns-clause-row c in
    let there = lock_there c.self.inside c.self.invariant c.args.lock c.index.result.now.row (rw (← c.self.view_is) at stored) in
    let here = rw c.slot.ensures at c.index.ensures in
    rw (← c.self.view_is)
    (subst (λ (r : LockState). IsProcess c.index.result.now.owner r.pid (records_shown c.self.inside))
    (sym (ap row_in here) ∙ there.2) (owner_is c.self.inside c.self.invariant c.args.lock c.index.result.now here))

pub returns-clause-sound : goal.returns-clause-sound
returns-clause-sound c = rw (← c.self.view_is) (is_sound c.self.inside c.self.invariant)
