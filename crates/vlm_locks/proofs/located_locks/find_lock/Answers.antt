use Rattle.std.proofs.Common.{◌≡◌, ℕ, true, is_some, sym, ap, ◌∙◌, subst, inl}
use Rattle.std.specs.List.{list_any}
use Rattle.vlm_words.specs.declared.locks.LockState.{LockState}
use Rattle.vlm_model.specs.Checks.{holds_lock}
use Rattle.vlm_collections.specs.Lists.{IsIn}
use Rattle.vlm_records.specs.declared.handles.Place.{Place}
use Rattle.vlm_records.specs.declared.handles.Place.TheVariants.{Queued}
use Rattle.vlm_store.specs.Plain.{plain_resources}
use Rattle.vlm_store.specs.Records.{IsProcess, IsSound, Records, Stores, locks_at}
use Rattle.vlm_locks.proofs.LockOwners.{none_held, some_held, stands_queued}
use Rattle.vlm_locks.proofs.QueuedLocks.{owner_is}
use Rattle.vlm_locks.proofs.located_locks.find_lock.Goals as goal
use Rattle.vlm_store.proofs.Records.{in_a_queue}
use Rattle.vlm_locks.proofs.Rising.{none_loose}

-- no lock has the ID
pub returns-in_err-lock-clause-held : goal.returns-in_err-lock-clause-held
returns-in_err-lock-clause-held c =
    ap is_some c.from_residual.ensures
    ∙ sym (none_held c.args.store.now c.in_err-lock.ensures.sound c.args.pid c.args.lkid
    (λ at row stored same. absurd (c.in_err-lock.ensures.found at row (inl stored) same)))

-- a stored lock is held by its process
held_by : (s : Records) → IsSound s → (at owner : ℕ) (row : LockState) → Stores s at row → IsProcess owner row.pid s
    → list_any (holds_lock row.pid row.lkid) (plain_resources s) ≡ true
held_by s sound at owner row stored owned = of_place stored.0 stored.1
  where
    of_place : (place : Place) → IsIn (record { at = at; row = row }) (locks_at place s) → list_any (holds_lock row.pid row.lkid) (plain_resources s) ≡ true
    of_place (Queued res queue) among =
        some_held s sound (record { lock = at; owner = owner; row = row; res = res; queue = queue })
        (stands_queued s (record {
          lock = at;
          owner = owner;
          row = row;
          res = res;
          queue =
              queue;
        }) among owned sound)

-- the lock is of the process
pub returns-then-pid-clause-held : goal.returns-then-pid-clause-held
returns-then-pid-clause-held c =
    let s = c.args.store.now in
    let found = c.in_ok-lock.ensures.found in
    let is_stored = in_a_queue c.args.store.now (none_loose c.args.store.now c.requires.rising) c.in_ok-lock.lock found.0 found.1.0 in
    let owned : found.0.pid ≡ c.args.pid = ap (λ (x : LockState). x.pid) (c.lock_record.ensures.only found.0 is_stored) ∙ sym c.pid.ensures ∙ c.if-pid.true in
    let held = held_by s c.in_ok-lock.ensures.sound c.in_ok-lock.lock c.lock_record.result.now.owner found.0 is_stored
    (owner_is s c.lock_record.result.now.owner c.lock_record.result.now.row found.0
    (c.lock_record.ensures.only found.0 is_stored) c.lock_record.ensures.owner) in
    sym (rw (owned, found.1.1) at held)

pub returns-then-pid-clause-lock : goal.returns-then-pid-clause-lock
returns-then-pid-clause-lock c =
    let found = c.in_ok-lock.ensures.found in
    let is_stored = in_a_queue c.args.store.now (none_loose c.args.store.now c.requires.rising) c.in_ok-lock.lock found.0 found.1.0 in
    record {
      row = found.0;
      stored = is_stored;
      named = found.1.1;
      owned = ap (λ (x : LockState). x.pid) (c.lock_record.ensures.only found.0 is_stored) ∙ sym c.pid.ensures ∙ c.if-pid.true;
    }

-- the lock is another process's
pub returns-else-pid-clause-held : goal.returns-else-pid-clause-held
returns-else-pid-clause-held c =
    let s = c.args.store.now in
    let found = c.in_ok-lock.ensures.found in
    let is_stored = in_a_queue c.args.store.now (none_loose c.args.store.now c.requires.rising) c.in_ok-lock.lock found.0 found.1.0 in
    sym (none_held s c.in_ok-lock.ensures.sound c.args.pid c.args.lkid (λ at row stored same mine.
    let here : at ≡ c.in_ok-lock.lock = c.in_ok-lock.ensures.sound.lkids_apart at c.in_ok-lock.lock row found.0 (inl stored) found.1.0 (same ∙ sym found.1.1) in
    c.if-pid.false (c.pid.ensures ∙ sym (ap (λ (x : LockState). x.pid) (c.lock_record.ensures.only row (subst (λ k. Stores s k row) here stored))) ∙ mine)))

pub lock_record-requires : goal.lock_record-requires
lock_record-requires c =
    let found = c.in_ok-lock.ensures.found in
    (found.0, in_a_queue c.args.store.now (none_loose c.args.store.now c.requires.rising) c.in_ok-lock.lock found.0 found.1.0)
