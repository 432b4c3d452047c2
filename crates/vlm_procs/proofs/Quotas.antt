-- How many locks a process has, in the records and in the plain machine.
use Rattle.std.proofs.Common.{◌≡◌, ℕ, List, [], ◌∷◌, map, cond, refl, arith}
use Rattle.std.specs.Prelude.{◌==◌}
use Rattle.std.specs.List.{sum_by}
use Rattle.std.proofs.lemmas.List.Sums.{sum_by-cons}
use Rattle.vlm_words.specs.declared.locks.LockState.{LockState}
use Rattle.vlm_model.specs.Quotas.{locks_of, locks_on, rows_owned}
use Rattle.vlm_store.specs.Plain.{plain_resource}
use Rattle.vlm_store.specs.Records.{StoredLock, StoredResource, owned_among, owned_on, rows_of_locks}

-- the locks of a queue and their rows are as many
among_same : (pid : ℕ) (locks : List StoredLock) → owned_among pid locks ≡ rows_owned pid (rows_of_locks locks)
among_same pid [] = refl
among_same pid (k ∷ rest) =
    omega (
      arith,
      among_same pid rest,
      sum_by-cons (λ (x : StoredLock). cond (x.row.pid == pid) 1 0) k rest,
      sum_by-cons (λ (row : LockState). cond (row.pid == pid) 1 0) k.row (rows_of_locks rest),
    )

-- those on all resources
pub on_all_same : (pid : ℕ) (rs : List StoredResource) → sum_by (owned_on pid) rs ≡ locks_of pid (map plain_resource rs)
on_all_same pid [] = refl
on_all_same pid (r ∷ rest) =
    omega (
      arith,
      on_all_same pid rest,
      among_same pid r.granted,
      among_same pid r.converting,
      among_same pid r.waiting,
      sum_by-cons (owned_on pid) r rest,
      sum_by-cons (locks_on pid) (plain_resource r) (map plain_resource rest),
    )
