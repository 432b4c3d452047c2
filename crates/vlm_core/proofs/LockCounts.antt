-- The numbers of locks are those of the plain machine.
use Rattle.std.proofs.Common.{◌≡◌, ◌+◌, ℕ, List, [], ◌∷◌, map, length, refl, sym, ap, ◌∙◌, inl, inr, ne_eqb, arith}
use Rattle.std.specs.Prelude.{None, count_by, sum_by}
use Rattle.std.proofs.lemmas.List.{length-map}
use Rattle.std.proofs.lemmas.List.Sums.{sum_by-cons}
use Rattle.vlm_words.specs.declared.resources.Queue.{Queue}
use Rattle.vlm_words.specs.declared.resources.Queue.TheVariants.{Granted, Conversion, Waiting}
use Rattle.vlm_words.specs.State.{Resource}
use Rattle.vlm_model.specs.Quotas.{locks_of}
use Rattle.vlm_collections.specs.Lists.{IsIn}
use Rattle.vlm_store.specs.Plain.{plain_resource, plain_resources}
use Rattle.vlm_store.specs.Records.{FindsProcess, IsProcess, IsSound, Records, StoredLock, StoredResource, owned_among, owned_by, owned_on, queued, NoneIsLoose}
use Rattle.vlm_store.specs.Total.{lock_total, queued_total}
use Rattle.vlm_procs.proofs.Quotas.{on_all_same}
use Rattle.vlm_locks.specs.Rest.{IsAtRest}
use Rattle.vlm_locks.proofs.QueuedLocks.{queued_stored}
use Rattle.vlm_core.specs.Readers.{all_locks, all_queued}
use Rattle.vlm_locks.proofs.Rising.{none_loose}

-- all locks
locks_counted : (rs : List StoredResource) → sum_by (λ r. length r.granted + length r.converting + length r.waiting) rs ≡ all_locks (map plain_resource rs)
locks_counted [] = refl
locks_counted (r ∷ rs) =
    omega (
      arith,
      locks_counted rs,
      sum_by-cons (λ (x : StoredResource). length x.granted + length x.converting + length x.waiting) r rs,
      sum_by-cons (λ (x : Resource). length x.granted + length x.converting + length x.waiting) (plain_resource r) (map plain_resource rs),
      length-map r.granted (λ (k : StoredLock). k.row),
      length-map r.converting (λ (k : StoredLock). k.row),
      length-map r.waiting (λ (k : StoredLock). k.row),
    )

-- all queued requests
queued_counted : (rs : List StoredResource) → sum_by (λ r. length r.converting + length r.waiting) rs ≡ all_queued (map plain_resource rs)
queued_counted [] = refl
queued_counted (r ∷ rs) =
    omega (
      arith,
      queued_counted rs,
      sum_by-cons (λ (x : StoredResource). length x.converting + length x.waiting) r rs,
      sum_by-cons (λ (x : Resource). length x.converting + length x.waiting) (plain_resource r) (map plain_resource rs),
      length-map r.converting (λ (k : StoredLock). k.row),
      length-map r.waiting (λ (k : StoredLock). k.row),
    )

-- the locks of nobody
none_among : (pid : ℕ) (ks : List StoredLock) → ((k : StoredLock) → IsIn k ks → ¬ (k.row.pid ≡ pid)) → owned_among pid ks ≡ 0
none_among pid [] others = refl
none_among pid (k ∷ ks) others = rw (ne_eqb k.row.pid pid (others k (inl refl))) (none_among pid ks (λ x there. others x (inr there)))

none_on_all : (pid : ℕ) (rs : List StoredResource)
    → ((r : StoredResource) → IsIn r rs → (queue : Queue) (k : StoredLock) → IsIn k (queued queue r)
    → ¬ (k.row.pid ≡ pid))
    → sum_by (owned_on pid) rs ≡ 0
none_on_all pid [] others = refl
none_on_all pid (r ∷ rs) others =
    omega (
      arith,
      sum_by-cons (owned_on pid) r rs,
      none_on_all pid rs (λ x there. others x (inr there)),
      none_among pid r.granted (others r (inl refl) Granted),
      none_among pid r.converting (others r (inl refl) Conversion),
      none_among pid r.waiting (others r (inl refl) Waiting),
    )

pub nobody_owns : (s : Records) → IsSound s → (pid : ℕ) → FindsProcess s pid None → 0 ≡ locks_of pid (plain_resources s)
nobody_owns s sound pid absent =
    sym (none_on_all pid s.resources (λ r among queue k there same.
    let owned = sound.owned.owned k.at k.row (inl (queued_stored s sound r among queue k there)) in
    absent owned.0 owned.2.0 (owned.2.1 ∙ same)))
    ∙ on_all_same pid s.resources

module _ (s : Records) (rest : IsAtRest s) (told : ℕ) where
  pub locks_told : (NoneIsLoose s → told ≡ lock_total s) → told ≡ all_locks (plain_resources s)
  locks_told is = is (none_loose s rest.rising) ∙ locks_counted s.resources

  pub queued_told : told ≡ queued_total s → told ≡ all_queued (plain_resources s)
  queued_told is = is ∙ queued_counted s.resources

  pub own_told : (at pid : ℕ) → IsProcess at pid s
      → (NoneIsLoose s → (other : ℕ) → IsProcess at other s → told ≡ owned_by other s)
      → told ≡ locks_of pid (plain_resources s)
  own_told at pid lives owned = owned (none_loose s rest.rising) pid lives ∙ on_all_same pid s.resources
