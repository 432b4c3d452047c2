-- The reserved ASTs, without those of locks whose requests have ended.
use Rattle.std.proofs.Common.{◌≡◌, ◌≤◌, ◌+◌, ℕ, Bool, true, false, List, [], ◌∷◌, ◌++◌, cond, refl, sym, ap, ◌∙◌, subst, inl, inr, arith, eq-eqb, ne_eqb}
use Rattle.std.specs.Prelude.{◌==◌, ◌||◌}
use Rattle.std.proofs.lemmas.Bool.{cases_eq}
use Rattle.vlm_words.specs.declared.locks.LockState.{LockState}
use Rattle.vlm_words.specs.declared.resources.Queue.TheVariants.{Granted, Conversion, Waiting}
use Rattle.vlm_words.specs.Dues.{due_to, row_due}
use Rattle.vlm_store.specs.Records.{IsSound, Records, SameButNotices, StoredLock, Stores, due_of}
use Rattle.vlm_locks.specs.GivingUp.{IsPaidBut, due_but}
use Rattle.vlm_locks.specs.Left.{is_among}
use Rattle.vlm_locks.specs.Owing.{IsPaid, LosesOne, OwedMoves, row_at_end, total_weight, weight_on}
use Rattle.vlm_locks.specs.Withdrawing.{owned_after}
use Rattle.vlm_locks.proofs.ChosenLocks.{among_push}
use Rattle.vlm_locks.proofs.ReservedAsts.{due_own, nothing_due, owed_by_locks}
use Rattle.vlm_locks.proofs.QueuedLocks.{one_lock, queued_stored}
use Rattle.vlm_locks.proofs.SumsOverLocks.{only, stored_weighs, sum_alike, sum_both}

-- measures that are the same of each stored lock come to the same
pub weigh_alike : (s : Records) → IsSound s → (f h : StoredLock → ℕ)
    → ((k : StoredLock) → Stores s k.at k.row → f k ≡ h k) → total_weight f s ≡ total_weight h s
weigh_alike s sound f h same =
    omega (
      arith,
      sum_alike (weight_on f) (weight_on h) s.resources
          (λ r among. omega (
            arith,
            sum_alike f h r.granted (λ k there. same k (queued_stored s sound r among Granted k there)),
            sum_alike f h r.converting (λ k there. same k (queued_stored s sound r among Conversion k there)),
            sum_alike f h r.waiting (λ k there. same k (queued_stored s sound r among Waiting k there)),
          )),
    )

-- two measures together
weigh_both : (f h : StoredLock → ℕ) (s : Records) → total_weight (λ k. f k + h k) s ≡ total_weight f s + total_weight h s
weigh_both f h s =
    omega (
      arith,
      sum_alike (weight_on (λ k. f k + h k)) (λ r. weight_on f r + weight_on h r) s.resources
          (λ r among. omega (arith, sum_both f h r.granted, sum_both f h r.converting, sum_both f h r.waiting)),
      sum_both (weight_on f) (weight_on h) s.resources,
    )

module _ (lkids : List ℕ) (s : Records) (sound : IsSound s) (at : ℕ) (row : LockState) (stored : Stores s at row) (fresh : is_among lkids row ≡ false) where
  -- what is due for a lock is not due once it is one of these
  pub one_fewer : (pid : ℕ) → total_weight (due_but (lkids ++ row.lkid ∷ []) pid) s + due_to pid row ≡ total_weight (due_but lkids pid) s
  one_fewer pid =
      omega (
        arith,
        weigh_alike s sound (λ k. due_but (lkids ++ row.lkid ∷ []) pid k + only at (due_but lkids pid) k) (due_but lkids pid) each,
        weigh_both (due_but (lkids ++ row.lkid ∷ []) pid) (only at (due_but lkids pid)) s,
        stored_weighs (due_but lkids pid) at s sound row stored,
        ap {B = ℕ} (λ (b : Bool). cond b 0 (due_to pid row)) fresh,
      )
    where
      same_tests : (k : StoredLock) → Stores s k.at k.row → (k.row.lkid == row.lkid) ≡ (k.at == at)
      same_tests k there = elim (cases_eq k.at at) [
        | inl same ↦
            rw (eq-eqb k.at at same)
            (eq-eqb k.row.lkid row.lkid (ap (λ (x : LockState). x.lkid) (one_lock s sound at k.row row (subst (λ h. Stores s h k.row) same there) stored)))
        | inr differs ↦ rw (ne_eqb k.at at differs)
            (ne_eqb k.row.lkid row.lkid
            (λ same. differs (sound.lkids_apart k.at at k.row row (inl there) (inl stored) same)))
      ]

      sums : (a b : Bool) (due : ℕ) → cond (a || b) 0 due + cond b (cond a 0 due) 0 ≡ cond a 0 due
      sums true true due = omega arith
      sums true false due = omega arith
      sums false true due = omega arith
      sums false false due = omega arith

      each : (k : StoredLock) → Stores s k.at k.row → due_but (lkids ++ row.lkid ∷ []) pid k + only at (due_but lkids pid) k ≡ due_but lkids pid k
      each k there =
          ap (λ (b : Bool). cond b 0 (due_to pid k.row) + only at (due_but lkids pid) k) (among_push k.row lkids row.lkid)
          ∙ ap (λ (b : Bool). cond (is_among lkids k.row || (k.row.lkid == row.lkid)) 0 (due_to pid k.row) + cond b
          (due_but lkids pid k) 0) (sym (same_tests k there))
          ∙ sums (is_among lkids k.row) (k.row.lkid == row.lkid) (due_to pid k.row)

  -- what is due for a lock that is none of these is owed
  pub fits_still : IsPaidBut lkids s → row_due row ≤ due_of row.pid s
  fits_still paid = omega (arith, paid row.pid, one_fewer row.pid, due_own row)

  -- once its request has ended it is one of these
  pub paid_on : IsPaidBut lkids s → (t : Records) → SameButNotices s t → OwedMoves row (row_at_end row) s t → IsPaidBut (lkids ++ row.lkid ∷ []) t
  paid_on paid t same owed pid =
      let there : total_weight (due_but (lkids ++ row.lkid ∷ []) pid) t ≡ total_weight (due_but (lkids ++ row.lkid ∷ []) pid) s = rw same.resources refl in
      omega (arith, owed pid, paid pid, one_fewer pid, there, nothing_due row pid)

-- one of these goes
pub paid_without : (lkids : List ℕ) (s t : Records) (at : ℕ) (row : LockState) → is_among lkids row ≡ true → LosesOne (record { at = at; row = row }) s t
    → t.processes ≡ owned_after true at s.processes → IsPaidBut lkids s → IsPaidBut lkids t
paid_without lkids s t at row is loses own paid pid =
    omega (
      arith,
      paid pid,
      loses (due_but lkids pid),
      ap {B = ℕ} (λ (b : Bool). cond b 0 (due_to pid row)) is,
      owed_by_locks true at s t own pid,
    )

-- where none of these is left, each process is owed what is due to it
pub paid_whole : (lkids : List ℕ) (s : Records) → IsSound s
    → ((at : ℕ) (row : LockState) → Stores s at row → is_among lkids row ≡ false) → IsPaidBut lkids s → IsPaid s
paid_whole lkids s sound none paid pid =
    paid pid
    ∙ weigh_alike s sound (due_but lkids pid) (λ k. due_to pid k.row)
    (λ k there. ap {B = ℕ} (λ (b : Bool). cond b 0 (due_to pid k.row)) (none k.at k.row there))
