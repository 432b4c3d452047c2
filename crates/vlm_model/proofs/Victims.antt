-- The victim of a search: that its lock stands, and what its withdrawal is like.
use Rattle.std.proofs.Common.{◌≡◌, ℕ, Bool, true, false, Option, None, Some, refl, sym, subst, ◌∙◌}
use Rattle.std.specs.Prelude.{◌==◌, ◌||◌}
use Rattle.std.specs.List.{AllByRecursion, list_any}
use Rattle.std.proofs.lemmas.Bool.{and_from, eq-eqb}
use Rattle.std.proofs.lemmas.List.Folds.{list_any-append, list_any-from_Any}
use Rattle.vlm_words.specs.declared.conditions.Cond.{Cond}
use Rattle.vlm_words.specs.declared.locks.LockState.{LockState}
use Rattle.vlm_words.specs.State.{Resource, State}
use Rattle.vlm_model.specs.OwnLocks.{has_lock_among, is_lock_among}
use Rattle.vlm_model.specs.Deadlocks.{IsDeadlocked, IsRowAmong, IsVictim, WaitsOn, queue_of}
use Rattle.vlm_model.specs.Search.{IsSearchedFor, victim_withdrawals}
use Rattle.vlm_model.proofs.Each.{Any-weaker}
use Rattle.vlm_model.proofs.Together.{OfOneEach}
use Rattle.vlm_model.proofs.Withdrawing.{GrantsNothing}

-- a search that is not refused chooses the victim
pub victim_of : (s : State) (choice : Option LockState) (refusal : Option Cond) → refusal ≡ None → IsSearchedFor refusal s choice → IsVictim s choice
victim_of s choice None passed chosen = chosen
victim_of s choice (Some refusal) passed chosen = cc

-- the row's process
abbrev pub is_owner : LockState → ℕ → Bool
is_owner row pid = pid == row.pid

-- a row that is queued on a resource stands there
queued_stands : (row : LockState) (r : Resource) → IsRowAmong (queue_of r) row → has_lock_among (is_owner row) row.lkid r ≡ true
queued_stands row r queued =
    in_one (list_any test r.granted) (list_any test r.converting) (list_any test r.waiting)
    (sym (list_any-append test r.converting r.waiting)
    ∙ list_any-from_Any test (queue_of r)
    (Any-weaker (λ other. other ≡ row) (λ other. test other ≡ true)
    (λ other same. subst (λ x. test x ≡ true) (sym same) itself) (queue_of r) queued))
  where
    test : LockState → Bool
    test = is_lock_among (is_owner row) row.lkid

    itself : test row ≡ true
    itself = and_from (row.lkid == row.lkid) (row.pid == row.pid) (eq-eqb row.lkid row.lkid refl) (eq-eqb row.pid row.pid refl)

    in_one : (a b c : Bool) → (b || c) ≡ true → ((a || b) || c) ≡ true
    in_one true b c some = refl
    in_one false b c some = some

-- a deadlocked row stands on some resource
pub deadlocked_stands : (s : State) (row : LockState) → IsDeadlocked s row → list_any (has_lock_among (is_owner row) row.lkid) s.resources ≡ true
deadlocked_stands s row deadlocked =
    list_any-from_Any (has_lock_among (is_owner row) row.lkid) s.resources
    (Any-weaker (λ r. WaitsOn r row deadlocked.lock) (λ r. has_lock_among (is_owner row) row.lkid r ≡ true)
    (λ r waits. queued_stands row r waits.queued) s.resources
    deadlocked.waits)

-- there is one withdrawal, or none
pub victims_apart : (choice : Option LockState) → OfOneEach (victim_withdrawals choice)
victims_apart None = tt
victims_apart (Some victim) = (tt, tt)

-- and it grants nothing
pub victims_grant_nothing : (choice : Option LockState) → AllByRecursion GrantsNothing (victim_withdrawals choice)
victims_grant_nothing None = tt
victims_grant_nothing (Some victim) = ((λ grant. grant, λ grant. grant), tt)
