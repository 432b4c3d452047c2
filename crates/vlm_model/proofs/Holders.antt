-- Each lock is on one resource.
use Rattle.std.proofs.Common.{◌≡◌, ◌≤◌, ◌||◌, ℕ, Bool, true, false, List, [], ◌∷◌, ◌++◌, cond, Some, refl, sym, ap, inl, inr, ◌∙◌, arith}
use Rattle.std.specs.Prelude.{◌==◌, Any}
use Rattle.std.specs.List.{find, list_any, sum_by}
use Rattle.std.proofs.lemmas.Bool.{and_parts, eq-eqb, or_cases}
use Rattle.std.proofs.lemmas.List.Folds.{list_any-append, list_any-from_Any}
use Rattle.std.proofs.lemmas.List.Sums.{sum_by-cons}
use Rattle.vlm_words.specs.declared.locks.LockState.{LockState}
use Rattle.vlm_words.specs.State.{Resource}
use Rattle.vlm_words.specs.Rows.{is_lock_of}
use Rattle.vlm_model.specs.Checks.{holds_lock}
use Rattle.vlm_model.specs.Laws.{StandsOn}
use Rattle.vlm_model.proofs.Each.{Any-cases, Any-none, Any-weaker}
use Rattle.vlm_model.proofs.Sums.{any_counts}
use Rattle.vlm_model.proofs.Weights.{weigh}
use Rattle.vlm_model.proofs.IdsApart.{standing, stands}

-- a row with this ID of this process passes the test
pub is_lock : (pid lkid : ℕ) (row : LockState) → (row.lkid ≡ lkid) × (row.pid ≡ pid) → is_lock_of pid lkid row ≡ true
is_lock pid lkid row same = rw (eq-eqb row.lkid lkid same.0) (eq-eqb row.pid pid same.1)

-- a lock that is found among rows is counted
pub found_counts : (pid lkid : ℕ) (rows : List LockState) → list_any (is_lock_of pid lkid) rows ≡ true → 1 ≤ sum_by (stands lkid) rows
found_counts pid lkid =
    any_counts (is_lock_of pid lkid) (stands lkid) (λ row here. ap (λ (b : Bool). cond b 1 0) (and_parts (row.lkid == lkid) (row.pid == pid) here).0)

-- a lock that stands on a resource is counted there
pub held_counts : (pid lkid : ℕ) (r : Resource) → holds_lock pid lkid r ≡ true → 1 ≤ weigh (stands lkid) r
held_counts pid lkid r held =
    elim (or_cases (list_any (is_lock_of pid lkid) r.granted || list_any (is_lock_of pid lkid) r.converting) (list_any (is_lock_of pid lkid) r.waiting) held) [
      | inl first ↦ elim (or_cases (list_any (is_lock_of pid lkid) r.granted) (list_any (is_lock_of pid lkid) r.converting) first) [
        | inl granted ↦ omega (arith, found_counts pid lkid r.granted granted)
        | inr converting ↦ omega (arith, found_counts pid lkid r.converting converting)
      ]
      | inr waiting ↦ omega (arith, found_counts pid lkid r.waiting waiting)
    ]

-- a lock stands where the law says that it does
pub stands_held : (pid lkid : ℕ) (r : Resource) → StandsOn lkid pid r → holds_lock pid lkid r ≡ true
stands_held pid lkid r there =
    let test = is_lock_of pid lkid in
    let all : list_any test (r.granted ++ r.converting ++ r.waiting) ≡ true =
    list_any-from_Any test (r.granted ++ r.converting ++ r.waiting)
    (Any-weaker (λ (row : LockState). (row.lkid ≡ lkid) × (row.pid ≡ pid)) (λ row. test row ≡ true) (is_lock pid lkid)
    (r.granted ++ r.converting ++ r.waiting) there) in
    sym (list_any-append test (r.granted ++ r.converting) r.waiting
    ∙ ap (λ (b : Bool). b || list_any test r.waiting) (list_any-append test r.granted r.converting)) ∙ all

-- a resource on which the lock stands, of which something is so, and which is the one that is found
pub record IsHolder (pid lkid : ℕ) (P : Resource → Type 0) (resources : List Resource) : Type 0 where
  pub holder : Resource
  pub found : find (holds_lock pid lkid) resources ≡ Some holder
  pub counts : 1 ≤ standing lkid resources
  pub so : P holder

-- where a lock has one row, the resource on which it stands is the one that is found
pub only_holder : (pid lkid : ℕ) (P : Resource → Type 0) (resources : List Resource) → standing lkid resources ≤ 1
    → Any (λ r. StandsOn lkid pid r × P r) resources → IsHolder pid lkid P resources
only_holder pid lkid P [] one there = absurd (Any-none (λ r. StandsOn lkid pid r × P r) there)
only_holder pid lkid P (r ∷ rest) one there =
    elim (Any-cases (λ (x : Resource). StandsOn lkid pid x × P x) r rest there) [
      | inl here ↦ (let held : holds_lock pid lkid r ≡ true = stands_held pid lkid r here.0 in
          record {
            holder = r;
            found = rw held refl;
            counts = omega (arith, held_counts pid lkid r held, sum_by-cons (weigh (stands lkid)) r rest);
            so = here.1;
          })
      | inr later ↦ behind (only_holder pid lkid P rest (omega (arith, one, sum_by-cons (weigh (stands lkid)) r rest)) later)
    ]
  where
    behind : IsHolder pid lkid P rest → IsHolder pid lkid P (r ∷ rest)
    behind h = of_test (holds_lock pid lkid r) refl
      where
        of_test : (b : Bool) → holds_lock pid lkid r ≡ b → IsHolder pid lkid P (r ∷ rest)
        of_test true held = absurd (omega (arith, one, held_counts pid lkid r held, h.counts, sum_by-cons (weigh (stands lkid)) r rest))
        of_test false elsewhere = record {
          holder = h.holder;
          found = rw elsewhere h.found;
          counts = omega (arith, h.counts, sum_by-cons (weigh (stands lkid)) r rest);
          so = h.so;
        }
