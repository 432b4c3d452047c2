-- Walks over the handles of a list, from the first to the last or back: for callers.
use Rattle.std.proofs.Common.{◌≡◌, ◌≤◌, ℕ, zero, suc, List, [], ◌∷◌, ◌++◌, None, Some, refl, sym, ap, subst, ◌∙◌, inl, inr, eq-eqb, ne_eqb, slice_get, arith}
use Rattle.std.proofs.lemmas.Bool.{cases_eq}
use Rattle.std.proofs.lemmas.Option.{none-some, same_Some}
use Rattle.vlm_collections.specs.Lists.{IsApart, IsIn, Spot, before_from, first_handle, handle_after, handle_before, last_from, last_handle, without}
use Rattle.vlm_collections.proofs.HandleLists.{without_head, without_past}

-- ---- what is told is one of the handles

pub first_handle-in : (handles : List ℕ) (handle : ℕ) → Some handle ≡ first_handle handles → IsIn handle handles
first_handle-in [] handle is = absurd (none-some handle (sym is))
first_handle-in (first ∷ rest) handle is = inl (sym (same_Some handle first is))

pub handle_after-in : (after : ℕ) (handles : List ℕ) (handle : ℕ) → Some handle ≡ handle_after after handles → IsIn handle handles
handle_after-in after [] handle is = absurd (none-some handle (sym is))
handle_after-in after (first ∷ rest) handle is =
    elim (cases_eq first after) [
      | inl same ↦ inr (first_handle-in rest handle (is ∙ rw (eq-eqb first after same) refl))
      | inr differs ↦ inr (handle_after-in after rest handle (is ∙ rw (ne_eqb first after differs) refl))
    ]

-- ---- the handle at an index

pub first_handle-index : (handles : List ℕ) → first_handle handles ≡ slice_get handles 0
first_handle-index [] = refl
first_handle-index (first ∷ rest) = refl

pub handle_index-in : (i : ℕ) (handles : List ℕ) (handle : ℕ) → slice_get handles i ≡ Some handle → IsIn handle handles
handle_index-in i [] handle is = absurd (none-some handle is)
handle_index-in zero (first ∷ rest) handle is = inl (same_Some first handle is)
handle_index-in (suc i) (first ∷ rest) handle is = inr (handle_index-in i rest handle is)

-- the handle after the one at an index is that at the next index
pub handle_after-index : (i : ℕ) (handles : List ℕ) (handle : ℕ) → IsApart handles → slice_get handles i ≡ Some handle
    → handle_after handle handles ≡ slice_get handles (suc i)
handle_after-index i [] handle apart is = refl
handle_after-index zero (first ∷ rest) handle apart is = rw (eq-eqb first handle (same_Some first handle is)) (first_handle-index rest)
handle_after-index (suc i) (first ∷ rest) handle apart is =
    let there : IsIn handle rest = handle_index-in i rest handle is in
    rw (ne_eqb first handle (λ same. apart.0 (subst (λ x. IsIn x rest) (sym same) there))) (handle_after-index i rest handle apart.1 is)

-- no handle is at an index behind one that is past the last
pub handle_index-past : (i index : ℕ) (handles : List ℕ) → slice_get handles i ≡ None → i ≤ index → slice_get handles index ≡ None
handle_index-past i index [] past le = refl
handle_index-past zero index (first ∷ rest) past le = absurd (none-some first (sym past))
handle_index-past (suc i) zero (first ∷ rest) past le = absurd (omega (arith, le))
handle_index-past (suc i) (suc index) (first ∷ rest) past le = handle_index-past i index rest past (omega (arith, le))

last_from-in : (first : ℕ) (handles : List ℕ) (handle : ℕ) → Some handle ≡ last_from (Some first) handles → IsIn handle (first ∷ handles)
last_from-in first [] handle is = inl (sym (same_Some handle first is))
last_from-in first (next ∷ rest) handle is = inr (last_from-in next rest handle is)

pub last_handle-in : (handles : List ℕ) (handle : ℕ) → Some handle ≡ last_handle handles → IsIn handle handles
last_handle-in [] handle is = absurd (none-some handle (sym is))
last_handle-in (first ∷ rest) handle is = last_from-in first rest handle is

before_from-in : (first before : ℕ) (handles : List ℕ) (handle : ℕ) → Some handle ≡ before_from (Some first) before handles → IsIn handle (first ∷ handles)
before_from-in first before [] handle is = absurd (none-some handle (sym is))
before_from-in first before (next ∷ rest) handle is =
    elim (cases_eq next before) [
      | inl same ↦ inl (sym (same_Some handle first (is ∙ rw (eq-eqb next before same) refl)))
      | inr differs ↦ inr (before_from-in next before rest handle (is ∙ rw (ne_eqb next before differs) refl))
    ]

pub handle_before-in : (before : ℕ) (handles : List ℕ) (handle : ℕ) → Some handle ≡ handle_before before handles → IsIn handle handles
handle_before-in before [] handle is = absurd (none-some handle (sym is))
handle_before-in before (first ∷ rest) handle is =
    elim (cases_eq first before) [
      | inl same ↦ absurd (none-some handle (sym (is ∙ rw (eq-eqb first before same) refl)))
      | inr differs ↦ before_from-in first before rest handle (is ∙ rw (ne_eqb first before differs) refl)
    ]

-- ---- a handle among those before and behind it

last_from-push : (from : Spot) (before : List ℕ) (handle : ℕ) → last_from from (before ++ handle ∷ []) ≡ Some handle
last_from-push from [] handle = refl
last_from-push from (first ∷ rest) handle = last_from-push (Some first) rest handle

pub before_from-among : (from : Spot) (before : List ℕ) (handle : ℕ) (rest : List ℕ) → ¬ IsIn handle before
    → before_from from handle (before ++ handle ∷ rest) ≡ last_from from before
before_from-among from [] handle rest absent = rw (eq-eqb handle handle refl) refl
before_from-among from (first ∷ before) handle rest absent =
    rw (ne_eqb first handle (λ same. absent (inl same))) (before_from-among (Some first) before handle rest (λ there. absent (inr there)))

-- a walk on goes on with the first of those behind a handle
pub handle_after-among : (before : List ℕ) (handle : ℕ) (rest : List ℕ) → ¬ IsIn handle before
    → handle_after handle (before ++ handle ∷ rest) ≡ first_handle rest
handle_after-among [] handle rest absent = rw (eq-eqb handle handle refl) refl
handle_after-among (first ∷ before) handle rest absent =
    rw (ne_eqb first handle (λ same. absent (inl same))) (handle_after-among before handle rest (λ there. absent (inr there)))

-- where there is a last handle, the others stand before it
pub last_handle-split : (handles : List ℕ) (handle : ℕ) → Some handle ≡ last_handle handles → (before : List ℕ) × (handles ≡ before ++ handle ∷ [])
last_handle-split [] handle is = absurd (none-some handle (sym is))
last_handle-split (first ∷ []) handle is = ([], ap (λ k. k ∷ []) (sym (same_Some handle first is)))
last_handle-split (first ∷ (next ∷ rest)) handle is =
    let behind = last_handle-split (next ∷ rest) handle is in (first ∷ behind.0, ap (λ ks. first ∷ ks) behind.1)

-- without the last handle the others are left
pub without_last : (before : List ℕ) (handle : ℕ) → ¬ IsIn handle before → without handle (before ++ handle ∷ []) ≡ before
without_last [] handle absent = without_head handle handle [] refl
without_last (first ∷ before) handle absent =
    without_past handle first (before ++ handle ∷ []) (λ same. absent (inl same))
    ∙ ap (λ ks. first ∷ ks) (without_last before handle (λ there. absent (inr there)))
