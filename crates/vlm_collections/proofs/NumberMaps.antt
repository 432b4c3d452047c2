-- What a map from numbers to handles finds, as the set that it is kept in is changed.
use Rattle.std.proofs.Common.{◌≡◌, ◌∙◌, ◌||◌, ℕ, Bool, true, false, cond, nat_eq, List, [], ◌∷◌, ◌++◌, ◌+◌, not, nat_lt, length}
use Rattle.std.proofs.Common.{position, slice_index_or, Option, None, Some, is_none, refl, ap, true≢false, arith}
use Rattle.std.specs.Cmp.{nat_eq_equiv}
use Rattle.std.specs.List.{IsDistinct, AllByRecursion, find, list_any, swap_remove}
use Rattle.std.specs.Map.{keys_of, lookup}
use Rattle.std.specs.Option.{option_map, option_map_or}
use Rattle.std.specs.List.{position_or_len}
use Rattle.std.proofs.lemmas.List.{length-map}
use Rattle.std.proofs.lemmas.Option.{slice_get-get_or}
use Rattle.indexmap.specs.IndexSet.{swap_remove_by}
use Rattle.indexmap.proofs.MapLemmas.{Found-position, swap_remove-default}
use Rattle.indexmap.proofs.RemoveLemmas.{swap_out}
use Rattle.indexmap.proofs.SetLemmas.{map-swap_remove}
use Rattle.vlm_collections.specs.declared.number_map.Numbered.{Numbered}
use Rattle.vlm_collections.specs.NumberMaps.{is_same_number, pairs}

module _ {K : Type 0} where
  -- what is found is the handle that is stored with the number
  pub found_as_stored : (k : Numbered K) (ks : List (Numbered K))
      → option_map (λ (x : Numbered K). x.at) (find (is_same_number k) ks) ≡ lookup (nat_eq k.number) (pairs ks)
  found_as_stored k [] = refl
  found_as_stored k (x ∷ ks) = step (nat_eq k.number x.number) _ _ (found_as_stored k ks)
    where
      step : (b : Bool) (r : Option (Numbered K)) (l : Option ℕ) → option_map (λ (y : Numbered K). y.at) r ≡ l
          → option_map (λ (y : Numbered K). y.at) (cond b (Some x) r) ≡ cond b (Some x.at) l
      step true r l rest = refl
      step false r l rest = rest

  -- a number that is not in the set is not found
  pub absent_not_found : (k : Numbered K) (ks : List (Numbered K)) → list_any (is_same_number k) ks ≡ false
      → lookup (nat_eq k.number) (pairs ks) ≡ None
  absent_not_found k [] absent = refl
  absent_not_found k (x ∷ ks) absent = by (nat_eq k.number x.number) absent (absent_not_found k ks)
    where
      by : (b : Bool) → (b || list_any (is_same_number k) ks) ≡ false
          → (list_any (is_same_number k) ks ≡ false → lookup (nat_eq k.number) (pairs ks) ≡ None)
          → cond b (Some x.at) (lookup (nat_eq k.number) (pairs ks)) ≡ None
      by true none rest = absurd (true≢false none)
      by false none rest = rest none

  -- a number is not found just if it is not in the set
  pub none_found_if_absent : (k : Numbered K) (ks : List (Numbered K))
      → not (list_any (is_same_number k) ks) ≡ is_none (lookup (nat_eq k.number) (pairs ks))
  none_found_if_absent k [] = refl
  none_found_if_absent k (x ∷ ks) = step (nat_eq k.number x.number) (none_found_if_absent k ks)
    where
      step : (b : Bool) → not (list_any (is_same_number k) ks) ≡ is_none (lookup (nat_eq k.number) (pairs ks))
          → not (b || list_any (is_same_number k) ks) ≡ is_none (cond b (Some x.at) (lookup (nat_eq k.number) (pairs ks)))
      step true rest = refl
      step false rest = rest

  module _ (k : Numbered K) where
    -- a new number goes last, and is found
    pub pushed_here : (ks : List (Numbered K)) → list_any (is_same_number k) ks ≡ false
        → lookup (nat_eq k.number) (pairs (ks ++ k ∷ [])) ≡ Some k.at
    pushed_here [] absent = rw (nat_eq_equiv.refl k.number) refl
    pushed_here (x ∷ ks) absent = by (nat_eq k.number x.number) absent (pushed_here ks)
      where
        by : (b : Bool) → (b || list_any (is_same_number k) ks) ≡ false
            → (list_any (is_same_number k) ks ≡ false → lookup (nat_eq k.number) (pairs (ks ++ k ∷ [])) ≡ Some k.at)
            → cond b (Some x.at) (lookup (nat_eq k.number) (pairs (ks ++ k ∷ []))) ≡ Some k.at
        by true none rest = absurd (true≢false none)
        by false none rest = rest none

    module _ (other : ℕ) (differs : nat_eq k.number other ≡ false) where
      turned : nat_eq other k.number ≡ false
      turned = nat_eq_equiv.symm other k.number ∙ differs

      -- what is found of the others stays
      pub pushed_other : (ks : List (Numbered K)) → lookup (nat_eq other) (pairs (ks ++ k ∷ [])) ≡ lookup (nat_eq other) (pairs ks)
      pushed_other [] = rw turned refl
      pushed_other (x ∷ ks) = ap (cond (nat_eq other x.number) (Some x.at)) (pushed_other ks)

  -- the numbers of a set are distinct
  apart_from : (n : ℕ) (ks : List (Numbered K)) → AllByRecursion (λ (x : Numbered K). nat_eq n x.number ≡ false) ks
      → AllByRecursion (λ m. nat_eq n m ≡ false) (keys_of (pairs ks))
  apart_from n [] all = tt
  apart_from n (x ∷ ks) all = (all.0, apart_from n ks all.1)

  distinct_numbers : (ks : List (Numbered K)) → IsDistinct is_same_number ks → IsDistinct nat_eq (keys_of (pairs ks))
  unfolding IsDistinct
  distinct_numbers [] distinct = tt
  distinct_numbers (x ∷ ks) distinct = (apart_from x.number ks distinct.0, distinct_numbers ks distinct.1)

  or_len_of_number : (k : Numbered K) (ks : List (Numbered K))
      → position_or_len (nat_eq k.number) (keys_of (pairs ks)) ≡ position_or_len (is_same_number k) ks
  or_len_of_number k [] = refl
  or_len_of_number k (x ∷ ks) = step (nat_eq k.number x.number) (or_len_of_number k ks)
    where
      step : (b : Bool) → position_or_len (nat_eq k.number) (keys_of (pairs ks)) ≡ position_or_len (is_same_number k) ks
          → cond (not b) (1 + position_or_len (nat_eq k.number) (keys_of (pairs ks))) 0 ≡ cond (not b) (1 + position_or_len (is_same_number k) ks) 0
      step true rest = refl
      step false rest = ap (λ n. 1 + n) rest

  position_of_number : (k : Numbered K) (ks : List (Numbered K))
      → position (nat_eq k.number) (keys_of (pairs ks)) ≡ position (is_same_number k) ks
  position_of_number k ks =
      let len : length (keys_of (pairs ks)) ≡ length ks = length-map (pairs ks) (λ p. p.0) ∙ length-map ks (λ (x : Numbered K). (x.number, x.at)) in
      (λ i. cond (nat_lt (or_len_of_number k ks i) (len i)) (Some (or_len_of_number k ks i)) None)

  -- once a number is removed, what is found of the others stays
  pub removed_other : (k : Numbered K) (ks : List (Numbered K)) → IsDistinct is_same_number ks → (other : ℕ) → nat_eq k.number other ≡ false
      → lookup (nat_eq other) (pairs (swap_remove_by (is_same_number k) ks)) ≡ lookup (nat_eq other) (pairs ks)
  removed_other k [] distinct other differs = refl
  removed_other k (x ∷ ks) distinct other differs = by (position (is_same_number k) (x ∷ ks)) refl
    where
      all : List (Numbered K)
      all = x ∷ ks

      pair : Numbered K → ℕ × ℕ
      pair y = (y.number, y.at)

      by : (r : Option ℕ) → position (is_same_number k) all ≡ r
          → lookup (nat_eq other) (pairs (option_map_or (λ i. swap_remove all i x) r all)) ≡ lookup (nat_eq other) (pairs all)
      by None is = refl
      by (Some i) is =
          let index = position_of_number k all ∙ is in
          let found = Found-position (nat_eq k.number) (pairs all) i index in
          let p = slice_index_or (pairs all) i (pair x) in
          let at = slice_get-get_or (pairs all) i (pair x) found.within in
          let same = map-swap_remove pair all i x (omega arith) ∙ swap_remove-default (pairs all) i (pair x) p (omega arith) in
          let out = swap_out nat_eq nat_eq_equiv (nat_eq k.number) (nat_eq_equiv.congr k.number) (pairs all) i p index at
          (distinct_numbers all distinct) (pairs (swap_remove all i x)) same in
          out.updated.2 other differs
