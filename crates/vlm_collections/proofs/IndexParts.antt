-- What an index in parts finds, and how much room it has, as one of its parts is written.
use Rattle.std.proofs.Common.{◌≡◌, ◌≢◌, ◌+◌, ◌≤◌, ◌<◌, ℕ, zero, suc, Bool, true, false, nat_eq, List, [], ◌∷◌, Option}
use Rattle.std.proofs.Common.{None, Some, length, slice_get, slice_index_or, set, refl, sym, ap}
use Rattle.std.proofs.Common.{◌∙◌, inl, inr, arith}
use Rattle.std.specs.Cmp.{unsigned_Decides}
use Rattle.std.specs.Map.{lookup}
use Rattle.std.specs.Option.{option_map_or}
use Rattle.std.proofs.lemmas.Bool.{cases_eq}
use Rattle.std.proofs.lemmas.Option.{get_or_from_slice_get, slice_get-get_or}
use Rattle.indexmap.specs.IndexMap.{IndexMap, get, spare, IsEmpty}
use Rattle.vlm_collections.specs.declared.hashers.HashSpread.{HashSpread}
use Rattle.vlm_collections.specs.NumberMaps.{WritesOne}
use Rattle.vlm_collections.specs.Parts.{FindsSame, KeepsSpares, Parts, UsesOneSpare, Writes, handle_in, part_of, spare_for, spares_of}

get_set_same : {X : Type 0} (xs : List X) (i : ℕ) (x : X) → i < length xs → slice_get (set xs i x) i ≡ Some x
get_set_same [] i x within = absurd (omega (arith, within))
get_set_same (y ∷ xs) zero x within = refl
get_set_same (y ∷ xs) (suc i) x within = get_set_same xs i x (omega (arith, within))

get_set_other : {X : Type 0} (xs : List X) (i j : ℕ) (x : X) → j ≢ i → slice_get (set xs i x) j ≡ slice_get xs j
get_set_other [] i j x differs = refl
get_set_other (y ∷ xs) zero zero x differs = absurd (differs refl)
get_set_other (y ∷ xs) zero (suc j) x differs = refl
get_set_other (y ∷ xs) (suc i) zero x differs = refl
get_set_other (y ∷ xs) (suc i) (suc j) x differs = get_set_other xs i j x (λ same. differs (ap suc same))

-- the room of a number is that of its part
spare_of_part : (parts : Parts) (k : ℕ) → slice_index_or (spares_of parts) k 0 ≡ option_map_or spare (slice_get parts k) 0
spare_of_part [] k = refl
spare_of_part (part ∷ parts) zero = refl
spare_of_part (part ∷ parts) (suc k) = spare_of_part parts k

-- empty parts find nothing
pub none_found : (parts : Parts)
    → ((k : ℕ) (part : IndexMap ℕ ℕ HashSpread) → k < 64 → IsEmpty (slice_index_or parts k part)) → (number : ℕ)
    → handle_in parts number ≡ None
unfolding handle_in
none_found parts empty number = by_slot (slice_get parts (part_of number)) refl
  where
    by_slot : (slot : Option (IndexMap ℕ ℕ HashSpread)) → slice_get parts (part_of number) ≡ slot
        → option_map_or (λ part. get nat_eq part number) slot None ≡ None
    by_slot None is = refl
    by_slot (Some part) is =
        let none = ap (λ (m : IndexMap ℕ ℕ HashSpread). m.entries)
        (sym (get_or_from_slice_get parts (part_of number) part part is))
        ∙ empty (part_of number) part (omega arith) in
        ap (lookup (nat_eq number)) none

module _ (parts : Parts) (number : ℕ) (other_part : IndexMap ℕ ℕ HashSpread) (sized : length parts ≡ 64) where
  abbrev part : IndexMap ℕ ℕ HashSpread
  part = slice_index_or parts (part_of number) other_part

  within : part_of number < length parts
  within = omega (arith, sized)

  here : slice_get parts (part_of number) ≡ Some part
  here = slice_get-get_or parts (part_of number) other_part within

  -- the part of a number finds it
  pub found_here : handle_in parts number ≡ get nat_eq part number
  unfolding handle_in
  found_here = ap (λ x. option_map_or (λ m. get nat_eq m number) x None) here

  pub spare_here : spare_for (spares_of parts) number ≡ spare part
  unfolding spare_for
  spare_here = spare_of_part parts (part_of number) ∙ ap (λ x. option_map_or spare x 0) here

  module _ (part' : IndexMap ℕ ℕ HashSpread) where
    abbrev written : Parts
    written = set parts (part_of number) part'

    found_same_part : (other : ℕ) → part_of other ≡ part_of number → handle_in written other ≡ get nat_eq part' other
    unfolding handle_in
    found_same_part other same =
        ap (λ x. option_map_or (λ m. get nat_eq m other) x None) (ap (slice_get written) same ∙ get_set_same parts (part_of number) part' within)

    found_before : (other : ℕ) → part_of other ≡ part_of number → handle_in parts other ≡ get nat_eq part other
    unfolding handle_in
    found_before other same =
        ap (λ x. option_map_or (λ m. get nat_eq m other) x None) (ap (slice_get parts) same ∙ here)

    found_other_part : (other : ℕ) → part_of other ≢ part_of number → handle_in written other ≡ handle_in parts other
    unfolding handle_in
    found_other_part other differs =
        ap (λ x. option_map_or (λ m. get nat_eq m other) x None) (get_set_other parts (part_of number) (part_of other) part' differs)

    -- what is found of a number changes only where its part finds something else
    found_by_parts : (other : ℕ) → get nat_eq part' other ≡ get nat_eq part other → handle_in written other ≡ handle_in parts other
    found_by_parts other same_in = elim (cases_eq (part_of other) (part_of number)) [
      | inl same ↦ found_same_part other same ∙ same_in ∙ sym (found_before other same)
      | inr differs ↦ found_other_part other differs
    ]

    -- the part finds what it found
    pub same_written : ((other : ℕ) → get nat_eq part' other ≡ get nat_eq part other) → FindsSame parts written
    same_written same other = found_by_parts other (same other)

    -- one number is given a handle, or loses its own
    pub part_written : (handle : Option ℕ) → WritesOne number handle part part' → Writes number handle parts written
    part_written handle writes = record {
      this = found_same_part number refl ∙ writes.this;
      others = λ other differs. found_by_parts other (writes.others other (not_equal differs));
    }
      where
        not_equal : {other : ℕ} → ¬ (other ≡ number) → nat_eq number other ≡ false
        not_equal {other} differs = by_test (nat_eq number other) refl
          where
            by_test : (b : Bool) → nat_eq number other ≡ b → nat_eq number other ≡ false
            by_test true is = absurd (differs (sym ((unsigned_Decides number other).0 is)))
            by_test false is = is

    spare_after : (other : ℕ) → part_of other ≡ part_of number → spare_for (spares_of written) other ≡ spare part'
    unfolding spare_for
    spare_after other same =
        spare_of_part written (part_of other)
        ∙ ap (λ x. option_map_or spare x 0) (ap (slice_get written) same ∙ get_set_same parts (part_of number) part' within)

    spare_before : (other : ℕ) → part_of other ≡ part_of number → spare_for (spares_of parts) other ≡ spare part
    unfolding spare_for
    spare_before other same = spare_of_part parts (part_of other) ∙ ap (λ x. option_map_or spare x 0) (ap (slice_get parts) same ∙ here)

    spare_other : (other : ℕ) → part_of other ≢ part_of number → spare_for (spares_of written) other ≡ spare_for (spares_of parts) other
    unfolding spare_for
    spare_other other differs =
        spare_of_part written (part_of other)
        ∙ ap (λ x. option_map_or spare x 0) (get_set_other parts (part_of number) (part_of other) part' differs)
        ∙ sym (spare_of_part parts (part_of other))

    pub spare_written : spare_for (spares_of written) number ≡ spare part'
    spare_written = spare_after number refl

    -- the part keeps its room
    pub spares_kept : spare part ≤ spare part' → KeepsSpares (spares_of parts) (spares_of written)
    spares_kept keeps other = elim (cases_eq (part_of other) (part_of number)) [
      | inl same ↦ omega (arith, spare_before other same, spare_after other same, keeps)
      | inr differs ↦ omega (arith, spare_other other differs)
    ]

    -- the part takes one number fewer at most
    pub spare_used : spare part ≤ spare part' + 1 → UsesOneSpare (spares_of parts) (spares_of written)
    spare_used used other = elim (cases_eq (part_of other) (part_of number)) [
      | inl same ↦ omega (arith, spare_before other same, spare_after other same, used)
      | inr differs ↦ omega (arith, spare_other other differs)
    ]
