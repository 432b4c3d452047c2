-- Maps from numbers to handles, kept as sets.
use Rattle.std.specs.Prelude.{◌≡◌, ℕ, Bool, false, nat_eq, List, map, Option}
use Rattle.std.specs.Cmp.{IsEquivalence, nat_eq_equiv, unsigned_Decides}
use Rattle.std.specs.Hash as fed
use Rattle.std.specs.Hash.{Alike, HashWrites, on_Alike, same_Alike}
use Rattle.indexmap.specs.IndexMap.{IndexMap, get}
use Rattle.indexmap.specs.IndexSet.{IndexSet, hasher_of, spare}
use Rattle.indexmap.specs.Layout.{hash_map}
use Rattle.vlm_collections.specs.declared.hashers.HashSpread.{HashSpread}
use Rattle.vlm_collections.specs.declared.number_map.Numbered.{Numbered}

-- the same number, whatever the handles
abbrev pub is_same_number : {K : Type 0} → Numbered K → Numbered K → Bool
is_same_number a b = nat_eq a.number b.number

pub is_same_number-IsEquivalence : {K : Type 0} → IsEquivalence (is_same_number {K = K})
is_same_number-IsEquivalence = record {
  refl = λ x. nat_eq_equiv.refl x.number;
  symm = λ x y. nat_eq_equiv.symm x.number y.number;
  congr = λ x y z. nat_eq_equiv.congr x.number y.number z.number;
}

-- only the number is fed to the hasher
abbrev pub number_input : {K : Type 0} → Numbered K → HashWrites
number_input x = fed.u32 x.number

pub number_input-Alike : {K : Type 0} → Alike (is_same_number {K = K}) number_input
number_input-Alike {K} = on_Alike (λ (x : Numbered K). x.number) (same_Alike fed.u32 unsigned_Decides)

-- numbers with their handles as pairs
abbrev pub pairs : {K : Type 0} → List (Numbered K) → List (ℕ × ℕ)
pairs numbered = map (λ x. (x.number, x.at)) numbered

-- a set of them as a map
abbrev pub handles_by_number : {K : Type 0} → IndexSet (Numbered K) HashSpread → IndexMap ℕ ℕ HashSpread
handles_by_number s = hash_map (pairs s.keys) (hasher_of s) (spare s)

-- this number gets this handle or loses its handle; the others keep theirs
pub record WritesOne (number : ℕ) (handle : Option ℕ) (old new : IndexMap ℕ ℕ HashSpread) : Type 0 where
  pub this : get nat_eq new number ≡ handle
  pub others : (other : ℕ) → nat_eq number other ≡ false → get nat_eq new other ≡ get nat_eq old other
