-- The room in the index of resources.
use Rattle.std.proofs.Common.{◌≡◌, ◌≤◌, ◌+◌, ℕ, zero, suc, List, [], ◌∷◌, map, min, slice_index_or, refl, arith}
use Rattle.indexmap.specs.IndexMap.{spare}
use Rattle.vlm_collections.specs.Parts.{KeepsSpares, UsesOneSpare, part_of, spare_for, spares_of}
use Rattle.vlm_store.specs.declared.key_index.KeyIndex.{KeyIndex}
use Rattle.vlm_store.specs.KeyIndexes.{spares_in}

least_at : (n : ℕ) (spares : List ℕ) (k : ℕ) → slice_index_or (map (min n) spares) k 0 ≡ min n (slice_index_or spares k 0)
least_at n [] k = omega arith
least_at n (spare ∷ spares) zero = refl
least_at n (spare ∷ spares) (suc k) = least_at n spares k

-- the index takes so many more as both its maps do
pub spare_is : (x : KeyIndex) (hash : ℕ) → spare_for (spares_in x) hash ≡ min (spare x.others) (spare_for (spares_of x.main) hash)
unfolding spare_for
spare_is x hash = least_at (spare x.others) (spares_of x.main) (part_of hash)

-- both keep their room
pub both_kept : (old new : KeyIndex) → spare old.others ≤ spare new.others
    → KeepsSpares (spares_of old.main) (spares_of new.main) → KeepsSpares (spares_in old) (spares_in new)
both_kept old new others last hash = omega (arith, spare_is old hash, spare_is new hash, others, last hash)

-- each takes one fewer at most
pub both_used : (old new : KeyIndex) → spare old.others ≤ spare new.others + 1
    → UsesOneSpare (spares_of old.main) (spares_of new.main) → UsesOneSpare (spares_in old) (spares_in new)
both_used old new others last hash = omega (arith, spare_is old hash, spare_is new hash, others, last hash)
