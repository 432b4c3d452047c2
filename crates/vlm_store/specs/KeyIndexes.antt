-- The index of resources: what it finds, and how it changes.
use Rattle.std.specs.Prelude.{◌≡◌, ◌⊎◌, ℕ, Bool, false, min, map, List, Option, None, Some, if◌then◌else◌}
use Rattle.std.specs.Option.{option_map_or}
use Rattle.slab.specs.Slab.{Slab, get as slot_of}
use Rattle.indexmap.specs.IndexMap.{get, spare, Updates}
use Rattle.vlm_collections.specs.Parts.{Writes, handle_in, spares_of}
use Rattle.vlm_words.specs.declared.resources.Key.{Key}
use Rattle.vlm_words.specs.Keys.{is_same_key}
use Rattle.vlm_records.specs.declared.resources.Resource.{Resource}
use Rattle.vlm_store.specs.declared.hashed.HashedKey.{HashedKey}
use Rattle.vlm_store.specs.declared.key_index.KeyIndex.{KeyIndex}
use Rattle.vlm_store.specs.HashedKeys.{is_same_hashed}

-- the resource that `main` has for this hash
abbrev pub main_of : KeyIndex → ℕ → Option ℕ
main_of x hash = handle_in x.main hash

-- the resource in `others` with this key and hash
abbrev pub other_of : KeyIndex → HashedKey → Option ℕ
other_of x k = get is_same_hashed x.others k

-- the resource has this key
abbrev pub has_key : Key → Option Resource → Bool
has_key key slot = option_map_or (λ r. is_same_key r.key key) slot false

-- the first handle if its resource has the key, else the other
abbrev pub if_its : Slab Resource → Key → Option ℕ → Option ℕ → Option ℕ
if_its resources key None other = other
if_its resources key (Some at) other = if has_key key (slot_of resources at) then Some at else other

-- the resource that the index finds: that of `main` if it has the key, else one in `others`
abbrev pub found_by : KeyIndex → Slab Resource → HashedKey → Option ℕ
found_by x resources k = if_its resources k.key (main_of x k.hash) (other_of x k)

-- how many more resources each part of the index takes without an allocation
abbrev pub spares_in : KeyIndex → List ℕ
spares_in x = map (min (spare x.others)) (spares_of x.main)

-- the index is empty
pub record FindsNothing (x : KeyIndex) : Type 0 where
  pub no_main : (hash : ℕ) → main_of x hash ≡ None
  pub no_other : (k : HashedKey) → other_of x k ≡ None

-- the index finds the same
pub record IsSame (old new : KeyIndex) : Type 0 where
  pub main : (hash : ℕ) → main_of new hash ≡ main_of old hash
  pub other : (k : HashedKey) → other_of new k ≡ other_of old k

-- the resource with this key and hash goes to `main`, or to `others` if another has its hash
abbrev pub EntersBy : Option ℕ → HashedKey → ℕ → KeyIndex → KeyIndex → Type 0
EntersBy None k at old new = ((j : HashedKey) → other_of new j ≡ other_of old j)
    × Writes k.hash (Some at) old.main new.main
EntersBy (Some before) k at old new = Updates is_same_hashed old.others new.others k (Some at)
    × ((hash : ℕ) → main_of new hash ≡ main_of old hash)

-- the resource with this key and hash enters the index
abbrev pub Enters : HashedKey → ℕ → KeyIndex → KeyIndex → Type 0
Enters k at old new = EntersBy (main_of old k.hash) k at old new

-- the resource with this key and hash leaves `others`, or else `main`
abbrev pub LeavesBy : Option ℕ → HashedKey → KeyIndex → KeyIndex → Type 0
LeavesBy None k old new = ((j : HashedKey) → other_of new j ≡ other_of old j) × Writes k.hash None old.main new.main
LeavesBy (Some at) k old new = Updates is_same_hashed old.others new.others k None
    × ((hash : ℕ) → main_of new hash ≡ main_of old hash)

-- the resource with this key and hash leaves the index
abbrev pub Leaves : HashedKey → KeyIndex → KeyIndex → Type 0
Leaves k old new = LeavesBy (other_of old k) k old new

-- the index finds each resource by the key and hash that it records, and no two resources have one key
pub record IsIndexed (x : KeyIndex) (label : ℕ → Option HashedKey) : Type 0 where
  pub main_is : (hash at : ℕ) → main_of x hash ≡ Some at → (k : HashedKey) × ((label at ≡ Some k) × (k.hash ≡ hash))
  pub other_is : (k : HashedKey) (at : ℕ) → other_of x k ≡ Some at
      → (label at ≡ Some k) × ¬ (main_of x k.hash ≡ Some at)
  pub listed : (at : ℕ) (k : HashedKey) → label at ≡ Some k → (main_of x k.hash ≡ Some at) ⊎ (other_of x k ≡ Some at)
  pub apart : (a b : ℕ) (k : HashedKey) → label a ≡ Some k → label b ≡ Some k → a ≡ b

-- the index of the store: each recorded hash is the hash of the key
pub record IsHashed (hash : Key → ℕ) (x : KeyIndex) (label : ℕ → Option HashedKey) : Type 0 where
  pub indexed : IsIndexed x label
  pub hashes : (at : ℕ) (k : HashedKey) → label at ≡ Some k → k.hash ≡ hash k.key
