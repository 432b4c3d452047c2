-- Indexes: they find each record by its label, and nothing else.
use Rattle.std.specs.Prelude.{◌≡◌, ℕ, nat_eq, replicate, List, Option, Some}
use Rattle.indexmap.specs.IndexMap.{IndexMap, get, spare}
use Rattle.vlm_collections.specs.declared.hashers.HashKeys.{HashKeys}
use Rattle.vlm_collections.specs.declared.hashers.HashSpread.{HashSpread}
use Rattle.vlm_collections.specs.Hashing.{hash_of}
use Rattle.vlm_words.specs.declared.resources.Key.{Key}
use Rattle.vlm_words.specs.NameWords.{hash_input}

-- the hash of a resource's key under the keys of the store
abbrev pub hash_key : HashKeys → Key → ℕ
hash_key keys key = hash_of keys (hash_input key)

-- every find is right, and every labelled record is found
pub record Indexes {K : Type 0} (found : K → Option ℕ) (label : ℕ → Option K) : Type 0 where
  pub sound : (k : K) (at : ℕ) → found k ≡ Some at → label at ≡ Some k
  pub complete : (k : K) (at : ℕ) → label at ≡ Some k → found k ≡ Some at

-- handles by number, in one map
abbrev pub HandleMap : Type 0
HandleMap = IndexMap ℕ ℕ HashSpread

-- the handle of a number, if it has one
abbrev pub handle_by : HandleMap → ℕ → Option ℕ
handle_by handles number = get nat_eq handles number

-- how many more numbers the map takes without an allocation; it has no parts, so any number may use all of this room
abbrev pub spares_by : HandleMap → List ℕ
spares_by handles = replicate 64 (spare handles)
