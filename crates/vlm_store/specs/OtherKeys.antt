-- Resources by their keys, with a note of the hashes that occur.
use Rattle.std.specs.Prelude.{◌≡◌, ◌≤◌, ◌%◌, ℕ, Bool, true, false, length, slice_index_or, None, Some, IsSome, Result, IsOk, OnOk}
use Rattle.std.specs.Bool.{OnFalse, OnTrue}
use Rattle.indexmap.specs.IndexMap.{IndexMap, IsUnchanged, Updates, get, spare}
use Rattle.vlm_collections.specs.declared.hashers.HashSpread.{HashSpread}
use Rattle.vlm_store.specs.declared.hashed.HashedKey.{HashedKey}
use Rattle.vlm_store.specs.declared.other_keys.OtherKeys.TheInside.{Inside}
use Rattle.vlm_store.specs.HashedKeys.{is_same_hashed}

-- the handles of resources by their keys
abbrev pub KeyMap : Type 0
KeyMap = IndexMap HashedKey ℕ HashSpread

-- the remainder of each hash is noted, and room that is noted is there
pub record AreNoted (x : Inside) : Type 0 where
  pub size : length x.may_have ≡ 1024
  pub noted : (k : HashedKey) (at : ℕ) → get is_same_hashed x.resources k ≡ Some at
      → slice_index_or x.may_have (k.hash % 1024) false ≡ true
  pub room : x.has_room ≡ true → 1 ≤ spare x.resources

-- each key finds what it found
abbrev pub FindsSame : KeyMap → KeyMap → Type 0
FindsSame old new = (k : HashedKey) → get is_same_hashed new k ≡ get is_same_hashed old k

-- there is room for one more resource, or memory was refused
pub record HasRoomMade {A E : Type 0} (old new : KeyMap) (made : Result A E) : Type 0 where
  pub same : IsUnchanged old new
  pub room : spare old ≤ spare new
  pub find : OnOk made (1 ≤ spare new)
  pub succeeds : 1 ≤ spare old → IsOk made

-- a resource goes if it was here
pub record TakesOut (k : HashedKey) (old new : KeyMap) (was_here : Bool) : Type 0 where
  pub here : OnTrue was_here (IsSome (get is_same_hashed old k))
  pub absent : OnFalse was_here (get is_same_hashed old k ≡ None)
  pub updates : OnTrue was_here (Updates is_same_hashed old new k None)
  pub same : OnFalse was_here (FindsSame old new)
  pub room : spare old ≤ spare new
