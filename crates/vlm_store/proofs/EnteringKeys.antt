-- A lock or a resource enters its index. The room of the index may have grown before.
use Rattle.std.proofs.Common.{◌≡◌, ℕ, Bool, true, false, List, is_none, Option, None, Some, Result, Ok, Err, IfOk, IsOk, true≢false, refl, ap}
use Rattle.std.proofs.Common.{◌∙◌, sym, subst}
use Rattle.std.specs.Bool.{OnTrue}
use Rattle.std.proofs.lemmas.Bool.{OnTrue_at}
use Rattle.indexmap.specs.IndexMap.{Updates, hasher_of, spare}
use Rattle.indexmap.specs.Layout.{hash_map}
use Rattle.vlm_store.specs.declared.hashed.HashedKey.{HashedKey}
use Rattle.vlm_store.specs.declared.key_index.KeyIndex.{KeyIndex}
use Rattle.vlm_store.specs.HashedKeys.{is_same_hashed}
use Rattle.vlm_store.specs.KeyIndexes.{Enters, EntersBy, main_of}
use Rattle.vlm_store.specs.OtherKeys.{KeyMap}

-- an update of a map is one of each map with the same entries
updates_same : (old mid new : KeyMap) (k : HashedKey) (at : ℕ) → mid.entries ≡ old.entries
    → Updates is_same_hashed mid new k (Some at) → Updates is_same_hashed old new k (Some at)
updates_same old mid new k at same updates =
    subst (λ (es : List (HashedKey × ℕ)). Updates is_same_hashed (hash_map es (hasher_of old) (spare old)) new k (Some at)) same updates

-- a resource whose hash another has goes to `others`
pub enters_others : (old mid new : KeyIndex) (k : HashedKey) (at : ℕ) → ((hash : ℕ) → main_of mid hash ≡ main_of old hash)
    → mid.others.entries ≡ old.others.entries → false ≡ is_none (main_of mid k.hash)
    → Updates is_same_hashed mid.others new.others k (Some at) → ((hash : ℕ) → main_of new hash ≡ main_of mid hash) → Enters k at old new
enters_others old mid new k at main entries taken updates same = by_main (main_of old k.hash) refl
  where
    by_main : (there : Option ℕ) → main_of old k.hash ≡ there → EntersBy there k at old new
    by_main None none = absurd (true≢false (sym (ap is_none (main k.hash ∙ none)) ∙ sym taken))
    by_main (Some before) some = (updates_same old.others mid.others new.others k at entries updates, λ hash. same hash ∙ main hash)

-- a new number is written
pub written : {E A : Type 0} {new : Bool} (r : Result Bool E) → IsOk r → IfOk r (λ is. is ≡ new) → new ≡ true → IfOk r (λ is. OnTrue is A) → A
written (Ok is) ok same fresh writes = OnTrue_at (same ∙ fresh) writes
written (Err e) ok same fresh writes = absurd (true≢false (sym ok))
