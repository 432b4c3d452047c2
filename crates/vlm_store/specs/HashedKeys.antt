-- Keys with their hashes.
use Rattle.std.specs.Prelude.{◌≡◌, ◌&&◌, ◌==◌, ℕ, Bool, Option}
use Rattle.std.specs.Bool.{Decides}
use Rattle.std.specs.Cmp.{unsigned_Decides}
use Rattle.std.specs.Hash as fed
use Rattle.std.specs.Hash.{HashWrites}
use Rattle.std.specs.Option.{option_map}
use Rattle.std.proofs.Common.{ap, ◌∙◌}
use Rattle.std.proofs.lemmas.Bool.{and_from, and_parts}
use Rattle.slab.specs.Slab.{get}
use Rattle.vlm_words.specs.declared.resources.Key.{Key}
use Rattle.vlm_words.specs.Keys.{is_same_key, is_same_key-Decides}
use Rattle.vlm_records.specs.declared.queues.Queues.{Queues}
use Rattle.vlm_records.specs.declared.resources.Resource.{Resource}
use Rattle.vlm_store.specs.declared.hashed.HashedKey.{HashedKey}

-- the same key with the same hash
abbrev pub is_same_hashed : HashedKey → HashedKey → Bool
is_same_hashed a b = (a.hash == b.hash) && is_same_key a.key b.key

-- only the hash is fed to the hasher
abbrev pub hashed_input : HashedKey → HashWrites
hashed_input k = fed.u32 k.hash

-- the comparison decides equality
pub is_same_hashed-Decides : (a b : HashedKey) → Decides (is_same_hashed a b) (a ≡ b)
is_same_hashed-Decides a b = (
  λ h.
      let parts = and_parts (a.hash == b.hash) (is_same_key a.key b.key) h in
      let hash : a.hash ≡ b.hash = (unsigned_Decides a.hash b.hash).0 parts.0 in
      let key : a.key ≡ b.key = (is_same_key-Decides a.key b.key).0 parts.1 in
      ap (λ (n : ℕ). record a { hash = n }) hash ∙ ap (λ (x : Key). record b { key = x }) key,
  λ e.
      and_from (a.hash == b.hash) (is_same_key a.key b.key)
      ((unsigned_Decides a.hash b.hash).1 (ap (λ (k : HashedKey). k.hash) e))
      ((is_same_key-Decides a.key b.key).1 (ap (λ (k : HashedKey). k.key) e)),
)

-- a key with its hash
abbrev pub hashed : (Key → ℕ) → Key → HashedKey
hashed hash key = record { key = key; hash = hash key }

-- the key and the hash that a resource records
abbrev pub hashed_in : Resource → HashedKey
hashed_in r = record { key = r.key; hash = r.hash }

-- the key and the hash of the resource with this handle
abbrev pub hashed_at : Queues → ℕ → Option HashedKey
hashed_at q res = option_map hashed_in (get q.resources res)
