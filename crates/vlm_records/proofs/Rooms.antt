-- What becomes of the room of a slab.
use Rattle.std.proofs.Common.{◌≡◌, ℕ, suc, ◌+◌, ◌-◌, ◌<◌, ◌≤◌, List, [], ◌∷◌, true, false, Option, None, Some, IsSome}
use Rattle.std.proofs.Common.{filter, length, slice_index_or, refl, sym, ap, ◌∙◌, inl, inr, arith}
use Rattle.std.specs.Prelude.{is_some}
use Rattle.std.proofs.lemmas.Bool.{cases_eq}
use Rattle.std.proofs.lemmas.List.Sums.{length-filter}
use Rattle.slab.specs.Slab.{Slab, get, slab_len, ContainsKey, HasRoomFor, with_value}
use Rattle.slab.proofs.SlabLemmas.{Updates-with_value}
use Rattle.vlm_collections.specs.declared.link.Links.{Links}
use Rattle.vlm_collections.specs.Lists.{IsRelinked, Relinks}
use Rattle.vlm_records.specs.Shown.{room_in}

module _ {T : Type 0} where
  -- the same slots have a value
  same_slots : (xs ys : List (Option T))
      → ((k : ℕ) → is_some (slice_index_or xs k None) ≡ is_some (slice_index_or ys k None))
      → length (filter is_some xs) ≡ length (filter is_some ys)
  same_slots [] [] same = refl
  same_slots [] (None ∷ ys) same = same_slots [] ys (λ k. same (suc k))
  same_slots [] (Some y ∷ ys) same = let never : false ≡ true = same 0 in cc
  same_slots (None ∷ xs) [] same = same_slots xs [] (λ k. same (suc k))
  same_slots (Some x ∷ xs) [] same = let never : true ≡ false = same 0 in cc
  same_slots (None ∷ xs) (None ∷ ys) same = same_slots xs ys (λ k. same (suc k))
  same_slots (None ∷ xs) (Some y ∷ ys) same = let never : false ≡ true = same 0 in cc
  same_slots (Some x ∷ xs) (None ∷ ys) same = let never : true ≡ false = same 0 in cc
  same_slots (Some x ∷ xs) (Some y ∷ ys) same = ap suc (same_slots xs ys (λ k. same (suc k)))

  same_len : (old new : Slab T) → ((k : ℕ) → is_some (get new k) ≡ is_some (get old k)) → slab_len new ≡ slab_len old
  same_len old new same = sym (length-filter is_some new.slots) ∙ same_slots new.slots old.slots same ∙ length-filter is_some old.slots

  -- what the room is
  pub room_is : (nodes : Slab T) → room_in nodes ≡ (nodes.capacity - slab_len nodes, nodes.vacant_key)
  unfolding room_in
  room_is nodes = refl

  -- the room stays where the same handles have a record
  pub room_same : (old new : Slab T) → ((k : ℕ) → is_some (get new k) ≡ is_some (get old k))
      → new.capacity ≡ old.capacity → new.vacant_key ≡ old.vacant_key → room_in new ≡ room_in old
  room_same old new same capacity next =
      room_is new
      ∙ ap (λ n. (new.capacity - n, new.vacant_key)) (same_len old new same)
      ∙ ap (λ n. (n - slab_len old, new.vacant_key)) capacity ∙ ap (λ k. (old.capacity - slab_len old, k)) next
      ∙ sym (room_is old)

  is_there : (slot : Option T) → IsSome slot → is_some slot ≡ true
  is_there None there = cc
  is_there (Some x) there = refl

  -- the room stays where a record is written
  pub room_written : (nodes : Slab T) (handle : ℕ) (value : T) → ContainsKey nodes handle → room_in (with_value nodes handle value) ≡ room_in nodes
  room_written nodes handle value there =
      let updates = Updates-with_value nodes handle value there in
      room_same nodes (with_value nodes handle value)
      (λ k. elim (cases_eq k handle) [
        | inl same ↦ ap (λ x. is_some (get (with_value nodes handle value) x)) same ∙ ap is_some updates.changed
            ∙ sym (ap (λ x. is_some (get nodes x)) same ∙ is_there (get nodes handle) there)
        | inr differs ↦ ap is_some (updates.others k differs)
      ]) refl refl

  relinked_there : (with_links : T → Links → T) (old new : Option T) → IsRelinked with_links old new → is_some new ≡ is_some old
  relinked_there with_links None new is = ap is_some is
  relinked_there with_links (Some r) new is = ap is_some is.1

  -- and where records are linked
  pub room_relinked : (with_links : T → Links → T) (old new : Slab T) → Relinks with_links old new → room_in new ≡ room_in old
  room_relinked with_links old new relinks =
      room_same old new (λ k. relinked_there with_links (get old k) (get new k)
      (relinks.records k)) relinks.capacity relinks.vacant_key

  -- a record is taken in
  pub room_taken : (old new : Slab T) → HasRoomFor old 1 → slab_len new ≡ slab_len old + 1 → new.capacity ≡ old.capacity → (room_in new).0 + 1 ≡ (room_in old).0
  room_taken old new room len capacity =
      let is : (room_in old).0 ≡ old.capacity - slab_len old = ap (λ (p : ℕ × ℕ). p.0) (room_is old) in
      let becomes : (room_in new).0 ≡ new.capacity - slab_len new = ap (λ (p : ℕ × ℕ). p.0) (room_is new) in
      omega arith

  -- a record is removed
  pub room_given_back : (old new : Slab T) (handle : ℕ) → HasRoomFor new 1 → slab_len new + 1 ≡ slab_len old
      → new.capacity ≡ old.capacity → new.vacant_key ≡ handle → room_in new ≡ ((room_in old).0 + 1, handle)
  room_given_back old new handle room len capacity next =
      let is : (room_in old).0 ≡ old.capacity - slab_len old = ap (λ (p : ℕ × ℕ). p.0) (room_is old) in
      let slots : new.capacity - slab_len new ≡ (room_in old).0 + 1 = omega arith in
      room_is new ∙ ap (λ n. (n, new.vacant_key)) slots ∙ ap (λ k. ((room_in old).0 + 1, k)) next

  -- room is made
  pub room_reserved : (old new : Slab T) → new ≡ record old { capacity = new.capacity } → old.capacity ≤ new.capacity
      → ((room_in old).0 ≤ (room_in new).0) × ((room_in new).1 ≡ (room_in old).1)
  room_reserved old new is more =
      let was : (room_in old).0 ≡ old.capacity - slab_len old = ap (λ (p : ℕ × ℕ). p.0) (room_is old) in
      let len : slab_len new ≡ slab_len old = ap slab_len is in
      let now : (room_in new).0 ≡ new.capacity - slab_len new = ap (λ (p : ℕ × ℕ). p.0) (room_is new) in
      (omega arith, ap (λ (p : ℕ × ℕ). p.1) (room_is new) ∙ ap (λ (x : Slab T). x.vacant_key) is ∙ sym (ap (λ (p : ℕ × ℕ). p.1) (room_is old)))

  -- room for one more
  pub room_has : (nodes : Slab T) → 0 < (room_in nodes).0 → HasRoomFor nodes 1
  room_has nodes some =
      let is : (room_in nodes).0 ≡ nodes.capacity - slab_len nodes = ap (λ (p : ℕ × ℕ). p.0) (room_is nodes) in
      omega arith

  pub room_handle : (nodes : Slab T) → (room_in nodes).1 ≡ nodes.vacant_key
  room_handle nodes = ap (λ (p : ℕ × ℕ). p.1) (room_is nodes)

  pub room_slot : (nodes : Slab T) → HasRoomFor nodes 1 → 0 < (room_in nodes).0
  room_slot nodes room =
      let is : (room_in nodes).0 ≡ nodes.capacity - slab_len nodes = ap (λ (p : ℕ × ℕ). p.0) (room_is nodes) in
      omega arith
