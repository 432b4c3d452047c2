-- What stays as a list changes, and which lists stay as a record comes, goes or is written: for callers.
use Rattle.std.proofs.Common.{◌≡◌, ℕ, Option, None, Some, IsSome, ap, ◌∙◌, subst}
use Rattle.slab.specs.Slab.{Slab, get, ContainsKey, Updates}
use Rattle.vlm_collections.specs.declared.link.Links.{Links}
use Rattle.vlm_collections.specs.declared.lists.LinkedList.{LinkedList}
use Rattle.vlm_collections.specs.Lists.{IsIn, IsLinked, IsRelinked, Relinks, handles_of}
use Rattle.vlm_collections.proofs.Rings.{same-handles, same-linked}

-- what is read off a record, and is none of its neighbours of this kind, stays
pub relinked_same : {T X : Type 0} (with_links : T → Links → T) (read : Option T → X)
    → ((r : T) (pair : Links) → read (Some (with_links r pair)) ≡ read (Some r))
    → (old new : Slab T) → Relinks with_links old new → (handle : ℕ) → read (get new handle) ≡ read (get old handle)
relinked_same {T} {X} with_links read apart old new relinks handle = slot_same (get old handle) (get new handle) (relinks.records handle)
  where
    slot_same : (was now : Option T) → IsRelinked with_links was now → read now ≡ read was
    slot_same None now is = ap read is
    slot_same (Some r) now is = ap read is.1 ∙ apart r is.0

module _ {T : Type 0} (links : T → Links) {Kind : Type 0} where
  -- a handle without a record is in no list
  pub vacant_unlisted : (nodes : Slab T) (list : LinkedList Kind) → IsLinked links nodes list → (handle : ℕ)
      → get nodes handle ≡ None → ¬ IsIn handle (handles_of links nodes list)
  vacant_unlisted nodes list linked handle vacant found =
      let there : ContainsKey nodes handle = linked.present handle found in
      let nothing : IsSome {T = T} None = rw vacant at there in
      absurd (cc)

  -- a record is added, removed or written that is not in the list
  module _ (old new : Slab T) (handle : ℕ) (slot : Option T) (updates : Updates old new handle slot) (list : LinkedList Kind) (linked : IsLinked links old list)
      (unlisted : ¬ IsIn handle (handles_of links old list)) where
    same_record : (other : ℕ) → IsIn other (handles_of links old list) → get new other ≡ get old other
    same_record other found = updates.others other (λ same. unlisted (subst (λ k. IsIn k (handles_of links old list)) same found))

    pub updated-handles : handles_of links new list ≡ handles_of links old list
    updated-handles = same-handles links old new list linked same_record

    pub updated-linked : IsLinked links new list
    updated-linked = same-linked links old new list linked same_record
