-- The order of making and each key stay as resources change.
use Rattle.std.proofs.Common.{◌≡◌, ℕ, Option, None, Some, refl, sym, ap, subst}
use Rattle.std.specs.Option.{option_map}
use Rattle.slab.specs.Slab.{Slab, get, ContainsKey}
use Rattle.vlm_collections.specs.declared.link.Links.{Links}
use Rattle.vlm_collections.specs.declared.lists.LinkedList.{LinkedList}
use Rattle.vlm_collections.specs.Lists.{IsIn, IsLinked, handles_of, next_in, prev_in}
use Rattle.vlm_collections.proofs.Rings.{kept-handles, kept-linked}
use Rattle.vlm_records.specs.declared.resources.InOrder.{InOrder}
use Rattle.vlm_records.specs.declared.resources.Resource.{Resource}
use Rattle.vlm_records.specs.Shown.{SameBut, order_links}
use Rattle.vlm_records.proofs.PlacesOnLists.{there_through, through}
use Rattle.vlm_store.specs.HashedKeys.{hashed_in}

module _ (part : Resource → Resource) (links : (r : Resource)
    → order_links (part r) ≡ order_links r) (old new : Slab Resource) (rest : SameBut part old new) where
  next_same : (k : ℕ) → next_in order_links (get new k) ≡ next_in order_links (get old k)
  next_same = through part (next_in order_links) apart old new rest
    where
      apart : (slot : Option Resource) → next_in order_links (option_map part slot) ≡ next_in order_links slot
      apart None = refl
      apart (Some r) = ap (λ (pair : Links). pair.next) (links r)

  prev_same : (k : ℕ) → prev_in order_links (get new k) ≡ prev_in order_links (get old k)
  prev_same = through part (prev_in order_links) apart old new rest
    where
      apart : (slot : Option Resource) → prev_in order_links (option_map part slot) ≡ prev_in order_links slot
      apart None = refl
      apart (Some r) = ap (λ (pair : Links). pair.prev) (links r)

  pub order_handles : (order : LinkedList InOrder) → IsLinked order_links old order → handles_of order_links new order ≡ handles_of order_links old order
  order_handles order linked = kept-handles order_links old new order linked (λ k _. next_same k) (λ k _. prev_same k)
      (λ k _. there_through part old new rest k)

  pub order_linked : (order : LinkedList InOrder) → IsLinked order_links old order → IsLinked order_links new order
  order_linked order linked = kept-linked order_links old new order linked (λ k _. next_same k) (λ k _. prev_same k) (λ k _. there_through part old new rest k)

  pub order_whole : (order : LinkedList InOrder) → IsLinked order_links old order → ((r : ℕ) → ContainsKey old r → IsIn r (handles_of order_links old order))
      → (r : ℕ) → ContainsKey new r → IsIn r (handles_of order_links new order)
  order_whole order linked ordered r there =
      subst (IsIn r) (sym (order_handles order linked))
      (ordered r (there_through part new old (λ k. sym (rest k)) r there))

-- what a resource is found by stays
pub keys_same : (part : Resource → Resource) → ((r : Resource) → hashed_in (part r) ≡ hashed_in r) → (old new : Slab Resource) → SameBut part old new
    → (k : ℕ) → option_map hashed_in (get new k) ≡ option_map hashed_in (get old k)
keys_same part under_handle old new rest = through part (option_map hashed_in) apart old new rest
  where
    apart : (slot : Option Resource) → option_map hashed_in (option_map part slot) ≡ option_map hashed_in slot
    apart None = refl
    apart (Some r) = ap Some (under_handle r)
