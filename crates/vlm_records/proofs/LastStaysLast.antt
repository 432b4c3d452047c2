-- A lock that is last in its list and goes to the end of that list stays where it is.
use Rattle.std.proofs.Common.{◌≡◌, ◌≢◌, ℕ, List, [], ◌∷◌, ◌++◌, Option, None, Some, false, refl, sym, ap, ◌∙◌, inl, inr, eq-eqb, ne_eqb}
use Rattle.std.specs.Prelude.{is_some, if◌then◌else◌}
use Rattle.std.proofs.lemmas.Bool.{cases_eq}
use Rattle.std.proofs.lemmas.Option.{none-some}
use Rattle.vlm_collections.specs.Lists.{IsIn, first_handle, handle_after, without}
use Rattle.vlm_collections.proofs.HandleLists.{without_absent, without_head, without_past}
use Rattle.vlm_records.specs.declared.handles.Place.{Place}
use Rattle.vlm_records.specs.declared.queues.Queues.{Queues}
use Rattle.vlm_records.specs.Armed.{IsLast, StandsLast}
use Rattle.vlm_records.specs.Shown.{IsPlaced, handles_at, noted}
use Rattle.vlm_records.proofs.PlacesOnLists.{one_place}

pub is_nothing : (slot : Option ℕ) → is_some slot ≡ false → slot ≡ None
is_nothing None none = refl
is_nothing (Some k) none = cc

only_one : (at : ℕ) (ks : List ℕ) → first_handle ks ≡ None → at ∷ ks ≡ without at ks ++ at ∷ []
only_one at [] none = refl
only_one at (k ∷ ks) none = absurd (none-some k (sym none))

-- a handle that none follows is the last
pub none_after : (at : ℕ) (ks : List ℕ) → IsIn at ks → handle_after at ks ≡ None → IsLast at ks
none_after at [] found none = absurd found
none_after at (k ∷ ks) found none =
    elim (cases_eq k at) [
      | inl same ↦
          rw (without_head at k ks same, same)
          (only_one at ks (ap (λ b. if b then first_handle ks else handle_after at ks) (sym (eq-eqb k at same)) ∙ none))
      | inr differs ↦
          let there : IsIn at ks = elim found [ inl here ↦ absurd (differs here) | inr later ↦ later ] in
          rw (without_past at k ks differs)
          (ap (λ xs. k ∷ xs) (none_after at ks there (ap (λ b. if b then first_handle ks else handle_after at ks) (sym (ne_eqb k at differs)) ∙ none)))
    ]

-- it goes where it stands
module _ (q : Queues) (at : ℕ) (to : Place) (is : noted q at ≡ Some to) where
  pub stayed_here : StandsLast q at → (q' : Queues) → ((p : Place) → handles_at q' p ≡ handles_at q p)
      → handles_at q' to ≡ without at (handles_at q to) ++ at ∷ []
  stayed_here last q' handles = handles to ∙ last to is

  pub stayed_elsewhere : (q' : Queues) → ((p : Place) → handles_at q' p ≡ handles_at q p) → IsPlaced q None
      → (p : Place) → p ≢ to → handles_at q' p ≡ without at (handles_at q p)
  stayed_elsewhere q' handles placed p differs =
      handles p
      ∙ sym (without_absent at (handles_at q p)
      (λ found. differs (one_place q None placed at p to found
      (placed.stands to at (λ same. none-some at (sym same)) is))))
