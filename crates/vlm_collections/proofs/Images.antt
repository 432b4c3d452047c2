-- What is among the images of a list.
use Rattle.std.proofs.Common.{◌≡◌, List, [], ◌∷◌, map, refl, sym, ap, ◌∙◌, subst, inl, inr}
use Rattle.vlm_collections.specs.Lists.{IsIn}

-- the image of one of the list
pub IsIn-image : {A B : Type 0} (f : A → B) (xs : List A) (x : A) → IsIn x xs → IsIn (f x) (map f xs)
IsIn-image f [] x found = absurd found
IsIn-image f (y ∷ ys) x found = elim found [ inl here ↦ inl (ap f here) | inr there ↦ inr (IsIn-image f ys x there) ]

-- an image is that of one of the list
pub IsIn-of_image : {A B : Type 0} (f : A → B) (xs : List A) (y : B) → IsIn y (map f xs) → (x : A) × (IsIn x xs × (f x ≡ y))
IsIn-of_image f [] y found = absurd found
IsIn-of_image f (x ∷ xs) y found =
    elim found [
      | inl here ↦ (x, (inl refl, here))
      | inr there ↦ let more = IsIn-of_image f xs y there in (more.0, (inr more.1.0, more.1.1))
    ]

-- an image that tells of what it is
pub IsIn-told : {A B : Type 0} (f : A → B) (told : B → A) → ((x : A) → told (f x) ≡ x) → (xs : List A) (y : B)
    → IsIn y (map f xs) → IsIn (told y) xs × (f (told y) ≡ y)
IsIn-told f told tells xs y found =
    let of = IsIn-of_image f xs y found in
    let is = ap told (sym of.1.1) ∙ tells of.0 in
    (subst (λ x. IsIn x xs) (sym is) of.1.0, ap f is ∙ of.1.1)
