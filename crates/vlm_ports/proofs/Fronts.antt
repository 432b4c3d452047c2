-- Lists that end with others.
use Rattle.std.proofs.Common.{◌≡◌, ◌-◌, ◌<◌, ◌++◌, ℕ, suc, List, [], ◌∷◌, length, get_or, map, take, refl, sym, ap, ◌∙◌, arith, append_assoc, append-nil}
use Rattle.std.proofs.lemmas.List.{length-append}
use Rattle.std.proofs.Math.Seq.{take-append_seam}
use Rattle.vlm_ports.specs.Links.{front}

module _ {X : Type 0} where
  -- what stands before the last
  front_is : (f xs : List X) → front (f ++ xs) xs ≡ f
  front_is f xs =
      let long : length (f ++ xs) - length xs ≡ length f = (let sum = length-append f xs in omega (arith, sum)) in
      ap (λ n. take n (f ++ xs)) long ∙ take-append_seam f xs

  pub front_of : (all f xs : List X) → all ≡ f ++ xs → front all xs ≡ f
  front_of all f xs is = ap (λ (ys : List X). front ys xs) is ∙ front_is f xs

  -- more behind both
  more_behind : (all xs more : List X) → all ≡ front all xs ++ xs → all ++ more ≡ front all xs ++ (xs ++ more)
  more_behind all xs more is = ap (λ (ys : List X). ys ++ more) is ∙ append_assoc (front all xs) xs more

  pub front_stays : (all now xs ys more : List X) → all ≡ front all xs ++ xs → now ≡ all ++ more → ys ≡ xs ++ more → front now ys ≡ front all xs
  front_stays all now xs ys more is grown asked =
      front_of now (front all xs) ys (grown ∙ more_behind all xs more is ∙ ap (λ (zs : List X). front all xs ++ zs) (sym asked))

  pub still_ends : (all now xs ys more : List X) → all ≡ front all xs ++ xs → now ≡ all ++ more → ys ≡ xs ++ more → now ≡ front now ys ++ ys
  still_ends all now xs ys more is grown asked =
      grown ∙ more_behind all xs more is
      ∙ ap (λ (zs : List X). front all xs ++ zs) (sym asked)
      ∙ ap (λ (f : List X). f ++ ys) (sym (front_stays all now xs ys more is grown asked))

  -- each list ends with nothing
  pub front_all : (all : List X) → front all [] ≡ all
  front_all all = front_of all all [] (sym (append-nil all))

  pub ends_with_none : (all : List X) → all ≡ front all [] ++ []
  ends_with_none all = sym (front_all all) ∙ sym (append-nil (front all []))

-- lists whose elements give the same place by place
pub same_maps : {X Y : Type 0} (f g : X → Y) (xs ys : List X) → length xs ≡ length ys
    → ((k : ℕ) (d : X) → k < length ys → f (get_or xs k d) ≡ g (get_or ys k d)) → map f xs ≡ map g ys
same_maps f g [] [] long same = refl
same_maps f g [] (y ∷ ys) long same = absurd (omega (arith, long))
same_maps f g (x ∷ xs) [] long same = absurd (omega (arith, long))
same_maps {X} {Y} f g (x ∷ xs) (y ∷ ys) long same =
    let rest = same_maps f g xs ys (omega (arith, long)) (λ k d within. same (suc k) d (omega (arith, within))) in
    ap (λ (z : Y). z ∷ map f xs) (same 0 x (omega arith)) ∙ ap (λ (zs : List Y). g y ∷ zs) rest
