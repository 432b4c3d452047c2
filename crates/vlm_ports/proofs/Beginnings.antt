-- Beginnings of lists: as many elements as they are long.
use Rattle.std.proofs.Common.{◌≡◌, ◌≤◌, List, [], ◌++◌, length, take, drop, ap, sym, ◌∙◌, subst}
use Rattle.std.proofs.lemmas.List.{append-nil, take-append-drop, take-take, take_all}
use Rattle.std.proofs.Math.Seq.{take-append_seam}
use mathlib.Core.List.{IsPrefix}

module _ {A : Type 0} where
  pub taken : (xs ys : List A) → IsPrefix xs ys → take (length xs) ys ≡ xs
  taken xs ys p = subst (λ (l : List A). take (length xs) l ≡ xs) p.1 (take-append_seam xs p.0)

  pub begun : (xs ys : List A) → take (length xs) ys ≡ xs → IsPrefix xs ys
  begun xs ys is = (drop (length xs) ys, ap (λ (l : List A). l ++ drop (length xs) ys) (sym is) ∙ take-append-drop (length xs) ys)

  pub begins_itself : (xs : List A) → IsPrefix xs xs
  begins_itself xs = ([], append-nil xs)

  -- of two beginnings of one list the shorter begins the longer
  pub shorter_begins : (xs ys zs : List A) → IsPrefix xs zs → IsPrefix ys zs → length xs ≤ length ys → IsPrefix xs ys
  shorter_begins xs ys zs p q le =
      begun xs ys (ap (take (length xs)) (sym (taken ys zs q)) ∙ (take-take (length xs) (length ys) zs le ∙ taken xs zs p))

  -- a beginning as long as the whole is the whole
  pub begins_all : (xs ys : List A) → IsPrefix xs ys → length ys ≤ length xs → xs ≡ ys
  begins_all xs ys p le = sym (taken xs ys p) ∙ take_all (length xs) ys le
