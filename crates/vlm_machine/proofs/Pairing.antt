-- What is said of each two by their places, by recursion.
use Rattle.std.proofs.Common.{suc, List, [], ◌∷◌, arith}
use Rattle.std.specs.Prelude.{AllPairs}
use Rattle.std.proofs.lemmas.List.Elements.{recursion_from_All}
use Rattle.vlm_model.proofs.Pairs.{EachPair}

-- by recursion each pair has what it has by places
pub pairs_by_recursion : {X : Type 0} (R : X → X → Type 0) (xs : List X) → AllPairs R xs → EachPair R xs
pairs_by_recursion R [] pairs = tt
pairs_by_recursion R (x ∷ xs) pairs = (
  recursion_from_All (R x) xs (λ i d within. pairs 0 (suc i) d (omega arith) (omega (arith, within))),
  pairs_by_recursion R xs (λ i j d before within. pairs (suc i) (suc j) d (omega (arith, before)) (omega (arith, within))),
)
