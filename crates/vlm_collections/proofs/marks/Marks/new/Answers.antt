use Rattle.std.proofs.Common.{ℕ, List, get_or, length, refl, ap, ◌∙◌, arith}
use Rattle.vlm_collections.specs.Marks.{marks_of}
use Rattle.vlm_collections.proofs.Bits.{tells-zeros}
use Rattle.vlm_collections.proofs.Numbers.{get_or-of_default}
use Rattle.vlm_collections.proofs.marks.Marks.new.Goals as goal

pub invariant_of-result : goal.invariant_of-result
invariant_of-result c =
    record {
      few = omega (arith, ap length c.new.ensures.items);
      words = tells-zeros _ _ (λ k. ap (λ (l : List ℕ). get_or l k 0) c.new.ensures.items ∙ get_or-of_default 0 k 0) (λ k. get_or-of_default 16 k 0);
      single = refl;
      top = tells-zeros _ _ (λ k. get_or-of_default 16 k 0) (λ k. get_or-of_default 1 k 0);
    }

pub returns : goal.returns
unfolding marks_of
returns c = ap marks_of c.new.ensures.items
