-- Whether two modes may be held together has no order.
use Rattle.std.proofs.Common.{◌≡◌, ap}
use Rattle.std.proofs.Math.Bool.{or_comm}
use Rattle.std.proofs.Math.Path.{fun_ext}
use Rattle.std.specs.Prelude.{◌==◌, ◌&&◌}
use Rattle.std.specs.List.{list_any}
use Rattle.vlm_words.specs.declared.modes.Mode.{Mode}
use Rattle.vlm_words.specs.Modes.{compatible_pairs, is_compatible, is_pair_of, rank}

-- a pair has two modes in either order
is_pair_of-comm : (a b : Mode) (pair : Mode × Mode) → is_pair_of a b pair ≡ is_pair_of b a pair
is_pair_of-comm a b pair =
    or_comm ((rank pair.0 == rank a) && (rank pair.1 == rank b)) ((rank pair.0 == rank b) && (rank pair.1 == rank a))

-- the table has no order
pub is_compatible-comm : (a b : Mode) → is_compatible a b ≡ is_compatible b a
unfolding is_compatible
is_compatible-comm a b = ap (λ test. list_any test compatible_pairs) (fun_ext (is_pair_of-comm a b))
