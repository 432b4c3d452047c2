-- The law of the marks of tails.
use Rattle.std.specs.Prelude.{◌≡◌, true, All}
use Rattle.vlm_words.specs.State.{State}

-- on each resource the tail of the value block is valid only if the value is
abbrev pub TailsAreValidWithTheirValues : State → Type 0
TailsAreValidWithTheirValues s =
    All (λ r. r.value_block.tail_valid ≡ true → r.value_block.valid ≡ true) s.resources
