-- The rings of a queue of ASTs.
use Rattle.std.specs.Prelude.{ℕ, ◌≡◌, ◌<◌, ◌+◌, ◌-◌, ◌++◌, ◌^◌, List, length, flat_map}
use Rattle.std.specs.List.{All}
use Rattle.circular_buffer.specs.Buffer.{Buffer}
use Rattle.vlm_words.specs.declared.asts.Ast.{Ast}
use Rattle.vlm_records.specs.declared.ast_rings.AstRings.TheInside.{Inside}

-- the pending ASTs, oldest first, and how many more there is room for
pub record RingAsts : Type 0 where
  pub pending : List Ast
  pub free : ℕ

-- the ASTs in rings, one ring after another
abbrev pub asts_of : List (Buffer Ast) → List Ast
asts_of rings = flat_map (λ (ring : Buffer Ast). ring.items) rings

-- what the fields show
abbrev pub rings_shown : Inside → RingAsts
rings_shown q = record {
  pending = asts_of q.closed.items ++ q.open.items;
  free = q.open.capacity - length q.open.items;
}

-- the ASTs in closed rings are counted, and no closed ring is empty; a number of 64 bits counts all ASTs that there is
-- room for
pub record AreCounted (q : Inside) : Type 0 where
  pub count : q.closed_len ≡ length (asts_of q.closed.items)
  pub filled : All (λ (ring : Buffer Ast). 0 < length ring.items) q.closed.items
  pub within : q.closed_len + q.open.capacity < 2 ^ 64
