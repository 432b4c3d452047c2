-- The ASTs of one process.
use Rattle.std.specs.Prelude.{ℕ, ◌≤◌, ◌-◌, List, [], Option, None, Some}
use Rattle.vlm_words.specs.declared.asts.Ast.{Ast}
use Rattle.vlm_records.specs.AstRings.{RingAsts}
use Rattle.vlm_records.specs.declared.ast_queues.AstQueue.TheInside.{Inside}

-- the pending ASTs, oldest first; how many more are due; and how many more there is room for
pub record Asts : Type 0 where
  pub pending : List Ast
  pub due : ℕ
  pub free : ℕ

-- nothing is pending or due, and there is no room
abbrev pub no_asts : Asts
no_asts = record { pending = []; due = 0; free = 0 }

-- the ASTs in rings; none without rings
abbrev pub asts_in : Option RingAsts → List Ast
asts_in None = []
asts_in (Some rings) = rings.pending

-- how many more ASTs rings take; 0 without rings
abbrev pub ast_room : Option RingAsts → ℕ
ast_room None = 0
ast_room (Some rings) = rings.free

-- the queue that the fields show
abbrev pub asts_shown : Inside → Asts
asts_shown q = record { pending = asts_in q.rings; due = q.due; free = ast_room q.rings - q.due }

-- the rings have room for the due ASTs
pub record HasRoomForDue (q : Inside) : Type 0 where
  pub room : q.due ≤ ast_room q.rings
