-- The notes of Tarjan's walk name only stored locks and living processes.
use Rattle.std.specs.Prelude.{ℕ}
use Rattle.std.specs.List.{All}
use Rattle.std.specs.Option.{ForSome}
use Rattle.vlm_store.specs.Records.{HasResource, IsProcess, IsSound, IsStored, Records}
use Rattle.vlm_cycle.specs.declared.tarjan_walk.TarjanWalk.{TarjanWalk}
use Rattle.vlm_cycle.specs.declared.ranks.TarjanNode.{TarjanNode}
use Rattle.vlm_cycle.specs.Ranks.{Ranks}
use Rattle.vlm_cycle.specs.declared.waits.AwaitedModes.{AwaitedModes}

-- a process of this handle lives
abbrev pub LivesAt : Records → ℕ → Type 0
LivesAt s at = (pid : ℕ) × IsProcess at pid s

-- each lock and each process that the note names exists
pub record IsTarjanNode (s : Records) (note : TarjanNode) : Type 0 where
  pub tree_parent : ForSome note.tree_parent (LivesAt s)
  pub stack_next : ForSome note.stack_next (LivesAt s)
  pub own : ForSome note.own (λ lock. IsStored lock s)
  pub at : ForSome note.at (λ lock. IsStored lock s)

-- every note is sound
abbrev pub AreNotes : Records → Ranks → Type 0
AreNotes s ranks = All (IsTarjanNode s) ranks

-- each process that the walk names exists
pub record IsWalk (s : Records) (walk : TarjanWalk) : Type 0 where
  pub process : ForSome walk.process (LivesAt s)
  pub stack_next : ForSome walk.stack_next (LivesAt s)

-- the lock and the resource of the request exist, and the records are sound
pub record IsWanting (s : Records) (wanting : AwaitedModes) : Type 0 where
  pub lock : IsStored wanting.lock s
  pub res : HasResource wanting.res s
  pub sound : IsSound s
