-- The notes of the processes, as a search reads them.
use Rattle.std.specs.Prelude.{◌==◌, ◌≤◌, ℕ, List, None, if◌then◌else◌, map}
use Rattle.std.specs.List.{All}
use Rattle.vlm_cycle.specs.declared.tarjan_nodes.BlockerKind.TheVariants.{Before}
use Rattle.vlm_cycle.specs.declared.ranks.DatedNode.{DatedNode}
use Rattle.vlm_cycle.specs.declared.ranks.TarjanNode.{TarjanNode}
use Rattle.vlm_cycle.specs.declared.ranks.Ranks.TheInside.{Inside}

-- the note of each process, by its slot
abbrev pub Ranks : Type 0
Ranks = List TarjanNode

-- the note of a process that is not found
abbrev pub blank_node : TarjanNode
blank_node = record {
  rank = 0;
  index = 0;
  low = 0;
  tree_parent = None;
  stack_next = None;
  own = None;
  part = Before;
  at = None;
}

-- the blank note, by no search
abbrev pub blank_dated : DatedNode
blank_dated = record { search = 0; note = blank_node }

-- the note as the search of this number reads it: the note of another search is blank
abbrev pub note_read : ℕ → DatedNode → TarjanNode
note_read search dated = if dated.search == search then dated.note else blank_node

-- the notes as the present search reads them
abbrev pub notes_read : Inside → Ranks
notes_read r = map (note_read r.search) r.notes.items

-- no note is of a later search than the present one
abbrev pub IsDated : Inside → Type 0
IsDated r = All (λ dated. dated.search ≤ r.search) r.notes.items
