-- The journal of a report.
use Rattle.std.specs.Prelude.{◌<◌, ◌+◌, ◌*◌, ℕ, List, [], ◌∷◌, ◌++◌, None, Some, length, ⊤}
use Rattle.vlm_journal.specs.declared.entries.Entry.{Entry}
use Rattle.vlm_journal.specs.declared.entries.Part.{Part}
use Rattle.vlm_cluster.specs.declared.report.Fault.{Fault}
use Rattle.vlm_cluster.specs.declared.report.Fault.TheVariants.{Memory}
use Rattle.vlm_cluster.specs.declared.report.Report.{Report}
use Rattle.vlm_cluster.specs.Parts.{HaveEnough, HaveFewer, entries_in}

-- the parts of the journal, and the rest as the last one
abbrev pub parts_of : Report → List Part
parts_of r = r.parts.items ++ r.rest ∷ []

-- the entries of the journal, in order
abbrev pub entries_of : Report → List Entry
entries_of r = entries_in (parts_of r)

-- parts are cut during the run: each part that was cut off has at least `every` entries, and fewer than two for each
-- node more; the rest has fewer than `every`
pub record IsParted (every nodes : ℕ) (r : Report) : Type 0 where
  pub enough : HaveEnough every r.parts.items
  pub fewer : HaveFewer (every + 2 * nodes) r.parts.items
  pub rest : length r.rest.entries.items < every

-- if memory was refused, the parts that were cut off have as many
abbrev pub IsPartedFault : ℕ → ℕ → Fault → Type 0
IsPartedFault every nodes (Memory None) = ⊤
IsPartedFault every nodes (Memory (Some r)) =
    HaveEnough every r.parts.items × HaveFewer (every + 2 * nodes) r.parts.items
