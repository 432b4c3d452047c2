-- The changes up to a sheet.
use Rattle.std.specs.Prelude.{ℕ, List, [], ◌∷◌, ◌++◌, Option, Some, None, false, slice_index_or}
use Rattle.std.specs.List.{last_or}
use Rattle.vlm_ports.specs.declared.watch.rows.Change.{Change}
use Rattle.vlm_ports.specs.declared.watch.rows.Row.{Row}
use Rattle.vlm_ports.specs.declared.watch.sheet.Sheet.{Sheet}
use Rattle.vlm_ports.specs.declared.watch.sheet.Update.{Update}
use Rattle.vlm_ports.specs.Rows.{absent}

-- the changes before the last, and the last, if there is one
abbrev pub with_last : List Change → Option Change → List Change
with_last before None = []
with_last before (Some change) = before ++ change ∷ []

-- the changes up to the sheet's own
abbrev pub changes_to : Sheet → List Change
changes_to sheet = with_last sheet.before.log sheet.last

-- a sheet once an update is taken in
abbrev pub updated : Sheet → Update → Sheet
updated sheet update = record { last = Some update.change; count = update.count; before = update.before }

-- the row at a place past the end; no change has such a place, since it has 16 rows
abbrev pub no_row : Row
no_row = record { held = []; conversions = 0; waiters = 0; value = []; valid = false; journal = 0 }

-- the row at a place of a change; if there is no change, the row of a resource that does not exist
abbrev pub row_in : Option Change → ℕ → Row
row_in None place = absent
row_in (Some change) place = slice_index_or change.rows place no_row

-- the row at a place of the last of these changes
abbrev pub row_shown : List Change → ℕ → Row
row_shown changes place = row_in (last_or None changes) place
