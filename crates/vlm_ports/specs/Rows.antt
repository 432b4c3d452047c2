-- The rows of resources.
use Rattle.std.specs.Prelude.{◌≡◌, ℕ, true, List, length, map, replicate, take, Option, None, Some}
use Rattle.std.specs.Option.{option_map}
use Rattle.vlm_queue.specs.declared.views.Usage.{Usage}
use Rattle.vlm_queue.specs.Views.{usage}
use Rattle.vlm_core.specs.Readers.{root_of}
use Rattle.vlm_journal.specs.Accounts.{Account, made}
use Rattle.vlm_ports.specs.declared.watch.rows.Change.{Change}
use Rattle.vlm_ports.specs.declared.watch.rows.RootKey.{RootKey}
use Rattle.vlm_ports.specs.declared.watch.rows.Row.{Row}

-- the row of a resource that does not exist, before any entry
abbrev pub absent : Row
absent = record {
  held = replicate 6 0;
  conversions = 0;
  waiters = 0;
  value = replicate 16 0;
  valid = true;
  journal = 0;
}

-- the row of a resource with this usage, or of one that does not exist, after this many entries
abbrev pub row_with : Option Usage → ℕ → Row
row_with None journal = record absent { journal = journal }
row_with (Some u) journal = record {
  held = u.held;
  conversions = u.conversions;
  waiters = u.waiters;
  value = u.value;
  valid = u.valid;
  journal = journal;
}

-- the row of a root resource in the present state of the book
abbrev pub row_of : Account → RootKey → Row
row_of book key = row_with (option_map usage (root_of book.state.resources key.domain key.name)) (made book)

-- the change has the rows of these resources in their order, in the present state of the book
abbrev pub IsChangeOf : Account → List RootKey → Change → Type 0
IsChangeOf book keys change = take (length keys) change.rows ≡ map (row_of book) keys
