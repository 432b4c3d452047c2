-- The words of contracts about boards, watchers and told values.
use Rattle.std.specs.Prelude.{◌≡◌, ◌++◌, ◌∷◌, ℕ, List, []}
use Rattle.left_right.specs.Sides.{view}
use Rattle.logbook.specs.Pages.{Book}
use Rattle.vlm_journal.specs.Accounts.{Account}
use Rattle.vlm_ports.specs.declared.watch.board.Board.{Board}
use Rattle.vlm_ports.specs.declared.watch.rows.Change.{Change}
use Rattle.vlm_ports.specs.declared.watch.rows.RootKey.{RootKey}
use Rattle.vlm_ports.specs.declared.watch.told.Told.{Told}
use Rattle.vlm_ports.specs.declared.watch.watcher.Watcher.{Watcher}
use Rattle.vlm_ports.specs.Rows.{IsChangeOf}
use Rattle.vlm_ports.specs.Rule.{book_of}
use Rattle.vlm_ports.specs.Sheets.{changes_to}

-- the identity of a board
abbrev pub name_of : Board → Book
name_of b = b.publisher.history.book

-- the changes that a board has published, the oldest first
abbrev pub published : Board → List Change
published b = b.publisher.history.log

-- the keys of a board
abbrev pub keys_of : Board → List RootKey
keys_of b = b.keys.items

-- the board has published one more change: the rows of its keys in the present state of the book
abbrev pub HasPublished : Account → Board → Board → Type 0
HasPublished book old new =
    (change : Change) × IsChangeOf book (keys_of old) change × (published new ≡ published old ++ change ∷ [])

-- the board that a watcher watches
abbrev pub board_of : Watcher → Book
board_of w = book_of (view w.reader.place)

-- the changes that a watcher has seen; it showed the last
abbrev pub seen : Watcher → List Change
seen w = changes_to w.shown

-- the changes that a watcher has learned of
abbrev pub learnt : Watcher → List Change
learnt w = w.learnt.history.log

-- it watches the same board and as many keys
abbrev pub IsAsBefore : Watcher → Watcher → Type 0
IsAsBefore old new = (board_of new ≡ board_of old) × (new.keys ≡ old.keys)

-- a watcher of this board with this many keys, before it has seen or learned anything
pub record IsNew (board : Book) (keys : ℕ) (w : Watcher) : Type 0 where
  pub board_is : board_of w ≡ board
  pub keys_are : w.keys ≡ keys
  pub blind : seen w ≡ []
  pub untold : learnt w ≡ []

-- the board of a told value
abbrev pub told_board : Told → Book
told_board t = t.history.book

-- the changes in a told value
abbrev pub told_changes : Told → List Change
told_changes t = t.history.log
