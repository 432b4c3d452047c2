-- The rule of a board: each place saw a first part of the published changes.
use Rattle.std.specs.Prelude.{◌≡◌, ℕ, List, [], true, false, length}
use mathlib.Core.Option.{some}
use mathlib.Core.List.{IsPrefix}
use lib.ListN.{get_elem?}
use Rattle.logbook.specs.Pages.{Book}
use Rattle.vlm_ports.specs.declared.watch.sheet.Sheet.{Sheet}
use Rattle.vlm_ports.specs.declared.watch.view.View.{View}
use Rattle.vlm_ports.specs.Sheets.{changes_to}

-- a place that saw nothing, and does not know its board
abbrev pub newcomer : View
newcomer = record { seen = []; knows = false; number = 0; log_name = 0; cells_name = 0 }

-- the book of the board, from a view that knows it
abbrev pub book_of : View → Book
book_of v = record { number = v.number; log_name = v.log_name; cells_name = v.cells_name }

-- the view as one that knows the book
abbrev pub knowing : Book → View → View
knowing book v = record v { knows = true; number = book.number; log_name = book.log_name; cells_name = book.cells_name }

-- the changes up to the sheet begin with the changes that the view saw, and the book that the view knows is the sheet's
pub record Fits (sheet : Sheet) (v : View) : Type 0 where
  pub begins : IsPrefix v.seen (changes_to sheet)
  pub book : v.knows ≡ true → book_of v ≡ sheet.before.book

-- each view has the property
abbrev pub Each : (View → Type 0) → List View → Type 0
Each P views = (place : ℕ) (v : View) → get_elem? views place ≡ some v → P v

-- the sheet's number is the number of its changes, and each view fits it
abbrev pub Kept : Sheet → List View → Type 0
Kept sheet views = (sheet.count ≡ length (changes_to sheet)) × Each (Fits sheet) views

-- a reader that fitted the sheet has now seen its changes
abbrev pub See : View → Sheet → Sheet → View → Type 0
See v shown next w =
    (w ≡ record v { seen = changes_to shown }) × Fits shown v × (shown.count ≡ length (changes_to shown))

-- the writer has seen the changes of the next sheet
abbrev pub Publish : View → Sheet → Sheet → View → Type 0
Publish v shown next w = w ≡ record v { seen = changes_to next }

-- the writer knows the sheet's book afterwards
abbrev pub Open : View → Sheet → Sheet → View → Type 0
Open v shown next w = w ≡ knowing shown.before.book v

-- a note names a board, and no changes
abbrev pub note_of : View → View
note_of v = record v { seen = [] }

-- the changes that were seen before, of the board in the note
abbrev pub informed : View → View → View
informed v note = record note { seen = v.seen }
