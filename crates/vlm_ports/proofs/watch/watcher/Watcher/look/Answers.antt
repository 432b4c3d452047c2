use Rattle.std.proofs.Common.{◌≡◌, ap, sym, ◌∙◌, subst}
use mathlib.Core.List.{IsPrefix}
use Rattle.left_right.specs.Sides.{view}
use Rattle.vlm_ports.specs.Sheets.{changes_to, row_in}
use Rattle.vlm_ports.specs.Watching.{seen}
use Rattle.vlm_journal.proofs.Lists.{prefix_then}
use Rattle.vlm_ports.proofs.Beginnings.{begun}
use Rattle.vlm_ports.proofs.Sheets.{last-of-sheet}
use Rattle.vlm_ports.proofs.Steps.{sees}
use Rattle.vlm_ports.proofs.watch.watcher.Watcher.look.Goals as goal

pub enter_as-requires : goal.enter_as-requires
enter_as-requires c = sees _ _

pub returns-clause-row : goal.returns-clause-row
returns-clause-row c =
    let shown = c.again-shown.result in
    c.row-row.ensures ∙ sym (ap (λ o. row_in o c.args.place) (last-of-sheet shown.before.log shown.last))

pub returns-clause-saw : goal.returns-clause-saw
returns-clause-saw c =
    let see = c.in-Ok.ensures.1 in
    let before = view c.args.self.reader.place in
    let sheet = c.in-Ok.reading.part.value in
    let same : c.again-shown.result ≡ sheet = c.again-shown.ensures ∙ c.get-sheet.ensures in
    let all : IsPrefix (seen c.args.self) (changes_to sheet) =
    prefix_then (seen c.args.self) before.seen (changes_to sheet) (begun (seen c.args.self) before.seen c.args.self.saw) see.1.begins in
    subst (IsPrefix (seen c.args.self)) (ap changes_to (sym same)) all
