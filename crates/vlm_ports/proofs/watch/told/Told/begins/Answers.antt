use Rattle.std.proofs.Common.{◌≡◌, ◌<◌, List, length, ap, sym, ◌∙◌, subst, arith}
use mathlib.Core.List.{IsPrefix}
use Rattle.vlm_ports.specs.declared.watch.rows.Change.{Change}
use Rattle.vlm_ports.specs.Sheets.{changes_to}
use Rattle.vlm_ports.proofs.Sheets.{as-many-begin, fewer-begin}
use Rattle.vlm_ports.proofs.watch.told.Told.begins.Goals as goal

pub returns-then-self-sheet : goal.returns-then-self-sheet
returns-then-self-sheet c =
    let sheet = c.args.sheet.now in
    let all = c.learn.new.self.log in
    let reached : IsPrefix sheet.before.log all = subst (λ (l : List Change). IsPrefix l all) (ap (λ s. s.log) c.again-reached.ensures) c.learn.ensures.2 in
    let fewer : length c.args.self.now.history.log < length (changes_to sheet) =
    omega (arith, c.args.self.now.counted, c.requires.count, c.if-self-sheet.true) in
    λ yes. fewer-begin sheet.before.log c.args.self.now.history.log all reached c.learn.ensures.3 sheet.last fewer

pub returns : goal.returns
returns c =
    let sheet = c.args.sheet.now in
    let all = c.learn.new.self.log in
    let reached : IsPrefix sheet.before.log all = subst (λ (l : List Change). IsPrefix l all) (ap (λ s. s.log) c.again-reached.ensures) c.learn.ensures.2 in
    let many : length c.args.self.now.history.log ≡ length (changes_to sheet) =
    omega (arith, c.args.self.now.counted, c.requires.count, c.if-self-sheet-2.false) in
    λ yes. as-many-begin sheet.before.log c.args.self.now.history.log all reached c.learn.ensures.3 sheet.last many
    (sym c.args.self.now.ends ∙ c.is_same.ensures yes)
