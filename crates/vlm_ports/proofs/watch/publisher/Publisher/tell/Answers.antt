use Rattle.std.proofs.Common.{None, length, ap, sym, ◌∙◌}
use Rattle.std.specs.List.{last_or}
use Rattle.vlm_ports.proofs.Sheets.{last-of-sheet}
use Rattle.vlm_ports.proofs.watch.publisher.Publisher.tell.Goals as goal

pub invariant_of-result : goal.invariant_of-result
invariant_of-result c =
    let p = c.args.self.now in
    let shown = p.writer.desk.shown.value in
    let sheet = c.published-sheet.ensures in
    let log = sym (ap (λ s. s.log) c.again.ensures) in
    record {
      counted = ap (λ s. s.count) sheet ∙ (p.counts ∙ ap length log);
      ends = ap (λ s. s.last) sheet ∙ (sym (last-of-sheet shown.before.log shown.last) ∙ ap (last_or None) (p.shows ∙ log));
    }
