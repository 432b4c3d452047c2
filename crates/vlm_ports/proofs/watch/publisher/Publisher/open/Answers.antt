use Rattle.std.proofs.Common.{ap, sym, ◌∙◌, fold, length}
use Rattle.vlm_ports.specs.Sheets.{changes_to, updated}
use Rattle.vlm_ports.proofs.Steps.{begins, opens}
use Rattle.vlm_ports.proofs.watch.publisher.Publisher.open.Goals as goal

pub new-requires-clause-rule : goal.new-requires-clause-rule
new-requires-clause-rule g c =
    let blank = c.before.before.blank-first.ensures in
    begins _ (ap (λ s. s.count) blank ∙ sym (ap (λ s. length (changes_to s)) blank))

pub publish_as-writer-requires : goal.publish_as-writer-requires
publish_as-writer-requires g c next is =
    let pending = c.in_ok-writer.ensures.1 in
    opens _ _ _ next (is ∙ ap (fold updated c.in_ok-writer.writer.desk.shown.value) pending)
