use Rattle.std.proofs.Common.{sym, ap, ◌∙◌}
use Rattle.vlm_queue.specs.Views.{row_view}
use Rattle.vlm_queue.proofs.views.row_view.Goals as goal

pub returns : goal.returns
returns c row stored = c.of.ensures ∙ ap row_view (c.row.ensures ∙ sym (c.lock_record.ensures.only row stored))
