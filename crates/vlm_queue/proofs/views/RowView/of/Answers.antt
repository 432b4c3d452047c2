use Rattle.std.proofs.Common.{rules}
use Rattle.vlm_queue.proofs.views.RowView.of.Goals as goal

pub returns : goal.returns
returns c = search rules
