use Rattle.std.proofs.Common.{rules}
use Rattle.vlm_words.proofs.resources.KeyPartialEq.eq.Goals as goal

pub returns-then-parent-other_parent : goal.returns-then-parent-other_parent
returns-then-parent-other_parent c = search rules
