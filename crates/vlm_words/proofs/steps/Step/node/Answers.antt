use Rattle.std.proofs.Common.{rules}
use Rattle.vlm_words.proofs.steps.Step.node.Goals as goal

pub returns-in-Rundown : goal.returns-in-Rundown
returns-in-Rundown c = search rules
