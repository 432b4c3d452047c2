use Rattle.std.proofs.Common.{rules}
use Rattle.vlm_core.proofs.public.Core.block.Goals as goal

pub returns : goal.returns
returns c = search rules
