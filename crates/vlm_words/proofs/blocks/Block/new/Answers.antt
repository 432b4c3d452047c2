use Rattle.std.proofs.Common.{refl}
use Rattle.vlm_words.proofs.blocks.Block.new.Goals as goal

pub returns : goal.returns
returns c = refl
