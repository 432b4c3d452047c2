use Rattle.std.proofs.Common.{rules}
use Rattle.vlm_words.specs.Flags.{has_flag}
use Rattle.vlm_words.proofs.flags.EnqFlags.has.Goals as goal

pub returns : goal.returns
unfolding has_flag
returns c = search rules
