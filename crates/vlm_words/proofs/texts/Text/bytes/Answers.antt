use Rattle.std.proofs.Common.{rules}
use Rattle.vlm_words.proofs.texts.Text.bytes.Goals as goal

pub returns : goal.returns
returns c = search rules
