use Rattle.std.proofs.Common.{rules}
use Rattle.vlm_words.proofs.names.Name.bytes.Goals as goal

pub returns : goal.returns
returns c = search rules
