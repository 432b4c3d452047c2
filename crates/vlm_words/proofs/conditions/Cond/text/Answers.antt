use Rattle.std.proofs.Common.{rules}
use Rattle.vlm_words.proofs.conditions.Cond.text.Goals as goal

pub returns-in-Ivlockid : goal.returns-in-Ivlockid
returns-in-Ivlockid c = search rules
