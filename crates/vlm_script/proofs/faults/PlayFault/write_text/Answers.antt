use Rattle.std.proofs.Common.{rules}
use Rattle.vlm_script.proofs.faults.PlayFault.write_text.Goals as goal

pub returns-in-Line-clause-whole : goal.returns-in-Line-clause-whole
returns-in-Line-clause-whole g c = search rules

pub returns-in-Line-clause-part : goal.returns-in-Line-clause-part
returns-in-Line-clause-part g c = search rules
