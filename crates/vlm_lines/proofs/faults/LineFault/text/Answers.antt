use Rattle.std.proofs.Common.{rules}
use Rattle.vlm_lines.proofs.faults.LineFault.text.Goals as goal

pub returns-in-UnknownName : goal.returns-in-UnknownName
returns-in-UnknownName c = search rules
