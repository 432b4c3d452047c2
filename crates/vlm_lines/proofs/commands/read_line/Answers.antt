use Rattle.std.proofs.Common.{rules}
use Rattle.vlm_lines.specs.Lines.{line_of, line_read}
use Rattle.vlm_lines.proofs.commands.read_line.Goals as goal

pub returns : goal.returns
unfolding line_read line_of
returns c = search rules
