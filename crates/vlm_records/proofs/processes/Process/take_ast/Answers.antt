use Rattle.std.proofs.Common.{rules}
use Rattle.vlm_records.proofs.processes.Process.take_ast.Goals as goal

-- with the last AST the mark goes
pub returns-then-len-eq0-clause-told : goal.returns-then-len-eq0-clause-told
returns-then-len-eq0-clause-told c = search rules
