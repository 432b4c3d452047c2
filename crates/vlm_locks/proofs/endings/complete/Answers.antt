use Rattle.std.proofs.Common.{is_some, ap, arith}
use Rattle.vlm_words.specs.Dues.{one_where}
use Rattle.vlm_locks.proofs.FoundByHandle.{process_there}
use Rattle.vlm_locks.proofs.endings.complete.Goals as goal

pub queue_ast-requires-clause-there : goal.queue_ast-requires-clause-there
queue_ast-requires-clause-there c = process_there c.args.store.now c.args.at c.args.row.now.pid c.requires.process

-- one AST is owed, where a routine is named
pub queue_ast-requires-clause-owed : goal.queue_ast-requires-clause-owed
queue_ast-requires-clause-owed c = record {
  pid = c.args.row.now.pid;
  process = c.requires.process;
  due = omega (arith, c.requires.owed, ap (λ o. one_where (is_some o)) c.in-Some.is);
}
