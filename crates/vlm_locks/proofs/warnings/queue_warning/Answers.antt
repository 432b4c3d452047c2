use Rattle.std.proofs.Common.{arith}
use Rattle.vlm_locks.proofs.FoundByHandle.{process_there}
use Rattle.vlm_locks.proofs.Warned.{warned_owed, warning_fits}
use Rattle.vlm_locks.proofs.warnings.queue_warning.Goals as goal

-- nothing is held

pub forgive-requires-clause-there : goal.forgive-requires-clause-there
forgive-requires-clause-there c = process_there c.args.store.now c.args.at c.args.row.now.pid c.requires.process

pub forgive-requires-clause-owed : goal.forgive-requires-clause-owed
forgive-requires-clause-owed c = record {
  pid = c.args.row.now.pid;
  process = c.requires.process;
  due = warning_fits c.args.row.now c.args.store.now c.requires.armed c.requires.owed;
}

pub returns-in_default-clause-owed : goal.returns-in_default-clause-owed
returns-in_default-clause-owed c =
    warned_owed c.args.row.now c.args.store.now c.forgive.new.store c.requires.armed c.requires.owed
    (c.forgive.ensures.owed c.args.row.now.pid c.requires.process)

-- no routine is named

pub forgive-requires-in_default-blocking-clause-there : goal.forgive-requires-in_default-blocking-clause-there
forgive-requires-in_default-blocking-clause-there c = process_there c.args.store.now c.args.at c.args.row.now.pid c.requires.process

pub forgive-requires-in_default-blocking-clause-owed : goal.forgive-requires-in_default-blocking-clause-owed
forgive-requires-in_default-blocking-clause-owed c = record {
  pid = c.args.row.now.pid;
  process = c.requires.process;
  due = warning_fits c.args.row.now c.args.store.now c.requires.armed c.requires.owed;
}

pub returns-in_default-blocking-clause-owed : goal.returns-in_default-blocking-clause-owed
returns-in_default-blocking-clause-owed c =
    warned_owed c.args.row.now c.args.store.now c.forgive-in_default-blocking.new.store c.requires.armed c.requires.owed
    (c.forgive-in_default-blocking.ensures.owed c.args.row.now.pid c.requires.process)

-- a routine is

pub queue_ast-requires-clause-there : goal.queue_ast-requires-clause-there
queue_ast-requires-clause-there c = process_there c.args.store.now c.args.at c.args.row.now.pid c.requires.process

pub queue_ast-requires-clause-owed : goal.queue_ast-requires-clause-owed
queue_ast-requires-clause-owed c = record {
  pid = c.args.row.now.pid;
  process = c.requires.process;
  due = omega (arith, warning_fits c.args.row.now c.args.store.now c.requires.armed c.requires.owed);
}

pub returns-clause-owed : goal.returns-clause-owed
returns-clause-owed c =
    warned_owed c.args.row.now c.args.store.now c.queue_ast.new.store c.requires.armed c.requires.owed
    (c.queue_ast.ensures.owed c.args.row.now.pid c.requires.process)
