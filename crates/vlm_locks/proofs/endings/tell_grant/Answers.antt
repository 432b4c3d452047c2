use Rattle.std.proofs.Common.{◌+◌, ◌-◌, ap, subst, ◌∙◌, arith}
use Rattle.vlm_words.specs.Dues.{one_where}
use Rattle.vlm_store.specs.Records.{DueChanges}
use Rattle.vlm_locks.proofs.FoundByHandle.{process_still, process_there}
use Rattle.vlm_locks.proofs.ReservedAsts.{granted_owed, one_from, spared_fits}
use Rattle.vlm_locks.proofs.endings.tell_grant.Goals as goal

pub forgive-requires-clause-there : goal.forgive-requires-clause-there
forgive-requires-clause-there c =
    process_there c.complete.new.store c.args.at c.args.row.now.pid
    (process_still c.args.store.now c.complete.new.store c.args.at c.args.row.now.pid c.complete.ensures.only_notices c.requires.process)

pub forgive-requires-clause-owed : goal.forgive-requires-clause-owed
forgive-requires-clause-owed c = record {
  pid = c.args.row.now.pid;
  process = process_still c.args.store.now c.complete.new.store c.args.at c.args.row.now.pid c.complete.ensures.only_notices c.requires.process;
  due = omega (
    arith,
    spared_fits c.args.row.now c.args.request.now c.requires.wanted c.args.at_once c.args.store.now c.complete.new.store
        c.complete.ensures.owed c.requires.owed,
    c.from.ensures ∙ one_from c.is_armed.result,
    ap one_where c.is_armed.ensures,
    c.suppressed_completions.ensures,
  );
}

pub returns-then-spared-gt0-clause-owed : goal.returns-then-spared-gt0-clause-owed
returns-then-spared-gt0-clause-owed c =
    granted_owed c.args.row.now c.args.request.now c.requires.wanted c.args.at_once c.args.store.now
    c.complete.new.store c.complete.ensures.owed c.requires.owed c.forgive.new.store
    (subst (λ n. DueChanges c.args.row.now.pid (λ due. due - n) c.complete.new.store c.forgive.new.store)
    (ap (λ n. n + c.suppressed_completions.result) (c.from.ensures ∙ one_from c.is_armed.result
    ∙ ap one_where c.is_armed.ensures)
    ∙ ap (λ n. one_where c.args.row.now.armed + n) c.suppressed_completions.ensures)
    (c.forgive.ensures.owed c.args.row.now.pid
    (process_still c.args.store.now c.complete.new.store c.args.at c.args.row.now.pid c.complete.ensures.only_notices c.requires.process)))
