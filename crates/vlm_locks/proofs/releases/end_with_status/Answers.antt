use Rattle.std.proofs.Common.{◌-◌, false, ap, subst, ◌∙◌, arith}
use Rattle.vlm_model.specs.Asts.{completion_asts, processes_after_asts}
use Rattle.vlm_words.specs.Dues.{one_where}
use Rattle.vlm_store.specs.Records.{DueChanges}
use Rattle.vlm_locks.specs.Owing.{completions_queued}
use Rattle.vlm_locks.proofs.FoundByHandle.{process_still, process_there}
use Rattle.vlm_locks.proofs.ReservedAsts.{blocking_fits, changes_then, due_before, ended_owed, notices_twice, one_from}
use Rattle.vlm_locks.proofs.releases.end_with_status.Goals as goal

pub end-requires : goal.end-requires
end-requires c =
    process_there c.args.store.now c.args.located.now.owner c.args.located.now.row.pid
    c.requires.located.owner

-- the owner lives on once the status is written
pub complete-requires-clause-process : goal.complete-requires-clause-process
complete-requires-clause-process c =
    process_still c.args.store.now c.end.new.store c.args.located.now.owner c.args.located.now.row.pid c.end.ensures.only_notices
    c.requires.located.owner

pub complete-requires-clause-owed : goal.complete-requires-clause-owed
complete-requires-clause-owed c =
    omega (
      arith,
      c.requires.owed,
      c.end.ensures.dues c.args.located.now.row.pid,
      due_before c.args.located.now.row c.args.request.now c.requires.wants false,
    )

pub forgive-requires-clause-there : goal.forgive-requires-clause-there
forgive-requires-clause-there c =
    process_there c.complete.new.store c.args.located.now.owner c.args.located.now.row.pid
    (process_still c.args.store.now c.complete.new.store c.args.located.now.owner c.args.located.now.row.pid
    (notices_twice c.args.store.now c.end.new.store c.complete.new.store c.end.ensures.only_notices c.complete.ensures.only_notices)
    c.requires.located.owner)

pub forgive-requires-clause-owed : goal.forgive-requires-clause-owed
forgive-requires-clause-owed c =
    let f = c.args.located.now in
    let queued : DueChanges f.row.pid (λ due. due - completions_queued false c.args.request.now) c.args.store.now c.complete.new.store =
    changes_then f.row.pid (λ due. due - completions_queued false c.args.request.now) c.args.store.now c.end.new.store c.complete.new.store
    c.end.ensures.dues c.complete.ensures.owed in
    record {
      pid = f.row.pid;
      process =
          process_still c.args.store.now c.complete.new.store f.owner f.row.pid
          (notices_twice c.args.store.now c.end.new.store c.complete.new.store c.end.ensures.only_notices c.complete.ensures.only_notices)
          c.requires.located.owner;
      due = omega (
        arith,
        c.from.ensures ∙ one_from c.is_some.result ∙ ap one_where c.is_some.ensures,
        blocking_fits f.row c.args.request.now c.requires.wants c.args.store.now c.complete.new.store c.requires.owed queued,
      );
    }

pub returns-clause-statuses : goal.returns-clause-statuses
returns-clause-statuses c =
    let s = c.args.store.now in
    let f = c.args.located.now in
    c.forgive.ensures.processes ∙ c.complete.ensures.queued
    ∙ ap (processes_after_asts (completion_asts false c.args.request.now f.row.lkid f.row.pid))
    (c.end.ensures.written f.row.pid
    c.requires.located.owner)

pub returns-clause-owed : goal.returns-clause-owed
returns-clause-owed c =
    let f = c.args.located.now in
    ended_owed f.row c.args.request.now c.requires.wants c.args.store.now c.complete.new.store c.forgive.new.store c.requires.owed
    (changes_then f.row.pid (λ due. due - completions_queued false c.args.request.now) c.args.store.now c.end.new.store c.complete.new.store
    c.end.ensures.dues c.complete.ensures.owed)
    (subst (λ n. DueChanges f.row.pid (λ due. due - n) c.complete.new.store c.forgive.new.store) (c.from.ensures
    ∙ one_from c.is_some.result ∙ ap one_where c.is_some.ensures)
    (c.forgive.ensures.owed f.row.pid
    (process_still c.args.store.now c.complete.new.store c.args.located.now.owner f.row.pid
    (notices_twice c.args.store.now c.end.new.store c.complete.new.store c.end.ensures.only_notices c.complete.ensures.only_notices)
    c.requires.located.owner)))
