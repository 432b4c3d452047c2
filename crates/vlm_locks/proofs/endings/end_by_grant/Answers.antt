use Rattle.std.proofs.Common.{◌-◌, ap, sym, subst, ◌∙◌, arith}
use Rattle.vlm_model.specs.Asts.{completion_asts, processes_after_asts}
use Rattle.vlm_words.specs.Dues.{one_where}
use Rattle.vlm_model.specs.Effects.{blocks_with}
use Rattle.vlm_store.specs.Plain.{plain_processes}
use Rattle.vlm_store.specs.Records.{DueChanges}
use Rattle.vlm_locks.proofs.FoundByHandle.{process_still, process_there}
use Rattle.vlm_locks.proofs.ReservedAsts.{granted_blocks, nothing_granted_owed, one_from}
use Rattle.vlm_locks.proofs.endings.end_by_grant.Goals as goal

-- ---- where it wants nothing

pub forgive-requires-clause-there : goal.forgive-requires-clause-there
forgive-requires-clause-there c = process_there c.args.store.now c.args.at c.args.row.now.pid c.requires.process

pub forgive-requires-clause-owed : goal.forgive-requires-clause-owed
forgive-requires-clause-owed c = record {
  pid = c.args.row.now.pid;
  process = c.requires.process;
  due = omega (arith, c.requires.owed, c.from.ensures ∙ one_from c.is_armed.result, ap one_where c.is_armed.ensures);
}

pub returns-in_default-clause-owed : goal.returns-in_default-clause-owed
returns-in_default-clause-owed c =
    nothing_granted_owed c.args.row.now (sym c.want.ensures ∙ c.in_default.is) c.args.store.now c.forgive.new.store c.requires.owed
    (subst (λ n. DueChanges c.args.row.now.pid (λ due. due - n) c.args.store.now c.forgive.new.store) (c.from.ensures
    ∙ one_from c.is_armed.result ∙ ap one_where c.is_armed.ensures)
    (c.forgive.ensures.owed c.args.row.now.pid c.requires.process))

-- ---- where it is granted

pub tell_grant-requires-clause-process : goal.tell_grant-requires-clause-process
tell_grant-requires-clause-process c =
    process_still c.args.store.now c.write_grant.new.store c.args.at c.args.row.now.pid c.write_grant.ensures.only_notices c.requires.process

pub returns-clause-value_block : goal.returns-clause-value_block
returns-clause-value_block c =
    c.write_grant.ensures.value_block
    ∙ sym (ap (λ b. b.value_block)
    (granted_blocks c.args.row.now c.in-Some.request c.args.at_once
    (blocks_with c.args.value_block.now (plain_processes c.args.store.now)) (sym c.want.ensures ∙ c.in-Some.is)))

pub returns-clause-statuses : goal.returns-clause-statuses
returns-clause-statuses c =
    c.tell_grant.ensures.queued
    ∙ ap (processes_after_asts (completion_asts c.args.at_once c.in-Some.request c.args.row.now.lkid c.args.row.now.pid)) c.write_grant.ensures.statuses
    ∙ sym (ap (λ b. b.processes)
    (granted_blocks c.args.row.now c.in-Some.request c.args.at_once
    (blocks_with c.args.value_block.now (plain_processes c.args.store.now)) (sym c.want.ensures ∙ c.in-Some.is)))
