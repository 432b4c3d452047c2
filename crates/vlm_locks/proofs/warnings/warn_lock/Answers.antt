use Rattle.std.proofs.Common.{sym, ap, subst, ◌∙◌}
use Rattle.vlm_store.specs.Records.{rows_of_locks}
use Rattle.vlm_model.specs.Asts.{is_to_warn}
use Rattle.vlm_locks.specs.Warning.{IsLockWarned}
use Rattle.vlm_locks.proofs.ReservedAsts.{due_fits}
use Rattle.vlm_locks.proofs.Warned.{armed_there, lock_unwarned, lock_warned}
use Rattle.vlm_locks.proofs.warnings.warn_lock.Goals as goal

pub returns-then-not-is_to_warn-clause-warned : goal.returns-then-not-is_to_warn-clause-warned
returns-then-not-is_to_warn-clause-warned c r row found stored =
    lock_unwarned r c.args.lock row c.args.store.now
    (ap (is_to_warn (rows_of_locks r.converting) (rows_of_locks r.waiting)) (c.lock_record-record.ensures.only row stored)
    ∙ sym (c.is_to_warn.ensures r found) ∙ c.if-not-is_to_warn.true)

pub queue_warning-requires-clause-owed : goal.queue_warning-requires-clause-owed
queue_warning-requires-clause-owed c =
    due_fits c.args.store.now c.lock_record-record.ensures.sound c.requires.paid c.args.lock
    c.lock_record-record.result.now.row c.lock_record-record.ensures.row

pub queue_warning-requires-clause-armed : goal.queue_warning-requires-clause-armed
queue_warning-requires-clause-armed c =
    armed_there c.args.res c.args.store.now c.lock_record-record.result.now.row c.requires.there
    (λ r found. sym (c.is_to_warn.ensures r found) ∙ c.if-not-is_to_warn.false)

pub returns-clause-warned : goal.returns-clause-warned
returns-clause-warned c r row found stored =
    subst (λ x. IsLockWarned r c.args.lock x c.args.store.now c.disarm.new.self) (sym (c.lock_record-record.ensures.only row stored))
    (lock_warned r c.args.lock c.lock_record-record.result.now.row c.args.store.now c.queue_warning.new.store c.disarm.new.self
    (sym (c.is_to_warn.ensures r found) ∙ c.if-not-is_to_warn.false)
    c.queue_warning.ensures.queued c.queue_warning.ensures.owed c.queue_warning.ensures.only_notices c.disarm.ensures.disarmed)
