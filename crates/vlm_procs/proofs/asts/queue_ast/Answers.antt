use Rattle.std.proofs.Common.{◌-◌, refl}
use Rattle.vlm_store.specs.Records.{with_owed_ast}
use Rattle.vlm_procs.proofs.WrittenProcesses.{notices_alone, owed_changes, queued_ast}
use Rattle.vlm_procs.proofs.asts.queue_ast.Goals as goal

pub returns-clause-queued : goal.returns-clause-queued
returns-clause-queued c pid is = rw c.queue_ast.ensures.queued (queued_ast c.args.store.now c.args.at pid c.args.ast c.queue_ast.ensures.sound is)

pub returns-clause-owed : goal.returns-clause-owed
returns-clause-owed c pid is =
    rw c.queue_ast.ensures.queued
    (owed_changes (with_owed_ast c.args.ast) (λ due. due - 1) (λ x. refl) (λ x. refl) c.args.store.now c.args.at pid c.queue_ast.ensures.sound is)

pub returns-clause-only_notices : goal.returns-clause-only_notices
returns-clause-only_notices c = rw c.queue_ast.ensures.queued (notices_alone c.args.store.now c.args.at (with_owed_ast c.args.ast) (λ p. refl))
