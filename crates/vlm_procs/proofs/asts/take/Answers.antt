use Rattle.std.proofs.Common.{refl}
use Rattle.vlm_words.specs.Processes.{without_oldest_ast}
use Rattle.vlm_store.specs.Records.{changed_process}
use Rattle.vlm_store.proofs.Dues.{dues-on_stored}
use Rattle.vlm_procs.proofs.WrittenProcesses.{notices_alone, oldest_is, others_left}
use Rattle.vlm_procs.proofs.asts.take.Goals as goal

pub returns-clause-taken : goal.returns-clause-taken
returns-clause-taken c pid is =
    oldest_is c.args.store.now c.args.at pid c.take_ast.result c.take_ast.ensures.sound is c.take_ast.ensures.taken

pub returns-clause-left : goal.returns-clause-left
returns-clause-left c pid is = rw c.take_ast.ensures.left (others_left c.args.store.now c.args.at pid c.take_ast.ensures.sound is)

pub returns-clause-dues : goal.returns-clause-dues
returns-clause-dues c =
    rw c.take_ast.ensures.left (dues-on_stored c.args.at (changed_process without_oldest_ast) (λ x. refl) (λ x. refl) c.args.store.now)

pub returns-clause-only_notices : goal.returns-clause-only_notices
returns-clause-only_notices c =
    rw c.take_ast.ensures.left (notices_alone c.args.store.now c.args.at (changed_process without_oldest_ast) (λ p. refl))
