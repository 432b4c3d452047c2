use Rattle.std.proofs.Common.{◌-◌, refl}
use Rattle.vlm_store.specs.Records.{owed_less}
use Rattle.vlm_procs.proofs.WrittenProcesses.{notices_alone, owed_changes, plain_stay}
use Rattle.vlm_procs.proofs.asts.forgive.Goals as goal

pub returns-clause-processes : goal.returns-clause-processes
returns-clause-processes c = rw c.forgive.ensures.forgiven (plain_stay c.args.store.now c.args.at (owed_less c.args.count) (λ p. refl))

pub returns-clause-owed : goal.returns-clause-owed
returns-clause-owed c pid is =
    rw c.forgive.ensures.forgiven
    (owed_changes (owed_less c.args.count) (λ due. due - c.args.count) (λ x. refl) (λ x. refl) c.args.store.now c.args.at pid c.forgive.ensures.sound is)

pub returns-clause-only_notices : goal.returns-clause-only_notices
returns-clause-only_notices c = rw c.forgive.ensures.forgiven (notices_alone c.args.store.now c.args.at (owed_less c.args.count) (λ p. refl))
