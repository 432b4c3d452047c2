use Rattle.std.proofs.Common.{◌+◌, sym, ap, ◌∙◌}
use Rattle.vlm_store.specs.Records.{due_of}
use Rattle.vlm_locks.proofs.ReservedAsts.{nothing_wanted}
use Rattle.vlm_locks.proofs.releases.end_request.Goals as goal

pub returns-in_default-clause-owed : goal.returns-in_default-clause-owed
returns-in_default-clause-owed c pid =
    ap (λ due. due_of pid c.args.store.now + due) (sym (nothing_wanted c.args.located.now.row (sym c.want.ensures ∙ c.in_default.is) pid))
