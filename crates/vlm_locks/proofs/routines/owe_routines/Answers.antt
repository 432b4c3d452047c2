use Rattle.std.proofs.Common.{◌∙◌, sym}
use Rattle.vlm_words.specs.Dues.{routines_of}
use Rattle.vlm_locks.proofs.Forgiven.{owed_nothing}
use Rattle.vlm_locks.proofs.routines.owe_routines.Goals as goal

pub returns-in-0-clause-exact : goal.returns-in-0-clause-exact
returns-in-0-clause-exact c =
    owed_nothing c.args.owner (routines_of c.args.want) (sym c.routines_of.ensures ∙ c.in-0.is) c.args.store.now
