use Rattle.vlm_journal.proofs.OwnSteps.{own_from}
use Rattle.vlm_journal.proofs.Worlds.{right_from}
use Rattle.vlm_journal.proofs.laws.law_world.Goals as goal

pub returns-clause-right : goal.returns-clause-right
returns-clause-right c nodes few events world = right_from nodes few

pub returns-clause-own : goal.returns-clause-own
returns-clause-own c nodes few events world run = own_from nodes run
