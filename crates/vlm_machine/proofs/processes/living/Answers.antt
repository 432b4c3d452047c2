use Rattle.vlm_machine.proofs.Callers.{found_lives, found_none}
use Rattle.vlm_machine.proofs.processes.living.Goals as goal

pub returns-clause-lives : goal.returns-clause-lives
returns-clause-lives c = found_lives c.args.store.now c.in_ok-at.at c.args.pid c.in_ok-at.ensures.sound c.in_ok-at.ensures.found

pub returns-in_err-at-clause-none : goal.returns-in_err-at-clause-none
returns-in_err-at-clause-none c = rw c.from_residual.ensures (found_none c.args.store.now c.args.pid c.in_err-at.ensures.found)
