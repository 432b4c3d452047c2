use Rattle.vlm_locks.proofs.ServiceEnds.{served, served_there}
use Rattle.vlm_locks.proofs.services.serve.Goals as goal

pub returns-clause-served : goal.returns-clause-served
returns-clause-served c =
    served c.args.res c.args.store.now c.grant_queued.new.store c.warn.new.store c.grant_queued.ensures.granted c.warn.ensures.warned

pub returns-clause-there : goal.returns-clause-there
returns-clause-there c =
    served_there c.args.res c.grant_queued.new.store c.warn.new.store c.grant_queued.ensures.there c.warn.ensures.warned
