use Rattle.vlm_locks.proofs.AcceptedRequests.{stands_accepted}
use Rattle.vlm_locks.proofs.releases.end_notices.Goals as goal

pub release_blocking_ast-requires-clause-located : goal.release_blocking_ast-requires-clause-located
release_blocking_ast-requires-clause-located c =
    stands_accepted c.args.located.now c.args.store.now c.end_withdrawn.new.store c.end_withdrawn.ensures.only_notices c.requires.located
