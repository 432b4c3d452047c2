use Rattle.vlm_locks.proofs.Rising.{none_loose}
use Rattle.vlm_machine.proofs.records.Machine.check_quota.Goals as goal

pub has_room-requires-clause-queued : goal.has_room-requires-clause-queued
has_room-requires-clause-queued c = none_loose c.self.inside.store c.self.invariant.rest.rising
