use Rattle.vlm_locks.proofs.ChangedResource.{rests_still}
use Rattle.vlm_machine.proofs.ProcessesAlone.{paid_still}
use Rattle.vlm_machine.proofs.records.Machine.take_change.Goals as goal

pub invariant_of-self : goal.invariant_of-self
invariant_of-self c = record {
  rest = rests_still c.self.inside.store c.take.new.store c.take.ensures.only_notices c.self.invariant.rest;
  paid = paid_still c.self.inside.store c.take.new.store c.take.ensures.only_notices c.take.ensures.dues c.self.invariant.paid;
}
