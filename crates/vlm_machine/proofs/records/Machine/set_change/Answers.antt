use Rattle.std.proofs.Common.{rules}
use Rattle.vlm_model.specs.SetValue.{set_change}
use Rattle.vlm_locks.proofs.ChangedResource.{rests_still}
use Rattle.vlm_machine.proofs.ProcessesAlone.{paid_still}
use Rattle.vlm_machine.proofs.records.Machine.set_change.Goals as goal

pub invariant_of-self : goal.invariant_of-self
invariant_of-self c = record {
  rest = rests_still c.self.inside.store c.set_value.new.store c.set_value.ensures.only_notices c.self.invariant.rest;
  paid = paid_still c.self.inside.store c.set_value.new.store c.set_value.ensures.only_notices c.set_value.ensures.dues c.self.invariant.paid;
}

pub returns : goal.returns
unfolding set_change
returns c = search rules
