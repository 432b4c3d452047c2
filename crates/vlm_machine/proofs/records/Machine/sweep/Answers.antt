use Rattle.std.proofs.Common.{rules}
use Rattle.vlm_machine.proofs.records.Machine.sweep.Goals as goal

pub sweep_resource-requires-clause-there : goal.sweep_resource-requires-clause-there
sweep_resource-requires-clause-there c = rw (← c.self.view_is) at c.requires.there

pub sweep_resource-requires-clause-stable : goal.sweep_resource-requires-clause-stable
sweep_resource-requires-clause-stable c = rw (← c.self.view_is) at c.requires.stable

pub returns : goal.returns
returns c = search rules
