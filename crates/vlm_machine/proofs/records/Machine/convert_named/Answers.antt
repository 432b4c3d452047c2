use Rattle.vlm_machine.proofs.NothingToSweep.{stable_but}
use Rattle.vlm_machine.proofs.records.Machine.convert_named.Goals as goal

-- only the resource of the lock may be swept
pub sweep-requires-clause-stable : goal.sweep-requires-clause-stable
sweep-requires-clause-stable c =
    stable_but c.args.self.now.records c.convert_change.new.self.records c.args.located.now.res c.requires.between.stable c.in-Ok-convert_change.ensures.others
