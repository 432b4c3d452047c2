use Rattle.std.proofs.Common.{sym, ◌∙◌}
use Rattle.vlm_machine.specs.Machine.{plain_state}
use Rattle.vlm_machine.proofs.NothingToSweep.{unswept}
use Rattle.vlm_machine.proofs.records.Machine.sweep_entered.Goals as goal

-- all is stable already
pub returns-then-not-has : goal.returns-then-not-has
returns-then-not-has c = sym (unswept (plain_state c.args.self.now) (c.requires.at_once c.if-new_lock.true (sym c.has.ensures ∙ c.if-not-has.true)))
