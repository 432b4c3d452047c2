use Rattle.std.proofs.Common.{rules}
use Rattle.vlm_model.specs.Trees.{privilege_refusal}
use Rattle.vlm_machine.proofs.records.Machine.check_privilege.Goals as goal

pub returns-then-not-has_syslck : goal.returns-then-not-has_syslck
unfolding privilege_refusal
returns-then-not-has_syslck c = search rules

pub returns-else-parent-eq0 : goal.returns-else-parent-eq0
unfolding privilege_refusal
returns-else-parent-eq0 c = search rules
