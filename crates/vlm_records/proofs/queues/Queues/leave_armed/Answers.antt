use Rattle.std.proofs.Common.{◌∙◌, ap, sym}
use Rattle.vlm_records.specs.declared.handles.Armed.TheVariants.{AboveNl}
use Rattle.vlm_records.specs.Shown.{row_in}
use Rattle.vlm_records.proofs.Arming.{unarmed_left, unarmed_none}
use Rattle.vlm_records.proofs.queues.Queues.leave_armed.Goals as goal

-- it is not armed
pub returns-then-not-is_armed-clause-armed : goal.returns-then-not-is_armed-clause-armed
returns-then-not-is_armed-clause-armed c which =
    unarmed_left which c.args.self.now c.args.at c.requires.laid_out.placed
    (unarmed_none which _ (ap (λ slot. (row_in slot).armed) c.index.ensures ∙ sym c.is_armed.ensures
    ∙ c.if-not-is_armed.true)) (c.requires.laid_out.armed which)

-- it is
pub leave_list-requires-clause-armed : goal.leave_list-requires-clause-armed
leave_list-requires-clause-armed c = c.requires.laid_out.armed AboveNl
