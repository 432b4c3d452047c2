use Rattle.std.proofs.Common.{List, sym, subst}
use Rattle.vlm_locks.specs.declared.touched.Note.{Note}
use Rattle.vlm_locks.specs.Sweeping.{AreStableBut, StandInOrder}
use Rattle.vlm_locks.specs.Touched.{touched_handles}
use Rattle.vlm_locks.proofs.InOrder.{handles_left, touches_stand}
use Rattle.vlm_machine.specs.Notes.{IsToSweep}
use Rattle.vlm_machine.proofs.records.Machine.sweep_touched.Goals as goal

pub sweep-requires-clause-in_order : goal.sweep-requires-clause-in_order
sweep-requires-clause-in_order c =
    let left = subst (IsToSweep c.args.touched.now) (sym c.self.view_is) c.requires in
    subst (λ (touches : List Note). StandInOrder (touched_handles touches) c.self.inside.store.resources) (sym c.notes.ensures)
    (touches_stand c.in_order.new.self.noted c.self.inside.store.resources c.in_order.ensures.rising
    (λ t there. left.noted t (c.in_order.ensures.within t there)) left.rise)

pub sweep-requires-clause-stable : goal.sweep-requires-clause-stable
sweep-requires-clause-stable c =
    let left = subst (IsToSweep c.args.touched.now) (sym c.self.view_is) c.requires in
    subst (λ (touches : List Note). AreStableBut (touched_handles touches) c.self.inside.store.resources) (sym c.notes.ensures)
    (λ r there untouched. left.stable r there
    (λ among. untouched (handles_left c.args.touched.now.noted c.in_order.new.self.noted c.self.inside.store.resources
    left.rise left.noted c.in_order.ensures.within c.in_order.ensures.each r.at among)))
