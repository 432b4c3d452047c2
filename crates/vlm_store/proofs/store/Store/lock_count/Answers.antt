use Rattle.std.proofs.Common.{◌∙◌, sym}
use Rattle.vlm_store.specs.Kept.{beside_shown}
use Rattle.vlm_store.proofs.Totals.{all_counted}
use Rattle.vlm_store.proofs.store.Store.lock_count.Goals as goal
use Rattle.vlm_store.proofs.LivingProcesses.{none_loose_there}

pub returns : goal.returns
returns c none =
    let kept = c.self.invariant in
    let s = c.self.inside in
    rw (← c.self.view_is) (c.len.ensures
    ∙ sym (all_counted s.queues s.order (beside_shown s) kept.placed kept.linked kept.ordered
    (none_loose_there s kept (rw (← c.self.view_is) at none))))
