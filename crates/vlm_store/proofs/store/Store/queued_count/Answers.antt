use Rattle.std.proofs.Common.{◌∙◌, sym}
use Rattle.vlm_store.proofs.QueuedTotals.{queued_counted}
use Rattle.vlm_store.proofs.store.Store.queued_count.Goals as goal

pub len-requires : goal.len-requires
len-requires c = c.self.invariant.wait_list.linked tt

pub returns : goal.returns
returns c = rw (← c.self.view_is) (c.len.ensures ∙ sym (queued_counted c.self.inside c.self.invariant))
