use Rattle.std.proofs.Common.{subst}
use Rattle.vlm_model.specs.QueueOrder.{QueuesAreInOrderOfRequests}
use Rattle.vlm_core.proofs.public.Core.in_order.Goals as goal

-- some run leads here, and the law holds after it
pub returns : goal.returns
returns c =
    subst QueuesAreInOrderOfRequests c.self.view_is
    (c.law_queues_are_in_the_order_of_requests.ensures c.self.invariant.reachable.history _ c.self.invariant.reachable.run)
