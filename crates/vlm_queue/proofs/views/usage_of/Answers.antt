use Rattle.vlm_store.specs.Records.{resource_at}
use Rattle.vlm_queue.proofs.Indexed.{usage_shown}
use Rattle.vlm_queue.proofs.views.usage_of.Goals as goal

pub returns : goal.returns
returns c =
    usage_shown (resource_at c.args.res c.args.store.now.resources) _ _ _ _ c.held_counts-held.ensures
    c.queue_length.ensures c.queue_length-2.ensures c.resource_record-resource.ensures.value_block
