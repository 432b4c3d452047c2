use Rattle.vlm_store.specs.Records.{resource_at}
use Rattle.vlm_queue.proofs.Indexed.{record_shown}
use Rattle.vlm_queue.proofs.views.resource_view.Goals as goal

pub returns : goal.returns
returns c =
    rw c.of.ensures (record_shown
    (resource_at c.args.res c.args.store.now.resources) _ _ _ _ c.resource_record.ensures.serial
    c.resource_record.ensures.key c.resource_record.ensures.domain c.resource_record.ensures.value_block)
