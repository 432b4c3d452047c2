use Rattle.vlm_words.specs.declared.resources.Queue.TheVariants.{Granted, Conversion, Waiting}
use Rattle.vlm_queue.specs.Walks.{plain_resource_at, rows_queued}
use Rattle.vlm_queue.proofs.Walking.{rows_plain}
use Rattle.vlm_script.proofs.Shown.{resource_printed}
use Rattle.vlm_script.proofs.show.show_resource.Goals as goal

-- the resource's own line and its queues are its text
pub returns : goal.returns
returns c =
    let s = c.args.store.now in
    let res = c.args.res in
    resource_printed (plain_resource_at res s) c.resource_view.result (rows_queued res Granted s) (rows_queued res Conversion s) (rows_queued res Waiting s)
    c.args.out.now.items c.show_own_line.new.out.items c.show_queue.new.out.items c.show_queue-2.new.out.items c.show_queue-3.new.out.items
    c.resource_view.ensures (rows_plain res Granted s) (rows_plain res Conversion s) (rows_plain res Waiting s)
    c.in_ok-show_own_line.ensures c.in_ok-show_queue.ensures c.in_ok-show_queue-2.ensures c.in_ok-show_queue-3.ensures
