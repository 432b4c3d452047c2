use Rattle.std.proofs.Common.{◌++◌, ap, ◌∙◌}
use Rattle.vlm_queue.specs.Walks.{rows_to_walk}
use Rattle.vlm_queue.proofs.Walking.{begins, come_stored, fewer_rows, passes}
use Rattle.vlm_script.specs.Texts.{queue_lines}
use Rattle.vlm_script.proofs.Shown.{row_printed}
use Rattle.vlm_script.proofs.show.show_queue.Goals as goal

-- the walk begins at the head
pub loop-at-init : goal.loop-at-init
loop-at-init c =
    let first = begins c.args.store.now c.args.res c.args.queue c.head-at.result c.head-at.ensures.first in
    record {
      there = first.there;
      printed = ap (λ rows. c.args.out.now.items ++ queue_lines c.args.queue rows) first.left;
    }

-- the lock to which the walk has come is stored
pub row_view-requires : goal.row_view-requires
row_view-requires c = come_stored c.args.store.now c.args.res c.args.queue c.in-Some.lock (rw c.in-Some.is at c.loop-at.invariant.there)

pub next-at-requires : goal.next-at-requires
next-at-requires c = come_stored c.args.store.now c.args.res c.args.queue c.in-Some.lock (rw c.in-Some.is at c.loop-at.invariant.there)

-- one lock less is left
pub loop-at-smaller : goal.loop-at-smaller
loop-at-smaller c =
    let s = c.args.store.now in
    let one = passes s c.args.res c.args.queue c.in-Some.lock c.next-at.result c.head-at.ensures.sound
    (rw c.in-Some.is at c.loop-at.invariant.there) c.next-at.ensures in
    rw c.in-Some.is (fewer_rows one.row (rows_to_walk c.args.res c.args.queue c.next-at.result s) _ one.left)

-- one more lock is printed
pub loop-at-preserved : goal.loop-at-preserved
loop-at-preserved c =
    let s = c.args.store.now in
    let one = passes s c.args.res c.args.queue c.in-Some.lock c.next-at.result c.head-at.ensures.sound
    (rw c.in-Some.is at c.loop-at.invariant.there) c.next-at.ensures in
    let printed = rw (c.row_view.ensures one.row one.stored) at c.in_ok-show_row.ensures in
    let more = row_printed c.args.queue one.row
    (rows_to_walk c.args.res c.args.queue c.next-at.result s) _ c.loop-at.out.items c.show_row.new.out.items
    one.left printed in
    record {
      there = one.there;
      printed = more ∙ (rw c.in-Some.is at c.loop-at.invariant.printed);
    }
