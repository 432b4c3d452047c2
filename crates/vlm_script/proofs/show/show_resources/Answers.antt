use Rattle.std.proofs.Common.{◌∙◌}
use Rattle.vlm_queue.specs.Walks.{plain_resource_at, resources_left}
use Rattle.vlm_queue.proofs.Walking.{is_there}
use Rattle.vlm_script.proofs.Shown.{fewer_left, resource_passed}
use Rattle.vlm_script.proofs.show.show_resources.Goals as goal

-- one resource less is left
pub loop-next-smaller : goal.loop-next-smaller
loop-next-smaller c =
    let s = c.store-store.result.now in
    rw c.in-Some.is
    (fewer_left (plain_resource_at c.in-Some.res s) (resources_left c.next_resource-next.result s) _
    (is_there c.in-Some.res s
    (c.loop-next.invariant.there c.in-Some.res c.in-Some.is)) c.next_resource-next.ensures.left)

-- one more resource is printed
pub loop-next-preserved : goal.loop-next-preserved
loop-next-preserved c =
    let s = c.store-store.result.now in
    let there = is_there c.in-Some.res s (c.loop-next.invariant.there c.in-Some.res c.in-Some.is) in
    let more = resource_passed c.args.part (plain_resource_at c.in-Some.res s)
    (resources_left c.next_resource-next.result s) _ c.loop-next.out.items c.show_part.new.out.items there
    c.next_resource-next.ensures.left c.in_ok-show_part.ensures in
    record {
      there = c.next_resource-next.ensures.there;
      printed = more ∙ (rw c.in-Some.is at c.loop-next.invariant.printed);
    }
