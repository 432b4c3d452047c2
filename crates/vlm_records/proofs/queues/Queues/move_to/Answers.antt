use Rattle.std.proofs.Common.{◌∙◌, ◌++◌, ◌∷◌, [], Some, ap, rules}
use Rattle.slab.specs.Slab.{get}
use Rattle.vlm_collections.specs.Lists.{without}
use Rattle.vlm_records.specs.Shown.{but_armed, but_in_armed, but_requeued, named_row}
use Rattle.vlm_records.proofs.Arming.{armed_but_one, armed_lists, armed_queues, armed_rewritten, counted_queues}
use Rattle.vlm_records.proofs.Arming.{in_armed_is, out_unlisted, place_still, requeued_granted, requeued_is}
use Rattle.vlm_records.proofs.Arming.{requeued_last}
use Rattle.vlm_records.proofs.PlacesOnLists.{there_through}
use Rattle.vlm_records.proofs.LastStaysLast.{stayed_elsewhere, stayed_here}
use Rattle.vlm_records.proofs.queues.Queues.move_to.Goals as goal

-- it keeps its links
pub returns-then-stays : goal.returns-then-stays
returns-then-stays c = record {
  laid_out = record {
    placed = c.rewrite.ensures.placed;
    tallied = c.rewrite.ensures.tallied;
    armed = λ which. armed_rewritten which c.args.self.now c.rewrite.new.self c.args.at c.args.row.now c.rewrite.ensures
        c.if-stays.ensures.armed (c.requires.laid_out.armed which);
  };
  here = stayed_here c.args.self.now c.args.at c.args.to c.if-stays.ensures.noted c.if-stays.ensures.last c.rewrite.new.self c.rewrite.ensures.handles;
  elsewhere = stayed_elsewhere c.args.self.now c.args.at c.args.to c.if-stays.ensures.noted c.rewrite.new.self
      c.rewrite.ensures.handles c.requires.laid_out.placed;
  row = search rules;
  rows = search rules;
  kept = record {
    kin = λ k. requeued_is (get c.rewrite.new.self.locks k) (get c.args.self.now.locks k) (c.rewrite.ensures.kept.kin k);
    rest = counted_queues c.args.self.now.resources c.rewrite.new.self.resources c.rewrite.ensures.kept.rest;
    locks_room = c.rewrite.ensures.kept.locks_room;
    resources_room = c.rewrite.ensures.kept.resources_room;
  };
  loose = search rules;
  wait_list = search rules;
}

-- it is linked anew
pub requeue-requires-clause-present : goal.requeue-requires-clause-present
requeue-requires-clause-present c =
    there_through but_in_armed c.args.self.now.locks c.leave_armed.new.self.locks
    c.leave_armed.ensures.places.records.kin c.args.at c.requires.present

pub requeue-requires-clause-there : goal.requeue-requires-clause-there
requeue-requires-clause-there c =
    place_still but_armed c.args.self.now.resources c.leave_armed.new.self.resources
    c.leave_armed.ensures.places.records.rest c.args.to c.requires.there

pub requeue-requires-clause-named : goal.requeue-requires-clause-named
requeue-requires-clause-named c = ap named_row (c.leave_armed.ensures.places.rows c.args.at) ∙ c.requires.named

pub join_armed-requires-clause-armed : goal.join_armed-requires-clause-armed
join_armed-requires-clause-armed c which =
    let q1 = c.leave_armed.new.self in
    let q2 = c.requeue.new.self in
    let moved = c.requeue.ensures in
    armed_but_one which q1 q2 (Some c.args.at) (Some c.args.at) c.args.at (c.leave_armed.ensures.armed which)
    (out_unlisted which q1 c.args.at (c.leave_armed.ensures.armed which))
    (armed_lists which q1.resources q2.resources moved.kept.rest)
    (λ k _. moved.kept.kin k) (requeued_granted which q1 q2 c.args.at moved.rows c.args.to moved.here moved.elsewhere)

pub join_armed-requires-clause-present : goal.join_armed-requires-clause-present
join_armed-requires-clause-present c =
    let present1 = there_through but_in_armed c.args.self.now.locks c.leave_armed.new.self.locks
    c.leave_armed.ensures.places.records.kin c.args.at c.requires.present in
    there_through but_requeued c.leave_armed.new.self.locks c.requeue.new.self.locks c.requeue.ensures.kept.kin c.args.at present1

pub join_armed-requires-clause-last : goal.join_armed-requires-clause-last
join_armed-requires-clause-last c =
    let moved = c.requeue.ensures in
    requeued_last c.leave_armed.new.self c.requeue.new.self c.args.at c.args.to moved.here moved.elsewhere moved.placed

pub returns-else-stays : goal.returns-else-stays
returns-else-stays c = record {
  laid_out = record {
    placed = c.join_armed.ensures.places.placed;
    tallied = c.join_armed.ensures.places.tallied;
    armed = c.join_armed.ensures.armed;
  };
  here = c.join_armed.ensures.places.handles c.args.to ∙ c.requeue.ensures.here
      ∙ ap (λ ks. without c.args.at ks ++ c.args.at ∷ []) (c.leave_armed.ensures.places.handles c.args.to);
  elsewhere = λ p differs. c.join_armed.ensures.places.handles p ∙ c.requeue.ensures.elsewhere p differs
      ∙ ap (without c.args.at) (c.leave_armed.ensures.places.handles p);
  row = search rules;
  rows = search rules;
  kept = record {
    kin = λ k.
        let q = c.args.self.now.locks in
        let q1 = c.leave_armed.new.self.locks in
        let q2 = c.requeue.new.self.locks in
        let q3 = c.join_armed.new.self.locks in
        in_armed_is (get q3 k) (get q2 k) (c.join_armed.ensures.places.records.kin k)
        ∙ requeued_is (get q2 k) (get q1 k) (c.requeue.ensures.kept.kin k)
        ∙ in_armed_is (get q1 k) (get q k) (c.leave_armed.ensures.places.records.kin k);
    rest = λ k.
        let q = c.args.self.now.resources in
        let q1 = c.leave_armed.new.self.resources in
        let q2 = c.requeue.new.self.resources in
        let q3 = c.join_armed.new.self.resources in
        armed_queues q2 q3 c.join_armed.ensures.places.records.rest k
        ∙ counted_queues q1 q2 c.requeue.ensures.kept.rest k
        ∙ armed_queues q q1 c.leave_armed.ensures.places.records.rest k;
    locks_room = c.join_armed.ensures.places.records.locks_room ∙ c.requeue.ensures.kept.locks_room ∙ c.leave_armed.ensures.places.records.locks_room;
    resources_room = c.join_armed.ensures.places.records.resources_room ∙ c.requeue.ensures.kept.resources_room
        ∙ c.leave_armed.ensures.places.records.resources_room;
  };
  loose = search rules;
  wait_list = search rules;
}
