use Rattle.vlm_records.specs.Shown.{but_requeued, room_in, row_in}
use Rattle.vlm_records.proofs.Rooms.{room_given_back}
use Rattle.std.proofs.Common.{◌∙◌, None, Some, ap, refl, ◌+◌, ℕ, rules}
use Rattle.std.specs.Option.{option_map}
use Rattle.slab.specs.Slab.{get}
use Rattle.vlm_records.specs.declared.queues.Queues.{Queues}
use Rattle.vlm_records.proofs.Arming.{armed_but_one, armed_lists, lists_counted, out_unlisted, removed_granted, tally_counted}
use Rattle.vlm_collections.specs.Lists.{without}
use Rattle.vlm_records.proofs.Counting.{removed_placed, removed_tallied, tallied_taken, updated_handles}
use Rattle.vlm_records.proofs.PlacesOnLists.{counted_handles, counted_placed, lists_same, rows_relinked}
use Rattle.vlm_records.proofs.queues.Queues.remove.Goals as goal

pub take_off-requires-clause-placed : goal.take_off-requires-clause-placed
take_off-requires-clause-placed c =
    counted_placed c.leave_armed.new.self c.count_out.new.self None c.leave_armed.ensures.places.placed
    c.count_out.ensures.counts.rest c.count_out.ensures.counts.locks

pub returns : goal.returns
returns c = record {
  laid_out = record {
    placed =
        let q2 = c.take_off.new.self in
        let placed2 = c.take_off.ensures.placed in
        removed_placed q2 (record q2 {
          locks =
              c.remove.new.self;
        }) c.args.at None c.remove.ensures.updates placed2.linked
        (λ p. placed2.gone p c.args.at refl)
        (lists_same q2 (record q2 { locks = c.remove.new.self }) refl) refl placed2;
    tallied =
        let q2 = c.take_off.new.self in
        let placed2 = c.take_off.ensures.placed in
        let tallied2 = tallied_taken c.count_out.new.self q2 c.args.at c.take_off.ensures.handles
        (rows_relinked c.count_out.new.self.locks q2.locks c.take_off.ensures.relinks)
        c.take_off.ensures.kept.rest c.count_out.ensures.tallied in
        removed_tallied q2 (record q2 { locks = c.remove.new.self }) c.args.at None c.remove.ensures.updates placed2.linked (λ p. placed2.gone p c.args.at refl)
        (lists_same q2 (record q2 { locks = c.remove.new.self }) refl) refl tallied2;
    armed = λ which.
        let q1 = c.leave_armed.new.self in
        let q2 = c.count_out.new.self in
        let q3 = c.take_off.new.self in
        let q4 : Queues = record q3 { locks = c.remove.new.self } in
        let armed1 = c.leave_armed.ensures.armed which in
        let placed3 = c.take_off.ensures.placed in
        let others = c.remove.ensures.updates.others in
        armed_but_one which q1 q4 (Some c.args.at) None c.args.at armed1 (out_unlisted which q1 c.args.at armed1)
        (armed_lists which q1.resources q3.resources
        (λ r. lists_counted q2.resources q3.resources c.take_off.ensures.kept.rest r
        ∙ tally_counted q1.resources q2.resources c.count_out.ensures.counts.rest r))
        (λ k differs. ap (option_map but_requeued) (others k differs) ∙ c.take_off.ensures.kept.kin k
        ∙ ap (λ s. option_map but_requeued (get s k)) c.count_out.ensures.counts.locks)
        (removed_granted which q1 q4 c.args.at
        (λ k differs. ap row_in (others k differs) ∙ rows_relinked q2.locks q3.locks c.take_off.ensures.relinks k
        ∙ ap (λ s. row_in (get s k)) c.count_out.ensures.counts.locks)
        (λ p.
        updated_handles q3 q4 c.args.at None c.remove.ensures.updates placed3.linked (λ x. placed3.gone x c.args.at refl) (lists_same q3 q4 refl) p
        ∙ c.take_off.ensures.handles p
        ∙ ap (without c.args.at)
        (counted_handles q1 q2 None c.leave_armed.ensures.places.placed c.count_out.ensures.counts.rest
        c.count_out.ensures.counts.locks p)));
  };
  handles = λ p.
      let q2 = c.take_off.new.self in
      let placed2 = c.take_off.ensures.placed in
      updated_handles q2 (record q2 { locks = c.remove.new.self }) c.args.at None c.remove.ensures.updates placed2.linked (λ x. placed2.gone x c.args.at refl)
      (lists_same q2 (record q2 { locks = c.remove.new.self }) refl) p
      ∙ c.take_off.ensures.handles p
      ∙ ap (without c.args.at)
      (counted_handles c.leave_armed.new.self c.count_out.new.self None c.leave_armed.ensures.places.placed
      c.count_out.ensures.counts.rest c.count_out.ensures.counts.locks p
      ∙ c.leave_armed.ensures.places.handles p);
  gone = search rules;
  rows = search rules;
  kin = search rules;
  loose = search rules;
  wait_list = search rules;
  rest = search rules;
  given_back =
      room_given_back c.take_off.new.self.locks c.remove.new.self c.args.at c.remove.ensures.room c.remove.ensures.len
      c.remove.ensures.capacity c.remove.ensures.key_is_next
      ∙ ap (λ (p : ℕ × ℕ). (p.0 + 1, c.args.at)) (c.take_off.ensures.kept.locks_room
      ∙ ap room_in c.count_out.ensures.counts.locks ∙ c.leave_armed.ensures.places.records.locks_room);
  resources_room = search rules;
}
