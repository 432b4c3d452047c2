use Rattle.std.proofs.Common.{◌∙◌, None, Some, ap, refl, rules, true}
use Rattle.std.specs.Option.{option_map}
use Rattle.slab.specs.Slab.{get, with_value}
use Rattle.slab.proofs.SlabLemmas.{Updates-with_value}
use Rattle.vlm_collections.specs.Lists.{IsIn, without}
use Rattle.vlm_records.specs.declared.handles.Place.{Place}
use Rattle.vlm_records.specs.declared.locks.Lock.{Lock}
use Rattle.vlm_records.specs.declared.queues.Queues.{Queues}
use Rattle.vlm_records.specs.Shown.{but_requeued, handles_at, room_in, row_in}
use Rattle.vlm_records.proofs.Arming.{armed_but_one, armed_lists, lists_counted, out_unlisted, removed_granted, tally_counted}
use Rattle.vlm_records.proofs.Counting.{removed_placed, removed_tallied, tallied_taken, updated_handles}
use Rattle.vlm_records.proofs.PlacesOnLists.{counted_handles, counted_placed, lists_same, rows_relinked}
use Rattle.vlm_records.proofs.Rooms.{room_written}
use Rattle.vlm_records.proofs.queues.Queues.unlink.Goals as goal

pub take_off-requires-clause-placed : goal.take_off-requires-clause-placed
take_off-requires-clause-placed c =
    counted_placed c.leave_armed.new.self c.count_out.new.self None c.leave_armed.ensures.places.placed
    c.count_out.ensures.counts.rest c.count_out.ensures.counts.locks

pub returns : goal.returns
returns c =
    let q1 = c.leave_armed.new.self in
    let q2 = c.count_out.new.self in
    let q3 = c.take_off.new.self in
    let was = c.index_mut.result.now in
    let now : Lock = record was { loose = true } in
    let q4 : Queues = record q3 { locks = with_value q3.locks c.args.at now } in
    let updates = Updates-with_value q3.locks c.args.at now (rw c.index_mut.ensures.value refl) in
    let placed3 = c.take_off.ensures.placed in
    let unlisted : (p : Place) → ¬ IsIn c.args.at (handles_at q3 p) = λ p. placed3.gone p c.args.at refl in
    let handles4 = updated_handles q3 q4 c.args.at (Some now) updates placed3.linked unlisted (lists_same q3 q4 refl) in
    record {
      laid_out = record {
        placed = removed_placed q3 q4 c.args.at (Some now) updates placed3.linked unlisted (lists_same q3 q4 refl) refl placed3;
        tallied =
            removed_tallied q3 q4 c.args.at (Some now) updates placed3.linked unlisted (lists_same q3 q4 refl) refl
            (tallied_taken q2 q3 c.args.at c.take_off.ensures.handles
            (rows_relinked q2.locks q3.locks c.take_off.ensures.relinks) c.take_off.ensures.kept.rest
            c.count_out.ensures.tallied);
        armed = λ which.
            let armed1 = c.leave_armed.ensures.armed which in
            armed_but_one which q1 q4 (Some c.args.at) None c.args.at armed1 (out_unlisted which q1 c.args.at armed1)
            (armed_lists which q1.resources q3.resources
            (λ r. lists_counted q2.resources q3.resources c.take_off.ensures.kept.rest r
            ∙ tally_counted q1.resources q2.resources c.count_out.ensures.counts.rest r))
            (λ k differs. ap (option_map but_requeued) (updates.others k differs) ∙ c.take_off.ensures.kept.kin k
            ∙ ap (λ s. option_map but_requeued (get s k)) c.count_out.ensures.counts.locks)
            (removed_granted which q1 q4 c.args.at
            (λ k differs. ap row_in (updates.others k differs)
            ∙ rows_relinked q2.locks q3.locks c.take_off.ensures.relinks k
            ∙ ap (λ s. row_in (get s k)) c.count_out.ensures.counts.locks)
            (λ p. handles4 p ∙ c.take_off.ensures.handles p
            ∙ ap (without c.args.at)
            (counted_handles q1 q2 None c.leave_armed.ensures.places.placed c.count_out.ensures.counts.rest
            c.count_out.ensures.counts.locks p)));
      };
      handles = λ p.
          handles4 p ∙ c.take_off.ensures.handles p
          ∙ ap (without c.args.at)
          (counted_handles q1 q2 None c.leave_armed.ensures.places.placed c.count_out.ensures.counts.rest
          c.count_out.ensures.counts.locks p ∙ c.leave_armed.ensures.places.handles p);
      rows = search rules;
      here = search rules;
      others = search rules;
      kept = record {
        kin = search rules;
        rest = search rules;
        locks_room =
            room_written q3.locks c.args.at now (rw c.index_mut.ensures.value refl) ∙ c.take_off.ensures.kept.locks_room
            ∙ ap room_in c.count_out.ensures.counts.locks ∙ c.leave_armed.ensures.places.records.locks_room;
        resources_room = c.take_off.ensures.kept.resources_room ∙ c.count_out.ensures.counts.resources_room
            ∙ c.leave_armed.ensures.places.records.resources_room;
      };
      wait_list = search rules;
    }
