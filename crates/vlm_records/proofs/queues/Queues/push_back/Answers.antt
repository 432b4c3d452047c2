use Rattle.std.proofs.Common.{◌∙◌, ◌++◌, ◌∷◌, [], None, Some, ap, false, refl, rules}
use Rattle.std.specs.Option.{option_map}
use Rattle.slab.specs.Slab.{get, with_value}
use Rattle.slab.proofs.SlabLemmas.{Updates-with_value}
use Rattle.vlm_records.specs.declared.locks.Lock.{Lock}
use Rattle.vlm_records.specs.declared.queues.Queues.{Queues}
use Rattle.vlm_records.specs.Shown.{but_counted, but_requeued, room_in, row_in}
use Rattle.vlm_records.proofs.Arming.{added_granted, added_last, armed_but_one, armed_lists, armed_queues}
use Rattle.vlm_records.proofs.Arming.{counted_queues, loose_unarmed, lists_counted}
use Rattle.vlm_records.proofs.Arming.{tally_counted}
use Rattle.vlm_records.proofs.Counting.{added_placed, added_tallied, tallied_put, updated_handles}
use Rattle.vlm_records.proofs.PlacesOnLists.{counted_handles, counted_placed, lists_same, loose_unlisted, same_then}
use Rattle.vlm_records.proofs.Rooms.{room_written}
use Rattle.vlm_records.proofs.queues.Queues.push_back.Goals as goal

pub push_at-requires-clause-placed : goal.push_at-requires-clause-placed
push_at-requires-clause-placed c =
    let q = c.args.self.now in
    let now : Lock = record c.index_mut-lock.result.now { loose = false; place = c.of-lock.result } in
    let q1 : Queues = record q { locks = with_value q.locks c.args.at now } in
    added_placed q q1 c.args.at (Some now) (Updates-with_value q.locks c.args.at now (rw c.index_mut-lock.ensures.value refl)) c.requires.laid_out.placed.linked
    (loose_unlisted q c.args.at c.requires.laid_out.placed c.requires.loose) (lists_same q q1 refl) c.requires.laid_out.placed

pub count_in-requires-clause-tallied : goal.count_in-requires-clause-tallied
count_in-requires-clause-tallied c =
    let q = c.args.self.now in
    let at = c.args.at in
    let now : Lock = record c.index_mut-lock.result.now { loose = false; place = c.of-lock.result } in
    let q1 : Queues = record q { locks = with_value q.locks at now } in
    let updates = Updates-with_value q.locks at now (rw c.index_mut-lock.ensures.value refl) in
    let unlisted = loose_unlisted q at c.requires.laid_out.placed c.requires.loose in
    let placed1 = added_placed q q1 at (Some now) updates c.requires.laid_out.placed.linked unlisted (lists_same q q1 refl) c.requires.laid_out.placed in
    let tallied1 = added_tallied q q1 at (Some now) updates c.requires.laid_out.placed.linked unlisted
    (lists_same q q1 refl) refl c.requires.laid_out.tallied in
    tallied_put q1 c.push_at.new.self at c.args.to placed1 c.push_at.ensures.here c.push_at.ensures.elsewhere
    c.push_at.ensures.rows c.push_at.ensures.kept.rest tallied1

pub join_armed-requires-clause-placed : goal.join_armed-requires-clause-placed
join_armed-requires-clause-placed c =
    counted_placed c.push_at.new.self c.count_in.new.self None c.push_at.ensures.placed c.count_in.ensures.counts.rest c.count_in.ensures.counts.locks

pub join_armed-requires-clause-armed : goal.join_armed-requires-clause-armed
join_armed-requires-clause-armed c which =
    let q = c.args.self.now in
    let at = c.args.at in
    let now : Lock = record c.index_mut-lock.result.now { loose = false; place = c.of-lock.result } in
    let q1 : Queues = record q { locks = with_value q.locks at now } in
    let q2 = c.push_at.new.self in
    let q3 = c.count_in.new.self in
    let put = c.push_at.ensures in
    let counts = c.count_in.ensures.counts in
    let updates = Updates-with_value q.locks at now (rw c.index_mut-lock.ensures.value refl) in
    let unlisted = loose_unlisted q at c.requires.laid_out.placed c.requires.loose in
    let handles1 = updated_handles q q1 at (Some now) updates c.requires.laid_out.placed.linked unlisted (lists_same q q1 refl) in
    let handles3 = counted_handles q2 q3 None put.placed counts.rest counts.locks in
    armed_but_one which q q3 None (Some at) at (c.requires.laid_out.armed which)
    (loose_unarmed which q at c.requires.laid_out.placed (c.requires.laid_out.armed which) c.requires.loose)
    (armed_lists which q.resources q3.resources
    (same_then but_counted q.resources q2.resources q3.resources (lists_counted q.resources q2.resources put.kept.rest)
    (tally_counted q2.resources q3.resources counts.rest)))
    (λ k differs. ap (λ s. option_map but_requeued (get s k)) counts.locks ∙ put.kept.kin k ∙ ap (option_map but_requeued) (updates.others k differs))
    (added_granted which q q3 at (λ k differs. ap (λ s. row_in (get s k)) counts.locks ∙ put.rows k ∙ ap row_in (updates.others k differs)) unlisted c.args.to
    (handles3 c.args.to ∙ put.here ∙ ap (λ ks. ks ++ at ∷ []) (handles1 c.args.to)) (λ p differs. handles3 p ∙ put.elsewhere p differs ∙ handles1 p))

pub join_armed-requires-clause-last : goal.join_armed-requires-clause-last
join_armed-requires-clause-last c =
    let q = c.args.self.now in
    let at = c.args.at in
    let now : Lock = record c.index_mut-lock.result.now { loose = false; place = c.of-lock.result } in
    let q1 : Queues = record q { locks = with_value q.locks at now } in
    let q2 = c.push_at.new.self in
    let q3 = c.count_in.new.self in
    let put = c.push_at.ensures in
    let counts = c.count_in.ensures.counts in
    let updates = Updates-with_value q.locks at now (rw c.index_mut-lock.ensures.value refl) in
    let unlisted = loose_unlisted q at c.requires.laid_out.placed c.requires.loose in
    let handles1 = updated_handles q q1 at (Some now) updates c.requires.laid_out.placed.linked unlisted (lists_same q q1 refl) in
    let handles3 = counted_handles q2 q3 None put.placed counts.rest counts.locks in
    added_last q q3 at unlisted c.args.to
    (handles3 c.args.to ∙ put.here ∙ ap (λ ks. ks ++ at ∷ []) (handles1 c.args.to)) (λ p differs. handles3 p ∙ put.elsewhere p differs ∙ handles1 p)
    (counted_placed q2 q3 None put.placed counts.rest counts.locks)

pub returns : goal.returns
returns c =
    let q = c.args.self.now in
    let at = c.args.at in
    let now : Lock = record c.index_mut-lock.result.now { loose = false; place = c.of-lock.result } in
    let q1 : Queues = record q { locks = with_value q.locks at now } in
    let q2 = c.push_at.new.self in
    let q3 = c.count_in.new.self in
    let q4 = c.join_armed.new.self in
    let put = c.push_at.ensures in
    let counts = c.count_in.ensures.counts in
    let updates = Updates-with_value q.locks at now (rw c.index_mut-lock.ensures.value refl) in
    let unlisted = loose_unlisted q at c.requires.laid_out.placed c.requires.loose in
    let handles1 = updated_handles q q1 at (Some now) updates c.requires.laid_out.placed.linked unlisted (lists_same q q1 refl) in
    let handles3 = counted_handles q2 q3 None put.placed counts.rest counts.locks in
    record {
      laid_out = record {
        placed = c.join_armed.ensures.places.placed;
        tallied = c.join_armed.ensures.places.tallied;
        armed = c.join_armed.ensures.armed;
      };
      here = c.join_armed.ensures.places.handles c.args.to ∙ handles3 c.args.to ∙ put.here ∙ ap (λ ks. ks ++ at ∷ []) (handles1 c.args.to);
      elsewhere = λ p differs. c.join_armed.ensures.places.handles p ∙ handles3 p ∙ put.elsewhere p differs ∙ handles1 p;
      rows = search rules;
      others = search rules;
      kept = record {
        kin = search rules;
        rest = λ k.
            armed_queues q3.resources q4.resources c.join_armed.ensures.places.records.rest k
            ∙ counted_queues q.resources q3.resources
            (same_then but_counted q.resources q2.resources q3.resources
            (lists_counted q.resources q2.resources put.kept.rest)
            (tally_counted q2.resources q3.resources counts.rest)) k;
        locks_room = c.join_armed.ensures.places.records.locks_room ∙ ap room_in counts.locks ∙ put.kept.locks_room
            ∙ room_written q.locks at now (rw c.index_mut-lock.ensures.value refl);
        resources_room = c.join_armed.ensures.places.records.resources_room ∙ counts.resources_room ∙ put.kept.resources_room;
      };
      wait_list = search rules;
    }
