use Rattle.vlm_records.proofs.Rooms.{room_taken}
use Rattle.std.proofs.Common.{◌≡◌, ◌∙◌, ◌+◌, ◌++◌, ◌∷◌, [], None, Some, ℕ, ap, rules}
use Rattle.std.specs.Option.{option_map}
use Rattle.slab.specs.Slab.{get}
use Rattle.vlm_collections.proofs.Keeping.{vacant_unlisted}
use Rattle.vlm_records.specs.Armed.{armed_links, armed_list}
use Rattle.vlm_records.specs.Shown.{but_counted, but_queued, but_requeued, new_lock, room_in, row_in}
use Rattle.vlm_records.proofs.Arming.{added_granted, added_last, armed_but_one, armed_lists, armed_queues}
use Rattle.vlm_records.proofs.Arming.{counted_queues, in_armed_is, lists_counted, requeued_is, tally_counted}
use Rattle.vlm_records.proofs.Counting.{inserted_handles, inserted_placed, inserted_tallied, inserted_unlisted, tallied_put}
use Rattle.vlm_records.proofs.PlacesOnLists.{counted_handles, counted_placed, same_then}
use Rattle.vlm_records.proofs.queues.Queues.add.Goals as goal

pub push_at-requires-clause-placed : goal.push_at-requires-clause-placed
push_at-requires-clause-placed c =
    inserted_placed c.requires.laid_out c.insert_reserved-at.ensures.was_vacant c.insert_reserved-at.ensures.updates

pub count_in-requires-clause-tallied : goal.count_in-requires-clause-tallied
count_in-requires-clause-tallied c =
    let vacant = c.insert_reserved-at.ensures.was_vacant in
    let updates = c.insert_reserved-at.ensures.updates in
    tallied_put (record c.args.self.now { locks = c.insert_reserved-at.new.self }) c.push_at.new.self c.insert_reserved-at.result c.args.to
    (inserted_placed c.requires.laid_out vacant updates) c.push_at.ensures.here c.push_at.ensures.elsewhere
    c.push_at.ensures.rows c.push_at.ensures.kept.rest (inserted_tallied c.requires.laid_out vacant updates)

pub join_armed-requires-clause-placed : goal.join_armed-requires-clause-placed
join_armed-requires-clause-placed c =
    counted_placed c.push_at.new.self c.count_in.new.self None c.push_at.ensures.placed c.count_in.ensures.counts.rest c.count_in.ensures.counts.locks

pub join_armed-requires-clause-armed : goal.join_armed-requires-clause-armed
join_armed-requires-clause-armed c which =
    let q = c.args.self.now in
    let at = c.insert_reserved-at.result in
    let q2 = c.push_at.new.self in
    let q3 = c.count_in.new.self in
    let put = c.push_at.ensures in
    let counts = c.count_in.ensures.counts in
    let vacant = c.insert_reserved-at.ensures.was_vacant in
    let updates = c.insert_reserved-at.ensures.updates in
    let handles1 = inserted_handles c.requires.laid_out vacant updates in
    let handles3 = counted_handles q2 q3 None put.placed counts.rest counts.locks in
    armed_but_one which q q3 None (Some at) at (c.requires.laid_out.armed which)
    (λ res. vacant_unlisted (armed_links which) q.locks (armed_list which q res) ((c.requires.laid_out.armed which).linked res) at vacant)
    (armed_lists which q.resources q3.resources
    (same_then but_counted q.resources q2.resources q3.resources (lists_counted q.resources q2.resources put.kept.rest)
    (tally_counted q2.resources q3.resources counts.rest)))
    (λ k differs. ap (λ s. option_map but_requeued (get s k)) counts.locks ∙ put.kept.kin k ∙ ap (option_map but_requeued) (updates.others k differs))
    (added_granted which q q3 at
    (λ k differs. ap (λ s. row_in (get s k)) counts.locks ∙ put.rows k ∙ ap row_in (updates.others k differs))
    (inserted_unlisted c.requires.laid_out vacant updates) c.args.to
    (handles3 c.args.to ∙ put.here ∙ ap (λ ks. ks ++ at ∷ []) (handles1 c.args.to)) (λ p differs. handles3 p ∙ put.elsewhere p differs ∙ handles1 p))

pub join_armed-requires-clause-last : goal.join_armed-requires-clause-last
join_armed-requires-clause-last c =
    let at = c.insert_reserved-at.result in
    let q2 = c.push_at.new.self in
    let q3 = c.count_in.new.self in
    let put = c.push_at.ensures in
    let counts = c.count_in.ensures.counts in
    let vacant = c.insert_reserved-at.ensures.was_vacant in
    let updates = c.insert_reserved-at.ensures.updates in
    let handles1 = inserted_handles c.requires.laid_out vacant updates in
    let handles3 = counted_handles q2 q3 None put.placed counts.rest counts.locks in
    added_last c.args.self.now q3 at (inserted_unlisted c.requires.laid_out vacant updates) c.args.to
    (handles3 c.args.to ∙ put.here ∙ ap (λ ks. ks ++ at ∷ []) (handles1 c.args.to)) (λ p differs. handles3 p ∙ put.elsewhere p differs ∙ handles1 p)
    (counted_placed q2 q3 None put.placed counts.rest counts.locks)

pub returns : goal.returns
returns c = record {
  within = search rules;
  fresh = search rules;
  laid_out = record {
    placed = c.join_armed.ensures.places.placed;
    tallied = c.join_armed.ensures.places.tallied;
    armed = c.join_armed.ensures.armed;
  };
  here =
      let counts = c.count_in.ensures.counts in
      c.join_armed.ensures.places.handles c.args.to
      ∙ counted_handles c.push_at.new.self c.count_in.new.self None c.push_at.ensures.placed counts.rest counts.locks c.args.to
      ∙ c.push_at.ensures.here
      ∙ ap (λ ks. ks ++ c.insert_reserved-at.result ∷ [])
      (inserted_handles c.requires.laid_out c.insert_reserved-at.ensures.was_vacant c.insert_reserved-at.ensures.updates c.args.to);
  elsewhere = λ p differs.
      let counts = c.count_in.ensures.counts in
      c.join_armed.ensures.places.handles p
      ∙ counted_handles c.push_at.new.self c.count_in.new.self None c.push_at.ensures.placed counts.rest counts.locks p
      ∙ c.push_at.ensures.elsewhere p differs
      ∙ inserted_handles c.requires.laid_out c.insert_reserved-at.ensures.was_vacant c.insert_reserved-at.ensures.updates p;
  row = search rules;
  rows = search rules;
  lock =
      let at = c.insert_reserved-at.result in
      let q1 = c.insert_reserved-at.new.self in
      let q2 = c.push_at.new.self.locks in
      let q3 = c.count_in.new.self.locks in
      let q4 = c.join_armed.new.self.locks in
      let made : option_map but_queued (get q1 at) ≡ Some (new_lock c.args.row.now c.args.owner c.args.parent) = search rules in
      in_armed_is (get q4 at) (get q3 at) (c.join_armed.ensures.places.records.kin at)
      ∙ ap (λ s. option_map but_queued (get s at)) c.count_in.ensures.counts.locks
      ∙ requeued_is (get q2 at) (get q1 at) (c.push_at.ensures.kept.kin at) ∙ made;
  kin = λ k differs.
      let q1 = c.insert_reserved-at.new.self in
      let q2 = c.push_at.new.self.locks in
      let q3 = c.count_in.new.self.locks in
      let q4 = c.join_armed.new.self.locks in
      in_armed_is (get q4 k) (get q3 k) (c.join_armed.ensures.places.records.kin k) ∙ ap (λ s. option_map but_queued (get s k)) c.count_in.ensures.counts.locks
      ∙ requeued_is (get q2 k) (get q1 k) (c.push_at.ensures.kept.kin k) ∙ ap (option_map but_queued) (c.insert_reserved-at.ensures.updates.others k differs);
  loose = search rules;
  wait_list = search rules;
  rest = λ k.
      let q1 = c.args.self.now.resources in
      let q2 = c.push_at.new.self.resources in
      let q3 = c.count_in.new.self.resources in
      let q4 = c.join_armed.new.self.resources in
      armed_queues q3 q4 c.join_armed.ensures.places.records.rest k
      ∙ counted_queues q1 q3 (same_then but_counted q1 q2 q3 (lists_counted q1 q2 c.push_at.ensures.kept.rest)
      (tally_counted q2 q3 c.count_in.ensures.counts.rest)) k;
  taken =
      ap (λ (p : ℕ × ℕ). p.0 + 1) (c.join_armed.ensures.places.records.locks_room
      ∙ ap room_in c.count_in.ensures.counts.locks ∙ c.push_at.ensures.kept.locks_room)
      ∙ room_taken c.args.self.now.locks c.insert_reserved-at.new.self c.requires.room c.insert_reserved-at.ensures.len c.insert_reserved-at.ensures.capacity;
  resources_room = c.join_armed.ensures.places.records.resources_room ∙ c.count_in.ensures.counts.resources_room ∙ c.push_at.ensures.kept.resources_room;
}
