use Rattle.std.proofs.Common.{◌∙◌, ◌++◌, ◌∷◌, [], None, Some, ap, rules}
use Rattle.vlm_collections.specs.Lists.{without}
use Rattle.slab.specs.Slab.{get}
use Rattle.vlm_records.specs.Shown.{room_in, row_in, tally_in}
use Rattle.vlm_records.proofs.Counting.{tallied_moved, tallied_put, tallied_taken}
use Rattle.vlm_records.proofs.PlacesOnLists.{counted_handles, counted_placed, rows_relinked, written_handles, written_placed}
use Rattle.vlm_records.proofs.queues.Queues.requeue.Goals as goal

pub take_off-requires-clause-placed : goal.take_off-requires-clause-placed
take_off-requires-clause-placed c =
    counted_placed c.args.self.now c.count_out.new.self None c.requires.placed c.count_out.ensures.counts.rest c.count_out.ensures.counts.locks

pub put_at-requires-clause-placed : goal.put_at-requires-clause-placed
put_at-requires-clause-placed c =
    written_placed c.take_off.new.self c.write_row.new.self
    (Some c.args.at) c.take_off.ensures.placed c.write_row.ensures.rest c.write_row.ensures.lock.resources

pub count_in-requires-clause-tallied : goal.count_in-requires-clause-tallied
count_in-requires-clause-tallied c =
    let placed2 = written_placed c.take_off.new.self c.write_row.new.self
    (Some c.args.at) c.take_off.ensures.placed c.write_row.ensures.rest c.write_row.ensures.lock.resources in
    let handles2 = written_handles c.take_off.new.self c.write_row.new.self
    (Some c.args.at) c.take_off.ensures.placed c.write_row.ensures.rest c.write_row.ensures.lock.resources in
    let tallied1 = tallied_taken c.count_out.new.self c.take_off.new.self c.args.at c.take_off.ensures.handles
    (rows_relinked c.count_out.new.self.locks c.take_off.new.self.locks c.take_off.ensures.relinks)
    c.take_off.ensures.kept.rest c.count_out.ensures.tallied in
    let tallied2 = tallied_moved c.take_off.new.self c.write_row.new.self c.args.at
    (λ r. ap (λ s. tally_in (get s r)) c.write_row.ensures.lock.resources)
    (λ p. ap (without c.args.at) (handles2 p))
    (λ k differs. ap row_in (c.write_row.ensures.lock.others k differs)) tallied1 in
    tallied_put c.write_row.new.self c.put_at.new.self c.args.at c.args.to placed2 c.put_at.ensures.here
    c.put_at.ensures.elsewhere c.put_at.ensures.rows c.put_at.ensures.kept.rest tallied2

pub returns : goal.returns
returns c = record {
  placed =
      counted_placed c.put_at.new.self c.count_in.new.self None c.put_at.ensures.placed c.count_in.ensures.counts.rest c.count_in.ensures.counts.locks;
  tallied = c.count_in.ensures.tallied;
  here =
      counted_handles c.put_at.new.self c.count_in.new.self None c.put_at.ensures.placed c.count_in.ensures.counts.rest
      c.count_in.ensures.counts.locks c.args.to
      ∙ c.put_at.ensures.here
      ∙ ap (λ ks. ks ++ c.args.at ∷ [])
      (written_handles c.take_off.new.self c.write_row.new.self
      (Some c.args.at) c.take_off.ensures.placed c.write_row.ensures.rest c.write_row.ensures.lock.resources
      c.args.to
      ∙ c.take_off.ensures.handles c.args.to
      ∙ ap (without c.args.at)
      (counted_handles c.args.self.now c.count_out.new.self None c.requires.placed c.count_out.ensures.counts.rest c.count_out.ensures.counts.locks c.args.to));
  elsewhere =
      λ p differs.
      counted_handles c.put_at.new.self c.count_in.new.self None c.put_at.ensures.placed c.count_in.ensures.counts.rest c.count_in.ensures.counts.locks p
      ∙ c.put_at.ensures.elsewhere p differs
      ∙ written_handles c.take_off.new.self c.write_row.new.self
      (Some c.args.at) c.take_off.ensures.placed c.write_row.ensures.rest c.write_row.ensures.lock.resources p
      ∙ c.take_off.ensures.handles p
      ∙ ap (without c.args.at)
      (counted_handles c.args.self.now c.count_out.new.self None c.requires.placed c.count_out.ensures.counts.rest c.count_out.ensures.counts.locks p);
  row = search rules;
  rows = search rules;
  kept =
      record {
        kin = search rules;
        rest = search rules;
        locks_room = ap room_in c.count_in.ensures.counts.locks ∙ c.put_at.ensures.kept.locks_room
            ∙ c.write_row.ensures.lock.locks_room ∙ c.take_off.ensures.kept.locks_room
            ∙ ap room_in c.count_out.ensures.counts.locks;
        resources_room =
            c.count_in.ensures.counts.resources_room ∙ c.put_at.ensures.kept.resources_room
            ∙ ap room_in c.write_row.ensures.lock.resources ∙ c.take_off.ensures.kept.resources_room
            ∙ c.count_out.ensures.counts.resources_room;
      };
}
