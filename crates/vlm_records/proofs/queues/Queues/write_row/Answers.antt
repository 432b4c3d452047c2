use Rattle.std.proofs.Common.{Some, ap, refl, rules, sym}
use Rattle.std.specs.Option.{option_map}
use Rattle.vlm_records.specs.Shown.{but_requeued, no_links, no_place}
use Rattle.vlm_records.proofs.OwnLocks.{written_same}
use Rattle.vlm_records.proofs.Rooms.{room_written}
use Rattle.vlm_records.proofs.queues.Queues.write_row.Goals as goal

pub returns-clause-lock : goal.returns-clause-lock
returns-clause-lock c = record {
  others = search rules;
  kin =
      let was = c.index_mut.result.now in
      written_same c.args.self.now.locks c.args.at was (record was { row = c.args.row.now }) (option_map but_requeued) c.index_mut.ensures.value
      (ap (λ name. Some (record was { row = name; place = no_place; in_queue = no_links })) (sym (rw c.index_mut.ensures.value at c.requires.named)));
  resources = refl;
  locks_room = room_written c.args.self.now.locks c.args.at _ c.requires.present;
}
