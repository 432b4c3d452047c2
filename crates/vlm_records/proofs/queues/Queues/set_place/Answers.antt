use Rattle.std.proofs.Common.{refl, rules}
use Rattle.std.specs.Option.{option_map}
use Rattle.vlm_records.specs.Shown.{but_requeued}
use Rattle.vlm_records.proofs.OwnLocks.{written_same}
use Rattle.vlm_records.proofs.Rooms.{room_written}
use Rattle.vlm_records.proofs.queues.Queues.set_place.Goals as goal

pub returns-clause-lock : goal.returns-clause-lock
returns-clause-lock c = record {
  others = search rules;
  kin = written_same c.args.self.now.locks c.args.at c.index_mut.result.now
      (record c.index_mut.result.now { place = c.of.result }) (option_map but_requeued) c.index_mut.ensures.value refl;
  resources = refl;
  locks_room = room_written c.args.self.now.locks c.args.at _ c.requires.present;
}
