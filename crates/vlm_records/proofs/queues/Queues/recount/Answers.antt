use Rattle.std.proofs.Common.{ap, refl, arith}
use Rattle.std.specs.Option.{option_map}
use Rattle.vlm_records.specs.Tallies.{has_mode, how_many, one_if, weight_of}
use Rattle.vlm_records.specs.Shown.{but_tally, tally_in}
use Rattle.vlm_records.proofs.Counting.{less_by, more_by, recounts, shares-room, weighs_here, weight_of-le}
use Rattle.vlm_records.proofs.OwnLocks.{written_same}
use Rattle.vlm_records.proofs.PlacesOnLists.{noted_as, noted_stands}
use Rattle.vlm_records.proofs.Rooms.{room_written}
use Rattle.vlm_records.proofs.queues.Queues.recount.Goals as goal

pub index_mut-requires : goal.index_mut-requires
index_mut-requires c =
    rw c.slot.ensures
    (noted_stands c.args.self.now c.args.at c.index.result.now c.parts-res.result.0 c.parts-res.result.1
    c.requires.placed c.requires.in_queue c.index.ensures c.parts-res.ensures)

pub remove-requires : goal.remove-requires
remove-requires c count mode =
    rw (c.of-counted.ensures count)
    (omega (
      arith,
      ap (λ slot. how_many count (tally_in slot) mode) (rw c.slot.ensures at c.index_mut.ensures.value),
      c.requires.tallied.counts count c.parts-res.result.0 mode,
      weighs_here c.args.self.now c.args.self.now c.args.at c.parts-res.result.0 c.parts-res.result.1 c.index.result.now
          c.requires.placed c.requires.in_queue c.index.ensures c.parts-res.ensures
          (λ p. refl) refl (weight_of count mode),
    ))

pub add-requires : goal.add-requires
add-requires c count mode =
    omega (
      arith,
      c.remove.ensures count mode,
      ap (λ m. one_if (has_mode mode m)) (c.of-counted.ensures count),
      ap (λ slot. how_many count (tally_in slot) mode) (rw c.slot.ensures at c.index_mut.ensures.value),
      c.requires.tallied.counts count c.parts-res.result.0 mode,
      weighs_here c.args.self.now c.args.self.now c.args.at c.parts-res.result.0 c.parts-res.result.1 c.index.result.now
          c.requires.placed c.requires.in_queue c.index.ensures c.parts-res.ensures
          (λ p. refl) refl (weight_of count mode),
      shares-room c.args.self.now (weight_of count mode)
          (weight_of-le count mode) c.args.at c.index.result.now.place c.requires.placed
          (noted_as _ _ c.index.ensures c.requires.in_queue) c.parts-res.result.0,
    )

pub returns-clause-counts : goal.returns-clause-counts
returns-clause-counts c = record {
  locks = refl;
  rest =
      let was = c.index_mut.result.now in
      written_same c.args.self.now.resources c.slot.result was (record was { tally = c.add.new.self }) (option_map but_tally) c.index_mut.ensures.value refl;
  resources_room =
      rw c.slot.ensures
      (room_written c.args.self.now.resources c.parts-res.result.0 _
      (noted_stands c.args.self.now c.args.at c.index.result.now c.parts-res.result.0 c.parts-res.result.1
      c.requires.placed c.requires.in_queue c.index.ensures c.parts-res.ensures));
}

pub returns-clause-change : goal.returns-clause-change
returns-clause-change c =
    rw c.slot.ensures
    (recounts c.args.self.now c.args.at c.parts-res.result.0 c.parts-res.result.1 c.index.result.now
    c.index_mut.result.now c.remove.new.self c.add.new.self c.args.row.now c.index.ensures c.parts-res.ensures
    (rw c.slot.ensures at c.index_mut.ensures.value)
    (λ count mode. less_by count mode c.index_mut.result.now.tally c.remove.new.self _ _ (c.of-counted.ensures count) (c.remove.ensures count mode))
    (λ count mode. more_by count mode c.remove.new.self c.add.new.self _ _ (c.of.ensures count) (c.add.ensures count mode)))
