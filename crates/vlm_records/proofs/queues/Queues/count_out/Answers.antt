use Rattle.std.proofs.Common.{ap, refl, arith}
use Rattle.std.specs.Option.{option_map}
use Rattle.slab.specs.Slab.{get, with_value}
use Rattle.vlm_records.specs.Tallies.{how_many, weight_of}
use Rattle.vlm_records.specs.declared.queues.Queues.{Queues}
use Rattle.vlm_records.specs.Shown.{SameBut, but_tally, tally_in}
use Rattle.vlm_records.proofs.Counting.{counted_out, less_by, tally_less, weighs_here}
use Rattle.vlm_records.proofs.OwnLocks.{written_same}
use Rattle.vlm_records.proofs.PlacesOnLists.{lists_but_tally, noted_stands}
use Rattle.vlm_records.proofs.Rooms.{room_written}
use Rattle.vlm_records.proofs.queues.Queues.count_out.Goals as goal

pub index_mut-requires : goal.index_mut-requires
index_mut-requires c =
    rw c.slot.ensures
    (noted_stands c.args.self.now c.args.at c.index.result.now c.parts-res.result.0 c.parts-res.result.1
    c.requires.placed c.requires.in_queue c.index.ensures c.parts-res.ensures)

pub remove-requires : goal.remove-requires
remove-requires c count mode =
    rw (c.of-counted.ensures count)
    (omega (
      arith,
      ap (λ slot. how_many count (tally_in slot) mode) (rw c.slot.ensures at c.index_mut.ensures.value),
      c.requires.tallied.counts count c.parts-res.result.0 mode,
      weighs_here c.args.self.now c.args.self.now c.args.at c.parts-res.result.0 c.parts-res.result.1 c.index.result.now
          c.requires.placed c.requires.in_queue c.index.ensures c.parts-res.ensures
          (λ p. refl) refl (weight_of count mode),
    ))

pub returns-clause-tallied : goal.returns-clause-tallied
returns-clause-tallied c =
    let q = c.args.self.now in
    let res = c.parts-res.result.0 in
    let there = noted_stands q c.args.at c.index.result.now res c.parts-res.result.1 c.requires.placed
    c.requires.in_queue c.index.ensures c.parts-res.ensures in
    let was = c.index_mut.result.now in
    let now = record was { tally = c.remove.new.self } in
    let here = rw c.slot.ensures at c.index_mut.ensures.value in
    let q' : Queues = record q { resources = with_value q.resources res now } in
    let rest : SameBut but_tally q.resources q'.resources = written_same q.resources res was now (option_map but_tally) here refl in
    rw c.slot.ensures
    (record {
      counts = λ count r mode.
          counted_out q q' c.args.at res c.parts-res.result.1 c.index.result.now c.requires.placed c.requires.in_queue
          c.index.ensures c.parts-res.ensures (lists_but_tally q q' rest)
          refl (weight_of count mode) (λ x. how_many count (tally_in (get q.resources x)) mode) (λ x. how_many count (tally_in (get q'.resources x)) mode)
          (tally_less (λ t. how_many count t mode) q.resources res was now
          (weight_of count mode c.parts-res.result.1 c.index.result.now.row) there here
          (less_by count mode was.tally c.remove.new.self _ _ (c.of-counted.ensures count) (c.remove.ensures count mode)))
          (λ x. c.requires.tallied.counts count x mode) r;
    })

pub returns-clause-counts : goal.returns-clause-counts
returns-clause-counts c = record {
  locks = refl;
  rest =
      let was = c.index_mut.result.now in
      written_same c.args.self.now.resources c.slot.result was (record was { tally = c.remove.new.self }) (option_map but_tally) c.index_mut.ensures.value refl;
  resources_room =
      rw c.slot.ensures
      (room_written c.args.self.now.resources c.parts-res.result.0 _
      (noted_stands c.args.self.now c.args.at c.index.result.now c.parts-res.result.0 c.parts-res.result.1
      c.requires.placed c.requires.in_queue c.index.ensures c.parts-res.ensures));
}
