use Rattle.std.proofs.Common.{ap, refl, rules, subst, sym, ◌∙◌}
use Rattle.std.proofs.lemmas.Option.{none-some}
use Rattle.vlm_collections.specs.Lists.{IsIn, Lists, handles_of, without}
use Rattle.vlm_records.specs.declared.handles.Place.TheVariants.{Queued}
use Rattle.vlm_records.specs.Shown.{queue_links, queue_list, with_queue_links}
use Rattle.vlm_records.proofs.PlacesOnLists.{noted_as, stands_there, taken-handles, taken-placed}
use Rattle.vlm_records.proofs.WrittenQueue.{list_elsewhere, list_found, list_is, lists_alone, relisted}
use Rattle.vlm_records.proofs.Rooms.{room_relinked, room_written}
use Rattle.vlm_records.proofs.queues.Queues.take_off.Goals as goal

pub index_mut-requires : goal.index_mut-requires
index_mut-requires c =
    let place = c.index.result.now.place in
    let parts = c.parts-res.ensures ∙ ap (λ at. Queued at c.parts-res.result.1) (sym c.slot.ensures) in
    rw parts at (stands_there c.args.self.now place c.args.at
    (c.requires.placed.stands place c.args.at (λ same. none-some c.args.at (sym same)) (noted_as _ _ c.index.ensures c.requires.in_queue)))

pub unlink-requires : goal.unlink-requires
unlink-requires c =
    let q = c.args.self.now in
    let place = c.index.result.now.place in
    let parts = c.parts-res.ensures ∙ ap (λ at. Queued at c.parts-res.result.1) (sym c.slot.ensures) in
    subst (λ list. Lists queue_links q.locks list c.args.at)
    (list_found q place c.slot.result c.parts-res.result.1 c.index_mut.result.now parts c.index_mut.ensures.value)
    (record {
      linked = c.requires.placed.linked place;
      listed = c.requires.placed.stands place c.args.at (λ same. none-some c.args.at (sym same)) (noted_as _ _ c.index.ensures c.requires.in_queue);
    })

pub returns-clause-placed : goal.returns-clause-placed
returns-clause-placed c =
    let q = c.args.self.now in
    let place = c.index.result.now.place in
    let queue = c.parts-res.result.1 in
    let now = c.unlink.new in
    let parts = c.parts-res.ensures ∙ ap (λ at. Queued at queue) (sym c.slot.ensures) in
    let there = rw parts at (stands_there q place c.args.at
    (c.requires.placed.stands place c.args.at (λ same. none-some c.args.at (sym same)) (noted_as _ _ c.index.ensures c.requires.in_queue))) in
    let was = list_found q place c.slot.result queue c.index_mut.result.now parts c.index_mut.ensures.value in
    taken-placed q (relisted q now.locks c.slot.result now.self) now.locks
    (queue_list queue now.self) c.args.at place c.requires.placed (noted_as _ _ c.index.ensures c.requires.in_queue)
    c.unlink.ensures.linked (c.unlink.ensures.handles ∙ ap (λ list. without c.args.at (handles_of queue_links q.locks list)) (sym was))
    (λ other out. c.unlink.ensures.others other (λ found. out (subst (λ list. IsIn other (handles_of queue_links q.locks list)) (sym was) found)))
    c.unlink.ensures.relinks
    (list_is q now.locks place c.slot.result queue c.index_mut.result.now now.self parts there c.index_mut.ensures.value c.unlink.ensures.rest)
    (list_elsewhere q now.locks place c.slot.result queue c.index_mut.result.now now.self parts there c.index_mut.ensures.value c.unlink.ensures.rest) refl

pub returns-clause-handles : goal.returns-clause-handles
returns-clause-handles c =
    let q = c.args.self.now in
    let place = c.index.result.now.place in
    let queue = c.parts-res.result.1 in
    let now = c.unlink.new in
    let parts = c.parts-res.ensures ∙ ap (λ at. Queued at queue) (sym c.slot.ensures) in
    let there = rw parts at (stands_there q place c.args.at
    (c.requires.placed.stands place c.args.at (λ same. none-some c.args.at (sym same)) (noted_as _ _ c.index.ensures c.requires.in_queue))) in
    let was = list_found q place c.slot.result queue c.index_mut.result.now parts c.index_mut.ensures.value in
    taken-handles q (relisted q now.locks c.slot.result now.self) now.locks
    (queue_list queue now.self) c.args.at place c.requires.placed (noted_as _ _ c.index.ensures c.requires.in_queue)
    c.unlink.ensures.linked (c.unlink.ensures.handles ∙ ap (λ list. without c.args.at (handles_of queue_links q.locks list)) (sym was))
    (λ other out. c.unlink.ensures.others other (λ found. out (subst (λ list. IsIn other (handles_of queue_links q.locks list)) (sym was) found)))
    c.unlink.ensures.relinks
    (list_is q now.locks place c.slot.result queue c.index_mut.result.now now.self parts there c.index_mut.ensures.value c.unlink.ensures.rest)
    (list_elsewhere q now.locks place c.slot.result queue c.index_mut.result.now now.self parts there c.index_mut.ensures.value c.unlink.ensures.rest) refl

pub returns-clause-kept : goal.returns-clause-kept
returns-clause-kept c =
    let q = c.args.self.now in
    let place = c.index.result.now.place in
    let queue = c.parts-res.result.1 in
    let now = c.unlink.new in
    let parts = c.parts-res.ensures ∙ ap (λ at. Queued at queue) (sym c.slot.ensures) in
    let there = rw parts at (stands_there q place c.args.at
    (c.requires.placed.stands place c.args.at (λ same. none-some c.args.at (sym same)) (noted_as _ _ c.index.ensures c.requires.in_queue))) in
    record {
      kin = search rules;
      rest = lists_alone q now.locks place c.slot.result queue c.index_mut.result.now now.self parts there c.index_mut.ensures.value c.unlink.ensures.rest;
      locks_room = room_relinked with_queue_links q.locks now.locks c.unlink.ensures.relinks;
      resources_room = room_written q.resources c.slot.result now.self there;
    }
