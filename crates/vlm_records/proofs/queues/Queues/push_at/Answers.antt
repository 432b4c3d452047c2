use Rattle.std.proofs.Common.{[], ◌∷◌, ◌++◌, ap, refl, rules, subst, sym, ◌∙◌}
use Rattle.vlm_collections.specs.Lists.{IsIn, IsLinked, handles_of}
use Rattle.vlm_records.specs.declared.handles.Place.TheVariants.{Queued}
use Rattle.vlm_records.specs.Shown.{queue_links, queue_list, with_queue_links}
use Rattle.vlm_records.proofs.PlacesOnLists.{put-others, put-placed}
use Rattle.vlm_records.proofs.WrittenQueue.{list_elsewhere, list_found, list_is, lists_alone, relisted}
use Rattle.vlm_records.proofs.Rooms.{room_relinked, room_written}
use Rattle.vlm_records.proofs.queues.Queues.push_at.Goals as goal

pub push_back-requires-clause-linked : goal.push_back-requires-clause-linked
push_back-requires-clause-linked c =
    let parts = c.parts-res.ensures ∙ ap (λ at. Queued at c.parts-res.result.1) (sym c.slot.ensures) in
    subst (IsLinked queue_links c.args.self.now.locks)
    (list_found c.args.self.now c.args.place.now c.slot.result c.parts-res.result.1 c.index_mut.result.now parts c.index_mut.ensures.value)
    (c.requires.placed.linked c.args.place.now)

pub push_back-requires-clause-unlisted : goal.push_back-requires-clause-unlisted
push_back-requires-clause-unlisted c = λ found.
    let parts = c.parts-res.ensures ∙ ap (λ at. Queued at c.parts-res.result.1) (sym c.slot.ensures) in
    let was = list_found c.args.self.now c.args.place.now c.slot.result c.parts-res.result.1 c.index_mut.result.now parts c.index_mut.ensures.value in
    c.requires.placed.gone c.args.place.now c.args.at refl (subst (λ list. IsIn c.args.at (handles_of queue_links c.args.self.now.locks list)) (sym was) found)

pub returns-clause-placed : goal.returns-clause-placed
returns-clause-placed c =
    let q = c.args.self.now in
    let queue = c.parts-res.result.1 in
    let now = c.push_back.new in
    let parts = c.parts-res.ensures ∙ ap (λ at. Queued at queue) (sym c.slot.ensures) in
    let there = rw parts at c.requires.there in
    let was = list_found q c.args.place.now c.slot.result queue c.index_mut.result.now parts c.index_mut.ensures.value in
    put-placed q (relisted q now.locks c.slot.result now.self) now.locks
    (queue_list queue now.self) c.args.at c.args.place.now c.requires.placed c.requires.noted
    c.push_back.ensures.linked (c.push_back.ensures.handles ∙ ap (λ list. handles_of queue_links q.locks list ++ c.args.at ∷ []) (sym was))
    (λ other out apart. c.push_back.ensures.others other
    (λ found. out (subst (λ list. IsIn other (handles_of queue_links q.locks list)) (sym was) found)) apart)
    c.push_back.ensures.relinks
    (list_is q now.locks c.args.place.now c.slot.result queue c.index_mut.result.now now.self parts there c.index_mut.ensures.value c.push_back.ensures.rest)
    (list_elsewhere q now.locks c.args.place.now c.slot.result queue c.index_mut.result.now now.self parts there
    c.index_mut.ensures.value c.push_back.ensures.rest) refl

pub returns-clause-elsewhere : goal.returns-clause-elsewhere
returns-clause-elsewhere c =
    let q = c.args.self.now in
    let queue = c.parts-res.result.1 in
    let now = c.push_back.new in
    let parts = c.parts-res.ensures ∙ ap (λ at. Queued at queue) (sym c.slot.ensures) in
    let there = rw parts at c.requires.there in
    let was = list_found q c.args.place.now c.slot.result queue c.index_mut.result.now parts c.index_mut.ensures.value in
    put-others q (relisted q now.locks c.slot.result now.self) now.locks
    (queue_list queue now.self) c.args.at c.args.place.now c.requires.placed c.requires.noted
    c.push_back.ensures.linked (c.push_back.ensures.handles ∙ ap (λ list. handles_of queue_links q.locks list ++ c.args.at ∷ []) (sym was))
    (λ other out apart. c.push_back.ensures.others other
    (λ found. out (subst (λ list. IsIn other (handles_of queue_links q.locks list)) (sym was) found)) apart)
    c.push_back.ensures.relinks
    (list_is q now.locks c.args.place.now c.slot.result queue c.index_mut.result.now now.self parts there c.index_mut.ensures.value c.push_back.ensures.rest)
    (list_elsewhere q now.locks c.args.place.now c.slot.result queue c.index_mut.result.now now.self parts there
    c.index_mut.ensures.value c.push_back.ensures.rest) refl

pub returns-clause-kept : goal.returns-clause-kept
returns-clause-kept c =
    let q = c.args.self.now in
    let queue = c.parts-res.result.1 in
    let now = c.push_back.new in
    let parts = c.parts-res.ensures ∙ ap (λ at. Queued at queue) (sym c.slot.ensures) in
    let there = rw parts at c.requires.there in
    record {
      kin = search rules;
      rest = lists_alone q now.locks c.args.place.now c.slot.result queue c.index_mut.result.now now.self parts there
          c.index_mut.ensures.value c.push_back.ensures.rest;
      locks_room = room_relinked with_queue_links q.locks now.locks c.push_back.ensures.relinks;
      resources_room = room_written q.resources c.slot.result now.self there;
    }
