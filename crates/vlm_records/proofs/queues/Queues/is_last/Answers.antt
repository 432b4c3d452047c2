use Rattle.std.proofs.Common.{◌∙◌, ap, not, subst, sym}
use Rattle.std.proofs.lemmas.Bool.{OnTrue_from}
use Rattle.std.proofs.lemmas.Option.{none-some, same_Some}
use Rattle.vlm_collections.specs.Lists.{handle_after, handles_of}
use Rattle.vlm_records.specs.Armed.{IsLast}
use Rattle.vlm_records.specs.Shown.{handles_at, queue_links, list_at}
use Rattle.vlm_records.proofs.PlacesOnLists.{noted_as}
use Rattle.vlm_records.proofs.LastStaysLast.{is_nothing, none_after}
use Rattle.vlm_records.proofs.queues.Queues.is_last.Goals as goal

pub next-requires : goal.next-requires
next-requires c =
    rw (c.list.ensures, c.place-place.ensures)
    (record {
      linked = c.requires.placed.linked c.index.result.now.place;
      listed = c.requires.placed.stands c.index.result.now.place c.args.at (λ same. none-some c.args.at (sym same))
          (noted_as _ _ c.index.ensures c.requires.in_queue);
    })

pub returns : goal.returns
returns c =
    let q = c.args.self.now in
    let here = c.index.result.now.place in
    OnTrue_from c.is_none.result _ (λ ends place is.
    subst (λ p. IsLast c.args.at (handles_at q p)) (same_Some here place (sym (noted_as _ _ c.index.ensures c.requires.in_queue) ∙ is))
    (none_after c.args.at (handles_at q here)
    (c.requires.placed.stands here c.args.at (λ same. none-some c.args.at (sym same))
    (noted_as _ _ c.index.ensures c.requires.in_queue))
    (ap (λ list. handle_after c.args.at (handles_of queue_links q.locks list))
    (sym (c.list.ensures ∙ ap (list_at q) c.place-place.ensures)) ∙ sym c.next.ensures
    ∙ is_nothing c.next.result (c.is_none.ensures ∙ ap not ends))))
