use Rattle.std.proofs.Common.{◌∙◌, ap}
use Rattle.vlm_words.specs.declared.resources.Queue.TheVariants.{Granted, Conversion, Waiting}
use Rattle.vlm_records.specs.declared.handles.Place.TheVariants.{Queued}
use Rattle.vlm_cycle.proofs.BlockerWalks.{following_none, following_some}
use Rattle.vlm_cycle.proofs.next_blockers.following.Goals as goal

-- the next of the queue
pub returns-in-Some : goal.returns-in-Some
returns-in-Some c res on =
    let record_of = c.lock_record in
    following_some c.args.store.now res c.args.lock record_of.ensures.sound on record_of.result.now.place record_of.result.now.row record_of.ensures.stands
    c.next.result (c.next.ensures record_of.result.now.place record_of.result.now.row record_of.ensures.stands) c.in-Some.next c.in-Some.is

-- the first of the queues behind
pub returns-in-Granted : goal.returns-in-Granted
returns-in-Granted c res on =
    let record_of = c.lock_record in
    c.first_queued.ensures
    ∙ following_none c.args.store.now res c.args.lock record_of.ensures.sound on record_of.result.now.place record_of.result.now.row record_of.ensures.stands
    c.next.result (c.next.ensures record_of.result.now.place record_of.result.now.row record_of.ensures.stands) c.parts-res.result.0 Granted
    (c.parts-res.ensures ∙ ap (Queued c.parts-res.result.0) c.in-Granted.is) c.in-None.is

pub returns-in-Conversion : goal.returns-in-Conversion
returns-in-Conversion c res on =
    let record_of = c.lock_record in
    c.head.ensures.first
    ∙ following_none c.args.store.now res c.args.lock record_of.ensures.sound on record_of.result.now.place record_of.result.now.row record_of.ensures.stands
    c.next.result (c.next.ensures record_of.result.now.place record_of.result.now.row record_of.ensures.stands) c.parts-res.result.0 Conversion
    (c.parts-res.ensures ∙ ap (Queued c.parts-res.result.0) c.in-Conversion.is) c.in-None.is

pub returns-in-Waiting : goal.returns-in-Waiting
returns-in-Waiting c res on =
    let record_of = c.lock_record in
    following_none c.args.store.now res c.args.lock record_of.ensures.sound on record_of.result.now.place record_of.result.now.row record_of.ensures.stands
    c.next.result (c.next.ensures record_of.result.now.place record_of.result.now.row record_of.ensures.stands) c.parts-res.result.0 Waiting
    (c.parts-res.ensures ∙ ap (Queued c.parts-res.result.0) c.in-Waiting.is) c.in-None.is
