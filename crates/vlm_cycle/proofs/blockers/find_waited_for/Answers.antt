use Rattle.std.proofs.Common.{◌∙◌, subst, sym}
use Rattle.std.proofs.lemmas.Option.{same_Some}
use Rattle.vlm_words.specs.declared.locks.Request.{Request}
use Rattle.vlm_cycle.specs.Covering.{OwnsNear, OwnsNearKeeper}
use Rattle.vlm_cycle.proofs.MarksOneByOne.{marks_as, marks_none}
use Rattle.vlm_cycle.proofs.blockers.find_waited_for.Goals as goal

-- a granted lock wants nothing that is queued
pub returns-then-is_granted : goal.returns-then-is_granted
returns-then-is_granted c = marks_none (OwnsNear c.args.store.now c.args.waiting.now) c.args.scratch.now
    (λ pid near. near.awaits.queued c.if-is_granted.ensures.granted)

pub returns : goal.returns
returns c =
    let s = c.args.store.now in
    let f = c.args.waiting.now in
    let request = c.in-Some.request in
    let wanted = sym c.want.ensures ∙ c.in-Some.is in
    marks_as (OwnsNearKeeper s f request.mode) (OwnsNear s f) c.args.scratch.now c.find_keepers.new.scratch
    (λ pid near. record {
      request = request;
      awaits = record { queued = c.if-is_granted.ensures.queued; wanted = wanted; counted = sym c.has.ensures ∙ c.if-has.false };
      near = near;
    })
    (λ pid near. subst (λ (r : Request). OwnsNearKeeper s f r.mode pid) (sym (same_Some request near.request (sym wanted ∙ near.awaits.wanted))) near.near)
    c.find_keepers.ensures
