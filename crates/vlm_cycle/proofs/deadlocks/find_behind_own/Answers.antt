use Rattle.std.proofs.Common.{◌∷◌, ◌∙◌, sym, ap, subst}
use Rattle.vlm_store.specs.Records.{own_handles_at}
use Rattle.vlm_locks.proofs.ChosenLocks.{on_from}
use Rattle.vlm_locks.proofs.FoundByHandle.{process_here}
use Rattle.vlm_locks.proofs.RunsDown.{handles_apart, stored_here}
use Rattle.vlm_cycle.specs.Marking.{Marks}
use Rattle.vlm_cycle.specs.Covering.{IsNearBehind}
use Rattle.vlm_cycle.proofs.MarksOneByOne.{marks_as, marks_none, roomy_still}
use Rattle.vlm_cycle.proofs.OwnRequests.{IsAtOwn, OwnWaitFor, begun, behind_own, fewer, none_own, own_behind, owns_on, passed}
use Rattle.vlm_cycle.proofs.deadlocks.find_behind_own.Goals as goal

-- the walk begins at the first lock
pub loop-at-init : goal.loop-at-init
loop-at-init c =
    let who = process_here c.args.store.now c.requires.rest.sound c.args.owner c.requires.owner in
    let s = c.args.store.now in
    let hs = own_handles_at c.args.owner s in
    let first = begun hs (handles_apart c.args.owner who.0 s c.first_own-at.ensures.sound who.1) in
    record {
      there = subst (λ o. IsAtOwn o hs) (sym c.first_own-at.ensures.first) first.there;
      roomy = c.requires.roomy;
      goes_on = λ final marks.
          subst (λ xs. Marks (OwnWaitFor s xs) c.args.scratch.now final) (ap (λ o. on_from o hs) c.first_own-at.ensures.first ∙ first.left) marks;
    }

pub located_lock-located-requires-clause-stored : goal.located_lock-located-requires-clause-stored
located_lock-located-requires-clause-stored c =
    let who = process_here c.args.store.now c.requires.rest.sound c.args.owner c.requires.owner in
    let here = stored_here c.args.owner who.0 c.args.store.now c.first_own-at.ensures.sound who.1
    c.requires.rest c.in-Some.lock (c.loop-at.invariant.there c.in-Some.lock c.in-Some.is) in
    (here.0, here.1.0)

pub loop-at-smaller : goal.loop-at-smaller
loop-at-smaller c =
    let who = process_here c.args.store.now c.requires.rest.sound c.args.owner c.requires.owner in
    let s = c.args.store.now in
    let hs = own_handles_at c.args.owner s in
    let in_hs = c.loop-at.invariant.there c.in-Some.lock c.in-Some.is in
    let one = passed c.in-Some.lock hs (handles_apart c.args.owner who.0 s c.first_own-at.ensures.sound who.1) in_hs in
    let next = c.next_own-at.ensures.next c.args.owner in_hs in
    fewer c.in-Some.lock (on_from c.next_own-at.result hs) (on_from c.loop-at.at hs)
    (ap (λ o. on_from o hs) c.in-Some.is ∙ one.left ∙ ap (λ o. c.in-Some.lock ∷ on_from o hs) (sym next))

pub loop-at-preserved : goal.loop-at-preserved
loop-at-preserved c =
    let who = process_here c.args.store.now c.requires.rest.sound c.args.owner c.requires.owner in
    let s = c.args.store.now in
    let hs = own_handles_at c.args.owner s in
    let in_hs = c.loop-at.invariant.there c.in-Some.lock c.in-Some.is in
    let one = passed c.in-Some.lock hs (handles_apart c.args.owner who.0 s c.first_own-at.ensures.sound who.1) in_hs in
    let next = c.next_own-at.ensures.next c.args.owner in_hs in
    record {
      there = subst (λ o. IsAtOwn o hs) (sym next) one.there;
      roomy = roomy_still s c.loop-at.scratch c.find_waited_for.new.scratch c.find_waited_for.ensures.room c.loop-at.invariant.roomy;
      goes_on =
          owns_on s c.first_own-at.ensures.sound c.located_lock-located.result c.located_lock-located.ensures.located
          c.in-Some.lock c.located_lock-located.ensures.lock
          (on_from c.loop-at.at hs) (on_from c.next_own-at.result hs) hs c.args.scratch.now c.loop-at.scratch c.find_waited_for.new.scratch
          (ap (λ o. on_from o hs) c.in-Some.is ∙ one.left ∙ ap (λ o. c.in-Some.lock ∷ on_from o hs) (sym next))
          c.find_waited_for.ensures c.loop-at.invariant.goes_on;
    }

pub returns : goal.returns
returns c pid lives =
    let s = c.args.store.now in
    let hs = own_handles_at c.args.owner s in
    let sound = c.first_own-at.ensures.sound in
    let left = on_from c.loop-at.at hs in
    marks_as (OwnWaitFor s hs) (IsNearBehind s pid) c.args.scratch.now c.loop-at.scratch
    (own_behind s sound c.requires.rest c.args.owner pid lives) (behind_own s sound c.args.owner pid lives)
    (c.loop-at.invariant.goes_on c.loop-at.scratch
    (marks_none (OwnWaitFor s left) c.loop-at.scratch (none_own s left (ap (λ o. on_from o hs) c.in_default.is))))
