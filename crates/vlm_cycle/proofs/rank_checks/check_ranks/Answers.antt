use Rattle.std.proofs.Common.{◌∙◌, inl, inr, refl, subst, sym}
use Rattle.vlm_collections.specs.Lists.{IsIn}
use Rattle.vlm_cycle.specs.Leading.{rows_queued_on}
use Rattle.vlm_cycle.specs.Passing.{Passes}
use Rattle.vlm_cycle.proofs.FirstInLine.{falls_led_begun, falls_led_on, queued_is_stored}
use Rattle.vlm_cycle.proofs.MarksOneByOne.{roomy_still}
use Rattle.vlm_cycle.proofs.PassesGoOn.{may_check}
use Rattle.vlm_cycle.proofs.rank_checks.check_ranks.Goals as goal

-- at the first lock all are left
pub loop-lock-init : goal.loop-lock-init
loop-lock-init c =
    let s = c.args.store.now in
    let same = c.into_iter-lock-iterator.ensures.into_iter_gives in
    record {
      queued = λ at found. c.queued_locks-lock-items.ensures.queued at (subst (IsIn at) same found);
      roomy = c.requires.roomy;
      room = λ pid room. room;
      ranks = refl;
      purpose = refl;
      falls = λ is. falls_led_begun s c.args.scratch.now.ranks c.queued_locks-lock-items.ensures.sound
          c.into_iter-lock-iterator.result
          (λ at queued. subst (IsIn at) (sym same) (c.queued_locks-lock-items.ensures.all at queued));
      located = λ f is. cc;
    }

pub over_first-requires-clause-stored : goal.over_first-requires-clause-stored
over_first-requires-clause-stored c =
    queued_is_stored c.args.store.now c.in-Some.lock
    (c.loop-lock.invariant.queued c.in-Some.lock
    (subst (IsIn c.in-Some.lock) (sym c.in-Some.ensures.steps) (inl refl)))

pub over_first-requires-clause-roomy : goal.over_first-requires-clause-roomy
over_first-requires-clause-roomy c = c.loop-lock.invariant.roomy

pub over_first-requires-clause-may : goal.over_first-requires-clause-may
over_first-requires-clause-may c = may_check c.args.store.now c.loop-lock.scratch.ranks c.loop-lock.pass c.loop-lock.invariant.purpose

pub loop-lock-preserved : goal.loop-lock-preserved
loop-lock-preserved c =
    let s = c.args.store.now in
    let here = c.over_first in
    let purpose = c.loop-lock.invariant.purpose in
    let same = c.loop-lock.invariant.ranks in
    record {
      queued = λ at found. c.loop-lock.invariant.queued at (subst (IsIn at) (sym c.in-Some.ensures.steps) (inr found));
      roomy = roomy_still s c.loop-lock.scratch here.new.scratch here.ensures.room c.loop-lock.invariant.roomy;
      room = λ pid room. here.ensures.room pid (c.loop-lock.invariant.room pid room);
      ranks = here.ensures.ranks ∙ same;
      purpose = here.ensures.kept.purpose ∙ purpose;
      falls = λ is.
          falls_led_on s c.args.scratch.now.ranks c.in-Some.lock c.loop-lock.lock-iterator c.next.new.self c.in-Some.ensures.steps
          (λ res first. ((subst (λ rs. Passes s rs (rows_queued_on res s) c.loop-lock.pass here.new.self) same
          (here.ensures.passes res first)).checks purpose).falls is)
          (c.loop-lock.invariant.falls ((here.ensures.kept.checks purpose).before is));
      located = (here.ensures.kept.checks purpose).located c.loop-lock.invariant.located;
    }

pub returns-clause-room : goal.returns-clause-room
returns-clause-room c = c.loop-lock.invariant.room
