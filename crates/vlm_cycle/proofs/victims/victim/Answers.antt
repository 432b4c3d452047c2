use Rattle.std.proofs.Common.{◌∙◌, inl, inr, refl, subst, sym}
use Rattle.vlm_collections.specs.Lists.{IsIn}
use Rattle.vlm_cycle.specs.Ranking.{Falls}
use Rattle.vlm_cycle.proofs.BestFound.{best_of_all}
use Rattle.vlm_cycle.proofs.FirstInLine.{covers_begun, covers_ended, covers_on, queued_is_stored}
use Rattle.vlm_cycle.proofs.MarksOneByOne.{other_ranks, roomy_still}
use Rattle.vlm_cycle.proofs.victims.victim.Goals as goal

-- the ranks are no room
pub check_ranks-check-requires-clause-roomy : goal.check_ranks-check-requires-clause-roomy
check_ranks-check-requires-clause-roomy c =
    roomy_still c.args.store.now c.args.scratch.now _ (other_ranks c.args.scratch.now c.rank_processes.new.ranks) c.requires.roomy

pub best_guess-requires-clause-roomy : goal.best_guess-requires-clause-roomy
best_guess-requires-clause-roomy c =
    let s = c.args.store.now in
    roomy_still s _ c.check_ranks-check.new.scratch c.check_ranks-check.ensures.room
    (roomy_still s c.args.scratch.now _ (other_ranks c.args.scratch.now c.rank_processes.new.ranks) c.requires.roomy)

-- at the first lock all are left
pub loop-lock-init : goal.loop-lock-init
loop-lock-init c =
    let s = c.args.store.now in
    let same = c.into_iter-lock-iterator.ensures.into_iter_gives in
    record {
      queued = λ at found. c.queued_locks-lock-items.ensures.queued at (subst (IsIn at) same found);
      roomy = roomy_still s c.check_ranks-check.new.scratch c.best_guess.new.scratch c.best_guess.ensures.room
          (roomy_still s _ c.check_ranks-check.new.scratch c.check_ranks-check.ensures.room
          (roomy_still s c.args.scratch.now _ (other_ranks c.args.scratch.now c.rank_processes.new.ranks) c.requires.roomy));
      room = λ pid room. room;
      ranks = refl;
      purpose = refl;
      falls = λ is. subst (Falls s) (sym (c.best_guess.ensures.ranks ∙ c.check_ranks-check.ensures.ranks)) (c.check_ranks-check.ensures.falls is);
      fit = c.best_guess.ensures.fit;
      covers = covers_begun s c.queued_locks-lock-items.ensures.sound c.into_iter-lock-iterator.result
          c.best_guess.result (λ at queued. subst (IsIn at) (sym same)
          (c.queued_locks-lock-items.ensures.all at queued));
    }

pub over_first-requires-clause-stored : goal.over_first-requires-clause-stored
over_first-requires-clause-stored c =
    queued_is_stored c.args.store.now c.in-Some.lock
    (c.loop-lock.invariant.queued c.in-Some.lock
    (subst (IsIn c.in-Some.lock) (sym c.in-Some.ensures.steps) (inl refl)))

pub over_first-requires-clause-roomy : goal.over_first-requires-clause-roomy
over_first-requires-clause-roomy c = c.loop-lock.invariant.roomy

pub over_first-requires-clause-may : goal.over_first-requires-clause-may
over_first-requires-clause-may c search is = subst (Falls c.args.store.now) (sym c.loop-lock.invariant.ranks) (c.loop-lock.invariant.falls is)

pub loop-lock-preserved : goal.loop-lock-preserved
loop-lock-preserved c =
    let s = c.args.store.now in
    let here = c.over_first in
    let purpose = c.loop-lock.invariant.purpose in
    let kept = here.ensures.kept.searches purpose in
    record {
      queued = λ at found. c.loop-lock.invariant.queued at (subst (IsIn at) (sym c.in-Some.ensures.steps) (inr found));
      roomy = roomy_still s c.loop-lock.scratch here.new.scratch here.ensures.room c.loop-lock.invariant.roomy;
      room = λ pid room. here.ensures.room pid (c.loop-lock.invariant.room pid room);
      ranks = here.ensures.ranks ∙ c.loop-lock.invariant.ranks;
      purpose = here.ensures.kept.purpose ∙ purpose;
      falls = λ is. c.loop-lock.invariant.falls (sym kept.falls ∙ is);
      fit = kept.improves.fit c.loop-lock.invariant.fit;
      covers = covers_on s c.in-Some.lock c.loop-lock.lock-iterator c.next.new.self c.loop-lock.pass.found
          here.new.self.found c.in-Some.ensures.steps kept.improves
          (λ res first. ((here.ensures.passes res first).searches purpose).improves) c.loop-lock.invariant.covers;
    }

pub returns-clause-victim : goal.returns-clause-victim
returns-clause-victim c =
    let s = c.args.store.now in
    let found = c.loop-lock.pass.found in
    (best_of_all s found found c.loop-lock.invariant.fit
    (covers_ended s c.loop-lock.lock-iterator found c.in-None.ensures.steps.0 c.loop-lock.invariant.covers)).victim

pub returns-clause-located : goal.returns-clause-located
returns-clause-located c = c.loop-lock.invariant.fit

pub returns-clause-room : goal.returns-clause-room
returns-clause-room c pid room =
    c.loop-lock.invariant.room pid
    (c.best_guess.ensures.room pid
    (c.check_ranks-check.ensures.room pid (other_ranks c.args.scratch.now c.rank_processes.new.ranks pid room)))
