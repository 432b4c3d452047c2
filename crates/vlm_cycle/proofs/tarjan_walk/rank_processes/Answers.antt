use Rattle.std.proofs.Common.{inl, inr, refl, subst, sym}
use Rattle.vlm_collections.specs.Lists.{IsIn}
use Rattle.vlm_cycle.proofs.DatedNotes.{blanks_there}
use Rattle.vlm_cycle.specs.Notes.{LivesAt}
use Rattle.vlm_cycle.proofs.FirstInLine.{queued_is_stored}
use Rattle.vlm_cycle.proofs.NotedProcesses.{none_there}
use Rattle.vlm_cycle.proofs.tarjan_walk.rank_processes.Goals as goal

pub loop-lock-init : goal.loop-lock-init
loop-lock-init c = record {
  queued = λ at found. c.queued_locks-lock-items.ensures.queued at (subst (IsIn at) c.into_iter-lock-iterator.ensures.into_iter_gives found);
  walk = record { process = none_there (LivesAt c.args.store.now); stack_next = none_there (LivesAt c.args.store.now) };
  notes = blanks_there c.args.store.now c.begin.new.self c.begin.ensures.blank;
}

pub lock_record-requires : goal.lock_record-requires
lock_record-requires c =
    queued_is_stored c.args.store.now c.in-Some.lock
    (c.loop-lock.invariant.queued c.in-Some.lock
    (subst (IsIn c.in-Some.lock) (sym c.in-Some.ensures.steps) (inl refl)))

pub loop-lock-preserved : goal.loop-lock-preserved
loop-lock-preserved c = record {
  queued = λ at found. c.loop-lock.invariant.queued at (subst (IsIn at) (sym c.in-Some.ensures.steps) (inr found));
  walk = c.walk_from-walk.ensures.walk;
  notes = c.walk_from-walk.ensures.notes;
}
