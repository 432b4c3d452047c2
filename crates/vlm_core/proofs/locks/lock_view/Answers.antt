use Rattle.std.proofs.Common.{IfSome, ap, subst, ◌∙◌, ◌≡◌}
use Rattle.vlm_locks.proofs.QueuedLocks.{resource_among}
use Rattle.vlm_core.specs.Locks.{view_at}
use Rattle.vlm_core.proofs.locks.lock_view.Goals as goal

pub returns : goal.returns
returns c =
    let f = c.located_lock-located.result in
    let located = c.located_lock-located.ensures.located in
    record {
      resource = located.resource;
      queue = f.queue;
      row = f.row;
      exists = resource_among f.res c.args.store.now.resources located.resource located.found;
      among = rw (← c.located_lock-located.ensures.lock) located.among;
      shown = c.view_at.ensures
          ∙ ap (λ n. view_at n f.queue f.row)
          (subst (λ o. IfSome o
          (λ r. c.resource_record.result.now.serial ≡ r.serial)) located.found c.resource_record.ensures.serial);
    }
