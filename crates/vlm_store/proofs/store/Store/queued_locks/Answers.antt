use Rattle.vlm_store.proofs.LivingProcesses.{is_sound}
use Rattle.std.proofs.Common.{◌∙◌, sym, ap, subst}
use Rattle.vlm_collections.specs.Lists.{IsIn}
use Rattle.vlm_collections.proofs.Walks.{first_handle-in}
use Rattle.vlm_records.specs.WaitList.{wait_list_handles}
use Rattle.vlm_store.specs.Queued.{IsQueued, handles_on}
use Rattle.vlm_store.proofs.QueuedSeen.{listed_queued, on_first, queued_listed}
use Rattle.vlm_store.proofs.store.Store.queued_locks.Goals as goal

pub first-requires : goal.first-requires
first-requires c = c.self.invariant.wait_list.linked tt

pub invariant_of-result : goal.invariant_of-result
invariant_of-result c = record {
  linked = c.self.invariant.wait_list.linked tt;
  listed = λ next is. first_handle-in (wait_list_handles c.self.inside.queues.locks c.self.inside.wait_list) next (sym is ∙ c.first.ensures);
}

pub returns-clause-queued : goal.returns-clause-queued
returns-clause-queued c at found =
    let handles = wait_list_handles c.self.inside.queues.locks c.self.inside.wait_list in
    subst (IsQueued at) c.self.view_is
    (listed_queued c.self.inside c.self.invariant at (subst (IsIn at) (ap (λ next. handles_on next handles) c.first.ensures ∙ on_first handles) found))

pub returns-clause-all : goal.returns-clause-all
returns-clause-all c at queued =
    let handles = wait_list_handles c.self.inside.queues.locks c.self.inside.wait_list in
    subst (IsIn at) (sym (ap (λ next. handles_on next handles) c.first.ensures ∙ on_first handles))
    (queued_listed c.self.inside c.self.invariant at (subst (IsQueued at) (sym c.self.view_is) queued))

pub returns-clause-sound : goal.returns-clause-sound
returns-clause-sound c = rw (← c.self.view_is) (is_sound c.self.inside c.self.invariant)
