-- Writing the status block of a new lock keeps every fact about its lists.
use Rattle.std.proofs.Common.{◌≡◌, ℕ, List, [], map, Option, None, Some, IsSome, IfSome, sym, ap, ◌∙◌, subst}
use Rattle.std.specs.Option.{option_map_or}
use Rattle.vlm_words.specs.State.{Process}
use Rattle.vlm_words.specs.declared.resources.ValueBlock.{ValueBlock}
use Rattle.vlm_collections.specs.Lists.{IsIn}
use Rattle.vlm_records.specs.declared.handles.Place.{Place}
use Rattle.vlm_records.specs.declared.handles.Place.TheVariants.{Queued}
use Rattle.vlm_store.specs.Plain.{plain_processes, plain_resource}
use Rattle.vlm_store.specs.Records.{Records, SameButNotices, StoredResource, locks_at, queued, resource_at, without_lock, without_resource}
use Rattle.vlm_locks.specs.declared.new_locks.NewLock.{NewLock}
use Rattle.vlm_locks.specs.Entering.{HasEntered, IsEntered, IsTakenIn, processes_entered}
use Rattle.vlm_locks.specs.Owing.{IsPaid}
use Rattle.vlm_locks.proofs.ChangedResource.{rests_still}

-- the status blocks, by the value block of the resource
by_block : (e : NewLock) (block : ValueBlock) (slot : Option StoredResource) (old new : List Process) → IsSome slot
    → IfSome slot (λ r. new ≡ processes_entered e r.value_block old)
    → IfSome slot (λ r. r.value_block ≡ block) → new ≡ processes_entered e block old
by_block e block None old new there told is = cc
by_block e block (Some r) old new there told is = told ∙ ap (λ b. processes_entered e b old) is

module _ (e : NewLock) (res : ℕ) (s mid new : Records) (same : SameButNotices mid new) where
  -- each place has the locks that it had
  same_locks : (place : Place) → locks_at place new ≡ locks_at place mid
  same_locks (Queued x queue) = ap (λ rs. option_map_or (queued queue) (resource_at x rs) []) same.resources

  taken_still : IsTakenIn e res s mid → IsTakenIn e res s new
  taken_still taken =
      let added = taken.added in
      record {
        entered = ap (map plain_resource) same.resources ∙ taken.entered;
        added = record {
          lock = added.lock;
          fresh = added.fresh;
          row = added.row;
          stands = (added.stands.0, subst (IsIn (record { at = added.lock; row = added.row })) (sym (same_locks added.stands.0)) added.stands.1);
          same = added.same;
          own_locks = same.processes ∙ added.own_locks;
          others = λ place. ap (without_lock added.lock) (same_locks place) ∙ added.others place;
        };
        others = ap (without_resource res) same.resources ∙ taken.others;
        there = subst (λ rs. IsSome (resource_at res rs)) (sym same.resources) taken.there;
        rest = rests_still mid new same taken.rest;
      }

  -- the lock has entered, once its request is accepted
  pub has_entered : IsEntered e res s mid
      → IfSome (resource_at res mid.resources)
      (λ r. plain_processes new ≡ processes_entered e r.value_block (plain_processes mid)) → IsPaid new
      → HasEntered e res s new
  has_entered entered told paid = record {
    taken = taken_still entered.taken;
    statuses =
        by_block e _ (resource_at res mid.resources) (plain_processes mid) (plain_processes new) entered.taken.there told entered.value_block
        ∙ ap (processes_entered e _) entered.processes;
    paid = paid;
  }
