-- A located lock has moved to the granted queue, with the row that a grant makes of its request.
use Rattle.std.proofs.Common.{◌≡◌, ◌+◌, ℕ, Some, sym, ap, ◌∙◌, subst}
use Rattle.vlm_words.specs.declared.locks.LockState.{LockState}
use Rattle.vlm_words.specs.declared.resources.Queue.TheVariants.{Granted}
use Rattle.vlm_words.specs.Dues.{due_to}
use Rattle.vlm_words.specs.Rows.{granted_row}
use Rattle.vlm_records.specs.declared.handles.Place.TheVariants.{Queued}
use Rattle.vlm_store.specs.Records.{HasResource, IsProcess, IsSameLock, Records, SameButNotices, moving, resource_at, with_lists}
use Rattle.vlm_locks.specs.declared.located_locks.LocatedLock.{LocatedLock}
use Rattle.vlm_locks.specs.Converting.{moved_in}
use Rattle.vlm_locks.specs.Owing.{DueMoves, due_for}
use Rattle.vlm_locks.specs.Rest.{IsReplaced, OtherLocksStay}
use Rattle.vlm_locks.specs.Standing.{IsLocated}
use Rattle.vlm_locks.proofs.MovedToEnd.{moved_replaced}
use Rattle.vlm_locks.proofs.OtherLocks.{locks_stay_over, moved_alone, statuses_alone}
use Rattle.vlm_locks.proofs.QueuedLocks.{stored}
use Rattle.vlm_locks.proofs.ReplacedResource.{found_left, noticed_replaced, still_there}
use Rattle.vlm_locks.proofs.ReservedAsts.{due_moved, due_noticed}
use Rattle.vlm_locks.proofs.ReservedByRequests.{found_there}

module _ {s mid : Records} {f : LocatedLock} {row granted : LockState} (located : IsLocated f s) (same : IsSameLock f.row row)
    (granted_is : granted ≡ granted_row row) (moved : mid ≡ with_lists (moving (Queued f.res Granted) (record { at = f.lock; row = granted })) s) where
  pub moved_as : mid ≡ with_lists (moving (Queued f.res Granted) (record { at = f.lock; row = granted_row row })) s
  moved_as = moved ∙ ap (λ (x : LockState). with_lists (moving (Queued f.res Granted) (record { at = f.lock; row = x })) s) granted_is

  -- its process is there, by the row that it has now
  pub owner_still : IsProcess f.owner row.pid mid
  owner_still = rw moved (subst (λ pid. IsProcess f.owner pid s) same.pid located.owner)

  -- what stays where notices alone change after that
  module _ (later : Records) (noticed : SameButNotices mid later) where
    resource_moved : IsReplaced f.res located.resource (moved_in f granted Granted located.resource) s later
    resource_moved =
        noticed_replaced f.res located.resource (moved_in f granted Granted located.resource) s mid later
        (moved_replaced s located.sound f located granted Granted mid moved) noticed

    pub found_moved : resource_at f.res later.resources ≡ Some (moved_in f granted Granted located.resource)
    found_moved = found_left f.res located.resource (moved_in f granted Granted located.resource) s later resource_moved

    pub resource_still : HasResource f.res later
    resource_still = still_there f.res located.resource (moved_in f granted Granted located.resource) s later resource_moved

    pub others_still : OtherLocksStay f.lock s later
    others_still =
        locks_stay_over f.lock s mid later
        (subst (OtherLocksStay f.lock s) (sym moved) (moved_alone (Queued f.res Granted) (record { at = f.lock; row = granted }) s))
        (statuses_alone f.lock mid later noticed)

    -- the ASTs due change for this lock alone
    pub due_still : (new : Records) → ((pid : ℕ) → due_for pid new ≡ due_for pid later) → DueMoves f.row (granted_row row) s new
    due_still new due pid =
        ap (λ (n : ℕ). n + due_to pid f.row) (due pid ∙ due_noticed mid later noticed pid ∙ ap (due_for pid) moved_as)
        ∙ due_moved s located.sound f.lock f.row (granted_row row) f.res Granted (stored s f located) (found_there s f located) pid
