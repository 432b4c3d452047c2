-- Which requests end as a lock is withdrawn.
use Rattle.std.proofs.Common.{◌≡◌, ◌≢◌, ℕ, false, List, [], ◌∷◌, ◌++◌, map, flat_map, Some, refl, sym, ap, ◌∙◌, inl, inr, eq-eqb, ne_eqb, None, Option}
use Rattle.std.proofs.lemmas.Bool.{cases_eq}
use Rattle.std.proofs.lemmas.List.{append-nil}
use Rattle.std.proofs.lemmas.Option.{none-some, same_Some}
use Rattle.vlm_words.specs.declared.conditions.Cond.{Cond}
use Rattle.vlm_words.specs.declared.locks.Request.{Request}
use Rattle.vlm_words.specs.declared.locks.LockState.{LockState}
use Rattle.vlm_words.specs.declared.resources.Queue.{Queue}
use Rattle.vlm_words.specs.declared.resources.Queue.TheVariants.{Granted, Conversion, Waiting}
use Rattle.vlm_model.specs.Asts.{completion_asts, processes_after_asts}
use Rattle.vlm_model.specs.Withdrawals.{Withdrawal, processes_after, queue_endings, withdrawal_endings}
use Rattle.vlm_model.specs.Endings.{Ending, How, ending_status, row_endings, wanted_endings}
use Rattle.vlm_words.specs.State.{Process, Resource}
use Rattle.vlm_model.specs.StatusBlocks.{processes_after_status}
use Rattle.vlm_collections.specs.Lists.{IsIn}
use Rattle.vlm_records.specs.declared.handles.Place.TheVariants.{Queued}
use Rattle.vlm_store.specs.Plain.{plain_resource, plain_resources}
use Rattle.vlm_store.specs.Records.{AreResourcesApart, IsSound, Records, StoredResource, queued, resource_at, rows_of_locks}
use Rattle.vlm_locks.specs.declared.withdrawals.EndReason.TheVariants.{Aborted, Cancelled, Deadlocked, RunDown}
use Rattle.vlm_locks.specs.declared.withdrawals.EndReason.{EndReason}
use Rattle.vlm_locks.specs.Withdrawals.{how_ended}
use Rattle.vlm_locks.specs.declared.located_locks.LocatedLock.{LocatedLock}
use Rattle.vlm_locks.specs.Standing.{IsLocated}
use Rattle.vlm_locks.proofs.QueuedLocks.{own_among}
use Rattle.vlm_locks.proofs.Withdrawn.{rows_elsewhere, rows_here}
use Rattle.vlm_model.specs.Endings.How.{by_rundown}

-- where no resource has ends there are none
ends_none : {X : Type 0} (ends : Resource → List X) (rs : List StoredResource) → ((x : StoredResource) → IsIn x rs → ends (plain_resource x) ≡ [])
    → flat_map ends (map plain_resource rs) ≡ []
ends_none ends [] none = refl
ends_none ends (x ∷ rs) none = ap (λ xs. xs ++ flat_map ends (map plain_resource rs)) (none x (inl refl)) ∙ ends_none ends rs (λ y there. none y (inr there))

-- where one resource alone has ends, these are all
pub ends_one : {X : Type 0} (ends : Resource → List X) (res : ℕ) (r : StoredResource) (rs : List StoredResource)
    → AreResourcesApart rs → resource_at res rs ≡ Some r
    → ((x : StoredResource) → IsIn x rs → x.at ≢ res → ends (plain_resource x) ≡ [])
    → flat_map ends (map plain_resource rs) ≡ ends (plain_resource r)
ends_one ends res r [] apart found none = absurd (none-some r found)
ends_one ends res r (x ∷ rs) apart found none =
    elim (cases_eq x.at res) [
      | inl same ↦
          ap (λ xs. ends (plain_resource x) ++ xs) (ends_none ends rs (λ y there. none y (inr there) (λ too. apart.0 y there (too ∙ sym same))))
          ∙ append-nil (ends (plain_resource x))
          ∙ ap (λ y. ends (plain_resource y)) (same_Some x r (rw (eq-eqb x.at res same) at found))
      | inr differs ↦
          ap (λ xs. xs ++ flat_map ends (map plain_resource rs)) (none x (inl refl) differs)
          ∙ ends_one ends res r rs apart.1 (rw (ne_eqb x.at res differs) at found) (λ y there. none y (inr there))
    ]

-- how the request of a lock of this queue ends
abbrev pub queued_endings : Withdrawal → Queue → LockState → List Ending
queued_endings w Granted row = []
queued_endings w Conversion row = row_endings w.converting false row
queued_endings w Waiting row = row_endings w.waiting false row

module _ (s : Records) (sound : IsSound s) (f : LocatedLock) (located : IsLocated f s) (w : Withdrawal) where
  -- the ends of the lock's requests on a resource
  abbrev ends_on : Resource → List Ending
  ends_on r = queue_endings w.converting f.row.lkid r.converting ++ queue_endings w.waiting f.row.lkid r.waiting

  -- the ends in a queue in which it does not stand
  ends_elsewhere : (how : How) (x : StoredResource) → IsIn x s.resources → (queue : Queue) → Queued x.at queue ≢ Queued f.res f.queue
      → queue_endings how f.row.lkid (rows_of_locks (queued queue x)) ≡ []
  ends_elsewhere how x among queue differs = ap (flat_map (row_endings how false)) (rows_elsewhere s sound f located x among queue differs)

  -- the end in its queue
  ends_here : (how : How) (queue : Queue) → f.queue ≡ queue
      → queue_endings how f.row.lkid (rows_of_locks (queued queue located.resource)) ≡ row_endings how false f.row
  ends_here how queue is =
      ap (λ q. queue_endings how f.row.lkid (rows_of_locks (queued q located.resource))) (sym is)
      ∙ ap (flat_map (row_endings how false)) (rows_here s sound f located)
      ∙ append-nil (row_endings how false f.row)

  -- in another queue of its resource nothing ends
  ends_beside : (how : How) (other : Queue) → other ≢ f.queue → queue_endings how f.row.lkid (rows_of_locks (queued other located.resource)) ≡ []
  ends_beside how other differs = ends_elsewhere how located.resource (own_among s sound f located) other (λ e. differs (cc))

  -- the ends on its resource, by its queue
  ends_own : (queue : Queue) → f.queue ≡ queue → ends_on (plain_resource located.resource) ≡ queued_endings w queue f.row
  ends_own Granted is =
      ap (λ xs. xs ++ queue_endings w.waiting f.row.lkid (rows_of_locks located.resource.waiting)) (ends_beside w.converting Conversion (λ e. cc))
      ∙ ends_beside w.waiting Waiting (λ e. cc)
  ends_own Conversion is =
      ap (λ xs. queue_endings w.converting f.row.lkid (rows_of_locks located.resource.converting) ++ xs) (ends_beside w.waiting Waiting (λ e. cc))
      ∙ append-nil (queue_endings w.converting f.row.lkid (rows_of_locks located.resource.converting))
      ∙ ends_here w.converting Conversion is
  ends_own Waiting is =
      ap (λ xs. xs ++ queue_endings w.waiting f.row.lkid (rows_of_locks located.resource.waiting)) (ends_beside w.converting Conversion (λ e. cc))
      ∙ ends_here w.waiting Waiting is

  -- of all resources only that of the lock has an end, and this is it
  ends_are : (queue : Queue) → f.queue ≡ queue → flat_map ends_on (plain_resources s) ≡ queued_endings w queue f.row
  ends_are queue is =
      ends_one ends_on f.res located.resource s.resources sound.resources_apart located.found
      (λ x among differs.
      ap (λ xs. xs ++ queue_endings w.waiting f.row.lkid (rows_of_locks x.waiting)) (ends_elsewhere w.converting x among Conversion (λ e. differs (cc)))
      ∙ ends_elsewhere w.waiting x among Waiting (λ e. differs (cc)))
      ∙ ends_own queue is

-- so these requests end as the lock is withdrawn
pub withdrawn_ends : (s : Records) (sound : IsSound s) (f : LocatedLock) (located : IsLocated f s) (w : Withdrawal)
    → w.lkid ≡ f.row.lkid → (queue : Queue) → f.queue ≡ queue
    → flat_map (withdrawal_endings w) (plain_resources s) ≡ queued_endings w queue f.row
withdrawn_ends s sound f located w named queue is =
    ap (λ k. flat_map (withdrawal_endings (record w { lkid = k })) (plain_resources s)) named ∙ ends_are s sound f located w queue is

-- the end of what a row wants writes its status, and queues its completion
pub end_written : (ended : EndReason) (cond : Cond) (row : LockState) (request : Request) (ps : List Process) → ending_status (how_ended ended) ≡ Some cond
    → row.want ≡ Some request → processes_after (row_endings (how_ended ended) false row) ps
    ≡ processes_after_asts (completion_asts false request row.lkid row.pid) (processes_after_status row.pid request.block cond ps)
end_written Aborted cond row request ps status is =
    rw is (ap (λ c. processes_after_asts (completion_asts false request row.lkid row.pid)
    (processes_after_status row.pid request.block c ps)) (same_Some _ _ status))
end_written Cancelled cond row request ps status is =
    rw is (ap (λ c. processes_after_asts (completion_asts false request row.lkid row.pid)
    (processes_after_status row.pid request.block c ps)) (same_Some _ _ status))
end_written Deadlocked cond row request ps status is =
    rw is (ap (λ c. processes_after_asts (completion_asts false request row.lkid row.pid)
    (processes_after_status row.pid request.block c ps)) (same_Some _ _ status))
end_written RunDown cond row request ps status is = cc

-- where its process ends nothing is written, and no completion queued
pub none_written : (ended : EndReason) (row : LockState) (ps : List Process) → ending_status (how_ended ended) ≡ None
    → processes_after (row_endings (how_ended ended) false row) ps ≡ ps
none_written Aborted row ps status = cc
none_written Cancelled row ps status = cc
none_written Deadlocked row ps status = cc
none_written RunDown row ps status = of_want row.want
  where
    of_want : (want : Option Request) → processes_after (wanted_endings by_rundown false row.lkid row.pid want) ps ≡ ps
    of_want None = refl
    of_want (Some request) = refl
