-- What the withdrawal of a lock makes of the resources.
use Rattle.std.proofs.Common.{◌≡◌, ◌≢◌, ℕ, Bool, true, false, ◌||◌, List, [], ◌∷◌, ◌++◌, map, cond, is_some, Option}
use Rattle.std.proofs.Common.{None, Some, IfSome, refl, sym, ap, ◌∙◌, subst, inl, inr, eq-eqb, ne_eqb}
use Rattle.std.specs.List.{list_any}
use Rattle.std.proofs.lemmas.Bool.{cases_eq}
use Rattle.std.proofs.lemmas.List.{append-nil}
use Rattle.vlm_words.specs.declared.locks.LockState.{LockState}
use Rattle.vlm_words.specs.declared.resources.Queue.{Queue}
use Rattle.vlm_words.specs.declared.resources.Queue.TheVariants.{Granted, Conversion, Waiting}
use Rattle.vlm_words.specs.declared.resources.ValueBlock.{ValueBlock}
use Rattle.vlm_model.specs.Withdrawals.{Withdrawal, has_writer, is_held_by_writer, is_writer, resource_after_cancel}
use Rattle.vlm_model.specs.Withdrawals.{resource_after_going, resource_after_withdrawals, resource_after_writer}
use Rattle.vlm_model.specs.Withdrawals.{resource_without, row_after_cancel, value_block_after_gift}
use Rattle.vlm_model.specs.Withdrawals.{value_block_after_writer}
use Rattle.vlm_words.specs.Rows.{rows_without}
use Rattle.vlm_words.specs.Rows as plain
use Rattle.vlm_words.specs.State.{Resource}
use Rattle.vlm_words.specs.ValueBlocks.{invalid_value_block}
use Rattle.vlm_collections.specs.Lists.{IsIn}
use Rattle.vlm_records.specs.declared.handles.Place.TheVariants.{Queued}
use Rattle.vlm_store.specs.Plain.{plain_processes, plain_resource}
use Rattle.vlm_store.specs.Records.{AreApart, IsSound, Records, StoredResource, leaving, moving, on_resource, queued}
use Rattle.vlm_store.specs.Records.{resource_at, resource_with, rows_of_locks, with_lists, without_stored_lock}
use Rattle.vlm_locks.proofs.FoundByHandle.{on_resource-own, on_resource-put, resource_alone, resource_at-at, resource_at-put}
use Rattle.vlm_locks.specs.declared.located_locks.LocatedLock.{LocatedLock}
use Rattle.vlm_locks.specs.Converting.{moved_in}
use Rattle.vlm_locks.specs.Rest.{IsAtRest}
use Rattle.vlm_locks.specs.Standing.{IsLocated}
use Rattle.vlm_locks.specs.Withdrawing.{IsChange, may_write}
use Rattle.vlm_locks.proofs.ChangedResource.{changed, changed_alike, removed_changed, unchanged}
use Rattle.vlm_locks.proofs.MovedToEnd.{joins, leaves, moved_replaced, none_joins_by_moving, not_in}
use Rattle.vlm_locks.proofs.FoundInLists.{rows-absent, rows-only, without-absent, without-handle}
use Rattle.vlm_locks.proofs.GrantsKeepResources.{all_stay, none_joins_under_block}
use Rattle.vlm_locks.proofs.QueuedLocks.{absent, only, own_among}
use Rattle.vlm_store.proofs.Records.{queue_at}

-- a queue has the lock with PW or EX if one of its rows there has
pub writer_rows : (lkid : ℕ) (rows : List LockState) → has_writer lkid rows ≡ list_any (λ (row : LockState). is_writer row.held) (plain.rows_of lkid rows)
writer_rows lkid [] = refl
writer_rows lkid (row ∷ rows) =
    elim (cases_eq row.lkid lkid) [
      | inl same ↦ rw (eq-eqb row.lkid lkid same) (ap (λ b. is_writer row.held || b) (writer_rows lkid rows))
      | inr differs ↦ rw (ne_eqb row.lkid lkid differs) (writer_rows lkid rows)
    ]

-- nothing more is or-ed
or_false : (b : Bool) → (b || false) ≡ b
or_false true = refl
or_false false = refl

-- a lock goes or stays once it has left what it leaves in the value block
left_and_gone : (w : Withdrawal) (change : Resource → Resource) → ((r : Resource) → change r ≡ resource_after_going w r) → (rs : List Resource)
    → map change (map (resource_after_writer w) rs) ≡ map (resource_after_withdrawals (w ∷ [])) rs
left_and_gone w change going [] = refl
left_and_gone w change going (r ∷ rs) =
    ap (λ x. x ∷ map change (map (resource_after_writer w) rs)) (going (resource_after_writer w r))
    ∙ ap (λ xs. resource_after_withdrawals (w ∷ []) r ∷ xs) (left_and_gone w change going rs)

-- one that goes
pub left_without : (w : Withdrawal) (lkid : ℕ) → w.lkid ≡ lkid → w.stays ≡ false → (rs : List Resource)
    → map (resource_without lkid) (map (resource_after_writer w) rs) ≡ map (resource_after_withdrawals (w ∷ [])) rs
left_without w lkid named goes rs =
    left_and_gone w (resource_without lkid)
    (λ r. ap (λ k. resource_without k r) (sym named) ∙ sym (ap (λ b. cond b (resource_after_cancel w.lkid r) (resource_without w.lkid r)) goes)) rs

-- one that stays
pub left_staying : (w : Withdrawal) (lkid : ℕ) → w.lkid ≡ lkid → w.stays ≡ true → (rs : List Resource)
    → map (resource_after_cancel lkid) (map (resource_after_writer w) rs) ≡ map (resource_after_withdrawals (w ∷ [])) rs
left_staying w lkid named stays rs =
    left_and_gone w (resource_after_cancel lkid)
    (λ r. ap (λ k. resource_after_cancel k r) (sym named) ∙ sym (ap (λ b. cond b (resource_after_cancel w.lkid r) (resource_without w.lkid r)) stays)) rs

module _ (s : Records) (sound : IsSound s) (f : LocatedLock) (located : IsLocated f s) where
  -- the rows of the lock in its queue
  pub rows_here : plain.rows_of f.row.lkid (rows_of_locks (queued f.queue located.resource)) ≡ f.row ∷ []
  rows_here =
      let r = located.resource in
      let among = own_among s sound f located in
      rows-only (record { at = f.lock; row = f.row }) (queued f.queue r)
      (subst AreApart (queue_at s sound r among f.queue) (sound.locks_apart (Queued r.at f.queue)))
      (only s sound f located r among f.queue) located.among

  -- the rows of the lock in another queue
  pub rows_elsewhere : (x : StoredResource) → IsIn x s.resources → (queue : Queue) → Queued x.at queue ≢ Queued f.res f.queue
      → plain.rows_of f.row.lkid (rows_of_locks (queued queue x)) ≡ []
  rows_elsewhere x among queue differs = rows-absent f.row.lkid (queued queue x) (absent s sound f located x among queue differs)

  -- another queue without the lock
  pub stays_elsewhere : (x : StoredResource) → IsIn x s.resources → (queue : Queue) → Queued x.at queue ≢ Queued f.res f.queue
      → rows_without f.row.lkid (rows_of_locks (queued queue x)) ≡ rows_of_locks (queued queue x)
  stays_elsewhere x among queue differs = without-absent f.row.lkid (queued queue x) (absent s sound f located x among queue differs)

  -- ---- the lock goes

  -- another resource is the same without the lock
  others_without : (x : StoredResource) → IsIn x s.resources → x.at ≢ f.res → resource_without f.row.lkid (plain_resource x) ≡ plain_resource x
  unfolding resource_without
  others_without x among differs =
      rw (
        stays_elsewhere x among Granted (λ e. differs (cc)),
        stays_elsewhere x among Conversion (λ e. differs (cc)),
        stays_elsewhere x among Waiting (λ e. differs (cc)),
      ) refl

  -- the resource of the lock without it
  own_without : resource_without f.row.lkid (plain_resource located.resource) ≡ plain_resource (resource_with (leaving f.lock) located.resource)
  unfolding resource_without
  own_without =
      let r = located.resource in
      let each : (queue : Queue)
      → rows_without f.row.lkid (rows_of_locks (queued queue r)) ≡ rows_of_locks
      (leaving f.lock (Queued r.at queue) (queued queue r)) =
      λ queue. sym (without-handle (record { at = f.lock; row = f.row }) (queued queue r) (only s sound f located r (own_among s sound f located) queue)) in
      rw (each Granted, each Conversion, each Waiting) refl

  -- so its resource changes as it goes, and nothing else
  pub removed : IsSound (without_stored_lock f.lock s) → IsAtRest s → IsChange f.res (resource_without f.row.lkid) s (without_stored_lock f.lock s)
  removed sound_without rest = removed_changed s sound f located (resource_without f.row.lkid) sound_without rest own_without others_without

  -- ---- what it leaves in the value block

  -- another resource is not held by the lock
  not_held : (x : StoredResource) → IsIn x s.resources → x.at ≢ f.res → is_held_by_writer f.row.lkid (plain_resource x) ≡ false
  not_held x among differs =
      let each : (queue : Queue) → has_writer f.row.lkid (rows_of_locks (queued queue x)) ≡ false =
      λ queue. writer_rows f.row.lkid (rows_of_locks (queued queue x))
      ∙ ap (list_any (λ (row : LockState). is_writer row.held))
      (rows_elsewhere x among queue (λ e. differs (cc))) in
      rw (each Granted, each Conversion) refl

  -- its own is, where it may write
  pub held_own : is_held_by_writer f.row.lkid (plain_resource located.resource) ≡ may_write f.queue f.row
  held_own = of_queue f.queue refl
    where
      r : StoredResource
      r = located.resource

      there : (queue : Queue) → queue ≢ f.queue → has_writer f.row.lkid (rows_of_locks (queued queue r)) ≡ false
      there queue differs =
          writer_rows f.row.lkid (rows_of_locks (queued queue r))
          ∙ ap (list_any (λ (row : LockState). is_writer row.held))
          (rows_elsewhere r (own_among s sound f located) queue (λ e. differs (cc)))

      here : (queue : Queue) → f.queue ≡ queue → has_writer f.row.lkid (rows_of_locks (queued queue r)) ≡ is_writer f.row.held
      here queue is =
          writer_rows f.row.lkid (rows_of_locks (queued queue r))
          ∙ ap (λ q. list_any (λ (row : LockState). is_writer row.held) (plain.rows_of f.row.lkid (rows_of_locks (queued q r)))) (sym is)
          ∙ ap (list_any (λ (row : LockState). is_writer row.held)) rows_here
          ∙ or_false (is_writer f.row.held)

      of_queue : (queue : Queue) → f.queue ≡ queue → is_held_by_writer f.row.lkid (plain_resource r) ≡ may_write queue f.row
      of_queue Granted is = rw (here Granted is, there Conversion (λ e. cc)) (or_false (is_writer f.row.held))
      of_queue Conversion is = rw (there Granted (λ e. cc), here Conversion is) refl
      of_queue Waiting is = rw (there Granted (λ e. cc), there Conversion (λ e. cc)) refl

  -- a resource that is not held by the lock stays
  not_left : (w : Withdrawal) → w.lkid ≡ f.row.lkid → (x : StoredResource)
      → is_held_by_writer f.row.lkid (plain_resource x) ≡ false
      → resource_after_writer w (plain_resource x) ≡ plain_resource x
  not_left w named x none =
      ap (λ b. cond b (record (plain_resource x) { value_block = value_block_after_writer w x.value_block }) (plain_resource x))
      (ap (λ k. is_held_by_writer k (plain_resource x)) named ∙ none)

  -- a lock that may not write leaves nothing
  pub left_nothing : (w : Withdrawal) → w.lkid ≡ f.row.lkid → may_write f.queue f.row ≡ false → IsAtRest s → IsChange f.res (resource_after_writer w) s s
  left_nothing w named may_not rest =
      unchanged f.res (resource_after_writer w) located.resource s sound rest located.found
      (λ x among. not_left w named x (elim (cases_eq x.at f.res) [
        | inl same ↦
            ap (λ y. is_held_by_writer f.row.lkid (plain_resource y))
            (resource_alone f.res s.resources located.resource x sound.resources_apart located.found among same)
            ∙ held_own ∙ may_not
        | inr differs ↦ not_held x among differs
      ]))

  -- a withdrawal that writes nothing leaves nothing
  pub left_unwritten : (w : Withdrawal) → is_some w.value ≡ false → w.invalidates ≡ false → IsAtRest s → IsChange f.res (resource_after_writer w) s s
  left_unwritten w ungiven keeps rest =
      unchanged f.res (resource_after_writer w) located.resource s sound rest located.found
      (λ x among. stays (plain_resource x) w.value w.invalidates
      (is_held_by_writer w.lkid (plain_resource x)) ungiven keeps)
    where
      stays : (r : Resource) (given : Option (List ℕ)) (invalidates held : Bool) → is_some given ≡ false → invalidates ≡ false
          → cond held (record r {
            value_block =
                cond invalidates (invalid_value_block (value_block_after_gift given w.tail r.value_block))
                (value_block_after_gift given w.tail r.value_block);
          }) r ≡ r
      stays r (Some value) invalidates held ungiven keeps = cc
      stays r None true held ungiven keeps = cc
      stays r None false true ungiven keeps = refl
      stays r None false false ungiven keeps = refl

  -- the value block is written on its resource alone
  block_put : (block : ValueBlock) → on_resource f.res (λ (x : StoredResource). record x { value_block = block }) s.resources
      ≡ on_resource f.res (λ x. record located.resource { value_block = block }) s.resources
  block_put block =
      ap (on_resource f.res (λ (x : StoredResource). record x { value_block = block }))
      (sym (on_resource-own f.res located.resource s.resources sound.resources_apart located.found))
      ∙ on_resource-put f.res located.resource (λ x. record x { value_block = block }) s.resources
      (resource_at-at f.res s.resources located.resource located.found)

  -- one that may leaves the value block so
  pub left_block : (w : Withdrawal) (had block : ValueBlock) → w.lkid ≡ f.row.lkid → may_write f.queue f.row ≡ true
      → IsSound (record s { resources = on_resource f.res (λ r. record r { value_block = block }) s.resources })
      → IsAtRest s → IfSome (resource_at f.res s.resources) (λ r. had ≡ r.value_block)
      → block ≡ value_block_after_writer w had
      → IsChange f.res (resource_after_writer w) s (record s { resources = on_resource f.res (λ r. record r { value_block = block }) s.resources })
  left_block w had block named may sound_left rest told written =
      let r = located.resource in
      let left : StoredResource = record r { value_block = block } in
      let had_is : had ≡ r.value_block = subst (λ o. IfSome o (λ x. had ≡ x.value_block)) located.found told in
      let block_is : block ≡ value_block_after_writer w r.value_block = written ∙ ap (value_block_after_writer w) had_is in
      let here : resource_after_writer w (plain_resource r) ≡ plain_resource left =
      ap (λ b. cond b (record (plain_resource r) { value_block = value_block_after_writer w r.value_block }) (plain_resource r))
      (ap (λ k. is_held_by_writer k (plain_resource r)) named ∙ held_own ∙ may)
      ∙ ap (λ v. record (plain_resource r) { value_block = v }) (sym block_is)
      in
      changed f.res (resource_after_writer w) r left s
      (record s {
        resources =
            on_resource f.res (λ x. record x { value_block = block }) s.resources;
      }) sound sound_left rest
      (record {
        was = located.found;
        same = refl;
        resources = block_put block;
        processes = refl;
      })
      (none_joins_under_block r r block (all_stay r))
      here (λ x among differs. not_left w named x (not_held x among differs)) refl

  -- and the lock stands there still
  pub stands_left : (block : ValueBlock) → IsSound (record s { resources = on_resource f.res (λ r. record r { value_block = block }) s.resources })
      → IsLocated f (record s { resources = on_resource f.res (λ r. record r { value_block = block }) s.resources })
  stands_left block sound_left = record {
    resource = record located.resource { value_block = block };
    found =
        ap (resource_at f.res) (block_put block)
        ∙ resource_at-put f.res (record located.resource { value_block = block }) s.resources located.resource
        (resource_at-at f.res s.resources located.resource located.found) located.found;
    among = of_queue f.queue located.among;
    owner = located.owner;
    sound = sound_left;
  }
    where
      of_queue : (queue : Queue) → IsIn (record { at = f.lock; row = f.row }) (queued queue located.resource)
          → IsIn (record { at = f.lock; row = f.row }) (queued queue (record located.resource { value_block = block }))
      of_queue Granted among = among
      of_queue Conversion among = among
      of_queue Waiting among = among

  -- ---- only its request goes

  -- a resource stays where the lock neither converts nor waits
  uncancelled : (x : StoredResource) → IsIn x s.resources → Queued x.at Conversion ≢ Queued f.res f.queue → Queued x.at Waiting ≢ Queued f.res f.queue
      → resource_after_cancel f.row.lkid (plain_resource x) ≡ plain_resource x
  unfolding resource_after_cancel
  uncancelled x among converts waits =
      ap (λ rows. record (plain_resource x) {
        granted = rows_of_locks x.granted ++ map row_after_cancel rows;
        converting = rows_without f.row.lkid (rows_of_locks x.converting);
        waiting = rows_without f.row.lkid (rows_of_locks x.waiting);
      }) (rows_elsewhere x among Conversion converts)
      ∙ ap (λ rows. record (plain_resource x) {
        granted = rows;
        converting = rows_without f.row.lkid (rows_of_locks x.converting);
        waiting = rows_without f.row.lkid (rows_of_locks x.waiting);
      }) (append-nil (rows_of_locks x.granted))
      ∙ ap (λ rows. record (plain_resource x) {
        converting = rows;
        waiting =
            rows_without f.row.lkid (rows_of_locks x.waiting);
      }) (stays_elsewhere x among Conversion converts)
      ∙ ap (λ rows. record (plain_resource x) { waiting = rows }) (stays_elsewhere x among Waiting waits)

  -- a granted lock has no request
  pub cancelled_none : f.queue ≡ Granted → IsAtRest s → IsChange f.res (resource_after_cancel f.row.lkid) s s
  cancelled_none granted rest =
      unchanged f.res (resource_after_cancel f.row.lkid) located.resource s sound rest located.found
      (λ x among. uncancelled x among (λ e. cc) (λ e. cc))

  -- a lock that waits goes with its request
  cancelled_alike : f.queue ≡ Waiting → (x : StoredResource) → IsIn x s.resources
      → resource_without f.row.lkid (plain_resource x) ≡ resource_after_cancel f.row.lkid (plain_resource x)
  unfolding resource_without resource_after_cancel
  cancelled_alike waits x among =
      ap (λ rows. record (plain_resource x) {
        granted = rows;
        converting = rows_without f.row.lkid (rows_of_locks x.converting);
        waiting = rows_without f.row.lkid (rows_of_locks x.waiting);
      })
      (stays_elsewhere x among Granted (λ e. cc)
      ∙ sym (append-nil (rows_of_locks x.granted))
      ∙ ap (λ rows. rows_of_locks x.granted ++ map row_after_cancel rows) (sym (rows_elsewhere x among Conversion (λ e. cc))))

  -- so the cancel of a lock that waits is its removal
  pub cancelled_waiting : f.queue ≡ Waiting → (new : Records) → IsChange f.res (resource_without f.row.lkid) s new
      → IsChange f.res (resource_after_cancel f.row.lkid) s new
  cancelled_waiting waits new gone = changed_alike f.res (resource_without f.row.lkid) (resource_after_cancel f.row.lkid) s new (cancelled_alike waits) gone

  -- a lock that converts joins the granted locks
  cancelled_own : f.queue ≡ Conversion
      → resource_after_cancel f.row.lkid (plain_resource located.resource) ≡ plain_resource
      (moved_in f (row_after_cancel f.row) Granted located.resource)
  unfolding resource_after_cancel
  cancelled_own converts =
      let r = located.resource in
      let left : StoredResource = moved_in f (row_after_cancel f.row) Granted r in
      let gone : (queue : Queue) → queue ≢ Granted
      → rows_without f.row.lkid (rows_of_locks (queued queue r)) ≡ rows_of_locks
      (moving (Queued f.res Granted) (record { at = f.lock; row = row_after_cancel f.row }) (Queued r.at queue)
      (queued queue r)) =
      λ queue differs. sym (leaves s sound f located (row_after_cancel f.row) Granted queue differs) in
      ap (λ rows. record (plain_resource r) {
        granted = rows;
        converting = rows_without f.row.lkid (rows_of_locks r.converting);
        waiting = rows_without f.row.lkid (rows_of_locks r.waiting);
      })
      (ap (λ rows. rows_of_locks r.granted ++ map row_after_cancel rows)
      (ap (λ q. plain.rows_of f.row.lkid (rows_of_locks (queued q r))) (sym converts) ∙ rows_here)
      ∙ ap (λ rows. rows ++ row_after_cancel f.row ∷ []) (sym (not_in s sound f located Granted (λ e. cc)))
      ∙ sym (joins s sound f located (row_after_cancel f.row) Granted))
      ∙ ap (λ rows. record (plain_resource left) { converting = rows; waiting = rows_without f.row.lkid (rows_of_locks r.waiting) }) (gone Conversion (λ e. cc))
      ∙ ap (λ rows. record (plain_resource left) { waiting = rows }) (gone Waiting (λ e. cc))

  -- so its resource changes as its conversion is given up, and nothing else
  pub cancelled_conversion : f.queue ≡ Conversion → IsAtRest s → (new : Records) → IsSound new
      → new ≡ with_lists (moving (Queued f.res Granted) (record { at = f.lock; row = row_after_cancel f.row })) s
      → IsChange f.res (resource_after_cancel f.row.lkid) s new
  cancelled_conversion converts rest new sound_new is =
      changed f.res (resource_after_cancel f.row.lkid) located.resource
      (moved_in f (row_after_cancel f.row) Granted located.resource) s new sound sound_new rest
      (moved_replaced s sound f located (row_after_cancel f.row) Granted new is)
      (none_joins_by_moving s f located (row_after_cancel f.row) Granted (record { lkid = refl; pid = refl; parent = refl })) (cancelled_own converts)
      (λ x among differs. uncancelled x among (λ e. differs (cc)) (λ e. differs (cc)))
      (ap plain_processes is)
