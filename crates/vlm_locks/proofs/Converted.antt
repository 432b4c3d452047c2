-- The resource after a conversion of a lock on it.
use Rattle.std.proofs.Common.{◌≡◌, ◌≢◌, Bool, true, false, List, [], ◌∷◌, ◌++◌, map, find, cond, Some, IfSome, refl, sym, ap, ◌∙◌, subst}
use Rattle.vlm_words.specs.declared.locks.Request.{Request}
use Rattle.vlm_words.specs.declared.locks.LockState.{LockState}
use Rattle.vlm_words.specs.declared.modes.Mode.{Mode}
use Rattle.vlm_words.specs.declared.resources.Queue.{Queue}
use Rattle.vlm_words.specs.declared.resources.Queue.TheVariants.{Granted, Conversion, Waiting}
use Rattle.vlm_words.specs.declared.resources.ValueBlock.{ValueBlock}
use Rattle.vlm_model.specs.Convert.{conversion_blocks, converts_at_once, resource_after_conversion, resource_after_conversion_of}
use Rattle.vlm_words.specs.Rows.{wanting_row, fits, granted_row, is_lock_of, rows_without}
use Rattle.vlm_model.specs.Effects.{Blocks, blocks_after, blocks_with}
use Rattle.vlm_model.specs.Grants.{grant_endings}
use Rattle.vlm_collections.specs.Lists.{IsIn}
use Rattle.vlm_records.specs.declared.handles.Place.TheVariants.{Queued}
use Rattle.vlm_store.specs.Plain.{plain_processes, plain_resource, plain_resources}
use Rattle.vlm_store.specs.Records.{IsSound, Records, SameButNotices, StoredLock, StoredResource, but_notices}
use Rattle.vlm_store.specs.Records.{fits_beside, moving, on_resource, queued, resource_at, rows_of_locks, with_lists}
use Rattle.vlm_store.specs.Records.{without_lock}
use Rattle.vlm_locks.proofs.FoundByHandle.{on_resource-put, resource_at-at}
use Rattle.vlm_locks.specs.declared.located_locks.LocatedLock.{LocatedLock}
use Rattle.vlm_locks.specs.Converting.{IsConverted, IsConvertedAtOnce, admission_on, blocks_granted, moved_in}
use Rattle.vlm_locks.specs.Rest.{IsReplaced}
use Rattle.vlm_locks.specs.Standing.{IsLocated}
use Rattle.vlm_words.specs.State.{Process}
use Rattle.vlm_locks.proofs.ReservedAsts.{notices_twice}
use Rattle.vlm_locks.proofs.MovedToEnd.{joins, leaves, moved_replaced, not_in}
use Rattle.vlm_locks.proofs.FoundInLists.{find-absent, find-only, without-handle}
use Rattle.vlm_locks.proofs.ReplacedResource.{plain_replaced}
use Rattle.vlm_locks.proofs.QueuedLocks.{absent, only, own_among}

module _ (s : Records) (sound : IsSound s) (f : LocatedLock) (located : IsLocated f s) where
  -- what end_by_grant and the writing of the value block make of the lock that moved, once its request is accepted
  pub granted_at_once : (row : LockState) (accepted : List Process) (moved mid ended new : Records)
      (old_block block : ValueBlock) → IfSome (resource_at f.res s.resources) (λ r. old_block ≡ r.value_block)
      → moved ≡ with_lists (moving (Queued f.res Granted) (record { at = f.lock; row = granted_row row })) s
      → SameButNotices moved mid → plain_processes mid ≡ accepted
      → record {
        value_block : block ≡ (blocks_after (grant_endings true row) (blocks_with old_block (plain_processes mid))).value_block;
        statuses : plain_processes ended ≡ (blocks_after (grant_endings true row) (blocks_with old_block (plain_processes mid))).processes;
        only_notices : SameButNotices mid ended;
      }
      → new ≡ record ended { resources = on_resource f.res (λ r. record r { value_block = block }) ended.resources }
      → IsConvertedAtOnce f row accepted located.resource s new
  granted_at_once row accepted moved mid ended new old_block block told is noticed takes ends wrote =
      let first = moved_replaced s sound f located (granted_row row) Granted moved is in
      let was : old_block ≡ located.resource.value_block = subst (λ o. IfSome o (λ r. old_block ≡ r.value_block)) located.found told in
      let blocks_are : blocks_with old_block (plain_processes mid) ≡ blocks_with located.resource.value_block accepted =
      ap (λ b. blocks_with b (plain_processes mid)) was ∙ ap (λ ps. blocks_with located.resource.value_block ps) takes in
      let block_is : block ≡ (blocks_granted row located.resource accepted).value_block = ends.value_block
      ∙ ap (λ b. (blocks_after (grant_endings true row) b).value_block) blocks_are in
      let same = notices_twice moved mid ended noticed ends.only_notices in
      record {
        replaced = record {
          was = located.found;
          same = refl;
          resources =
              ap (λ (x : Records). x.resources) wrote
              ∙ ap (on_resource f.res (λ r. record r { value_block = block })) (same.resources ∙ first.resources)
              ∙ on_resource-put f.res (moved_in f (granted_row row) Granted located.resource) (λ r. record r { value_block = block }) s.resources
              (resource_at-at f.res s.resources located.resource located.found)
              ∙ ap (λ b. on_resource f.res (λ r. record (moved_in f (granted_row row) Granted located.resource) { value_block = b }) s.resources) block_is;
          processes = ap (λ (x : Records). map but_notices x.processes) wrote ∙ same.processes ∙ first.processes;
        };
        statuses =
            ap plain_processes wrote ∙ ends.statuses ∙ ap (λ b. (blocks_after (grant_endings true row) b).processes) blocks_are;
      }

  -- and what grant_without_value_block makes of it
  pub granted_without_value_block : (row : LockState) (accepted : List Process) (moved ended : Records)
      → moved ≡ with_lists (moving (Queued f.res Granted) (record { at = f.lock; row = granted_row row })) s
      → ((block : ValueBlock) → blocks_with block (plain_processes ended) ≡ blocks_after (grant_endings true row) (blocks_with block accepted))
      → SameButNotices moved ended → IsConvertedAtOnce f row accepted located.resource s ended
  granted_without_value_block row accepted moved ended is ends same =
      let first = moved_replaced s sound f located (granted_row row) Granted moved is in
      let r = located.resource in
      let blocks_are : blocks_with r.value_block (plain_processes ended) ≡ blocks_granted row r accepted = ends r.value_block in
      record {
        replaced = record {
          was = located.found;
          same = refl;
          resources =
              same.resources ∙ first.resources
              ∙ ap (λ (b : Blocks). on_resource f.res
              (λ x. record (moved_in f (granted_row row) Granted r) {
                value_block =
                    b.value_block;
              }) s.resources) blocks_are;
          processes = same.processes ∙ first.processes;
        };
        statuses = ap (λ (b : Blocks). b.processes) blocks_are;
      }

  -- whether it is granted at once
  abbrev now : Request → Bool
  now asked = converts_at_once asked f.row.lkid (plain_resource located.resource)

  -- a conversion changes no other resource
  others_kept : (asked : Request) (block : ValueBlock) (x : StoredResource) → IsIn x s.resources → x.at ≢ f.res
      → resource_after_conversion asked (now asked) f.row.pid f.row.lkid block (plain_resource x) ≡ plain_resource x
  unfolding resource_after_conversion
  others_kept asked block x among differs =
      ap (resource_after_conversion_of asked (now asked) f.row.lkid block (plain_resource x))
      (find-absent f.row.pid f.row.lkid x.granted (absent s sound f located x among Granted (λ e. differs (cc))))

  -- the lock is found in its queue
  found_here : f.queue ≡ Granted → find (is_lock_of f.row.pid f.row.lkid) (rows_of_locks located.resource.granted) ≡ Some f.row
  found_here granted =
      find-only (record { at = f.lock; row = f.row }) located.resource.granted (only s sound f located located.resource (own_among s sound f located) Granted)
      (subst (λ q. IsIn (record { at = f.lock; row = f.row }) (queued q located.resource)) granted located.among)

  -- it stands in no other queue
  elsewhere : f.queue ≡ Granted → (queue : Queue) → queue ≢ Granted → queue ≢ f.queue
  elsewhere granted queue differs same = differs (same ∙ granted)

  -- what fits beside the other locks by their handles fits beside them by their IDs
  pub fits_are : (mode : Mode) → f.queue ≡ Granted
      → fits_beside mode (Some f.lock) located.resource ≡ fits mode
      (rows_without f.row.lkid (rows_of_locks located.resource.granted)) (rows_of_locks located.resource.converting)
  fits_are mode granted =
      let own = own_among s sound f located in
      let lock : StoredLock = record { at = f.lock; row = f.row } in
      ap (λ rows. fits mode rows (rows_of_locks (without_lock f.lock located.resource.converting)))
      (without-handle lock located.resource.granted (only s sound f located located.resource own Granted))
      ∙ ap (λ rows. fits mode (rows_without f.row.lkid (rows_of_locks located.resource.granted)) rows)
      (without-handle lock located.resource.converting (only s sound f located located.resource own Conversion)
      ∙ not_in s sound f located Conversion (elsewhere granted Conversion (λ e. cc)))

  -- the conversion is granted
  pub converted_now : (asked : Request) (accepted : List Process) (new : Records) → f.queue ≡ Granted
      → converts_at_once asked f.row.lkid (plain_resource located.resource) ≡ true
      → IsConvertedAtOnce f (wanting_row f.row asked) accepted located.resource s new → IsConverted f asked accepted located.resource s new
  unfolding resource_after_conversion
  converted_now asked accepted new granted at_once done =
      let r = located.resource in
      let row = wanting_row f.row asked in
      let blocks_are : conversion_blocks (admission_on f asked r) accepted ≡ blocks_granted row r accepted =
      ap (λ b. blocks_after (cond b (grant_endings true row) []) (blocks_with r.value_block accepted)) at_once in
      let block = (blocks_granted row r accepted).value_block in
      let left : StoredResource = record (moved_in f (granted_row row) Granted r) { value_block = block } in
      let here : resource_after_conversion asked (now asked) f.row.pid f.row.lkid block (plain_resource r) ≡ plain_resource left =
      ap (resource_after_conversion_of asked (now asked) f.row.lkid block (plain_resource r)) (found_here granted)
      ∙ rw at_once
      (ap (λ rows. record (plain_resource r) { value_block = block; granted = rows }) (sym (joins s sound f located (granted_row row) Granted))
      ∙ ap (λ rows. record (plain_resource left) { converting = rows; waiting = rows_of_locks r.waiting })
      (sym (leaves s sound f located (granted_row row) Granted Conversion (λ e. cc)
      ∙ not_in s sound f located Conversion (elsewhere granted Conversion (λ e. cc))))
      ∙ ap (λ rows. record (plain_resource left) { waiting = rows })
      (sym (leaves s sound f located (granted_row row) Granted Waiting (λ e. cc) ∙ not_in s sound f located Waiting (elsewhere granted Waiting (λ e. cc)))))
      in
      record {
        resources =
            plain_replaced f.res r left s new done.replaced
            (resource_after_conversion asked (now asked) f.row.pid f.row.lkid block) sound here
            (others_kept asked block)
            ∙ ap (λ (b : Blocks). map (resource_after_conversion asked (now asked) f.row.pid f.row.lkid b.value_block) (plain_resources s)) (sym blocks_are);
        statuses = done.statuses ∙ ap (λ (b : Blocks). b.processes) (sym blocks_are);
      }

  -- the conversion waits
  pub converted_later : (asked : Request) (accepted : List Process) (new : Records) → f.queue ≡ Granted
      → converts_at_once asked f.row.lkid (plain_resource located.resource) ≡ false
      → IsReplaced f.res located.resource (moved_in f (wanting_row f.row asked) Conversion located.resource) s new → plain_processes new ≡ accepted
      → IsConverted f asked accepted located.resource s new
  unfolding resource_after_conversion
  converted_later asked accepted new granted later replaced statuses =
      let r = located.resource in
      let row = wanting_row f.row asked in
      let blocks_are : conversion_blocks (admission_on f asked r) accepted ≡ blocks_with r.value_block accepted =
      ap (λ b. blocks_after (cond b (grant_endings true row) []) (blocks_with r.value_block accepted)) later in
      let left : StoredResource = moved_in f row Conversion r in
      let here : resource_after_conversion asked (now asked) f.row.pid f.row.lkid r.value_block (plain_resource r) ≡ plain_resource left =
      ap (resource_after_conversion_of asked (now asked) f.row.lkid r.value_block (plain_resource r)) (found_here granted)
      ∙ rw later
      (ap (λ rows. record (plain_resource r) { granted = rows; converting = rows_of_locks r.converting ++ row ∷ [] })
      (sym (leaves s sound f located row Conversion Granted (λ e. cc)))
      ∙ ap (λ rows. record (plain_resource left) { converting = rows ++ row ∷ []; waiting = rows_of_locks r.waiting })
      (sym (not_in s sound f located Conversion (elsewhere granted Conversion (λ e. cc))))
      ∙ ap (λ rows. record (plain_resource left) { converting = rows; waiting = rows_of_locks r.waiting }) (sym (joins s sound f located row Conversion))
      ∙ ap (λ rows. record (plain_resource left) { waiting = rows })
      (sym (leaves s sound f located row Conversion Waiting (λ e. cc) ∙ not_in s sound f located Waiting (elsewhere granted Waiting (λ e. cc)))))
      in
      record {
        resources =
            plain_replaced f.res r left s new replaced
            (resource_after_conversion asked (now asked) f.row.pid f.row.lkid r.value_block) sound here
            (others_kept asked r.value_block)
            ∙ ap (λ (b : Blocks). map (resource_after_conversion asked (now asked) f.row.pid f.row.lkid b.value_block) (plain_resources s)) (sym blocks_are);
        statuses = statuses ∙ ap (λ (b : Blocks). b.processes) (sym blocks_are);
      }
