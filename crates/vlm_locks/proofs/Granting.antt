-- What is left to serve after one grant from the head of a queue.
use Rattle.std.proofs.Common.{◌≡◌, ◌≢◌, ◌<◌, ℕ, Bool, true, false, List, [], ◌∷◌, ◌++◌, length, Option, None, Some}
use Rattle.std.proofs.Common.{IfSome, IsSome, refl, sym, ap, ◌∙◌, subst, arith}
use Rattle.std.proofs.lemmas.List.{map-append}
use Rattle.vlm_words.specs.declared.locks.Request.{Request}
use Rattle.vlm_words.specs.declared.locks.LockState.{LockState}
use Rattle.vlm_words.specs.declared.resources.Queue.{Queue}
use Rattle.vlm_words.specs.declared.resources.Queue.TheVariants.{Granted, Conversion, Waiting}
use Rattle.vlm_words.specs.declared.resources.ValueBlock.{ValueBlock}
use Rattle.vlm_model.specs.Effects.{Blocks, blocks_after, blocks_after_ending, blocks_with}
use Rattle.vlm_model.specs.Endings.{Ending}
use Rattle.vlm_model.specs.Grants.{Service, grant_endings, no_service, service_after_grant, wanted_fits}
use Rattle.vlm_words.specs.Rows.{granted_row}
use Rattle.vlm_records.specs.declared.handles.Place.TheVariants.{Queued}
use Rattle.vlm_store.specs.Plain.{plain_processes, plain_resource}
use Rattle.vlm_store.specs.Records.{HasResource, IsSound, Records, SameButNotices, StoredLock, StoredResource, Stores}
use Rattle.vlm_store.specs.Records.{first_at, locks_at, moving, queued, resource_at, rows_of_locks, with_lists}
use Rattle.vlm_locks.specs.Serving.{IsLeft, IsServiceOf, service_from, wanted_fits_beside}
use Rattle.vlm_locks.specs.Staying.{LocksStay}
use Rattle.vlm_locks.proofs.FoundByHandle.{on_resource-own}
use Rattle.vlm_locks.proofs.GrantsKeepResources.{all_stay, none_join_granted, stay_granted, stay_twice}
use Rattle.vlm_locks.proofs.MovedToGranted.{IsHead, alone_here, behind, granted_first, granted_first-queue, head_is, left_next, locks_found, none_queued}

-- what ends first takes effect first
pub blocks_after_append : (first later : List Ending) (b : Blocks) → blocks_after (first ++ later) b ≡ blocks_after later (blocks_after first b)
blocks_after_append [] later b = refl
blocks_after_append (ending ∷ first) later b =
    blocks_after_append first later (blocks_after_ending ending b)

-- what the first of a queue wants fits beside the others
abbrev fits_first : Queue → LockState → List StoredLock → StoredResource → Bool
fits_first Granted row rest r = false
fits_first Conversion row rest r = wanted_fits row.want (rows_of_locks r.granted) (rows_of_locks rest)
fits_first Waiting row rest r = wanted_fits row.want (rows_of_locks r.granted) (rows_of_locks r.converting)

fits_are : (s : Records) (sound : IsSound s) (res : ℕ) (r : StoredResource) (queue : Queue) (at : ℕ) (row : LockState)
    (found : resource_at res s.resources ≡ Some r) (head : IsHead queue r at row)
    → Granted ≢ queue → wanted_fits_beside row.want at r ≡ fits_first queue row head.rest r
fits_are s sound res r Granted at row found head differs = absurd (differs refl)
fits_are s sound res r Conversion at row found head differs = of_want row.want
  where
    of_want : (want : Option Request) → wanted_fits_beside want at r ≡ wanted_fits want (rows_of_locks r.granted) (rows_of_locks head.rest)
    of_want None = refl
    of_want (Some request) =
        rw (
          alone_here s sound res r Conversion at row found head Granted (λ e. cc),
          behind s sound res r Conversion at row found head,
        ) refl
fits_are s sound res r Waiting at row found head differs = of_want row.want
  where
    of_want : (want : Option Request) → wanted_fits_beside want at r ≡ wanted_fits want (rows_of_locks r.granted) (rows_of_locks r.converting)
    of_want None = refl
    of_want (Some request) =
        rw (alone_here s sound res r Waiting at row found head Granted (λ e. cc), alone_here s sound res r Waiting at row found head Conversion (λ e. cc)) refl

-- the service of a queue whose first lock is granted, that does not fit, and that is empty
service_next : (queue : Queue) (r : StoredResource) (at : ℕ) (row : LockState) (head : IsHead queue r at row) → fits_first queue row head.rest r ≡ true
    → service_from queue (plain_resource r)
    ≡ service_after_grant row (service_from queue (plain_resource (granted_first queue (record { at = at; row = granted_row row }) head.rest r)))
service_next Granted r at row head fits = cc
service_next Conversion r at row head fits =
    rw (head.is, fits, map-append (λ (k : StoredLock). k.row) r.granted (record { at = at; row = granted_row row } ∷ [])) refl
service_next Waiting r at row head fits =
    rw (head.is, fits, map-append (λ (k : StoredLock). k.row) r.granted (record { at = at; row = granted_row row } ∷ [])) refl

service_stopped : (queue : Queue) (r : StoredResource) (at : ℕ) (row : LockState) (head : IsHead queue r at row) → fits_first queue row head.rest r ≡ false
    → service_from queue (plain_resource r) ≡ no_service (plain_resource r)
service_stopped Granted r at row head fits = refl
service_stopped Conversion r at row head fits = rw (head.is, fits) refl
service_stopped Waiting r at row head fits = rw (head.is, fits) refl

service_ended : (queue : Queue) (r : StoredResource) → queued queue r ≡ [] → service_from queue (plain_resource r) ≡ no_service (plain_resource r)
service_ended Granted r is = refl
service_ended Conversion r is = rw is refl
service_ended Waiting r is = rw is refl

-- what is left of a queue, served, gives what the whole queue gives
pub record IsServing (queue : Queue) (res : ℕ) (old_block : ValueBlock) (old : Records) (block : ValueBlock) (s : Records) : Type 0 where
  pub had : StoredResource
  pub left : StoredResource
  pub change : IsLeft res had left old s
  pub stay : LocksStay had left
  pub none_join : LocksStay left had
  pub resource : (service_from queue (plain_resource left)).resource ≡ (service_from queue (plain_resource had)).resource
  pub effect : blocks_after (service_from queue (plain_resource left)).endings (blocks_with block (plain_processes s))
      ≡ blocks_after (service_from queue (plain_resource had)).endings (blocks_with old_block (plain_processes old))

-- before the first grant
pub serving_begun : (queue : Queue) (res : ℕ) (block : ValueBlock) (s : Records) → IsSound s → HasResource res s → IsServing queue res block s block s
serving_begun queue res block s sound there = of_found (resource_at res s.resources) refl there
  where
    of_found : (o : Option StoredResource) → resource_at res s.resources ≡ o → IsSome o → IsServing queue res block s block s
    of_found None found there = cc
    of_found (Some r) found there = record {
      had = r;
      left = r;
      change = record {
        replaced = record {
          was = found;
          same = refl;
          resources = sym (on_resource-own res r s.resources sound.resources_apart found);
          processes = refl;
        };
        now = found;
        rest = refl;
      };
      stay = all_stay r;
      none_join = all_stay r;
      resource = refl;
      effect = refl;
    }

module _ (queue : Queue) (res : ℕ) (old_block : ValueBlock) (old : Records) (block : ValueBlock) (s : Records)
    (serving : IsServing queue res old_block old block s) where
  -- nothing more is granted
  over : service_from queue (plain_resource serving.left) ≡ no_service (plain_resource serving.left)
      → IsServiceOf (service_from queue) res old_block old block s
  over none = record {
    had = serving.had;
    left = serving.left;
    change = serving.change;
    stay = serving.stay;
    none_join = serving.none_join;
    resource = sym (ap (λ (d : Service). d.resource) none) ∙ serving.resource;
    effect = sym (ap (λ (d : Service). blocks_after d.endings (blocks_with block (plain_processes s))) none) ∙ serving.effect;
  }

  -- the queue is empty
  pub serving_ended : None ≡ first_at (locks_at (Queued res queue) s) → IsServiceOf (service_from queue) res old_block old block s
  serving_ended none = over (service_ended queue serving.left (none_queued s res serving.left queue serving.change.now (sym none)))

  pub serving_there : HasResource res s
  serving_there = subst IsSome (sym serving.change.now) refl

  module _ (at : ℕ) (row : LockState) (sound : IsSound s) (first : Some at ≡ first_at (locks_at (Queued res queue) s))
      (only : (x : LockState) → Stores s at x → x ≡ row) (differs : Granted ≢ queue) where
    abbrev head : IsHead queue serving.left at row
    head = head_is s res serving.left queue at row serving.change.now (sym first) only

    fits_here : (fits : Bool) → IfSome (resource_at res s.resources) (λ r. fits ≡ wanted_fits_beside row.want at r)
        → fits ≡ fits_first queue row head.rest serving.left
    fits_here fits told =
        let here : IfSome (Some serving.left) (λ r. fits ≡ wanted_fits_beside row.want at r) =
        subst (λ o. IfSome o (λ r. fits ≡ wanted_fits_beside row.want at r)) serving.change.now told in
        here ∙ fits_are s sound res serving.left queue at row serving.change.now head differs

    -- the first does not fit
    pub serving_stopped : IfSome (resource_at res s.resources) (λ r. false ≡ wanted_fits_beside row.want at r)
        → IsServiceOf (service_from queue) res old_block old block s
    serving_stopped told = over (service_stopped queue serving.left at row head (sym (fits_here false told)))

    module _ (new_block : ValueBlock) (new : Records)
        (told : IfSome (resource_at res s.resources) (λ r. true ≡ wanted_fits_beside row.want at r))
        (moved : SameButNotices (with_lists (moving (Queued res Granted) (record { at = at; row = granted_row row })) s) new)
        (wrote : blocks_with new_block (plain_processes new) ≡ blocks_after (grant_endings false row) (blocks_with block (plain_processes s))) where
      -- one more is granted
      pub serving_next : IsServing queue res old_block old new_block new
      serving_next =
          let next : StoredResource = granted_first queue (record { at = at; row = granted_row row }) head.rest serving.left in
          let step : service_from queue (plain_resource serving.left) ≡ service_after_grant row (service_from queue (plain_resource next)) =
          service_next queue serving.left at row head (sym (fits_here true told)) in
          record {
            had = serving.had;
            left = next;
            change = left_next old s new sound res serving.had serving.left queue at row serving.change head (granted_row row) differs moved;
            stay = stay_twice serving.had serving.left next serving.stay (stay_granted serving.left at row queue head);
            none_join = stay_twice next serving.left serving.had (none_join_granted serving.left at row queue head) serving.none_join;
            resource = sym (ap (λ (d : Service). d.resource) step) ∙ serving.resource;
            effect =
                ap (blocks_after (service_from queue (plain_resource next)).endings) wrote
                ∙ sym (blocks_after_append (grant_endings false row) (service_from queue (plain_resource next)).endings (blocks_with block (plain_processes s)))
                ∙ sym (ap (λ (d : Service). blocks_after d.endings (blocks_with block (plain_processes s))) step)
                ∙ serving.effect;
          }

      -- and the queue is shorter
      pub serving_shorter : length (locks_at (Queued res queue) new) < length (locks_at (Queued res queue) s)
      unfolding serving_next
      serving_shorter =
          let next : StoredResource = granted_first queue (record { at = at; row = granted_row row }) head.rest serving.left in
          let before : locks_at (Queued res queue) s ≡ record { at = at; row = row } ∷ head.rest =
          locks_found s res serving.left queue serving.change.now ∙ head.is in
          let after : locks_at (Queued res queue) new ≡ head.rest =
          locks_found new res next queue serving_next.change.now
          ∙ granted_first-queue queue (record { at = at; row = granted_row row }) head.rest serving.left differs in
          rw (before, after) (omega arith)
