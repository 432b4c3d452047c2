-- One service of a resource after another, and the state in which nothing more is granted.
use Rattle.std.proofs.Common.{◌≡◌, ℕ, List, [], ◌∷◌, ◌++◌, map, true, false, None, Some, IfSome, IsSome, refl, sym, ap, ◌∙◌, subst, Option}
use Rattle.std.proofs.lemmas.Bool.{and_parts}
use Rattle.std.proofs.lemmas.List.{append-nil}
use Rattle.std.proofs.lemmas.Option.{same_Some}
use Rattle.vlm_words.specs.declared.locks.LockState.{LockState}
use Rattle.vlm_words.specs.declared.resources.Queue.TheVariants.{Conversion, Waiting}
use Rattle.vlm_words.specs.declared.resources.ValueBlock.{ValueBlock}
use Rattle.vlm_model.proofs.NothingLeft.{is_empty-true}
use Rattle.vlm_model.specs.Effects.{Blocks, blocks_after, blocks_with, with_value_block}
use Rattle.vlm_model.specs.Grants.{Service, no_service, service, service_of_conversions, service_of_new_requests, service_of_waiting, service_then}
use Rattle.vlm_words.specs.Rows.{is_empty}
use Rattle.vlm_words.specs.State.{Resource}
use Rattle.vlm_model.specs.Sweeps.{blocks_after_service}
use Rattle.vlm_records.specs.declared.handles.Place.TheVariants.{Queued}
use Rattle.vlm_store.specs.Plain.{plain_processes, plain_resource}
use Rattle.vlm_store.specs.Records.{HasResource, IsSound, Records, StoredLock, StoredResource, but_notices, first_at}
use Rattle.vlm_store.specs.Records.{locks_at, on_resource, resource_at, rows_of_locks}
use Rattle.vlm_locks.specs.Serving.{IsLeft, IsServed, IsServiceOf, nothing_queued, service_from, blocks_granted_from, HasGranted}
use Rattle.vlm_locks.proofs.FoundByHandle.{on_resource-own, on_resource-put, resource_at-at, resource_at-put}
use Rattle.vlm_locks.specs.Staying.{LocksStay}
use Rattle.vlm_locks.proofs.Granting.{blocks_after_append}
use Rattle.vlm_locks.proofs.GrantsKeepResources.{all_stay, none_joins_under_block, stay_twice, stays_under_block}
use Rattle.vlm_locks.proofs.MovedToGranted.{locks_found, none_queued}
use Rattle.vlm_locks.specs.Warning.{IsWarned}
use Rattle.vlm_locks.proofs.ReplacedResource.{found_left, left_at}
use Rattle.vlm_model.specs.Asts.{processes_after_asts, resource_after_warning, warnings}

-- a change of one resource, and then another
left_then : (res : ℕ) (had left last : StoredResource) (old s new : Records) → IsLeft res had left old s
    → IsLeft res left last s new → IsLeft res had last old new
left_then res had left last old s new first second = record {
  replaced = record {
    was = first.replaced.was;
    same = second.replaced.same ∙ first.replaced.same;
    resources =
        second.replaced.resources ∙ ap (on_resource res (λ x. last)) first.replaced.resources
        ∙ on_resource-put res left (λ x. last) old.resources (resource_at-at res s.resources left first.now);
    processes = second.replaced.processes ∙ first.replaced.processes;
  };
  now = second.now;
  rest = second.rest ∙ first.rest;
}

-- the service of a resource, once no conversion is left
service_is : (r left : Resource) → left ≡ (service_of_conversions r r.converting).resource → is_empty left.converting ≡ true
    → service r ≡ service_then (service_of_conversions r r.converting) (service_of_waiting left left.waiting)
unfolding service
service_is r left is none =
    ap (λ (l : Resource). service_then (service_of_conversions r r.converting) (service_of_new_requests l)) (sym is)
    ∙ rw none refl

-- where conversions are left nothing else is served
service_alone : (r left : Resource) → left ≡ (service_of_conversions r r.converting).resource → is_empty left.converting ≡ false
    → service r ≡ service_of_conversions r r.converting
unfolding service
service_alone r left is some = alone (service_of_conversions r r.converting) is
  where
    alone : (done : Service) → left ≡ done.resource → service_then done (service_of_new_requests done.resource) ≡ done
    alone done is =
        let none : service_of_new_requests done.resource ≡ no_service left = ap service_of_new_requests (sym is) ∙ rw some refl in
        rw none (ap (λ x. record { resource = x; endings = done.endings ++ [] }) is
        ∙ ap (λ es. record { resource = done.resource; endings = es }) (append-nil done.endings))

module _ (res : ℕ) (old_block : ValueBlock) (old : Records) (block : ValueBlock) (s : Records)
    (first : IsServiceOf (service_from Conversion) res old_block old block s) where
  -- no conversion is left: the new requests are served after the conversions
  pub served_then : (new_block : ValueBlock) (new : Records) → None ≡ first_at (locks_at (Queued res Conversion) s)
      → IsServiceOf (service_from Waiting) res block s new_block new → IsServiceOf service res old_block old new_block new
  served_then new_block new none second =
      let same : second.had ≡ first.left = same_Some second.had first.left (sym second.change.replaced.was ∙ first.change.now) in
      let r : Resource = plain_resource first.had in
      let left : Resource = plain_resource first.left in
      let empty : is_empty left.converting ≡ true =
      ap (λ xs. is_empty (rows_of_locks xs)) (none_queued s res first.left Conversion first.change.now (sym none)) in
      let is : service r ≡ service_then (service_of_conversions r r.converting) (service_of_waiting left left.waiting) =
      service_is r left first.resource empty in
      record {
        had = first.had;
        left = second.left;
        change = left_then res first.had first.left second.left old s new first.change (subst (λ x. IsLeft res x second.left s new) same second.change);
        stay = stay_twice first.had first.left second.left first.stay (subst (λ x. LocksStay x second.left) same second.stay);
        none_join = stay_twice second.left first.left first.had (subst (LocksStay second.left) same second.none_join) first.none_join;
        resource = second.resource ∙ ap (λ x. (service_from Waiting (plain_resource x)).resource) same ∙ sym (ap (λ (d : Service). d.resource) is);
        effect =
            second.effect
            ∙ ap (λ x. blocks_after (service_from Waiting (plain_resource x)).endings (blocks_with block (plain_processes s))) same
            ∙ ap (blocks_after (service_of_waiting left left.waiting).endings) first.effect
            ∙ sym (blocks_after_append (service_of_conversions r r.converting).endings
            (service_of_waiting left left.waiting).endings (blocks_with old_block (plain_processes old)))
            ∙ sym (ap (λ (d : Service). blocks_after d.endings (blocks_with old_block (plain_processes old))) is);
      }

  -- a conversion is left, and nothing else is served
  pub served_alone : (at : ℕ) → Some at ≡ first_at (locks_at (Queued res Conversion) s) → IsServiceOf service res old_block old block s
  served_alone at some =
      let r : Resource = plain_resource first.had in
      let left : Resource = plain_resource first.left in
      let filled : is_empty left.converting ≡ false =
      of_list first.left.converting (ap first_at (sym (locks_found s res first.left Conversion first.change.now))
      ∙ sym some) in
      let is : service r ≡ service_of_conversions r r.converting = service_alone r left first.resource filled in
      record {
        had = first.had;
        left = first.left;
        change = first.change;
        stay = first.stay;
        none_join = first.none_join;
        resource = first.resource ∙ sym (ap (λ (d : Service). d.resource) is);
        effect = first.effect ∙ sym (ap (λ (d : Service). blocks_after d.endings (blocks_with old_block (plain_processes old))) is);
      }
    where
      of_list : (locks : List StoredLock) → first_at locks ≡ Some at → is_empty (rows_of_locks locks) ≡ false
      of_list [] none = cc
      of_list (k ∷ rest) some = refl

module _ (res : ℕ) (old s new : Records) (old_block block : ValueBlock) (sound : IsSound old)
    (told : IfSome (resource_at res old.resources) (λ r. old_block ≡ r.value_block))
    (done : IsServiceOf service res old_block old block s)
    (wrote : new ≡ record s {
      resources =
          on_resource res (λ r. record r { value_block = block }) s.resources;
    }) where
  -- what the ends of the service wrote
  blocks : blocks_with block (plain_processes s) ≡ blocks_granted_from (plain_processes old) (plain_resource done.had)
  blocks =
      let was : old_block ≡ done.had.value_block = subst (λ o. IfSome o (λ r. old_block ≡ r.value_block)) done.change.replaced.was told in
      done.effect ∙ ap (λ v. blocks_after (service (plain_resource done.had)).endings (blocks_with v (plain_processes old))) was

  -- the resource in the end
  abbrev last : StoredResource
  last = record done.left { value_block = block }

  resources_are : new.resources ≡ on_resource res (λ x. last) old.resources
  resources_are =
      ap (λ (x : Records). x.resources) wrote
      ∙ ap (on_resource res (λ r. record r { value_block = block })) done.change.replaced.resources
      ∙ on_resource-put res done.left (λ r. record r { value_block = block }) old.resources (resource_at-at res s.resources done.left done.change.now)

  -- it is there still
  pub still_there : HasResource res new
  still_there =
      subst IsSome
      (sym (ap (resource_at res) resources_are
      ∙ resource_at-put res last old.resources done.had (resource_at-at res s.resources done.left done.change.now) done.change.replaced.was)) refl

  served_here : plain_resource last
      ≡ with_value_block (blocks_granted_from (plain_processes old) (plain_resource done.had)).value_block (service (plain_resource done.had)).resource
  served_here =
      ap (λ x. with_value_block block x) done.resource
      ∙ ap (λ (b : Blocks). with_value_block b.value_block (service (plain_resource done.had)).resource) blocks

  -- the grants of the service are done
  pub granted : HasGranted res old new
  granted = record {
    had = done.had;
    left = last;
    replaced = record {
      was = done.change.replaced.was;
      same = done.change.replaced.same;
      resources = resources_are;
      processes = ap (λ (x : Records). map but_notices x.processes) wrote ∙ done.change.replaced.processes;
    };
    stay = stays_under_block done.had done.left block done.stay;
    none_join = none_joins_under_block done.had done.left block done.none_join;
    resource = served_here;
    statuses = ap plain_processes wrote ∙ ap (λ (b : Blocks). b.processes) blocks;
  }

-- ---- nothing is queued

-- nothing is granted then
none_served : (r : Resource) → nothing_queued r ≡ true → service r ≡ no_service r
unfolding service
none_served r nothing =
    let both = and_parts (is_empty r.converting) (is_empty r.waiting) nothing in
    ap (λ (rows : List LockState). service_then (service_of_conversions r rows)
    (service_of_new_requests (service_of_conversions r rows).resource)) (is_empty-true r.converting both.0)
    ∙ rw (both.0, is_empty-true r.waiting both.1) refl

pub none_granted : (res : ℕ) (s : Records) → IsSound s → HasResource res s
    → IfSome (resource_at res s.resources) (λ r. true ≡ nothing_queued (plain_resource r)) → HasGranted res s s
none_granted res s sound there nothing = of_found (resource_at res s.resources) refl there nothing
  where
    of_found : (o : Option StoredResource) → resource_at res s.resources ≡ o → IsSome o
        → IfSome o (λ r. true ≡ nothing_queued (plain_resource r)) → HasGranted res s s
    of_found None found none nothing = cc
    of_found (Some r) found some nothing =
        let none : service (plain_resource r) ≡ no_service (plain_resource r) = none_served (plain_resource r) (sym nothing) in
        record {
          had = r;
          left = r;
          replaced = record {
            was = found;
            same = refl;
            resources = sym (on_resource-own res r s.resources sound.resources_apart found);
            processes = refl;
          };
          stay = all_stay r;
          none_join = all_stay r;
          resource = sym (ap (λ (d : Service). with_value_block
              (blocks_after d.endings (blocks_with r.value_block (plain_processes s))).value_block d.resource) none);
          statuses = sym (ap (λ (d : Service). (blocks_after d.endings (blocks_with r.value_block (plain_processes s))).processes) none);
        }

-- a resource that is granted from and then warned is served
pub served : (res : ℕ) (old s new : Records) → HasGranted res old s → IfSome (resource_at res s.resources) (λ r. IsWarned res r s new) → IsServed res old new
unfolding blocks_after_service warnings
served res old s new first warned =
    let found : resource_at res s.resources ≡ Some first.left = found_left res first.had first.left old s first.replaced in
    let then : IsWarned res first.left s new = subst (λ o. IfSome o (λ r. IsWarned res r s new)) found warned in
    record {
      had = first.had;
      left = then.left;
      replaced = record {
        was = first.replaced.was;
        same = then.replaced.same ∙ first.replaced.same;
        resources =
            then.replaced.resources ∙ ap (on_resource res (λ r. then.left)) first.replaced.resources
            ∙ on_resource-put res first.left (λ r. then.left) old.resources (left_at res first.had first.left old s first.replaced);
        processes = then.replaced.processes ∙ first.replaced.processes;
      };
      stay = stay_twice first.had first.left then.left first.stay then.stay;
      none_join = stay_twice then.left first.left first.had then.none_join first.none_join;
      resource = then.resource ∙ ap resource_after_warning first.resource;
      statuses =
          then.statuses
          ∙ ap (λ r. processes_after_asts (warnings r) (plain_processes s)) first.resource
          ∙ ap (processes_after_asts (warnings (service (plain_resource first.had)).resource)) first.statuses;
    }

-- it is there still
pub served_there : (res : ℕ) (s new : Records) → HasResource res s → IfSome (resource_at res s.resources) (λ r. IsWarned res r s new) → HasResource res new
served_there res s new there warned = of_found (resource_at res s.resources) refl there warned
  where
    of_found : (o : Option StoredResource) → resource_at res s.resources ≡ o → IsSome o → IfSome o (λ r. IsWarned res r s new) → HasResource res new
    of_found None found none warned = cc
    of_found (Some r) found some then = subst IsSome (sym (found_left res r then.left s new then.replaced)) refl
