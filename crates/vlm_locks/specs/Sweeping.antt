-- The sweep of the resources that a step has touched.
use Rattle.std.specs.Prelude.{◌≡◌, ◌==◌, ⊤, ℕ, not, List, [], ◌∷◌, ◌++◌, filter, map}
use Rattle.std.specs.List.{list_any}
use Rattle.vlm_collections.specs.Lists.{IsIn}
use Rattle.vlm_model.specs.Stable.{IsStable, unless_vacant}
use Rattle.vlm_model.specs.Sweeps.{blocks_after_service, processes_after_service, resource_after_service, resources_after_sweep}
use Rattle.vlm_store.specs.Plain.{plain_processes, plain_resource, plain_resources}
use Rattle.vlm_store.specs.Records.{Records, StoredResource}
use Rattle.vlm_locks.specs.Owing.{IsPaid}
use Rattle.vlm_locks.specs.Rest.{IsAtRest, OwnLocksStay, but_service}
use Rattle.vlm_locks.specs.Staying.{LocksStayAmong}

-- the resource with this handle, and the resources made before and after it
pub record Parted (res : ℕ) (resources : List StoredResource) : Type 0 where
  pub before : List StoredResource
  pub own : StoredResource
  pub after : List StoredResource
  pub keyed : own.at ≡ res
  pub parted : resources ≡ before ++ own ∷ after

-- the touched resources are among these, in the order of making
abbrev pub StandInOrder : List ℕ → List StoredResource → Type 0
StandInOrder [] resources = ⊤
StandInOrder (res ∷ touched) resources = (here : Parted res resources) × StandInOrder touched here.after

-- only the touched resources may need a sweep
abbrev pub AreStableBut : List ℕ → List StoredResource → Type 0
AreStableBut touched resources = (r : StoredResource) → IsIn r resources → (IsIn r.at touched → ⊥)
    → IsStable (plain_resource r)

-- the resources that are not touched
abbrev pub but_touched : List ℕ → List StoredResource → List StoredResource
but_touched touched resources = filter (λ r. not (list_any (λ res. r.at == res) touched)) resources

-- one resource is swept: it is served, and goes if no lock is left on it; elsewhere only processes' notices may change
pub record IsSwept (res : ℕ) (old new : Records) (was : Parted res old.resources) : Type 0 where
  pub left : List StoredResource
  pub resources : new.resources ≡ was.before ++ (left ++ was.after)
  pub served : map plain_resource left ≡ unless_vacant (resource_after_service (plain_processes old)
      (plain_resource was.own))
  pub same : (r : StoredResource) → IsIn r left → but_service r ≡ but_service was.own
  pub stay : LocksStayAmong (was.own ∷ []) left
  pub none_join : LocksStayAmong left (was.own ∷ [])
  pub statuses : plain_processes new ≡ (blocks_after_service (plain_processes old) (plain_resource was.own)).processes
  pub processes : OwnLocksStay old new

-- the touched resources are swept, as the plain machine sweeps all
pub record HasSwept (touched : List ℕ) (old new : Records) : Type 0 where
  pub resources : plain_resources new ≡ resources_after_sweep (plain_processes old) (plain_resources old)
  pub statuses : plain_processes new ≡ processes_after_service (plain_processes old) (plain_resources old)
  pub others : but_touched touched new.resources ≡ but_touched touched old.resources
  pub locks : LocksStayAmong old.resources new.resources
  pub none_join : LocksStayAmong new.resources old.resources
  pub own_locks : OwnLocksStay old new
  pub rest : IsAtRest new
  pub paid : IsPaid new
