-- Stable resources, which a sweep does not change.
use Rattle.std.specs.Prelude.{◌≡◌, false, List, [], ◌∷◌, ◌++◌, if◌then◌else◌}
use Rattle.std.specs.List.{AllByRecursion}
use Rattle.vlm_words.specs.State.{Process, Resource}
use Rattle.vlm_model.specs.Asts.{has_to_warn}
use Rattle.vlm_model.specs.Grants.{no_service, service}
use Rattle.vlm_model.specs.Sweeps.{blocks_after_service, is_vacant, processes_after_service, resource_after_service}
use Rattle.vlm_model.specs.Sweeps.{resources_after_sweep, service_asts, sweep_asts, sweep_endings}

-- nothing can be granted, nobody is to be warned, and some lock is left
pub record IsStable (r : Resource) : Type 0 where
  pub served : service r ≡ no_service r
  pub warned : has_to_warn r ≡ false
  pub occupied : is_vacant r ≡ false

-- the resource, unless no lock is left on it
abbrev pub unless_vacant : Resource → List Resource
unless_vacant r = if is_vacant r then [] else r ∷ []

-- a sweep whose first resources are stable serves and warns this resource, drops it if no lock is left, and goes on
-- as a sweep of the result; what is left of this resource is stable
pub record IsSweptNext (processes : List Process) (before : List Resource) (r : Resource)
    (after : List Resource) : Type 0 where
  pub resources :
      resources_after_sweep processes (before ++ r ∷ after)
      ≡ resources_after_sweep (blocks_after_service processes r).processes
      (before ++ (unless_vacant (resource_after_service processes r) ++ after))
  pub statuses :
      processes_after_service processes (before ++ r ∷ after)
      ≡ processes_after_service (blocks_after_service processes r).processes
      (before ++ (unless_vacant (resource_after_service processes r) ++ after))
  pub ends :
      sweep_endings (before ++ r ∷ after)
      ≡ (service r).endings ++ sweep_endings (before ++ (unless_vacant (resource_after_service processes r) ++ after))
  pub asts :
      sweep_asts (before ++ r ∷ after)
      ≡ service_asts r ++ sweep_asts (before ++ (unless_vacant (resource_after_service processes r) ++ after))
  pub stable : AllByRecursion IsStable (unless_vacant (resource_after_service processes r))

-- a sweep changes nothing on these resources
pub record IsUnswept (processes : List Process) (all : List Resource) : Type 0 where
  pub resources : resources_after_sweep processes all ≡ all
  pub statuses : processes_after_service processes all ≡ processes
  pub none_ends : sweep_endings all ≡ []
  pub none_queued : sweep_asts all ≡ []
