-- The sweep that ends a step.
use Rattle.std.specs.Prelude.{Bool, not, ◌&&◌, List, [], ◌∷◌, ◌++◌, filter, flat_map}
use Rattle.vlm_words.specs.declared.resources.ValueBlock.{ValueBlock}
use Rattle.vlm_words.specs.State.{Process, Resource, State}
use Rattle.vlm_model.specs.Endings.{Ending}
use Rattle.vlm_model.specs.Asts.{Queued, completions_of, resource_after_warning, warnings}
use Rattle.vlm_model.specs.Effects.{Blocks, blocks_after, blocks_after_asts, blocks_with, with_value_block}
use Rattle.vlm_words.specs.Rows.{is_empty}
use Rattle.vlm_model.specs.Grants.{service}

-- the value block and the processes after the service of a resource: first its grants with their completions, then
-- its warnings
unfoldable pub blocks_after_service : List Process → Resource → Blocks
blocks_after_service processes r =
    blocks_after_asts (warnings (service r).resource)
    (blocks_after (service r).endings (blocks_with r.value_block processes))

-- the resource after its service and warnings, with this value block
abbrev pub served_with : ValueBlock → Resource → Resource
served_with block r = resource_after_warning (with_value_block block (service r).resource)

-- the resource after its service and warnings
abbrev pub resource_after_service : List Process → Resource → Resource
resource_after_service processes r = served_with (blocks_after_service processes r).value_block r

-- every resource is served and warned, in order
abbrev pub resources_after_service : List Process → List Resource → List Resource
resources_after_service processes [] = []
resources_after_service processes (r ∷ rest) =
    resource_after_service processes r
    ∷ resources_after_service (blocks_after_service processes r).processes rest

-- the processes after all grants and warnings
abbrev pub processes_after_service : List Process → List Resource → List Process
processes_after_service processes [] = processes
processes_after_service processes (r ∷ rest) =
    processes_after_service (blocks_after_service processes r).processes rest

-- no lock is on the resource
abbrev pub is_vacant : Resource → Bool
is_vacant r = is_empty r.granted && is_empty r.converting && is_empty r.waiting

-- the sweep: every resource is served and warned, and dropped if no lock is left
unfoldable pub resources_after_sweep : List Process → List Resource → List Resource
resources_after_sweep processes resources =
    filter (λ r. not (is_vacant r)) (resources_after_service processes resources)

-- the ASTs of one service: the completions of the grants, then the warnings
unfoldable pub service_asts : Resource → List Queued
service_asts r = completions_of (service r).endings ++ warnings (service r).resource

-- the ASTs of a sweep, resource by resource
unfoldable pub sweep_asts : List Resource → List Queued
sweep_asts resources = flat_map service_asts resources

-- the endings of a sweep, resource by resource
unfoldable pub sweep_endings : List Resource → List Ending
sweep_endings resources = flat_map (λ r. (service r).endings) resources

-- the state after the sweep
abbrev pub state_after_sweep : State → State
state_after_sweep s = record s {
  processes = processes_after_service s.processes s.resources;
  resources = resources_after_sweep s.processes s.resources;
}
