-- Writing the status block of an accepted request changes no precondition and no result of its lock's change.
use Rattle.std.proofs.Common.{◌≡◌, List, map, Option, None, Some, IfSome, ap, ◌∙◌, subst}
use Rattle.vlm_words.specs.declared.locks.Request.{Request}
use Rattle.vlm_words.specs.declared.resources.ValueBlock.{ValueBlock}
use Rattle.vlm_model.specs.Convert.{conversion_blocks, resource_after_conversion}
use Rattle.vlm_words.specs.State.{Resource}
use Rattle.vlm_store.specs.Plain.{plain_resource, plain_resources}
use Rattle.vlm_store.specs.Records.{Records, SameButNotices, StoredResource, resource_at}
use Rattle.vlm_locks.specs.declared.located_locks.LocatedLock.{LocatedLock}
use Rattle.vlm_locks.specs.Converting.{IsConverted, admission_on, processes_converting}
use Rattle.vlm_locks.specs.Standing.{IsLocated}
use Rattle.vlm_locks.proofs.FoundByHandle.{process_still}
use Rattle.vlm_locks.proofs.SoundRecords.{still_sound}

-- the lock stands where it stood
pub stands_accepted : (f : LocatedLock) (s t : Records) → SameButNotices s t → IsLocated f s → IsLocated f t
stands_accepted f s t same located = record {
  resource = located.resource;
  found = ap (resource_at f.res) same.resources ∙ located.found;
  among = located.among;
  owner = process_still s t f.owner f.row.pid same located.owner;
  sound = still_sound s t same located.sound;
}

-- what a conversion makes of resources
abbrev made : LocatedLock → Request → StoredResource → ValueBlock → List Resource → List Resource
made f asked r block rs = map (resource_after_conversion asked (admission_on f asked r).at_once f.row.pid f.row.lkid block) rs

-- its conversion
pub converted_accepted : (f : LocatedLock) (asked : Request) (s t new : Records) → SameButNotices s t
    → processes_converting f asked t ≡ processes_converting f asked s
    → IfSome (resource_at f.res t.resources) (λ r. IsConverted f asked (processes_converting f asked t) r t new)
    → IfSome (resource_at f.res s.resources) (λ r. IsConverted f asked (processes_converting f asked s) r s new)
converted_accepted f asked s t new same accepted converted =
    of_found (resource_at f.res s.resources)
    (subst (λ rs. IfSome (resource_at f.res rs)
    (λ r. IsConverted f asked (processes_converting f asked t) r t new)) same.resources converted)
  where
    of_found : (found : Option StoredResource)
        → IfSome found (λ r. IsConverted f asked (processes_converting f asked t) r t new)
        → IfSome found (λ r. IsConverted f asked (processes_converting f asked s) r s new)
    of_found None none = tt
    of_found (Some r) done = record {
      resources =
          done.resources
          ∙ ap (λ ps. made f asked r (conversion_blocks (admission_on f asked r) ps).value_block (plain_resources t)) accepted
          ∙ ap (λ rs. made f asked r
          (conversion_blocks (admission_on f asked r) (processes_converting f asked s)).value_block
          (map plain_resource rs)) same.resources;
      statuses = done.statuses ∙ ap (λ ps. (conversion_blocks (admission_on f asked r) ps).processes) accepted;
    }
