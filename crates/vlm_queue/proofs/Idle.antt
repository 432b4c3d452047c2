-- A resource on which no lock stands.
use Rattle.std.proofs.Common.{◌≡◌, ℕ, Bool, true, false, List, [], ◌∷◌, Option, None, Some, IfSome, IsSome, refl, sym, ap, ◌∙◌}
use Rattle.std.specs.Option.{option_map_or}
use Rattle.vlm_words.specs.declared.resources.Queue.{Queue}
use Rattle.vlm_words.specs.declared.resources.Queue.TheVariants.{Granted, Conversion, Waiting}
use Rattle.vlm_words.specs.Rows.{is_empty}
use Rattle.vlm_store.specs.Records.{HasResource, IsIdle, Records, StoredLock, StoredResource, queued, resource_at, rows_of_locks}

-- whether no lock stands in the queue, as it is told
abbrev pub IsTold : ℕ → Records → Queue → Bool → Type 0
IsTold res s queue empty = IfSome (resource_at res s.resources) (λ r. empty ≡ is_empty (rows_of_locks (queued queue r)))

-- no lock stands in a queue that shows none
pub none_shown : (locks : List StoredLock) → is_empty (rows_of_locks locks) ≡ true → locks ≡ []
none_shown [] none = refl
none_shown (k ∷ rest) none = cc

-- a queue that is told to be empty has no locks
empty_told : (queue : Queue) (o : Option StoredResource)
    → IfSome o (λ r. true ≡ is_empty (rows_of_locks (queued queue r))) → option_map_or (queued queue) o [] ≡ []
empty_told queue None told = refl
empty_told queue (Some r) told = none_shown (queued queue r) (sym told)

-- a resource whose three queues are told to be empty is idle
pub idle_told : (res : ℕ) (s : Records) → IsTold res s Granted true → IsTold res s Conversion true → IsTold res s Waiting true → IsIdle res s
idle_told res s granted converting waiting Granted = empty_told Granted (resource_at res s.resources) granted
idle_told res s granted converting waiting Conversion = empty_told Conversion (resource_at res s.resources) converting
idle_told res s granted converting waiting Waiting = empty_told Waiting (resource_at res s.resources) waiting

-- and one with a queue that is told to have a lock is not
pub busy_told : (res : ℕ) (s : Records) (queue : Queue) → HasResource res s → IsTold res s queue false → IsIdle res s → ⊥
busy_told res s queue there told idle = of_found (resource_at res s.resources) there told (idle queue)
  where
    of_found : (o : Option StoredResource) → IsSome o
        → IfSome o (λ r. false ≡ is_empty (rows_of_locks (queued queue r))) → option_map_or (queued queue) o [] ≡ [] → ⊥
    of_found None there told empty = cc
    of_found (Some r) there told empty = let no : false ≡ true = told ∙ ap (λ locks. is_empty (rows_of_locks locks)) empty in cc
