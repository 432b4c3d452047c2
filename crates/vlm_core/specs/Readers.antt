-- What the readers look for.
use Rattle.std.specs.Prelude.{◌≡◌, ◌==◌, ◌<◌, ◌≤◌, ◌+◌, length, sum_by, ℕ, Bool, if◌then◌else◌, List, [], ◌∷◌, find, Option, None, Some}
use Rattle.vlm_model.specs.Pending.{first_pending}
use Rattle.vlm_words.specs.declared.resources.Domain.{Domain}
use Rattle.vlm_words.specs.declared.resources.Key.{Key}
use Rattle.vlm_words.specs.declared.resources.Key.TheVariants.{Below, Root}
use Rattle.vlm_words.specs.Resources.{is_at}
use Rattle.vlm_words.specs.State.{Process, Resource}

-- the root of this name in this domain, if there is one
abbrev pub root_of : List Resource → Domain → List ℕ → Option Resource
root_of resources domain name = find (is_at (Root domain name)) resources

-- no process of a node below this one has an AST pending
abbrev pub NonePendingBelow : ℕ → List Process → Type 0
NonePendingBelow bound processes = (node : ℕ) → 1 ≤ node → node < bound → first_pending node processes ≡ None

-- of the first node that has a process with an AST pending, it is the first such process
pub record IsFirstPending (pid : ℕ) (processes : List Process) : Type 0 where
  pub node : ℕ
  pub within : 1 ≤ node
  pub first : first_pending node processes ≡ Some pid
  pub none_before : NonePendingBelow node processes

-- the elements after the first one that passes; nothing if none passes
abbrev pub after_first : {X : Type 0} → (X → Bool) → List X → Option (List X)
after_first passes [] = None
after_first passes (x ∷ rest) = if passes x then Some rest else after_first passes rest

-- the process has this ID
abbrev pub has_pid : ℕ → Process → Bool
has_pid pid p = p.pid == pid

-- the key of a resource below its parent resource, or with parent 0 the key of a root
abbrev pub key_of : ℕ → Domain → List ℕ → Key
key_of parent domain name = if parent == 0 then Root domain name else Below parent name

-- how many locks there are, in all queues
abbrev pub all_locks : List Resource → ℕ
all_locks resources = sum_by (λ r. length r.granted + length r.converting + length r.waiting) resources

-- how many requests are queued: conversions and waiting locks
abbrev pub all_queued : List Resource → ℕ
all_queued resources = sum_by (λ r. length r.converting + length r.waiting) resources
