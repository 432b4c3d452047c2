-- The law that roots of the system are privileged.
use Rattle.std.specs.Prelude.{◌≡◌, ◌⊎◌, true, All, Any, Option, Some}
use Rattle.vlm_words.specs.declared.locks.LockState.{LockState}
use Rattle.vlm_words.specs.declared.resources.Domain.TheVariants.{System}
use Rattle.vlm_words.specs.declared.steps.NewRequest.{NewRequest}
use Rattle.vlm_words.specs.declared.steps.Step.TheVariants.{Enq}
use Rattle.vlm_words.specs.declared.steps.Step.{Step}
use Rattle.vlm_words.specs.Flags.{has_flag, system}
use Rattle.vlm_words.specs.State.{Process, Resource, State, process_of}
use Rattle.vlm_model.specs.Stepped.{stepped}

-- the resource is a root in the system's domain
pub record IsSystemRoot (r : Resource) : Type 0 where
  pub parent : r.parent ≡ 0
  pub domain : r.domain ≡ System

-- the resource was such a root before
abbrev pub WasSystemRoot : State → Resource → Type 0
WasSystemRoot s r = Any (λ before. IsSystemRoot before × (before.serial ≡ r.serial)) s.resources

-- the request has SYSTEM, and its caller has the privilege SYSLCK
pub record IsPrivileged (s : State) (e : NewRequest) : Type 0 where
  pub flagged : has_flag e.flags system ≡ true
  pub caller : Process
  pub lives : process_of s.processes e.pid ≡ Some caller
  pub syslck : caller.syslck ≡ true

-- the step is such a request
abbrev pub IsPrivilegedStep : State → Step → Type 0
IsPrivilegedStep s (Enq e) = IsPrivileged s e
IsPrivilegedStep s step = ⊥

-- a root in the system's domain existed before the step, or the step is privileged
abbrev pub SystemRootsArePrivileged : State → Step → Option LockState → Type 0
SystemRootsArePrivileged old step choice =
    All (λ r. IsSystemRoot r → WasSystemRoot old r ⊎ IsPrivilegedStep old step)
    (stepped old step choice).state.resources
