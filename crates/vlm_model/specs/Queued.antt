-- The law that no request with NOQUEUE is queued.
use Rattle.std.specs.Prelude.{◌≡◌, ◌++◌, false, All, Option, None, Some, ⊤}
use Rattle.vlm_words.specs.declared.locks.Request.{Request}
use Rattle.vlm_words.specs.Flags.{flag_bits, has_flag, noqueue}
use Rattle.vlm_words.specs.State.{State}

-- the request does not have NOQUEUE
abbrev pub MayWait : Option Request → Type 0
MayWait None = ⊤
MayWait (Some request) = has_flag (flag_bits request.flags) noqueue ≡ false

-- no queued request has NOQUEUE
abbrev pub NoqueueIsKept : State → Type 0
NoqueueIsKept s = All (λ r. All (λ row. MayWait row.want) (r.converting ++ r.waiting)) s.resources
