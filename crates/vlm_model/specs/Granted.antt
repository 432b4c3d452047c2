-- The law that no grant is hidden.
use Rattle.std.specs.Prelude.{◌≡◌, ◌++◌, ℕ, List, All, Any, Option, None, Some, ⊤}
use Rattle.vlm_words.specs.declared.locks.Request.{Request}
use Rattle.vlm_words.specs.State.{State}
use Rattle.vlm_model.specs.Endings.{Ending}
use Rattle.vlm_model.specs.Laws.{IsGrant}

-- the ending is the grant of this whole request to this lock of this process
pub record IsGrantTo (lkid pid : ℕ) (held : Request) (ending : Ending) : Type 0 where
  pub lock : ending.lkid ≡ lkid
  pub process : ending.pid ≡ pid
  pub whole : ending.request ≡ held
  pub grants : IsGrant ending.how

-- what the lock holds, if anything, was granted to it
abbrev pub WasGranted : List Ending → ℕ → ℕ → Option Request → Type 0
WasGranted endings lkid pid None = ⊤
WasGranted endings lkid pid (Some held) = Any (IsGrantTo lkid pid held) endings

-- each lock that holds a request was granted that request
abbrev pub NoGrantIsHidden : List Ending → State → Type 0
NoGrantIsHidden endings s =
    All (λ r. All (λ row. WasGranted endings row.lkid row.pid row.held) (r.granted ++ r.converting ++ r.waiting))
    s.resources
