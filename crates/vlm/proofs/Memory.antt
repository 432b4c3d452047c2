-- Words that get no error get none but want of memory.
use Rattle.std.proofs.Common.{◌≡◌, ℕ, List, [], inl, inr, refl, subst}
use Rattle.clap.specs.Words.{IsAmong, Text}
use Rattle.clap.specs.declared.error.kind.ErrorKind.{ErrorKind}
use Rattle.clap.specs.declared.error.kind.ErrorKind.TheVariants.{OutOfMemory}
use Rattle.vlm.specs.Words.{IsErrorOf, IsHelp, word_errors}
use Rattle.vlm.specs.Ends.{EndsByError, Output, WantsMemory}

-- the only error is want of memory
memory_alone : (words : List Text) (kind : ErrorKind) → word_errors words ≡ [] → IsErrorOf words kind → kind ≡ OutOfMemory
memory_alone words kind none (inl memory) = memory
memory_alone words kind none (inr among) = absurd (subst (IsAmong kind) none among)

-- want of memory is no help
no_help : IsHelp OutOfMemory → ⊥
no_help (inl e) = cc e
no_help (inr e) = cc e

-- want of memory ends as such
memory_ends : (old new : Output) (status : ℕ) → EndsByError OutOfMemory old new status → WantsMemory old new status
memory_ends old new status (inl memory) = memory
memory_ends old new status (inr (inl help)) = absurd (no_help help.0)
memory_ends old new status (inr (inr mistake)) = absurd (mistake.0 refl)

-- an error of these words ends as want of memory
pub ends_by_memory : (words : List Text) (kind : ErrorKind) (old new : Output) (status : ℕ) → word_errors words ≡ []
    → IsErrorOf words kind → EndsByError kind old new status → WantsMemory old new status
ends_by_memory words kind old new status none error ends =
    memory_ends old new status (subst (λ k. EndsByError k old new status) (memory_alone words kind none error) ends)
