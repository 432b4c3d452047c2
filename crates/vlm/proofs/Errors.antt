-- The errors that words get are known, since the command is written out.
use Rattle.std.proofs.Common.{◌≡◌, ◌∙◌, true, List, Result, ap, refl, subst}
use Rattle.clap.proofs.OnLiterals.{clap_on_literals}
use Rattle.clap.specs.Words.{App, FailsBy, Text, fault_of, is_simple_and_free}
use Rattle.clap.specs.declared.error.Error.{Error}
use Rattle.vlm.specs.Words.{program_commands, word_errors}

is_known : is_simple_and_free program_commands ≡ true
unfolding clap_on_literals
is_known = refl

-- a parse by that command fails by these errors
pub errors_known : {T : Type 0} → (app : App) (words : List Text) (r : Result T Error) → app ≡ program_commands
    → (is_simple_and_free app ≡ true → FailsBy (fault_of app words) r) → FailsBy (word_errors words) r
errors_known app words r same known =
    subst (λ a. FailsBy (fault_of a words) r) same (known (ap is_simple_and_free same ∙ is_known))
