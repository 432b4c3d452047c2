-- The words `NAME watch --name=RES` get no error, and name that command with its text.
use Rattle.std.proofs.Common.{◌≡◌, ◌∙◌, ℕ, List, [], ◌∷◌, ◌++◌, Option, None, Some, ap, codes, inl, refl, subst, sym}
use Rattle.std.specs.Prelude.{option_and_then}
use Rattle.clap.proofs.OnLiterals.{clap_on_literals}
use Rattle.clap.specs.Words.{Text}
use Rattle.vlm_words.specs.declared.resources.Domain.{Domain}
use Rattle.vlm_words.specs.declared.resources.Domain.TheVariants.{System}
use Rattle.vlm.specs.Words.{AreWatchWords, name_given, named_command, named_group, named_resource, watched_name, word_errors}
use Rattle.vlm.specs.Ends.{Output, StartsWatch, WatchesOrWantsMemory}

abbrev watching : Text → Text → List Text
watching name res = name ∷ codes "watch" ∷ (codes "--name=" ++ res) ∷ []

no_errors : (name res : Text) → word_errors (watching name res) ≡ []
unfolding clap_on_literals
no_errors name res = refl

watch_named : (name res : Text) → named_command (watching name res) ≡ Some (codes "watch")
unfolding clap_on_literals
watch_named name res = refl

resource_named : (name res : Text) → named_resource (watching name res) ≡ Some res
unfolding clap_on_literals
resource_named name res = refl

no_group : (name res : Text) → named_group (watching name res) ≡ None
unfolding clap_on_literals
no_group name res = refl

pub watch_faultless : (name res : Text) (words : List Text) → AreWatchWords name res words → word_errors words ≡ []
watch_faultless name res words are = subst (λ w. word_errors w ≡ []) (sym are) (no_errors name res)

pub watch_is_named : (name res : Text) (words : List Text) → AreWatchWords name res words → named_command words ≡ Some (codes "watch")
watch_is_named name res words are = subst (λ w. named_command w ≡ Some (codes "watch")) (sym are) (watch_named name res)

-- no words name two commands
pub cluster_is_no_watch : (words : List Text) → named_command words ≡ Some (codes "cluster") → named_command words ≡ Some (codes "watch") → ⊥
cluster_is_no_watch words cluster watch =
    let bad : Some (codes "cluster") ≡ Some (codes "watch") = sym cluster ∙ watch in
    cc

-- the watch that was started is of the resource whose name the text gives, in the system's domain
pub watch_started : (words : List Text) (name res : Text) (domain : Domain) (given : Option (List ℕ))
    (script left : Option (List ℕ)) (old new : Output) (status : ℕ)
    → AreWatchWords name res words → given ≡ watched_name words → (named_group words ≡ None → domain ≡ System)
    → StartsWatch domain given script left old new status
    → WatchesOrWantsMemory (name_given res) script left old new status
watch_started words name res domain given script left old new status are is system starts =
    let named : named_resource words ≡ Some res = subst (λ w. named_resource w ≡ Some res) (sym are) (resource_named name res) in
    let ungrouped : named_group words ≡ None = subst (λ w. named_group w ≡ None) (sym are) (no_group name res) in
    inl (subst (λ n. StartsWatch System n script left old new status) (is ∙ ap (option_and_then name_given) named)
    (subst (λ d. StartsWatch d given script left old new status) (system ungrouped) starts))
