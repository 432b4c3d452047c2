-- The words `NAME play` get no error, and name the command play.
use Rattle.std.proofs.Common.{◌≡◌, ◌∙◌, List, [], ◌∷◌, Some, codes, refl, subst, sym}
use Rattle.clap.proofs.OnLiterals.{clap_on_literals}
use Rattle.clap.specs.Words.{Text}
use Rattle.vlm.specs.Words.{named_command, word_errors}

-- no error is found in these words
no_errors : (name : Text) → word_errors (name ∷ codes "play" ∷ []) ≡ []
unfolding clap_on_literals
no_errors name = refl

-- and they name that command
play_named : (name : Text) → named_command (name ∷ codes "play" ∷ []) ≡ Some (codes "play")
unfolding clap_on_literals
play_named name = refl

pub play_faultless : (name : Text) (words : List Text) → words ≡ name ∷ codes "play" ∷ [] → word_errors words ≡ []
play_faultless name words are = subst (λ w. word_errors w ≡ []) (sym are) (no_errors name)

-- so they ask for no cluster
pub play_is_no_cluster : (name : Text) (words : List Text) → words ≡ name ∷ codes "play" ∷ [] → named_command words ≡ Some (codes "cluster") → ⊥
play_is_no_cluster name words are named =
    let bad : Some (codes "play") ≡ Some (codes "cluster") = sym (play_named name) ∙ subst (λ w. named_command w ≡ Some (codes "cluster")) are named in
    cc

-- and no watch
pub play_is_no_watch : (name : Text) (words : List Text) → words ≡ name ∷ codes "play" ∷ [] → named_command words ≡ Some (codes "watch") → ⊥
play_is_no_watch name words are named =
    let bad : Some (codes "play") ≡ Some (codes "watch") = sym (play_named name) ∙ subst (λ w. named_command w ≡ Some (codes "watch")) are named in
    cc
