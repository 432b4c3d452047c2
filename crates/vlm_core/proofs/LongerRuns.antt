-- A run with one step more.
use Rattle.std.proofs.Common.{◌≡◌, ◌<◌, ◌+◌, ℕ, List, [], ◌∷◌, ◌++◌, length, get_or, take, refl, sym, ap, ◌∙◌, append_assoc}
use Rattle.std.proofs.lemmas.List.{append-nil, take_more}
use Rattle.vlm_words.specs.declared.steps.Answer.{Answer}
use Rattle.vlm_words.specs.declared.steps.Step.{Step}
use Rattle.vlm_model.specs.Runs.{history_after, no_history}
use Rattle.vlm_model.specs.Runs.RunFrom.{begin, next}
use Rattle.vlm_words.specs.State.{State}
use Rattle.vlm_model.specs.Stepped.{Outcome, outcome_endings, outcome_queued}
use Rattle.vlm_core.specs.Running.{MakesInOrder}

-- no step is made
pub makes-none : (first : State) (before : List Answer) → MakesInOrder first [] before before first
makes-none first before = record {
  given = [];
  legal = record { history = no_history; run = begin; taken = refl; answered = refl };
  answered = sym (append-nil before);
}

-- the next step of the list is made
pub makes-more : (first old new : State) (steps : List Step) (i : ℕ) (step : Step) (before after : List Answer) (answer : Answer)
    → MakesInOrder first (take i steps) before after old → i < length steps → step ≡ get_or steps i step → Outcome old step new answer
    → MakesInOrder first (take (i + 1) steps) before (after ++ answer ∷ []) new
makes-more first old new steps i step before after answer made within here outcome =
    let legal = made.legal in
    let more = take_more steps i step within ∙ ap (λ s. take i steps ++ s ∷ []) (sym here) in
    rw more (record {
      given = made.given ++ answer ∷ [];
      legal = record {
        history = history_after legal.history step answer (outcome_endings outcome) (outcome_queued outcome);
        run = next legal.run outcome;
        taken = ap (λ (taken : List Step). taken ++ step ∷ []) legal.taken;
        answered = ap (λ (given : List Answer). given ++ answer ∷ []) legal.answered;
      };
      answered = rw made.answered (append_assoc before made.given (answer ∷ []));
    })
