-- The history of a run with one step more, and the history of a refused step.
use Rattle.std.proofs.Common.{◌≡◌, ◌+◌, ◌⊎◌, ℕ, List, [], ◌∷◌, ◌++◌, length, Option, Some, inl, inr, refl, sym, ap, ◌∙◌, arith}
use Rattle.std.proofs.lemmas.List.{length-append}
use Rattle.vlm_words.specs.declared.conditions.Cond.{Cond}
use Rattle.vlm_words.specs.declared.steps.Answer.{Answer}
use Rattle.vlm_words.specs.declared.steps.Step.{Step}
use Rattle.vlm_words.specs.State.{State}
use Rattle.vlm_model.specs.Stepped.{Outcome, Stepped, refused, refused_or, step_change, step_refusal, stepped}
use Rattle.vlm_model.specs.Runs.{History, Run, begin, next}
use Rattle.vlm_model.specs.Happened.{HasHappened, IsRefusal}

-- after every run each step has its answer
pub all_answered : (history : History) (last : State) → Run history last → length history.answers ≡ length history.steps
all_answered _ _ begin = refl
all_answered _ last (next {history} {old} {new} {step} {answer} run outcome) =
    length-append history.answers (answer ∷ []) ∙ ap (λ (n : ℕ). n + 1) (all_answered history old run)
    ∙ sym (length-append history.steps (step ∷ []))

-- what has happened among the steps has happened among more of them
pub happened_before : (P : Step → Answer → Type 0) (steps : List Step) (answers : List Answer) (step : Step) (answer : Answer)
    → HasHappened P steps answers → HasHappened P (steps ++ step ∷ []) (answers ++ answer ∷ [])
happened_before P [] answers step answer happened = absurd happened
happened_before P (x ∷ steps) [] step answer happened = absurd happened
happened_before P (x ∷ steps) (a ∷ answers) step answer (inl here) = inl here
happened_before P (x ∷ steps) (a ∷ answers) step answer (inr there) = inr (happened_before P steps answers step answer there)

-- and so has the last of them
pub happened_now : (P : Step → Answer → Type 0) (steps : List Step) (answers : List Answer) (step : Step) (answer : Answer)
    → length answers ≡ length steps → P step answer → HasHappened P (steps ++ step ∷ []) (answers ++ answer ∷ [])
happened_now P [] [] step answer long is = inl is
happened_now P [] (a ∷ answers) step answer long is = absurd (omega (arith, long))
happened_now P (x ∷ steps) [] step answer long is = absurd (omega (arith, long))
happened_now P (x ∷ steps) (a ∷ answers) step answer long is = inr (happened_now P steps answers step answer (omega (arith, long)) is)

-- what has happened among all of them has happened before, or it is the last
pub happened_either : (P : Step → Answer → Type 0) (steps : List Step) (answers : List Answer) (step : Step) (answer : Answer)
    → length answers ≡ length steps → HasHappened P (steps ++ step ∷ []) (answers ++ answer ∷ [])
    → HasHappened P steps answers ⊎ P step answer
happened_either P [] [] step answer long (inl is) = inr is
happened_either P [] [] step answer long (inr none) = absurd none
happened_either P [] (a ∷ answers) step answer long happened = absurd (omega (arith, long))
happened_either P (x ∷ steps) [] step answer long happened = absurd (omega (arith, long))
happened_either P (x ∷ steps) (a ∷ answers) step answer long (inl here) = inl (inl here)
happened_either P (x ∷ steps) (a ∷ answers) step answer long (inr there) =
    elim (happened_either P steps answers step answer (omega (arith, long)) there) [
      | inl before ↦ inl (inr before)
      | inr last ↦ inr last
    ]

-- of two ways in which it may have happened it has in one
pub happened_so : (P Q R : Step → Answer → Type 0) → ((step : Step) (answer : Answer) → P step answer → Q step answer ⊎ R step answer)
    → (steps : List Step) (answers : List Answer) → HasHappened P steps answers → HasHappened Q steps answers ⊎ HasHappened R steps answers
happened_so P Q R either [] answers happened = absurd happened
happened_so P Q R either (x ∷ steps) [] happened = absurd happened
happened_so P Q R either (x ∷ steps) (a ∷ answers) (inl here) =
    elim (either x a here) [
      | inl one ↦ inl (inl one)
      | inr other ↦ inr (inl other)
    ]
happened_so P Q R either (x ∷ steps) (a ∷ answers) (inr there) =
    elim (happened_so P Q R either steps answers there) [
      | inl one ↦ inl (inr one)
      | inr other ↦ inr (inr other)
    ]

-- an outcome that the checks refuse
pub refused_outcome : (refusal : Cond) (s t : State) (step : Step) (answer : Answer) → step_refusal s step ≡ Some refusal
    → (outcome : Outcome s step t answer) → IsRefusal refusal s step t answer outcome
refused_outcome refusal s t step answer is (inl made) =
    let so : stepped s step made.choice ≡ refused s refusal =
    ap (λ (told : Option Cond). refused_or told s (step_change s step made.choice)) is in
    record {
      answered = made.answered ∙ ap (λ (x : Stepped). x.answer) so;
      state = made.state ∙ ap (λ (x : Stepped). x.state) so;
      none_ends = ap (λ (x : Stepped). x.endings) so;
      none_queued = ap (λ (x : Stepped). x.queued) so;
    }
refused_outcome refusal s t step answer is (inr short) = let accepted = short.accepted in cc
