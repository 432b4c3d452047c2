-- A step that no check refuses makes its change, and then a sweep.
use Rattle.std.proofs.Common.{◌≡◌, Option, None, Some, sym, ap, ◌∙◌, inl}
use Rattle.std.specs.List.{AllByRecursion}
use Rattle.vlm_words.specs.declared.conditions.Cond.{Cond}
use Rattle.vlm_words.specs.declared.locks.LockState.{LockState}
use Rattle.vlm_words.specs.declared.steps.Answer.{Answer}
use Rattle.vlm_words.specs.declared.steps.Answer.TheVariants.{Plain}
use Rattle.vlm_words.specs.declared.steps.Step.{Step}
use Rattle.vlm_model.specs.Stable.{IsStable}
use Rattle.vlm_words.specs.State.{State}
use Rattle.vlm_model.specs.Stepped.{IsChoice, Outcome, Stepped, refused_or, step_change, step_refusal, stepped, stepped_after_sweep}
use Rattle.vlm_model.specs.Sweeps.{state_after_sweep}
use Rattle.vlm_machine.proofs.NothingToSweep.{unswept}

-- the step is made, with what it chooses, where its change is swept, and its answer given
pub made_choosing : (s new : State) (step : Step) (choice : Option LockState) (answer : Answer) → IsChoice s step choice → None ≡ step_refusal s step
    → new ≡ state_after_sweep (step_change s step choice).state → answer ≡ (step_change s step choice).answer → Outcome s step new answer
made_choosing s new step choice answer chosen passed state answered =
    let made : stepped s step choice ≡ stepped_after_sweep (step_change s step choice) =
    ap (λ (refusal : Option Cond). refused_or refusal s (step_change s step choice)) (sym passed) in
    inl (record {
      choice = choice;
      chosen = chosen;
      state = state
          ∙ sym (ap (λ (t : Stepped). t.state) made);
      answered = answered ∙ sym (ap (λ (t : Stepped). t.answer) made);
    })

-- most kinds choose none
pub made_swept : (s new : State) (step : Step) (answer : Answer) → IsChoice s step None → None ≡ step_refusal s step
    → new ≡ state_after_sweep (step_change s step None).state
    → answer ≡ (step_change s step None).answer → Outcome s step new answer
made_swept s new step answer = made_choosing s new step None answer

-- a refused step changes nothing
pub made_refused : (s : State) (step : Step) (refusal : Cond) → IsChoice s step None → step_refusal s step ≡ Some refusal → Outcome s step s (Plain refusal)
made_refused s step refusal chosen refused =
    let made : stepped s step None ≡ refused_or (Some refusal) s (step_change s step None) =
    ap (λ (o : Option Cond). refused_or o s (step_change s step None)) refused in
    inl (record { choice = None; chosen = chosen; state = sym (ap (λ (t : Stepped). t.state) made); answered = sym (ap (λ (t : Stepped). t.answer) made) })

-- a change that leaves nothing to sweep is the whole step
pub made_unswept : (s new : State) (step : Step) (answer : Answer) → IsChoice s step None → None ≡ step_refusal s step
    → AllByRecursion IsStable (step_change s step None).state.resources
    → new ≡ (step_change s step None).state → answer ≡ (step_change s step None).answer → Outcome s step new answer
made_unswept s new step answer chosen passed stable state answered =
    made_swept s new step answer chosen passed (state ∙ sym (unswept (step_change s step None).state stable)) answered
