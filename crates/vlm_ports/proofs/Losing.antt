-- What the departure of a node is answered.
use Rattle.std.proofs.Common.{◌≡◌, ◌<◌, ◌≤◌, ◌⊎◌, ℕ, Bool, true, false, not, cond, Option, None, Some, inl, inr, refl, ap, ◌∙◌, arith}
use Rattle.std.proofs.lemmas.Bool.Decides.{nat_tests}
use Rattle.vlm_words.specs.declared.conditions.Cond.TheVariants.{Badparam, Departed, Normal}
use Rattle.vlm_words.specs.declared.conditions.Cond.{Cond}
use Rattle.vlm_words.specs.declared.steps.Answer.TheVariants.{Plain}
use Rattle.vlm_words.specs.declared.steps.Answer.{Answer}
use Rattle.vlm_words.specs.declared.steps.Step.TheVariants.{Leave}
use Rattle.vlm_model.specs.Checks.{has_departed}
use Rattle.vlm_model.specs.Declare.{is_node}
use Rattle.vlm_model.specs.Rundown.{leave_refusal}
use Rattle.vlm_words.specs.State.{State}
use Rattle.vlm_model.specs.Stepped.{Outcome, refused_or, step_change}

-- NORMAL, or DEPARTED
pub record IsLeft (answer : Answer) : Type 0 where
  pub cond : Cond
  pub answered : answer ≡ Plain cond
  pub which : (cond ≡ Normal) ⊎ (cond ≡ Departed)

-- the checks of a departure
pub refusal_of : (s : State) (node : ℕ) → 0 < node → node ≤ 8 → leave_refusal s node ≡ cond (has_departed s.nodes node) (Some Departed) None
unfolding leave_refusal
refusal_of s node first last =
    let is : is_node node ≡ true = grind (arith, nat_tests) in
    ap (λ (b : Bool). cond (not b) (Some Badparam) (cond (has_departed s.nodes node) (Some Departed) None)) is

pub leave_answers : (s new : State) (node : ℕ) (answer : Answer) → 0 < node → node ≤ 8 → Outcome s (Leave node) new answer → IsLeft answer
leave_answers s new node answer first last (inr short) = absurd short.may
leave_answers s new node answer first last (inl made) = by_test (has_departed s.nodes node) (refusal_of s node first last)
  where
    by_test : (b : Bool) → leave_refusal s node ≡ cond b (Some Departed) None → IsLeft answer
    by_test true is = record {
      cond = Departed;
      answered = made.answered ∙ ap (λ (told : Option Cond). (refused_or told s (step_change s (Leave node) made.choice)).answer) is;
      which = inr refl;
    }
    by_test false is = record {
      cond = Normal;
      answered = made.answered ∙ ap (λ (told : Option Cond). (refused_or told s (step_change s (Leave node) made.choice)).answer) is;
      which = inl refl;
    }

pub same_condition : (a b : Cond) → Plain a ≡ Plain b → a ≡ b
same_condition a b is = cc
