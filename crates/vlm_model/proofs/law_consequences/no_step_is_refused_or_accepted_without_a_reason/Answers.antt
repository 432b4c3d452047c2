use Rattle.std.proofs.Common.{◌≡◌, ℕ, false, ◌≢◌, inl, inr, subst}
use Rattle.vlm_words.specs.declared.conditions.Cond.TheVariants.{Nonexpr, Normal, Synch}
use Rattle.vlm_words.specs.State.{Process}
use Rattle.vlm_words.specs.declared.steps.Answer.TheVariants.{Plain}
use Rattle.vlm_words.specs.declared.steps.Step.TheVariants.{Declare, SetValue, Enq, Convert, Deq, Rundown, Leave, Search, Take}
use Rattle.vlm_words.specs.declared.steps.Step.{Step}
use Rattle.vlm_words.specs.Flags.{has_flag, syncsts}
use Rattle.vlm_model.specs.Laws.{IsGrantedAtOnce}
use Rattle.vlm_model.specs.Stepped.{stepped}
use Rattle.vlm_model.specs.Reasons.{IsAcceptance, IsAcceptedWith, DequeueBreaks}
use Rattle.vlm_model.proofs.OneLock.{all_of_none}
use Rattle.vlm_model.proofs.law_consequences.no_step_is_refused_or_accepted_without_a_reason.Goals as goal

-- NONEXPR accepts no step
no_acceptance : (step : Step) (AtOnce : Type 0) → IsAcceptance step AtOnce (Plain Nonexpr) → ⊥
no_acceptance (Declare d) AtOnce accepted = accepted
no_acceptance (SetValue v) AtOnce accepted = accepted
no_acceptance (Enq e) AtOnce accepted = accepted
no_acceptance (Convert c) AtOnce accepted = accepted
no_acceptance (Deq d) AtOnce accepted = accepted
no_acceptance (Rundown pid) AtOnce accepted = accepted
no_acceptance (Leave node) AtOnce accepted = accepted
no_acceptance (Search node) AtOnce accepted = accepted
no_acceptance (Take pid) AtOnce accepted = accepted

-- by the law, though the definition of the step would give it too
pub returns-clause-changes : goal.returns-clause-changes
returns-clause-changes c = λ old step choice law answered.
    elim law [
      | inl accepted ↦
          let at_once = IsGrantedAtOnce old.next_request (stepped old step choice).endings in
          absurd (no_acceptance step at_once (subst (IsAcceptance step at_once) answered accepted.answered))
      | inr refused ↦ (refused.unchanged, refused.none_ends)
    ]

-- SYNCH accepts no request without SYNCSTS
no_synch : (flags : ℕ) (AtOnce : Type 0) → has_flag flags syncsts ≡ false → IsAcceptedWith flags AtOnce Synch → ⊥
no_synch flags AtOnce without (inl synch) = let flagged = synch.1 in cc
no_synch flags AtOnce without (inr normal) = let is = normal.0 in cc

-- by the law, though the definition of the step would give it too
pub returns-clause-synch : goal.returns-clause-synch
returns-clause-synch c = λ old e choice lkid law answered without.
    elim law [
      | inl accepted ↦
          let at_once = IsGrantedAtOnce old.next_request (stepped old (Enq e) choice).endings in
          no_synch e.flags at_once without (subst (IsAcceptance (Enq e) at_once) answered accepted.answered)
      | inr refused ↦ let told = refused.answered in cc
    ]

pub returns-clause-nobody : goal.returns-clause-nobody
returns-clause-nobody c = λ old d choice law nobody answered.
    elim law [
      | inl accepted ↦ accepted.keeps Nonexpr (all_of_none (λ (p : Process). p.pid ≢ d.pid) old.processes nobody)
      | inr refused ↦
          let told : refused.told ≡ Normal = cc in
          subst (DequeueBreaks old d) told refused.breaks
    ]
