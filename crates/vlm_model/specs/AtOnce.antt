-- The law that what fits is granted at once.
use Rattle.std.specs.Prelude.{◌≡◌, ℕ, Any, Option}
use Rattle.vlm_words.specs.declared.conditions.Cond.{Cond}
use Rattle.vlm_words.specs.declared.locks.LockState.{LockState}
use Rattle.vlm_words.specs.declared.steps.Answer.TheVariants.{Lock}
use Rattle.vlm_words.specs.declared.steps.Conversion.{Conversion}
use Rattle.vlm_words.specs.declared.steps.NewRequest.{NewRequest}
use Rattle.vlm_words.specs.declared.steps.Step.TheVariants.{Convert, Enq}
use Rattle.vlm_words.specs.declared.steps.Step.{Step}
use Rattle.vlm_words.specs.State.{State}
use Rattle.vlm_model.specs.Laws.{ConvertsInTurn, EntersInTurn, IsGrantedAtOnce, Stands}
use Rattle.vlm_model.specs.Stepped.{IsChoice, stepped}

-- the step is accepted, and answers this lock
abbrev pub IsAcceptedFor : ℕ → State → Step → Option LockState → Type 0
IsAcceptedFor lkid old step choice = (cond : Cond) × ((stepped old step choice).answer ≡ Lock cond lkid)

-- the step grants its own request at once
abbrev pub GrantsAtOnce : State → Step → Option LockState → Type 0
GrantsAtOnce old step choice = IsGrantedAtOnce old.next_request (stepped old step choice).endings

-- an accepted new request that fits with nobody queued, or is expedited at NL, is granted at once; so is an accepted
-- conversion that fits, with QUECVT if no conversion is queued
pub record WhatFitsIsGrantedAtOnce (old : State) : Type 0 where
  pub requests : (e : NewRequest) (choice : Option LockState) (lkid : ℕ) → IsChoice old (Enq e) choice
      → IsAcceptedFor lkid old (Enq e) choice
      → EntersInTurn old e → GrantsAtOnce old (Enq e) choice
  pub conversions : (c : Conversion) (choice : Option LockState) (lkid : ℕ) → IsChoice old (Convert c) choice
      → IsAcceptedFor lkid old (Convert c) choice
      → Any (λ r. Stands lkid r.granted × ConvertsInTurn c lkid r) old.resources → GrantsAtOnce old (Convert c) choice
