use Rattle.std.proofs.Common.{◌≡◌, ◌≢◌, ◌∙◌, inl, inr, ℕ, [], ◌∷◌, refl, ap}
use Rattle.std.proofs.lemmas.List.Elements.{All-contains}
use Rattle.vlm_words.specs.declared.conditions.Cond.TheVariants.{Normal}
use Rattle.vlm_words.specs.declared.steps.Answer.TheVariants.{Plain}
use Rattle.vlm_words.specs.declared.steps.Step.TheVariants.{Deq, Rundown}
use Rattle.vlm_words.specs.State.{Process}
use Rattle.vlm_model.specs.EndedProcesses.{HasEnded}
use Rattle.vlm_model.specs.Stepped.{outcome_queued}
use Rattle.vlm_model.specs.Taking.{queued_to}
use Rattle.vlm_model.proofs.ShortHistories.{queued_own}
use Rattle.vlm_model.proofs.history_consequences.an_ended_process_does_nothing.Goals as goal

-- the process is run down
ended : (pid : ℕ) → HasEnded pid (Rundown pid ∷ []) (Plain Normal ∷ [])
ended pid = inl (inl refl, refl)

pub returns-clause-run_down : goal.returns-clause-run_down
returns-clause-run_down c = λ pid last p law lives is.
    All-contains (λ (p : Process). p.pid ≢ pid) last.processes p (law.gone pid (ended pid)) lives is

pub returns-clause-changes : goal.returns-clause-changes
returns-clause-changes c = λ d last new answer law outcome changes.
    elim (law.refused d.pid (ended d.pid) (Deq d) refl new answer outcome) [
      | inl refusal ↦ changes refusal.state
      | inr refusal ↦ changes refusal.state
    ]

pub returns-clause-accepted : goal.returns-clause-accepted
returns-clause-accepted c = λ d last new law outcome.
    elim (law.refused d.pid (ended d.pid) (Deq d) refl new (Plain Normal) outcome) [
      | inl refusal ↦ let told = refusal.answered in cc
      | inr refusal ↦ let told = refusal.answered in cc
    ]

pub returns-clause-takes : goal.returns-clause-takes
returns-clause-takes c = λ pid ast last new law outcome. law.untaken pid (ended pid) ast new outcome

pub returns-clause-queued : goal.returns-clause-queued
returns-clause-queued c = λ q last new step answer outcome law queued.
    let none : queued_to q.pid (outcome_queued outcome) ≡ [] = law.none_queued q.pid (ended q.pid) step new answer outcome in
    let one : queued_to q.pid (outcome_queued outcome) ≡ q.ast ∷ [] = ap (queued_to q.pid) queued ∙ queued_own q in
    cc
