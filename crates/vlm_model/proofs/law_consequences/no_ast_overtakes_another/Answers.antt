use Rattle.std.proofs.Common.{None, ◌≡◌, ◌∙◌, ℕ, Bool, List, [], ◌∷◌, ◌++◌, Some, inl, inr, ap, subst, refl}
use Rattle.std.proofs.lemmas.Bool.{eq-eqb}
use Rattle.std.proofs.lemmas.List.{append-nil}
use Rattle.std.proofs.lemmas.Bool.Decides.{eqb_tells}
use Rattle.vlm_words.specs.declared.asts.Ast.{Ast}
use Rattle.vlm_words.specs.declared.steps.Answer.{Answer}
use Rattle.vlm_words.specs.declared.steps.Answer.TheVariants.{Taken}
use Rattle.vlm_words.specs.declared.steps.Step.TheVariants.{Take}
use Rattle.vlm_model.specs.Asts.{Queued}
use Rattle.vlm_model.specs.Stepped.{stepped}
use Rattle.vlm_model.specs.Taking.{AstsAfterTake, AstsLeft, queued_to}
use Rattle.vlm_model.proofs.ShortHistories.{queued_both}
use Rattle.vlm_model.proofs.law_consequences.no_ast_overtakes_another.Goals as goal

-- a step that queues nothing leaves the ASTs that are left
left_alone : (pid : ℕ) (queued : List Queued) (left after : List Ast) → after ≡ left ++ queued_to pid queued → queued ≡ [] → after ≡ left
left_alone pid queued left after behind none =
    behind ∙ ap (λ (more : List Queued). left ++ queued_to pid more) none ∙ append-nil left

pub returns-clause-oldest : goal.returns-clause-oldest
returns-clause-oldest c = λ old pid choice before after ast oldest rest law was is answered none asts.
    let taken = law.asts pid before after was is in
    let here : AstsLeft (Take pid) (Taken (Some ast)) pid before.asts taken.left =
    subst (λ (answer : Answer). AstsLeft (Take pid) answer pid before.asts taken.left) answered taken.taken in
    let first : before.asts ≡ ast ∷ taken.left =
    subst (λ (own : Bool). AstsAfterTake own (Some ast) before.asts taken.left) (eq-eqb pid pid refl) here in
    let left : after.asts ≡ taken.left = left_alone pid (stepped old (Take pid) choice).queued taken.left after.asts taken.behind none in
    (cc, cc)

-- by the law, though the definition of the step would give it too
pub returns-clause-forgotten : goal.returns-clause-forgotten
returns-clause-forgotten c = λ old pid choice before after oldest rest law was is answered asts.
    let taken = law.asts pid before after was is in
    let here : AstsLeft (Take pid) (Taken None) pid before.asts taken.left =
    subst (λ (answer : Answer). AstsLeft (Take pid) answer pid before.asts taken.left) answered taken.taken in
    let none : before.asts ≡ [] =
    (subst (λ (own : Bool). AstsAfterTake own None before.asts taken.left) (eq-eqb pid pid refl) here).0 in
    cc

pub returns-clause-anothers : goal.returns-clause-anothers
returns-clause-anothers c = λ old pid other choice before after ast law differs was is answered none.
    let taken = law.asts pid before after was is in
    let here : AstsLeft (Take other) (Taken ast) pid before.asts taken.left =
    subst (λ (answer : Answer). AstsLeft (Take other) answer pid before.asts taken.left) answered taken.taken in
    let left : after.asts ≡ taken.left = left_alone pid (stepped old (Take other) choice).queued taken.left after.asts taken.behind none in
    elim (eqb_tells other pid) [
      | inl own ↦ absurd (differs own.1)
      | inr apart ↦
          let same : taken.left ≡ before.asts =
          subst (λ (own : Bool). AstsAfterTake own ast before.asts taken.left) apart.0 here in
          left ∙ same
    ]

pub returns-clause-behind : goal.returns-clause-behind
returns-clause-behind c = λ old d choice before after q next law was is queued one.
    let taken = law.asts q.pid before after was is in
    taken.behind ∙ ap (λ (more : List Queued). taken.left ++ queued_to q.pid more) queued
    ∙ ap (λ (more : List Ast). taken.left ++ more) (queued_both q next one)
    ∙ ap (λ (left : List Ast). left ++ q.ast ∷ next.ast ∷ []) taken.taken
