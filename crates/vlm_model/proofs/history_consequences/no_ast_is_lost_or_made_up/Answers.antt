use Rattle.std.proofs.Common.{◌≡◌, ◌∙◌, ℕ, List, [], ◌∷◌, ◌++◌, Some, refl, ap, subst, sym, arith}
use Rattle.std.proofs.lemmas.Bool.{eq-eqb}
use Rattle.vlm_words.specs.declared.asts.Ast.{Ast}
use Rattle.vlm_words.specs.declared.steps.Answer.TheVariants.{Taken}
use Rattle.vlm_words.specs.declared.steps.Step.TheVariants.{Take}
use Rattle.vlm_model.specs.Accounting.{taken_by}
use Rattle.vlm_model.specs.Stepped.{stepped}
use Rattle.vlm_model.specs.Taking.{queued_to}
use Rattle.vlm_model.proofs.ShortHistories.{queued_own}
use Rattle.vlm_model.proofs.history_consequences.no_ast_is_lost_or_made_up.Goals as goal

-- what the one Take of a process took
taken_own : (pid : ℕ) (ast : Ast) → taken_by pid (Take pid ∷ []) (Taken (Some ast) ∷ []) ≡ ast ∷ []
taken_own pid ast = rw (eq-eqb pid pid refl)

pub returns-clause-taken : goal.returns-clause-taken
returns-clause-taken c = λ pid ast last p law lives.
    let all : [] ≡ (ast ∷ []) ++ p.asts =
    subst (λ (taken : List Ast). [] ≡ taken ++ p.asts) (taken_own pid ast) (law.living pid p lives) in
    cc

pub returns-clause-no_more : goal.returns-clause-no_more
returns-clause-no_more c = λ history q last step choice law dead chosen queued.
    let none : queued_to q.pid (stepped last step choice).queued ≡ [] = law.no_more q.pid dead step choice chosen in
    let one : queued_to q.pid (stepped last step choice).queued ≡ q.ast ∷ [] = ap (queued_to q.pid) queued ∙ queued_own q in
    cc

pub returns-clause-undeclared : goal.returns-clause-undeclared
returns-clause-undeclared c = λ q last law.
    let none : q.ast ∷ [] ≡ [] = sym (queued_own q) ∙ law.undeclared q.pid (λ k d within. absurd (omega arith)) in
    cc
