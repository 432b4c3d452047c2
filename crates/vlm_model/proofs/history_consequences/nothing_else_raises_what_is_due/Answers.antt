use Rattle.std.proofs.Common.{◌≡◌, ap, arith}
use Rattle.vlm_words.specs.declared.steps.Step.TheVariants.{Enq}
use Rattle.vlm_model.specs.Raising.{routines_asked}
use Rattle.vlm_model.specs.Stepped.{stepped}
use Rattle.vlm_model.proofs.history_consequences.nothing_else_raises_what_is_due.Goals as goal

-- by the law, though the definition of the step would give it too
pub returns-clause-refused : goal.returns-clause-refused
returns-clause-refused c = λ old e choice pid cond before after law refused was is more.
    let none : routines_asked pid (Enq e) (stepped old (Enq e) choice).answer ≡ 0 = ap (routines_asked pid (Enq e)) refused in
    omega (arith, law.room pid before after was is)
