use Rattle.std.proofs.Common.{◌∙◌, ap, subst}
use Rattle.vlm_words.specs.declared.steps.Answer.TheVariants.{Lock, Plain}
use Rattle.vlm_words.specs.declared.steps.Step.TheVariants.{Convert, Enq}
use Rattle.vlm_model.specs.Checks.{named_lkid}
use Rattle.vlm_model.specs.Numbers.{TakesNumbers}
use Rattle.vlm_model.specs.Stepped.{stepped}
use Rattle.vlm_model.proofs.law_consequences.no_number_is_given_twice_or_skipped.Goals as goal

-- by the law, though the definition of the step would give it too
pub returns-clause-new_lock : goal.returns-clause-new_lock
returns-clause-new_lock c = λ old e choice cond lkid law answered.
    let taken : TakesNumbers old (stepped old (Enq e) choice).state (Enq e) (Lock cond lkid) =
    subst (TakesNumbers old (stepped old (Enq e) choice).state (Enq e)) answered law.requests in
    (taken.answered, taken.next_lkid, taken.next_request)

-- by the law, though the definition of the step would give it too
pub returns-clause-conversion : goal.returns-clause-conversion
returns-clause-conversion c = λ old c' choice cond lkid named law answered is.
    let taken : TakesNumbers old (stepped old (Convert c') choice).state (Convert c') (Lock cond lkid) =
    subst (TakesNumbers old (stepped old (Convert c') choice).state (Convert c')) answered law.requests in
    (taken.answered ∙ ap (named_lkid old c'.pid) is, taken.next_lkid, taken.next_request)

-- by the law, though the definition of the step would give it too
pub returns-clause-refused : goal.returns-clause-refused
returns-clause-refused c = λ old e choice cond law refused.
    let taken : TakesNumbers old (stepped old (Enq e) choice).state (Enq e) (Plain cond) =
    subst (TakesNumbers old (stepped old (Enq e) choice).state (Enq e)) refused law.requests in
    (taken.next_lkid, taken.next_request)
