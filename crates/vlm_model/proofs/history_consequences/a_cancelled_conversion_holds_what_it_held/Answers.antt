use Rattle.std.proofs.Common.{◌≡◌, ◌∙◌, ℕ, List, [], ◌∷◌, ◌++◌, Option, None, Some, ap, subst, refl}
use Rattle.vlm_words.specs.declared.locks.LockState.{LockState}
use Rattle.vlm_words.specs.declared.steps.Dequeue.{Dequeue}
use Rattle.vlm_words.specs.declared.steps.Step.TheVariants.{Deq, Search}
use Rattle.vlm_words.specs.declared.steps.Which.TheVariants.{Id}
use Rattle.vlm_words.specs.State.{Resource, State}
use Rattle.vlm_model.specs.Checks.{named_lkid}
use Rattle.vlm_model.specs.Consequences.{ConvertsAlone, IsHeldAlone, changed}
use Rattle.vlm_model.specs.TakenAlone.{CancelsItsRequest, LosesThisRequest}
use Rattle.vlm_model.proofs.OneLock.{gives_no_other, gives_none, gives_one, loses_none, loses_one, one_gone, one_kept, zip_of_one}
use Rattle.vlm_model.proofs.history_consequences.a_cancelled_conversion_holds_what_it_held.Goals as goal

-- what the law says of the one resource
of_one : (s : State) (d : Dequeue) (choice : Option LockState) (r after : Resource) (lkid : ℕ) → CancelsItsRequest s d choice
    → s.resources ≡ r ∷ [] → changed s (Deq d) choice ≡ after ∷ [] → d.lock ≡ Id lkid → LosesThisRequest lkid r after
of_one s d choice r after lkid law first second named =
    let its : named_lkid s d.pid d.lock ≡ lkid = ap (named_lkid s d.pid) named in
    subst (λ (lock : ℕ). LosesThisRequest lock r after) its
    (zip_of_one (LosesThisRequest (named_lkid s d.pid d.lock)) s.resources (changed s (Deq d) choice) r after first second law.lock)

-- the one lock converts no more, and is granted as it held
ends : (lkid : ℕ) (row : LockState) (r after : Resource) → LosesThisRequest lkid r after → ConvertsAlone row r → row.lkid ≡ lkid
    → IsHeldAlone (record row { want = None }) after
ends lkid row r after law alone is =
    let given : law.given ≡ record row { want = None } ∷ [] = gives_one alone.converting is law.as_held in
    let before : r.granted ≡ [] = alone.granted in
    record {
      granted = law.granted ∙ ap (λ (rows : List LockState). rows ++ law.given) before ∙ given;
      converting = one_gone lkid row after.converting (loses_one alone.converting law.converting) is;
      waiting = loses_none alone.waiting law.waiting;
    }

pub returns-clause-conversion : goal.returns-clause-conversion
returns-clause-conversion c = λ s d choice r after row lkid law first second named alone is.
    ends lkid row r after (of_one s d choice r after lkid law first second named) alone is

pub returns-clause-waiting : goal.returns-clause-waiting
returns-clause-waiting c = λ s d choice r after row lkid law first second named alone is.
    let loses : LosesThisRequest lkid r after = of_one s d choice r after lkid law first second named in
    let before : r.granted ≡ [] = alone.granted in
    record {
      granted = loses.granted ∙ ap (λ (rows : List LockState). rows ++ loses.given) before ∙ gives_none alone.converting loses.as_held;
      converting = loses_none alone.converting loses.converting;
      waiting = one_gone lkid row after.waiting (loses_one alone.waiting loses.waiting) is;
    }

pub returns-clause-other : goal.returns-clause-other
returns-clause-other c = λ s d choice r after row lkid law first second named alone differs.
    let loses : LosesThisRequest lkid r after = of_one s d choice r after lkid law first second named in
    let before : r.granted ≡ [] = alone.granted in
    record {
      granted = loses.granted ∙ ap (λ (rows : List LockState). rows ++ loses.given) before
          ∙ gives_no_other alone.converting differs loses.as_held;
      converting = one_kept lkid row after.converting (loses_one alone.converting loses.converting) differs;
      waiting = loses_none alone.waiting loses.waiting;
    }

pub returns-clause-victim : goal.returns-clause-victim
returns-clause-victim c = λ s node victim r after law first second alone.
    ends victim.lkid victim r after
    (zip_of_one (LosesThisRequest victim.lkid) s.resources (changed s (Search node) (Some victim)) r after first second law.lock)
    alone refl
