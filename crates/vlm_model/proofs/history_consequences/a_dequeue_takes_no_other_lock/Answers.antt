use Rattle.std.proofs.Common.{◌≡◌, ℕ, [], ◌∷◌, Option, ap, subst}
use Rattle.vlm_words.specs.declared.locks.LockState.{LockState}
use Rattle.vlm_words.specs.declared.steps.Dequeue.{Dequeue}
use Rattle.vlm_words.specs.declared.steps.Which.TheVariants.{Id}
use Rattle.vlm_words.specs.State.{Resource, State}
use Rattle.vlm_model.specs.Checks.{named_lkid}
use Rattle.vlm_model.specs.Consequences.{changed}
use Rattle.vlm_model.specs.TakenAlone.{LosesThisLock, TakesItsLock}
use Rattle.vlm_words.specs.declared.steps.Step.TheVariants.{Deq}
use Rattle.vlm_model.proofs.OneLock.{loses_one, one_gone, one_kept, zip_of_one}
use Rattle.vlm_model.proofs.history_consequences.a_dequeue_takes_no_other_lock.Goals as goal

-- what the law says of the one resource
of_one : (s : State) (d : Dequeue) (choice : Option LockState) (r after : Resource) (lkid : ℕ) → TakesItsLock s d choice
    → s.resources ≡ r ∷ [] → changed s (Deq d) choice ≡ after ∷ [] → d.lock ≡ Id lkid → LosesThisLock lkid r after
of_one s d choice r after lkid law first second named =
    let its : named_lkid s d.pid d.lock ≡ lkid = ap (named_lkid s d.pid) named in
    subst (λ (lock : ℕ). LosesThisLock lock r after) its
    (zip_of_one (LosesThisLock (named_lkid s d.pid d.lock)) s.resources (changed s (Deq d) choice) r after first second law.lock)

pub returns-clause-granted : goal.returns-clause-granted
returns-clause-granted c = λ s d choice r after row lkid law first second named one is.
    one_gone lkid row after.granted (loses_one one (of_one s d choice r after lkid law first second named).granted) is

pub returns-clause-waiting : goal.returns-clause-waiting
returns-clause-waiting c = λ s d choice r after row lkid law first second named one is.
    one_gone lkid row after.waiting (loses_one one (of_one s d choice r after lkid law first second named).waiting) is

pub returns-clause-other : goal.returns-clause-other
returns-clause-other c = λ s d choice r after row lkid law first second named one differs.
    one_kept lkid row after.converting (loses_one one (of_one s d choice r after lkid law first second named).converting) differs
