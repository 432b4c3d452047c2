-- A sweep with nothing to do changes nothing. A step that touches one resource leaves nothing to sweep on the others.
use Rattle.std.proofs.Common.{◌≡◌, ℕ, List, [], ◌∷◌, map, sym, ap, ◌∙◌, subst, inl, inr}
use Rattle.std.specs.List.{AllByRecursion}
use Rattle.vlm_model.specs.Stable.{IsStable}
use Rattle.vlm_words.specs.State.{State}
use Rattle.vlm_model.specs.Sweeps.{resources_after_sweep, state_after_sweep}
use Rattle.vlm_model.proofs.Stable as sweeps
use Rattle.vlm_collections.specs.Lists.{IsIn}
use Rattle.vlm_store.specs.Plain.{plain_resource, plain_resources}
use Rattle.vlm_store.specs.Records.{Records, StoredResource}
use Rattle.vlm_locks.specs.Rest.{OthersStay}
use Rattle.vlm_locks.specs.Sweeping.{AreStableBut}
use Rattle.vlm_locks.proofs.RunsDown.{of_others, other_resource}

-- what is stable together is stable one by one
pub stable_one : (rs : List StoredResource) → AllByRecursion IsStable (map plain_resource rs) → (r : StoredResource) → IsIn r rs → IsStable (plain_resource r)
stable_one [] stable r among = absurd among
stable_one (x ∷ rs) stable r among =
    elim among [
      | inl here ↦ subst (λ (y : StoredResource). IsStable (plain_resource y)) here stable.0
      | inr there ↦ stable_one rs stable.1 r there
    ]

-- after a change of one resource the others are stable still
pub stable_but : (old new : Records) (res : ℕ) → AllByRecursion IsStable (plain_resources old) → OthersStay res old new → AreStableBut (res ∷ []) new.resources
stable_but old new res stable others r among untouched =
    stable_one old.resources stable r
    (of_others res r old.resources
    (subst (IsIn r) others (other_resource res r new.resources (λ same. untouched (inl (sym same))) among)))

-- where nothing is to be swept a sweep changes nothing
pub unswept : (s : State) → AllByRecursion IsStable s.resources → state_after_sweep s ≡ s
unswept s stable =
    let none = sweeps.unswept s.processes s.resources stable in
    ap (λ ps. record s { processes = ps; resources = resources_after_sweep s.processes s.resources }) none.statuses
    ∙ ap (λ rs. record s { resources = rs }) none.resources
