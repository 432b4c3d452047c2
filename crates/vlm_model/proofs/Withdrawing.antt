-- What withdrawals keep of a resource.
use Rattle.std.proofs.Common.{ℕ, Bool, true, false, List, [], ◌∷◌}
use Rattle.std.specs.Prelude.{⊤}
use Rattle.std.specs.List.{AllByRecursion, flat_map}
use Rattle.vlm_words.specs.declared.steps.Dequeue.{Dequeue}
use Rattle.vlm_words.specs.Flags.{cancel, has_flag}
use Rattle.vlm_model.specs.Endings.{Ending}
use Rattle.vlm_model.specs.Laws.{IsGrant}
use Rattle.vlm_model.specs.OwnLocks.{own_lkids}
use Rattle.vlm_model.specs.Dequeue.{conversion_ending, dequeued_lkids, withdrawal_of, withdrawals_of}
use Rattle.vlm_model.specs.Rundown.{rundown_of, rundowns}
use Rattle.vlm_words.specs.State.{Resource, State}
use Rattle.vlm_model.specs.Withdrawals.{Withdrawal, resource_after_each, resource_after_going}
use Rattle.vlm_model.specs.Withdrawals.{resource_after_withdrawals, resource_after_writer, withdrawal_endings}
use Rattle.vlm_model.specs.Withdrawals.{withdrawn_endings}
use Rattle.vlm_model.proofs.Each.{each_append, each_map, each_so}

-- what each change keeps, all keep
kept_by_each : (P : Resource → Type 0) (change : Withdrawal → Resource → Resource) → ((w : Withdrawal) (r : Resource) → P r → P (change w r))
    → (withdrawals : List Withdrawal) (r : Resource) → P r → P (resource_after_each change withdrawals r)
kept_by_each P change kept [] r holds = holds
kept_by_each P change kept (w ∷ withdrawals) r holds = kept_by_each P change kept withdrawals (change w r) (kept w r holds)

-- what holds still as a lock leaves something in the value block, and as it goes or stays, holds after withdrawals
pub kept_withdrawn : (P : Resource → Type 0) → ((w : Withdrawal) (r : Resource) → P r → P (resource_after_writer w r))
    → ((w : Withdrawal) (r : Resource) → P r → P (resource_after_going w r))
    → (withdrawals : List Withdrawal) (r : Resource) → P r → P (resource_after_withdrawals withdrawals r)
kept_withdrawn P leaves goes withdrawals r holds =
    kept_by_each P resource_after_going goes withdrawals (resource_after_each resource_after_writer withdrawals r)
    (kept_by_each P resource_after_writer leaves withdrawals r holds)

-- what holds of the ends of each withdrawal holds of all
pub each_end : (P : Ending → Type 0) (withdrawals : List Withdrawal) (resources : List Resource)
    → AllByRecursion (λ w. AllByRecursion P (flat_map (withdrawal_endings w) resources)) withdrawals
    → AllByRecursion P (withdrawn_endings withdrawals resources)
each_end P [] resources each = tt
each_end P (w ∷ withdrawals) resources each =
    each_append P (flat_map (withdrawal_endings w) resources) (withdrawn_endings withdrawals resources) each.0 (each_end P withdrawals resources each.1)

-- the withdrawal grants nothing
abbrev pub GrantsNothing : Withdrawal → Type 0
GrantsNothing w = (IsGrant w.converting → ⊥) × (IsGrant w.waiting → ⊥)

-- as none of a dequeue does
pub dequeues_grant_nothing : (s : State) (d : Dequeue) → AllByRecursion GrantsNothing (withdrawals_of s d)
dequeues_grant_nothing s d =
    each_map (λ lkid. ⊤) GrantsNothing (withdrawal_of d) (λ lkid _. (of_cancel (has_flag d.flags cancel), λ grant. grant)) (dequeued_lkids s d)
    (each_so (λ lkid. ⊤) (λ lkid. tt) (dequeued_lkids s d))
  where
    of_cancel : (cancels : Bool) → IsGrant (conversion_ending cancels) → ⊥
    of_cancel true grant = grant
    of_cancel false grant = grant

-- and none of a rundown
pub rundowns_grant_nothing : (is_one : ℕ → Bool) (s : State) → AllByRecursion GrantsNothing (rundowns is_one s)
rundowns_grant_nothing is_one s =
    each_map (λ lkid. ⊤) GrantsNothing rundown_of (λ lkid _. (λ grant. grant, λ grant. grant)) (own_lkids is_one s)
    (each_so (λ lkid. ⊤) (λ lkid. tt) (own_lkids is_one s))
