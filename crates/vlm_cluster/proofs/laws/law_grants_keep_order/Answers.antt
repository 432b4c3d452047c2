use Rattle.std.proofs.Common.{◌≡◌, Option, None}
use Rattle.vlm_words.specs.declared.locks.LockState.{LockState}
use Rattle.vlm_words.specs.declared.steps.Step.{Step}
use Rattle.vlm_model.specs.Laws.{GrantsFollowQueueOrder}
use Rattle.vlm_model.specs.Stepped.{IsChoice, step_refusal}
use Rattle.vlm_cluster.proofs.Throughout.{throughout}
use Rattle.vlm_cluster.proofs.laws.law_grants_keep_order.Goals as goal

pub returns : goal.returns
returns c entries last journal =
    throughout
    (λ history state. (step : Step) (choice : Option LockState) → IsChoice state step choice → step_refusal state step ≡ None
    → GrantsFollowQueueOrder state step choice)
    c.law_join.ensures c.law_journal.ensures c.law_grants_follow_queue_order.ensures entries last journal
