-- The steps Rundown and Leave, which end processes.
use Rattle.std.specs.Prelude.{ℕ, Bool, true, false, not, ◌==◌, ◌-◌, List, map, filter, slice_set, Option, None, Some, if◌then◌else◌}
use Rattle.vlm_words.specs.declared.conditions.Cond.TheVariants.{Badparam, Departed}
use Rattle.vlm_words.specs.declared.conditions.Cond.{Cond}
use Rattle.vlm_words.specs.State.{Node, Process, State, node_at}
use Rattle.vlm_model.specs.Endings.{Ending}
use Rattle.vlm_model.specs.Endings.How.{by_rundown}
use Rattle.vlm_model.specs.Withdrawals.{Withdrawal, resource_after_withdrawals, withdrawn_endings}
use Rattle.vlm_model.specs.OwnLocks.{own_lkids}
use Rattle.vlm_model.specs.Checks.{caller_refusal, has_departed}
use Rattle.vlm_model.specs.Declare.{is_node}

-- ---- the end of processes

-- a lock whose process ends goes; if it holds PW or EX, it marks the value block invalid
abbrev pub rundown_of : ℕ → Withdrawal
rundown_of lkid = record {
  lkid = lkid;
  waiting = by_rundown;
  converting = by_rundown;
  stays = false;
  value = None;
  tail = None;
  invalidates = true;
}

-- the withdrawals of all locks of these processes, by rising ID
abbrev pub rundowns : (ℕ → Bool) → State → List Withdrawal
rundowns is_one s = map rundown_of (own_lkids is_one s)

-- the endings of their requests
abbrev pub rundown_endings : (ℕ → Bool) → State → List Ending
rundown_endings is_one s = withdrawn_endings (rundowns is_one s) s.resources

-- the processes except these, which go with their status blocks and ASTs
abbrev pub processes_but : (ℕ → Bool) → List Process → List Process
processes_but is_one processes = filter (λ p. not (is_one p.pid)) processes

-- the state after these processes and all their locks are gone
unfoldable pub state_after_rundown : (ℕ → Bool) → List Node → State → State
state_after_rundown is_one nodes s = record s {
  nodes = nodes;
  processes = processes_but is_one s.processes;
  resources = map (resource_after_withdrawals (rundowns is_one s)) s.resources;
}

-- ---- the rundown of a process

-- the check of a rundown: DEPARTED or NONEXPR
abbrev pub rundown_refusal : State → ℕ → Option Cond
rundown_refusal s pid = caller_refusal s pid

-- the rundown is of this process
abbrev pub is_ended_by : ℕ → ℕ → Bool
is_ended_by pid other = other == pid

-- ---- the departure of a node

-- BADPARAM if there is no such node, DEPARTED if it has departed before
unfoldable pub leave_refusal : State → ℕ → Option Cond
leave_refusal s node =
    if not (is_node node) then Some Badparam
    else (if has_departed s.nodes node then Some Departed else None)

-- the node is noted as departed
abbrev pub nodes_after_departure : List Node → ℕ → List Node
nodes_after_departure nodes node =
    slice_set nodes (node - 1) (record (node_at nodes node) { departed = true })
