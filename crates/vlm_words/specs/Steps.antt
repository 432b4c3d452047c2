-- The node of a step.
use Rattle.std.specs.Prelude.{ℕ, Bool, ◌/◌, ◌==◌}
use Rattle.vlm_words.specs.declared.steps.Step.{Step}
use Rattle.vlm_words.specs.declared.steps.Step.TheVariants.{Declare, SetValue, Enq, Convert, Deq, Rundown, Leave, Search, Take}

-- the node of a process: the upper half of its ID
abbrev pub node_of_pid : ℕ → ℕ
node_of_pid pid = pid / 65536

-- the node that makes the step
abbrev pub node_of : Step → ℕ
node_of (Declare d) = d.node
node_of (SetValue s) = node_of_pid s.pid
node_of (Enq e) = node_of_pid e.pid
node_of (Convert c) = node_of_pid c.pid
node_of (Deq d) = node_of_pid d.pid
node_of (Rundown pid) = node_of_pid pid
node_of (Leave node) = node
node_of (Search node) = node
node_of (Take pid) = node_of_pid pid

-- the process is of the node
abbrev pub is_of_node : ℕ → ℕ → Bool
is_of_node node pid = node_of_pid pid == node
