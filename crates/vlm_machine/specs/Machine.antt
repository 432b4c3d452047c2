-- The state of the machine of records, and the state of the plain machine that it represents.
use Rattle.std.specs.Prelude.{ℕ, List, ◌+◌}
use Rattle.vlm_words.specs.State.{Node, State}
use Rattle.vlm_store.specs.Plain.{plain_processes, plain_resources}
use Rattle.vlm_store.specs.Records.{Records}
use Rattle.vlm_locks.specs.Owing.{IsPaid}
use Rattle.vlm_locks.specs.Rest.{IsAtRest}
use Rattle.vlm_machine.specs.declared.records.Machine.TheInside.{Inside}

-- the nodes, the records under their handles, and the next numbers
pub record MachineState : Type 0 where
  pub nodes : List Node
  pub records : Records
  pub next_lkid : ℕ
  pub next_request : ℕ
  pub next_serial : ℕ

-- each next number is one more than the last one given
abbrev pub kept : Inside → MachineState
kept m = record {
  nodes = m.nodes;
  records = m.store;
  next_lkid = m.last_lkid + 1;
  next_request = m.last_request + 1;
  next_serial = m.last_serial + 1;
}

-- the state of the plain machine: the records without their handles
abbrev pub plain_state : MachineState → State
plain_state m = record {
  nodes = m.nodes;
  processes = plain_processes m.records;
  resources = plain_resources m.records;
  next_lkid = m.next_lkid;
  next_request = m.next_request;
  next_serial = m.next_serial;
}

-- the records are at rest, and each process is owed the ASTs that are due to it for its locks; both hold between two
-- steps and between the parts of a step
pub record HasRecordsAtRest (m : Inside) : Type 0 where
  pub rest : IsAtRest m.store
  pub paid : IsPaid m.store
