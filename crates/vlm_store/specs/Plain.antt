-- The records as the plain machine has them.
use Rattle.std.specs.Prelude.{List, map}
use Rattle.vlm_words.specs.Resources.{key_name, key_parent}
use Rattle.vlm_words.specs.State.{Process, Resource}
use Rattle.vlm_store.specs.Records.{Records, StoredResource, rows_of_locks}

-- the resource and its locks without handles
abbrev pub plain_resource : StoredResource → Resource
plain_resource r = record {
  serial = r.serial;
  parent = key_parent r.key;
  domain = r.domain;
  name = key_name r.key;
  level = r.level;
  value_block = r.value_block;
  granted = rows_of_locks r.granted;
  converting = rows_of_locks r.converting;
  waiting = rows_of_locks r.waiting;
}

-- the resources without handles, in the order of making
abbrev pub plain_resources : Records → List Resource
plain_resources s = map plain_resource s.resources

-- the processes without handles and locks, in the order of making
abbrev pub plain_processes : Records → List Process
plain_processes s = map (λ p. p.process) s.processes
