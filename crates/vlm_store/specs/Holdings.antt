-- The processes with their own locks, and each lock with its sublocks.
use Rattle.std.specs.Prelude.{ℕ, false, List, [], map, Option, None, Some}
use Rattle.slab.specs.Slab.{Slab, get}
use Rattle.vlm_collections.specs.declared.lists.LinkedList.{LinkedList}
use Rattle.vlm_collections.specs.Lists.{handles_of}
use Rattle.vlm_words.specs.State.{Process as PlainProcess}
use Rattle.vlm_words.specs.declared.locks.LockState.{LockState}
use Rattle.vlm_records.specs.declared.locks.Lock.{Lock}
use Rattle.vlm_records.specs.declared.processes.Process.{Process}
use Rattle.vlm_records.specs.declared.resources.InOrder.{InOrder}
use Rattle.vlm_records.specs.Kin.{below_handles, own_handles, plain_process, process_links}
use Rattle.vlm_records.specs.Shown.{loose_in}
use Rattle.vlm_store.specs.Records.{OwnLock, StoredProcess}

-- a process without its locks: its record, and how many ASTs are due
pub record ProcessFace : Type 0 where
  pub plain : PlainProcess
  pub due : ℕ

-- the face of a process
abbrev pub process_face : Process → ProcessFace
process_face p = record { plain = plain_process p; due = p.asts.due }

-- the face of a missing process
abbrev pub no_process : ProcessFace
no_process = record {
  plain = record { pid = 0; group = 0; syslck = false; quota = 0; blocks = []; asts = [] };
  due = 0;
}

-- the face of the process in a place of the slab
abbrev pub process_face_in : Option Process → ProcessFace
process_face_in None = no_process
process_face_in (Some p) = process_face p

-- for each handle a process and its locks, for each lock its sublocks and the row of a loose one, and the processes in
-- the order of making
pub record Holding : Type 0 where
  pub faces : ℕ → ProcessFace
  pub own : ℕ → List ℕ
  pub below : ℕ → List ℕ
  pub loose : ℕ → Option LockState
  pub order : List ℕ

-- a lock of a process, with its sublocks, and with its row if it is loose
abbrev pub own_of : Holding → ℕ → OwnLock
own_of h at = record { at = at; sublocks = h.below at; loose = h.loose at }

-- a process with its handle and these locks of its own
abbrev pub faced : ℕ → ProcessFace → List OwnLock → StoredProcess
faced at face own = record { at = at; process = face.plain; due = face.due; own = own }

-- the process with this handle
abbrev pub process_under : Holding → ℕ → StoredProcess
process_under h at = faced at (h.faces at) (map (own_of h) (h.own at))

-- the processes that a caller sees
unfoldable pub processes_of : Holding → List StoredProcess
processes_of h = map (process_under h) h.order

-- the slabs as tables
abbrev pub holding : Slab Process → Slab Lock → LinkedList InOrder → Holding
holding processes locks order = record {
  faces = λ at. process_face_in (get processes at);
  own = own_handles processes locks;
  below = below_handles locks;
  loose = λ at. loose_in (get locks at);
  order = handles_of process_links processes order;
}
