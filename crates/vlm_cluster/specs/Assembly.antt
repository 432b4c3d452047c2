-- What a run starts with, and the report that is made from the results of its workers.
use Rattle.std.specs.Prelude.{◌≡◌, ◌<◌, ◌≤◌, ℕ, List, slice_index, slice_index_or, vec_capacity, vec_len}
use Rattle.std.specs.declared.alloc.Global.{Global}
use Rattle.std.specs.declared.thread.PromisedHandle.{PromisedHandle}
use Rattle.std.specs.declared.vec.Vec.{Vec}
use Rattle.vlm_journal.specs.declared.entries.Item.{Item}
use Rattle.vlm_journal.specs.Journals.{Journal}
use Rattle.vlm_ports.specs.declared.port.Port.{Port}
use Rattle.vlm_ports.specs.Hubs.{HubTakesAlone}
use Rattle.vlm_cluster.specs.declared.report.Report.{Report}
use Rattle.vlm_cluster.specs.declared.threads.WorkerPromise.{WorkerPromise}
use Rattle.vlm_cluster.specs.declared.worker.WorkerResult.{WorkerResult}
use Rattle.vlm_cluster.specs.Gates.{IsToldOn, Moves}
use Rattle.vlm_cluster.specs.Headline.{Items, StepList}
use Rattle.vlm_cluster.specs.Parts.{AreNumbered, HaveEnough, HaveFewer}
use Rattle.vlm_cluster.specs.Reports.{entries_of, parts_of}
use Rattle.vlm_cluster.specs.Works.{Work, point_of, work_of}

-- an empty vector with room for this many
abbrev pub IsRoomFor : {T : Type 0} → ℕ → Vec T Global → Type 0
IsRoomFor n space = (vec_len space ≡ 0) × (n ≤ vec_capacity space)

-- each worker promised its work on this gate
abbrev pub HaveGates : {G : Type 0} → ℕ → List (PromisedHandle (WorkerResult G) (WorkerPromise G)) → List G → Type 0
HaveGates {G} n children gates = (k : ℕ) (h : PromisedHandle (WorkerResult G) (WorkerPromise G)) (gate : G) → k < n
    → (slice_index_or children k h).promise.gate.value ≡ slice_index_or gates k gate

-- each worker promised its work on this port and this list
abbrev pub HaveInputs : {G : Type 0} → ℕ → List (PromisedHandle (WorkerResult G) (WorkerPromise G)) → List Port
    → List StepList → Type 0
HaveInputs {G} n children ports lists =
    (k : ℕ) (h : PromisedHandle (WorkerResult G) (WorkerPromise G)) (port : Port) (list : StepList) → k < n
    → ((slice_index_or children k h).promise.port.value ≡ slice_index_or ports k port)
    × ((slice_index_or children k h).promise.list.value ≡ slice_index_or lists k list)

-- the journal of the report is legal, its parts are numbered, they have at least `every` entries and fewer than the
-- bound, and the hub itself only took ASTs
pub record IsSoundReport (every bound : ℕ) (r : Report) : Type 0 where
  pub legal : Journal (entries_of r) r.core
  pub numbered : AreNumbered (parts_of r)
  pub takes : HubTakesAlone (entries_of r)
  pub enough : HaveEnough every r.parts.items
  pub fewer : HaveFewer bound r.parts.items

-- the report says how many steps each worker has posted
abbrev pub ArePostedBy : {G : Type 0} → ℕ → Report → List (WorkerResult G) → Type 0
ArePostedBy {G} n r results = (k : ℕ) (d : WorkerResult G) → k < n
    → slice_index r.posted.items k ≡ (slice_index_or results k d).posted

-- the fact holds of each worker's work and of the items that the report has for it
abbrev pub HoldsAsReported : {G : Type 0} → (Work → List Item → Type 0) → ℕ → Report → List (WorkerResult G) → Type 0
HoldsAsReported {G} P n r results = (k : ℕ) (d : WorkerResult G) (v : Items) → k < n
    → P (work_of (slice_index_or results k d)) (slice_index_or r.items.items k v).items

-- the gate of each worker was told the items of the report
abbrev pub AreToldBy : {G : Type 0} → Moves G → ℕ → Report → List (WorkerResult G) → Type 0
AreToldBy {G} moves n r results = (k : ℕ) (d : WorkerResult G) (v : Items) → k < n
    → IsToldOn moves (point_of (slice_index_or results k d)) (slice_index_or r.items.items k v).items
