-- What is known of a run once its workers are joined, and of the report that is made of their results.
use Rattle.std.proofs.Common.{◌≡◌, ◌<◌, ◌≤◌, ◌+◌, ◌*◌, ℕ, Bool, List, length, get_or, map, vec_len, Some, Err, ap, arith, subst}
use Rattle.std.specs.declared.alloc.Global.{Global}
use Rattle.std.specs.declared.thread.PromisedHandle.{PromisedHandle}
use Rattle.std.specs.declared.vec.Vec.{Vec}
use Rattle.std.proofs.lemmas.List.{length-map}
use Rattle.vlm_journal.proofs.Lists.{element}
use Rattle.vlm_ports.specs.declared.hub.Hub.{Hub}
use Rattle.vlm_ports.specs.declared.port.Port.{Port}
use Rattle.vlm_ports.specs.Hubs.{rings}
use Rattle.vlm_ports.specs.Ports.{AreNew, identity}
use Rattle.vlm_ports.specs.Rings.{RingName}
use Rattle.vlm_journal.specs.declared.entries.Part.{Part}
use Rattle.vlm_cluster.specs.declared.report.Fault.TheVariants.{Memory}
use Rattle.vlm_cluster.specs.declared.report.Report.{Report}
use Rattle.vlm_cluster.specs.declared.threads.WorkerPromise.{WorkerPromise}
use Rattle.vlm_cluster.specs.declared.worker.WorkerResult.{WorkerResult}
use Rattle.vlm_cluster.specs.Assembly.{ArePostedBy, HaveGates, HaveInputs}
use Rattle.vlm_cluster.specs.Gates.{Moves}
use Rattle.vlm_cluster.specs.Headline.{AreServedInPart, IsServing, StepList}
use Rattle.vlm_cluster.specs.Parts.{HaveFewer, bound_of}
use Rattle.vlm_cluster.specs.Works.{IsGatedWork, IsWorkOn, work_of}
use Rattle.vlm_cluster.proofs.Assembled.{AreNoted, HaveEnded, works_of}
use Rattle.vlm_cluster.proofs.Gated.{AreGatedWorks, gated_works_of}

module _ {G : Type 0} (ports : Vec Port Global) (lists : Vec StepList Global)
    (children : Vec (PromisedHandle (WorkerResult G) (WorkerPromise G)) Global) (results : Vec (WorkerResult G) Global)
    (few : vec_len children ≤ vec_len ports) (joined : vec_len results ≡ vec_len children)
    (inputs : HaveInputs (vec_len children) children.items ports.items lists.items) where
  -- each worker that was started has done its work
  pub ended : (never : Bool) → AreNew ports.items → vec_len ports ≡ vec_len lists
      → ((k : ℕ) (d : WorkerResult G) (h : PromisedHandle (WorkerResult G) (WorkerPromise G)) → k < vec_len children
      → IsWorkOn never (get_or children.items k h).promise.port.value (get_or children.items k h).promise.list.value.items (work_of (get_or results.items k d)))
      → HaveEnded never ports.items lists.items results.items
  ended never new lens made =
      let op = ports.ok in let ol = lists.ok in let oc = children.ok in let od = results.ok in
      record {
        new = new;
        as_many = omega (arith, lens);
        few = omega (arith, lens, few, joined);
        works = works_of never ports.items lists.items children.items results.items (vec_len children) inputs made
            (omega (arith, joined)) (omega arith);
      }

  -- as its gate said
  pub gated_ended : (moves : Moves G) (gates : Vec G Global) → HaveGates (vec_len children) children.items gates.items
      → ((k : ℕ) (d : WorkerResult G) (h : PromisedHandle (WorkerResult G) (WorkerPromise G)) → k < vec_len children
      → IsGatedWork moves (get_or children.items k h).promise.gate.value (get_or children.items k h).promise.list.value.items (get_or results.items k d))
      → AreGatedWorks moves gates.items lists.items results.items
  gated_ended moves gates have made =
      let op = ports.ok in let oc = children.ok in let od = results.ok in
      gated_works_of moves gates.items lists.items children.items results.items (vec_len children) have
      (λ k h l lt. (inputs k h (element ports.items k (omega (arith, lt, few))) l lt).1) made (omega (arith, joined)) (omega arith)

-- the report has items and a number of posts for each worker
pub record IsNoted {G : Type 0} (results : List (WorkerResult G)) (r : Report) : Type 0 where
  pub items : length r.items.items ≡ length results
  pub posted : length r.posted.items ≡ length results
  pub noted : AreNoted results r.posted.items

pub noted_in : {G : Type 0} (results : Vec (WorkerResult G) Global) (r : Report)
    → (vec_len r.items ≡ vec_len results) × (vec_len r.posted ≡ vec_len results) → ArePostedBy (vec_len results) r results.items
    → IsNoted results.items r
noted_in results r counts posted =
    let od = results.ok in let oi = r.items.ok in let oq = r.posted.ok in
    record {
      items = omega (arith, counts.0);
      posted = omega (arith, counts.1);
      noted = λ k d lt. posted k d (omega (arith, lt));
    }

-- a hub has a ring pair for each list, so no part is too long
pub parts_fewer : (ports : Vec Port Global) (lists : Vec StepList Global) (every now : ℕ) (first h : Hub) (parts : List Part)
    → vec_len ports ≡ vec_len lists → map identity ports.items ≡ rings first → rings h ≡ rings first → now ≡ every
    → HaveFewer (bound_of now h) parts → HaveFewer (every + 2 * vec_len lists) parts
parts_fewer ports lists every now first h parts lens of same still fewer =
    let op = ports.ok in
    let bound : bound_of now h ≡ every + 2 * vec_len lists =
    omega (
      arith,
      lens,
      still,
      ap (λ (xs : List (ℕ × RingName × RingName)). length xs) of,
      ap (λ (xs : List (ℕ × RingName × RingName)). length xs) same,
      length-map ports.items identity,
    ) in
    subst (λ (n : ℕ). HaveFewer n parts) bound fewer

-- a run for which memory was refused on the way promises what was done
pub serving_in_part : {never : Bool} {lists : List StepList} {r : Report} → AreServedInPart lists r → IsServing never lists (Err (Memory (Some r)))
serving_in_part part = record { served = tt; whole = λ never. tt; modes = tt; once = tt; order = tt; cut_short = part }
