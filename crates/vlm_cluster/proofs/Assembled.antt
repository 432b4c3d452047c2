-- The report of a run, from what each worker hands back.
use Rattle.std.proofs.Common.{◌≡◌, ◌+◌, ◌-◌, ◌<◌, ◌≤◌, ◌++◌, ℕ, Bool, true, List, [], ◌∷◌, Some, length, map, get_or}
use Rattle.std.proofs.Common.{take, refl, sym, ap, ◌∙◌, subst, arith, inl, inr}
use Rattle.std.specs.List.{slice_get}
use Rattle.std.proofs.lemmas.Bool.{cases_lt}
use Rattle.std.proofs.lemmas.List.{get_or-map, length-map}
use Rattle.std.proofs.lemmas.Option.{get_or_from_slice_get, slice_get-get_or, slice_get_within}
use Rattle.std.specs.declared.thread.PromisedHandle.{PromisedHandle}
use mathlib.Core.List.{IsPrefix}
use Rattle.vlm_words.specs.declared.steps.Step.TheVariants.{Leave}
use Rattle.vlm_words.specs.State.{State}
use Rattle.vlm_journal.specs.declared.entries.Entry.{Entry}
use Rattle.vlm_journal.specs.declared.entries.Item.{Item}
use Rattle.vlm_journal.specs.Departed.{IsAnsweredDeparted}
use Rattle.vlm_journal.specs.Journals.{Journal}
use Rattle.vlm_journal.specs.Told.{asked, told}
use Rattle.vlm_ports.specs.declared.hub.Hub.{Hub}
use Rattle.vlm_ports.specs.declared.port.Port.{Port}
use Rattle.vlm_ports.specs.Hubs.{rings}
use Rattle.vlm_ports.specs.Ports.{AreNew, identity}
use Rattle.vlm_ports.specs.Rings.{RingName}
use Rattle.vlm_cluster.specs.declared.report.Report.{Report}
use Rattle.vlm_cluster.specs.declared.threads.WorkerPromise.{WorkerPromise}
use Rattle.vlm_cluster.specs.declared.worker.WorkerResult.{WorkerResult}
use Rattle.vlm_cluster.specs.Assembly.{IsSoundReport}
use Rattle.vlm_cluster.specs.Headline.{AreAllPosted, AreServed, AreServedInPart, IsReport, Items, StepList}
use Rattle.vlm_cluster.specs.Reports.{entries_of}
use Rattle.vlm_cluster.specs.Works.{ArePortsOf, IsBegun, IsWhole, IsWorkOn, work_of}
use Rattle.vlm_cluster.proofs.Outcomes.{begun_asked, begun_told, whole_asked, whole_told}
use Rattle.vlm_journal.proofs.Lists.{element}

-- a node that has departed is answered so
abbrev pub DepartedLaw : Type 0
DepartedLaw = (entries : List Entry) (last : State) → Journal entries last → (node : ℕ) → 0 < node → IsAnsweredDeparted node entries

-- what the report's journal tells the node of a list
abbrev told_items : Report → ℕ → List Item
told_items r k = told (k + 1) (entries_of r)

-- what each of the workers has done
abbrev pub AreWorks : {G : Type 0} → Bool → List Port → List StepList → List (WorkerResult G) → Type 0
AreWorks {G} never ports lists results = (k : ℕ) (d : WorkerResult G) (p : Port) (l : StepList) → k < length results
    → IsWorkOn never (get_or ports k p) (get_or lists k l).items (work_of (get_or results k d))

-- what is noted as posted is what each worker says, and nothing where there was none
abbrev pub AreNoted : {G : Type 0} → List (WorkerResult G) → List ℕ → Type 0
AreNoted {G} results posted = (k : ℕ) (d : WorkerResult G) → k < length results → get_or posted k 0 ≡ (get_or results k d).posted

-- the workers on these lists, each with a port of its own, have ended
pub record HaveEnded {G : Type 0} (never : Bool) (ports : List Port) (lists : List StepList) (results : List (WorkerResult G)) : Type 0 where
  pub new : AreNew ports
  pub as_many : length ports ≡ length lists
  pub few : length results ≤ length lists
  pub works : AreWorks never ports lists results

module _ {G : Type 0} {never : Bool} {ports : List Port} {lists : List StepList} {results : List (WorkerResult G)}
    (ended : HaveEnded never ports lists results) (r : Report) (noted : AreNoted results r.posted.items) where
  new : AreNew ports
  new = ended.new

  as_many : length ports ≡ length lists
  as_many = ended.as_many

  few : length results ≤ length lists
  few = ended.few

  -- the work on a list, and how much of it is noted
  on_list : (k n : ℕ) (list : StepList) → slice_get lists k ≡ Some list → slice_get r.posted.items k ≡ Some n
      → k < length results → (p : Port) (d : WorkerResult G)
      → IsWorkOn never (get_or ports k p) list.items (work_of (get_or results k d)) × (n ≡ (get_or results k d).posted)
  on_list k n list at_list at_n lt p d = (
    subst (λ (l : StepList). IsWorkOn never (get_or ports k p) l.items (work_of (get_or results k d)))
        (get_or_from_slice_get lists k list list at_list) (ended.works k d p list lt),
    sym (get_or_from_slice_get r.posted.items k n 0 at_n) ∙ noted k d lt,
  )

  -- no more of a list is noted than it has
  noted_within : (k n : ℕ) (list : StepList) → slice_get lists k ≡ Some list → slice_get r.posted.items k ≡ Some n → k < length results → n ≤ length list.items
  noted_within k n list at_list at_n lt =
      let on = on_list k n list at_list at_n lt (element ports k (omega (arith, lt, few, as_many))) (element results k lt) in
      subst (λ (m : ℕ). m ≤ length list.items) (sym on.1) on.0.within

  module _ {every bound : ℕ} (all : length results ≡ length lists) (items : length r.items.items ≡ length results)
      (posted : length r.posted.items ≡ length results) (sound : IsSoundReport every bound r) (law : DepartedLaw) where
    report_of : IsReport lists r
    report_of = record {
      counts = (items ∙ all, posted ∙ all);
      within = λ k n list at_list at_n. noted_within k n list at_list at_n (let lt = slice_get_within lists k list at_list in omega (arith, lt, all));
      legal = sound.legal;
      numbered = sound.numbered;
      takes = sound.takes;
      departed = law (entries_of r) r.core sound.legal;
    }

    pub served : ((k : ℕ) (d : WorkerResult G) (v : Items) → k < length results
        → IsWhole (entries_of r) (work_of (get_or results k d)) (get_or r.items.items k v).items)
        → AreServed lists r
    served whole = record {
      report = report_of;
      asked = λ k n list at_list at_n.
          let within = slice_get_within lists k list at_list in
          let lt : k < length results = omega (arith, within, all) in
          let p = element ports k (omega (arith, within, as_many)) in let d = element results k lt in let v =
          element r.items.items k (omega (arith, lt, items)) in
          let on = on_list k n list at_list at_n lt p d in
          whole_asked never ports new k p (omega (arith, within, as_many)) list.items
          (work_of (get_or results k d)) on.0 (entries_of r) (get_or r.items.items k v).items n on.1
          (whole k d v lt);
      told = λ k v at_v.
          let within = slice_get_within r.items.items k v at_v in
          let lt : k < length results = omega (arith, within, items) in
          let some : k < length ports = omega (arith, lt, few, as_many) in
          let p = element ports k some in let d = element results k lt in let list = element lists k (omega (arith, lt, few)) in
          let told = whole_told never ports new k p some (get_or lists k list).items (work_of (get_or results k d))
          (ended.works k d p list lt) (entries_of r) (get_or r.items.items k v).items
          (get_or results k d).posted refl (whole k d v lt) in
          subst (λ (x : Items). x.items ≡ told_items r k) (get_or_from_slice_get r.items.items k v v at_v) told;
    }

    pub begun : ((k : ℕ) (d : WorkerResult G) (v : Items) → k < length results
        → IsBegun (entries_of r) (work_of (get_or results k d)) (get_or r.items.items k v).items)
        → AreServedInPart lists r
    begun each = record {
      report = report_of;
      asked = λ k n list at_list at_n.
          let within = slice_get_within lists k list at_list in
          let lt : k < length results = omega (arith, within, all) in
          let p = element ports k (omega (arith, within, as_many)) in let d = element results k lt in let v =
          element r.items.items k (omega (arith, lt, items)) in
          let on = on_list k n list at_list at_n lt p d in
          begun_asked never ports new k p (omega (arith, within, as_many)) list.items
          (work_of (get_or results k d)) on.0 (entries_of r) (get_or r.items.items k v).items n on.1
          (each k d v lt);
      told = λ k v at_v.
          let within = slice_get_within r.items.items k v at_v in
          let lt : k < length results = omega (arith, within, items) in
          let some : k < length ports = omega (arith, lt, few, as_many) in
          let p = element ports k some in let d = element results k lt in let list = element lists k (omega (arith, lt, few)) in
          let told = begun_told never ports new k p some (get_or lists k list).items (work_of (get_or results k d))
          (ended.works k d p list lt) (entries_of r) (get_or r.items.items k v).items
          (get_or results k d).posted refl (each k d v lt) in
          subst (λ (x : Items). IsPrefix x.items (told_items r k)) (get_or_from_slice_get r.items.items k v v at_v) told;
    }

    -- where no gate stops its worker, all of each list is posted
    pub all_posted : never ≡ true
        → ((k : ℕ) (d : WorkerResult G) (v : Items) → k < length results
        → IsWhole (entries_of r) (work_of (get_or results k d)) (get_or r.items.items k v).items)
        → AreAllPosted lists r
    all_posted set whole k n list at_list at_n =
        let within = slice_get_within lists k list at_list in
        let lt : k < length results = omega (arith, within, all) in
        let p = element ports k (omega (arith, within, as_many)) in let d = element results k lt in let v =
        element r.items.items k (omega (arith, lt, items)) in
        let on = on_list k n list at_list at_n lt p d in
        on.1 ∙ on.0.whole set (whole k d v lt).left

  -- where the hub has made no turn
  pub given_up : {every bound : ℕ} → entries_of r ≡ [] → length r.items.items ≡ length lists → length r.posted.items ≡ length lists
      → IsSoundReport every bound r → DepartedLaw → ((k : ℕ) (v : Items) → k < length lists → (get_or r.items.items k v).items ≡ [])
      → ((k : ℕ) → length results ≤ k → get_or r.posted.items k 0 ≡ 0) → AreServedInPart lists r
  given_up none items posted sound law empty others = record {
    report = record {
      counts = (items, posted);
      within = λ k n list at_list at_n. elim (cases_lt k (length results)) [
        | inl lt ↦ noted_within k n list at_list at_n lt
        | inr le ↦ let is : n ≡ 0 = sym (get_or_from_slice_get r.posted.items k n 0 at_n) ∙ others k le in omega (arith, is)
      ];
      legal = sound.legal;
      numbered = sound.numbered;
      takes = sound.takes;
      departed = law (entries_of r) r.core sound.legal;
    };
    asked = λ k n list at_list at_n.
        subst (λ (es : List Entry). IsPrefix (asked (k + 1) es) (take n list.items ++ Leave (k + 1) ∷ [])) (sym none)
        (take n list.items ++ Leave (k + 1) ∷ [], refl);
    told = λ k v at_v.
        let lt = slice_get_within r.items.items k v at_v in
        let is : v.items ≡ [] = ap (λ (x : Items). x.items) (sym (get_or_from_slice_get r.items.items k v v at_v)) ∙ empty k v (omega (arith, lt, items)) in
        subst (λ (xs : List Item). IsPrefix xs (told (k + 1) (entries_of r))) (sym is) (told (k + 1) (entries_of r), refl);
  }

-- each worker has a port of the hub
pub ports_of_works : {G : Type 0} (never : Bool) (ports : List Port) (lists : List StepList)
    (results : List (WorkerResult G)) (h : Hub) → AreNew ports → AreWorks never ports lists results
    → length results ≤ length ports → length results ≤ length lists → rings h ≡ map identity ports → ArePortsOf h results
ports_of_works never ports lists results h new works few_ports few_lists same k d lt =
    let some : k < length ports = omega (arith, lt, few_ports) in
    let p = element ports k some in let list = element lists k (omega (arith, lt, few_lists)) in
    let port : identity (get_or results k d).client.port ≡ identity (get_or ports k p) = (works k d p list lt).port_is in
    let node : (get_or results k d).client.port.node ≡ k + 1 = ap (λ (i : ℕ × RingName × RingName). i.0) port ∙ (new k p some).0 in
    let at : (get_or results k d).client.port.node - 1 ≡ k = omega (arith, node) in
    let long : k < length (map identity ports) = omega (arith, length-map ports identity, some) in
    let own : slice_get (map identity ports) k ≡ Some (identity (get_or results k d).client.port) =
    slice_get-get_or (map identity ports) k (identity p) long ∙ ap Some (get_or-map identity ports k p (identity p) some ∙ sym port) in (
      omega (arith, node),
      subst (λ (m : ℕ). slice_get (rings h) m ≡ Some (identity (get_or results k d).client.port)) (sym at)
          (subst (λ (rs : List (ℕ × RingName × RingName)). slice_get rs k ≡ Some (identity (get_or results k d).client.port)) (sym same) own),
    )

-- what each worker was given, and what it made of that
pub works_of : {G : Type 0} (never : Bool) (ports : List Port) (lists : List StepList)
    (children : List (PromisedHandle (WorkerResult G) (WorkerPromise G))) (results : List (WorkerResult G)) (n : ℕ)
    → ((k : ℕ) (h : PromisedHandle (WorkerResult G) (WorkerPromise G)) (p : Port) (l : StepList) → k < n
    → ((get_or children k h).promise.port.value ≡ get_or ports k p) × ((get_or children k h).promise.list.value ≡ get_or lists k l))
    → ((k : ℕ) (d : WorkerResult G) (h : PromisedHandle (WorkerResult G) (WorkerPromise G)) → k < n
    → IsWorkOn never (get_or children k h).promise.port.value (get_or children k h).promise.list.value.items (work_of (get_or results k d)))
    → length results ≡ n → length children ≡ n → AreWorks never ports lists results
works_of {G} never ports lists children results n given made same long k d p l lt =
    let h = element children k (omega (arith, lt, same, long)) in
    let at : k < n = omega (arith, lt, same) in
    let was = given k h p l at in
    subst (λ (port : Port). IsWorkOn never port (get_or lists k l).items (work_of (get_or results k d))) was.0
    (subst (λ (list : StepList). IsWorkOn never (get_or children k h).promise.port.value list.items (work_of (get_or results k d))) was.1 (made k d h at))
