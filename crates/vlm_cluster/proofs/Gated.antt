-- The report of a run, and what each gate said.
use Rattle.std.proofs.Common.{◌≡◌, ◌<◌, ◌≤◌, ℕ, Bool, true, false, List, [], Some, length, get_or, refl, sym, ap, ◌∙◌, subst, arith, inl, inr, append-nil}
use Rattle.std.specs.List.{slice_get}
use Rattle.std.specs.declared.thread.PromisedHandle.{PromisedHandle}
use Rattle.std.proofs.lemmas.Bool.{cases_lt}
use Rattle.std.proofs.lemmas.Option.{get_or_from_slice_get, slice_get_within}
use mathlib.Core.List.{IsPrefix}
use Rattle.vlm_journal.specs.declared.entries.Item.{Item}
use Rattle.vlm_cluster.specs.declared.report.Report.{Report}
use Rattle.vlm_cluster.specs.declared.threads.WorkerPromise.{WorkerPromise}
use Rattle.vlm_cluster.specs.declared.worker.WorkerResult.{WorkerResult}
use Rattle.vlm_cluster.specs.Gates.{IsFollowed, IsToldOn, Moves}
use Rattle.vlm_cluster.specs.Headline.{AreGated, Items, StepList}
use Rattle.vlm_cluster.specs.Works.{IsGatedWork, point_of}
use Rattle.vlm_cluster.proofs.Assembled.{AreNoted}
use Rattle.vlm_cluster.proofs.Guides.{followed_cancelled, followed_none, followed_told}
use Rattle.vlm_journal.proofs.Lists.{element}

-- each worker has posted its list as its gate said
abbrev pub AreGatedWorks : {G : Type 0} → Moves G → List G → List StepList → List (WorkerResult G) → Type 0
AreGatedWorks {G} moves gates lists results = (k : ℕ) (d : WorkerResult G) (gate : G) (l : StepList) → k < length results
    → IsGatedWork moves (get_or gates k gate) (get_or lists k l).items (get_or results k d)

module _ {G : Type 0} (moves : Moves G) (gates : List G) (lists : List StepList) (results : List (WorkerResult G)) (r : Report)
    (works : AreGatedWorks moves gates lists results) (noted : AreNoted results r.posted.items) where
  -- the work on a list, by what is noted of it
  work_on : (k n : ℕ) (gate : G) (list : StepList) → slice_get gates k ≡ Some gate → slice_get lists k ≡ Some list → slice_get r.posted.items k ≡ Some n
      → k < length results → (d : WorkerResult G) → IsFollowed moves (gate, []) (point_of (get_or results k d)) (length list.items) n (get_or results k d).left
  work_on k n gate list at_gate at_list at_n lt d =
      let e = get_or results k d in
      let count : n ≡ e.posted = sym (get_or_from_slice_get r.posted.items k n 0 at_n) ∙ noted k d lt in
      subst (λ (m : ℕ). IsFollowed moves (gate, []) (point_of e) (length list.items) m e.left) (sym count)
      (subst (λ (l : StepList). IsFollowed moves (gate, []) (point_of e) (length l.items) e.posted e.left) (get_or_from_slice_get lists k list list at_list)
      (subst (λ (x : G). IsFollowed moves (x, []) (point_of e) (length (get_or lists k list).items) e.posted e.left)
      (get_or_from_slice_get gates k gate gate at_gate) (works k d gate list lt)))

  module _ (items : length r.items.items ≡ length results)
      (told : (k : ℕ) (d : WorkerResult G) (v : Items) → k < length results
      → IsToldOn moves (point_of (get_or results k d)) (get_or r.items.items k v).items) where
    -- and what was told later
    told_on : (k n : ℕ) (gate : G) (list : StepList) (v : Items) → slice_get gates k ≡ Some gate
        → slice_get lists k ≡ Some list → slice_get r.posted.items k ≡ Some n
        → slice_get r.items.items k ≡ Some v → k < length results → (d : WorkerResult G)
        → (last : G) × IsFollowed moves (gate, []) (last, v.items) (length list.items) n (get_or results k d).left
    told_on k n gate list v at_gate at_list at_n at_v lt d =
        let e = get_or results k d in
        let more = told k d v lt in (
          more.0,
          subst (λ (x : Items). IsFollowed moves (gate, []) (more.0, x.items) (length list.items) n e.left) (get_or_from_slice_get r.items.items k v v at_v)
              (followed_told moves (gate, []) (point_of e) (more.0, (get_or r.items.items k v).items) (length list.items) n e.left
              (work_on k n gate list at_gate at_list at_n lt d) more.1),
        )

    pub gated : ((k : ℕ) (d : WorkerResult G) → k < length results → (get_or results k d).left ≡ true) → AreGated true moves gates lists r
    gated left k n gate list v at_gate at_list at_n at_v =
        let within = slice_get_within r.items.items k v at_v in
        let lt : k < length results = omega (arith, within, items) in
        let d = element results k lt in
        let on = told_on k n gate list v at_gate at_list at_n at_v lt d in
        (on.0, subst (λ (b : Bool). IsFollowed moves (gate, []) (on.0, v.items) (length list.items) n b) (left k d lt) on.1)

    pub gated_in_part : AreGated false moves gates lists r
    gated_in_part k n gate list v at_gate at_list at_n at_v =
        let within = slice_get_within r.items.items k v at_v in
        let lt : k < length results = omega (arith, within, items) in
        let d = element results k lt in
        let on = told_on k n gate list v at_gate at_list at_n at_v lt d in
        (on.0, v.items, ([], append-nil v.items), followed_cancelled moves (gate, []) (on.0, v.items) (length list.items) n (get_or results k d).left on.1)

  -- where the hub has made no turn
  pub gated_by_none : ((k : ℕ) (v : Items) → k < length r.items.items → (get_or r.items.items k v).items ≡ [])
      → ((k : ℕ) → length results ≤ k → get_or r.posted.items k 0 ≡ 0)
      → AreGated false moves gates lists r
  gated_by_none empty others k n gate list v at_gate at_list at_n at_v =
      let none : v.items ≡ [] = ap (λ (x : Items). x.items) (sym (get_or_from_slice_get r.items.items k v v at_v))
      ∙ empty k v (slice_get_within r.items.items k v at_v) in
      elim (cases_lt k (length results)) [
        | inl lt ↦
            let d = element results k lt in let e = get_or results k d in (
              e.gate,
              e.client.items.items,
              subst (λ (xs : List Item). IsPrefix xs e.client.items.items) (sym none) (e.client.items.items, refl),
              followed_cancelled moves (gate, []) (point_of e) (length list.items) n e.left (work_on k n gate list at_gate at_list at_n lt d),
            )
        | inr le ↦
            let zero : n ≡ 0 = sym (get_or_from_slice_get r.posted.items k n 0 at_n) ∙ others k le in (
              gate,
              [],
              subst (λ (xs : List Item). IsPrefix xs []) (sym none) ([], refl),
              subst (λ (m : ℕ). IsFollowed moves (gate, []) (gate, []) (length list.items) m false) (sym zero)
                  (followed_none moves (gate, []) (length list.items)),
            )
      ]

-- what each worker was given, and what it made of that
pub gated_works_of : {G : Type 0} (moves : Moves G) (gates : List G) (lists : List StepList)
    (children : List (PromisedHandle (WorkerResult G) (WorkerPromise G))) (results : List (WorkerResult G)) (n : ℕ)
    → ((k : ℕ) (h : PromisedHandle (WorkerResult G) (WorkerPromise G)) (x : G) → k < n → (get_or children k h).promise.gate.value ≡ get_or gates k x)
    → ((k : ℕ) (h : PromisedHandle (WorkerResult G) (WorkerPromise G)) (l : StepList) → k < n → (get_or children k h).promise.list.value ≡ get_or lists k l)
    → ((k : ℕ) (d : WorkerResult G) (h : PromisedHandle (WorkerResult G) (WorkerPromise G)) → k < n
    → IsGatedWork moves (get_or children k h).promise.gate.value (get_or children k h).promise.list.value.items (get_or results k d))
    → length results ≡ n → length children ≡ n → AreGatedWorks moves gates lists results
gated_works_of {G} moves gates lists children results n gate_is list_is made same long k d x l lt =
    let h = element children k (omega (arith, lt, same, long)) in
    let at : k < n = omega (arith, lt, same) in
    subst (λ (gate : G). IsGatedWork moves gate (get_or lists k l).items (get_or results k d)) (gate_is k h x at)
    (subst (λ (list : StepList). IsGatedWork moves (get_or children k h).promise.gate.value list.items (get_or results k d)) (list_is k h l at) (made k d h at))
