-- What workers hand back, while it is settled.
use Rattle.std.proofs.Common.{◌≡◌, ◌≢◌, ◌+◌, ◌-◌, ◌<◌, ℕ, zero, suc, List, [], ◌∷◌, ◌++◌, Some, length, map, get_or}
use Rattle.std.proofs.Common.{replicate, set, take, refl, sym, ap, ◌∙◌, subst, arith, inl, inr, get_or-set_same}
use Rattle.std.proofs.Common.{get_or-set_other, below_more}
use Rattle.std.specs.List.{slice_get}
use Rattle.std.proofs.Math.Seq.{map-set_same}
use Rattle.std.proofs.lemmas.Bool.{cases_eq}
use Rattle.std.proofs.lemmas.List.{get_or-map, get_or_default, length-map, take-append-le, take_all}
use Rattle.vlm_journal.specs.declared.entries.Item.{Item}
use Rattle.vlm_ports.specs.declared.hub.Hub.{Hub}
use Rattle.vlm_ports.specs.Hubs.{rings}
use Rattle.vlm_ports.specs.Ports.{identity}
use Rattle.vlm_ports.specs.Rings.{RingName}
use Rattle.vlm_cluster.specs.declared.worker.WorkerResult.{WorkerResult}
use Rattle.vlm_cluster.specs.Headline.{Items}
use Rattle.vlm_cluster.specs.Gates.{IsTold, IsToldOn, Moves, Point}
use Rattle.vlm_cluster.specs.Works.{ArePortsOf, AreTold, HoldsOfWorks, Work, point_of, work_of}
use Rattle.vlm_cluster.proofs.Guides.{told_none, told_then}

-- what holds of each element, and of one that is put at the end, holds of each
pub all_more : {X : Type 0} (P : ℕ → X → Type 0) (xs : List X) (x : X) → ((k : ℕ) (d : X) → k < length xs → P k (get_or xs k d)) → P (length xs) x
    → (k : ℕ) (d : X) → k < length xs + 1 → P k (get_or (xs ++ x ∷ []) k d)
all_more P [] x before here zero d lt = here
all_more P [] x before here (suc k) d lt = absurd (omega (arith, lt))
all_more P (y ∷ ys) x before here zero d lt = before zero d (omega arith)
all_more P (y ∷ ys) x before here (suc k) d lt =
    all_more (λ m z. P (suc m) z) ys x (λ m e low. before (suc m) e (omega (arith, low))) here k d (omega (arith, lt))

-- a Vec that was lent as a slice has what the slice has then
pub after_lend : {X : Type 0} (n : ℕ) (xs rest : List X) → length xs ≡ n → take n (xs ++ rest) ≡ xs
after_lend n xs rest long =
    take-append-le n xs rest (omega (arith, long)) ∙ take_all n xs (omega (arith, long))

-- zeros are 0, and nothing is behind them
pub zeros : (n k : ℕ) → (let z : ℕ = 0 in get_or (replicate n z) k z ≡ z)
zeros zero k = refl
zeros (suc n) zero = refl
zeros (suc n) (suc k) = zeros n k

module _ {G : Type 0} where
  pub works_set : (ds : List (WorkerResult G)) (at : ℕ) (d was : WorkerResult G) → was ≡ get_or ds at was
      → work_of d ≡ work_of was → map work_of (set ds at d) ≡ map work_of ds
  works_set ds at d was is same = map-set_same work_of ds at d was (same ∙ ap work_of is)

  pub as_many : (xs bs : List (WorkerResult G)) → map work_of xs ≡ map work_of bs → length xs ≡ length bs
  as_many xs bs same = sym (length-map xs work_of) ∙ ap (λ (ws : List Work). length ws) same ∙ length-map bs work_of

  -- the same work at each place
  pub work_at : (xs bs : List (WorkerResult G)) → map work_of xs ≡ map work_of bs → (k : ℕ) (d : WorkerResult G)
      → k < length xs → work_of (get_or xs k d) ≡ work_of (get_or bs k d)
  work_at xs bs same k d lt =
      let n = as_many xs bs same in
      sym (get_or-map work_of xs k d (work_of d) lt) ∙ ap (λ (ws : List Work). get_or ws k (work_of d)) same
      ∙ get_or-map work_of bs k d (work_of d) (omega (arith, n, lt))

  pub ports_kept : (h i : Hub) (xs bs : List (WorkerResult G)) → rings i ≡ rings h → map work_of bs ≡ map work_of xs → ArePortsOf h xs → ArePortsOf i bs
  ports_kept h i xs bs same_rings same are k d lt =
      let n = as_many bs xs same in
      let P : List (ℕ × RingName × RingName) → ℕ × RingName × RingName → Type 0 = λ rs port. (0 < port.0) × (slice_get rs (port.0 - 1) ≡ Some port) in
      let port : identity (get_or bs k d).client.port ≡ identity (get_or xs k d).client.port = ap (λ (w : Work). w.port) (work_at bs xs same k d lt) in
      subst (λ rs. P rs (identity (get_or bs k d).client.port)) (sym same_rings) (subst (λ port. P (rings h) port) (sym port) (are k d (omega (arith, n, lt))))

  -- what holds of the first results, and of the next one, holds of one more
  pub one_more : (P : Work → List Item → Type 0) (ds : List (WorkerResult G)) (at : ℕ) (d : WorkerResult G) → at < length ds
      → HoldsOfWorks P ds at → P (work_of d) d.client.items.items → HoldsOfWorks P (set ds at d) (at + 1)
  one_more P ds at d lt before here k e below =
      let Q : WorkerResult G → Type 0 = λ x. P (work_of x) x.client.items.items in
      below_more (λ m. Q (get_or (set ds at d) m e)) at
      (λ m low. let ne : m ≢ at = omega (arith, low) in subst Q (sym (get_or-set_other ds at m d e ne)) (before m e low))
      (subst Q (sym (get_or-set_same ds at d e lt)) here)
      k below

  pub told_same : (moves : Moves G) (ds : List (WorkerResult G)) → AreTold moves ds ds
  told_same moves ds k d below = told_none moves (point_of (get_or ds k d))

  pub told_on : (moves : Moves G) (ds xs ys : List (WorkerResult G)) → length ds ≡ length xs → AreTold moves ds xs → AreTold moves xs ys → AreTold moves ds ys
  told_on moves ds xs ys long first second k d below =
      told_then moves (point_of (get_or ds k d)) (point_of (get_or xs k d)) (point_of (get_or ys k d)) (first k d below)
      (second k d (omega (arith, long, below)))

  pub told_set : (moves : Moves G) (ds xs : List (WorkerResult G)) (at : ℕ) (d was : WorkerResult G) → at < length xs → AreTold moves ds xs
      → IsTold moves (point_of (get_or xs at was)) (point_of d) → AreTold moves ds (set xs at d)
  told_set moves ds xs at d was lt before here k e below =
      let first : Point G = point_of (get_or ds k e) in elim (cases_eq k at) [
        | inl same ↦
            let is : get_or xs k e ≡ get_or xs at was = ap (λ (m : ℕ). get_or xs m e) same ∙ get_or_default xs at e was lt in
            let new : get_or (set xs at d) k e ≡ d = ap (λ (m : ℕ). get_or (set xs at d) m e) same ∙ get_or-set_same xs at d e lt in
            subst (λ (x : WorkerResult G). IsTold moves first (point_of x)) (sym new)
            (told_then moves first (point_of (get_or xs at was)) (point_of d)
            (subst (λ (x : WorkerResult G). IsTold moves first (point_of x)) is (before k e below)) here)
        | inr other ↦ subst (λ (x : WorkerResult G). IsTold moves first (point_of x)) (sym (get_or-set_other xs at k d e other)) (before k e below)
      ]

  -- what was taken and settled, of what was handed back
  module _ (ds xs : List (WorkerResult G)) (vs : List Items) (same : map work_of xs ≡ map work_of ds)
      (are : vs ≡ map (λ (x : WorkerResult G). x.client.items) xs) where
    item_at : (k : ℕ) (d : WorkerResult G) (v : Items) → k < length xs → get_or vs k v ≡ (get_or xs k d).client.items
    item_at k d v lt = ap (λ (ys : List Items). get_or ys k v) are ∙ get_or-map (λ (x : WorkerResult G). x.client.items) xs k d v lt

    pub reported_at : (P : Work → List Item → Type 0) → HoldsOfWorks P xs (length xs) → (k : ℕ) (d : WorkerResult G) (v : Items)
        → k < length ds → P (work_of (get_or ds k d)) (get_or vs k v).items
    reported_at P holds k d v below =
        let n = as_many xs ds same in
        let lt : k < length xs = omega (arith, n, below) in
        subst (λ (w : Work). P w (get_or vs k v).items) (work_at xs ds same k d lt)
        (subst (λ (x : Items). P (work_of (get_or xs k d)) x.items) (sym (item_at k d v lt)) (holds k d lt))

    pub told_at : (moves : Moves G) → AreTold moves ds xs → (k : ℕ) (d : WorkerResult G) (v : Items) → k < length ds
        → IsToldOn moves (point_of (get_or ds k d)) (get_or vs k v).items
    told_at moves told k d v below =
        let n = as_many xs ds same in
        let lt : k < length xs = omega (arith, n, below) in (
          (get_or xs k d).gate,
          subst (λ (x : Items). IsTold moves (point_of (get_or ds k d)) ((get_or xs k d).gate, x.items)) (sym (item_at k d v lt)) (told k d below),
        )
