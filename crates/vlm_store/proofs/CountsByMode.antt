-- The counts of a resource say how many locks hold each mode, and its lists how long its queues are.
use Rattle.std.proofs.Common.{◌≡◌, ◌≤◌, ℕ, ◌+◌, List, [], ◌∷◌, ◌++◌, length, map, count_by, None, refl, sym, ap, ◌∙◌, arith}
use Rattle.std.proofs.Math.Path.{fun_ext}
use Rattle.std.proofs.lemmas.List.{length-map}
use Rattle.std.proofs.lemmas.List.Sums.{sum_by-append, sum_by-cons}
use Rattle.vlm_words.specs.declared.locks.LockState.{LockState}
use Rattle.vlm_words.specs.declared.modes.Mode.{Mode}
use Rattle.vlm_words.specs.declared.resources.Queue.{Queue}
use Rattle.vlm_words.specs.declared.resources.Queue.TheVariants.{Granted, Conversion, Waiting}
use Rattle.vlm_collections.specs.declared.link.TheConstants.{LAST_HANDLE}
use Rattle.vlm_collections.proofs.HandleLists.{length-below}
use Rattle.vlm_records.specs.Tallies.{by_mode, is_mode, one_if, total, weight_of}
use Rattle.vlm_records.specs.Tallies.Count.{of_held}
use Rattle.vlm_records.proofs.Totals.{total-nothing}
use Rattle.vlm_records.specs.declared.handles.Place.{Place}
use Rattle.vlm_records.specs.declared.handles.Place.TheVariants.{Queued}
use Rattle.vlm_records.specs.declared.queues.Queues.{Queues}
use Rattle.vlm_records.specs.Shown.{IsPlaced, handles_at, rows, shares}
use Rattle.vlm_store.specs.Held.{held_counts}
use Rattle.vlm_store.specs.Records.{queued, rows_of_locks}
use Rattle.vlm_store.specs.Store.{Layout, resource_of, under_handle}
use Rattle.vlm_store.proofs.Layouts.{queued-handles}

-- ---- how many hold each mode

-- what the rows under these handles weigh together is how many of them hold the mode
total-holds : (mode : Mode) (rows : ℕ → LockState) (ks : List ℕ)
    → total (λ row. one_if (is_mode mode row.held)) rows ks ≡ count_by (λ row. is_mode mode row.held)
    (rows_of_locks (map (under_handle rows) ks))
total-holds mode rows [] = refl
total-holds mode rows (k ∷ ks) =
    ap (λ n. one_if (is_mode mode (rows k).held) + n) (total-holds mode rows ks)
    ∙ sym (sum_by-cons (λ row. one_if (is_mode mode row.held)) (rows k) (rows_of_locks (map (under_handle rows) ks)))

-- counts that are the shares of a resource are those that a caller sees
pub held_counts-handles : (q : Queues) (l : Layout) (r : ℕ) (held : Mode → ℕ)
    → ((m : Mode) → held m ≡ shares q (weight_of of_held m) None r) → l.handles ≡ handles_at q → l.rows ≡ rows q
    → by_mode held ≡ held_counts (rows_of_locks (resource_of l r).granted ++ rows_of_locks (resource_of l r).converting)
held_counts-handles q l r held held_is handles rows_same =
    let seen : List ℕ → List LockState = λ ks. rows_of_locks (map (under_handle (rows q)) ks) in
    let granted = handles_at q (Queued r Granted) in
    let converting = handles_at q (Queued r Conversion) in
    let of_rows : (m : Mode) → held m ≡ count_by (λ row. is_mode m row.held) (seen granted ++ seen converting) =
    λ m. omega (
      arith,
      held_is m,
      total-holds m (rows q) granted,
      total-holds m (rows q) converting,
      total-nothing (rows q) (handles_at q (Queued r Waiting)),
      sum_by-append (λ row. one_if (is_mode m row.held)) (seen granted) (seen converting),
    ) in
    rw (handles, rows_same) (ap by_mode (fun_ext of_rows))

-- ---- how long a queue is

-- a list is no longer than there are handles
pub length-at : (q : Queues) (place : Place) → IsPlaced q None → length (handles_at q place) ≤ LAST_HANDLE + 1
length-at q place placed =
    length-below (LAST_HANDLE + 1) (handles_at q place) (placed.linked place).apart (λ k found. let le = (placed.linked place).within k found in omega arith)

-- a queue that a caller sees is as long as its list
pub length-queued : (l : Layout) (queue : Queue) (r : ℕ) → length (queued queue (resource_of l r)) ≡ length (l.handles (Queued r queue))
length-queued l queue r = ap length (queued-handles l queue r) ∙ length-map (l.handles (Queued r queue)) (under_handle l.rows)
