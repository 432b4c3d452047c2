-- The counts of a resource say which modes fit, and whether some lock is to be warned.
use Rattle.std.proofs.Common.{◌≡◌, ℕ, List, [], ◌∷◌, map, not, ◌&&◌, ◌||◌, Option, None, Some, refl, sym, ap, ◌∙◌}
use Rattle.std.specs.List.{list_all, list_any}
use Rattle.vlm_words.specs.declared.modes.Mode.{Mode}
use Rattle.vlm_words.specs.Rows.{blocks_request, fits, is_beside}
use Rattle.vlm_words.specs.declared.locks.LockState.{LockState}
use Rattle.vlm_words.specs.declared.resources.Queue.TheVariants.{Granted, Conversion, Waiting}
use Rattle.vlm_collections.specs.Lists.{without}
use Rattle.vlm_records.specs.Tallies.{counts_fit, weight_of}
use Rattle.vlm_records.specs.Tallies.Count.{of_wanted}
use Rattle.vlm_records.specs.declared.handles.Place.TheVariants.{Queued}
use Rattle.vlm_records.specs.declared.queues.Queues.{Queues}
use Rattle.vlm_records.proofs.Fitting.{in_the_way, wanted-rows}
use Rattle.vlm_store.specs.Records.{fits_beside, rows_of_locks}
use Rattle.vlm_records.specs.Shown.{handles_at, handles_but, handles_fit, rows, shares}
use Rattle.vlm_store.specs.Store.{Layout, under_handle, resource_of}
use Rattle.vlm_store.proofs.Layouts.{under_handle-without}

-- what fits beside the locks that a caller sees
beside-under_handle : (mode : Mode) (rows : ℕ → LockState) (ks : List ℕ)
    → list_all (λ row. is_beside mode row.held) (rows_of_locks (map (under_handle rows) ks)) ≡ list_all
    (λ k. is_beside mode (rows k).held) ks
beside-under_handle mode rows [] = refl
beside-under_handle mode rows (k ∷ ks) = ap (λ b. is_beside mode (rows k).held && b) (beside-under_handle mode rows ks)

pub fits_beside-handles : (q : Queues) (l : Layout) (r : ℕ) (mode : Mode) (own : Option ℕ) → l.handles ≡ handles_at q → l.rows ≡ rows q
    → handles_fit mode (rows q) (handles_but q own (Queued r Granted)) (handles_but q own (Queued r Conversion)) ≡ fits_beside mode own (resource_of l r)
unfolding fits
fits_beside-handles q l r mode None handles rows_same =
    rw (handles, rows_same)
    (sym (rw (
      beside-under_handle mode (rows q) (handles_at q (Queued r Granted)),
      beside-under_handle mode (rows q) (handles_at q (Queued r Conversion)),
    ) refl))
fits_beside-handles q l r mode (Some own) handles rows_same =
    rw (handles, rows_same)
    (sym (rw (
      under_handle-without (rows q) own (handles_at q (Queued r Granted)),
      under_handle-without (rows q) own (handles_at q (Queued r Conversion)),
      beside-under_handle mode (rows q) (without own (handles_at q (Queued r Granted))),
      beside-under_handle mode (rows q) (without own (handles_at q (Queued r Conversion))),
    ) refl))

-- and so does a caller see it
rows-under_handle : (rows : ℕ → LockState) (ks : List ℕ) → rows_of_locks (map (under_handle rows) ks) ≡ map rows ks
rows-under_handle rows [] = refl
rows-under_handle rows (k ∷ ks) = ap (λ rest. rows k ∷ rest) (rows-under_handle rows ks)

-- a mode that does not fit beside what is wanted is in the way, as a caller sees it
pub in_the_way-handles : (q : Queues) (l : Layout) (r : ℕ) (wanted : Mode → ℕ)
    → ((m : Mode) → wanted m ≡ shares q (weight_of of_wanted m) None r) → l.handles ≡ handles_at q → l.rows ≡ rows q
    → (mode : Mode) → not (counts_fit mode wanted)
    ≡ (list_any (λ row. blocks_request mode row.want) (rows_of_locks (resource_of l r).converting) || list_any
    (λ row. blocks_request mode row.want) (rows_of_locks (resource_of l r).waiting))
in_the_way-handles q l r wanted wanted_is handles rows_same mode =
    let converting = handles_at q (Queued r Conversion) in
    let waiting = handles_at q (Queued r Waiting) in
    in_the_way (rows q) converting waiting (λ m. counts_fit m wanted) (wanted-rows q r wanted wanted_is) mode
    ∙ rw (handles, rows_same) (sym (rw (rows-under_handle (rows q) converting, rows-under_handle (rows q) waiting) refl))
