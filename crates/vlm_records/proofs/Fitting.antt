-- The counts of a resource say which modes fit, and whether some lock is to be warned.
use Rattle.std.proofs.Common.{◌≡◌, ℕ, List, [], ◌∷◌, ◌++◌, map, Bool, true, false, not, ◌&&◌, ◌||◌, Option, None, Some, refl, ap, ◌∙◌, arith}
use Rattle.std.proofs.Math.Path.{fun_ext}
use Rattle.std.specs.List.{list_all, list_any}
use Rattle.std.proofs.lemmas.List.Folds.{list_all-append}
use Rattle.vlm_words.specs.declared.locks.Request.{Request}
use Rattle.vlm_words.specs.declared.modes.Mode.{Mode}
use Rattle.vlm_words.specs.Rows.{blocks_request, is_beside}
use Rattle.vlm_words.specs.declared.locks.LockState.{LockState}
use Rattle.vlm_words.specs.declared.resources.Queue.TheVariants.{Granted, Conversion, Waiting}
use Rattle.vlm_words.specs.Modes.{is_compatible}
use Rattle.vlm_words.proofs.Compatible.{is_compatible-comm}
use Rattle.vlm_records.specs.Tallies.{counts_fit, each_counted, is_mode, one_if, total, weight_of}
use Rattle.vlm_records.specs.Tallies.Count.{of_held, of_wanted}
use Rattle.vlm_records.proofs.ModesThatFit.{counts_fit-rows, each_counted-rows, passes}
use Rattle.vlm_records.proofs.Totals.{total-both, total-nothing}
use Rattle.vlm_records.specs.declared.handles.Place.TheVariants.{Queued}
use Rattle.vlm_records.specs.declared.queues.Queues.{Queues}
use Rattle.vlm_records.specs.Shown.{handles_at, handles_but, handles_fit, rows, shares}

-- counts that are the shares of a resource fit as its locks do
pub shares-fit : (q : Queues) (mode : Mode) (own : Option ℕ) (res : ℕ) (counts : Mode → ℕ) → ((m : Mode) → counts m ≡ shares q (weight_of of_held m) own res)
    → counts_fit mode counts ≡ handles_fit mode (rows q) (handles_but q own (Queued res Granted)) (handles_but q own (Queued res Conversion))
shares-fit q mode own res counts tallied =
    let granted = handles_but q own (Queued res Granted) in
    let converting = handles_but q own (Queued res Conversion) in
    let both_counts : (m : Mode) → counts m ≡ total (λ row. one_if (is_mode m row.held)) (rows q) (granted ++ converting) =
    λ m. omega (
      arith,
      tallied m,
      total-both (λ row. one_if (is_mode m row.held)) (rows q) granted converting,
      total-nothing (rows q) (handles_but q own (Queued res Waiting)),
    ) in
    ap (counts_fit mode) (fun_ext both_counts)
    ∙ counts_fit-rows mode (rows q) (granted ++ converting) ∙ list_all-append (λ k. is_beside mode (rows q k).held) granted converting

-- ---- which locks are to be warned

-- not both hold where one does not
not_both : (a b : Bool) → not (a && b) ≡ (not a || not b)
not_both true b = refl
not_both false b = refl

-- not all rows of these handles pass where one does not
not_all : (p : LockState → Bool) (rows : ℕ → LockState) (ks : List ℕ) → not (list_all (λ k. p (rows k)) ks) ≡ list_any (λ row. not (p row)) (map rows ks)
not_all p rows [] = refl
not_all p rows (k ∷ ks) = not_both (p (rows k)) (list_all (λ x. p (rows x)) ks) ∙ ap (λ b. not (p (rows k)) || b) (not_all p rows ks)

-- what is wanted is compatible with a mode, or the mode keeps it out
passes_not : (mode : Mode) (want : Option Request) → not (passes (is_compatible mode) want) ≡ blocks_request mode want
passes_not mode None = refl
passes_not mode (Some want) = ap not (is_compatible-comm mode want.mode)

module _ (rows : ℕ → LockState) (converting waiting : List ℕ) (fit : Mode → Bool)
    (is : (mode : Mode) → fit mode ≡ list_all (λ k. passes (is_compatible mode) (rows k).want) (converting ++ waiting)) where
  -- a mode is in the way where it does not fit beside all that is wanted
  pub in_the_way : (mode : Mode)
      → not (fit mode) ≡ (list_any (λ row. blocks_request mode row.want) (map rows converting) || list_any
      (λ row. blocks_request mode row.want) (map rows waiting))
  in_the_way mode =
      ap not (is mode ∙ list_all-append (λ k. passes (is_compatible mode) (rows k).want) converting waiting)
      ∙ not_both (list_all (λ k. passes (is_compatible mode) (rows k).want) converting) (list_all (λ k. passes (is_compatible mode) (rows k).want) waiting)
      ∙ ap (λ b. b || not (list_all (λ k. passes (is_compatible mode) (rows k).want) waiting)) (some converting)
      ∙ ap (λ b. list_any (λ row. blocks_request mode row.want) (map rows converting) || b) (some waiting)
    where
      some : (ks : List ℕ) → not (list_all (λ k. passes (is_compatible mode) (rows k).want) ks) ≡ list_any (λ row. blocks_request mode row.want) (map rows ks)
      some ks =
          not_all (λ row. passes (is_compatible mode) row.want) rows ks
          ∙ ap (λ test. list_any test (map rows ks)) (fun_ext (λ (row : LockState). passes_not mode row.want))

-- counts that are the shares of a resource tell which modes are in the way
pub wanted-rows : (q : Queues) (res : ℕ) (wanted : Mode → ℕ) → ((m : Mode) → wanted m ≡ shares q (weight_of of_wanted m) None res) → (mode : Mode)
    → counts_fit mode wanted ≡ list_all (λ k. passes (is_compatible mode) (rows q k).want)
    (handles_at q (Queued res Conversion) ++ handles_at q (Queued res Waiting))
unfolding counts_fit
wanted-rows q res wanted wanted_is mode =
    let granted = handles_at q (Queued res Granted) in
    let converting = handles_at q (Queued res Conversion) in
    let waiting = handles_at q (Queued res Waiting) in
    let of_rows : (m : Mode) → wanted m ≡ total (λ row. one_if (is_mode m row.want)) (rows q) (converting ++ waiting) =
    λ m. omega (arith, wanted_is m, total-both (λ row. one_if (is_mode m row.want)) (rows q) converting waiting, total-nothing (rows q) granted) in
    ap (each_counted (is_compatible mode)) (fun_ext of_rows) ∙ each_counted-rows (is_compatible mode) (λ row. row.want) (rows q) (converting ++ waiting)
