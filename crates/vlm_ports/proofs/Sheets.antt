-- What a sheet shows, beside what was told.
use Rattle.std.proofs.Common.{◌≡◌, ◌+◌, ◌<◌, List, [], ◌∷◌, ◌++◌, length, length-append, arith, Option, Some, None, fold, refl, ap, sym, ◌∙◌, subst}
use Rattle.std.proofs.lemmas.List.{append-nil, nil_from_length}
use Rattle.std.proofs.lemmas.List.Sums.{fold-append}
use Rattle.std.specs.List.{last_or}
use mathlib.Core.List.{IsPrefix}
use Rattle.vlm_journal.proofs.Lists.{prefix_more}
use Rattle.vlm_ports.specs.declared.watch.rows.Change.{Change}
use Rattle.vlm_ports.specs.declared.watch.sheet.Sheet.{Sheet}
use Rattle.vlm_ports.specs.declared.watch.sheet.Update.{Update}
use Rattle.vlm_ports.specs.Sheets.{updated, with_last}
use Rattle.vlm_ports.proofs.Beginnings.{begins_itself, shorter_begins}

last_or-append : {A : Type 0} (other : Option A) (xs : List A) (x : A) → last_or other (xs ++ x ∷ []) ≡ Some x
last_or-append other [] x = refl
last_or-append other (y ∷ ys) x = last_or-append (Some y) ys x

pub last-of-sheet : (before : List Change) (last : Option Change) → last_or None (with_last before last) ≡ last
last-of-sheet before None = refl
last-of-sheet before (Some change) = last_or-append None before change

-- a list that is one longer than its beginning, by its last
one_more : (before told rest : List Change) (change : Change) → before ++ rest ≡ told → length told ≡ length before + 1
    → last_or None told ≡ Some change → told ≡ before ++ change ∷ []
one_more before told [] change is len last = absurd (omega (arith, ap length is, len, length-append before []))
one_more before told (next ∷ []) change is len last =
    let same : Some next ≡ Some change = sym (last_or-append None before next) ∙ (ap (last_or None) is ∙ last) in
    let at : next ≡ change = cc same in sym is ∙ ap (λ (c : Change). before ++ c ∷ []) at
one_more before told (next ∷ third ∷ rest) change is len last =
    absurd (omega (arith, ap length is, len, length-append before (next ∷ third ∷ rest)))

module _ (before told all : List Change) (reached : IsPrefix before all) (known : IsPrefix told all) where
  -- what is shorter than what a sheet shows begins it
  pub fewer-begin : (last : Option Change) → length told < length (with_last before last) → IsPrefix told (with_last before last)
  fewer-begin None less = absurd (omega (arith, less))
  fewer-begin (Some change) less =
      prefix_more told before (change ∷ []) (shorter_begins told before all known reached (omega (arith, less, length-append before (change ∷ []))))

  -- what is as long and has the same last is what the sheet shows
  pub as-many-begin : (last : Option Change) → length told ≡ length (with_last before last) → last_or None told ≡ last
      → IsPrefix told (with_last before last)
  as-many-begin None len last = ([], append-nil told ∙ nil_from_length told len)
  as-many-begin (Some change) len last =
      let count : length told ≡ length before + 1 = omega (arith, len, length-append before (change ∷ [])) in
      let start = shorter_begins before told all reached known (omega (arith, count)) in
      let is = one_more before told start.0 change start.1 count last in
      subst (λ (l : List Change). IsPrefix l (before ++ change ∷ [])) (sym is) (begins_itself (before ++ change ∷ []))

-- a sheet once the last of what is pending is taken in
pub taken_in : (sheet next : Sheet) (pending before : List Update) (update : Update) → pending ≡ before ++ update ∷ []
    → next ≡ fold updated sheet pending → next ≡ updated sheet update
taken_in sheet next pending before update is folded =
    folded ∙ (ap (fold updated sheet) is ∙ fold-append updated sheet before (update ∷ []))
