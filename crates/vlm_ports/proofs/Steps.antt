-- The steps on a board keep its rule.
use Rattle.std.proofs.Common.{◌≡◌, ◌≢◌, ℕ, List, [], ◌∷◌, ◌++◌, length, set, Result, Ok, Err, IsOk, MatchResult, refl, sym, ◌∙◌, subst, ⊎_elim}
use mathlib.Core.Option.{some, some-ne-none}
use mathlib.Core.List.{IsPrefix}
use lib.ListN.{get_elem?}
use Rattle.crossbeam_utils.specs.Register.{Admits, Forks, Merges, TurnsAt}
use Rattle.atomic_table.proofs.Lists.{at_set, at_snoc, set_again}
use Rattle.vlm_journal.proofs.Lists.{prefix_more}
use Rattle.vlm_ports.specs.declared.watch.rows.Change.{Change}
use Rattle.vlm_ports.specs.declared.watch.sheet.Sheet.{Sheet}
use Rattle.vlm_ports.specs.declared.watch.view.View.{View}
use Rattle.vlm_ports.specs.Rule.{Each, Fits, Kept, Open, Publish, See, informed, knowing, newcomer, note_of}
use Rattle.vlm_ports.specs.Sheets.{changes_to}
use Rattle.vlm_ports.proofs.Beginnings.{begins_itself}

module _ (P : View → Type 0) (views : List View) (each : Each P views) where
  each_set : (place : ℕ) (w : View) → P w → Each P (set views place w)
  each_set place w new other v at = ⊎_elim
      (λ (t : (other ≡ place) × (w ≡ v)). subst P t.1 new)
      (λ (t : (other ≢ place) × (get_elem? views other ≡ some v)). each other v t.1)
      (at_set views place other w v at)

  each_more : (w : View) → P w → Each P (views ++ w ∷ [])
  each_more w new other v at = ⊎_elim (each other v) (λ (t : w ≡ v). subst P t new) (at_snoc views w v other at)

none_fits : (P : View → Type 0) → Each P []
none_fits P place v at = absurd (some-ne-none v (sym at))

newcomer_fits : (sheet : Sheet) → Fits sheet newcomer
newcomer_fits sheet = record { begins = (changes_to sheet, refl); book = λ is. absurd cc }

pub begins : (sheet : Sheet) → sheet.count ≡ length (changes_to sheet) → Kept sheet (newcomer ∷ [])
begins sheet count = (count, each_more (Fits sheet) [] (none_fits (Fits sheet)) newcomer (newcomer_fits sheet))

pub admits : Admits Kept newcomer
admits sheet views kept = (kept.0, each_more (Fits sheet) views kept.1 newcomer (newcomer_fits sheet))

pub sees : (place : ℕ) (v : View) (sheet : Sheet) → TurnsAt Kept place v sheet sheet See
sees place v sheet views kept at =
    let was : Fits sheet v = kept.1 place v at in
    let w : View = record v { seen = changes_to sheet } in
    let fits : Fits sheet w = record { begins = begins_itself (changes_to sheet); book = was.book } in
    (w, (kept.0, each_set (Fits sheet) views kept.1 place w fits), (refl, was, kept.0))

pub opens : (place : ℕ) (v : View) (shown next : Sheet) → next ≡ shown → TurnsAt Kept place v shown next Open
opens place v shown next is views kept at =
    let w : View = knowing shown.before.book v in
    let fits : Fits shown w = record { begins = (kept.1 place v at).begins; book = λ _. refl } in
    let after : Kept shown (set views place w) = (kept.0, each_set (Fits shown) views kept.1 place w fits) in
    (w, subst (λ (sheet : Sheet). Kept sheet (set views place w)) (sym is) after, refl)

pub publishes : (place : ℕ) (v : View) (shown next : Sheet) (change : Change) → changes_to next ≡ changes_to shown ++ change ∷ []
    → next.count ≡ length (changes_to next) → next.before.book ≡ shown.before.book → TurnsAt Kept place v shown next Publish
publishes place v shown next change longer count book views kept at =
    let still : (u : View) → Fits shown u → Fits next u = λ u fits. record {
      begins = subst (IsPrefix u.seen) (sym longer) (prefix_more u.seen (changes_to shown) (change ∷ []) fits.begins);
      book = λ knows. fits.book knows ∙ sym book;
    } in
    let w : View = record v { seen = changes_to next } in
    let fits : Fits next w = record { begins = begins_itself (changes_to next); book = (still v (kept.1 place v at)).book } in
    let each : Each (Fits next) views = λ other u there. still u (kept.1 other u there) in
    (w, (count, each_set (Fits next) views each place w fits), refl)

pub forks : (place : ℕ) (v : View) → Forks Kept place v v (note_of v)
forks place v sheet views kept at =
    let note : Fits sheet (note_of v) = record { begins = (changes_to sheet, refl); book = (kept.1 place v at).book } in
    subst (λ (all : List View). Kept sheet (all ++ note_of v ∷ [])) (sym (set_again views place v at))
    (kept.0, each_more (Fits sheet) views kept.1 (note_of v) note)

pub merges : (place : ℕ) (v : View) (other : ℕ) (w : View) → Merges Kept place v other w (informed v w) newcomer
merges place v other w sheet views kept at apart there =
    let both : View = informed v w in
    let told : Fits sheet w = ⊎_elim
    (λ (t : (other ≡ place) × (both ≡ w)). absurd (apart t.0))
    (λ (t : (other ≢ place) × (get_elem? views other ≡ some w)). kept.1 other w t.1)
    (at_set views place other both w there) in
    let fits : Fits sheet both = record { begins = (kept.1 place v at).begins; book = told.book } in
    let first = each_set (Fits sheet) views kept.1 place both fits in
    (kept.0, each_set (Fits sheet) (set views place both) first other newcomer (newcomer_fits sheet))

-- of what holds at Ok and at Err, what holds where it is Ok
pub at_ok : {U E : Type 0} (A C : U → Type 0) (B D : E → Type 0) (r : Result U E) → IsOk r → MatchResult r A B → MatchResult r C D
    → (u : U) × A u × C u
at_ok A C B D (Ok u) ok a c = (u, a, c)
at_ok A C B D (Err e) ok b d = absurd cc
