-- The exchange that adds a change keeps the count of the book.
use Rattle.std.proofs.Common.{◌≡◌, ℕ, ◌+◌, ◌<◌, ◌==◌, Bool, true, false, List, [], ◌∷◌, ◌++◌, length, None, refl, ap, sym, subst, arith, inl, length-append}
use Rattle.std.proofs.lemmas.List.{append-nil}
use Rattle.std.proofs.lemmas.Bool.Decides.{nat_tests}
use mathlib.Core.List.{IsPrefix}
use prog.Atomic.{either}
use Rattle.logbook.specs.Pages.{Cell, Goes, Moves, View, cell, keeps, no_nib, step}
use Rattle.vlm_ports.specs.declared.watch.rows.Change.{Change}
use Rattle.vlm_ports.specs.Histories.{Counts, Lengthens}
use Rattle.vlm_ports.proofs.Beginnings.{begins_all}

-- callers are shown nothing of the log, and trade nothing
abbrev pub unseen : List Change → List Change
unseen log = []

abbrev pub for_nothing : List Change → List Change → ℕ → Type 0
for_nothing before after answer = Unit {0}

module _ (reached : List Change) (change : Change) (old : ℕ) where
  -- what the caller has reached, with no pen and no answer
  abbrev pub start : View Change ℕ
  start = (reached, (no_nib, None))

  -- what the exchange makes of the word
  abbrev pub exchanged : ℕ → ℕ
  exchanged found = either (found == old) (old + 1) found

  -- the exchange goes as it is told, whatever the cells and the log are
  abbrev pub Exchanges : List Cell → List Change → Type 0
  Exchanges = Goes Counts unseen for_nothing 0 start exchanged (Lengthens (step 0 old (old + 1) change) start)

  module _ (log : List Change) where
    -- it goes by adding these, if they are what the word counts then
    goes_by : (more : List Change) → exchanged (length log) ≡ length (log ++ more)
        → ((length log == old) ≡ true → log ++ more ≡ reached ++ change ∷ []) → Exchanges ((length log, true) ∷ (0, true) ∷ []) log
    goes_by more counts told = (
      keeps,
      more,
      None,
      tt,
      ap (λ (count : ℕ). (count, true) ∷ (0, true) ∷ []) counts,
      inl (refl, refl),
      told,
    )

    -- it adds the change where the number is the one that was told, and else nothing
    goes : length reached ≡ old → IsPrefix reached log → (found : Bool) → (length log == old) ≡ found
        → Exchanges ((length log, true) ∷ (0, true) ∷ []) log
    goes len begins true is =
        let here : length log ≡ old = grind (arith, nat_tests) in
        let whole : reached ≡ log = begins_all reached log begins (omega (arith, here, len)) in
        let counts : exchanged (length log) ≡ length (log ++ change ∷ []) = rw is (omega (arith, here, length-append log (change ∷ []))) in
        goes_by (change ∷ []) counts (λ found. ap (λ (l : List Change). l ++ change ∷ []) (sym whole))
    goes len begins false is =
        let counts : exchanged (length log) ≡ length (log ++ []) = rw is (ap length (sym (append-nil log))) in
        goes_by [] counts (λ found. absurd (cc (found, is)))

  pub lengthens : length reached ≡ old → Moves Counts unseen for_nothing 0 start exchanged (Lengthens (step 0 old (old + 1) change) start)
  lengthens len cells log counts begins away =
      let Goal : List Cell → Type 0 = λ cs. (0 < length cs) × ((cell cs 0).1 ≡ true) × Exchanges cs log in
      subst Goal (sym counts) (omega arith, refl, goes log len begins (length log == old) refl)
