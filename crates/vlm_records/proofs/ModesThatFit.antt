-- The counts of modes say which modes fit, and whether some lock is to be warned.
use Rattle.std.proofs.Common.{◌≡◌, ℕ, zero, suc, ◌+◌, List, [], ◌∷◌, Bool, true, false, ◌&&◌, ◌||◌, Option, None, Some, refl, sym, ap, ◌∙◌, arith}
use Rattle.std.proofs.Math.Path.{fun_ext}
use Rattle.std.specs.Prelude.{◌==◌}
use Rattle.std.specs.List.{list_all}
use Rattle.std.proofs.lemmas.Bool.{and_parts, or_left, or_right}
use Rattle.std.proofs.lemmas.Bool.Decides.{nat_tests}
use Rattle.vlm_words.specs.declared.locks.Request.{Request}
use Rattle.vlm_words.specs.declared.locks.LockState.{LockState}
use Rattle.vlm_words.specs.declared.modes.Mode.{Mode}
use Rattle.vlm_words.specs.declared.modes.Mode.TheVariants.{Nl, Cr, Cw, Pr, Pw, Ex}
use Rattle.vlm_words.specs.Modes.{is_compatible, rank}
use Rattle.vlm_words.specs.Rows.{is_beside}
use Rattle.vlm_records.specs.Tallies.{counts_fit, each_counted, is_mode, none_or, one_if, total}

-- the mode of a rank
of_rank : ℕ → Mode
of_rank zero = Nl
of_rank (suc zero) = Cr
of_rank (suc (suc zero)) = Cw
of_rank (suc (suc (suc zero))) = Pr
of_rank (suc (suc (suc (suc zero)))) = Pw
of_rank (suc (suc (suc (suc (suc n))))) = Ex

of_rank-rank : (m : Mode) → of_rank (rank m) ≡ m
unfolding of_rank
of_rank-rank Nl = refl
of_rank-rank Cr = refl
of_rank-rank Cw = refl
of_rank-rank Pr = refl
of_rank-rank Pw = refl
of_rank-rank Ex = refl

-- modes of one rank are the same
rank_tells : (a b : Mode) → rank a ≡ rank b → a ≡ b
rank_tells a b same = sym (of_rank-rank a) ∙ ap of_rank same ∙ of_rank-rank b

-- two tests that follow from each other are the same
same_test : (a b : Bool) → (a ≡ true → b ≡ true) → (b ≡ true → a ≡ true) → a ≡ b
same_test true b to from = sym (to refl)
same_test false true to from = from refl
same_test false false to from = refl

-- a count of nothing has no part
part_zero : (a b : ℕ) → (a + b == 0) ≡ true → (b == 0) ≡ true
part_zero a b h = grind (arith, nat_tests)

more_than_zero : (b : ℕ) → (1 + b == 0) ≡ false
more_than_zero b = grind (arith, nat_tests)

nothing_more : (b : ℕ) → (b == 0) ≡ true → (0 + b == 0) ≡ true
nothing_more b h = grind (arith, nat_tests)

free_rest : (a b : ℕ) (c : Bool) → ((a + b == 0) || c) ≡ true → ((b == 0) || c) ≡ true
free_rest a b true h = or_right (b == 0) true refl
free_rest a b false h = or_left _ _ (part_zero a b (left h))
  where
    left : ((a + b == 0) || false) ≡ true → (a + b == 0) ≡ true
    left g = by_test (a + b == 0) g
      where
        by_test : (t : Bool) → (t || false) ≡ true → t ≡ true
        by_test true g = refl
        by_test false g = cc

same_rank : (m : Mode) → (rank m == rank m) ≡ true
same_rank m = grind (arith, nat_tests)

rank_same : (a b : Mode) → (rank a == rank b) ≡ true → rank a ≡ rank b
rank_same a b h = grind (arith, nat_tests)

-- the request, if there is one, is for a mode that passes the test
abbrev pub passes : (Mode → Bool) → Option Request → Bool
passes test None = true
passes test (Some request) = test request.mode

module _ (test : Mode → Bool) where
  -- the counts pass where each mode does
  six : (a b c d e f : Bool) → (a && (b && (c && (d && (e && f))))) ≡ true → (a ≡ true) × (b ≡ true) × (c ≡ true) × (d ≡ true) × (e ≡ true) × (f ≡ true)
  six a b c d e f h =
      let h1 = and_parts a (b && (c && (d && (e && f)))) h in
      let h2 = and_parts b (c && (d && (e && f))) h1.1 in
      let h3 = and_parts c (d && (e && f)) h2.1 in
      let h4 = and_parts d (e && f) h3.1 in
      let h5 = and_parts e f h4.1 in
      (h1.0, h2.0, h3.0, h4.0, h5.0, h5.1)

  each_free : (f : Mode → ℕ) → each_counted test f ≡ true → (m : Mode) → none_or test f m ≡ true
  each_free f fit m = by_mode (six (none_or test f Nl) (none_or test f Cr) (none_or test f Cw) (none_or test f Pr)
      (none_or test f Pw) (none_or test f Ex) fit) m
    where
      by_mode : (none_or test f Nl ≡ true) × (none_or test f Cr ≡ true) × (none_or test f Cw ≡ true)
          × (none_or test f Pr ≡ true) × (none_or test f Pw ≡ true) × (none_or test f Ex ≡ true)
          → (m : Mode) → none_or test f m ≡ true
      by_mode all Nl = all.0
      by_mode all Cr = all.1
      by_mode all Cw = all.2
      by_mode all Pr = all.3
      by_mode all Pw = all.4
      by_mode all Ex = all.5

  all_free : (f : Mode → ℕ) → ((m : Mode) → none_or test f m ≡ true) → each_counted test f ≡ true
  all_free f free = rw (free Nl, free Cr, free Cw, free Pr, free Pw, free Ex) refl

  module _ (asked : LockState → Option Request) (rows : ℕ → LockState) where
    -- how many of the rows ask for a mode
    abbrev except : List ℕ → Mode → ℕ
    except ks m = total (λ row. one_if (is_mode m (asked row))) rows ks

    passes_first : (request : Option Request) (count : Mode → ℕ)
        → ((m : Mode) → none_or test (λ x. one_if (is_mode x request) + count x) m ≡ true) → passes test request ≡ true
    passes_first None count free = refl
    passes_first (Some request) count free =
        let h = free request.mode in rw (same_rank request.mode, more_than_zero (count request.mode)) at h

    all_pass : (ks : List ℕ) → ((m : Mode) → none_or test (except ks) m ≡ true) → list_all (λ k. passes test (asked (rows k))) ks ≡ true
    all_pass [] free = refl
    all_pass (k ∷ ks) free =
        rw (passes_first (asked (rows k)) (except ks) free)
        (all_pass ks (λ m. free_rest (one_if (is_mode m (asked (rows k)))) (except ks m) (test m) (free m)))

    none_first : (request : Option Request) (m : Mode) → passes test request ≡ true → test m ≡ false → is_mode m request ≡ false
    none_first None m pass fails = refl
    none_first (Some request) m pass fails =
        elim (rank request.mode == rank m) as (λ b. (rank request.mode == rank m) ≡ b → b ≡ false) [
          | true ↦ λ same. let e = ap test (rank_tells request.mode m (rank_same request.mode m same)) in cc
          | false ↦ λ _. refl
        ] refl

    none_asks : (ks : List ℕ) → list_all (λ k. passes test (asked (rows k))) ks ≡ true → (m : Mode) → test m ≡ false → (except ks m == 0) ≡ true
    none_asks [] pass m fails = refl
    none_asks (k ∷ ks) pass m fails =
        let parts = and_parts (passes test (asked (rows k))) (list_all (λ x. passes test (asked (rows x))) ks) pass in
        rw (none_first (asked (rows k)) m parts.0 fails) (nothing_more (except ks m) (none_asks ks parts.1 m fails))

    free_all : (ks : List ℕ) → list_all (λ k. passes test (asked (rows k))) ks ≡ true → (m : Mode) → none_or test (except ks) m ≡ true
    free_all ks pass m =
        elim (test m) as (λ b. test m ≡ b → ((except ks m == 0) || b) ≡ true) [
          | true ↦ λ _. or_right (except ks m == 0) true refl
          | false ↦ λ fails. or_left _ _ (none_asks ks pass m fails)
        ] refl

    -- the modes that are counted pass exactly where each row asks for a mode that does
    pub each_counted-rows : (ks : List ℕ)
        → each_counted test (λ x. total (λ row. one_if (is_mode x (asked row))) rows ks) ≡ list_all
        (λ k. passes test (asked (rows k))) ks
    each_counted-rows ks =
        same_test _ _ (λ fit. all_pass ks (each_free (except ks) fit)) (λ pass. all_free (except ks) (free_all ks pass))

-- a mode is compatible with what is held, or nothing is
beside_is : (mode : Mode) (held : Option Request) → passes (is_compatible mode) held ≡ is_beside mode held
beside_is mode None = refl
beside_is mode (Some held) = refl

-- the counts fit exactly where the mode is compatible with what each lock holds
pub counts_fit-rows : (mode : Mode) (rows : ℕ → LockState) (ks : List ℕ)
    → counts_fit mode (λ x. total (λ row. one_if (is_mode x row.held)) rows ks) ≡ list_all
    (λ k. is_beside mode (rows k).held) ks
unfolding counts_fit
counts_fit-rows mode rows ks =
    each_counted-rows (is_compatible mode) (λ row. row.held) rows ks ∙ ap (λ test. list_all test ks) (fun_ext (λ k. beside_is mode (rows k).held))
