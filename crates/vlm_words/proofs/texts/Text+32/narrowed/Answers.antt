use Rattle.std.proofs.Common.{ℕ, ◌≡◌, ◌≤◌, ◌+◌, ◌-◌, List, ◌++◌, length, take, replicate, sym, ap, ◌∙◌, subst, arith}
use Rattle.std.proofs.Math.Seq.{take-append-add, take-append_seam}
use Rattle.std.proofs.lemmas.List.{take-replicate}
use Rattle.vlm_words.specs.Padding.{AreBytes, IsPadded, length-text, padded}
use Rattle.vlm_words.proofs.Cells.{take_bytes}
use Rattle.vlm_words.proofs.texts.Text+32.narrowed.Goals as goal

-- the first 31 of a text's 32 cells
first_cells : (text : List ℕ) → length text ≤ 31 → take 31 (padded 32 text) ≡ padded 31 text
first_cells text short =
    let split : 31 ≡ length text + (31 - length text) = omega (arith, short) in
    ap (λ n. take n (padded 32 text)) split
    ∙ take-append-add text (replicate (32 - length text) 0) (31 - length text)
    ∙ ap (λ zeros. text ++ zeros) (take-replicate (31 - length text) (32 - length text) 0 (omega (arith, short)))

module _ (len : ℕ) (cells narrow : List ℕ) (kept : IsPadded 32 len cells) (short : length (take len cells) ≤ 31) (is : narrow ≡ take 31 cells) where
  cells_are : narrow ≡ padded 31 (take len cells)
  cells_are = is ∙ ap (take 31) kept.clear ∙ first_cells (take len cells) short

  pub text_is : take len narrow ≡ take len cells
  text_is =
      ap (take len) cells_are
      ∙ ap (λ n. take n (padded 31 (take len cells))) (sym (length-text kept))
      ∙ take-append_seam (take len cells) (replicate (31 - length (take len cells)) 0)

  pub is_narrow : length narrow ≡ 31 → AreBytes narrow → IsPadded 31 len narrow
  is_narrow whole bytes = record {
    fits = subst (λ n. n ≤ 31) (length-text kept) short;
    whole = whole;
    clear = cells_are ∙ ap (padded 31) (sym text_is);
    bytes = bytes;
  }

pub invariant_of-result : goal.invariant_of-result
invariant_of-result c =
    is_narrow c.self.inside.len c.self.inside.cells c.copy_from_slice.new.self c.self.invariant
    (rw (← c.self.view_is) at c.requires) c.copy_from_slice.ensures.after
    c.copy_from_slice.ensures.len (subst AreBytes (sym c.copy_from_slice.ensures.after) (take_bytes 31 c.self.inside.cells c.self.invariant.bytes))

pub returns : goal.returns
returns c =
    text_is c.self.inside.len c.self.inside.cells c.copy_from_slice.new.self c.self.invariant
    (rw (← c.self.view_is) at c.requires) c.copy_from_slice.ensures.after ∙ c.self.view_is
