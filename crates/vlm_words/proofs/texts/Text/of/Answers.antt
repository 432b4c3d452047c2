use Rattle.std.proofs.Common.{ℕ, ◌≡◌, ◌≤◌, List, ◌++◌, length, drop, take, replicate, ◌∙◌, sym, subst, ◌-◌, arith, rules}
use Rattle.std.proofs.Math.Seq.{take-append_seam}
use Rattle.std.proofs.lemmas.Grind.{common_steps}
use Rattle.std.proofs.lemmas.List.{drop-replicate, length-take-le, length-replicate}
use Rattle.vlm_words.specs.Padding.{AreBytes, IsPadded}
use Rattle.vlm_words.proofs.Cells.{both_bytes, take_bytes, zero_bytes}
use Rattle.vlm_words.proofs.texts.Text.of.Goals as goal

-- a text before what is left of an array of zeros is padded
padded_from_text : (size len : ℕ) (text : List ℕ) → length text ≡ len → len ≤ size → AreBytes (text ++ drop len (replicate size 0))
    → IsPadded size len (text ++ drop len (replicate size 0))
padded_from_text size len text is short bytes = record {
  fits = short;
  whole = grind (arith, common_steps);
  clear =
      let front : take len (text ++ drop len (replicate size 0)) ≡ text = rw (← is) (take-append_seam text _) in
      rw (front, drop-replicate, is);
  bytes = bytes;
}

pub invariant_of-result : goal.invariant_of-result
invariant_of-result g c =
    let short : c.min-len.result ≤ g.row.N = omega arith in
    padded_from_text g.row.N c.min-len.result c.copy_from_slice.new.self
    (c.copy_from_slice.ensures.len ∙ length-take-le c.min-len.result (replicate g.row.N 0) (omega (arith, length-replicate {A = ℕ} g.row.N 0))) short
    (both_bytes c.copy_from_slice.new.self (drop c.min-len.result (replicate g.row.N 0))
    (subst AreBytes (sym c.copy_from_slice.ensures.after) (take_bytes c.min-len.result c.args.bytes.now (λ i. search (rules, c.type_inv.bytes))))
    (subst AreBytes (sym (drop-replicate c.min-len.result g.row.N 0)) (zero_bytes (g.row.N - c.min-len.result))))
