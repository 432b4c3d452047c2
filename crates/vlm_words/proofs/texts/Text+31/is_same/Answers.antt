use Rattle.std.proofs.Common.{◌≡◌, length, nat_eq, true, sym, ◌∙◌, ap, subst}
use Rattle.std.specs.Cmp.{unsigned_Decides}
use Rattle.std.specs.Cmp.Lexicographic.{pointwise, bytes_decides}
use Rattle.std.proofs.lemmas.Bool.{false≢true}
use Rattle.std.proofs.lemmas.Bool.Decides.{same_from_decides}
use Rattle.vlm_words.specs.NameWords.{word_at}
use Rattle.vlm_words.specs.Padding.{AreBytes, length-text, padded}
use Rattle.vlm_words.proofs.Cells.{same_texts}
use Rattle.vlm_words.proofs.texts.Text+31.is_same.Goals.{then-self-other, else-self-other, then-word, else-word, then-word-2, else-word-2}
use Rattle.vlm_words.proofs.texts.Text+31.is_same.Goals as goal

pub returns-then-word-3 : goal.returns-then-word-3
returns-then-word-3 c =
    let cells : c.self.inside.cells ≡ padded 31 c.args.self.now = c.self.invariant.clear ∙ ap (padded 31) c.self.view_is in
    let others : c.other.inside.cells ≡ padded 31 c.args.other.now = c.other.invariant.clear ∙ ap (padded 31) c.other.view_is in
    let three : c.if-word.value ≡ true = elim c.if-word-2.branch [ then-word-2 w ↦ w.if-word-2.true | else-word-2 w ↦ sym w.value-is ∙ c.if-word-3.true ] in
    let two : c.if-self-other.value ≡ true = elim c.if-word.branch [ then-word w ↦ w.if-word.true | else-word w ↦ sym w.value-is ∙ three ] in
    let len : c.self.inside.len ≡ c.other.inside.len =
    elim c.if-self-other.branch [ then-self-other w ↦ w.if-self-other.true | else-self-other w ↦ (unsigned_Decides _ _).0 (sym w.value-is ∙ two) ] in
    let first : word_at (padded 31 c.args.self.now) 0 ≡ word_at (padded 31 c.args.other.now) 0 =
    elim c.if-self-other.branch [
      | then-self-other w ↦ sym w.word.ensures ∙ (unsigned_Decides _ _).0 (sym w.value-is ∙ two) ∙ w.word-then-self-other.ensures
      | else-self-other w ↦ absurd (w.if-self-other.false len)
    ] in
    let second : word_at (padded 31 c.args.self.now) 8 ≡ word_at (padded 31 c.args.other.now) 8 =
    elim c.if-word.branch [
      | then-word w ↦ sym w.word-then-word.ensures ∙ (unsigned_Decides _ _).0 (sym w.value-is ∙ three) ∙ w.word-then-word-2.ensures
      | else-word w ↦ absurd (false≢true (sym w.if-word.false ∙ two))
    ] in
    let third : word_at (padded 31 c.args.self.now) 16 ≡ word_at (padded 31 c.args.other.now) 16 =
    elim c.if-word-2.branch [
      | then-word-2 w ↦ sym w.word-then-word-2-2.ensures ∙ (unsigned_Decides _ _).0 (sym w.value-is ∙ c.if-word-3.true) ∙ w.word-then-word-2-3.ensures
      | else-word-2 w ↦ absurd (false≢true (sym w.if-word-2.false ∙ three))
    ] in
    let same_len : length c.args.self.now ≡ length c.args.other.now =
    ap length (sym c.self.view_is) ∙ length-text c.self.invariant ∙ len ∙ sym (length-text c.other.invariant) ∙ ap length c.other.view_is in
    same_from_decides (nat_eq c.word-then-word-3.result c.word-then-word-3-2.result) (pointwise nat_eq c.args.self.now c.args.other.now) (
      λ h. same_texts c.args.self.now c.args.other.now (subst AreBytes cells c.self.invariant.bytes) (subst AreBytes others c.other.invariant.bytes)
          (subst (λ x. length x ≡ 31) cells c.self.invariant.whole) (subst (λ x. length x ≡ 31) others c.other.invariant.whole)
          same_len first second third (sym c.word-then-word-3.ensures ∙ (unsigned_Decides _ _).0 h ∙ c.word-then-word-3-2.ensures),
      λ e. (unsigned_Decides _ _).1 (c.word-then-word-3.ensures ∙ ap (λ t. word_at (padded 31 t) 23) e ∙ sym c.word-then-word-3-2.ensures),
    )
    (bytes_decides c.args.self.now c.args.other.now)
