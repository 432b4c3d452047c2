use Rattle.std.proofs.Common.{◌≡◌, length}
use Rattle.vlm_lines.specs.Lines.{all_words, words_of}
use Rattle.vlm_lines.proofs.keyed.Keyed.add_words.Given as goal

abbrev pub invariant-loop-word : goal.invariant-loop-word
invariant-loop-word g l =
    all_words g.Self.Keyed.with_word l.self (words_of l.rest) ≡ all_words g.Self.Keyed.with_word l.initial.self
    (words_of l.initial.rest)

abbrev pub decreases-loop-word : goal.decreases-loop-word
decreases-loop-word g l = length l.rest
