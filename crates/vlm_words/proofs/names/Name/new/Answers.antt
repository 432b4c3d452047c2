use Rattle.std.proofs.Common.{◌≡◌, ◌<◌, ◌≤◌, List, ℕ, length, Ok, ap, sym, ◌∙◌, arith}
use Rattle.std.proofs.lemmas.Bool.Decides.{nat_tests}
use Rattle.std.proofs.lemmas.List.{take_all}
use Rattle.vlm_words.specs.Names.{name_of}
use Rattle.vlm_words.proofs.names.Name.new.Goals as goal

-- bytes of a name's length are a name
accepted : (bytes : List ℕ) → 0 < length bytes → length bytes ≤ 31 → name_of bytes ≡ Ok bytes
unfolding name_of
accepted bytes some short = grind (arith, nat_tests)

pub returns-then-len-le31 : goal.returns-then-len-le31
returns-then-len-le31 c =
    let bytes = c.args.bytes.now in
    ap Ok (c.of.ensures ∙ take_all 31 bytes c.if-len-le31.true) ∙ sym (accepted bytes c.if-len-gt0.true c.if-len-le31.true)
