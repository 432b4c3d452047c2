use Rattle.std.proofs.Common.{arith}
use Rattle.std.proofs.lemmas.Grind.{common_steps}
use Rattle.vlm_lines.proofs.Digits.{hex_text-encode}
use Rattle.vlm_lines.proofs.printed.line.hexadecimal.Goals as goal

pub returns-clause-text : goal.returns-clause-text
returns-clause-text c =
    let same = hex_text-encode c.args.bytes.now (λ k. omega (arith, c.type_inv.bytes k)) in
    grind (arith, common_steps, c.encode_to_slice.ensures, c.text.ensures.text)
