use Rattle.std.proofs.Common.{◌≡◌, ◌∙◌, true, Some, rules, sym, tests, ap}
use Rattle.std.proofs.lemmas.Iterator.{YieldsList-from_slice}
use Rattle.std.proofs.lemmas.Iterator.Search.{all_from_yields_List}
use Rattle.std.specs.Char.{is_ascii_hexdigit}
use Rattle.std.specs.List.{list_all}
use Rattle.vlm_lines.specs.Lines.{hex_name}
use Rattle.vlm_lines.proofs.Hexadecimal.{digits_taken, name_of_pairs}
use Rattle.vlm_lines.proofs.names.hex_name.Goals as goal

pub read_pairs-requires-clause-digits : goal.read_pairs-requires-clause-digits
read_pairs-requires-clause-digits c =
    let all = all_from_yields_List is_ascii_hexdigit _ _ c.all-all_hex.result c.all-all_hex.ensures.ran
    (YieldsList-from_slice c.args.digits.now cc) (λ x b q k. search (rules, tests)) in
    digits_taken _ c.args.digits.now (sym all ∙ c.if-not-all_hex.false)

pub returns : goal.returns
unfolding hex_name
returns c =
    let read = all_from_yields_List is_ascii_hexdigit _ _ c.all-all_hex.result c.all-all_hex.ensures.ran
    (YieldsList-from_slice c.args.digits.now cc) (λ x b q k. search (rules, tests)) in
    let all : list_all is_ascii_hexdigit c.args.digits.now ≡ true = sym read ∙ c.if-not-all_hex.false in
    rw (all, c.if-digits-ne0.false)
    (ap Some (c.of.ensures ∙ name_of_pairs c.args.digits.now c.read_pairs.new.bytes _ c.min-count.result c.min-count.ensures c.read_pairs.ensures))
