use Rattle.std.proofs.Common.{arith, rules, tests}
use Rattle.std.proofs.lemmas.Bool.Decides.{nat_tests}
use Rattle.std.proofs.lemmas.Grind.{common_steps}
use Rattle.std.proofs.lemmas.Iterator.{YieldsList-from_slice}
use Rattle.std.proofs.lemmas.Iterator.Search.{all_from_yields_List}
use Rattle.std.specs.Char.{is_ascii_digit}
use Rattle.vlm_lines.specs.Lines.{number_within}
use Rattle.vlm_lines.proofs.Lengths.{is_nothing_by_length}
use Rattle.vlm_lines.proofs.numbers.number.Goals as goal

pub returns-then-is_empty-clause-value : goal.returns-then-is_empty-clause-value
unfolding number_within
returns-then-is_empty-clause-value c =
    let all = all_from_yields_List is_ascii_digit _ _ c.all-all_digits.result c.all-all_digits.ensures.ran
    (YieldsList-from_slice c.args.word.now cc) (λ x b q k. search (rules, tests)) in
    let nothing = is_nothing_by_length c.args.word.now in
    grind (arith, nat_tests, common_steps)

pub returns-then-word-gt10-clause-value : goal.returns-then-word-gt10-clause-value
unfolding number_within
returns-then-word-gt10-clause-value c =
    let all = all_from_yields_List is_ascii_digit _ _ c.all-all_digits.result c.all-all_digits.ensures.ran
    (YieldsList-from_slice c.args.word.now cc) (λ x b q k. search (rules, tests)) in
    let nothing = is_nothing_by_length c.args.word.now in
    grind (arith, nat_tests, common_steps)

pub decimal_value-value-requires-clause-digits : goal.decimal_value-value-requires-clause-digits
decimal_value-value-requires-clause-digits c =
    let all = all_from_yields_List is_ascii_digit _ _ c.all-all_digits.result c.all-all_digits.ensures.ran
    (YieldsList-from_slice c.args.word.now cc) (λ x b q k. search (rules, tests)) in
    search rules

pub returns-then-value-from-clause-value : goal.returns-then-value-from-clause-value
unfolding number_within
returns-then-value-from-clause-value c =
    let all = all_from_yields_List is_ascii_digit _ _ c.all-all_digits.result c.all-all_digits.ensures.ran
    (YieldsList-from_slice c.args.word.now cc) (λ x b q k. search (rules, tests)) in
    let nothing = is_nothing_by_length c.args.word.now in
    grind (arith, nat_tests, common_steps)

pub returns-else-value-from-clause-value : goal.returns-else-value-from-clause-value
unfolding number_within
returns-else-value-from-clause-value c =
    let all = all_from_yields_List is_ascii_digit _ _ c.all-all_digits.result c.all-all_digits.ensures.ran
    (YieldsList-from_slice c.args.word.now cc) (λ x b q k. search (rules, tests)) in
    let nothing = is_nothing_by_length c.args.word.now in
    grind (arith, nat_tests, common_steps)
