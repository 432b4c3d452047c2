use Rattle.std.proofs.Common.{arith, rules, take, tests, ◌≡◌}
use Rattle.std.proofs.lemmas.List.{take_all}
use Rattle.std.proofs.lemmas.Iterator.{YieldsList-from_slice}
use Rattle.std.proofs.lemmas.Iterator.Search.{all_from_yields_List}
use Rattle.vlm_lines.specs.Lines.{is_name_byte, process_name}
use Rattle.vlm_lines.proofs.words.process_name.Goals as goal

pub returns-in-len1-up : goal.returns-in-len1-up
unfolding process_name
returns-in-len1-up c =
    let all = all_from_yields_List is_name_byte _ _ c.all-all_named.result c.all-all_named.ensures.ran
    (YieldsList-from_slice c.args.word.now cc) (λ x b q k. search (rules, tests)) in
    let whole : take 15 c.args.word.now ≡ c.args.word.now = take_all 15 c.args.word.now (omega arith) in
    search rules
