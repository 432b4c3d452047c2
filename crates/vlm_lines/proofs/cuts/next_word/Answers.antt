use Rattle.std.proofs.Common.{◌≡◌, ◌∙◌, ap, drop, not, None, arith, rules, tests}
use Rattle.std.proofs.lemmas.Grind.{common_steps}
use Rattle.std.proofs.lemmas.Iterator.{YieldsList-from_slice}
use Rattle.std.proofs.lemmas.Iterator.Search.{position_from_yields_List}
use Rattle.vlm_lines.specs.Lines.{is_blank}
use Rattle.vlm_lines.proofs.Pieces.{end_found, first_word, no_word, start_found}
use Rattle.vlm_lines.proofs.cuts.next_word.Goals as goal

pub returns-in_err-start-clause-words : goal.returns-in_err-start-clause-words
returns-in_err-start-clause-words c =
    let start = position_from_yields_List (λ byte. not (is_blank byte)) _ _ c.position.result c.position.ensures.ran
    (YieldsList-from_slice c.args.bytes.now cc) (λ x b q k. search (rules, tests)) in
    let none : c.position.result ≡ None = search rules in
    let nothing = no_word c.args.bytes.now c.position.result start none in
    search rules

pub returns-clause-words : goal.returns-clause-words
returns-clause-words c =
    let start = start_found c.args.bytes.now c.in_ok-start.start c.position.result
    (position_from_yields_List (λ byte. not (is_blank byte)) _ _ c.position.result c.position.ensures.ran
    (YieldsList-from_slice c.args.bytes.now cc) (λ x b q k. search (rules, tests))) (search rules) in
    let end = position_from_yields_List is_blank _ _ c.position-end.result c.position-end.ensures.ran
    (YieldsList-from_slice c.split_at.result.1.now cc) (λ x b q k. search (rules, tests)) in
    let len = c.unwrap_or.ensures ∙ end_found is_blank c.split_at.result.1.now _ end in
    let word = first_word c.args.bytes.now c.split_at.result.1.now c.unwrap_or.result (c.split_at.ensures.back
    ∙ ap (λ n. drop n c.args.bytes.now) start) (grind (arith, common_steps)) len in search rules
