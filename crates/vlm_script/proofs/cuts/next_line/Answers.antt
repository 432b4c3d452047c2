use Rattle.std.proofs.Common.{◌∙◌, arith, rules, tests}
use Rattle.std.proofs.lemmas.Grind.{common_steps}
use Rattle.std.proofs.lemmas.Iterator.{YieldsList-from_slice}
use Rattle.std.proofs.lemmas.Iterator.Search.{position_from_yields_List}
use Rattle.vlm_lines.specs.Lines.{is_line_feed}
use Rattle.vlm_lines.proofs.Pieces.{end_found}
use Rattle.vlm_script.proofs.FirstLine.{ended_line, last_line}
use Rattle.vlm_script.proofs.cuts.next_line.Goals as goal

pub returns-in-empty-clause-some : goal.returns-in-empty-clause-some
returns-in-empty-clause-some c =
    let end = position_from_yields_List is_line_feed _ _ c.position-end.result c.position-end.ensures.ran
    (YieldsList-from_slice c.args.bytes.now cc) (λ x b q k. search (rules, tests)) in
    last_line c.args.bytes.now _ _ _ (grind (arith, common_steps)) (c.unwrap_or.ensures
    ∙ end_found is_line_feed c.args.bytes.now _ end) c.split_at.ensures.front c.split_at.ensures.back
    (grind (arith, common_steps))

pub returns-in-len1-up-clause-some : goal.returns-in-len1-up-clause-some
returns-in-len1-up-clause-some c =
    let end = position_from_yields_List is_line_feed _ _ c.position-end.result c.position-end.ensures.ran
    (YieldsList-from_slice c.args.bytes.now cc) (λ x b q k. search (rules, tests)) in
    ended_line c.args.bytes.now _ _ _ (grind (arith, common_steps)) (c.unwrap_or.ensures
    ∙ end_found is_line_feed c.args.bytes.now _ end) c.split_at.ensures.front c.split_at.ensures.back
