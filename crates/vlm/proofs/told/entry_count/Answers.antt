use Rattle.std.proofs.Common.{◌≡◌, ◌≤◌, rules, length, subst}
use Rattle.vlm.proofs.Printed.{parts_counted}
use Rattle.vlm.proofs.told.entry_count.Goals as goal

-- all parts are counted
pub returns : goal.returns
returns c =
    let first : c.len-count.result ≡ length c.args.report.now.rest.entries.items = search rules in
    let past : length c.args.report.now.parts.items ≤ c.loop-part.part-index =
    subst (λ parts. length parts ≤ c.loop-part.part-index) c.as_slice-part-items.ensures.value c.loop-part-test.false in
    parts_counted c.args.report.now.parts.items c.args.report.now.rest c.loop-part.part-index c.loop-part.count
    c.len-count.result past first c.loop-part.invariant
