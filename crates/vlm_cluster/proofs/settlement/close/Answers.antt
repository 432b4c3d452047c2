use Rattle.std.proofs.Common.{sym}
use Rattle.vlm_cluster.specs.Gates.{moves}
use Rattle.vlm_cluster.proofs.Results.{as_many, ports_kept, told_on}
use Rattle.vlm_cluster.proofs.settlement.close.Goals as goal

pub settle_all-requires-clause-ports : goal.settle_all-requires-clause-ports
settle_all-requires-clause-ports g c =
    ports_kept c.args.driver.now.hub c.serve_rest-served.new.driver.hub c.args.results.now
    c.serve_rest-served.new.results c.serve_rest-served.ensures.rings c.serve_rest-served.ensures.same
    c.requires.ports

pub returns-then-settle_all-clause-told : goal.returns-then-settle_all-clause-told
returns-then-settle_all-clause-told g c =
    let ds = c.args.results.now in let xs = c.serve_rest-served.new.results in
    told_on (moves g.G.Gate.answers g.G.Gate.hears) ds xs c.settle_all.new.results
    (sym (as_many xs ds c.serve_rest-served.ensures.same)) c.serve_rest-served.ensures.told
    c.settle_all.ensures.told

pub returns-else-settle_all-clause-told : goal.returns-else-settle_all-clause-told
returns-else-settle_all-clause-told g c =
    let ds = c.args.results.now in let xs = c.serve_rest-served.new.results in
    told_on (moves g.G.Gate.answers g.G.Gate.hears) ds xs c.settle_all.new.results
    (sym (as_many xs ds c.serve_rest-served.ensures.same)) c.serve_rest-served.ensures.told
    c.settle_all.ensures.told

pub returns-then-settle_all-clause-whole : goal.returns-then-settle_all-clause-whole
returns-then-settle_all-clause-whole g c whole = c.settle_all.ensures.whole c.if-settle_all.true
