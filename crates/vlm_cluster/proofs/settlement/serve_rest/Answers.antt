use Rattle.std.proofs.Common.{sym, ◌∙◌, rules}
use Rattle.vlm_cluster.specs.Gates.{moves}
use Rattle.vlm_cluster.proofs.Results.{as_many, ports_kept, told_on}
use Rattle.vlm_cluster.proofs.settlement.serve_rest.Goals as goal

pub settle_all-requires-clause-ports : goal.settle_all-requires-clause-ports
settle_all-requires-clause-ports g c =
    ports_kept c.args.driver.now.hub c.loop.driver.hub c.args.results.now c.loop.results (c.loop.invariant.rings ∙ c.cut_off.ensures.rings)
    c.loop.invariant.same c.requires.ports

pub returns-then-settle_all-clause-told : goal.returns-then-settle_all-clause-told
returns-then-settle_all-clause-told g c =
    let ds = c.args.results.now in let xs = c.loop.results in let M = moves g.G.Gate.answers g.G.Gate.hears in
    told_on M ds xs c.settle_all.new.results (sym (as_many xs ds c.loop.invariant.same)) c.loop.invariant.told c.settle_all.ensures.told

pub returns-in_err-turn-clause-told : goal.returns-in_err-turn-clause-told
returns-in_err-turn-clause-told g c =
    let ds = c.args.results.now in let xs = c.loop.results in let M = moves g.G.Gate.answers g.G.Gate.hears in
    told_on M ds xs c.settle_all.new.results (sym (as_many xs ds c.loop.invariant.same)) c.loop.invariant.told c.settle_all.ensures.told

pub returns-in_err-collect_all-clause-told : goal.returns-in_err-collect_all-clause-told
returns-in_err-collect_all-clause-told g c =
    let ds = c.args.results.now in let xs = c.loop.results in let M = moves g.G.Gate.answers g.G.Gate.hears in
    let settled = told_on M ds xs c.settle_all.new.results (sym (as_many xs ds c.loop.invariant.same)) c.loop.invariant.told c.settle_all.ensures.told in
    told_on M ds c.settle_all.new.results c.collect_all.new.results
    (sym (as_many c.settle_all.new.results ds (c.settle_all.ensures.same
    ∙ c.loop.invariant.same))) settled c.collect_all.ensures.told

pub loop-preserved : goal.loop-preserved
loop-preserved g c =
    let ds = c.args.results.now in let xs = c.loop.results in let M = moves g.G.Gate.answers g.G.Gate.hears in
    let settled = told_on M ds xs c.settle_all.new.results
    (sym (as_many xs ds c.loop.invariant.same)) c.loop.invariant.told c.settle_all.ensures.told in record {
      rings = c.turn.ensures.rings ∙ c.settle_all.ensures.rings ∙ c.loop.invariant.rings;
      same = c.collect_all.ensures.same ∙ c.settle_all.ensures.same ∙ c.loop.invariant.same;
      told = told_on M ds c.settle_all.new.results c.collect_all.new.results
          (sym (as_many c.settle_all.new.results ds (c.settle_all.ensures.same
          ∙ c.loop.invariant.same))) settled c.collect_all.ensures.told;
      accounted = c.turn.ensures.accounted;
      every = c.turn.ensures.every ∙ c.settle_all.ensures.every ∙ c.loop.invariant.every;
      few = search rules;
    }
