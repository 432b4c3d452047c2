use Rattle.std.proofs.Common.{◌<◌, length, arith, refl, ◌∙◌}
use Rattle.std.proofs.Math.Seq.{map-set_same}
use Rattle.vlm_cluster.specs.Gates.{moves}
use Rattle.vlm_cluster.specs.Works.{work_of}
use Rattle.vlm_cluster.proofs.Results.{told_same, told_set}
use Rattle.vlm_cluster.proofs.settlement.collect_all.Goals as goal

pub loop-at-init : goal.loop-at-init
loop-at-init g c = (refl, told_same (moves g.G.Gate.answers g.G.Gate.hears) c.args.results.now)

pub returns-in_err-collect-clause-same : goal.returns-in_err-collect-clause-same
returns-in_err-collect-clause-same g c =
    map-set_same work_of c.loop-at.results c.loop-at.at c.collect.new.worker c.index-results-at.result c.collect.ensures.same ∙ c.loop-at.invariant.0

pub returns-in_err-collect-clause-told : goal.returns-in_err-collect-clause-told
returns-in_err-collect-clause-told g c =
    let lt : c.loop-at.at < length c.loop-at.results = omega arith in
    told_set (moves g.G.Gate.answers g.G.Gate.hears) c.args.results.now c.loop-at.results c.loop-at.at
    c.collect.new.worker c.index-results-at.result lt c.loop-at.invariant.1 c.collect.ensures.told

pub loop-at-preserved : goal.loop-at-preserved
loop-at-preserved g c =
    let lt : c.loop-at.at < length c.loop-at.results = omega arith in (
      map-set_same work_of c.loop-at.results c.loop-at.at c.collect.new.worker c.index-results-at.result c.collect.ensures.same ∙ c.loop-at.invariant.0,
      told_set (moves g.G.Gate.answers g.G.Gate.hears) c.args.results.now c.loop-at.results c.loop-at.at
          c.collect.new.worker c.index-results-at.result lt c.loop-at.invariant.1 c.collect.ensures.told,
    )
