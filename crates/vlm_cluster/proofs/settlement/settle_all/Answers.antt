use Rattle.std.proofs.Common.{◌≡◌, ◌<◌, true, false, List, length, arith, rules, ◌∙◌, sym, subst}
use Rattle.std.specs.Prelude.{IsTrue}
use Rattle.std.proofs.Math.Seq.{map-set_same}
use Rattle.vlm_journal.specs.declared.entries.Entry.{Entry}
use Rattle.vlm_cluster.specs.Gates.{moves}
use Rattle.vlm_cluster.specs.Works.{HoldsOfWorks, IsBegun, IsWhole, entries_at, work_of}
use Rattle.vlm_cluster.proofs.Results.{one_more, ports_kept, told_set}
use Rattle.vlm_cluster.proofs.settlement.settle_all.Goals as goal
use Rattle.vlm_cluster.proofs.settlement.settle_all.Goals.{then-not-settle, else-not-settle}

pub settle-requires-clause-port : goal.settle-requires-clause-port
settle-requires-clause-port g c =
    let lt : c.loop-at.at < length c.loop-at.results = omega arith in
    ports_kept c.args.driver.now.hub c.loop-at.driver.hub c.args.results.now c.loop-at.results c.loop-at.invariant.rings
    c.loop-at.invariant.same c.requires.ports c.loop-at.at _ lt

pub loop-at-preserved : goal.loop-at-preserved
loop-at-preserved g c =
    let ds = c.loop-at.results in let at = c.loop-at.at in let d = c.settle.new.worker in let was = c.loop-at.invariant in let new = c.settle.ensures in
    let lt : at < length ds = omega arith in record {
      rings = new.rings ∙ was.rings;
      same = map-set_same work_of ds at d c.index-results-at.result new.same ∙ was.same;
      told = told_set (moves g.G.Gate.answers g.G.Gate.hears) c.args.results.now ds at d c.index-results-at.result lt was.told new.told;
      accounted = new.accounted;
      journal = new.journal ∙ was.journal;
      every = new.every ∙ was.every;
      begun = one_more (IsBegun (entries_at c.settle.new.driver)) ds at d lt
          (subst (λ (es : List Entry). HoldsOfWorks (IsBegun es) ds at) (sym new.entries) was.begun) new.begun;
      whole = λ all. elim c.if-not-settle.branch [
        | then-not-settle w ↦ let f : true ≡ false = sym all ∙ w.all-is in absurd (grind rules)
        | else-not-settle w ↦
            let t : IsTrue c.settle.result = search rules in
            let before : c.loop-at.all ≡ true = sym w.all-is ∙ all in
            one_more (IsWhole (entries_at c.settle.new.driver)) ds at d lt
            (subst (λ (es : List Entry). HoldsOfWorks (IsWhole es) ds at) (sym new.entries) (was.whole before)) (new.whole t)
      ];
    }
