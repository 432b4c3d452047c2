use Rattle.std.proofs.Common.{rules}
use Rattle.vlm_cluster.specs.Gates.{Moves, moves}
use Rattle.vlm_cluster.proofs.Guides.{told_then}
use Rattle.vlm_cluster.proofs.client.Client.bye.Goals as goal

pub loop-preserved : goal.loop-preserved
loop-preserved g c =
    let M : Moves g.row.G.Denot = moves g.G.Gate.answers g.G.Gate.hears in (
      (search rules),
      (search rules),
      told_then M (c.args.gate.now, c.args.self.now.items.items) (c.loop.gate, c.loop.self.items.items)
          (c.wait.new.gate, c.wait.new.self.items.items) c.loop.invariant.2 c.wait.ensures.told,
    )

pub returns-in_err-wait-clause-told : goal.returns-in_err-wait-clause-told
returns-in_err-wait-clause-told g c =
    let M : Moves g.row.G.Denot = moves g.G.Gate.answers g.G.Gate.hears in
    told_then M (c.args.gate.now, c.args.self.now.items.items) (c.loop.gate, c.loop.self.items.items)
    (c.wait.new.gate, c.wait.new.self.items.items) c.loop.invariant.2 c.wait.ensures.told
