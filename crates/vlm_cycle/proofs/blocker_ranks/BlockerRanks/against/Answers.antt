use Rattle.std.proofs.Common.{arith}
use Rattle.vlm_cycle.proofs.GaugePeaks.{above_six}
use Rattle.vlm_cycle.proofs.blocker_ranks.BlockerRanks.against.Goals as goal

pub returns : goal.returns
returns c =
    above_six c.args.self.now.held c.args.mode c.args.lkid c.of_mode-nl.result c.of_mode-cr.result c.of_mode-cw.result
    c.of_mode-pr.result c.of_mode-pw.result c.of_mode-ex.result c.max-5.result
    c.of_mode-nl.ensures c.of_mode-cr.ensures c.of_mode-cw.ensures c.of_mode-pr.ensures c.of_mode-pw.ensures c.of_mode-ex.ensures
    (omega (arith, c.max.ensures, c.max-2.ensures, c.max-3.ensures, c.max-4.ensures, c.max-5.ensures))
    (omega (arith, c.max.ensures, c.max-2.ensures, c.max-3.ensures, c.max-4.ensures, c.max-5.ensures))
    (omega (arith, c.max-2.ensures, c.max-3.ensures, c.max-4.ensures, c.max-5.ensures))
    (omega (arith, c.max-3.ensures, c.max-4.ensures, c.max-5.ensures))
    (omega (arith, c.max-4.ensures, c.max-5.ensures))
    (omega (arith, c.max-5.ensures))
