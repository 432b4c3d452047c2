use Rattle.std.proofs.Common.{arith}
use Rattle.vlm_records.proofs.Totals.{six_counts}
use Rattle.vlm_records.proofs.tallies.Tally.held.Goals as goal

pub returns : goal.returns
returns c = six_counts c.args.self.now.held (omega arith)
