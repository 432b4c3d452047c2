use Rattle.std.proofs.Common.{rules}
use Rattle.vlm_records.proofs.tallies.Tally.new.Goals as goal

pub returns : goal.returns
returns c = search rules
