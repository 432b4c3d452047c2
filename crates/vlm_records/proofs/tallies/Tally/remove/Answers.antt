use Rattle.vlm_records.specs.Tallies.Count.{of_held, of_wanted}
use Rattle.vlm_records.proofs.tallies.Tally.remove.Goals as goal

pub count_out-requires : goal.count_out-requires
count_out-requires c mode = c.requires of_held mode

pub count_out-requires-2 : goal.count_out-requires-2
count_out-requires-2 c mode = c.requires of_wanted mode
