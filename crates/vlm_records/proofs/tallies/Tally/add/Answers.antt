use Rattle.vlm_records.specs.Tallies.Count.{of_held, of_wanted}
use Rattle.vlm_records.proofs.tallies.Tally.add.Goals as goal

pub count_in-requires : goal.count_in-requires
count_in-requires c mode = c.requires of_held mode

pub count_in-requires-2 : goal.count_in-requires-2
count_in-requires-2 c mode = c.requires of_wanted mode
