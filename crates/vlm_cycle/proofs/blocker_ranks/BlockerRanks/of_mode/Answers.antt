use Rattle.std.proofs.Common.{subst, sym}
use Rattle.std.specs.Prelude.{slice_index_or}
use Rattle.vlm_cycle.specs.Ranking.{IsCounted, no_peak}
use Rattle.vlm_cycle.proofs.blocker_ranks.BlockerRanks.of_mode.Goals as goal

pub returns-else-compatible : goal.returns-else-compatible
returns-else-compatible c differs other rank another counted =
    c.but.ensures other rank another (subst (λ i. IsCounted (slice_index_or c.args.self.now.held i no_peak) other rank) (sym c.rank.ensures.rank) counted)
