use Rattle.std.proofs.Common.{◌∙◌, subst, sym}
use Rattle.std.specs.Prelude.{slice_index_or}
use Rattle.vlm_cycle.specs.Ranking.{IsCounted, no_peak}
use Rattle.vlm_cycle.proofs.GaugePeaks.{peak_kept}
use Rattle.vlm_cycle.proofs.blocker_ranks.BlockerRanks.hold.Goals as goal

pub returns-clause-kept : goal.returns-clause-kept
returns-clause-kept c =
    let peaks = c.args.self.now.held in
    peak_kept peaks c.rank-2.result c.add.new.self (λ lkid rank counted.
    c.add.ensures.kept lkid rank (subst (λ i. IsCounted (slice_index_or peaks i no_peak) lkid rank) (c.rank-2.ensures.rank ∙ sym c.rank.ensures.rank) counted))
