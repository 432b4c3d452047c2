use Rattle.std.proofs.Common.{◌∙◌, ap, sym, arith}
use Rattle.vlm_records.specs.Shown.{tally_in}
use Rattle.vlm_records.specs.Tallies.{held_beside, how_many, weight_of}
use Rattle.vlm_records.specs.Tallies.Count.{of_held}
use Rattle.vlm_records.proofs.Counting.{own_weighs}
use Rattle.vlm_records.proofs.Fitting.{shares-fit}
use Rattle.vlm_records.proofs.queues.Queues.fits.Goals as goal

pub fits_beside-requires : goal.fits_beside-requires
fits_beside-requires c mode =
    omega (
      arith,
      ap (λ slot. how_many of_held (tally_in slot) mode) (rw c.slot.ensures at c.index.ensures),
      c.requires.tallied.counts of_held c.args.res mode,
      c.held_on.ensures mode,
      own_weighs c.args.self.now (weight_of of_held mode) c.in-Some.except c.index-lock.result.now c.requires.placed
          (rw c.slot-in-Some.ensures at c.index-lock.ensures) c.args.res,
    )

pub returns-in-None : goal.returns-in-None
returns-in-None c =
    c.fits.ensures
    ∙ shares-fit c.args.self.now c.args.mode c.args.except c.args.res (how_many of_held c.index.result.now.tally)
    (λ mode.
    rw c.in-None.is
    (sym (ap (λ slot. how_many of_held (tally_in slot) mode) (rw c.slot.ensures at c.index.ensures)) ∙ c.requires.tallied.counts of_held c.args.res mode))

pub returns-in-Some : goal.returns-in-Some
returns-in-Some c =
    c.fits_beside.ensures
    ∙ shares-fit c.args.self.now c.args.mode c.args.except c.args.res (held_beside c.held_on.result c.index.result.now.tally)
    (λ mode.
    rw c.in-Some.is
    (omega (
      arith,
      ap (λ slot. how_many of_held (tally_in slot) mode) (rw c.slot.ensures at c.index.ensures),
      c.requires.tallied.counts of_held c.args.res mode,
      c.held_on.ensures mode,
      own_weighs c.args.self.now (weight_of of_held mode) c.in-Some.except c.index-lock.result.now c.requires.placed
          (rw c.slot-in-Some.ensures at c.index-lock.ensures) c.args.res,
    )))
