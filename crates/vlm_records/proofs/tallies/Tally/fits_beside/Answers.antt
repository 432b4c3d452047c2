use Rattle.std.proofs.Common.{◌≡◌, ap, ◌∙◌, arith}
use Rattle.std.proofs.Math.Path.{fun_ext}
use Rattle.vlm_records.specs.Tallies.{count_of, counts_fit, held_beside}
use Rattle.vlm_records.proofs.tallies.Tally.fits_beside.Goals as goal

pub returns : goal.returns
returns c =
    let others : count_of c.count_out.new.counts ≡ held_beside c.args.own c.args.self.now = fun_ext (λ mode. omega (arith, c.count_out.ensures mode)) in
    c.counts_fit.ensures ∙ ap (counts_fit c.args.mode) others
