use Rattle.std.proofs.Common.{ap, Err}
use Rattle.std.proofs.lemmas.Result.{err_from_is_err_and}
use Rattle.vlm_script.proofs.Progress.{stops-reading}
use Rattle.vlm_script.proofs.runs.play.Goals as goal

-- a fault while the script is read
pub returns-in_err-input-clause-played : goal.returns-in_err-input-clause-played
returns-in_err-input-clause-played g c =
    let stop = err_from_is_err_and c.from_residual.result c.from_residual.ensures.1 in
    rw (stop.1, stop.2)
    (stops-reading (g.R.Read.remaining c.args.reader.now) _ (g.W.Write.contents c.args.writer.now) c.in_err-input.field-0.0 c.in_err-input.ensures.faults
    (λ e. c.in_err-input.ensures.long (ap Err e)))
