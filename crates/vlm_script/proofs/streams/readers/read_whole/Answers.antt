use Rattle.std.proofs.Common.{◌≤◌, ◌++◌, length, arith, length-append}
use Rattle.std.proofs.KnownBytes.{Consumes-trans}
use Rattle.vlm_script.proofs.Written.{on_err}
use Rattle.vlm_script.proofs.streams.readers.read_whole.Goals as goal

pub returns-in_err-count-clause-part : goal.returns-in_err-count-clause-part
returns-in_err-count-clause-part g c =
    let lost = c.in_err-count.ensures.part in
    let before = c.loop-reader.input.items in
    let more = Consumes-trans _ _ _ before lost.0 c.loop-reader.invariant.read lost.2 in
    let fits : length (before ++ lost.0) ≤ 16777217 = omega (arith, length-append before lost.0, lost.1, c.loop-reader.input.ok.0) in
    on_err c.from_residual.result (before ++ lost.0, fits, more)
