use Rattle.std.proofs.Common.{◌≡◌, ◌+◌, [], ◌∷◌, drop, sym, ap, ◌∙◌, refl, arith}
use Rattle.std.proofs.lemmas.Result.{err_from_is_err_and}
use Rattle.vlm_lines.specs.Lines.{lines_of}
use Rattle.vlm_script.proofs.Progress.{drop-more, reached-start, reached-more, reached-passed, reached-written, stop-ends, stops-writing, stops-at, ends}
use Rattle.vlm_script.proofs.runs.run_lines.Goals as goal

pub loop-line-init : goal.loop-line-init
loop-line-init g c = record {
  left = refl;
  short = omega arith;
  reached = rw (c.new-out.ensures.items, c.new-session.ensures) (reached-start c.args.input.now (g.W.Write.contents c.args.writer.now));
}

pub loop-line-preserved : goal.loop-line-preserved
loop-line-preserved g c =
    let input = c.args.input.now in
    let next : drop c.loop-line.count (lines_of input) ≡ c.in-Some.line.now ∷ lines_of c.in-Some.after.now =
    sym c.loop-line.invariant.left ∙ c.in-Some.ensures.some in
    record {
      left = drop-more (lines_of input) c.loop-line.count _ _ next;
      short = omega (arith, c.in-Some.ensures.shorter, c.loop-line.invariant.short);
      reached =
          reached-passed input (c.loop-line.count + 1) _ _ _ _ _ _ (
          reached-more input c.loop-line.count _ _ _ _ _ _ _ _ c.loop-line.invariant.reached next c.in_default-run.ensures.run
          ) c.in_ok-write_when_full.ensures.passed;
    }

-- the line's fault ends the run, and what was printed before it is written
pub returns-in-Err-clause-played : goal.returns-in-Err-clause-played
returns-in-Err-clause-played g c =
    let input = c.args.input.now in
    let next : drop c.loop-line.count (lines_of input) ≡ c.in-Some.line.now ∷ lines_of c.in-Some.after.now =
    sym c.loop-line.invariant.left ∙ c.in-Some.ensures.some in
    let wrote = rw (c.deref.ensures.value, c.in-Err.ensures.err) at c.in_ok-write_whole.ensures.whole in
    rw c.at.ensures (
    stops-at input c.loop-line.count _ _ _ _ _ c.in-Err.stop
    (reached-written input c.loop-line.count _ _ _ _ _ c.loop-line.invariant.reached wrote) next c.in-Err.ensures.run
    )

pub returns-in-Err-clause-faults : goal.returns-in-Err-clause-faults
returns-in-Err-clause-faults g c = rw c.at.ensures (stop-ends (c.loop-line.count + 1) c.in-Err.stop)

-- or only a part of it is
pub returns-in_err-write_whole-clause-played : goal.returns-in_err-write_whole-clause-played
returns-in_err-write_whole-clause-played g c =
    let stop = err_from_is_err_and c.from_residual.result c.from_residual.ensures.1 in
    let part = rw (c.deref.ensures.value, c.in-Err.ensures.err) at c.in_err-write_whole.ensures.part in
    rw stop.1 (stops-writing c.args.input.now c.loop-line.count _ _ _ _ _ stop.0 (stop.2
    ∙ c.in_err-write_whole.ensures.fault) c.loop-line.invariant.reached part)

pub returns-in_err-write_when_full-clause-played : goal.returns-in_err-write_when_full-clause-played
returns-in_err-write_when_full-clause-played g c =
    let input = c.args.input.now in
    let next : drop c.loop-line.count (lines_of input) ≡ c.in-Some.line.now ∷ lines_of c.in-Some.after.now =
    sym c.loop-line.invariant.left ∙ c.in-Some.ensures.some in
    let stop = err_from_is_err_and c.from_residual-in_err-write_when_full.result c.from_residual-in_err-write_when_full.ensures.1 in
    rw stop.1 (
    stops-writing input (c.loop-line.count + 1) _ _ _ _ _ stop.0 (stop.2 ∙ c.in_err-write_when_full.ensures.fault)
    (reached-more input c.loop-line.count _ _ _ _ _ _ _ _ c.loop-line.invariant.reached next c.in_default-run.ensures.run) c.in_err-write_when_full.ensures.part
    )

-- no line is left
pub returns-clause-played : goal.returns-clause-played
returns-clause-played g c =
    let none : drop c.loop-line.count (lines_of c.args.input.now) ≡ [] = sym c.loop-line.invariant.left ∙ ap lines_of (c.in_default.ensures.none.0 refl) in
    let whole = rw c.deref-2.ensures.value at c.write_whole-2.ensures.whole in
    let part = rw c.deref-2.ensures.value at c.write_whole-2.ensures.part in
    ends c.args.input.now c.loop-line.count _ _ _ _ _ c.write_whole-2.result c.loop-line.invariant.reached none whole part c.write_whole-2.ensures.fault
