use Rattle.std.proofs.Common.{◌≡◌, ◌∙◌, ◌++◌, ap, refl}
use Rattle.vlm_ports.specs.Hubs.{state}
use Rattle.vlm_script.specs.Texts.{watch_line}
use Rattle.vlm.specs.Watches.{row_at}
use Rattle.vlm.proofs.WatchedSteps.{ended_behind, none_made, one_made}
use Rattle.vlm.proofs.monitor.watched.MonitoredHub.make_all.Goals as goal

pub loop-step-init : goal.loop-step-init
loop-step-init g c = record { key = refl; quiet = c.requires.quiet; made = none_made c.args.self.now.key _ _ _ c.requires.empty c.requires.start }

pub returns-in-Err : goal.returns-in-Err
returns-in-Err g c =
    ended_behind c.args.self.now.key c.args.steps.now c.loop-step.step-index c.in-Err.fault c.loop-step.text.items _ _
    c.loop-step-test.true c.in-Err.ensures.faults c.in-Err.ensures.same c.loop-step.invariant.made

pub loop-step-preserved : goal.loop-step-preserved
loop-step-preserved g c =
    let step = c.step-item.result in let text = c.loop-step.text.items in
    let same : c.apply.new.self.key ≡ c.args.self.now.key = c.apply.ensures.key ∙ c.loop-step.invariant.key in record {
      key = same;
      quiet = c.in_default.ensures.quiet;
      made = one_made c.args.self.now.key c.args.steps.now c.loop-step.step-index step text _ _ (state c.apply.new.self.hub)
          c.loop-step-test.true c.step-item.is
          (c.in_default.ensures.line ∙ ap (λ key. text ++ watch_line step.line (row_at (state c.apply.new.self.hub) key)) same)
          c.in_default.ensures.made c.loop-step.invariant.made;
    }
