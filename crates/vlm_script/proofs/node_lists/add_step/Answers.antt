use Rattle.std.proofs.Common.{arith}
use Rattle.vlm_script.proofs.Lists.{steps-unchanged, with_step-grown}
use Rattle.vlm_script.proofs.Written.{on_err}
use Rattle.vlm_script.proofs.node_lists.add_step.Goals as goal

-- the list has grown by the step
pub returns-clause-ok : goal.returns-clause-ok
returns-clause-ok c =
    with_step-grown (λ l. l.items) c.args.lists.now.items c.args.node c.index_mut.result.now c.push.new.self c.index_mut.ensures.value c.args.step.now
    (omega (arith, c.args.lists.now.ok.0)) c.in_ok-push.ensures.items

-- or it is as it was
pub returns-in_err-push-clause-err : goal.returns-in_err-push-clause-err
returns-in_err-push-clause-err c =
    on_err c.from_residual.result
    (steps-unchanged (λ l. l.items) c.args.lists.now.items c.args.node c.index_mut.result.now c.push.new.self
    c.index_mut.ensures.value c.in_err-push.ensures.items)
