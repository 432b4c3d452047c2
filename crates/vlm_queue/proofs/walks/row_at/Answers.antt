use Rattle.std.proofs.Common.{sym, ◌∙◌}
use Rattle.vlm_queue.proofs.Indexed.{lock_shown, no_lock_shown}
use Rattle.vlm_queue.proofs.walks.row_at.Goals as goal

pub returns-in_err-lock : goal.returns-in_err-lock
returns-in_err-lock c =
    c.from_residual-in_err-lock.ensures
    ∙ sym (no_lock_shown _ c.args.resource c.in_ok-res.res c.args.queue c.args.index c.nth_resource.ensures.sound
    (sym c.nth_resource.ensures.found ∙ c.in_ok-res.was) (sym c.nth_lock.ensures.found ∙ c.in_err-lock.was))

pub returns : goal.returns
returns c =
    lock_shown _ c.args.resource c.in_ok-res.res c.args.queue c.args.index c.in_ok-lock.lock c.row_view.result
    c.nth_resource.ensures.sound (sym c.nth_resource.ensures.found ∙ c.in_ok-res.was) (sym c.nth_lock.ensures.found
    ∙ c.in_ok-lock.was) c.row_view.ensures
