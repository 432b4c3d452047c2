use Rattle.std.proofs.lemmas.List.{length-map}
use Rattle.vlm_locks.specs.declared.touched.Note.{Note}
use Rattle.std.proofs.Common.{arith, drop, subst, sym, ◌+◌}
use Rattle.vlm_locks.proofs.OrderOfResources.{parted_there}
use Rattle.vlm_locks.proofs.SweptResources.{handle_at, is_touched_at, swept_resources, swept_statuses, sweeping_at}
use Rattle.vlm_locks.proofs.SweptResources.{sweeping_begun, sweeping_next, sweeping_over}
use Rattle.vlm_store.specs.Records.{HasResource}
use Rattle.vlm_locks.specs.Sweeping.{IsSwept, Parted}
use Rattle.vlm_locks.specs.Touched.{touched_handles}
use Rattle.vlm_locks.proofs.sweeps.sweep.Goals as goal

pub loop-touch-init : goal.loop-touch-init
loop-touch-init c =
    (sweeping_begun (touched_handles c.args.touches.now) c.args.store.now c.requires.in_order c.requires.stable c.requires.rest, c.requires.paid)

pub sweep_one-requires-clause-there : goal.sweep_one-requires-clause-there
sweep_one-requires-clause-there c =
    let at = handle_at c.args.touches.now c.loop-touch.touch-index c.touch-item.result c.loop-touch-test.true c.touch-item.is in
    let so_far = sweeping_at
    (touched_handles c.args.touches.now) c.loop-touch.touch-index c.touch-item.result.at c.args.store.now
    c.loop-touch.store at.0 at.1 c.loop-touch.invariant.0 in
    subst (λ res. HasResource res c.loop-touch.store) (sym c.res.ensures) (parted_there c.touch-item.result.at c.loop-touch.store so_far.left.0)

pub loop-touch-preserved : goal.loop-touch-preserved
loop-touch-preserved c =
    let touched = touched_handles c.args.touches.now in
    let at = handle_at c.args.touches.now c.loop-touch.touch-index c.touch-item.result c.loop-touch-test.true c.touch-item.is in
    let so_far = sweeping_at touched c.loop-touch.touch-index c.touch-item.result.at c.args.store.now c.loop-touch.store at.0 at.1 c.loop-touch.invariant.0 in
    let swept : (was : Parted c.touch-item.result.at c.loop-touch.store.resources)
    → IsSwept c.touch-item.result.at c.loop-touch.store c.sweep_one.new.store was =
    subst (λ res. (was : Parted res c.loop-touch.store.resources)
    → IsSwept res c.loop-touch.store c.sweep_one.new.store was) c.res.ensures c.sweep_one.ensures.swept in (
      sweeping_next touched c.touch-item.result.at
          (drop (c.loop-touch.touch-index + 1) touched) c.args.store.now c.loop-touch.store c.sweep_one.new.store so_far
          (swept so_far.left.0) c.law_a_sweep_touches_only_what_is_not_stable.ensures.next
          (is_touched_at touched c.loop-touch.touch-index c.touch-item.result.at at.0 at.1)
          c.sweep_one.ensures.sound c.requires.rest,
      c.sweep_one.ensures.paid,
    )

pub returns : goal.returns
returns c = record {
  resources =
      let so_far = sweeping_over
      (touched_handles c.args.touches.now) c.loop-touch.touch-index c.args.store.now c.loop-touch.store
      (omega (arith, length-map c.args.touches.now (λ (x : Note). x.at))) c.loop-touch.invariant.0 in
      swept_resources (touched_handles c.args.touches.now) c.args.store.now c.loop-touch.store so_far
      c.law_a_sweep_touches_only_what_is_not_stable.ensures.done;
  statuses =
      let so_far = sweeping_over
      (touched_handles c.args.touches.now) c.loop-touch.touch-index c.args.store.now c.loop-touch.store
      (omega (arith, length-map c.args.touches.now (λ (x : Note). x.at))) c.loop-touch.invariant.0 in
      swept_statuses (touched_handles c.args.touches.now) c.args.store.now c.loop-touch.store so_far c.law_a_sweep_touches_only_what_is_not_stable.ensures.done;
  others = c.loop-touch.invariant.0.others;
  locks = c.loop-touch.invariant.0.stay;
  none_join = c.loop-touch.invariant.0.none_join;
  own_locks = c.loop-touch.invariant.0.processes;
  rest = c.loop-touch.invariant.0.rest;
  paid = c.loop-touch.invariant.1;
}
