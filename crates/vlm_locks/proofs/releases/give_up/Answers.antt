use Rattle.std.proofs.Common.{true, map, ap, ◌∙◌, subst, arith}
use Rattle.vlm_collections.specs.Lists.{IsIn}
use Rattle.vlm_model.specs.Withdrawals.{resource_without}
use Rattle.vlm_store.specs.Plain.{plain_resources}
use Rattle.vlm_locks.specs.Withdrawals.{plain_withdrawal}
use Rattle.vlm_locks.specs.Withdrawing.{owned_after}
use Rattle.vlm_locks.proofs.ChangedResource.{stay_over}
use Rattle.vlm_locks.proofs.OtherLocks.{locks_stay_over}
use Rattle.vlm_locks.proofs.Withdrawn.{left_without}
use Rattle.vlm_locks.proofs.releases.give_up.Goals as goal

pub remove-requires-clause-childless : goal.remove-requires-clause-childless
remove-requires-clause-childless c p own among here = c.requires.childless p own (subst (IsIn p) c.write_released_value.ensures.left.own_locks among) here

pub returns : goal.returns
returns c = record {
  resources =
      let w = plain_withdrawal c.args.withdrawal.now in
      let lkid = c.args.located.now.row.lkid in
      c.remove.ensures.done.made.resources
      ∙ ap (map (resource_without lkid)) c.write_released_value.ensures.left.made.resources
      ∙ left_without w lkid c.requires.named c.requires.goes (plain_resources c.args.store.now);
  statuses = c.remove.ensures.done.made.statuses ∙ c.write_released_value.ensures.left.made.statuses;
  beside =
      let f = c.args.located.now in
      let left = c.write_released_value.ensures.left in
      let made = c.remove.ensures.done.made in
      record {
        others = stay_over f.res c.args.store.now c.write_released_value.new.store c.remove.new.store left.made.others made.others;
        locks = locks_stay_over f.lock c.args.store.now c.write_released_value.new.store c.remove.new.store left.locks c.remove.ensures.done.locks;
        there = made.there;
        rest = made.rest;
      };
  own_locks =
      let f = c.args.located.now in
      c.remove.ensures.done.own_locks ∙ ap (owned_after true f.lock) c.write_released_value.ensures.left.own_locks;
  loses = λ measure. omega (arith, c.remove.ensures.loses measure, c.write_released_value.ensures.weighs measure);
}
