use Rattle.vlm_locks.proofs.OtherLocks.{locks_stay_over, owned_alike, statuses_alone}
use Rattle.std.proofs.Common.{true, [], ◌∷◌, map, ap, ◌∙◌, refl, subst, sym, rules}
use Rattle.vlm_model.specs.Withdrawals.{resource_after_cancel, resource_after_withdrawals}
use Rattle.vlm_collections.specs.Lists.{IsIn}
use Rattle.vlm_store.specs.Plain.{plain_resource, plain_resources}
use Rattle.vlm_store.specs.Records.{HasNoSublocks, but_notices, without_resource}
use Rattle.vlm_locks.specs.Withdrawals.{plain_withdrawal}
use Rattle.vlm_locks.specs.Withdrawing.{goes, owned_after}
use Rattle.vlm_locks.specs.Owing.{OwedMoves, left_row, row_at_end}
use Rattle.vlm_locks.proofs.ReservedAsts.{due_fits, due_gone, paid_withdrawn}
use Rattle.vlm_locks.proofs.ReplacedResource.{no_sublocks_still}
use Rattle.vlm_locks.proofs.QueuedLocks.{stored}
use Rattle.vlm_locks.proofs.ChangedResource.{rests_still, stay_over}
use Rattle.vlm_locks.proofs.Withdrawn.{left_staying}
use Rattle.vlm_locks.proofs.AcceptedRequests.{stands_accepted}
use Rattle.vlm_locks.proofs.releases.withdraw.Goals as goal

-- the lock stands where it stood once its request has ended
pub write_released_value-requires-clause-located : goal.write_released_value-requires-clause-located
write_released_value-requires-clause-located c =
    stands_accepted c.args.located.now c.args.store.now c.end_notices.new.store c.end_notices.ensures.only_notices c.requires.located

pub give_up-requires-clause-located : goal.give_up-requires-clause-located
give_up-requires-clause-located c =
    stands_accepted c.args.located.now c.args.store.now c.end_notices.new.store c.end_notices.ensures.only_notices c.requires.located

pub write_released_value-requires-clause-rest : goal.write_released_value-requires-clause-rest
write_released_value-requires-clause-rest c = rests_still c.args.store.now c.end_notices.new.store c.end_notices.ensures.only_notices c.requires.rest

pub give_up-requires-clause-rest : goal.give_up-requires-clause-rest
give_up-requires-clause-rest c = rests_still c.args.store.now c.end_notices.new.store c.end_notices.ensures.only_notices c.requires.rest

-- the lock that goes had no sublocks, and has none once its request has ended
pub cancel-requires-clause-childless : goal.cancel-requires-clause-childless
cancel-requires-clause-childless c =
    let f = c.args.located.now in
    λ waits.
    let none : HasNoSublocks f.lock c.end_notices.new.store =
    no_sublocks_still c.args.store.now c.end_notices.new.store c.end_notices.ensures.only_notices.processes f.lock
    (c.requires.childless (ap (λ b. goes b f.queue) c.if-withdrawal.true ∙ ap (goes true) waits)) in
    λ p own among here. none p own (subst (IsIn p) c.write_released_value.ensures.left.own_locks among) here

pub give_up-requires-clause-childless : goal.give_up-requires-clause-childless
give_up-requires-clause-childless c =
    let f = c.args.located.now in
    no_sublocks_still c.args.store.now c.end_notices.new.store c.end_notices.ensures.only_notices.processes f.lock
    (c.requires.childless (ap (λ b. goes b f.queue) c.if-withdrawal.false))

-- the lock stays
pub returns-then-withdrawal : goal.returns-then-withdrawal
returns-then-withdrawal c = record {
  resources =
      let w = plain_withdrawal c.args.withdrawal.now in
      let lkid = c.args.located.now.row.lkid in
      c.cancel.ensures.done.made.resources
      ∙ ap (map (resource_after_cancel lkid)) c.write_released_value.ensures.left.made.resources
      ∙ left_staying w lkid c.requires.named c.if-withdrawal.true (plain_resources c.end_notices.new.store)
      ∙ ap (λ rs. map (resource_after_withdrawals (w ∷ [])) (map plain_resource rs)) c.end_notices.ensures.only_notices.resources;
  statuses = search rules;
  beside =
      let s = c.args.store.now in
      let ended = c.end_notices.new.store in
      let left = c.write_released_value.new.store in
      let new = c.cancel.new.store in
      let f = c.args.located.now in
      let made = c.cancel.ensures.done.made in
      record {
        others = stay_over f.res ended left new c.write_released_value.ensures.left.made.others made.others
            ∙ ap (without_resource f.res) c.end_notices.ensures.only_notices.resources;
        locks = locks_stay_over f.lock s ended new (statuses_alone f.lock s ended c.end_notices.ensures.only_notices)
            (locks_stay_over f.lock ended left new c.write_released_value.ensures.left.locks
            c.cancel.ensures.done.locks);
        there = made.there;
        rest = made.rest;
      };
  own_locks =
      let f = c.args.located.now in
      ap (map but_notices) (c.cancel.ensures.done.own_locks ∙ ap (owned_after (goes true f.queue) f.lock) c.write_released_value.ensures.left.own_locks)
      ∙ owned_alike (goes true f.queue) f.lock c.end_notices.new.store.processes c.args.store.now.processes c.end_notices.ensures.only_notices.processes
      ∙ ap (λ stays. map but_notices (owned_after (goes stays f.queue) f.lock c.args.store.now.processes)) (sym c.if-withdrawal.true);
  paid =
      let f = c.args.located.now in
      paid_withdrawn f.row (left_row (goes true f.queue) f.row)
      (goes true f.queue) f.lock c.args.store.now c.end_notices.new.store c.write_released_value.new.store
      c.cancel.new.store
      c.requires.paid
      (subst (λ stays. OwedMoves f.row
      (left_row (goes stays f.queue) f.row) c.args.store.now c.end_notices.new.store) c.if-withdrawal.true
      c.end_notices.ensures.owed)
      c.end_notices.ensures.only_notices c.write_released_value.ensures.left.own_locks
      c.write_released_value.ensures.weighs c.cancel.ensures.done.own_locks c.cancel.ensures.due;
}

-- the lock goes
pub returns-else-withdrawal : goal.returns-else-withdrawal
returns-else-withdrawal c = record {
  resources =
      let w = plain_withdrawal c.args.withdrawal.now in
      c.give_up.ensures.resources
      ∙ ap (λ rs. map (resource_after_withdrawals (w ∷ [])) (map plain_resource rs)) c.end_notices.ensures.only_notices.resources;
  statuses = search rules;
  beside =
      let s = c.args.store.now in
      let ended = c.end_notices.new.store in
      let f = c.args.located.now in
      let beside = c.give_up.ensures.beside in
      record {
        others = beside.others ∙ ap (without_resource f.res) c.end_notices.ensures.only_notices.resources;
        locks = locks_stay_over f.lock s ended c.give_up.new.store (statuses_alone f.lock s ended c.end_notices.ensures.only_notices) beside.locks;
        there = beside.there;
        rest = beside.rest;
      };
  own_locks =
      let f = c.args.located.now in
      ap (map but_notices) c.give_up.ensures.own_locks
      ∙ owned_alike true f.lock c.end_notices.new.store.processes c.args.store.now.processes c.end_notices.ensures.only_notices.processes
      ∙ ap (λ stays. map but_notices (owned_after (goes stays f.queue) f.lock c.args.store.now.processes)) (sym c.if-withdrawal.false);
  paid =
      let f = c.args.located.now in
      let ended = c.end_notices.new.store in
      paid_withdrawn f.row (row_at_end f.row) true f.lock c.args.store.now ended ended c.give_up.new.store c.requires.paid
      (subst (λ stays. OwedMoves f.row (left_row (goes stays f.queue) f.row) c.args.store.now ended) c.if-withdrawal.false c.end_notices.ensures.owed)
      c.end_notices.ensures.only_notices refl (λ measure. refl) c.give_up.ensures.own_locks
      (due_gone f.lock f.row ended c.give_up.new.store c.give_up.ensures.loses);
}

-- what becomes of the process's own locks, and of those below the parent
-- ---- what is due is owed

pub end_notices-requires-clause-owed : goal.end_notices-requires-clause-owed
end_notices-requires-clause-owed c =
    let f = c.args.located.now in
    due_fits c.args.store.now c.requires.located.sound c.requires.paid f.lock f.row (stored c.args.store.now f c.requires.located)
