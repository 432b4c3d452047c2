use Rattle.std.proofs.Common.{◌≡◌, ◌+◌, ◌-◌, ◌++◌, ℕ, List, [], ◌∷◌, get_or, length, map, sym, ap, ◌∙◌, subst, refl, arith}
use Rattle.vlm_collections.specs.Lists.{IsIn}
use Rattle.vlm_model.specs.Endings.How.{by_abort}
use Rattle.vlm_store.specs.Records.{HasNoSublocks, IsStored, Stores, but_notices, own_handles_at}
use Rattle.vlm_locks.specs.declared.touched.Note.{Note}
use Rattle.vlm_locks.specs.GivingUp.{noted_lkids}
use Rattle.vlm_locks.specs.Left.{is_among}
use Rattle.vlm_locks.specs.Touched.{Touches}
use Rattle.vlm_locks.specs.Withdrawals.{plain_withdrawal}
use Rattle.vlm_locks.proofs.GoTogether.{AreLeaving, all_gone, can_end_still, count_now, init, it_goes, it_is_own, last, leaving_by}
use Rattle.vlm_locks.proofs.GoTogether.{lock_stored, no_sublocks, none_is_gone, note_is, split_now, went}
use Rattle.vlm_locks.proofs.RunsDown.{IsTurn}
use Rattle.vlm_locks.proofs.joint_withdrawals.remove_noted.Goals as goal

pub loop-left-init : goal.loop-left-init
loop-left-init c =
    subst (λ (ts : List Note). AreLeaving c.args.joint.now.invalidates c.args.joint.now.owner c.args.joint.now.pid
    c.args.store.now c.args.store.now c.args.touched.now c.args.touched.now (length ts))
    (sym c.notes-left.ensures)
    (none_is_gone c.args.joint.now.invalidates c.args.joint.now.owner c.args.joint.now.pid c.args.store.now
    c.args.touched.now c.requires.owner c.requires.can_go.rest.sound c.requires.can_go)

pub located_lock-located-requires-clause-stored : goal.located_lock-located-requires-clause-stored
located_lock-located-requires-clause-stored c =
    let many = c.loop-left.left - 1 in
    let so_far = leaving_by (many + 1) (omega (arith, c.loop-left-test.true)) c.loop-left.invariant in
    let here : c.lock.result ≡ (last many so_far c.requires.can_go).at =
    c.lock.ensures ∙ ap (λ (t : Note). t.at) (note_is many so_far c.requires.can_go c.index-notes-left.result
    (subst (λ (ts : List Note). c.index-notes-left.result ≡ get_or ts many c.index-notes-left.result) c.notes.ensures c.index-notes-left.is)) in
    subst (λ at. IsStored at c.loop-left.store) (sym here) (lock_stored many so_far c.requires.can_go)

pub give_up-requires-clause-childless : goal.give_up-requires-clause-childless
give_up-requires-clause-childless c =
    let many = c.loop-left.left - 1 in
    let so_far = leaving_by (many + 1) (omega (arith, c.loop-left-test.true)) c.loop-left.invariant in
    let here : c.lock.result ≡ (last many so_far c.requires.can_go).at =
    c.lock.ensures ∙ ap (λ (t : Note). t.at) (note_is many so_far c.requires.can_go c.index-notes-left.result
    (subst (λ (ts : List Note). c.index-notes-left.result ≡ get_or ts many c.index-notes-left.result) c.notes.ensures c.index-notes-left.is)) in
    let f = c.located_lock-located.result in
    let stored : Stores c.loop-left.store (last many so_far c.requires.can_go).at f.row =
    subst (λ at. Stores c.loop-left.store at f.row) here c.located_lock-located.ensures.row in
    subst (λ at. HasNoSublocks at c.loop-left.store) (sym (c.located_lock-located.ensures.lock ∙ here))
    (no_sublocks many so_far c.requires.can_go f.row stored)

pub loop-left-preserved : goal.loop-left-preserved
loop-left-preserved c =
    let many = c.loop-left.left - 1 in
    let so_far = leaving_by (many + 1) (omega (arith, c.loop-left-test.true)) c.loop-left.invariant in
    let its = last many so_far c.requires.can_go in
    let here : c.lock.result ≡ its.at =
    c.lock.ensures ∙ ap (λ (t : Note). t.at) (note_is many so_far c.requires.can_go c.index-notes-left.result
    (subst (λ (ts : List Note). c.index-notes-left.result ≡ get_or ts many c.index-notes-left.result) c.notes.ensures c.index-notes-left.is)) in
    let f = c.located_lock-located.result in
    let stored : Stores c.loop-left.store its.at f.row =
    subst (λ at. Stores c.loop-left.store at f.row) here c.located_lock-located.ensures.row in
    let is_last : f.lock ≡ its.at = c.located_lock-located.ensures.lock ∙ here in
    let touch : Note = record { number = c.of_resource.result.number; at = f.res } in
    let noted : Touches = record { noted = so_far.touched.noted ++ touch ∷ []; room = so_far.touched.room } in
    let turn : IsTurn (is_among
    (noted_lkids c.args.touched.now.noted)) c.args.joint.now.invalidates c.args.joint.now.owner c.loop-left.store
    c.give_up.new.store so_far.touched noted f (plain_withdrawal c.together-withdrawal.result) = record {
      sound = c.of_resource.ensures.sound;
      located = c.located_lock-located.ensures.located;
      mine = subst (λ at. IsIn at (own_handles_at c.args.joint.now.owner c.loop-left.store)) (sym is_last)
          (it_is_own many so_far c.requires.can_go f.row stored);
      its = it_goes many so_far c.requires.can_go f.row stored;
      waiting = by_abort;
      converting = by_abort;
      withdrawal = rw c.lkid.ensures at c.together-withdrawal.ensures;
      resources = c.give_up.ensures.resources;
      statuses = c.give_up.ensures.statuses;
      beside = c.give_up.ensures.beside;
      own_locks = ap (map but_notices) c.give_up.ensures.own_locks;
      serial = c.of_resource.result.number;
      its_serial = c.of_resource.ensures.serial;
      notes = refl;
      room = refl;
    } in
    went many so_far c.requires.can_go f.row stored c.give_up.new.store noted c.replace.new.self f
    (plain_withdrawal c.together-withdrawal.result) turn
    is_last refl c.give_up.ensures.own_locks c.give_up.ensures.loses touch refl
    (c.replace.ensures.noted (init many so_far c.requires.can_go) so_far.resources its
    (split_now many so_far c.requires.can_go) (count_now many so_far c.requires.can_go)
    ∙ ap (λ (res : ℕ). init many so_far c.requires.can_go ++ record { number = c.of_resource.result.number; at = res } ∷ so_far.resources)
    c.of_resource.ensures.res)
    c.replace.ensures.room

pub returns-clause-gone : goal.returns-clause-gone
returns-clause-gone c = all_gone c.loop-left.left c.loop-left.invariant (omega (arith, c.loop-left-test.false))

pub returns-clause-can_end : goal.returns-clause-can_end
returns-clause-can_end c = can_end_still c.loop-left.left c.loop-left.invariant (omega (arith, c.loop-left-test.false))
