use Rattle.std.proofs.Common.{subst, sym}
use Rattle.vlm_locks.specs.declared.joint_withdrawals.Scope.{Scope}
use Rattle.vlm_locks.specs.GivingUp.{AreChosen, IsOwnScope, SublocksGoToo, noted_lkids}
use Rattle.vlm_locks.proofs.FoundByHandle.{process_there}
use Rattle.vlm_locks.proofs.joint_withdrawals.note_scope.Goals as goal

pub note_below-requires-clause-closed : goal.note_below-requires-clause-closed
note_below-requires-clause-closed c = subst (λ (scope : Scope). SublocksGoToo scope c.args.store.now) c.in-Below.is c.requires.closed

pub note_own-requires-clause-owner : goal.note_own-requires-clause-owner
note_own-requires-clause-owner c = process_there c.args.store.now c.args.joint.now.owner c.args.joint.now.pid c.requires.owner

pub note_below-requires-clause-top : goal.note_below-requires-clause-top
note_below-requires-clause-top c =
    (c.args.joint.now.pid, subst (λ (scope : Scope). IsOwnScope scope c.args.joint.now.pid c.args.store.now) c.in-Below.is c.requires.own)

pub returns-in-All-clause-chosen : goal.returns-in-All-clause-chosen
returns-in-All-clause-chosen c =
    let joint = c.args.joint.now in
    subst (λ (scope : Scope). AreChosen scope joint.pid c.args.store.now (noted_lkids c.note_own.new.touched.noted)) (sym c.in-All.is)
    (c.note_own.ensures.chosen joint.pid c.requires.owner)

pub returns-in-Below-clause-chosen : goal.returns-in-Below-clause-chosen
returns-in-Below-clause-chosen c =
    let joint = c.args.joint.now in
    subst (λ (scope : Scope). AreChosen scope joint.pid c.args.store.now (noted_lkids c.note_below.new.touched.noted)) (sym c.in-Below.is)
    (c.note_below.ensures.chosen joint.pid
    (subst (λ (scope : Scope). IsOwnScope scope joint.pid c.args.store.now) c.in-Below.is c.requires.own))
