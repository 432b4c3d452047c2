use Rattle.std.proofs.Common.{List, subst}
use Rattle.vlm_locks.specs.declared.touched.Note.{Note}
use Rattle.vlm_locks.specs.GivingUp.{HaveEnded, noted_lkids}
use Rattle.vlm_locks.proofs.FoundByHandle.{process_still}
use Rattle.vlm_locks.proofs.GivenUp.{can_go, given_up}
use Rattle.vlm_locks.proofs.joint_withdrawals.give_up_together.Goals as goal

pub remove_noted-requires-clause-owner : goal.remove_noted-requires-clause-owner
remove_noted-requires-clause-owner c =
    process_still c.args.store.now c.end_noted.new.store c.args.joint.now.owner c.args.joint.now.pid c.end_noted.ensures.ended.only_notices c.requires.owner

pub remove_noted-requires-clause-can_go : goal.remove_noted-requires-clause-can_go
remove_noted-requires-clause-can_go c =
    let ended : HaveEnded (noted_lkids c.note_scope.new.touched.noted) c.args.joint.now.invalidates c.args.store.now c.end_noted.new.store =
    subst (λ (ts : List Note). HaveEnded
    (noted_lkids ts) c.args.joint.now.invalidates c.args.store.now c.end_noted.new.store) c.notes.ensures
    c.end_noted.ensures.ended in
    can_go c.args.joint.now.scope c.args.joint.now.pid c.args.store.now c.end_noted.new.store
    c.requires.can_end.rest.sound ended.only_notices c.args.touched.now c.args.joint.now.invalidates
    c.note_scope.new.touched c.note_scope.ensures.chosen c.note_scope.ensures.locks ended c.requires.can_end c.note_scope.ensures.room c.requires.closed

pub returns-clause-given_up : goal.returns-clause-given_up
returns-clause-given_up c =
    let ended : HaveEnded (noted_lkids c.note_scope.new.touched.noted) c.args.joint.now.invalidates c.args.store.now c.end_noted.new.store =
    subst (λ (ts : List Note). HaveEnded
    (noted_lkids ts) c.args.joint.now.invalidates c.args.store.now c.end_noted.new.store) c.notes.ensures
    c.end_noted.ensures.ended in
    given_up c.args.joint.now.scope c.args.joint.now.pid c.args.store.now c.end_noted.new.store
    c.requires.can_end.rest.sound ended.only_notices c.args.touched.now c.args.joint.now.invalidates
    c.note_scope.new.touched c.remove_noted.new.store c.remove_noted.new.touched c.requires.none
    c.note_scope.ensures.room c.note_scope.ensures.chosen ended c.remove_noted.ensures.gone
