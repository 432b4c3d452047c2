use Rattle.vlm_records.proofs.Rooms.{room_relinked, room_written}
use Rattle.std.proofs.Common.{sym, ap, subst, refl}
use Rattle.std.proofs.lemmas.Option.{none-some}
use Rattle.vlm_collections.specs.Lists.{Lists}
use Rattle.vlm_records.specs.Kin.{own_in, own_links, with_own_links}
use Rattle.vlm_records.proofs.OwnLocks.{owner_there, process_left, process_left_handles}
use Rattle.vlm_records.proofs.kin.leave_process.Goals as goal

pub index_mut-requires : goal.index_mut-requires
index_mut-requires c = rw c.slot.ensures (owner_there c.args.processes.now c.args.locks.now c.requires.owned c.args.at c.args.owner c.requires.owner)

pub unlink-requires : goal.unlink-requires
unlink-requires c =
    subst (λ l. Lists own_links c.args.locks.now l c.args.at) (ap own_in (rw c.slot.ensures at c.index_mut.ensures.value))
    (record {
      linked = c.requires.owned.linked c.args.owner;
      listed = c.requires.owned.stands c.args.owner c.args.at (λ e. none-some c.args.at (sym e)) c.requires.owner;
    })

pub returns-clause-owned : goal.returns-clause-owned
returns-clause-owned c =
    rw c.slot.ensures
    (process_left c.args.processes.now c.args.locks.now c.unlink.new.nodes c.args.at c.args.owner c.index_mut.result.now
    c.unlink.new.self (rw c.slot.ensures at c.index_mut.ensures.value)
    c.unlink.ensures.relinks c.unlink.ensures.linked c.requires.owned c.requires.owner c.unlink.ensures.handles c.unlink.ensures.others)

pub returns-clause-handles : goal.returns-clause-handles
returns-clause-handles c =
    rw c.slot.ensures
    (process_left_handles c.args.processes.now c.args.locks.now c.unlink.new.nodes c.args.at c.args.owner
    c.index_mut.result.now c.unlink.new.self (rw c.slot.ensures at c.index_mut.ensures.value)
    c.unlink.ensures.relinks c.unlink.ensures.linked c.requires.owned c.requires.owner c.unlink.ensures.handles c.unlink.ensures.others)

pub returns-clause-locks_room : goal.returns-clause-locks_room
returns-clause-locks_room c = room_relinked with_own_links c.args.locks.now c.unlink.new.nodes c.unlink.ensures.relinks

pub returns-clause-processes_room : goal.returns-clause-processes_room
returns-clause-processes_room c = room_written c.args.processes.now c.slot.result _ (rw c.index_mut.ensures.value refl)
