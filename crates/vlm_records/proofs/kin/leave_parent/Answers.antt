use Rattle.vlm_records.proofs.Rooms.{room_relinked, room_written}
use Rattle.std.proofs.Common.{◌∙◌, refl, sym, ap, subst}
use Rattle.std.proofs.lemmas.Option.{none-some}
use Rattle.vlm_collections.specs.Lists.{Lists}
use Rattle.vlm_collections.proofs.HandleLists.{without_absent}
use Rattle.vlm_records.specs.Kin.{below_in, below_handles, below_links, with_below_links}
use Rattle.vlm_records.proofs.OwnLocks.{below_none, parent_left, parent_left_handles, parent_there}
use Rattle.vlm_records.proofs.kin.leave_parent.Goals as goal

pub index-requires : goal.index-requires
index-requires c = rw c.slot.ensures (parent_there c.args.locks.now c.requires.below c.args.at c.in-Some.parent (c.requires.parent ∙ c.in-Some.is))

pub unlink-requires : goal.unlink-requires
unlink-requires c =
    subst (λ l. Lists below_links c.args.locks.now l c.args.at) (ap below_in (rw c.slot.ensures at c.index.ensures))
    (record {
      linked = c.requires.below.linked c.in-Some.parent;
      listed = c.requires.below.stands c.in-Some.parent c.args.at (λ e. none-some c.args.at (sym e)) (c.requires.parent ∙ c.in-Some.is);
    })

pub returns-clause-below : goal.returns-clause-below
returns-clause-below c =
    rw c.slot-2.ensures
    (parent_left c.args.locks.now c.unlink.new.nodes c.args.at c.in-Some.parent c.index.result.now
    c.index_mut.result.now c.unlink.new.self (rw c.slot.ensures at c.index.ensures)
    (rw c.slot-2.ensures at c.index_mut.ensures.value) c.unlink.ensures.relinks c.unlink.ensures.linked c.requires.below
    (c.requires.parent ∙ c.in-Some.is) c.unlink.ensures.handles c.unlink.ensures.others)

pub returns-clause-handles : goal.returns-clause-handles
returns-clause-handles c =
    rw c.slot-2.ensures
    (parent_left_handles c.args.locks.now c.unlink.new.nodes c.args.at c.in-Some.parent c.index.result.now
    c.index_mut.result.now c.unlink.new.self (rw c.slot.ensures at c.index.ensures)
    (rw c.slot-2.ensures at c.index_mut.ensures.value) c.unlink.ensures.relinks c.unlink.ensures.linked c.requires.below
    (c.requires.parent ∙ c.in-Some.is) c.unlink.ensures.handles c.unlink.ensures.others)

pub returns-in_default-clause-below : goal.returns-in_default-clause-below
returns-in_default-clause-below c = below_none c.args.locks.now c.args.at c.requires.below (c.requires.parent ∙ c.in_default.is)

pub returns-in_default-clause-handles : goal.returns-in_default-clause-handles
returns-in_default-clause-handles c parent =
    let out = below_none c.args.locks.now c.args.at c.requires.below (c.requires.parent ∙ c.in_default.is) in
    sym (without_absent c.args.at (below_handles c.args.locks.now parent) (out.gone parent c.args.at refl))

pub returns-clause-locks_room : goal.returns-clause-locks_room
returns-clause-locks_room c =
    room_written c.unlink.new.nodes c.slot-2.result _ (rw c.index_mut.ensures.value refl)
    ∙ room_relinked with_below_links c.args.locks.now c.unlink.new.nodes c.unlink.ensures.relinks
