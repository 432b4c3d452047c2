use Rattle.std.proofs.Common.{◌∙◌, ap, subst, sym}
use Rattle.vlm_collections.specs.Lists.{IsIn, handles_of}
use Rattle.vlm_records.specs.Armed.{armed_links, armed_list_in, armed_on}
use Rattle.vlm_records.proofs.Arming.{armed_resource, out_unlisted, relisted_joined, relisted_other, relisted_places, same_places, unarmed_joined}
use Rattle.vlm_records.proofs.queues.Queues.join_list.Goals as goal

-- it is not among the armed ones
pub returns-in_default-clause-armed : goal.returns-in_default-clause-armed
returns-in_default-clause-armed c = unarmed_joined c.args.which c.args.self.now c.args.at c.requires.placed
    (ap (armed_on c.args.which) c.index.ensures ∙ sym c.armed_on.ensures ∙ c.in_default.is) c.requires.armed

-- it is
pub index_mut-requires : goal.index_mut-requires
index_mut-requires c =
    rw c.slot.ensures (armed_resource c.args.which c.args.self.now c.args.at c.in-Some.res c.requires.placed
    (ap (armed_on c.args.which) c.index.ensures ∙ sym c.armed_on.ensures ∙ c.in-Some.is))

pub push_back_armed-requires-clause-unlisted : goal.push_back_armed-requires-clause-unlisted
push_back_armed-requires-clause-unlisted c found =
    out_unlisted c.args.which c.args.self.now c.args.at c.requires.armed c.in-Some.res
    (subst (λ l. IsIn c.args.at (handles_of (armed_links c.args.which) c.args.self.now.locks l))
    (sym (ap (armed_list_in c.args.which) (rw c.slot.ensures at c.index_mut.ensures.value))) found)

pub returns-clause-armed : goal.returns-clause-armed
returns-clause-armed c =
    rw c.slot.ensures
    (relisted_joined c.args.which c.args.self.now c.push_back_armed.new.locks c.in-Some.res c.index_mut.result.now c.push_back_armed.new.self
    (rw c.slot.ensures at c.index_mut.ensures.value) c.push_back_armed.ensures.rest c.push_back_armed.ensures.relinks c.requires.placed
    c.args.at c.push_back_armed.ensures.linked (ap (armed_on c.args.which) c.index.ensures ∙ sym c.armed_on.ensures
    ∙ c.in-Some.is) c.requires.armed c.push_back_armed.ensures.handles c.push_back_armed.ensures.others
    c.requires.last)

pub returns-clause-places : goal.returns-clause-places
returns-clause-places c =
    rw c.slot.ensures
    (relisted_places c.args.which c.args.self.now c.push_back_armed.new.locks c.in-Some.res c.index_mut.result.now c.push_back_armed.new.self
    (rw c.slot.ensures at c.index_mut.ensures.value) c.push_back_armed.ensures.rest c.push_back_armed.ensures.relinks c.requires.placed c.requires.tallied)

pub returns-in_default-clause-places : goal.returns-in_default-clause-places
returns-in_default-clause-places c = same_places c.args.self.now c.requires.placed c.requires.tallied

-- the other list stays
pub returns-clause-other : goal.returns-clause-other
returns-clause-other c =
    rw c.slot.ensures
    (relisted_other c.args.which c.args.self.now c.push_back_armed.new.locks c.in-Some.res c.index_mut.result.now c.push_back_armed.new.self
    (rw c.slot.ensures at c.index_mut.ensures.value) c.push_back_armed.ensures.rest c.push_back_armed.ensures.relinks c.requires.placed)
