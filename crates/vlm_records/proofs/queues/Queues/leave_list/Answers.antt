use Rattle.std.proofs.Common.{◌∙◌, None, ap, subst, sym}
use Rattle.std.proofs.lemmas.Option.{none-some}
use Rattle.vlm_collections.specs.Lists.{Lists}
use Rattle.vlm_records.specs.Armed.{armed_links, armed_list_in, armed_on}
use Rattle.vlm_records.proofs.Arming.{armed_family, armed_resource, relisted_left, relisted_other, relisted_places, same_places, unarmed_left}
use Rattle.vlm_records.proofs.queues.Queues.leave_list.Goals as goal

-- it is not among the armed ones
pub returns-in_default-clause-armed : goal.returns-in_default-clause-armed
returns-in_default-clause-armed c = unarmed_left c.args.which c.args.self.now c.args.at c.requires.placed
    (ap (armed_on c.args.which) c.index.ensures ∙ sym c.armed_on.ensures ∙ c.in_default.is) c.requires.armed

-- it is
pub index_mut-requires : goal.index_mut-requires
index_mut-requires c =
    rw c.slot.ensures (armed_resource c.args.which c.args.self.now c.args.at c.in-Some.res c.requires.placed
    (ap (armed_on c.args.which) c.index.ensures ∙ sym c.armed_on.ensures ∙ c.in-Some.is))

pub unlink_armed-requires : goal.unlink_armed-requires
unlink_armed-requires c =
    let family = armed_family c.args.which c.args.self.now None c.requires.placed c.requires.armed in
    subst (λ l. Lists (armed_links c.args.which) c.args.self.now.locks l c.args.at)
    (ap (armed_list_in c.args.which) (rw c.slot.ensures at c.index_mut.ensures.value))
    (record {
      linked = c.requires.armed.linked c.in-Some.res;
      listed = family.stands c.in-Some.res c.args.at (λ e. none-some c.args.at (sym e))
          (ap (armed_on c.args.which) c.index.ensures ∙ sym c.armed_on.ensures ∙ c.in-Some.is);
    })

pub returns-clause-armed : goal.returns-clause-armed
returns-clause-armed c =
    rw c.slot.ensures
    (relisted_left c.args.which c.args.self.now c.unlink_armed.new.locks c.in-Some.res c.index_mut.result.now c.unlink_armed.new.self
    (rw c.slot.ensures at c.index_mut.ensures.value) c.unlink_armed.ensures.rest c.unlink_armed.ensures.relinks c.requires.placed
    c.args.at c.unlink_armed.ensures.linked (ap (armed_on c.args.which) c.index.ensures ∙ sym c.armed_on.ensures
    ∙ c.in-Some.is) c.requires.armed c.unlink_armed.ensures.handles c.unlink_armed.ensures.others)

pub returns-clause-places : goal.returns-clause-places
returns-clause-places c =
    rw c.slot.ensures
    (relisted_places c.args.which c.args.self.now c.unlink_armed.new.locks c.in-Some.res c.index_mut.result.now c.unlink_armed.new.self
    (rw c.slot.ensures at c.index_mut.ensures.value) c.unlink_armed.ensures.rest c.unlink_armed.ensures.relinks c.requires.placed c.requires.tallied)

pub returns-in_default-clause-places : goal.returns-in_default-clause-places
returns-in_default-clause-places c = same_places c.args.self.now c.requires.placed c.requires.tallied

-- the other list stays
pub returns-clause-other : goal.returns-clause-other
returns-clause-other c =
    rw c.slot.ensures
    (relisted_other c.args.which c.args.self.now c.unlink_armed.new.locks c.in-Some.res c.index_mut.result.now c.unlink_armed.new.self
    (rw c.slot.ensures at c.index_mut.ensures.value) c.unlink_armed.ensures.rest c.unlink_armed.ensures.relinks c.requires.placed)
