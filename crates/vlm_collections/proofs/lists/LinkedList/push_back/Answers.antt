use Rattle.std.proofs.Common.{◌∙◌, arith}
use Rattle.slab.specs.Slab.{get}
use Rattle.vlm_collections.specs.Lists.{handles_of}
use Rattle.vlm_collections.proofs.Rings.{on_present, off_list, last_is_on, joined-handles, joined-linked}
use Rattle.vlm_collections.proofs.Rings.{relinked_twice, still_present, room_for, written_next, written_prev}
use Rattle.vlm_collections.proofs.lists.LinkedList.push_back.Goals as goal

pub link_forward-requires : goal.link_forward-requires
link_forward-requires g c x is =
    still_present g.T.Linked.with_links c.args.nodes.now c.write_links.new.nodes
    c.write_links.ensures.relinks x
    (on_present g.T.Linked.links c.args.nodes.now c.args.self.now c.requires.linked c.args.self.now.last
    (last_is_on g.T.Linked.links c.args.nodes.now c.args.self.now c.requires.linked) x is)

pub overflow_add-self : goal.overflow_add-self
overflow_add-self g c =
    omega (
      arith,
      room_for g.T.Linked.links c.args.nodes.now c.args.self.now c.requires.linked c.args.handle c.requires.within c.requires.unlisted,
      c.link_forward.ensures.links.len,
    )

pub returns-clause-linked : goal.returns-clause-linked
returns-clause-linked g c =
    rw c.to-self.ensures
    (joined-linked g.T.Linked.links c.args.nodes.now c.write_links.new.nodes c.link_forward.new.nodes c.args.self.now c.link_forward.new.list c.args.handle
    c.requires.linked c.requires.present c.requires.within c.requires.unlisted
    (written_prev g.T.Linked.with_links g.T.Linked.links g.met.T.Linked.links_written
    (get c.args.nodes.now c.args.handle)
    (get c.write_links.new.nodes c.args.handle) _ c.requires.present c.write_links.ensures.here)
    (written_next g.T.Linked.with_links g.T.Linked.links g.met.T.Linked.links_written
    (get c.args.nodes.now c.args.handle)
    (get c.write_links.new.nodes c.args.handle) _ c.requires.present c.write_links.ensures.here ∙ c.none.ensures)
    c.write_links.ensures.others (rw c.to.ensures at c.link_forward.ensures.links.joins) c.link_forward.ensures.links.keeps c.link_forward.ensures.links.len
    (λ k here. still_present g.T.Linked.with_links c.write_links.new.nodes c.link_forward.new.nodes c.link_forward.ensures.links.relinks k
    (still_present g.T.Linked.with_links c.args.nodes.now c.write_links.new.nodes c.write_links.ensures.relinks k here)))

pub returns-clause-handles : goal.returns-clause-handles
returns-clause-handles g c =
    rw c.to-self.ensures
    (joined-handles g.T.Linked.links c.args.nodes.now c.write_links.new.nodes c.link_forward.new.nodes c.args.self.now c.link_forward.new.list c.args.handle
    c.requires.linked c.requires.present c.requires.within c.requires.unlisted
    (written_prev g.T.Linked.with_links g.T.Linked.links g.met.T.Linked.links_written
    (get c.args.nodes.now c.args.handle)
    (get c.write_links.new.nodes c.args.handle) _ c.requires.present c.write_links.ensures.here)
    (written_next g.T.Linked.with_links g.T.Linked.links g.met.T.Linked.links_written
    (get c.args.nodes.now c.args.handle)
    (get c.write_links.new.nodes c.args.handle) _ c.requires.present c.write_links.ensures.here ∙ c.none.ensures)
    c.write_links.ensures.others (rw c.to.ensures at c.link_forward.ensures.links.joins) c.link_forward.ensures.links.keeps c.link_forward.ensures.links.len
    (λ k here. still_present g.T.Linked.with_links c.write_links.new.nodes c.link_forward.new.nodes c.link_forward.ensures.links.relinks k
    (still_present g.T.Linked.with_links c.args.nodes.now c.write_links.new.nodes c.write_links.ensures.relinks k here)))

-- the last handle is one of the list
pub returns-clause-others : goal.returns-clause-others
returns-clause-others g c other absent differs =
    c.link_forward.ensures.links.others other (off_list (handles_of g.T.Linked.links c.args.nodes.now c.args.self.now) c.args.self.now.last other
    (last_is_on g.T.Linked.links c.args.nodes.now c.args.self.now c.requires.linked) absent)
    ∙ c.write_links.ensures.others other differs

pub returns-clause-relinks : goal.returns-clause-relinks
returns-clause-relinks g c =
    relinked_twice g.T.Linked.with_links g.met.T.Linked.written_twice c.args.nodes.now c.write_links.new.nodes c.link_forward.new.nodes
    c.write_links.ensures.relinks
    c.link_forward.ensures.links.relinks
