use Rattle.std.proofs.Common.{◌∙◌}
use Rattle.slab.specs.Slab.{get}
use Rattle.vlm_collections.specs.Lists.{handles_of}
use Rattle.vlm_collections.proofs.Rings.{on_present, off_list, prev_is_on, next_is_on, left-handles, left-linked}
use Rattle.vlm_collections.proofs.Rings.{still_present, relinked_twice, told_next, told_prev}
use Rattle.vlm_collections.proofs.lists.LinkedList.unlink.Goals as goal

pub link_forward-requires : goal.link_forward-requires
link_forward-requires g c x is =
    on_present g.T.Linked.links c.args.nodes.now c.args.self.now c.requires.linked c.links-pair.result.prev
    (prev_is_on g.T.Linked.links c.args.nodes.now c.args.self.now c.args.handle c.links-pair.result.prev c.requires.linked c.requires.listed
    (told_prev g.T.Linked.links (get c.args.nodes.now c.args.handle) c.index.result.now c.links-pair.result c.index.ensures c.links-pair.ensures)) x is

pub link_back-requires : goal.link_back-requires
link_back-requires g c x is =
    still_present g.T.Linked.with_links c.args.nodes.now c.link_forward.new.nodes c.link_forward.ensures.links.relinks x
    (on_present g.T.Linked.links c.args.nodes.now c.args.self.now c.requires.linked c.links-pair.result.next
    (next_is_on g.T.Linked.links c.args.nodes.now c.args.self.now c.args.handle c.links-pair.result.next c.requires.linked c.requires.listed
    (told_next g.T.Linked.links (get c.args.nodes.now c.args.handle) c.index.result.now c.links-pair.result c.index.ensures c.links-pair.ensures)) x is)

pub returns-clause-linked : goal.returns-clause-linked
returns-clause-linked g c =
    left-linked g.T.Linked.links c.args.nodes.now c.link_forward.new.nodes c.link_back.new.nodes c.args.self.now
    c.link_forward.new.list c.link_back.new.list c.args.handle
    c.links-pair.result.prev c.links-pair.result.next c.requires.linked c.requires.listed
    (told_prev g.T.Linked.links
    (get c.args.nodes.now c.args.handle) c.index.result.now c.links-pair.result c.index.ensures
    c.links-pair.ensures)
    (told_next g.T.Linked.links
    (get c.args.nodes.now c.args.handle) c.index.result.now c.links-pair.result c.index.ensures
    c.links-pair.ensures)
    c.link_forward.ensures.links.joins c.link_forward.ensures.links.keeps c.link_forward.ensures.links.len
    c.link_back.ensures.joins c.link_back.ensures.keeps c.link_back.ensures.len
    (λ k here. still_present g.T.Linked.with_links c.link_forward.new.nodes c.link_back.new.nodes c.link_back.ensures.relinks k
    (still_present g.T.Linked.with_links c.args.nodes.now c.link_forward.new.nodes c.link_forward.ensures.links.relinks k here))

pub returns-clause-handles : goal.returns-clause-handles
returns-clause-handles g c =
    left-handles g.T.Linked.links c.args.nodes.now c.link_forward.new.nodes c.link_back.new.nodes c.args.self.now
    c.link_forward.new.list c.link_back.new.list c.args.handle
    c.links-pair.result.prev c.links-pair.result.next c.requires.linked c.requires.listed
    (told_prev g.T.Linked.links
    (get c.args.nodes.now c.args.handle) c.index.result.now c.links-pair.result c.index.ensures
    c.links-pair.ensures)
    (told_next g.T.Linked.links
    (get c.args.nodes.now c.args.handle) c.index.result.now c.links-pair.result c.index.ensures
    c.links-pair.ensures)
    c.link_forward.ensures.links.joins c.link_forward.ensures.links.keeps c.link_forward.ensures.links.len
    c.link_back.ensures.joins c.link_back.ensures.keeps c.link_back.ensures.len
    (λ k here. still_present g.T.Linked.with_links c.link_forward.new.nodes c.link_back.new.nodes c.link_back.ensures.relinks k
    (still_present g.T.Linked.with_links c.args.nodes.now c.link_forward.new.nodes c.link_forward.ensures.links.relinks k here))

-- the neighbours are the end or handles of the list
pub returns-clause-others : goal.returns-clause-others
returns-clause-others g c other absent =
    let handles = handles_of g.T.Linked.links c.args.nodes.now c.args.self.now in
    c.link_back.ensures.others other (off_list handles c.links-pair.result.next other
    (next_is_on g.T.Linked.links c.args.nodes.now c.args.self.now c.args.handle c.links-pair.result.next c.requires.linked c.requires.listed
    (told_next g.T.Linked.links (get c.args.nodes.now c.args.handle) c.index.result.now c.links-pair.result c.index.ensures c.links-pair.ensures)) absent)
    ∙ c.link_forward.ensures.links.others other (off_list handles c.links-pair.result.prev other
    (prev_is_on g.T.Linked.links c.args.nodes.now c.args.self.now c.args.handle c.links-pair.result.prev c.requires.linked c.requires.listed
    (told_prev g.T.Linked.links (get c.args.nodes.now c.args.handle) c.index.result.now c.links-pair.result c.index.ensures c.links-pair.ensures)) absent)

pub returns-clause-relinks : goal.returns-clause-relinks
returns-clause-relinks g c =
    relinked_twice g.T.Linked.with_links g.met.T.Linked.written_twice c.args.nodes.now c.link_forward.new.nodes c.link_back.new.nodes
    c.link_forward.ensures.links.relinks c.link_back.ensures.relinks
