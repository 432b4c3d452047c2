use Rattle.std.proofs.Common.{◌≡◌, ◌∙◌, length, rules}
use Rattle.vlm_ports.specs.Hubs.{journal}
use Rattle.vlm.specs.Watches.{steps_asked}
use Rattle.vlm.proofs.Going.{grown_then, makes, within_still, written}
use Rattle.vlm.proofs.monitor.watched.MonitoredHub.make.Goals as goal

pub settle-requires : goal.settle-requires
settle-requires c =
    record {
      within = within_still c.post.new.self c.turn_until_answered.new.self c.turn_until_answered.ensures.standing
          c.in_ok-place.place c.in_ok-place.ensures.within;
    }

-- of all that nodes asked for there is one step, and the port's own is there
pub returns-then-asked_count-eq1-clause-made : goal.returns-then-asked_count-eq1-clause-made
returns-then-asked_count-eq1-clause-made c =
    let last = c.settle.new.self in
    let one : length (steps_asked (journal last.hub)) ≡ 1 = search rules in
    makes c.args.step c.in_ok-place.place c.args.self.now.hub c.post.new.self last c.requires.quiet c.post.ensures.written
    (c.settle.ensures.standing ∙ c.turn_until_answered.ensures.standing)
    (grown_then c.post.new.self.hub c.turn_until_answered.new.self.hub last.hub c.turn_until_answered.ensures.grown
    (written c.turn_until_answered.new.self.hub last.hub c.settle.ensures.written))
    c.in_ok-place.ensures.left c.in_ok-settle.ensures.left c.in_ok-place.ensures.within one
