use Rattle.std.proofs.Common.{refl}
use Rattle.vlm_cycle.proofs.BestFound.{better_one, not_dead, not_later}
use Rattle.vlm_cycle.proofs.Ranked.{certain_alive}
use Rattle.vlm_cycle.proofs.passes.Pass.search.Goals as goal

pub returns-then-not-is_later-clause-improves : goal.returns-then-not-is_later-clause-improves
returns-then-not-is_later-clause-improves c =
    not_later c.args.store.now c.args.waiting.now.row c.args.self.now.found c.if-not-is_later.ensures.earlier

-- one that waits for lower ranks alone is not deadlocked
pub returns-then-is_below-clause-improves : goal.returns-then-is_below-clause-improves
returns-then-is_below-clause-improves c =
    not_dead c.args.store.now c.args.waiting.now.row c.args.self.now.found
    (certain_alive c.args.store.now c.args.scratch.now.ranks c.args.waiting.now.row c.args.ranked.now.rank
    c.args.ranked.now.top (c.requires.falls c.if-self.true) c.requires.rank
    (c.is_below.ensures c.if-is_below.true) c.requires.top)

pub returns-then-is_deadlocked-clause-improves : goal.returns-then-is_deadlocked-clause-improves
returns-then-is_deadlocked-clause-improves c =
    better_one c.args.store.now c.args.waiting.now.row c.args.self.now.found c.args.waiting.now refl c.requires.located
    c.if-not-is_later.ensures.later c.if-is_deadlocked.ensures.yes

pub returns-else-is_deadlocked-clause-improves : goal.returns-else-is_deadlocked-clause-improves
returns-else-is_deadlocked-clause-improves c =
    not_dead c.args.store.now c.args.waiting.now.row c.args.self.now.found c.if-is_deadlocked.ensures.no
