use Rattle.std.proofs.Common.{subst, sym}
use Rattle.vlm_cycle.specs.Blocking.{IsNextOn}
use Rattle.vlm_core.specs.Blockers.{standing_of}
use Rattle.vlm_core.proofs.blockers.next_on.Goals as goal

pub returns-in-Blockers-clause-next : goal.returns-in-Blockers-clause-next
returns-in-Blockers-clause-next c =
    let f = c.args.located.now in
    subst (λ side. IsNextOn
    (λ r row. standing_of side r f.row row) c.args.store.now f.res c.args.from c.next_blocker.result)
    (sym c.in-Blockers.is) c.next_blocker.ensures.next

pub returns-in-Blocked-clause-next : goal.returns-in-Blocked-clause-next
returns-in-Blocked-clause-next c =
    let f = c.args.located.now in
    subst (λ side. IsNextOn
    (λ r row. standing_of side r f.row row) c.args.store.now f.res c.args.from c.next_blocked.result)
    (sym c.in-Blocked.is) c.next_blocked.ensures.next
