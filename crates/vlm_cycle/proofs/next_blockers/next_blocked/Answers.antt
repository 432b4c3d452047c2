use Rattle.std.proofs.Common.{subst}
use Rattle.vlm_model.specs.Deadlocks.{WaitsOn}
use Rattle.vlm_cycle.proofs.BlockerWalks.{Leads, after_on, fewer_left, from_on, leads_found, leads_from, leads_none, leads_on, on_stored}
use Rattle.vlm_cycle.proofs.next_blockers.next_blocked.Goals as goal

-- the walk begins
pub loop-at-init : goal.loop-at-init
loop-at-init c = record {
  on = from_on c.args.store.now c.args.lock.now.res c.args.from c.first_from-at.result c.requires.located.sound c.requires.from c.first_from-at.ensures;
  leads =
      leads_from (λ r row. WaitsOn r row c.args.lock.now.row) c.args.store.now c.args.lock.now.res c.args.from
      c.first_from-at.result c.requires.located.sound c.first_from-at.ensures;
}

-- this lock's request waits
pub returns-then-is_awaited_by-clause-next : goal.returns-then-is_awaited_by-clause-next
returns-then-is_awaited_by-clause-next c =
    let s = c.args.store.now in
    let f = c.args.lock.now in
    leads_found (λ r row. WaitsOn r row f.row) s f.res c.args.from c.in-Some.other c.requires.located.sound
    (c.loop-at.invariant.on c.in-Some.other c.in-Some.is) c.if-is_awaited_by.ensures.yes
    (subst (Leads (λ r row. WaitsOn r row f.row) s f.res c.args.from) c.in-Some.is c.loop-at.invariant.leads)

pub following-at-requires : goal.following-at-requires
following-at-requires c =
    on_stored c.args.store.now c.args.lock.now.res c.in-Some.other c.requires.located.sound (c.loop-at.invariant.on c.in-Some.other c.in-Some.is)

pub loop-at-smaller : goal.loop-at-smaller
loop-at-smaller c =
    let s = c.args.store.now in
    let on = c.loop-at.invariant.on c.in-Some.other c.in-Some.is in
    rw c.in-Some.is (fewer_left s c.args.lock.now.res c.in-Some.other c.following-at.result c.requires.located.sound on
    (c.following-at.ensures c.args.lock.now.res on))

-- it does not
pub loop-at-preserved : goal.loop-at-preserved
loop-at-preserved c =
    let s = c.args.store.now in
    let f = c.args.lock.now in
    let on = c.loop-at.invariant.on c.in-Some.other c.in-Some.is in
    let after = c.following-at.ensures f.res on in
    record {
      on = after_on s f.res c.in-Some.other c.following-at.result c.requires.located.sound on after;
      leads =
          leads_on (λ r row. WaitsOn r row f.row) s f.res c.args.from c.in-Some.other c.following-at.result
          c.requires.located.sound on after c.if-is_awaited_by.ensures.no
          (subst (Leads (λ r row. WaitsOn r row f.row) s f.res c.args.from) c.in-Some.is c.loop-at.invariant.leads);
    }

-- no lock is left
pub returns-clause-next : goal.returns-clause-next
returns-clause-next c =
    let f = c.args.lock.now in
    leads_none (λ r row. WaitsOn r row f.row) c.args.store.now f.res c.args.from c.loop-at.at c.in_default.is c.loop-at.invariant.leads
