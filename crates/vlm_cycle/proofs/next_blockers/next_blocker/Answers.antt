use Rattle.std.proofs.Common.{◌≡◌, ◌∙◌, None, refl, sym, subst}
use Rattle.vlm_model.specs.Deadlocks.{WaitsOn}
use Rattle.vlm_store.specs.Plain.{plain_resource}
use Rattle.vlm_store.specs.Records.{StoredResource}
use Rattle.vlm_locks.proofs.QueuedLocks.{resource_among}
use Rattle.vlm_cycle.specs.Blocking.{IsFirstFrom, all_locks}
use Rattle.std.proofs.lemmas.Option.{same_Some}
use Rattle.vlm_cycle.proofs.Blocking.{awaits_of}
use Rattle.vlm_cycle.proofs.BlockerWalks.{Leads, after_on, fewer_left, from_on, leads_found, leads_from, leads_none, leads_on, none_from, on_stored}
use Rattle.vlm_cycle.proofs.next_blockers.next_blocker.Goals as goal

-- a request that waits for no lock
pub returns-in_err-request-clause-next : goal.returns-in_err-request-clause-next
returns-in_err-request-clause-next c r found =
    let s = c.args.store.now in
    let f = c.args.waiting.now in
    let own = c.requires.located.resource in
    let there = resource_among f.res s.resources own c.requires.located.found in
    let same : own ≡ r = same_Some own r (sym c.requires.located.found ∙ found) in
    subst (λ o. IsFirstFrom (WaitsOn (plain_resource r) f.row) c.args.from (all_locks r) o) (sym c.from_residual.ensures)
    (subst (λ (x : StoredResource). IsFirstFrom (WaitsOn (plain_resource x) f.row) c.args.from (all_locks x) None) same
    (none_from (WaitsOn (plain_resource own) f.row)
    (λ row waits. c.in_err-request.ensures.none refl waits.request
    (awaits_of s c.requires.located.sound c.requires.ordered f own there c.requires.located.among row waits))
    c.args.from (all_locks own)))

-- the walk begins
pub loop-at-init : goal.loop-at-init
loop-at-init c = record {
  on = from_on c.args.store.now c.args.waiting.now.res c.args.from c.first_from-at.result c.requires.located.sound c.requires.from c.first_from-at.ensures;
  leads = leads_from (λ r row. WaitsOn r c.args.waiting.now.row row) c.args.store.now c.args.waiting.now.res c.args.from
      c.first_from-at.result c.requires.located.sound c.first_from-at.ensures;
}

-- the request waits for this lock
pub returns-then-waits_on-clause-next : goal.returns-then-waits_on-clause-next
returns-then-waits_on-clause-next c =
    let s = c.args.store.now in
    let f = c.args.waiting.now in
    leads_found (λ r row. WaitsOn r f.row row) s f.res c.args.from c.in-Some.lock c.requires.located.sound
    (c.loop-at.invariant.on c.in-Some.lock c.in-Some.is) c.if-waits_on.ensures.yes
    (subst (Leads (λ r row. WaitsOn r f.row row) s f.res c.args.from) c.in-Some.is c.loop-at.invariant.leads)

pub following-at-requires : goal.following-at-requires
following-at-requires c =
    on_stored c.args.store.now c.args.waiting.now.res c.in-Some.lock c.requires.located.sound (c.loop-at.invariant.on c.in-Some.lock c.in-Some.is)

pub loop-at-smaller : goal.loop-at-smaller
loop-at-smaller c =
    let s = c.args.store.now in
    let on = c.loop-at.invariant.on c.in-Some.lock c.in-Some.is in
    rw c.in-Some.is (fewer_left s c.args.waiting.now.res c.in-Some.lock c.following-at.result c.requires.located.sound
    on (c.following-at.ensures c.args.waiting.now.res on))

-- it does not
pub loop-at-preserved : goal.loop-at-preserved
loop-at-preserved c =
    let s = c.args.store.now in
    let f = c.args.waiting.now in
    let on = c.loop-at.invariant.on c.in-Some.lock c.in-Some.is in
    let after = c.following-at.ensures f.res on in
    record {
      on = after_on s f.res c.in-Some.lock c.following-at.result c.requires.located.sound on after;
      leads =
          leads_on (λ r row. WaitsOn r f.row row) s f.res c.args.from c.in-Some.lock c.following-at.result
          c.requires.located.sound on after c.if-waits_on.ensures.no
          (subst (Leads (λ r row. WaitsOn r f.row row) s f.res c.args.from) c.in-Some.is c.loop-at.invariant.leads);
    }

-- no lock is left
pub returns-clause-next : goal.returns-clause-next
returns-clause-next c =
    let f = c.args.waiting.now in
    leads_none (λ r row. WaitsOn r f.row row) c.args.store.now f.res c.args.from c.loop-at.at c.in_default.is c.loop-at.invariant.leads
