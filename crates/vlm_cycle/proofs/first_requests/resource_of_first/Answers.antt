use Rattle.std.proofs.Common.{◌≡◌, ◌∙◌, ◌&&◌, Some, ap, eq-eqb, false, subst, sym, true}
use Rattle.std.proofs.lemmas.Option.{none-some, same_Some}
use Rattle.vlm_collections.specs.Lists.{IsIn}
use Rattle.vlm_store.specs.Records.{locks_at}
use Rattle.vlm_cycle.specs.Leading.{IsFirstOn}
use Rattle.vlm_cycle.proofs.FirstInLine.{led_one}
use Rattle.vlm_cycle.proofs.first_requests.resource_of_first.Goals as goal

pub returns-in_err-first-clause-first : goal.returns-in_err-first-clause-first
returns-in_err-first-clause-first c res is =
    let stands = subst (λ p. IsIn (record { at = c.args.lock; row = c.lock_record.result.now.row })
    (locks_at p c.args.store.now)) c.parts-res.ensures c.lock_record.ensures.stands in
    let own = led_one c.args.store.now c.lock_record.ensures.sound c.args.lock c.lock_record.result.now.row
    c.parts-res.result.0 c.parts-res.result.1 stands res is in
    let first : c.first_queued.result ≡ Some c.args.lock = c.first_queued.ensures ∙ subst (IsFirstOn c.args.store.now c.args.lock) (sym own) is in
    absurd (none-some c.args.lock (sym c.in_err-first.was ∙ first))

pub returns-then-eq-clause-first : goal.returns-then-eq-clause-first
returns-then-eq-clause-first c res is =
    let stands = subst (λ p. IsIn (record { at = c.args.lock; row = c.lock_record.result.now.row })
    (locks_at p c.args.store.now)) c.parts-res.ensures c.lock_record.ensures.stands in
    ap Some (led_one c.args.store.now c.lock_record.ensures.sound c.args.lock c.lock_record.result.now.row
    c.parts-res.result.0 c.parts-res.result.1 stands res is)

pub returns-clause-first : goal.returns-clause-first
returns-clause-first c res is =
    let stands = subst (λ p. IsIn (record { at = c.args.lock; row = c.lock_record.result.now.row })
    (locks_at p c.args.store.now)) c.parts-res.ensures c.lock_record.ensures.stands in
    let own = led_one c.args.store.now c.lock_record.ensures.sound c.args.lock c.lock_record.result.now.row
    c.parts-res.result.0 c.parts-res.result.1 stands res is in
    let first : c.first_queued.result ≡ Some c.args.lock = c.first_queued.ensures ∙ subst (IsFirstOn c.args.store.now c.args.lock) (sym own) is in
    let same : c.in_ok-first.first ≡ c.args.lock = same_Some c.in_ok-first.first c.args.lock (sym c.in_ok-first.was ∙ first) in
    let no : false ≡ true = c.if-eq.ensures ∙ ap (λ b. b && true) (eq-eqb c.in_ok-first.first c.args.lock same) in
    absurd (cc)
