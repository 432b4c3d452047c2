use Rattle.std.proofs.Common.{◌∙◌, sym}
use Rattle.std.proofs.lemmas.Bool.{OnFalse_at, OnFalse_from, OnTrue_at, OnTrue_from}
use Rattle.vlm_model.specs.Deadlocks.{WaitsOn}
use Rattle.vlm_cycle.proofs.BlockerWalks.{on_stored}
use Rattle.vlm_cycle.proofs.Blocking.{looks, passes_row, row_passes, waited, waits}
use Rattle.vlm_cycle.proofs.next_blockers.waits_on.Goals as goal

pub lock_record-other-requires : goal.lock_record-other-requires
lock_record-other-requires c = on_stored c.args.store.now c.args.waiting.now.res c.args.lock c.requires.located.sound c.requires.on

-- no request waits for its own lock
pub returns-then-lkid-clause-no : goal.returns-then-lkid-clause-no
returns-then-lkid-clause-no c w =
    let s = c.args.store.now in
    let f = c.args.waiting.now in
    let row = c.lock_record-other.result.now.row in
    let found = c.requires.located.found in
    let on = row_passes (λ r other. WaitsOn r f.row other) s f.res c.args.lock row c.requires.located.resource
    c.requires.located.sound found c.lock_record-other.ensures.row w in
    on.another (sym c.lkid.ensures ∙ c.if-lkid.true ∙ c.lkid-2.ensures)

-- another lock is one for which it waits exactly if it keeps it
pub returns-clause-yes : goal.returns-clause-yes
returns-clause-yes c =
    let s = c.args.store.now in
    let f = c.args.waiting.now in
    let row = c.lock_record-other.result.now.row in
    let sound = c.requires.located.sound in
    let l = looks s f c.args.lock row c.parts-queue.result.1 c.lock_record-other.result.now.place c.parts-queue.result.0
    sound c.requires.located c.requires.on c.parts-queue.ensures
    c.lock_record-other.ensures.stands in
    OnTrue_from c.keeps_waiting.result _ (λ is.
    passes_row (λ r other. WaitsOn r f.row other) s f.res c.args.lock row l.own l.found c.lock_record-other.ensures.row
    (waits s sound c.requires.ordered f l.own l.there l.among c.args.request.now c.requires.awaits
    c.parts-queue.result.1 (record { at = c.args.lock; row = row }) l.stands
    (λ same. c.if-lkid.false (c.lkid.ensures ∙ same ∙ sym c.lkid-2.ensures)) (OnTrue_at is c.keeps_waiting.ensures.yes)))

pub returns-clause-no : goal.returns-clause-no
returns-clause-no c =
    let s = c.args.store.now in
    let f = c.args.waiting.now in
    let row = c.lock_record-other.result.now.row in
    let sound = c.requires.located.sound in
    let l = looks s f c.args.lock row c.parts-queue.result.1 c.lock_record-other.result.now.place c.parts-queue.result.0
    sound c.requires.located c.requires.on c.parts-queue.ensures
    c.lock_record-other.ensures.stands in
    OnFalse_from c.keeps_waiting.result _ (λ is w.
    let on = row_passes (λ r other. WaitsOn r f.row other) s f.res c.args.lock row l.own sound l.found c.lock_record-other.ensures.row w in
    OnFalse_at is c.keeps_waiting.ensures.no
    (waited s sound c.requires.ordered f l.own l.there l.among c.args.request.now c.requires.awaits
    c.parts-queue.result.1 (record { at = c.args.lock; row = row }) l.stands on).1)
