use Rattle.std.proofs.Common.{◌∙◌, ap, arith, sym}
use Rattle.std.proofs.lemmas.Bool.{OnFalse_at}
use Rattle.indexmap.specs.IndexMap.{spare}
use Rattle.vlm_store.specs.OtherKeys.{KeyMap}
use Rattle.vlm_store.proofs.EnteringKeys.{enters_others}
use Rattle.vlm_store.proofs.KeptRecords.{on_err}
use Rattle.vlm_store.proofs.Spares.{both_kept, both_used, spare_is}
use Rattle.vlm_store.proofs.key_index.KeyIndex.insert.Goals as goal

pub returns-in_err-reserve-clause-succeeds : goal.returns-in_err-reserve-clause-succeeds
returns-in_err-reserve-clause-succeeds c room =
    let never = c.in_err-reserve.ensures.succeeds (omega (arith, spare_is c.args.self.now c.args.hash, ap spare c.look_ahead.ensures.others, room)) in
    cc

pub returns-in_err-reserve-clause-kept : goal.returns-in_err-reserve-clause-kept
returns-in_err-reserve-clause-kept c =
    on_err c.from_residual.result _
    (both_kept c.args.self.now (record c.look_ahead.new.self { others = c.reserve.new.self })
    (omega (arith, ap spare c.look_ahead.ensures.others, c.reserve.ensures.room)) c.look_ahead.ensures.room)

pub returns-in_err-insert-clause-succeeds : goal.returns-in_err-insert-clause-succeeds
returns-in_err-insert-clause-succeeds c room =
    let never = c.in_err-insert.ensures.succeeds (omega (arith, spare_is c.args.self.now c.args.hash, c.look_ahead.ensures.room c.args.hash, room)) in
    cc

pub returns-in_err-insert-clause-kept : goal.returns-in_err-insert-clause-kept
returns-in_err-insert-clause-kept c =
    on_err c.from_residual-in_err-insert.result _
    (both_kept c.args.self.now (record c.look_ahead.new.self { main = c.insert.new.self; others = c.reserve.new.self })
    (omega (arith, ap spare c.look_ahead.ensures.others, c.reserve.ensures.room))
    (λ number. omega (arith, c.look_ahead.ensures.room number, c.in_err-insert.ensures.kept number)))

pub returns-then-not-branch-clause-enters : goal.returns-then-not-branch-clause-enters
returns-then-not-branch-clause-enters c =
    enters_others c.args.self.now (record c.look_ahead.new.self { others = c.reserve.new.self })
    (record c.look_ahead.new.self { main = c.insert.new.self; others = c.insert-then-not-branch.new.self })
    (record { key = c.args.key.now; hash = c.args.hash }) c.args.at c.look_ahead.ensures.main
    (c.reserve.ensures.same ∙ ap (λ (m : KeyMap). m.entries) c.look_ahead.ensures.others) (sym c.if-not-branch.true ∙ c.in_ok-insert.ensures.is_new)
    c.insert-then-not-branch.ensures.updates (OnFalse_at c.if-not-branch.true c.in_ok-insert.ensures.same)

pub returns-then-not-branch-clause-taken : goal.returns-then-not-branch-clause-taken
returns-then-not-branch-clause-taken c =
    both_used c.args.self.now
    (record c.look_ahead.new.self { main = c.insert.new.self; others = c.insert-then-not-branch.new.self })
    (omega (arith, ap spare c.look_ahead.ensures.others, c.reserve.ensures.room, c.insert-then-not-branch.ensures.spare))
    (λ number. omega (arith, c.look_ahead.ensures.room number, c.insert.ensures.taken number))

pub returns-else-not-branch-clause-taken : goal.returns-else-not-branch-clause-taken
returns-else-not-branch-clause-taken c =
    both_used c.args.self.now (record c.look_ahead.new.self { main = c.insert.new.self; others = c.reserve.new.self })
    (omega (arith, ap spare c.look_ahead.ensures.others, c.reserve.ensures.room))
    (λ number. omega (arith, c.look_ahead.ensures.room number, c.insert.ensures.taken number))
