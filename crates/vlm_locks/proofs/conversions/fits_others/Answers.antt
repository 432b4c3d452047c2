use Rattle.std.proofs.Common.{◌≡◌, IfSome, Some, sym, ap, ◌∙◌, subst, inl}
use Rattle.std.proofs.lemmas.Option.{same_Some}
use Rattle.vlm_words.specs.Rows.{fits, rows_without}
use Rattle.vlm_store.specs.Records.{IsLock, StoredResource, fits_beside, rows_of_locks}
use Rattle.vlm_locks.proofs.Converted.{fits_are}
use Rattle.vlm_locks.proofs.QueuedLocks.{stored}
use Rattle.vlm_locks.proofs.conversions.fits_others.Goals as goal

pub can_hold-requires-clause-except : goal.can_hold-requires-clause-except
can_hold-requires-clause-except c own same =
    let f = c.args.located.now in
    subst (λ k. IsLock k c.args.store.now) (same_Some f.lock own same) (f.row, inl (stored c.args.store.now f c.requires.located))

pub returns : goal.returns
returns c r found =
    let s = c.args.store.now in
    let f = c.args.located.now in
    let located = c.requires.located in
    let told = subst (λ o. IfSome o (λ x. c.can_hold.result ≡ fits_beside c.args.mode (Some f.lock) x)) located.found c.can_hold.ensures in
    let same : located.resource ≡ r = same_Some located.resource r (sym located.found ∙ found) in
    told ∙ fits_are s c.requires.located.sound f located c.args.mode c.requires.granted
    ∙ ap (λ (x : StoredResource). fits c.args.mode (rows_without f.row.lkid (rows_of_locks x.granted)) (rows_of_locks x.converting)) same
