use Rattle.std.proofs.Common.{◌≡◌, IfSome, subst}
use Rattle.std.specs.Prelude.{◌||◌}
use Rattle.std.specs.List.{list_any}
use Rattle.vlm_words.specs.declared.modes.Mode.TheVariants.{Cr}
use Rattle.vlm_words.specs.Rows.{blocks_request}
use Rattle.vlm_store.specs.Records.{resource_at, rows_of_locks}
use Rattle.vlm_locks.proofs.Unwarned.{spares_above_cr, spares_above_nl}
use Rattle.vlm_locks.proofs.warnings.warn.Goals as goal

-- CR is in the way
pub warn_armed-requires-clause-spares : goal.warn_armed-requires-clause-spares
warn_armed-requires-clause-spares c = spares_above_nl c.args.res c.args.store.now

-- it is not
pub warn_armed-requires-else-blocks_a_request-clause-spares : goal.warn_armed-requires-else-blocks_a_request-clause-spares
warn_armed-requires-else-blocks_a_request-clause-spares c =
    spares_above_cr c.args.res c.args.store.now
    (subst
    (λ b. IfSome (resource_at c.args.res c.args.store.now.resources)
    (λ r. b ≡ (list_any (λ row. blocks_request Cr row.want) (rows_of_locks r.converting) || list_any
    (λ row. blocks_request Cr row.want) (rows_of_locks r.waiting))))
    c.if-blocks_a_request.false c.blocks_a_request.ensures)
