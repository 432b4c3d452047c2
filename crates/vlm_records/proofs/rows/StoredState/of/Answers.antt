use Rattle.vlm_records.proofs.Packing.{packed_packed, row_same}
use Rattle.vlm_records.proofs.rows.StoredState.of.Goals as goal

pub invariant_of-result : goal.invariant_of-result
invariant_of-result c =
    rw (
      c.packed_number.ensures,
      c.packed_number-2.ensures,
      c.packed_routines.ensures,
      c.packed_routines-2.ensures,
      c.packed_terms.ensures,
      c.packed_terms-2.ensures,
      c.tag_of.ensures,
      c.tag_of-2.ensures,
    )
    (packed_packed c.args.row.now)

pub returns : goal.returns
returns c =
    rw (
      c.packed_number.ensures,
      c.packed_number-2.ensures,
      c.packed_routines.ensures,
      c.packed_routines-2.ensures,
      c.packed_terms.ensures,
      c.packed_terms-2.ensures,
      c.tag_of.ensures,
      c.tag_of-2.ensures,
    )
    (row_same c.args.row.now)
