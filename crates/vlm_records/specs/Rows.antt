-- The parts of a packed row.
use Rattle.std.specs.Prelude.{◌≡◌}
use Rattle.vlm_words.specs.declared.locks.LockState.{LockState}
use Rattle.vlm_records.specs.declared.rows.StoredState.TheInside.{Inside}
use Rattle.vlm_records.specs.Requests.{packed_terms, tag_of, packed_number, request_shown, packed_routines}

-- the row that the parts show
abbrev pub row_shown : Inside → LockState
row_shown r = record {
  lkid = r.lkid;
  pid = r.pid;
  parent = r.parent;
  armed = r.armed;
  held = request_shown r.held_tag r.held_number r.held_routines r.held_terms;
  want = request_shown r.want_tag r.want_number r.want_routines r.want_terms;
}

-- the packed form of a row
abbrev pub packed : LockState → Inside
packed row = record {
  held_number = packed_number row.held;
  want_number = packed_number row.want;
  held_routines = packed_routines row.held;
  want_routines = packed_routines row.want;
  lkid = row.lkid;
  pid = row.pid;
  parent = row.parent;
  held_terms = packed_terms row.held;
  want_terms = packed_terms row.want;
  held_tag = tag_of row.held;
  want_tag = tag_of row.want;
  armed = row.armed;
}

-- the parts are packed: a missing request is all zeros
abbrev pub IsPacked : Inside → Type 0
IsPacked r = packed (row_shown r) ≡ r
