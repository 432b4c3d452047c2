-- A lock state is the same after it was packed and unpacked.
use Rattle.std.proofs.Common.{◌≡◌, ◌∙◌, ℕ, Option, None, Some, ap, refl}
use Rattle.vlm_words.specs.declared.locks.Request.{Request}
use Rattle.vlm_words.specs.declared.locks.LockState.{LockState}
use Rattle.vlm_records.specs.Requests.{packed_terms, tag_of, named_routines, packed_number, request_shown, routine_kept, packed_routines}
use Rattle.vlm_records.specs.Rows.{IsPacked, packed, row_shown}

-- a request whose routines are these
named_shown : (request : Request) (completion blocking : Option ℕ)
    → request_shown (named_routines completion blocking) request.number
    (record { completion = routine_kept completion; blocking = routine_kept blocking; param = request.param })
    (packed_terms (Some request))
    ≡ Some (record request { completion = completion; blocking = blocking })
named_shown request None None = refl
named_shown request (Some completion) None = refl
named_shown request None (Some blocking) = refl
named_shown request (Some completion) (Some blocking) = refl

-- a request that is kept is shown as it was
request_same : (request : Option Request) → request_shown (tag_of request) (packed_number request) (packed_routines request) (packed_terms request) ≡ request
request_same None = refl
request_same (Some request) = named_shown request request.completion request.blocking

-- a row that is kept is shown as it was
pub row_same : (row : LockState) → row_shown (packed row) ≡ row
row_same row =
    ap (λ held. record row {
      held = held;
      want =
          request_shown (tag_of row.want) (packed_number row.want) (packed_routines row.want) (packed_terms row.want);
    })
    (request_same row.held)
    ∙ ap (λ want. record row { want = want }) (request_same row.want)

-- what a row is kept in shows just that row
pub packed_packed : (row : LockState) → IsPacked (packed row)
packed_packed row = ap packed (row_same row)
