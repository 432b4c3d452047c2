-- What is left of a resource after some of its locks are given up together.
use Rattle.std.specs.Prelude.{ℕ, Bool, false, not, ◌&&◌, ◌||◌, ◌==◌, List, filter, None, if◌then◌else◌}
use Rattle.std.specs.List.{list_any}
use Rattle.vlm_words.specs.declared.locks.LockState.{LockState}
use Rattle.vlm_model.specs.Endings.{How}
use Rattle.vlm_words.specs.State.{Resource}
use Rattle.vlm_words.specs.ValueBlocks.{invalid_value_block}
use Rattle.vlm_model.specs.Withdrawals.{Withdrawal, is_writer}

-- the withdrawal of a lock that is given up: how its request ends if it waits and if it converts; it writes no value,
-- and may mark the value block invalid
abbrev pub giving_up : How → How → Bool → ℕ → Withdrawal
giving_up waiting converting invalidates lkid = record {
  lkid = lkid;
  waiting = waiting;
  converting = converting;
  stays = false;
  value = None;
  tail = None;
  invalidates = invalidates;
}

-- whether the lock of the row is among these
abbrev pub is_among : List ℕ → LockState → Bool
is_among lkids row = list_any (λ lkid. row.lkid == lkid) lkids

-- the rows that stay
abbrev pub rows_left : (LockState → Bool) → List LockState → List LockState
rows_left goes rows = filter (λ row. not (goes row)) rows

-- whether a row that goes holds PW or EX
abbrev pub has_writer_among : (LockState → Bool) → List LockState → Bool
has_writer_among goes rows = list_any (λ row. goes row && is_writer row.held) rows

-- the resource without the rows that go; if they invalidate and one of them held PW or EX, its whole value block is
-- invalid
unfoldable pub resource_left : (LockState → Bool) → Bool → Resource → Resource
resource_left goes invalidates r = record r {
  value_block =
      if invalidates && (has_writer_among goes r.granted || has_writer_among goes r.converting)
      then invalid_value_block r.value_block else r.value_block;
  granted = rows_left goes r.granted;
  converting = rows_left goes r.converting;
  waiting = rows_left goes r.waiting;
}
