-- The numbers of locks that hold each mode.
use Rattle.std.specs.Prelude.{ℕ, List, count_by}
use Rattle.vlm_words.specs.declared.locks.LockState.{LockState}
use Rattle.vlm_records.specs.Tallies.{by_mode, is_mode}

-- how many of the rows hold each mode, from NL to EX
abbrev pub held_counts : List LockState → List ℕ
held_counts rows = by_mode (λ mode. count_by (λ row. is_mode mode row.held) rows)
