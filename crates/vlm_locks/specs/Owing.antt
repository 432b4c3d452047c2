-- The ASTs that a process is owed, and the ASTs that are due to it for its locks.
use Rattle.std.specs.Prelude.{◌≡◌, ◌==◌, ◌+◌, ℕ, Bool, false, List, sum_by, None, Some, is_some, if◌then◌else◌}
use Rattle.vlm_words.specs.declared.locks.Request.{Request}
use Rattle.vlm_words.specs.declared.locks.LockState.{LockState}
use Rattle.vlm_model.specs.Asts.{is_synchronous}
use Rattle.vlm_words.specs.Dues.{due_to, one_where}
use Rattle.vlm_model.specs.Effects.{Blocks, blocks_after_grant}
use Rattle.vlm_model.specs.Endings.How.{by_grant}
use Rattle.vlm_model.specs.Grants.{grant_act}
use Rattle.vlm_words.specs.Rows.{granted_row}
use Rattle.vlm_store.specs.Records.{Records, StoredLock, StoredResource, due_of}

-- how many ASTs are due to a process for its own locks among these
abbrev pub due_among : ℕ → List StoredLock → ℕ
due_among pid locks = sum_by (λ k. due_to pid k.row) locks

-- how many are due to it for its locks on a resource
abbrev pub due_on : ℕ → StoredResource → ℕ
due_on pid r = due_among pid r.granted + due_among pid r.converting + due_among pid r.waiting

-- how many are due to it for all its locks
abbrev pub due_for : ℕ → Records → ℕ
due_for pid s = sum_by (due_on pid) s.resources

-- the sum of a measure over the locks of a resource
abbrev pub weight_on : (StoredLock → ℕ) → StoredResource → ℕ
weight_on measure r = sum_by measure r.granted + sum_by measure r.converting + sum_by measure r.waiting

-- the sum of a measure over all locks
abbrev pub total_weight : (StoredLock → ℕ) → Records → ℕ
total_weight measure s = sum_by (weight_on measure) s.resources

-- this lock is gone: the sum of every measure no longer counts it
abbrev pub LosesOne : StoredLock → Records → Records → Type 0
LosesOne lock old new = (measure : StoredLock → ℕ) → total_weight measure new + measure lock ≡ total_weight measure old

-- every measure's sum over all locks is the same
abbrev pub WeighsTheSame : Records → Records → Type 0
WeighsTheSame old new = (measure : StoredLock → ℕ) → total_weight measure new ≡ total_weight measure old

-- each process is owed the ASTs that are due to it, and no more
abbrev pub IsPaid : Records → Type 0
IsPaid s = (pid : ℕ) → due_of pid s ≡ due_for pid s

-- each process is owed the ASTs that are due to it, and the owner is owed this many more
abbrev pub OwesMore : ℕ → ℕ → Records → Type 0
OwesMore owner more s = (pid : ℕ) → due_of pid s ≡ due_for pid s + (if pid == owner then more else 0)

-- the ASTs due change only for one lock, whose row changed from the first to the second
abbrev pub DueMoves : LockState → LockState → Records → Records → Type 0
DueMoves was now old new = (pid : ℕ) → due_for pid new + due_to pid was ≡ due_for pid old + due_to pid now

-- the ASTs owed change as the ASTs due for one lock, whose row changed from the first to the second
abbrev pub OwedMoves : LockState → LockState → Records → Records → Type 0
OwedMoves was now old new = (pid : ℕ) → due_of pid new + due_to pid was ≡ due_of pid old + due_to pid now

-- the row after its queued request has ended
abbrev pub row_after_end : LockState → LockState
row_after_end row = record row { want = None }

-- the row of a lock for which nothing is due any more
abbrev pub row_at_end : LockState → LockState
row_at_end row = record row { want = None; armed = false }

-- the row of a withdrawn lock: gone, or without its queued request
abbrev pub left_row : Bool → LockState → LockState
left_row gone row = if gone then row_at_end row else row_after_end row

-- how many completion ASTs a request queues when it ends, at once or later
abbrev pub completions_queued : Bool → Request → ℕ
completions_queued at_once request =
    if is_synchronous at_once request then 0 else one_where (is_some request.completion)

-- the value block and the processes after a grant, without the completion AST
abbrev pub blocks_written : LockState → Request → Blocks → Blocks
blocks_written row request b =
    blocks_after_grant (grant_act row.held (Some request))
    (record {
      lkid = row.lkid;
      pid = row.pid;
      request = request;
      how = by_grant (grant_act row.held (Some request));
      at_once = false;
    })
    b

-- how many completion ASTs of a request never come: 1 if it names a routine and is granted at once with SYNCSTS, else 0
abbrev pub suppressed_completions : Bool → Request → ℕ
suppressed_completions at_once request =
    if is_synchronous at_once request then one_where (is_some request.completion) else 0

-- the row of a lock that has entered: granted at once, or waiting
abbrev pub granted_if_at_once : Bool → LockState → LockState
granted_if_at_once at_once row = if at_once then granted_row row else row
