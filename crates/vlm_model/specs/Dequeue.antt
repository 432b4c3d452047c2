-- The step Deq: gives up locks, or cancels a request.
use Rattle.std.specs.Prelude.{ℕ, Bool, not, ◌&&◌, ◌||◌, ◌==◌, List, [], ◌∷◌, map, filter, Option, None, Some, is_some, if◌then◌else◌}
use Rattle.std.specs.List.{list_any}
use Rattle.vlm_words.specs.declared.conditions.Cond.TheVariants.{Badparam, Cancelgrant, Sublocks}
use Rattle.vlm_words.specs.declared.conditions.Cond.{Cond}
use Rattle.vlm_words.specs.declared.locks.LockState.{LockState}
use Rattle.vlm_words.specs.declared.steps.Dequeue.{Dequeue}
use Rattle.vlm_words.specs.Flags.{cancel, deq_bits, deqall, has_flag, invvalblk, is_known}
use Rattle.vlm_words.specs.State.{Resource, State}
use Rattle.vlm_model.specs.Endings.{Ending, How}
use Rattle.vlm_model.specs.Endings.How.{by_abort, by_cancel}
use Rattle.vlm_model.specs.OwnLocks.{is_below, own_lkids}
use Rattle.vlm_words.specs.Rows.{is_lock_of}
use Rattle.vlm_model.specs.Withdrawals.{Withdrawal, state_after_withdrawals, withdrawn_endings}
use Rattle.vlm_model.specs.Checks.{caller_refusal, lock_refusal, named_lkid, or_else, which_refusal}

-- DEQALL with CANCEL or with a value, or a tail without a value
abbrev pub is_mixed : Dequeue → Bool
is_mixed d =
    (has_flag d.flags deqall && (has_flag d.flags cancel || is_some d.value))
    || (is_some d.tail && not (is_some d.value))

-- BADPARAM for an unknown flag, or for arguments that do not go together
unfoldable pub deq_flags_refusal : Dequeue → Option Cond
deq_flags_refusal d = if is_known deq_bits d.flags && not (is_mixed d) then None else Some Badparam

-- the named lock
abbrev pub dequeue_lkid : State → Dequeue → ℕ
dequeue_lkid s d = named_lkid s d.pid d.lock

-- DEQALL with 0 means all locks of the caller
abbrev pub is_for_all : State → Dequeue → Bool
is_for_all s d = has_flag d.flags deqall && (dequeue_lkid s d == 0)

-- IVLOCKID if the named lock is not a lock of the caller
unfoldable pub dequeued_lock_refusal : State → Dequeue → Option Cond
dequeued_lock_refusal s d = if is_for_all s d then None else lock_refusal s d.pid (dequeue_lkid s d)

-- the lock of this process is granted on one of these resources
abbrev pub is_granted : ℕ → ℕ → List Resource → Bool
is_granted pid lkid resources = list_any (λ r. list_any (is_lock_of pid lkid) r.granted) resources

-- CANCELGRANT if the lock is granted, so it has no request to cancel
unfoldable pub cancel_refusal : State → Dequeue → Option Cond
cancel_refusal s d =
    if has_flag d.flags cancel && is_granted d.pid (dequeue_lkid s d) s.resources then Some Cancelgrant
    else None

-- one of the rows is a sublock of the lock
abbrev pub has_sublock : ℕ → List LockState → Bool
has_sublock lkid rows = list_any (λ row. row.parent == lkid) rows

-- a sublock of the lock is on the resource, in any queue
abbrev pub has_sublock_on : ℕ → Resource → Bool
has_sublock_on lkid r =
    has_sublock lkid r.granted || has_sublock lkid r.converting || has_sublock lkid r.waiting

-- the dequeue leaves no sublock without its parent: a lock that a cancel takes has no sublocks, and DEQALL takes them
-- too
abbrev pub leaves_none : Dequeue → Bool
leaves_none d = has_flag d.flags cancel || has_flag d.flags deqall

-- SUBLOCKS if a lock with sublocks would be given up alone
unfoldable pub sublocks_refusal : State → Bool → ℕ → Option Cond
sublocks_refusal s leaves_none lkid =
    if not leaves_none && list_any (has_sublock_on lkid) s.resources then Some Sublocks else None

-- the checks of a dequeue, in their order
unfoldable pub deq_refusal : State → Dequeue → Option Cond
deq_refusal s d =
    or_else (caller_refusal s d.pid)
    (or_else (deq_flags_refusal d)
    (or_else (which_refusal s d.pid d.lock)
    (or_else (dequeued_lock_refusal s d)
    (or_else (cancel_refusal s d)
    (sublocks_refusal s (leaves_none d) (dequeue_lkid s d))))))

-- how the lock's conversion ends: by CANCEL, or by ABORT if the lock goes
abbrev pub conversion_ending : Bool → How
conversion_ending cancels = if cancels then by_cancel else by_abort

-- the withdrawal that a dequeue asks for; a cancel keeps the lock and ignores value, tail and INVVALBLK
abbrev pub withdrawal_of : Dequeue → ℕ → Withdrawal
withdrawal_of d lkid = record {
  lkid = lkid;
  waiting = by_abort;
  converting = conversion_ending (has_flag d.flags cancel);
  stays = has_flag d.flags cancel;
  value = if has_flag d.flags cancel then None else d.value;
  tail = if has_flag d.flags cancel then None else d.tail;
  invalidates = has_flag d.flags invvalblk && not (has_flag d.flags cancel);
}

-- DEQALL takes this lock of the caller: with 0 every lock, else the locks below the named one
abbrev pub is_dequeued : State → Dequeue → ℕ → Bool
is_dequeued s d lkid = (dequeue_lkid s d == 0) || is_below 15 (dequeue_lkid s d) s.resources lkid

-- the locks that a dequeue withdraws, by rising ID
abbrev pub dequeued_lkids : State → Dequeue → List ℕ
dequeued_lkids s d =
    if has_flag d.flags deqall then filter (is_dequeued s d) (own_lkids (λ pid. pid == d.pid) s)
    else dequeue_lkid s d ∷ []

-- the withdrawals of these locks
abbrev pub withdrawals_of : State → Dequeue → List Withdrawal
withdrawals_of s d = map (withdrawal_of d) (dequeued_lkids s d)

-- the endings of the requests of these locks
abbrev pub deq_endings : State → Dequeue → List Ending
deq_endings s d = withdrawn_endings (withdrawals_of s d) s.resources

-- the change of a dequeue: its locks are withdrawn
unfoldable pub deq_change : State → Dequeue → State
deq_change s d = state_after_withdrawals (withdrawals_of s d) s
