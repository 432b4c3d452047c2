-- The ASTs that are reserved for a process are those that its locks are due.
use Rattle.std.proofs.Common.{◌≡◌, ◌≢◌, ◌≤◌, ◌+◌, ◌-◌, ℕ, Bool, true, false, List, [], ◌∷◌, map, cond, Option, None}
use Rattle.std.proofs.Common.{Some, refl, sym, ap, ◌∙◌, subst, inl, inr, arith, eq-eqb, ne_eqb}
use Rattle.std.specs.Prelude.{◌==◌, find, is_some}
use Rattle.std.specs.Int.{from_bool}
use Rattle.std.specs.Option.{option_map_or}
use Rattle.std.proofs.lemmas.Bool.{cases_eq}
use Rattle.vlm_words.specs.declared.locks.Request.{Request}
use Rattle.vlm_words.specs.declared.locks.LockState.{LockState}
use Rattle.vlm_words.specs.declared.resources.Queue.{Queue}
use Rattle.vlm_words.specs.declared.resources.Queue.TheVariants.{Granted}
use Rattle.vlm_words.specs.declared.modes.Act.{Act}
use Rattle.vlm_words.specs.declared.modes.Act.TheVariants.{Nothing, Return, Write}
use Rattle.vlm_model.specs.Asts.{completion_asts, is_synchronous}
use Rattle.vlm_model.specs.Effects.{Blocks, blocks_after, blocks_after_asts, blocks_after_grant, blocks_after_return, blocks_after_writing}
use Rattle.vlm_model.specs.Endings.{Ending}
use Rattle.vlm_model.specs.Endings.How.{by_grant}
use Rattle.vlm_words.specs.Dues.{due_to, one_where, routines_of, row_due}
use Rattle.vlm_model.specs.Grants.{grant_act, grant_endings}
use Rattle.vlm_words.specs.Rows.{granted_row, is_arming}
use Rattle.vlm_records.specs.declared.handles.Place.TheVariants.{Queued}
use Rattle.vlm_store.specs.Records.{DueChanges, DuesStay, HasResource, IsIdle, IsSound, Records, Room, SameButNotices}
use Rattle.vlm_store.specs.Records.{StoredLock, StoredProcess, Stores, due_of, leaving, moving, on_resource}
use Rattle.vlm_store.specs.Records.{process_without_lock, resource_with, with_lists, with_resource_room}
use Rattle.vlm_store.specs.Records.{without_resource}
use Rattle.vlm_locks.specs.Owing.{DueMoves, IsPaid, LosesOne, WeighsTheSame, total_weight, OwedMoves, blocks_written}
use Rattle.vlm_locks.specs.Owing.{completions_queued, suppressed_completions, due_for, row_after_end, row_at_end}
use Rattle.vlm_locks.specs.Withdrawing.{owned_after}
use Rattle.vlm_words.specs.declared.resources.ValueBlock.{ValueBlock}
use Rattle.vlm_locks.proofs.SumsOverLocks.{dropped_weighs, gone_weighs, kept_weighs, moved_weighs}

-- a flag as a number
pub one_from : (b : Bool) → from_bool b ≡ one_where b
one_from true = refl
one_from false = refl

-- notices alone, twice
pub notices_twice : (s t u : Records) → SameButNotices s t → SameButNotices t u → SameButNotices s u
notices_twice s t u first second = record {
  resources = second.resources ∙ first.resources;
  processes = second.processes ∙ first.processes;
  room = second.room ∙ first.room;
  keys = second.keys ∙ first.keys;
}

-- what is owed changes so from where it stayed
pub changes_then : (pid : ℕ) (f : ℕ → ℕ) (s t u : Records) → DuesStay s t → DueChanges pid f t u → DueChanges pid f s u
changes_then pid f s t u stay changes other =
    changes other ∙ ap (λ (due : ℕ). cond (other == pid) (f due) due) (stay other)

-- of a named completion the one part is queued and the other spared
completion_parts : (at_once : Bool) (request : Request)
    → completions_queued at_once request + suppressed_completions at_once request ≡ one_where
    (is_some request.completion)
completion_parts at_once request = of_test (is_synchronous at_once request)
  where
    of_test : (b : Bool) → cond b 0 (one_where (is_some request.completion)) + cond b
        (one_where (is_some request.completion)) 0 ≡ one_where (is_some request.completion)
    of_test true = omega arith
    of_test false = omega arith

-- what is owed to the process of a row, and to others
module _ (row : LockState) (f : ℕ → ℕ) (old new : Records) (changes : DueChanges row.pid f old new) where
  pub owed_own : due_of row.pid new ≡ f (due_of row.pid old)
  owed_own = changes row.pid ∙ ap (λ (b : Bool). cond b (f (due_of row.pid old)) (due_of row.pid old)) (eq-eqb row.pid row.pid refl)

  pub owed_other : (pid : ℕ) → row.pid ≢ pid → due_of pid new ≡ due_of pid old
  owed_other pid differs = changes pid ∙ ap (λ (b : Bool). cond b (f (due_of pid old)) (due_of pid old)) (ne_eqb pid row.pid (λ same. differs (sym same)))

-- what is due to the process of a row for it, and to others
pub due_own : (row : LockState) → due_to row.pid row ≡ row_due row
due_own row = ap (λ (b : Bool). cond b (row_due row) 0) (eq-eqb row.pid row.pid refl)

pub due_other : (row : LockState) (pid : ℕ) → row.pid ≢ pid → due_to pid row ≡ 0
due_other row pid differs = ap (λ (b : Bool). cond b (row_due row) 0) (ne_eqb row.pid pid differs)

-- what is owed moves from one row of a process to another, where what it is owed changes so
pub owed_moves : (was now : LockState) (old new : Records) → now.pid ≡ was.pid → due_of was.pid new + row_due was ≡ due_of was.pid old + row_due now
    → ((pid : ℕ) → was.pid ≢ pid → due_of pid new ≡ due_of pid old) → OwedMoves was now old new
owed_moves was now old new same own others pid =
    elim (cases_eq was.pid pid) [
      | inl is ↦
          subst (λ (p : ℕ). due_of p new + due_to p was ≡ due_of p old + due_to p now) is
          (omega (arith, own, due_own was, subst (λ (p : ℕ). due_to p now ≡ row_due now) same (due_own now)))
      | inr differs ↦ omega (arith, others pid differs, due_other was pid differs, due_other now pid (λ e. differs (sym same ∙ e)))
    ]

-- ---- a request is granted

module _ (row : LockState) (request : Request) (want : row.want ≡ Some request) (at_once : Bool) where
  -- what is due for it before and after
  pub due_before : row_due row ≡ one_where (is_some request.completion) + one_where (is_some request.blocking) + one_where row.armed
  due_before = ap (λ (o : Option Request). routines_of o + one_where row.armed) want

  pub due_after : row_due (granted_row row) ≡ one_where (is_some request.blocking)
  due_after = omega (arith, ap (λ (o : Option Request). one_where (is_arming o)) want)

  module _ (old mid : Records) (queued : DueChanges row.pid (λ due. due - completions_queued at_once request) old mid)
      (enough : row_due row ≤ due_of row.pid old) where
    -- what is spared is owed still
    pub spared_fits : one_where row.armed + suppressed_completions at_once request ≤ due_of row.pid mid
    spared_fits =
        omega (arith, owed_own row (λ due. due - completions_queued at_once request) old mid queued, enough, due_before, completion_parts at_once request)

    -- once it is forgiven, what is due for the granted lock is owed
    pub granted_owed : (new : Records)
        → DueChanges row.pid (λ due. due - (one_where row.armed + suppressed_completions at_once request)) mid new
        → OwedMoves row (granted_row row) old new
    granted_owed new spared =
        owed_moves row (granted_row row) old new refl
        (omega (
          arith,
          owed_own row (λ due. due - completions_queued at_once request) old mid queued,
          owed_own row (λ due. due - (one_where row.armed + suppressed_completions at_once request)) mid new spared,
          enough,
          due_before,
          due_after,
          completion_parts at_once request,
        ))
        (λ pid differs.
        owed_other row (λ due. due - (one_where row.armed + suppressed_completions at_once request)) mid new spared pid differs
        ∙ owed_other row (λ due. due - completions_queued at_once request) old mid queued pid differs)

-- where a lock wants nothing, its warning alone is forgiven
pub nothing_granted_owed : (row : LockState) → row.want ≡ None → (old new : Records) → row_due row ≤ due_of row.pid old
    → DueChanges row.pid (λ due. due - one_where row.armed) old new → OwedMoves row (granted_row row) old new
nothing_granted_owed row none old new enough spared =
    let before : row_due row ≡ one_where row.armed = omega (arith, ap routines_of none) in
    let after : row_due (granted_row row) ≡ 0 = omega (arith, ap (λ (o : Option Request). one_where (is_arming o)) none) in
    owed_moves row (granted_row row) old new refl
    (omega (arith, owed_own row (λ due. due - one_where row.armed) old new spared, enough, before, after))
    (λ pid differs. owed_other row (λ due. due - one_where row.armed) old new spared pid differs)

-- ---- what a grant writes and queues

-- whether it is at once changes nothing of what it writes
same_written : (act : Act) (first second : Ending) (b : Blocks) → second.pid ≡ first.pid → second.request ≡ first.request
    → blocks_after_grant act second b ≡ blocks_after_grant act first b
unfolding blocks_after_return blocks_after_writing
same_written Nothing first second b pid request = rw (pid, request) refl
same_written Return first second b pid request = rw (pid, request) refl
same_written Write first second b pid request = rw (pid, request) refl

-- a grant writes, and then its completion is queued
pub granted_blocks : (row : LockState) (request : Request) (at_once : Bool) (b : Blocks) → row.want ≡ Some request
    → blocks_after (grant_endings at_once row) b ≡ blocks_after_asts (completion_asts at_once request row.lkid row.pid) (blocks_written row request b)
granted_blocks row request at_once b want =
    rw want
    (ap (blocks_after_asts (completion_asts at_once request row.lkid row.pid))
    (same_written (grant_act row.held (Some request))
    (record { lkid = row.lkid; pid = row.pid; request = request; how = by_grant (grant_act row.held (Some request)); at_once = false })
    (record { lkid = row.lkid; pid = row.pid; request = request; how = by_grant (grant_act row.held (Some request)); at_once = at_once })
    b refl refl))

-- ---- the locks of the records

-- what each lock weighs here
abbrev pub weight : ℕ → StoredLock → ℕ
weight pid k = due_to pid k.row

-- what is due for a lock that is stored is owed, where each process is owed what is due to it
pub due_fits : (s : Records) → IsSound s → IsPaid s → (at : ℕ) (row : LockState) → Stores s at row → row_due row ≤ due_of row.pid s
due_fits s sound paid at row stored =
    omega (arith, paid row.pid, gone_weighs (weight row.pid) s sound at row stored, due_own row)

-- both change alike
pub paid_still : (was now : LockState) (old new : Records) → DueMoves was now old new → OwedMoves was now old new → IsPaid old → IsPaid new
paid_still was now old new due owed paid pid = omega (arith, due pid, owed pid, paid pid)

-- what is due changes as a lock moves to a queue with another row
pub due_moved : (s : Records) → IsSound s → (at : ℕ) (was now : LockState) (res : ℕ) (to : Queue) → Stores s at was → HasResource res s
    → DueMoves was now s (with_lists (moving (Queued res to) (record { at = at; row = now })) s)
due_moved s sound at was now res to stored there pid = moved_weighs (weight pid) s sound at was now res to stored there

-- and stays where notices alone change
pub due_noticed : (s t : Records) → SameButNotices s t → (pid : ℕ) → due_for pid t ≡ due_for pid s
due_noticed s t same pid = rw same.resources refl

-- a lock that is granted on its resource
pub paid_granted : (s t : Records) → IsSound s → (at : ℕ) (row : LockState) (res : ℕ) → Stores s at row → HasResource res s
    → SameButNotices (with_lists (moving (Queued res Granted) (record { at = at; row = granted_row row })) s) t
    → OwedMoves row (granted_row row) s t → IsPaid s → IsPaid t
paid_granted s t sound at row res stored there moved owed paid =
    paid_still row (granted_row row) s t
    (λ pid.
    ap (λ (due : ℕ). due + due_to pid row) (due_noticed (with_lists (moving (Queued res Granted) (record { at = at; row = granted_row row })) s) t moved pid)
    ∙ due_moved s sound at row (granted_row row) res Granted stored there pid)
    owed paid

-- ---- a lock is withdrawn

-- what is due for it once its request has ended, and once it is gone
pub due_after_end : (row : LockState) → row_due (row_after_end row) ≡ one_where row.armed
due_after_end row = omega arith

pub due_at_end : (row : LockState) → row_due (row_at_end row) ≡ 0
due_at_end row = omega arith

-- its request ends: the completion is queued, and what was owed for a blocking routine forgiven
pub ended_owed : (row : LockState) (request : Request) → row.want ≡ Some request → (old mid new : Records) → row_due row ≤ due_of row.pid old
    → DueChanges row.pid (λ due. due - completions_queued false request) old mid
    → DueChanges row.pid (λ due. due - one_where (is_some request.blocking)) mid new → OwedMoves row (row_after_end row) old new
ended_owed row request want old mid new enough queued spared =
    owed_moves row (row_after_end row) old new refl
    (omega (
      arith,
      owed_own row (λ due. due - completions_queued false request) old mid queued,
      owed_own row (λ due. due - one_where (is_some request.blocking)) mid new spared,
      enough,
      due_before row request want false,
      due_after_end row,
    ))
    (λ pid differs.
    owed_other row (λ due. due - one_where (is_some request.blocking)) mid new spared pid differs
    ∙ owed_other row (λ due. due - completions_queued false request) old mid queued pid differs)

-- what is owed for a blocking routine is owed still once the completion is queued
pub blocking_fits : (row : LockState) (request : Request) → row.want ≡ Some request → (old mid : Records) → row_due row ≤ due_of row.pid old
    → DueChanges row.pid (λ due. due - completions_queued false request) old mid → one_where (is_some request.blocking) ≤ due_of row.pid mid
blocking_fits row request want old mid enough queued =
    omega (arith, owed_own row (λ due. due - completions_queued false request) old mid queued, enough, due_before row request want false)

-- where it wants nothing nothing is to come of that
pub nothing_wanted : (row : LockState) → row.want ≡ None → (pid : ℕ) → due_to pid (row_after_end row) ≡ due_to pid row
nothing_wanted row none pid = ap (λ (o : Option Request). due_to pid (record row { want = o })) (sym none)

-- what is owed for the routines of what it wants is forgiven where its process ends
pub untold_owed : (row : LockState) (old new : Records) → row_due row ≤ due_of row.pid old → DueChanges row.pid (λ due. due - routines_of row.want) old new
    → OwedMoves row (row_after_end row) old new
untold_owed row old new enough forgiven =
    owed_moves row (row_after_end row) old new refl
    (omega (arith, owed_own row (λ due. due - routines_of row.want) old new forgiven, enough, due_after_end row))
    (λ pid differs. owed_other row (λ due. due - routines_of row.want) old new forgiven pid differs)

-- its warning is forgiven as it goes
pub spared_owed : (row : LockState) (old new : Records) → one_where row.armed ≤ due_of row.pid old
    → DueChanges row.pid (λ due. due - one_where row.armed) old new
    → OwedMoves (row_after_end row) (row_at_end row) old new
spared_owed row old new enough spared =
    owed_moves (row_after_end row) (row_at_end row) old new refl
    (omega (arith, owed_own row (λ due. due - one_where row.armed) old new spared, enough, due_after_end row, due_at_end row))
    (λ pid differs. owed_other row (λ due. due - one_where row.armed) old new spared pid differs)

-- what is owed moves on
pub owed_then : (a b c : LockState) (s t u : Records) → OwedMoves a b s t → OwedMoves b c t u → OwedMoves a c s u
owed_then a b c s t u first second pid = omega (arith, first pid, second pid)

-- and is the same where the processes are, but for their locks
pub owed_by_locks : (gone : Bool) (lock : ℕ) (s t : Records) → t.processes ≡ owned_after gone lock s.processes → DuesStay s t
owed_by_locks true lock s t is pid = rw is (each s.processes)
  where
    each : (ps : List StoredProcess)
        → option_map_or (λ (p : StoredProcess). p.due) (find (λ (p : StoredProcess). p.process.pid == pid) (map (process_without_lock lock) ps)) 0
        ≡ option_map_or (λ (p : StoredProcess). p.due) (find (λ (p : StoredProcess). p.process.pid == pid) ps) 0
    each [] = refl
    each (p ∷ ps) =
        elim (p.process.pid == pid) as (λ b.
        option_map_or (λ (x : StoredProcess). x.due)
        (cond b (Some (process_without_lock lock p))
        (find (λ (x : StoredProcess). x.process.pid == pid) (map (process_without_lock lock) ps))) 0
        ≡ option_map_or (λ (x : StoredProcess). x.due) (cond b (Some p) (find (λ (x : StoredProcess). x.process.pid == pid) ps)) 0) [
          | true ↦ refl
          | false ↦ each ps
        ]
owed_by_locks false lock s t is pid = rw is refl

-- a part of a withdrawal pays what it leaves due
pub paid_withdrawn : (was now : LockState) (gone : Bool) (lock : ℕ) (s t u v : Records) → IsPaid s → OwedMoves was now s t → SameButNotices s t
    → u.processes ≡ owned_after false lock t.processes → WeighsTheSame t u
    → v.processes ≡ owned_after gone lock u.processes → DueMoves was now u v → IsPaid v
paid_withdrawn was now gone lock s t u v paid owed same left left_due part part_due pid =
    omega (
      arith,
      paid pid,
      owed pid,
      due_noticed s t same pid,
      owed_by_locks false lock t u left pid,
      left_due (weight pid),
      owed_by_locks gone lock u v part pid,
      part_due pid,
    )

-- a lock goes
pub weighs_gone : (s : Records) → IsSound s → (at : ℕ) (row : LockState) → Stores s at row → (t : Records)
    → t.resources ≡ map (resource_with (leaving at)) s.resources
    → LosesOne (record { at = at; row = row }) s t
weighs_gone s sound at row stored t resources measure =
    let gone : total_weight measure t ≡ total_weight measure (with_lists (leaving at) s) = rw resources refl in
    omega (arith, gone, gone_weighs measure s sound at row stored)

-- for a lock at its end nothing is due
pub nothing_due : (row : LockState) (pid : ℕ) → due_to pid (row_at_end row) ≡ 0
nothing_due row pid = of_test (row.pid == pid)
  where
    of_test : (b : Bool) → cond b (row_due (row_at_end row)) 0 ≡ 0
    of_test true = refl
    of_test false = refl

-- so nothing is due for it any more
pub due_gone : (at : ℕ) (row : LockState) (s t : Records) → LosesOne (record { at = at; row = row }) s t → DueMoves row (row_at_end row) s t
due_gone at row s t loses pid = omega (arith, loses (weight pid), nothing_due row pid)

-- a value block that is written leaves the locks
pub weighs_valued : (s : Records) → IsSound s → (res : ℕ) (block : ValueBlock)
    → WeighsTheSame s (record s { resources = on_resource res (λ r. record r { value_block = block }) s.resources })
weighs_valued s sound res block measure =
    kept_weighs measure s sound (λ r. record r { value_block = block }) res (λ r. refl)

pub paid_valued : (s t : Records) → IsSound s → (res : ℕ) (block : ValueBlock)
    → t ≡ record s { resources = on_resource res (λ r. record r { value_block = block }) s.resources }
    → IsPaid s → IsPaid t
paid_valued s t sound res block is paid pid = rw is (paid pid ∙ sym (weighs_valued s sound res block (weight pid)))

-- a resource without locks that goes takes nothing that is due
pub paid_dropped : (s t : Records) (room : Room) → IsSound s → (res : ℕ) → IsIdle res s
    → t ≡ with_resource_room room (record s { resources = without_resource res s.resources }) → IsPaid s → IsPaid t
paid_dropped s t room sound res idle is paid pid =
    rw is (paid pid ∙ sym (dropped_weighs (weight pid) s sound res idle))
