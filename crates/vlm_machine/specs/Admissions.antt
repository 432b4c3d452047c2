-- What the checks of a step decide, for the change that follows.
use Rattle.std.specs.Prelude.{◌≡◌, ◌<◌, ◌^◌, ℕ, zero, suc, Bool, true, false, Option, Some}
use Rattle.vlm_store.specs.Index.{hash_key}
use Rattle.vlm_words.specs.declared.resources.Queue.TheVariants.{Granted}
use Rattle.vlm_words.specs.declared.steps.Conversion.{Conversion}
use Rattle.vlm_words.specs.declared.steps.Dequeue.{Dequeue}
use Rattle.vlm_words.specs.declared.steps.NewRequest.{NewRequest}
use Rattle.vlm_words.specs.declared.conditions.Cond.{Cond}
use Rattle.vlm_model.specs.Checks.{or_else}
use Rattle.vlm_model.specs.Convert.{convert_admission, convert_lkid, convert_request}
use Rattle.vlm_model.specs.Dequeue.{cancel_refusal, deq_refusal, dequeue_lkid, dequeued_lock_refusal, is_mixed, leaves_none, sublocks_refusal}
use Rattle.vlm_model.specs.Enqueue.{enq_at_once, enq_row}
use Rattle.vlm_words.specs.Flags.{cancel, deq_flag_bits, deqall, flag_bits, has_flag}
use Rattle.vlm_words.specs.Names.{is_name}
use Rattle.vlm_words.specs.Resources.{IsKeyed}
use Rattle.vlm_words.specs.State.{State}
use Rattle.vlm_model.specs.Trees.{enq_site, parent_lkid}
use Rattle.vlm_store.specs.Records.{FindsResource, HasNoSublocks, HasProcess, IsParentOf, IsProcess, Records}
use Rattle.vlm_locks.specs.declared.new_locks.NewLock.{NewLock}
use Rattle.vlm_locks.specs.declared.located_locks.LocatedLock.{LocatedLock}
use Rattle.vlm_locks.specs.declared.joint_withdrawals.Scope.{Scope}
use Rattle.vlm_locks.specs.declared.joint_withdrawals.Scope.TheVariants.{All, Below}
use Rattle.vlm_locks.specs.Converting.{admission_on}
use Rattle.vlm_locks.specs.Entering.{new_row}
use Rattle.vlm_locks.specs.Standing.{IsLocatedLockOf}
use Rattle.vlm_locks.specs.Withdrawing.{goes}
use Rattle.vlm_machine.specs.declared.dequeues.CheckedDequeue.{CheckedDequeue}
use Rattle.vlm_machine.specs.declared.new_requests.CheckedRequest.{CheckedRequest}
use Rattle.vlm_machine.specs.declared.new_requests.RequestForm.{RequestForm}
use Rattle.vlm_machine.specs.declared.parents.Parent.{Parent}
use Rattle.vlm_machine.specs.declared.processes.Caller.{Caller}
use Rattle.vlm_machine.specs.Machine.{MachineState, plain_state}
use Rattle.vlm_machine.specs.Parents.{IsParent}

-- the caller is a living process, and this is its handle
pub record IsCaller (caller : Caller) (s : Records) : Type 0 where
  pub lives : IsProcess caller.at caller.pid s
  pub there : HasProcess caller.at s

-- the flags of a new request and the ID of its parent lock; its name is valid
pub record IsRequestForm (s : State) (e : NewRequest) (form : RequestForm) : Type 0 where
  pub flags : flag_bits form.flags ≡ e.flags
  pub parent : form.parent ≡ parent_lkid s e
  pub name : is_name e.name ≡ true

-- this caller makes the new request; its flags and its parent lock are these
pub record IsAskedBy (m : MachineState) (e : NewRequest) (caller : Caller) (form : RequestForm)
    (parent : Option Parent) : Type 0 where
  pub living : IsCaller caller m.records
  pub pid : caller.pid ≡ e.pid
  pub says : IsRequestForm (plain_state m) e form
  pub stands : IsParent caller.pid form.parent parent m.records

-- the result of a new request's checks: its process, flags and parent lock, the site of its resource, the hash of the
-- key, the handle of the resource if it exists, and whether it is granted at once; the numbers are not used up
pub record IsChecked (m : MachineState) (e : NewRequest) (c : CheckedRequest) : Type 0 where
  pub owner : IsProcess c.owner e.pid m.records
  pub flags : flag_bits c.flags ≡ e.flags
  pub parent_lkid : c.parent_lkid ≡ parent_lkid (plain_state m) e
  pub parent : IsParentOf c.parent (enq_row (plain_state m) e) m.records
  pub site : c.site ≡ enq_site (plain_state m) e
  pub keyed : IsKeyed c.site.domain c.site.key
  pub hash : c.found.hash ≡ hash_key m.records.keys c.site.key
  pub found : FindsResource m.records c.site.key c.found.res
  pub at_once : c.found.at_once ≡ enq_at_once (plain_state m) e
  pub lkid : m.next_lkid < 2 ^ 32
  pub number : m.next_request < 2 ^ 64

-- the new lock of a request: its row and its owner, its parent lock, the site of its resource, the hash of the key, the
-- serial that the resource gets if it is made, and whether the request is granted at once
pub record IsEntry (m : MachineState) (e : NewRequest) (new_lock : NewLock) : Type 0 where
  pub row : new_row new_lock ≡ enq_row (plain_state m) e
  pub owner : IsProcess new_lock.owner new_lock.pid m.records
  pub parent : IsParentOf new_lock.parent (new_row new_lock) m.records
  pub site : new_lock.site ≡ enq_site (plain_state m) e
  pub keyed : IsKeyed new_lock.site.domain new_lock.site.key
  pub hash : new_lock.hash ≡ hash_key m.records.keys new_lock.site.key
  pub serial : new_lock.serial ≡ m.next_serial
  pub found : FindsResource m.records new_lock.site.key new_lock.res
  pub at_once : new_lock.at_once ≡ enq_at_once (plain_state m) e

-- the new request is admitted: this is its new lock, and the numbers are not used up
pub record IsAdmitted (m : MachineState) (e : NewRequest) (new_lock : NewLock) : Type 0 where
  pub entered : IsEntry m e new_lock
  pub lkid : m.next_lkid < 2 ^ 32
  pub number : m.next_request < 2 ^ 64

-- an admitted conversion: its granted lock, and whether it is granted at once; the request numbers are not used up
pub record IsAdmittedConversion (m : MachineState) (c : Conversion) (f : LocatedLock) (now : Bool) : Type 0 where
  pub located : IsLocatedLockOf c.pid (convert_lkid (plain_state m) c) f m.records
  pub granted : f.queue ≡ Granted
  pub at_once : now ≡ (admission_on f (convert_request (plain_state m) c) located.located.resource).at_once
  pub found : convert_admission (plain_state m) c ≡ Some
      (admission_on f (convert_request (plain_state m) c) located.located.resource)
  pub number : m.next_request < 2 ^ 64

-- the dequeue is admitted: it names one lock, without DEQALL, and this is the lock
pub record IsAdmittedDequeue (m : MachineState) (d : Dequeue) (f : LocatedLock) : Type 0 where
  pub located : IsLocatedLockOf d.pid (dequeue_lkid (plain_state m) d) f m.records
  pub alone : has_flag d.flags deqall ≡ false

-- the locks that a dequeue with DEQALL gives up: all below the lock that it names, or all of the caller if it names 0
abbrev pub scope_of : ℕ → Scope
scope_of zero = All
scope_of (suc n) = Below (suc n)

-- the lock has no sublocks if the dequeue gives it up
abbrev pub IsChildless : MachineState → Dequeue → LocatedLock → Type 0
IsChildless m d f = goes (has_flag d.flags cancel) f.queue ≡ true → HasNoSublocks f.lock m.records

-- the refusal by the later checks of a dequeue, after its caller, its flags and the lock that it names
abbrev pub later_refusal : State → Dequeue → Option Cond
later_refusal s d =
    or_else (dequeued_lock_refusal s d)
    (or_else (cancel_refusal s d) (sublocks_refusal s (leaves_none d) (dequeue_lkid s d)))

-- the refusal by the last checks of a dequeue of one lock, after the lock is found
abbrev pub refusal_alone : State → Dequeue → Option Cond
refusal_alone s d =
    or_else (cancel_refusal s d) (sublocks_refusal s (has_flag d.flags cancel) (dequeue_lkid s d))

-- a dequeue that has passed its first checks: its caller, its flags, which fit its value and tail, and the
-- ID that it names; the later checks decide
pub record IsCheckedDequeue (m : MachineState) (d : Dequeue) (c : CheckedDequeue) : Type 0 where
  pub caller : IsCaller c.caller m.records
  pub pid : c.caller.pid ≡ d.pid
  pub flags : deq_flag_bits c.flags ≡ d.flags
  pub fitting : is_mixed d ≡ false
  pub lkid : c.lkid ≡ dequeue_lkid (plain_state m) d
  pub later : deq_refusal (plain_state m) d ≡ later_refusal (plain_state m) d
