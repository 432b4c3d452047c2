-- The lists of armed locks of each resource, in the order of its granted queue.
use Rattle.std.specs.Prelude.{◌≡◌, ℕ, Bool, nat_lt, List, [], ◌∷◌, ◌++◌, filter, if◌then◌else◌, Option, None, Some}
use Rattle.slab.specs.Slab.{get}
use Rattle.vlm_collections.specs.declared.link.Links.{Links}
use Rattle.vlm_collections.specs.declared.lists.LinkedList.{LinkedList}
use Rattle.vlm_collections.specs.Lists.{IsLinked, handles_of, without}
use Rattle.vlm_words.specs.declared.locks.Request.{Request}
use Rattle.vlm_words.specs.declared.locks.LockState.{LockState}
use Rattle.vlm_words.specs.declared.resources.Queue.TheVariants.{Granted, Conversion, Waiting}
use Rattle.vlm_words.specs.Modes.{rank}
use Rattle.vlm_records.specs.declared.handles.Armed.{Armed}
use Rattle.vlm_records.specs.declared.handles.Armed.TheVariants.{AboveNl, AboveCr}
use Rattle.vlm_records.specs.declared.handles.Place.{Place}
use Rattle.vlm_records.specs.declared.handles.Place.TheVariants.{Queued}
use Rattle.vlm_records.specs.declared.locks.InAboveCr.{InAboveCr}
use Rattle.vlm_records.specs.declared.locks.InAboveNl.{InAboveNl}
use Rattle.vlm_records.specs.declared.locks.Lock.{Lock}
use Rattle.vlm_records.specs.declared.queues.Queues.{Queues}
use Rattle.vlm_records.specs.declared.resources.Resource.{Resource}
use Rattle.vlm_records.specs.Shown.{IsPlaced, IsTallied, handles_at, handles_but, no_list, noted, rows}

-- ---- the rows in a list

-- the rank of the highest mode that is not in a list
abbrev pub floor : Armed → ℕ
floor AboveNl = 0
floor AboveCr = 1

-- the rank of the held mode; 0 without one
abbrev pub held_rank : Option Request → ℕ
held_rank None = 0
held_rank (Some held) = rank held.mode

-- the rank of the held mode if the row is armed, else 0
abbrev pub armed_rank : LockState → ℕ
armed_rank row = if row.armed then held_rank row.held else 0

-- a granted lock with this row is in the list
abbrev pub is_listed : Armed → LockState → Bool
is_listed which row = nat_lt (floor which) (armed_rank row)

-- ---- the list of a resource

-- the other list
abbrev pub other_list : Armed → Armed
other_list AboveNl = AboveCr
other_list AboveCr = AboveNl

-- the kind of a list
abbrev pub kind_of : Armed → Type 0
kind_of AboveNl = InAboveNl
kind_of AboveCr = InAboveCr

-- the links of a lock in a list
abbrev pub armed_links : Armed → Lock → Links
armed_links AboveNl l = l.in_above_nl
armed_links AboveCr l = l.in_above_cr

-- the lock with other links in a list
abbrev pub with_armed_links : Armed → Lock → Links → Lock
with_armed_links AboveNl l pair = record l { in_above_nl = pair }
with_armed_links AboveCr l pair = record l { in_above_cr = pair }

-- the list of a resource
abbrev pub list_of : (which : Armed) → Resource → LinkedList (kind_of which)
list_of AboveNl r = r.armed_above_nl
list_of AboveCr r = r.armed_above_cr

-- the resource with another list
abbrev pub with_list : (which : Armed) → LinkedList (kind_of which) → Resource → Resource
with_list AboveNl list r = record r { armed_above_nl = list }
with_list AboveCr list r = record r { armed_above_cr = list }

-- the list of a resource; an empty list without a resource
abbrev pub armed_list_in : (which : Armed) → Option Resource → LinkedList (kind_of which)
armed_list_in which None = no_list
armed_list_in which (Some r) = list_of which r

-- the resource on which a lock at this place is granted
abbrev pub granted_on : Place → Option ℕ
granted_on (Queued res Granted) = Some res
granted_on (Queued res Conversion) = None
granted_on (Queued res Waiting) = None

-- the resource in whose list the lock is: its own, if it is granted, is not loose and has a listed row
abbrev pub armed_of : Armed → Lock → Option ℕ
armed_of which l = if l.loose then None else (if is_listed which l.row then granted_on l.place else None)

-- the same, of the lock in a place of the slab
abbrev pub armed_on : Armed → Option Lock → Option ℕ
armed_on which None = None
armed_on which (Some l) = armed_of which l

-- the handles whose rows are listed, in their order
abbrev pub armed_handles : Armed → (ℕ → LockState) → List ℕ → List ℕ
armed_handles which rows handles = filter (λ k. is_listed which (rows k)) handles

-- the handle is the last one, and is there only once
abbrev pub IsLast : ℕ → List ℕ → Type 0
IsLast at handles = handles ≡ without at handles ++ at ∷ []

module _ (which : Armed) (q : Queues) where
  -- a list of armed locks of a resource
  abbrev pub armed_list : ℕ → LinkedList (kind_of which)
  armed_list res = armed_list_in which (get q.resources res)

  -- the handles in that list, in its order
  abbrev pub armed_list_handles : ℕ → List ℕ
  armed_list_handles res = handles_of (armed_links which) q.locks (armed_list res)

  -- the granted locks of a resource that belong in the list, except one, in the order of the granted queue
  abbrev pub armed_granted : Option ℕ → ℕ → List ℕ
  armed_granted out res = armed_handles which (rows q) (handles_but q out (Queued res Granted))

  -- the list of each resource is linked and has exactly the granted locks that belong in it, in the order of the
  -- granted queue, except one lock that was taken out
  pub record IsArmed (out : Option ℕ) : Type 0 where
    pub linked : (res : ℕ) → IsLinked (armed_links which) q.locks (armed_list res)
    pub order : (res : ℕ) → armed_list_handles res ≡ armed_granted out res

module _ (q : Queues) where
  -- the lock is the last one in the queue that it notes
  abbrev pub StandsLast : ℕ → Type 0
  StandsLast at = (place : Place) → noted q at ≡ Some place → IsLast at (handles_at q place)

  -- the invariant of the queues: each lock is in the queue that it notes, and each resource counts its locks and lists
  -- the armed ones
  pub record IsLaidOut : Type 0 where
    pub placed : IsPlaced q None
    pub tallied : IsTallied q None
    pub armed : (which : Armed) → IsArmed which q None
