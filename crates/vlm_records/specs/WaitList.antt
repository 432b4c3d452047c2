-- The wait list: the queued locks of all resources.
use Rattle.std.specs.Prelude.{Bool, true, false, if◌then◌else◌, ℕ, List, Option, None, Some}
use Rattle.slab.specs.Slab.{Slab}
use Rattle.vlm_collections.specs.declared.link.Links.{Links}
use Rattle.vlm_collections.specs.declared.lists.LinkedList.{LinkedList}
use Rattle.vlm_collections.specs.Lists.{handles_of}
use Rattle.vlm_words.specs.declared.resources.Queue.TheVariants.{Granted, Conversion, Waiting}
use Rattle.vlm_records.specs.declared.handles.Place.{Place}
use Rattle.vlm_records.specs.declared.handles.Place.TheVariants.{Queued}
use Rattle.vlm_records.specs.declared.locks.InWaitList.{InWaitList}
use Rattle.vlm_records.specs.declared.locks.Lock.{Lock}
use Rattle.vlm_records.specs.Families.{IsFamily}

-- the links of a lock in the wait list
abbrev pub wait_list_links : Lock → Links
wait_list_links l = l.in_wait_list

-- the lock with other links in the wait list
abbrev pub with_wait_list_links : Lock → Links → Lock
with_wait_list_links l pair = record l { in_wait_list = pair }

-- the place is a conversion queue or a waiting queue
abbrev pub is_queued : Place → Bool
is_queued (Queued res Granted) = false
is_queued (Queued res Conversion) = true
is_queued (Queued res Waiting) = true

-- the wait list, if a lock at this place is in it
abbrev pub queued_wait_list : Place → Option (Unit {0})
queued_wait_list (Queued res Granted) = None
queued_wait_list (Queued res Conversion) = Some tt
queued_wait_list (Queued res Waiting) = Some tt

-- the same for the lock in a place of the slab
abbrev pub wait_list_in : Option Lock → Option (Unit {0})
wait_list_in None = None
wait_list_in (Some l) = if l.loose then None else queued_wait_list l.place

-- the handles in the wait list, in its order
abbrev pub wait_list_handles : Slab Lock → LinkedList InWaitList → List ℕ
wait_list_handles locks wait_list = handles_of wait_list_links locks wait_list

-- the wait list has exactly the locks whose requests are queued, except one lock that was taken out
abbrev pub IsWaitList : Slab Lock → LinkedList InWaitList → Option ℕ → Type 0
IsWaitList locks wait_list out = IsFamily wait_list_links wait_list_in locks (λ (i : Unit {0}). wait_list) out
