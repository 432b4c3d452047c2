-- Lists of handles that run through the records of a slab.
use Rattle.std.specs.Prelude.{◌≡◌, ◌≢◌, ◌⊎◌, ◌≤◌, ℕ, zero, suc, not, ◌==◌, if◌then◌else◌, List, [], ◌∷◌, filter, length, Option, Some, None}
use Rattle.slab.specs.Slab.{Slab, get, ContainsKey}
use Rattle.vlm_collections.specs.declared.link.TheConstants.{LAST_HANDLE}
use Rattle.vlm_collections.specs.declared.link.Links.{Links}
use Rattle.vlm_collections.specs.declared.lists.LinkedList.{LinkedList}

-- the handles except this one, in their order
abbrev pub without : ℕ → List ℕ → List ℕ
without handle handles = filter (λ other. not (other == handle)) handles

-- the item is in the list
abbrev pub IsIn : {A : Type 0} → A → List A → Type 0
IsIn one [] = ⊥
IsIn one (first ∷ rest) = (first ≡ one) ⊎ IsIn one rest

-- no handle is there twice
abbrev pub IsApart : List ℕ → Type 0
IsApart [] = Unit {0}
IsApart (first ∷ rest) = (¬ IsIn first rest) × IsApart rest

-- the first handle, if there is one
abbrev pub first_handle : List ℕ → Option ℕ
first_handle [] = None
first_handle (first ∷ rest) = Some first

-- the handle after this one, if there is one
abbrev pub handle_after : ℕ → List ℕ → Option ℕ
handle_after handle [] = None
handle_after handle (first ∷ rest) = if first == handle then first_handle rest else handle_after handle rest

-- a spot is a record or the end of the list, `None`, which is both before the first record and after the last
abbrev pub Spot : Type 0
Spot = Option ℕ

-- the last handle after a spot; the spot itself if there are no more
abbrev pub last_from : Spot → List ℕ → Spot
last_from from [] = from
last_from from (first ∷ rest) = last_from (Some first) rest

-- the last handle, if there is one
abbrev pub last_handle : List ℕ → Option ℕ
last_handle handles = last_from None handles

-- the spot before this handle, in the handles after a spot
abbrev pub before_from : Spot → ℕ → List ℕ → Spot
before_from from handle [] = None
before_from from handle (first ∷ rest) = if first == handle then from else before_from (Some first) handle rest

-- the handle before this one, if there is one
abbrev pub handle_before : ℕ → List ℕ → Option ℕ
handle_before handle handles = before_from None handle handles

-- the handle at a spot, and more after it
abbrev pub and_on : (Spot → List ℕ) → Spot → List ℕ
and_on more None = []
and_on more (Some handle) = handle ∷ more (Some handle)

-- at most this many handles, along the links after a spot
abbrev pub handles_from : (Spot → Spot) → ℕ → Spot → List ℕ
handles_from next zero from = []
handles_from next (suc count) from = and_on (handles_from next count) (next from)

-- the new links lead from this spot to that one, and from other spots as before
pub record Joins (old new : Spot → Spot) (from to : Spot) : Type 0 where
  pub here : new from ≡ to
  pub others : (at : Spot) → at ≢ from → new at ≡ old at

module _ (next prev : Spot → Spot) where
  -- the links lead from a spot through these handles to the end, and back
  abbrev pub IsChain : Spot → List ℕ → Type 0
  IsChain from [] = (next from ≡ None) × (prev None ≡ from)
  IsChain from (handle ∷ handles) = (next from ≡ Some handle) × (prev (Some handle) ≡ from)
      × IsChain (Some handle) handles

-- the list is empty
pub record IsNoList {Kind : Type 0} (list : LinkedList Kind) : Type 0 where
  pub no_first : list.first ≡ None
  pub no_last : list.last ≡ None
  pub no_handles : list.len ≡ 0

module _ {T : Type 0} (links : T → Links) where
  -- the next link of a record; the end without a record
  abbrev pub next_in : Option T → Spot
  next_in None = None
  next_in (Some r) = (links r).next

  -- the previous link of a record; the end without a record
  abbrev pub prev_in : Option T → Spot
  prev_in None = None
  prev_in (Some r) = (links r).prev

  module _ {Kind : Type 0} (nodes : Slab T) (list : LinkedList Kind) where
    -- the spot after a spot
    abbrev pub next_of : Spot → Spot
    next_of None = list.first
    next_of (Some handle) = next_in (get nodes handle)

    -- the spot before a spot
    abbrev pub prev_of : Spot → Spot
    prev_of None = list.last
    prev_of (Some handle) = prev_in (get nodes handle)

    -- the handles of a list, in its order
    abbrev pub handles_of : List ℕ
    handles_of = handles_from next_of list.len None

    -- the invariant of a list: links lead from each record to the next and back, no record is there twice, and the
    -- length is right
    pub record IsLinked : Type 0 where
      pub chained : IsChain next_of prev_of None handles_of
      pub apart : IsApart handles_of
      pub present : (handle : ℕ) → IsIn handle handles_of → ContainsKey nodes handle
      pub within : (handle : ℕ) → IsIn handle handles_of → handle ≤ LAST_HANDLE
      pub counted : length handles_of ≡ list.len

    -- the list is linked, and this record is in it
    pub record Lists (handle : ℕ) : Type 0 where
      pub linked : IsLinked
      pub listed : IsIn handle handles_of

module _ {T : Type 0} (with_links : T → Links → T) where
  -- the record with these links, if there is a record
  abbrev pub written_links : Links → Option T → Option T
  written_links pair None = None
  written_links pair (Some r) = Some (with_links r pair)

  -- the new record is the old one with other links
  abbrev pub IsRelinked : Option T → Option T → Type 0
  IsRelinked None new = new ≡ None
  IsRelinked (Some old) new = (pair : Links) × (new ≡ Some (with_links old pair))

  -- only links of one kind change, and the room stays
  pub record Relinks (old new : Slab T) : Type 0 where
    pub records : (handle : ℕ) → IsRelinked (get old handle) (get new handle)
    pub vacant_key : new.vacant_key ≡ old.vacant_key
    pub capacity : new.capacity ≡ old.capacity

  -- one spot is linked to another; the links back, the length and the other records stay
  pub record LinksOn {Kind : Type 0} (on back : Slab T → LinkedList Kind → Spot → Spot) (old new : Slab T)
      (list list' : LinkedList Kind) (from to : Spot) : Type 0 where
    pub joins : Joins (on old list) (on new list') from to
    pub keeps : (at : Spot) → back new list' at ≡ back old list at
    pub others : (handle : ℕ) → Some handle ≢ from → get new handle ≡ get old handle
    pub relinks : Relinks old new
    pub len : list'.len ≡ list.len
