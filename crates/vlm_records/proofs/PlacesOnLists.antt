-- The places of locks after one is taken off a list, and after it is put on one.
use Rattle.std.proofs.Common.{◌≡◌, ◌≢◌, ◌⊎◌, ℕ, [], ◌∷◌, ◌++◌, Bool, true, false, cond, Option, None, Some, IsSome}
use Rattle.std.proofs.Common.{is_some, refl, sym, ap, ◌∙◌, subst, inl, inr, List}
use Rattle.std.proofs.lemmas.Bool.{cases_eq}
use Rattle.std.proofs.lemmas.Option.{none-some, same_Some}
use Rattle.std.specs.Option.{option_map}
use Rattle.slab.specs.Slab.{Slab, get, ContainsKey}
use Rattle.vlm_collections.specs.declared.lists.LinkedList.{LinkedList}
use Rattle.vlm_collections.specs.Lists.{IsIn, IsLinked, IsNoList, Relinks, handles_of, next_in, prev_in, without}
use Rattle.vlm_collections.proofs.HandleLists.{IsIn-push_last}
use Rattle.vlm_collections.proofs.Keeping.{relinked_same}
use Rattle.vlm_collections.proofs.Rings.{kept-linked}
use Rattle.vlm_words.specs.declared.resources.Queue.{Queue}
use Rattle.vlm_words.specs.declared.resources.Queue.TheVariants.{Granted, Conversion, Waiting}
use Rattle.vlm_records.specs.declared.handles.Place.{Place}
use Rattle.vlm_records.specs.declared.handles.Place.TheVariants.{Queued}
use Rattle.vlm_records.specs.declared.locks.InQueue.{InQueue}
use Rattle.vlm_records.specs.declared.locks.Lock.{Lock}
use Rattle.vlm_records.specs.declared.queues.Queues.{Queues}
use Rattle.vlm_records.specs.declared.resources.Resource.{Resource}
use Rattle.vlm_records.proofs.Families.{family-handles, family-kept, family-put, family-put_here, family-put_others}
use Rattle.vlm_records.proofs.Families.{family-taken, family-taken_handles, one_list}
use Rattle.vlm_records.specs.Kin.{lasting_part}
use Rattle.vlm_records.specs.Shown.{IsPlaced, IsThere, SameBut, but_lists, but_place, but_queued, but_row, but_tally}
use Rattle.vlm_records.specs.Shown.{handles_at, is_loose_in, list_at, list_in, lkid_of, noted, noted_in, no_list}
use Rattle.vlm_records.specs.Shown.{queue_links, row_in, tally_in, with_queue_links}

pub queue_cases : (p q : Queue) → (p ≡ q) ⊎ (p ≢ q)
queue_cases Granted Granted = inl refl
queue_cases Granted Conversion = inr (λ e. cc)
queue_cases Granted Waiting = inr (λ e. cc)
queue_cases Conversion Granted = inr (λ e. cc)
queue_cases Conversion Conversion = inl refl
queue_cases Conversion Waiting = inr (λ e. cc)
queue_cases Waiting Granted = inr (λ e. cc)
queue_cases Waiting Conversion = inr (λ e. cc)
queue_cases Waiting Waiting = inl refl

pub place_cases : (p q : Place) → (p ≡ q) ⊎ (p ≢ q)
place_cases (Queued a p) (Queued b q) =
    elim (cases_eq a b) [
      | inl same ↦ elim (queue_cases p q) [ inl equal ↦ inl (cc) | inr other ↦ inr (λ e. other (cc)) ]
      | inr differs ↦ inr (λ e. differs (cc))
    ]

-- what a record shows that is not of the part that changed
pub through : {T X : Type 0} (part : T → T) (shown : Option T → X) → ((slot : Option T) → shown (option_map part slot) ≡ shown slot)
    → (old new : Slab T) → SameBut part old new → (handle : ℕ) → shown (get new handle) ≡ shown (get old handle)
through part shown apart old new same handle = sym (apart (get new handle)) ∙ ap shown (same handle) ∙ apart (get old handle)

pub there_through : {T X : Type 0} (part : T → X) → (old new : Slab T) → SameBut part old new → (handle : ℕ) → ContainsKey old handle → ContainsKey new handle
there_through {T} {X} part old new same handle here = sym (is_apart (get new handle)) ∙ ap is_some (same handle) ∙ is_apart (get old handle) ∙ here
  where
    is_apart : (slot : Option T) → is_some (option_map part slot) ≡ is_some slot
    is_apart None = refl
    is_apart (Some r) = refl

-- what a record shows that is not of the part that differs
pub by_part : {T X : Type 0} (part : T → T) (shown : Option T → X)
    → ((slot : Option T) → shown (option_map part slot) ≡ shown slot) → (a b : Option T)
    → option_map part a ≡ option_map part b → shown a ≡ shown b
by_part part shown apart a b same = sym (apart a) ∙ ap shown same ∙ apart b

pub there_by_part : {T X : Type 0} (part : T → X) (a b : Option T) → option_map part a ≡ option_map part b → IsSome b → IsSome a
there_by_part part None None same there = there
there_by_part part None (Some r) same there = cc
there_by_part part (Some l) b same there = refl

pub same_then : {T X : Type 0} (part : T → X) → (a b c : Slab T) → SameBut part a b → SameBut part b c → SameBut part a c
same_then part a b c first second handle = second handle ∙ first handle

pub same_eq : {T X : Type 0} (part : T → X) → (a b : Slab T) → b ≡ a → SameBut part a b
same_eq part a b is handle = ap (λ s. option_map part (get s handle)) is

-- a lock that is there and is not loose notes its place
pub noted_there : (slot : Option Lock) → IsSome slot → is_loose_in slot ≡ false → (place : Place) × (noted_in slot ≡ Some place)
noted_there None there queued = cc
noted_there (Some l) there queued = (l.place, rw queued refl)

place_or_none : (loose : Bool) (place : Place) → IsSome (cond loose None (Some place)) → cond loose None (Some place) ≡ Some place
place_or_none true place in_queue = cc
place_or_none false place in_queue = refl

-- a lock that notes a place notes the place of its record
pub noted_as : (slot : Option Lock) (l : Lock) → slot ≡ Some l → IsSome (noted_in slot) → noted_in slot ≡ Some l.place
noted_as slot l here in_queue = ap noted_in here ∙ place_or_none l.loose l.place (rw here at in_queue)

pub noted_is : (slot : Option Lock) (l : Lock) (place : Place) → slot ≡ Some l → noted_in slot ≡ Some place → l.place ≡ place
noted_is slot l place here notes = same_Some l.place place (sym (noted_as slot l here (rw notes refl)) ∙ notes)

flag_or_none : (loose : Bool) (place : Place) → IsSome {T = Place} (cond loose None (Some place)) → loose ≡ false
flag_or_none true place in_queue = cc
flag_or_none false place in_queue = refl

-- a lock that notes a place is not loose
pub noted_queued : (slot : Option Lock) (l : Lock) → slot ≡ Some l → IsSome (noted_in slot) → l.loose ≡ false
noted_queued slot l here in_queue = flag_or_none l.loose l.place (rw here at in_queue)

-- a loose lock notes no place
pub loose_unnoted : (slot : Option Lock) → is_loose_in slot ≡ true → noted_in slot ≡ None
loose_unnoted None loose = cc
loose_unnoted (Some l) loose = rw loose refl

-- a lock that notes a place is there
pub there_noted : (slot : Option Lock) (place : Place) → noted_in slot ≡ Some place → IsSome slot
there_noted None place is = cc
there_noted (Some l) place is = refl

pub there_in_queue : (slot : Option Lock) → IsSome (noted_in slot) → IsSome slot
there_in_queue None in_queue = cc
there_in_queue (Some l) in_queue = refl

-- a loose lock is in no queue
pub loose_unlisted : (q : Queues) (at : ℕ) → IsPlaced q None → is_loose_in (get q.locks at) ≡ true → (place : Place) → ¬ IsIn at (handles_at q place)
loose_unlisted q at placed loose place found = none-some place (sym (loose_unnoted (get q.locks at) loose) ∙ placed.listed place at found)

-- no lock stands in the queues of a resource that is not there
pub stands_there : (q : Queues) (place : Place) (at : ℕ) → IsIn at (handles_at q place) → IsThere q.resources place
stands_there q (Queued res queue) at found = by_slot (get q.resources res) refl found
  where
    by_slot : (slot : Option Resource) → get q.resources res ≡ slot
        → IsIn at (handles_of queue_links q.locks (list_in queue slot)) → ContainsKey q.resources res
    by_slot None is found = absurd found
    by_slot (Some r) is found = rw is refl

module _ (q : Queues) (out : Option ℕ) (placed : IsPlaced q out) where
  -- a lock stands at one place
  pub one_place : (at : ℕ) (p p' : Place) → IsIn at (handles_at q p) → IsIn at (handles_at q p') → p ≡ p'
  one_place = one_list queue_links noted_in q.locks (list_at q) out placed

  -- lists stay where heads, links and noted places do
  module _ (q' : Queues) (lists : (p : Place) → list_at q' p ≡ list_at q p)
      (nexts : (k : ℕ) → next_in queue_links (get q'.locks k) ≡ next_in queue_links (get q.locks k)) (prevs : (k : ℕ)
      → prev_in queue_links (get q'.locks k) ≡ prev_in queue_links (get q.locks k))
      (there : (k : ℕ) → ContainsKey q.locks k → ContainsKey q'.locks k) where
    pub kept_handles : (p : Place) → handles_at q' p ≡ handles_at q p
    kept_handles = family-handles queue_links noted_in q.locks (list_at q) out placed q'.locks (list_at q') lists
        (λ i k _. nexts k) (λ i k _. prevs k) (λ i k _. there k)

    pub kept_placed : ((k : ℕ) → noted q' k ≡ noted q k) → IsPlaced q' out
    kept_placed = family-kept queue_links noted_in q.locks (list_at q) out placed q'.locks (list_at q') lists
        (λ i k _. nexts k) (λ i k _. prevs k) (λ i k _. there k)

-- the heads of the lists are those of the fields
pub lists_same : (q q' : Queues) → q'.resources ≡ q.resources → (p : Place) → list_at q' p ≡ list_at q p
lists_same q q' resources (Queued res queue) = ap (λ s. list_in queue (get s res)) resources

-- what a lock notes stays where only links are written
noted_relinked : (old new : Slab Lock) → Relinks with_queue_links old new → (k : ℕ) → noted_in (get new k) ≡ noted_in (get old k)
noted_relinked = relinked_same with_queue_links noted_in (λ l pair. refl)

-- a lock is taken off
module _ (q q' : Queues) (locks1 : Slab Lock) (list1 : LinkedList InQueue) (at : ℕ) (place : Place) (placed : IsPlaced q None) (is : noted q at ≡ Some place)
    (linked1 : IsLinked queue_links locks1 list1) (handles1 : handles_of queue_links locks1 list1 ≡ without at (handles_at q place))
    (others1 : (other : ℕ) → ¬ IsIn other (handles_at q place) → get locks1 other ≡ get q.locks other) (relinks1 : Relinks with_queue_links q.locks locks1)
    (here : list_at q' place ≡ list1) (elsewhere : (other : Place) → other ≢ place → list_at q' other ≡ list_at q other) (locks : q'.locks ≡ locks1) where
  pub taken-handles : (p : Place) → handles_at q' p ≡ without at (handles_at q p)
  taken-handles =
      family-taken_handles queue_links noted_in place_cases q.locks locks1 q'.locks (list_at q)
      (list_at q') list1 at place (λ k. ap (λ s. next_in queue_links (get s k)) locks)
      (λ k. ap (λ s. prev_in queue_links (get s k)) locks) (λ k. subst (λ s. ContainsKey s k) (sym locks)) linked1 here elsewhere placed is handles1 others1

  pub taken-placed : IsPlaced q' (Some at)
  taken-placed =
      family-taken queue_links noted_in place_cases q.locks locks1 q'.locks (list_at q) (list_at q') list1 at place
      (λ k. ap (λ s. next_in queue_links (get s k)) locks)
      (λ k. ap (λ s. prev_in queue_links (get s k)) locks) (λ k. subst (λ s. ContainsKey s k) (sym locks)) linked1 here elsewhere placed is handles1 others1
      (λ k. ap (λ s. noted_in (get s k)) locks ∙ noted_relinked q.locks locks1 relinks1 k)

next_but_place : (slot : Option Lock) → next_in queue_links (option_map but_place slot) ≡ next_in queue_links slot
next_but_place None = refl
next_but_place (Some l) = refl

prev_but_place : (slot : Option Lock) → prev_in queue_links (option_map but_place slot) ≡ prev_in queue_links slot
prev_but_place None = refl
prev_but_place (Some l) = refl

-- a lock that is taken out notes another place
module _ (q q' : Queues) (at : ℕ) (placed : IsPlaced q (Some at)) (rest : SameBut but_place q.locks q'.locks)
    (others : (k : ℕ) → k ≢ at → get q'.locks k ≡ get q.locks k)
    (lists : (p : Place) → list_at q' p ≡ list_at q p) where
  nexts : (k : ℕ) → next_in queue_links (get q'.locks k) ≡ next_in queue_links (get q.locks k)
  nexts = through but_place (next_in queue_links) next_but_place q.locks q'.locks rest

  prevs : (k : ℕ) → prev_in queue_links (get q'.locks k) ≡ prev_in queue_links (get q.locks k)
  prevs = through but_place (prev_in queue_links) prev_but_place q.locks q'.locks rest

  there : (k : ℕ) → ContainsKey q.locks k → ContainsKey q'.locks k
  there = there_through but_place q.locks q'.locks rest

  pub noted-handles : (p : Place) → handles_at q' p ≡ handles_at q p
  noted-handles = kept_handles q (Some at) placed q' lists nexts prevs there

  pub noted-placed : IsPlaced q' (Some at)
  noted-placed = record {
    linked = λ p.
        subst (IsLinked queue_links q'.locks) (sym (lists p))
        (kept-linked queue_links q.locks q'.locks (list_at q p) (placed.linked p) (λ k _. nexts k) (λ k _. prevs k) (λ k _. there k));
    listed = λ p k found.
        let was = subst (IsIn k) (noted-handles p) found in
        ap noted_in (others k (λ e. placed.gone p k (ap Some e) was)) ∙ placed.listed p k was;
    stands = λ p k differs is. subst (IsIn k) (sym (noted-handles p))
        (placed.stands p k differs (sym (ap noted_in (others k (λ e. differs (ap Some e)))) ∙ is));
    gone = λ p k e found. placed.gone p k e (subst (IsIn k) (noted-handles p) found);
  }

-- a lock is put at the end of the list of the place that it notes
module _ (q q' : Queues) (locks1 : Slab Lock) (list1 : LinkedList InQueue) (at : ℕ) (place : Place)
    (placed : IsPlaced q (Some at)) (note : noted q at ≡ Some place)
    (linked1 : IsLinked queue_links locks1 list1) (handles1 : handles_of queue_links locks1 list1 ≡ handles_at q place ++ at ∷ [])
    (others1 : (other : ℕ) → ¬ IsIn other (handles_at q place) → other ≢ at
    → get locks1 other ≡ get q.locks other) (relinks1 : Relinks with_queue_links q.locks locks1)
    (here : list_at q' place ≡ list1) (elsewhere : (other : Place) → other ≢ place → list_at q' other ≡ list_at q other) (locks : q'.locks ≡ locks1) where
  pub put-here : handles_at q' place ≡ handles_at q place ++ at ∷ []
  put-here =
      family-put_here queue_links noted_in place_cases q.locks locks1 q'.locks (list_at q) (list_at q') list1 at place
      (λ k. ap (λ s. next_in queue_links (get s k)) locks)
      (λ k. ap (λ s. prev_in queue_links (get s k)) locks) (λ k. subst (λ s. ContainsKey s k) (sym locks)) linked1 here elsewhere placed handles1 others1

  pub put-others : (p : Place) → p ≢ place → handles_at q' p ≡ handles_at q p
  put-others =
      family-put_others queue_links noted_in place_cases q.locks locks1 q'.locks (list_at q) (list_at q') list1 at place
      (λ k. ap (λ s. next_in queue_links (get s k)) locks)
      (λ k. ap (λ s. prev_in queue_links (get s k)) locks) (λ k. subst (λ s. ContainsKey s k) (sym locks)) linked1 here elsewhere placed handles1 others1

  pub put-placed : IsPlaced q' None
  put-placed =
      family-put queue_links noted_in place_cases q.locks locks1 q'.locks (list_at q) (list_at q') list1 at place
      (λ k. ap (λ s. next_in queue_links (get s k)) locks)
      (λ k. ap (λ s. prev_in queue_links (get s k)) locks)
      (λ k. subst (λ s. ContainsKey s k) (sym locks)) linked1 here elsewhere placed handles1 others1 (notes at
      ∙ note) (λ k differs. notes k)
    where
      notes : (k : ℕ) → noted q' k ≡ noted q k
      notes k = ap (λ s. noted_in (get s k)) locks ∙ noted_relinked q.locks locks1 relinks1 k

-- counts say nothing of the lists
pub lists_but_tally : (q q' : Queues) → SameBut but_tally q.resources q'.resources → (p : Place) → list_at q' p ≡ list_at q p
lists_but_tally q q' rest (Queued res queue) = through but_tally (list_in queue) (list_apart queue) q.resources q'.resources rest res
  where
    list_apart : (queue : Queue) (slot : Option Resource) → list_in queue (option_map but_tally slot) ≡ list_in queue slot
    list_apart queue None = refl
    list_apart Granted (Some r) = refl
    list_apart Conversion (Some r) = refl
    list_apart Waiting (Some r) = refl

-- the resource in whose queue a lock stands is there
pub noted_stands : (q : Queues) (at : ℕ) (l : Lock) (res : ℕ) (queue : Queue) → IsPlaced q None → IsSome (noted q at)
    → get q.locks at ≡ Some l → l.place ≡ Queued res queue → ContainsKey q.resources res
noted_stands q at l res queue placed in_queue here is =
    stands_there q (Queued res queue) at
    (placed.stands (Queued res queue) at (λ same. none-some at (sym same))
    (noted_as (get q.locks at) l here in_queue ∙ ap Some is))

-- the counts stay where lists are written
pub tally_but_lists : (old new : Slab Resource) → SameBut but_lists old new → (r : ℕ) → tally_in (get new r) ≡ tally_in (get old r)
tally_but_lists = through but_lists tally_in tally_apart
  where
    tally_apart : (slot : Option Resource) → tally_in (option_map but_lists slot) ≡ tally_in slot
    tally_apart None = refl
    tally_apart (Some r) = refl

-- rows stay where links or places are written
row_by_map : (new old : Option Lock) → option_map (λ (l : Lock). l.row) new ≡ option_map (λ (l : Lock). l.row) old → row_in new ≡ row_in old
row_by_map None None same = refl
row_by_map None (Some l) same = cc
row_by_map (Some l) None same = cc
row_by_map (Some l) (Some l') same = same_Some l.row l'.row same

pub rows_relinked : (old new : Slab Lock) → Relinks with_queue_links old new → (k : ℕ) → row_in (get new k) ≡ row_in (get old k)
rows_relinked old new relinks k =
    row_by_map (get new k) (get old k)
    (relinked_same with_queue_links (option_map (λ (l : Lock). l.row)) (λ l pair. refl) old new relinks k)

-- places and links stay where rows are written
noted_but_row : (slot : Option Lock) → noted_in (option_map but_row slot) ≡ noted_in slot
noted_but_row None = refl
noted_but_row (Some l) = refl

pub noted_written : (old new : Slab Lock) → SameBut but_row old new → (k : ℕ) → noted_in (get new k) ≡ noted_in (get old k)
noted_written = through but_row noted_in noted_but_row

next_but_row : (slot : Option Lock) → next_in queue_links (option_map but_row slot) ≡ next_in queue_links slot
next_but_row None = refl
next_but_row (Some l) = refl

prev_but_row : (slot : Option Lock) → prev_in queue_links (option_map but_row slot) ≡ prev_in queue_links slot
prev_but_row None = refl
prev_but_row (Some l) = refl

module _ (q q' : Queues) (out : Option ℕ) (placed : IsPlaced q out) (rest : SameBut but_row q.locks q'.locks) (resources : q'.resources ≡ q.resources) where
  pub written_handles : (p : Place) → handles_at q' p ≡ handles_at q p
  written_handles =
      kept_handles q out placed q' (lists_same q q' resources) (through but_row (next_in queue_links) next_but_row q.locks q'.locks rest)
      (through but_row (prev_in queue_links) prev_but_row q.locks q'.locks rest) (there_through but_row q.locks q'.locks rest)

  pub written_placed : IsPlaced q' out
  written_placed =
      kept_placed q out placed q' (lists_same q q' resources) (through but_row (next_in queue_links) next_but_row q.locks q'.locks rest)
      (through but_row (prev_in queue_links) prev_but_row q.locks q'.locks rest)
      (there_through but_row q.locks q'.locks rest) (through but_row noted_in noted_but_row q.locks q'.locks rest)

-- all stays in its place where counts are written
module _ (q q' : Queues) (out : Option ℕ) (placed : IsPlaced q out) (rest : SameBut but_tally q.resources q'.resources) (locks : q'.locks ≡ q.locks) where
  pub counted_handles : (p : Place) → handles_at q' p ≡ handles_at q p
  counted_handles =
      kept_handles q out placed q' (lists_but_tally q q' rest) (λ k. ap (λ s. next_in queue_links (get s k)) locks)
      (λ k. ap (λ s. prev_in queue_links (get s k)) locks) (λ k. subst (λ s. ContainsKey s k) (sym locks))

  pub counted_placed : IsPlaced q' out
  counted_placed =
      kept_placed q out placed q' (lists_but_tally q q' rest) (λ k. ap (λ s. next_in queue_links (get s k)) locks)
      (λ k. ap (λ s. prev_in queue_links (get s k)) locks) (λ k. subst (λ s. ContainsKey s k) (sym locks))
      (λ k. ap (λ s. noted_in (get s k)) locks)

-- an empty list has nothing in it
pub no_list_is : {Kind : Type 0} (list : LinkedList Kind) → IsNoList list → list ≡ no_list
no_list_is list none = λ i. record { first = none.no_first i; last = none.no_last i; len = none.no_handles i; kind = list.kind }

-- a record that is there has the ID of its row
pub lkid_of_row : (slot : Option Lock) → IsSome slot → option_map lkid_of slot ≡ Some (row_in slot).lkid
lkid_of_row None there = cc
lkid_of_row (Some l) there = refl

-- what has an ID is there, and its row has it
pub lkid_told : (slot : Option Lock) (lkid : ℕ) → option_map lkid_of slot ≡ Some lkid → IsSome slot × ((row_in slot).lkid ≡ lkid)
lkid_told None lkid is = absurd (none-some lkid is)
lkid_told (Some l) lkid is = (refl, same_Some l.row.lkid lkid is)

-- what names a lock stays where only its queue changes
pub named-queued : (slot : Option Lock) → option_map lasting_part (option_map but_queued slot) ≡ option_map lasting_part slot
named-queued None = refl
named-queued (Some l) = refl

-- a lock notes the place at whose end it stands
pub last_noted : (q : Queues) (at : ℕ) (place : Place) (before : List ℕ) → IsPlaced q None → handles_at q place ≡ before ++ at ∷ [] → noted q at ≡ Some place
last_noted q at place before placed here = placed.listed place at (subst (IsIn at) (sym here) (IsIn-push_last at before))
