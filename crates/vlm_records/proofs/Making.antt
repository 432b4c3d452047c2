-- What stays as resources come, go and are linked.
use Rattle.std.proofs.Common.{◌≡◌, ◌≢◌, ℕ, List, [], ◌∷◌, ◌++◌, map, length, Option, None, Some, IsSome, refl, sym, ap, ◌∙◌, subst, inl, inr, arith}
use Rattle.std.proofs.lemmas.Bool.{cases_eq}
use Rattle.std.proofs.lemmas.Option.{same_Some}
use Rattle.std.specs.Option.{option_map}
use Rattle.slab.specs.Slab.{Slab, get, ContainsKey, Updates, with_value}
use Rattle.slab.proofs.SlabLemmas.{Updates-with_value}
use Rattle.vlm_collections.specs.declared.link.Links.{Links}
use Rattle.vlm_collections.specs.declared.lists.LinkedList.{LinkedList}
use Rattle.vlm_collections.specs.Lists.{IsIn, IsLinked, IsNoList, Relinks, handles_of, without}
use Rattle.vlm_collections.proofs.Keeping.{relinked_same}
use Rattle.vlm_collections.proofs.HandleLists.{IsIn-push_kept, IsIn-push_last, IsIn-without_kept}
use Rattle.vlm_words.specs.declared.locks.LockState.{LockState}
use Rattle.vlm_words.specs.declared.resources.Queue.{Queue}
use Rattle.vlm_words.specs.declared.resources.Queue.TheVariants.{Granted, Conversion, Waiting}
use Rattle.vlm_records.specs.declared.handles.Armed.{Armed}
use Rattle.vlm_records.specs.declared.handles.Armed.TheVariants.{AboveNl, AboveCr}
use Rattle.vlm_records.specs.declared.handles.Place.{Place}
use Rattle.vlm_records.specs.declared.handles.Place.TheVariants.{Queued}
use Rattle.vlm_words.specs.declared.resources.ValueBlock.{ValueBlock}
use Rattle.vlm_records.specs.declared.locks.Lock.{Lock}
use Rattle.vlm_records.specs.declared.queues.Queues.{Queues}
use Rattle.vlm_records.specs.declared.resources.Resource.{Resource}
use Rattle.vlm_records.specs.Armed.{IsArmed, armed_handles, armed_links, armed_list, armed_list_in, list_of}
use Rattle.vlm_records.specs.Shown.{Face, IsPlaced, IsTallied, face_in, face_of, handles_at, list_at, list_in, no_list}
use Rattle.vlm_records.specs.Shown.{queue_links, rows, shares, tally_in, with_order_links}
use Rattle.vlm_records.specs.Tallies.{how_many, no_tally, total, weight_of}
use Rattle.vlm_records.proofs.Totals.{none_counted}
use Rattle.vlm_records.proofs.Counting.{shares_same}
use Rattle.vlm_records.proofs.PlacesOnLists.{kept_handles, kept_placed, no_list_is}

-- what is read off each record stays where it stays of the one that comes, goes or is written
but_one : {T X : Type 0} (read : Option T → X) (old new : Slab T) (at : ℕ) → read (get new at) ≡ read (get old at)
    → ((k : ℕ) → k ≢ at → read (get new k) ≡ read (get old k))
    → (k : ℕ) → read (get new k) ≡ read (get old k)
but_one read old new at here others k =
    elim (cases_eq k at) [
      | inl same ↦ ap (λ x. read (get new x)) same ∙ here ∙ sym (ap (λ x. read (get old x)) same)
      | inr differs ↦ others k differs
    ]

-- the list of each place stays as resources change
abbrev pub ListsStay : Queues → Slab Resource → Type 0
ListsStay q resources = (p : Place) → list_at (record q { resources = resources }) p ≡ list_at q p

-- the locks stay where the lists of the resources do
module _ (q : Queues) (resources : Slab Resource) (placed : IsPlaced q None) (lists : ListsStay q resources) where
  pub resources_handles : (p : Place) → handles_at (record q { resources = resources }) p ≡ handles_at q p
  resources_handles = kept_handles q None placed (record q { resources = resources }) lists (λ k. refl) (λ k. refl) (λ k here. here)

  pub resources_placed : IsPlaced (record q { resources = resources }) None
  resources_placed = kept_placed q None placed (record q { resources = resources }) lists (λ k. refl) (λ k. refl) (λ k here. here) (λ k. refl)

  pub resources_tallied : ((r : ℕ) → tally_in (get resources r) ≡ tally_in (get q.resources r)) → IsTallied q None
      → IsTallied (record q { resources = resources }) None
  resources_tallied tallies tallied = record {
    counts = λ count r mode. ap (λ t. how_many count t mode) (tallies r) ∙ tallied.counts count r mode
        ∙ sym (shares_same q (record q { resources = resources }) (weight_of count mode) None r resources_handles
        (λ k _. refl));
  }

-- the queues of a resource stay where its links in the order of making are written
list_stays : (queue : Queue) (r : Resource) (pair : Links) → list_in queue (Some (with_order_links r pair)) ≡ list_in queue (Some r)
list_stays Granted r pair = refl
list_stays Conversion r pair = refl
list_stays Waiting r pair = refl

armed_list_stays : (which : Armed) (r : Resource) (pair : Links) → armed_list_in which (Some (with_order_links r pair)) ≡ armed_list_in which (Some r)
armed_list_stays AboveNl r pair = refl
armed_list_stays AboveCr r pair = refl

-- a resource comes, and is linked
module _ (q : Queues) (r1 r2 : Slab Resource) (at : ℕ) (made : Resource) (updates : Updates q.resources r1 at (Some made)) (fresh : get q.resources at ≡ None)
    (relinks : Relinks with_order_links r1 r2) where
  module _ (granted : IsNoList made.granted) (converting : IsNoList made.converting) (waiting : IsNoList made.waiting) where
    made_list : (queue : Queue) → list_in queue (Some made) ≡ no_list
    made_list Granted = no_list_is made.granted granted
    made_list Conversion = no_list_is made.converting converting
    made_list Waiting = no_list_is made.waiting waiting

    pub added_lists : ListsStay q r2
    added_lists (Queued r queue) =
        relinked_same with_order_links (list_in queue) (list_stays queue) r1 r2 relinks r
        ∙ but_one (list_in queue) q.resources r1 at (ap (list_in queue) updates.changed ∙ made_list queue
        ∙ sym (ap (list_in queue) fresh)) (λ k differs. ap (list_in queue) (updates.others k differs)) r

  pub added_armed : (which : Armed) → IsNoList (list_of which made) → (r : ℕ) → armed_list_in which (get r2 r) ≡ armed_list which q r
  added_armed which none r =
      relinked_same with_order_links (armed_list_in which) (armed_list_stays which) r1 r2 relinks r
      ∙ but_one (armed_list_in which) q.resources r1 at (ap (armed_list_in which) updates.changed
      ∙ no_list_is (list_of which made) none ∙ sym (ap (armed_list_in which) fresh))
      (λ k differs. ap (armed_list_in which) (updates.others k differs)) r

  pub added_tallies : made.tally ≡ no_tally → (r : ℕ) → tally_in (get r2 r) ≡ tally_in (get q.resources r)
  added_tallies none r =
      relinked_same with_order_links tally_in (λ x pair. refl) r1 r2 relinks r
      ∙ but_one tally_in q.resources r1 at (ap tally_in updates.changed ∙ none
      ∙ sym (ap tally_in fresh)) (λ k differs. ap tally_in (updates.others k differs)) r

-- room is made for resources
module _ (q : Queues) (resources : Slab Resource) (same : (r : ℕ) → get resources r ≡ get q.resources r) where
  pub reserved_lists : ListsStay q resources
  reserved_lists (Queued r queue) = ap (list_in queue) (same r)

-- no lock stands in a queue of a resource that is not there
pub none_handles : (q : Queues) (res : ℕ) (queue : Queue) → get q.resources res ≡ None → handles_at q (Queued res queue) ≡ []
none_handles q res queue none = ap (λ slot. handles_of queue_links q.locks (list_in queue slot)) none

-- what is read off the face of a resource
pub face_by_face : (new old : Option Resource) → option_map face_of new ≡ option_map face_of old → face_in new ≡ face_in old
face_by_face None None same = refl
face_by_face None (Some r) same = cc
face_by_face (Some r) None same = cc
face_by_face (Some r) (Some r') same = same_Some (face_of r) (face_of r') same

pub face_is : (slot : Option Resource) (face : Face) → option_map face_of slot ≡ Some face → face_in slot ≡ face
face_is None face is = cc
face_is (Some r) face is = same_Some (face_of r) face is

pub there_by_face : (new old : Option Resource) → option_map face_of new ≡ option_map face_of old → IsSome new → IsSome old
there_by_face None old same there = cc
there_by_face (Some r) None same there = cc
there_by_face (Some r) (Some r') same there = refl

-- a new record stands in the order, and so does each other
pub whole_grown : {T Kind : Type 0} (links : T → Links) (old new : Slab T) (order order' : LinkedList Kind) (at : ℕ)
    → ((r : ℕ) → ContainsKey old r → IsIn r (handles_of links old order))
    → handles_of links new order' ≡ handles_of links old order ++ at ∷ []
    → ((r : ℕ) → r ≢ at → ContainsKey new r → ContainsKey old r) → (r : ℕ) → ContainsKey new r
    → IsIn r (handles_of links new order')
whole_grown links old new order order' at ordered joined was r there =
    subst (IsIn r) (sym joined)
    (elim (cases_eq r at) [
      | inl same ↦ subst (λ x. IsIn x (handles_of links old order ++ at ∷ [])) (sym same) (IsIn-push_last at (handles_of links old order))
      | inr differs ↦ IsIn-push_kept at r (handles_of links old order) (ordered r (was r differs there))
    ])

-- each record but the one that is gone stands in the order
pub whole_left : {T Kind : Type 0} (links : T → Links) (old new : Slab T) (order order' : LinkedList Kind) (at : ℕ)
    → ((r : ℕ) → ContainsKey old r → IsIn r (handles_of links old order))
    → handles_of links new order' ≡ without at (handles_of links old order) → get new at ≡ None → ((r : ℕ) → r ≢ at → ContainsKey new r → ContainsKey old r)
    → (r : ℕ) → ContainsKey new r → IsIn r (handles_of links new order')
whole_left {T} links old new order order' at ordered left gone was r there =
    subst (IsIn r) (sym left)
    (elim (cases_eq r at) [
      | inl same ↦ let nothing : IsSome {T = T} None = rw (ap (get new) same ∙ gone) at there in absurd (cc)
      | inr differs ↦ IsIn-without_kept at r (handles_of links old order) (ordered r (was r differs there)) differs
    ])

-- what stands besides lists and counts is written in one resource
module _ (q : Queues) (res : ℕ) (was now : Resource) (there : ContainsKey q.resources res) (here : get q.resources res ≡ Some was) where
  written : Updates q.resources (with_value q.resources res now) res (Some now)
  written = Updates-with_value q.resources res now there

  pub written_lists : ((queue : Queue) → list_in queue (Some now) ≡ list_in queue (Some was)) → ListsStay q (with_value q.resources res now)
  written_lists lists (Queued r queue) =
      but_one (list_in queue) q.resources (with_value q.resources res now) res (ap (list_in queue) written.changed
      ∙ lists queue ∙ sym (ap (list_in queue) here))
      (λ k differs. ap (list_in queue) (written.others k differs)) r

  pub written_armed : (which : Armed) → list_of which now ≡ list_of which was → (r : ℕ)
      → armed_list_in which (get (with_value q.resources res now) r) ≡ armed_list which q r
  written_armed which same =
      but_one (armed_list_in which) q.resources (with_value q.resources res now) res
      (ap (armed_list_in which) written.changed ∙ same ∙ sym (ap (armed_list_in which) here))
      (λ k differs. ap (armed_list_in which) (written.others k differs))

  pub written_tallies : now.tally ≡ was.tally → (r : ℕ) → tally_in (get (with_value q.resources res now) r) ≡ tally_in (get q.resources r)
  written_tallies tally =
      but_one tally_in q.resources (with_value q.resources res now) res (ap tally_in written.changed ∙ tally
      ∙ sym (ap tally_in here)) (λ k differs. ap tally_in (written.others k differs))

pub block_list : (r : Resource) (value_block : ValueBlock) (queue : Queue)
    → list_in queue (Some (record r { value_block = value_block })) ≡ list_in queue (Some r)
block_list r value_block Granted = refl
block_list r value_block Conversion = refl
block_list r value_block Waiting = refl

-- both lists of armed locks are empty
pub both_empty : (r : Resource) → IsNoList r.armed_above_nl → IsNoList r.armed_above_cr → (which : Armed) → IsNoList (list_of which r)
both_empty r nl cr AboveNl = nl
both_empty r nl cr AboveCr = cr

pub block_armed : (r : Resource) (value_block : ValueBlock) (which : Armed) → list_of which (record r { value_block = value_block }) ≡ list_of which r
block_armed r value_block AboveNl = refl
block_armed r value_block AboveCr = refl

-- a linked list without handles is an empty one
pub no_list_has : {Kind : Type 0} (links : Lock → Links) (locks : Slab Lock) (list : LinkedList Kind)
    → IsLinked links locks list → handles_of links locks list ≡ [] → list ≡ no_list
no_list_has links locks list linked none =
    let chain = rw none at linked.chained in
    no_list_is list (record { no_first = chain.0; no_last = chain.1; no_handles = sym linked.counted ∙ ap length none })

-- an idle resource goes
module _ (q : Queues) (r1 r2 : Slab Resource) (at : ℕ) (relinks : Relinks with_order_links q.resources r1)
    (updates : Updates r1 r2 at None) (placed : IsPlaced q None)
    (idle : (queue : Queue) → handles_at q (Queued at queue) ≡ []) where
  pub removed_lists : ListsStay q r2
  removed_lists (Queued r queue) =
      but_one (list_in queue) q.resources r2 at
      (ap (list_in queue) updates.changed ∙ sym (no_list_has queue_links q.locks (list_at q (Queued at queue)) (placed.linked (Queued at queue)) (idle queue)))
      (λ k differs. ap (list_in queue) (updates.others k differs)
      ∙ relinked_same with_order_links (list_in queue) (list_stays queue) q.resources r1 relinks k) r

  pub removed_armed : (which : Armed) → IsArmed which q None → (r : ℕ) → armed_list_in which (get r2 r) ≡ armed_list which q r
  removed_armed which armed =
      but_one (armed_list_in which) q.resources r2 at
      (ap (armed_list_in which) updates.changed
      ∙ sym (no_list_has (armed_links which) q.locks (armed_list which q at) (armed.linked at) (armed.order at
      ∙ ap (armed_handles which (rows q)) (idle Granted))))
      (λ k differs. ap (armed_list_in which) (updates.others k differs)
      ∙ relinked_same with_order_links (armed_list_in which) (armed_list_stays which) q.resources r1 relinks k)

  no_share : (weight : Queue → LockState → ℕ) → shares q weight None at ≡ 0
  no_share weight = omega (
    arith,
    ap (total (weight Granted) (rows q)) (idle Granted),
    ap (total (weight Conversion) (rows q)) (idle Conversion),
    ap (total (weight Waiting) (rows q)) (idle Waiting),
  )

  pub removed_tally : IsTallied q None → IsTallied (record q { resources = r2 }) None
  removed_tally tallied =
      let q' : Queues = record q { resources = r2 } in
      let kept : (weight : Queue → LockState → ℕ) (r : ℕ) → shares q' weight None r ≡ shares q weight None r =
      λ weight r. shares_same q q' weight None r (resources_handles q r2 placed removed_lists) (λ k _. refl) in
      record {
        counts = λ count r mode. elim (cases_eq r at) [
          | inl same ↦ ap (λ x. how_many count (tally_in (get r2 x)) mode) same
              ∙ ap (λ slot. how_many count (tally_in slot) mode) updates.changed ∙ none_counted count mode
              ∙ sym (ap (shares q' (weight_of count mode) None) same ∙ kept (weight_of count mode) at
              ∙ no_share (weight_of count mode))
          | inr differs ↦
              ap (λ t. how_many count t mode) (ap tally_in (updates.others r differs)
              ∙ relinked_same with_order_links tally_in (λ x pair. refl) q.resources r1 relinks r)
              ∙ tallied.counts count r mode
              ∙ sym (kept (weight_of count mode) r)
        ];
      }

pub map-nil : {A B : Type 0} (f : A → B) (xs : List A) → map f xs ≡ [] → xs ≡ []
map-nil f [] none = refl
map-nil f (x ∷ xs) none = cc
