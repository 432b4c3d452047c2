-- The lists of armed locks of each resource: what stays, and what becomes of them as locks leave and join.
use Rattle.std.proofs.Common.{◌≡◌, ◌≢◌, ℕ, List, [], ◌∷◌, ◌++◌, filter, cond, Bool, true, false, Option, None, Some, refl, sym, ap, ◌∙◌, subst, inl, inr}
use Rattle.std.proofs.Math.Path.{fun_ext}
use Rattle.std.proofs.lemmas.Bool.{cases_Bool, cases_eq}
use Rattle.std.proofs.lemmas.List.Elements.{filter-append}
use Rattle.std.proofs.lemmas.Option.{none-some, same_Some}
use Rattle.std.specs.Option.{option_map}
use Rattle.slab.specs.Slab.{Slab, get, ContainsKey, with_value}
use Rattle.slab.proofs.SlabLemmas.{Updates-with_value}
use Rattle.std.specs.Prelude.{nat_lt}
use Rattle.vlm_collections.specs.declared.link.Links.{Links}
use Rattle.vlm_collections.specs.declared.lists.LinkedList.{LinkedList}
use Rattle.vlm_collections.specs.Lists.{IsIn, IsLinked, IsNoList, Relinks, handles_of, next_in, prev_in, without}
use Rattle.vlm_records.proofs.Counting.{without-twice, shares_same}
use Rattle.vlm_collections.proofs.HandleLists.{IsIn-push_last, IsIn-without, IsIn-without_kept, without_absent, without_head, without_past}
use Rattle.vlm_collections.proofs.Keeping.{relinked_same}
use Rattle.vlm_collections.proofs.Rings.{kept-handles, kept-linked, no_list-linked}
use Rattle.vlm_collections.proofs.Walks.{without_last}
use Rattle.vlm_words.specs.declared.locks.LockState.{LockState}
use Rattle.vlm_words.specs.declared.resources.Queue.{Queue}
use Rattle.vlm_words.specs.declared.resources.Queue.TheVariants.{Granted, Conversion, Waiting}
use Rattle.vlm_records.specs.declared.handles.Armed.{Armed}
use Rattle.vlm_records.specs.declared.handles.Armed.TheVariants.{AboveNl, AboveCr}
use Rattle.vlm_records.specs.declared.handles.Place.{Place}
use Rattle.vlm_records.specs.declared.handles.Place.TheVariants.{Queued}
use Rattle.vlm_records.specs.declared.locks.Lock.{Lock}
use Rattle.vlm_records.specs.declared.queues.Queues.{Queues}
use Rattle.vlm_records.specs.declared.resources.Resource.{Resource}
use Rattle.vlm_records.specs.Armed.{IsArmed, IsLast, StandsLast, armed_granted, armed_handles, armed_links, armed_list}
use Rattle.vlm_records.specs.Armed.{armed_list_handles, armed_list_in, armed_on, armed_rank, floor, granted_on}
use Rattle.vlm_records.specs.Armed.{is_listed, kind_of, list_of, other_list, with_armed_links, with_list}
use Rattle.vlm_records.specs.Families.{IsFamily}
use Rattle.vlm_records.specs.Kept.{KeepsPlaces, Rewrites}
use Rattle.vlm_records.specs.Shown.{IsPlaced, IsTallied, IsThere, SameBut, but_armed, but_counted, but_in_armed}
use Rattle.vlm_records.specs.Shown.{but_kin, but_lists, but_queued, but_queues, but_requeued, but_tally, handles_at}
use Rattle.vlm_records.specs.Shown.{handles_but, is_loose_in, list_at, list_in, noted_in, queue_links, row_in, rows}
use Rattle.vlm_records.specs.Shown.{tally_in}
use Rattle.vlm_records.specs.Tallies.{how_many, weight_of}
use Rattle.vlm_records.proofs.Families.{family-put_here, family-put_others, family-put, family-taken, family-taken_handles}
use Rattle.vlm_records.proofs.PlacesOnLists.{loose_unlisted, by_part, there_by_part, kept_handles, kept_placed}
use Rattle.vlm_records.proofs.PlacesOnLists.{place_cases, stands_there, there_through, through}
use Rattle.vlm_records.proofs.OwnLocks.{written_same}
use Rattle.vlm_records.proofs.Rooms.{room_relinked, room_written}

-- ---- what a list is no part of

next-requeued : (which : Armed) (slot : Option Lock) → next_in (armed_links which) (option_map but_requeued slot) ≡ next_in (armed_links which) slot
next-requeued which None = refl
next-requeued AboveNl (Some l) = refl
next-requeued AboveCr (Some l) = refl

prev-requeued : (which : Armed) (slot : Option Lock) → prev_in (armed_links which) (option_map but_requeued slot) ≡ prev_in (armed_links which) slot
prev-requeued which None = refl
prev-requeued AboveNl (Some l) = refl
prev-requeued AboveCr (Some l) = refl

next-kin : (which : Armed) (slot : Option Lock) → next_in (armed_links which) (option_map but_kin slot) ≡ next_in (armed_links which) slot
next-kin which None = refl
next-kin AboveNl (Some l) = refl
next-kin AboveCr (Some l) = refl

prev-kin : (which : Armed) (slot : Option Lock) → prev_in (armed_links which) (option_map but_kin slot) ≡ prev_in (armed_links which) slot
prev-kin which None = refl
prev-kin AboveNl (Some l) = refl
prev-kin AboveCr (Some l) = refl

list-counted : (which : Armed) (slot : Option Resource) → armed_list_in which (option_map but_counted slot) ≡ armed_list_in which slot
list-counted which None = refl
list-counted AboveNl (Some r) = refl
list-counted AboveCr (Some r) = refl

-- another list of the resource, and of the locks in it
module _ (l : Lock) (pair : Links) where
  relinked-kin : (which : Armed) → option_map but_in_armed (Some (with_armed_links which l pair)) ≡ option_map but_in_armed (Some l)
  relinked-kin AboveNl = refl
  relinked-kin AboveCr = refl

  relinked-row : (which : Armed) → row_in (Some (with_armed_links which l pair)) ≡ row_in (Some l)
  relinked-row AboveNl = refl
  relinked-row AboveCr = refl

  relinked-note : (which : Armed) → noted_in (Some (with_armed_links which l pair)) ≡ noted_in (Some l)
  relinked-note AboveNl = refl
  relinked-note AboveCr = refl

  relinked-armed : (which read : Armed) → armed_on read (Some (with_armed_links which l pair)) ≡ armed_on read (Some l)
  relinked-armed AboveNl read = refl
  relinked-armed AboveCr read = refl

  relinked-next : (which : Armed) → next_in queue_links (Some (with_armed_links which l pair)) ≡ next_in queue_links (Some l)
  relinked-next AboveNl = refl
  relinked-next AboveCr = refl

  relinked-prev : (which : Armed) → prev_in queue_links (Some (with_armed_links which l pair)) ≡ prev_in queue_links (Some l)
  relinked-prev AboveNl = refl
  relinked-prev AboveCr = refl

  relinked-next_other : (which : Armed)
      → next_in (armed_links (other_list which)) (Some (with_armed_links which l pair)) ≡ next_in
      (armed_links (other_list which)) (Some l)
  relinked-next_other AboveNl = refl
  relinked-next_other AboveCr = refl

  relinked-prev_other : (which : Armed)
      → prev_in (armed_links (other_list which)) (Some (with_armed_links which l pair)) ≡ prev_in
      (armed_links (other_list which)) (Some l)
  relinked-prev_other AboveNl = refl
  relinked-prev_other AboveCr = refl

module _ (r : Resource) where
  relisted-rest : (which : Armed) (list : LinkedList (kind_of which)) → option_map but_armed (Some (with_list which list r)) ≡ option_map but_armed (Some r)
  relisted-rest AboveNl list = refl
  relisted-rest AboveCr list = refl

  other-put : (which : Armed) (list : LinkedList (kind_of which)) → list_of (other_list which) (with_list which list r) ≡ list_of (other_list which) r
  other-put AboveNl list = refl
  other-put AboveCr list = refl

-- ---- what holds whichever list is meant

-- the locks at a place but for one
but_in : (q : Queues) (out : Option ℕ) (place : Place) (at : ℕ) → IsIn at (handles_but q out place) → IsIn at (handles_at q place)
but_in q None place at found = found
but_in q (Some out) place at found = (IsIn-without out at (handles_at q place) found).0

in_but : (q : Queues) (out : Option ℕ) (place : Place) (at : ℕ) → Some at ≢ out → IsIn at (handles_at q place) → IsIn at (handles_but q out place)
in_but q None place at differs found = found
in_but q (Some out) place at differs found = IsIn-without_kept out at (handles_at q place) found (λ same. differs (ap Some same))

but_gone : (q : Queues) (out : Option ℕ) (place : Place) (at : ℕ) → Some at ≡ out → ¬ IsIn at (handles_but q out place)
but_gone q None place at is found = none-some at (sym is)
but_gone q (Some out) place at is found = (IsIn-without out at (handles_at q place) found).1 (same_Some at out is)

granted_is : (place : Place) (res : ℕ) → granted_on place ≡ Some res → place ≡ Queued res Granted
granted_is (Queued r Granted) res is = ap (λ x. Queued x Granted) (same_Some r res is)
granted_is (Queued r Conversion) res is = absurd (none-some res is)
granted_is (Queued r Waiting) res is = absurd (none-some res is)

-- what differs in less differs in no more
pub counted_queues : (old new : Slab Resource) → SameBut but_counted old new → SameBut but_queues old new
counted_queues old new same r = by_part but_counted (option_map but_queues) again (get new r) (get old r) (same r)
  where
    again : (slot : Option Resource) → option_map but_queues (option_map but_counted slot) ≡ option_map but_queues slot
    again None = refl
    again (Some x) = refl

pub tally_counted : (old new : Slab Resource) → SameBut but_tally old new → SameBut but_counted old new
tally_counted old new same r = by_part but_tally (option_map but_counted) again (get new r) (get old r) (same r)
  where
    again : (slot : Option Resource) → option_map but_counted (option_map but_tally slot) ≡ option_map but_counted slot
    again None = refl
    again (Some x) = refl

pub lists_counted : (old new : Slab Resource) → SameBut but_lists old new → SameBut but_counted old new
lists_counted old new same r = by_part but_lists (option_map but_counted) again (get new r) (get old r) (same r)
  where
    again : (slot : Option Resource) → option_map but_counted (option_map but_lists slot) ≡ option_map but_counted slot
    again None = refl
    again (Some x) = refl

pub armed_queues : (old new : Slab Resource) → SameBut but_armed old new → SameBut but_queues old new
armed_queues old new same r = by_part but_armed (option_map but_queues) again (get new r) (get old r) (same r)
  where
    again : (slot : Option Resource) → option_map but_queues (option_map but_armed slot) ≡ option_map but_queues slot
    again None = refl
    again (Some x) = refl

-- of a lock too
pub requeued_is : (a b : Option Lock) → option_map but_requeued a ≡ option_map but_requeued b → option_map but_queued a ≡ option_map but_queued b
requeued_is = by_part but_requeued (option_map but_queued) again
  where
    again : (slot : Option Lock) → option_map but_queued (option_map but_requeued slot) ≡ option_map but_queued slot
    again None = refl
    again (Some l) = refl

pub in_armed_is : (a b : Option Lock) → option_map but_in_armed a ≡ option_map but_in_armed b → option_map but_queued a ≡ option_map but_queued b
in_armed_is = by_part but_in_armed (option_map but_queued) again
  where
    again : (slot : Option Lock) → option_map but_queued (option_map but_in_armed slot) ≡ option_map but_queued slot
    again None = refl
    again (Some l) = refl

-- a place is there where its resource stays
pub place_still : (part : Resource → Resource) (old new : Slab Resource) → SameBut part old new → (place : Place) → IsThere old place → IsThere new place
place_still part old new same (Queued res queue) there = there_through part old new same res there

twice_last : (at : ℕ) (ks : List ℕ) → without at (without at ks ++ at ∷ []) ≡ without at ks
twice_last at ks = without_last (without at ks) at (λ found. (IsIn-without at at ks found).1 refl)

-- ---- a lock goes to the end of a list

module _ (q q' : Queues) (at : ℕ) (to : Place) (here : handles_at q' to ≡ without at (handles_at q to) ++ at ∷ [])
    (elsewhere : (other : Place) → other ≢ to → handles_at q' other ≡ without at (handles_at q other)) where
  without_same : (p : Place) → without at (handles_at q' p) ≡ without at (handles_at q p)
  without_same p =
      elim (place_cases p to) [
        | inl is ↦ ap (λ x. without at (handles_at q' x)) is ∙ ap (without at) here ∙ twice_last at (handles_at q to)
            ∙ ap (λ x. without at (handles_at q x)) (sym is)
        | inr differs ↦ ap (without at) (elsewhere p differs) ∙ without-twice at (handles_at q p)
      ]

  pub requeued_last : IsPlaced q' None → StandsLast q' at
  requeued_last placed place is =
      let stands : IsIn at (handles_at q' to) = subst (IsIn at) (sym here) (IsIn-push_last at (without at (handles_at q to))) in
      let last : IsLast at (handles_at q' to) = here ∙ ap (λ ks. ks ++ at ∷ []) (sym (without_same to)) in
      subst (λ p. IsLast at (handles_at q' p)) (same_Some to place (sym (placed.listed to at stands) ∙ is)) last

module _ (q q' : Queues) (at : ℕ) (unlisted : (p : Place) → ¬ IsIn at (handles_at q p)) (to : Place) where
  comes_here : handles_at q' to ≡ handles_at q to ++ at ∷ [] → handles_at q' to ≡ without at (handles_at q to) ++ at ∷ []
  comes_here here = here ∙ ap (λ ks. ks ++ at ∷ []) (sym (without_absent at (handles_at q to) (unlisted to)))

  comes_elsewhere : ((p : Place) → p ≢ to → handles_at q' p ≡ handles_at q p) → (p : Place) → p ≢ to → handles_at q' p ≡ without at (handles_at q p)
  comes_elsewhere elsewhere p differs = elsewhere p differs ∙ sym (without_absent at (handles_at q p) (unlisted p))

  pub added_last : handles_at q' to ≡ handles_at q to ++ at ∷ []
      → ((p : Place) → p ≢ to → handles_at q' p ≡ handles_at q p) → IsPlaced q' None → StandsLast q' at
  added_last here elsewhere = requeued_last q q' at to (comes_here here) (comes_elsewhere elsewhere)

-- where nothing changes, all stays
pub same_places : (q : Queues) → IsPlaced q None → IsTallied q None → KeepsPlaces q q
same_places q placed tallied = record {
  placed = placed;
  tallied = tallied;
  handles = λ p. refl;
  rows = λ k. refl;
  records = record { kin = λ k. refl; rest = λ k. refl; locks_room = refl; resources_room = refl };
}

list-armed : (queue : Queue) (slot : Option Resource) → list_in queue (option_map but_armed slot) ≡ list_in queue slot
list-armed queue None = refl
list-armed Granted (Some r) = refl
list-armed Conversion (Some r) = refl
list-armed Waiting (Some r) = refl

tally-armed : (slot : Option Resource) → tally_in (option_map but_armed slot) ≡ tally_in slot
tally-armed None = refl
tally-armed (Some r) = refl

module _ (which : Armed) where
  -- ---- handles whose rows are armed

  module _ (rows : ℕ → LockState) where
    -- one of them is one of all, and armed
    pub armed-in : (at : ℕ) (ks : List ℕ) → IsIn at (armed_handles which rows ks) → IsIn at ks × (is_listed which (rows at) ≡ true)
    armed-in at [] found = absurd found
    armed-in at (k ∷ ks) found =
        elim (cases_Bool (is_listed which (rows k))) [
          | inl is_armed ↦ elim (rw is_armed at found) [
            | inl here ↦ (inl here, subst (λ x. is_listed which (rows x) ≡ true) here is_armed)
            | inr there ↦ let later = armed-in at ks there in (inr later.0, later.1)
          ]
          | inr unarmed ↦ let later = armed-in at ks (rw unarmed at found) in (inr later.0, later.1)
        ]

    pub in-armed : (at : ℕ) (ks : List ℕ) → IsIn at ks → is_listed which (rows at) ≡ true → IsIn at (armed_handles which rows ks)
    in-armed at [] found is = absurd found
    in-armed at (k ∷ ks) found is =
        elim found [
          | inl here ↦ let is_armed : is_listed which (rows k) ≡ true = subst (λ x. is_listed which (rows x) ≡ true) (sym here) is in rw is_armed (inl here)
          | inr there ↦ elim (is_listed which (rows k)) as (λ b. IsIn at (cond b (k ∷ armed_handles which rows ks) (armed_handles which rows ks))) [
            | true ↦ inr (in-armed at ks there is)
            | false ↦ in-armed at ks there is
          ]
        ]

    -- one more at the end
    pub armed-push : (at : ℕ) (ks : List ℕ) → is_listed which (rows at) ≡ true
        → armed_handles which rows (ks ++ at ∷ []) ≡ armed_handles which rows ks ++ at ∷ []
    armed-push at ks is = filter-append (λ k. is_listed which (rows k)) ks (at ∷ []) ∙ ap (λ b. armed_handles which rows ks ++ cond b (at ∷ []) []) is

    first_armed : (k : ℕ) (ks : List ℕ) → is_listed which (rows k) ≡ true → armed_handles which rows (k ∷ ks) ≡ k ∷ armed_handles which rows ks
    first_armed k ks is_armed = rw is_armed refl

    first_unarmed : (k : ℕ) (ks : List ℕ) → is_listed which (rows k) ≡ false → armed_handles which rows (k ∷ ks) ≡ armed_handles which rows ks
    first_unarmed k ks unarmed = rw unarmed refl

    -- one leaves
    pub armed-without : (at : ℕ) (ks : List ℕ) → armed_handles which rows (without at ks) ≡ without at (armed_handles which rows ks)
    armed-without at [] = refl
    armed-without at (k ∷ ks) =
        elim (cases_eq k at) [
          | inl same ↦
              ap (armed_handles which rows) (without_head at k ks same) ∙ armed-without at ks
              ∙ elim (cases_Bool (is_listed which (rows k))) [
                | inl is_armed ↦ sym (ap (without at) (first_armed k ks is_armed) ∙ without_head at k (armed_handles which rows ks) same)
                | inr unarmed ↦ sym (ap (without at) (first_unarmed k ks unarmed))
              ]
          | inr differs ↦
              ap (armed_handles which rows) (without_past at k ks differs)
              ∙ elim (cases_Bool (is_listed which (rows k))) [
                | inl is_armed ↦
                    first_armed k (without at ks) is_armed ∙ ap (λ rest. k ∷ rest) (armed-without at ks)
                    ∙ sym (ap (without at) (first_armed k ks is_armed) ∙ without_past at k (armed_handles which rows ks) differs)
                | inr unarmed ↦ first_unarmed k (without at ks) unarmed ∙ armed-without at ks ∙ sym (ap (without at) (first_unarmed k ks unarmed))
              ]
        ]

    -- one that is not armed is none of them
    pub armed-but : (at : ℕ) (ks : List ℕ) → (IsIn at ks → is_listed which (rows at) ≡ false)
        → armed_handles which rows (without at ks) ≡ armed_handles which rows ks
    armed-but at ks unarmed =
        armed-without at ks
        ∙ without_absent at (armed_handles which rows ks) (λ found.
        let is = armed-in at ks found in
        let is_armed = is.1 in
        let not_armed = unarmed is.0 in
        cc)

  -- the rows of these stay
  pub armed-kept : (rows rows' : ℕ → LockState) (ks : List ℕ) → ((k : ℕ) → IsIn k ks → rows' k ≡ rows k)
      → armed_handles which rows' ks ≡ armed_handles which rows ks
  armed-kept rows rows' [] same = refl
  armed-kept rows rows' (k ∷ ks) same =
      ap (λ (r : LockState). cond (is_listed which r) (k ∷ armed_handles which rows' ks) (armed_handles which rows' ks)) (same k (inl refl))
      ∙ ap (λ rest. cond (is_listed which (rows k)) (k ∷ rest) rest) (armed-kept rows rows' ks (λ x h. same x (inr h)))

  -- ---- where a lock is granted and armed

  pub armed_there : (slot : Option Lock) (res : ℕ) → (armed_on which) slot ≡ Some res
      → (noted_in slot ≡ Some (Queued res Granted)) × (is_listed which (row_in slot) ≡ true)
  armed_there None res is = absurd (none-some res is)
  armed_there (Some l) res is =
      elim (cases_Bool l.loose) [
        | inl loose ↦ absurd (none-some res (rw loose at is))
        | inr queued ↦ elim (cases_Bool (is_listed which l.row)) [
          | inl is_armed ↦ (rw queued (ap Some (granted_is l.place res (rw (queued, is_armed) at is))), is_armed)
          | inr unarmed ↦ absurd (none-some res (rw (queued, unarmed) at is))
        ]
      ]

  pub there_armed : (slot : Option Lock) (res : ℕ) → noted_in slot ≡ Some (Queued res Granted)
      → is_listed which (row_in slot) ≡ true → (armed_on which) slot ≡ Some res
  there_armed None res is is_armed = absurd (none-some (Queued res Granted) is)
  there_armed (Some l) res is is_armed =
      elim (cases_Bool l.loose) [
        | inl loose ↦ absurd (none-some (Queued res Granted) (rw loose at is))
        | inr queued ↦ rw (queued, is_armed) (ap granted_on (same_Some l.place (Queued res Granted) (rw queued at is)))
      ]

  module _ (q : Queues) (out : Option ℕ) (placed : IsPlaced q None) (armed : IsArmed which q out) where
    -- the lists of armed locks are a family: each such lock notes the one in which it stands
    pub armed_family : IsFamily (armed_links which) (armed_on which) q.locks (armed_list which q) out
    armed_family = record {
      linked = armed.linked;
      listed = λ res at found.
          let is = armed-in (rows q) at (handles_but q out (Queued res Granted)) (subst (IsIn at) (armed.order res) found) in
          there_armed (get q.locks at) res (placed.listed (Queued res Granted) at (but_in q out (Queued res Granted) at is.0)) is.1;
      stands = λ res at differs is.
          let there = armed_there (get q.locks at) res is in
          subst (IsIn at) (sym (armed.order res))
          (in-armed (rows q) at (handles_but q out (Queued res Granted))
          (in_but q out (Queued res Granted) at differs
          (placed.stands (Queued res Granted) at (λ e. none-some at (sym e)) there.0)) there.1);
      gone = λ res at is found.
          but_gone q out (Queued res Granted) at is (armed-in (rows q) at (handles_but q out (Queued res Granted)) (subst (IsIn at) (armed.order res) found)).0;
    }

  -- the resource on which a lock is granted and armed is there
  pub armed_resource : (q : Queues) (at res : ℕ) → IsPlaced q None → (armed_on which) (get q.locks at) ≡ Some res → ContainsKey q.resources res
  armed_resource q at res placed is =
      stands_there q (Queued res Granted) at (placed.stands (Queued res Granted) at (λ e. none-some at (sym e)) (armed_there (get q.locks at) res is).0)

  -- a lock that is not granted and armed is out of all
  module _ (q : Queues) (at : ℕ) (placed : IsPlaced q None) (none : (armed_on which) (get q.locks at) ≡ None) where
    none_or_but : (res : ℕ) → armed_granted which q (Some at) res ≡ armed_granted which q None res
    none_or_but res =
        armed-but (rows q) at (handles_at q (Queued res Granted)) (λ found.
        elim (cases_Bool (is_listed which (rows q at))) [
          | inl is_armed ↦ absurd (none-some res (sym none ∙ there_armed (get q.locks at) res (placed.listed (Queued res Granted) at found) is_armed))
          | inr unarmed ↦ unarmed
        ])

    pub unarmed_left : IsArmed which q None → IsArmed which q (Some at)
    unarmed_left armed = record { linked = armed.linked; order = λ res. armed.order res ∙ sym (none_or_but res) }

    pub unarmed_joined : IsArmed which q (Some at) → IsArmed which q None
    unarmed_joined armed = record { linked = armed.linked; order = λ res. armed.order res ∙ none_or_but res }

  -- ---- the lists stay

  -- they stay where their heads do, their records keep their neighbours, and just those are granted and armed that were
  pub armed_stays : (q q' : Queues) (out out' : Option ℕ) → IsArmed which q out → ((res : ℕ) → armed_list which q' res ≡ armed_list which q res)
      → ((res k : ℕ) → IsIn k (armed_list_handles which q res) → next_in (armed_links which) (get q'.locks k) ≡ next_in (armed_links which) (get q.locks k))
      → ((res k : ℕ) → IsIn k (armed_list_handles which q res) → prev_in (armed_links which) (get q'.locks k) ≡ prev_in (armed_links which) (get q.locks k))
      → ((res k : ℕ) → IsIn k (armed_list_handles which q res) → ContainsKey q.locks k → ContainsKey q'.locks k)
      → ((res : ℕ) → armed_granted which q' out' res ≡ armed_granted which q out res) → IsArmed which q' out'
  armed_stays q q' out out' armed lists nexts prevs there same = record {
    linked = λ res.
        subst (IsLinked (armed_links which) q'.locks) (sym (lists res))
        (kept-linked (armed_links which) q.locks q'.locks (armed_list which q res) (armed.linked res) (nexts res) (prevs res) (there res));
    order = λ res.
        ap (handles_of (armed_links which) q'.locks) (lists res)
        ∙ kept-handles (armed_links which) q.locks q'.locks (armed_list which q res) (armed.linked res) (nexts res) (prevs res) (there res)
        ∙ armed.order res ∙ sym (same res);
  }

  -- they stay as one lock changes that is in none of them
  pub armed_but_one : (q q' : Queues) (out out' : Option ℕ) (at : ℕ) → IsArmed which q out → ((res : ℕ) → ¬ IsIn at (armed_list_handles which q res))
      → ((res : ℕ) → armed_list which q' res ≡ armed_list which q res)
      → ((k : ℕ) → k ≢ at → option_map but_requeued (get q'.locks k) ≡ option_map but_requeued (get q.locks k))
      → ((res : ℕ) → armed_granted which q' out' res ≡ armed_granted which q out res) → IsArmed which q' out'
  armed_but_one q q' out out' at armed unlisted lists kin same =
      armed_stays q q' out out' armed lists
      (λ res k found. by_part but_requeued (next_in (armed_links which)) (next-requeued which) (get q'.locks k) (get q.locks k) (kin k (other res k found)))
      (λ res k found. by_part but_requeued (prev_in (armed_links which)) (prev-requeued which) (get q'.locks k) (get q.locks k) (kin k (other res k found)))
      (λ res k found there. there_by_part but_requeued (get q'.locks k) (get q.locks k) (kin k (other res k found)) there) same
    where
      other : (res k : ℕ) → IsIn k (armed_list_handles which q res) → k ≢ at
      other res k found is = unlisted res (subst (λ x. IsIn x (armed_list_handles which q res)) is found)

  -- the one that is taken out is in none
  pub out_unlisted : (q : Queues) (at : ℕ) → IsArmed which q (Some at) → (res : ℕ) → ¬ IsIn at (armed_list_handles which q res)
  out_unlisted q at armed res found =
      (IsIn-without at at (handles_at q (Queued res Granted))
      (armed-in (rows q) at (without at (handles_at q (Queued res Granted)))
      (subst (IsIn at) (armed.order res) found)).0).1 refl

  -- the lists of armed locks stay as queues and counts change
  pub armed_lists : (old new : Slab Resource) → SameBut but_counted old new → (res : ℕ)
      → (armed_list_in which) (get new res) ≡ (armed_list_in which) (get old res)
  armed_lists = through but_counted (armed_list_in which) (list-counted which)

  module _ (q q' : Queues) (at : ℕ) (same : (k : ℕ) → k ≢ at → rows q' k ≡ rows q k) where
    others_armed : (ks : List ℕ) → armed_handles which (rows q') (without at ks) ≡ armed_handles which (rows q) (without at ks)
    others_armed ks = armed-kept (rows q) (rows q') (without at ks) (λ k found. same k (IsIn-without at k ks found).1)

    -- it is put at the end of a list
    module _ (to : Place) (here : handles_at q' to ≡ without at (handles_at q to) ++ at ∷ [])
        (elsewhere : (other : Place) → other ≢ to → handles_at q' other ≡ without at (handles_at q other)) where
      pub requeued_granted : (res : ℕ) → armed_granted which q' (Some at) res ≡ armed_granted which q (Some at) res
      requeued_granted res =
          ap (armed_handles which (rows q')) (without_same q q' at to here elsewhere (Queued res Granted))
          ∙ others_armed (handles_at q (Queued res Granted))

    -- it is armed no more
    pub disarmed_granted : ((p : Place) → handles_at q' p ≡ handles_at q p) → is_listed which (rows q' at) ≡ false
        → (res : ℕ) → armed_granted which q' None res ≡ armed_granted which q (Some at) res
    disarmed_granted handles unarmed res =
        ap (armed_handles which (rows q')) (handles (Queued res Granted))
        ∙ sym (armed-but (rows q') at (handles_at q (Queued res Granted)) (λ found. unarmed))
        ∙ others_armed (handles_at q (Queued res Granted))

    -- it is gone
    pub removed_granted : ((p : Place) → handles_at q' p ≡ without at (handles_at q p)) → (res : ℕ)
        → armed_granted which q' None res ≡ armed_granted which q (Some at) res
    removed_granted handles res = ap (armed_handles which (rows q')) (handles (Queued res Granted)) ∙ others_armed (handles_at q (Queued res Granted))

    -- it has come, to the end of a list
    module _ (unlisted : (p : Place) → ¬ IsIn at (handles_at q p)) (to : Place)
        (here : handles_at q' to ≡ handles_at q to ++ at ∷ []) (elsewhere : (p : Place) → p ≢ to
        → handles_at q' p ≡ handles_at q p) where
      pub added_granted : (res : ℕ) → armed_granted which q' (Some at) res ≡ armed_granted which q None res
      added_granted res =
          requeued_granted to (comes_here q q' at unlisted to here) (comes_elsewhere q q' at unlisted to elsewhere) res
          ∙ ap (armed_handles which (rows q)) (without_absent at (handles_at q (Queued res Granted)) (unlisted (Queued res Granted)))

  -- ---- other records change

  -- resources do, but for the heads of the lists
  pub armed_resources : (q : Queues) (resources : Slab Resource) → ((res : ℕ) → (armed_list_in which) (get resources res) ≡ armed_list which q res)
      → ((p : Place) → handles_at (record q { resources = resources }) p ≡ handles_at q p) → IsArmed which q None
      → IsArmed which (record q { resources = resources }) None
  armed_resources q resources lists handles armed =
      armed_stays q (record q { resources = resources }) None None armed lists (λ res k _. refl) (λ res k _. refl) (λ res k _ there. there)
      (λ res. ap (armed_handles which (rows q)) (handles (Queued res Granted)))

  -- room is made for locks
  pub armed_reserved : (q : Queues) (locks : Slab Lock) → ((k : ℕ) → get locks k ≡ get q.locks k)
      → ((p : Place) → handles_at (record q { locks = locks }) p ≡ handles_at q p) → IsArmed which q None
      → IsArmed which (record q { locks = locks }) None
  armed_reserved q locks same handles armed =
      armed_stays q (record q { locks = locks }) None None armed (λ res. refl)
      (λ res k _. ap (next_in (armed_links which)) (same k)) (λ res k _. ap (prev_in (armed_links which)) (same k))
      (λ res k _ there. rw (same k) there)
      (λ res. ap (armed_handles which (rows (record q { locks = locks }))) (handles (Queued res Granted))
      ∙ armed-kept (rows q) (rows (record q { locks = locks })) (handles_at q (Queued res Granted))
      (λ k _. ap row_in (same k)))

  -- locks join and leave their processes and parents
  pub armed_kin : (q : Queues) (locks : Slab Lock) → SameBut but_kin q.locks locks → ((p : Place) → handles_at (record q { locks = locks }) p ≡ handles_at q p)
      → ((k : ℕ) → row_in (get locks k) ≡ row_in (get q.locks k)) → IsArmed which q None → IsArmed which (record q { locks = locks }) None
  armed_kin q locks same handles rows_same armed =
      armed_stays q (record q { locks = locks }) None None armed (λ res. refl)
      (λ res k _. through but_kin (next_in (armed_links which)) (next-kin which) q.locks locks same k)
      (λ res k _. through but_kin (prev_in (armed_links which)) (prev-kin which) q.locks locks same k) (λ res k _. there_through but_kin q.locks locks same k)
      (λ res. ap (armed_handles which (rows (record q { locks = locks }))) (handles (Queued res Granted))
      ∙ armed-kept (rows q) (rows (record q { locks = locks })) (handles_at q (Queued res Granted))
      (λ k _. rows_same k))

  -- nothing is there
  pub empty_armed : (q : Queues) → ((r : ℕ) → get q.resources r ≡ None) → ((p : Place) → handles_at q p ≡ []) → IsArmed which q None
  empty_armed q none empty =
      let no_lists : (res : ℕ) → IsNoList (armed_list which q res) = λ res. rw (none res) (record { no_first = refl; no_last = refl; no_handles = refl }) in
      record {
        linked = λ res. (no_list-linked (armed_links which) q.locks (armed_list which q res) (no_lists res)).0;
        order = λ res. (no_list-linked (armed_links which) q.locks (armed_list which q res) (no_lists res)).1
            ∙ sym (ap (armed_handles which (rows q)) (empty (Queued res Granted)));
      }

  -- ---- a lock leaves a list, or joins it

  module _ (q : Queues) (locks1 : Slab Lock) (res : ℕ) (was : Resource) (now : Resource)
      (here : get q.resources res ≡ Some was) (written : now ≡ with_list which (list_of which now) was)
      (relinks : Relinks (with_armed_links which) q.locks locks1) where
    -- the records once the list of one resource is written
    abbrev pub relisted : Queues
    relisted = record q { locks = locks1; resources = with_value q.resources res now }

    pub relisted_rest : SameBut but_armed q.resources relisted.resources
    relisted_rest = written_same q.resources res was now (option_map but_armed) here
        (ap (λ r. option_map but_armed (Some r)) written ∙ relisted-rest was which (list_of which now))

    pub relisted_kin : SameBut but_in_armed q.locks locks1
    relisted_kin = relinked_same (with_armed_links which) (option_map but_in_armed) (λ l pair. relinked-kin l pair which) q.locks locks1 relinks

    rows_stay : (k : ℕ) → rows relisted k ≡ rows q k
    rows_stay = relinked_same (with_armed_links which) row_in (λ l pair. relinked-row l pair which) q.locks locks1 relinks

    queues_stay : (p : Place) → list_at relisted p ≡ list_at q p
    queues_stay (Queued r queue) = through but_armed (list_in queue) (list-armed queue) q.resources relisted.resources relisted_rest r

    notes_stay : (k : ℕ) → (armed_on which) (get locks1 k) ≡ (armed_on which) (get q.locks k)
    notes_stay = relinked_same (with_armed_links which) (armed_on which) (λ l pair. relinked-armed l pair which which) q.locks locks1 relinks

    module _ (placed : IsPlaced q None) where
      pub relisted_handles : (p : Place) → handles_at relisted p ≡ handles_at q p
      relisted_handles =
          kept_handles q None placed relisted queues_stay
          (relinked_same (with_armed_links which) (next_in queue_links)
          (λ l pair. relinked-next l pair which) q.locks locks1 relinks)
          (relinked_same (with_armed_links which) (prev_in queue_links)
          (λ l pair. relinked-prev l pair which) q.locks locks1 relinks)
          (there_through but_in_armed q.locks locks1 relisted_kin)

      pub relisted_placed : IsPlaced relisted None
      relisted_placed =
          kept_placed q None placed relisted queues_stay
          (relinked_same (with_armed_links which) (next_in queue_links)
          (λ l pair. relinked-next l pair which) q.locks locks1 relinks)
          (relinked_same (with_armed_links which) (prev_in queue_links)
          (λ l pair. relinked-prev l pair which) q.locks locks1 relinks)
          (there_through but_in_armed q.locks locks1 relisted_kin)
          (relinked_same (with_armed_links which) noted_in (λ l pair. relinked-note l pair which) q.locks locks1 relinks)

      pub relisted_tallied : IsTallied q None → IsTallied relisted None
      relisted_tallied tallied = record {
        counts = λ count r mode.
            ap (λ t. how_many count t mode)
            (through but_armed tally_in tally-armed q.resources relisted.resources relisted_rest r)
            ∙ tallied.counts count r mode
            ∙ sym (shares_same q relisted (weight_of count mode) None r relisted_handles (λ k _. rows_stay k));
      }

      -- what stays
      pub relisted_places : IsTallied q None → KeepsPlaces q relisted
      relisted_places tallied = record {
        placed = relisted_placed;
        tallied = relisted_tallied tallied;
        handles = relisted_handles;
        rows = rows_stay;
        records = record {
          kin = relisted_kin;
          rest = relisted_rest;
          locks_room = room_relinked (with_armed_links which) q.locks locks1 relinks;
          resources_room = room_written q.resources res now (rw here refl);
        };
      }

      -- the other list of each resource stays
      other_lists : (r : ℕ) → armed_list_in (other_list which) (get relisted.resources r) ≡ armed_list_in (other_list which) (get q.resources r)
      other_lists r =
          let there : ContainsKey q.resources res = rw here refl in
          let updates = Updates-with_value q.resources res now there in
          elim (cases_eq r res) [
            | inl same ↦
                ap (λ x. armed_list_in (other_list which) (get relisted.resources x)) same
                ∙ ap (armed_list_in (other_list which)) updates.changed ∙ ap (list_of (other_list which)) written
                ∙ other-put was which (list_of which now)
                ∙ sym (ap (λ x. armed_list_in (other_list which) (get q.resources x)) same ∙ ap (armed_list_in (other_list which)) here)
            | inr differs ↦ ap (armed_list_in (other_list which)) (updates.others r differs)
          ]

      pub relisted_other : (out : Option ℕ) → IsArmed (other_list which) q out → IsArmed (other_list which) relisted out
      relisted_other out armed = record {
        linked = λ r.
            subst (IsLinked (armed_links (other_list which)) locks1) (sym (other_lists r))
            (kept-linked (armed_links (other_list which)) q.locks locks1 (armed_list (other_list which) q r)
            (armed.linked r) (λ k _. nexts k) (λ k _. prevs k) (λ k _ there. present k there));
        order = λ r.
            ap (handles_of (armed_links (other_list which)) locks1) (other_lists r)
            ∙ kept-handles (armed_links (other_list which)) q.locks locks1 (armed_list (other_list which) q r)
            (armed.linked r) (λ k _. nexts k) (λ k _. prevs k) (λ k _ there. present k there)
            ∙ armed.order r ∙ sym (granted_stays out r);
      }
        where
          nexts : (k : ℕ) → next_in (armed_links (other_list which)) (get locks1 k) ≡ next_in (armed_links (other_list which)) (get q.locks k)
          nexts = relinked_same (with_armed_links which) (next_in (armed_links (other_list which)))
              (λ l pair. relinked-next_other l pair which) q.locks locks1 relinks

          prevs : (k : ℕ) → prev_in (armed_links (other_list which)) (get locks1 k) ≡ prev_in (armed_links (other_list which)) (get q.locks k)
          prevs = relinked_same (with_armed_links which) (prev_in (armed_links (other_list which)))
              (λ l pair. relinked-prev_other l pair which) q.locks locks1 relinks

          present : (k : ℕ) → ContainsKey q.locks k → ContainsKey locks1 k
          present k there = there_through but_in_armed q.locks locks1 relisted_kin k there

          rows_same : (ks : List ℕ) → armed_handles (other_list which) (rows relisted) ks ≡ armed_handles (other_list which) (rows q) ks
          rows_same ks = ap (λ (f : ℕ → LockState). armed_handles (other_list which) f ks) (fun_ext rows_stay)

          granted_stays : (out : Option ℕ) (r : ℕ) → armed_granted (other_list which) relisted out r ≡ armed_granted (other_list which) q out r
          granted_stays None r =
              ap (armed_handles (other_list which) (rows relisted)) (relisted_handles (Queued r Granted))
              ∙ rows_same (handles_at q (Queued r Granted))
          granted_stays (Some k) r =
              ap (λ ks. armed_handles (other_list which) (rows relisted) (without k ks))
              (relisted_handles (Queued r Granted)) ∙ rows_same (without k (handles_at q (Queued r Granted)))

      granted_same : (ks ks' : List ℕ) → ks' ≡ ks → armed_handles which (rows relisted) ks' ≡ armed_handles which (rows q) ks
      granted_same ks ks' is = ap (armed_handles which (rows relisted)) is ∙ armed-kept (rows q) (rows relisted) ks (λ k _. rows_stay k)

      list_here : armed_list which relisted res ≡ (list_of which now)
      list_here =
          let there : ContainsKey q.resources res = rw here refl in
          ap (armed_list_in which) ((Updates-with_value q.resources res now there).changed)

      list_elsewhere : (j : ℕ) → j ≢ res → armed_list which relisted j ≡ armed_list which q j
      list_elsewhere j differs =
          let there : ContainsKey q.resources res = rw here refl in
          ap (armed_list_in which) ((Updates-with_value q.resources res now there).others j differs)

      head : (list_of which was) ≡ armed_list which q res
      head = sym (ap (armed_list_in which) here)

      module _ (at : ℕ) (linked1 : IsLinked (armed_links which) locks1 (list_of which now)) (is : (armed_on which) (get q.locks at) ≡ Some res) where
        module _ (armed : IsArmed which q None)
            (handles1 : handles_of (armed_links which) locks1 (list_of which now) ≡ without at
            (handles_of (armed_links which) q.locks (list_of which was)))
            (others1 : (other : ℕ) → ¬ IsIn other (handles_of (armed_links which) q.locks (list_of which was)) → get locks1 other ≡ get q.locks other) where
          left_handles1 : handles_of (armed_links which) locks1 (list_of which now) ≡ without at (armed_list_handles which q res)
          left_handles1 = handles1 ∙ ap (λ l. without at (handles_of (armed_links which) q.locks l)) head

          left_others1 : (other : ℕ) → ¬ IsIn other (armed_list_handles which q res) → get locks1 other ≡ get q.locks other
          left_others1 other absent = others1 other (λ found. absent (subst (λ l. IsIn other (handles_of (armed_links which) q.locks l)) head found))

          left_handles : (j : ℕ) → armed_list_handles which relisted j ≡ without at (armed_list_handles which q j)
          left_handles =
              family-taken_handles (armed_links which) (armed_on which) cases_eq q.locks locks1 locks1
              (armed_list which q) (armed_list which relisted) (list_of which now) at res (λ k. refl) (λ k. refl)
              (λ k h. h) linked1 list_here list_elsewhere
              (armed_family q None placed armed) is left_handles1 left_others1

          pub relisted_left : IsArmed which relisted (Some at)
          relisted_left =
              let left = family-taken (armed_links which) (armed_on which) cases_eq q.locks locks1 locks1
              (armed_list which q) (armed_list which relisted) (list_of which now) at res (λ k. refl) (λ k. refl)
              (λ k h. h) linked1 list_here list_elsewhere
              (armed_family q None placed armed) is left_handles1 left_others1 notes_stay in
              record {
                linked = left.linked;
                order = λ j.
                    left_handles j ∙ ap (without at) (armed.order j) ∙ sym (armed-without (rows q) at (handles_at q (Queued j Granted)))
                    ∙ sym (granted_same (without at (handles_at q (Queued j Granted)))
                    (without at (handles_at relisted (Queued j Granted)))
                    (ap (without at) (relisted_handles (Queued j Granted))));
              }

        module _ (armed : IsArmed which q (Some at))
            (handles1 : handles_of (armed_links which) locks1 (list_of which now) ≡ handles_of
            (armed_links which) q.locks (list_of which was) ++ at ∷ [])
            (others1 : (other : ℕ) → ¬ IsIn other (handles_of (armed_links which) q.locks (list_of which was))
            → other ≢ at → get locks1 other ≡ get q.locks other) (last : StandsLast q at) where
          joined_handles1 : handles_of (armed_links which) locks1 (list_of which now) ≡ armed_list_handles which q res ++ at ∷ []
          joined_handles1 = handles1 ∙ ap (λ l. handles_of (armed_links which) q.locks l ++ at ∷ []) head

          joined_others1 : (other : ℕ) → ¬ IsIn other (armed_list_handles which q res) → other ≢ at → get locks1 other ≡ get q.locks other
          joined_others1 other absent = others1 other (λ found. absent (subst (λ l. IsIn other (handles_of (armed_links which) q.locks l)) head found))

          joined_here : armed_list_handles which relisted res ≡ armed_list_handles which q res ++ at ∷ []
          joined_here =
              family-put_here (armed_links which) (armed_on which) cases_eq q.locks locks1 locks1 (armed_list which q)
              (armed_list which relisted) (list_of which now) at res (λ k. refl) (λ k. refl)
              (λ k h. h) linked1 list_here list_elsewhere
              (armed_family q (Some at) placed armed) joined_handles1 joined_others1

          joined_elsewhere : (j : ℕ) → j ≢ res → armed_list_handles which relisted j ≡ armed_list_handles which q j
          joined_elsewhere =
              family-put_others (armed_links which) (armed_on which) cases_eq q.locks locks1 locks1 (armed_list which q)
              (armed_list which relisted) (list_of which now) at res (λ k. refl) (λ k. refl)
              (λ k h. h) linked1 list_here list_elsewhere
              (armed_family q (Some at) placed armed) joined_handles1 joined_others1

          all_granted : (j : ℕ) → armed_granted which q None j ≡ armed_granted which relisted None j
          all_granted j = sym (granted_same (handles_at q (Queued j Granted)) (handles_at relisted (Queued j Granted)) (relisted_handles (Queued j Granted)))

          order_here : armed_list_handles which relisted res ≡ armed_granted which relisted None res
          order_here =
              let there = armed_there (get q.locks at) res is in
              joined_here ∙ ap (λ ks. ks ++ at ∷ []) (armed.order res) ∙ sym (armed-push (rows q) at (without at (handles_at q (Queued res Granted))) there.1)
              ∙ ap (armed_handles which (rows q)) (sym (last (Queued res Granted) there.0)) ∙ all_granted res

          order_elsewhere : (j : ℕ) → j ≢ res → armed_list_handles which relisted j ≡ armed_granted which relisted None j
          order_elsewhere j differs =
              joined_elsewhere j differs ∙ armed.order j
              ∙ armed-but (rows q) at (handles_at q (Queued j Granted)) (λ found.
              absurd (differs (same_Some j res
              (sym (there_armed (get q.locks at) j (placed.listed (Queued j Granted) at found)
              (armed_there (get q.locks at) res is).1) ∙ is))))
              ∙ all_granted j

          pub relisted_joined : IsArmed which relisted None
          relisted_joined =
              let joined = family-put (armed_links which) (armed_on which) cases_eq q.locks locks1 locks1
              (armed_list which q) (armed_list which relisted) (list_of which now) at res (λ k. refl) (λ k. refl)
              (λ k h. h) linked1 list_here list_elsewhere
              (armed_family q (Some at) placed armed) joined_handles1 joined_others1 (notes_stay at ∙ is) (λ k _. notes_stay k) in
              record {
                linked = joined.linked;
                order = λ j. elim (cases_eq j res) [
                  | inl same ↦ subst (λ x. armed_list_handles which relisted x ≡ armed_granted which relisted None x) (sym same) order_here
                  | inr differs ↦ order_elsewhere j differs
                ];
              }

  -- ---- a lock has another row where it stands, listed as it was
  armed_flags : (rows rows' : ℕ → LockState) (ks : List ℕ)
      → ((k : ℕ) → is_listed which (rows' k) ≡ is_listed which (rows k))
      → armed_handles which rows' ks ≡ armed_handles which rows ks
  armed_flags rows rows' ks same = ap (λ (listed : ℕ → Bool). filter listed ks) (fun_ext same)

  pub armed_rewritten : (q q' : Queues) (at : ℕ) (now : LockState) → Rewrites at now q q'
      → armed_rank (rows q at) ≡ armed_rank now → IsArmed which q None → IsArmed which q' None
  armed_rewritten q q' at now rewrites same armed =
      armed_stays q q' None None armed (armed_lists q.resources q'.resources rewrites.kept.rest)
      (λ res k _. by_part but_requeued (next_in (armed_links which)) (next-requeued which) (get q'.locks k) (get q.locks k) (rewrites.kept.kin k))
      (λ res k _. by_part but_requeued (prev_in (armed_links which)) (prev-requeued which) (get q'.locks k) (get q.locks k) (rewrites.kept.kin k))
      (λ res k _ there. there_by_part but_requeued (get q'.locks k) (get q.locks k) (rewrites.kept.kin k) there)
      (λ res. ap (armed_handles which (rows q')) (rewrites.handles (Queued res Granted))
      ∙ armed_flags (rows q) (rows q') (handles_at q (Queued res Granted)) flags)
    where
      flags : (k : ℕ) → is_listed which (rows q' k) ≡ is_listed which (rows q k)
      flags k = elim (cases_eq k at) [
        | inl here ↦ ap (λ x. is_listed which (rows q' x)) here ∙ ap (is_listed which) rewrites.row
            ∙ sym (ap (nat_lt (floor which)) same) ∙ sym (ap (λ x. is_listed which (rows q x)) here)
        | inr differs ↦ ap (is_listed which) (rewrites.rows k differs)
      ]

-- ---- rows that are not armed

-- none of them is listed
pub unarmed_unlisted : (which : Armed) (row : LockState) → row.armed ≡ false → is_listed which row ≡ false
unarmed_unlisted AboveNl row unarmed = rw unarmed refl
unarmed_unlisted AboveCr row unarmed = rw unarmed refl

-- so the lock belongs in no list
pub unarmed_none : (which : Armed) (slot : Option Lock) → (row_in slot).armed ≡ false → armed_on which slot ≡ None
unarmed_none which None unarmed = refl
unarmed_none which (Some l) unarmed = rw (unarmed_unlisted which l.row unarmed) (neither l.loose)
  where
    neither : (loose : Bool) → cond {A = Option ℕ} loose None None ≡ None
    neither true = refl
    neither false = refl

-- a loose lock is in no list of armed locks
pub loose_unarmed : (which : Armed) (q : Queues) (at : ℕ) → IsPlaced q None → IsArmed which q None
    → is_loose_in (get q.locks at) ≡ true → (res : ℕ) → ¬ IsIn at (armed_list_handles which q res)
loose_unarmed which q at placed armed loose res found =
    loose_unlisted q at placed loose (Queued res Granted)
    (armed-in which (rows q) at (handles_at q (Queued res Granted)) (subst (IsIn at) (armed.order res) found)).0

-- ---- what stays twice stays
pub keeps_twice : (a b c : Queues) → KeepsPlaces a b → KeepsPlaces b c → KeepsPlaces a c
keeps_twice a b c first second = record {
  placed = second.placed;
  tallied = second.tallied;
  handles = λ p. second.handles p ∙ first.handles p;
  rows = λ k. second.rows k ∙ first.rows k;
  records = record {
    kin = λ k. second.records.kin k ∙ first.records.kin k;
    rest = λ k. second.records.rest k ∙ first.records.rest k;
    locks_room = second.records.locks_room ∙ first.records.locks_room;
    resources_room = second.records.resources_room ∙ first.records.resources_room;
  };
}
