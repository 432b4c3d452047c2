-- The list of the locks whose requests are queued: what stays of it as locks come, go and move.
use Rattle.std.proofs.Common.{◌≡◌, ◌≢◌, ℕ, [], ◌∷◌, ◌++◌, Option, None, Some, refl, sym, ap, ◌∙◌, subst, inl, inr, Bool, true, false, cond}
use Rattle.std.proofs.lemmas.Option.{none-some, same_Some}
use Rattle.std.specs.Option.{option_map}
use Rattle.slab.specs.Slab.{Slab, get}
use Rattle.vlm_collections.specs.declared.lists.LinkedList.{LinkedList}
use Rattle.vlm_collections.specs.Lists.{IsIn, IsNoList, Relinks, next_in, prev_in, without}
use Rattle.vlm_collections.proofs.HandleLists.{IsIn-push_kept, IsIn-without_kept}
use Rattle.vlm_collections.proofs.Keeping.{relinked_same, vacant_unlisted}
use Rattle.vlm_collections.proofs.Rings.{kept-handles, kept-linked}
use Rattle.vlm_records.specs.declared.handles.Place.{Place}
use Rattle.vlm_records.specs.declared.locks.InWaitList.{InWaitList}
use Rattle.vlm_records.specs.declared.locks.Lock.{Lock}
use Rattle.vlm_records.specs.declared.queues.Queues.{Queues}
use Rattle.vlm_records.specs.Kin.{but_below, with_own_links}
use Rattle.vlm_records.specs.WaitList.{IsWaitList, wait_list_handles, wait_list_in, wait_list_links, queued_wait_list}
use Rattle.vlm_records.specs.Shown.{IsPlaced, SameBut, but_in_wait_list, but_kin, but_queued, handles_at, noted, noted_in, is_loose_in}
use Rattle.vlm_records.proofs.Families.{family-empty, family-grown, family-kept, family-shrunk}
use Rattle.vlm_records.proofs.PlacesOnLists.{by_part, place_cases, there_by_part, through, loose_unnoted}
use Rattle.vlm_records.specs.Kept.{LooseStay}
use Rattle.vlm_records.proofs.WaitLists.{unqueued_left}

-- ---- what the records tell of the list

-- the neighbours of a record
next_by : (a b : Option Lock) → option_map wait_list_links a ≡ option_map wait_list_links b → next_in wait_list_links a ≡ next_in wait_list_links b
next_by None None same = refl
next_by None (Some l) same = cc
next_by (Some l) None same = cc
next_by (Some l) (Some l') same = ap (λ x. x.next) (same_Some l.in_wait_list l'.in_wait_list same)

prev_by : (a b : Option Lock) → option_map wait_list_links a ≡ option_map wait_list_links b → prev_in wait_list_links a ≡ prev_in wait_list_links b
prev_by None None same = refl
prev_by None (Some l) same = cc
prev_by (Some l) None same = cc
prev_by (Some l) (Some l') same = ap (λ x. x.prev) (same_Some l.in_wait_list l'.in_wait_list same)

-- whether it stands in it, by the place that it notes
abbrev pub wait_list_at : Option Place → Option (Unit {0})
wait_list_at None = None
wait_list_at (Some p) = queued_wait_list p

pub wait_list_noted : (slot : Option Lock) → wait_list_in slot ≡ wait_list_at (noted_in slot)
wait_list_noted None = refl
wait_list_noted (Some l) =
    elim l.loose as (λ b. cond b None (queued_wait_list l.place) ≡ wait_list_at
    (cond b None (Some l.place))) [ true ↦ refl | false ↦ refl ]

pub wait_list_by_place : (a b : Option Lock) → noted_in a ≡ noted_in b → wait_list_in a ≡ wait_list_in b
wait_list_by_place a b same = wait_list_noted a ∙ ap wait_list_at same ∙ sym (wait_list_noted b)

-- a lock that stands where it stood notes what it noted
module _ (q q' : Queues) (placed : IsPlaced q None) (placed' : IsPlaced q' None) (k : ℕ)
    (links : option_map wait_list_links (get q'.locks k) ≡ option_map wait_list_links (get q.locks k))
    (flags : is_loose_in (get q'.locks k) ≡ is_loose_in (get q.locks k)) (stays : (p : Place) → IsIn k (handles_at q p) → IsIn k (handles_at q' p)) where
  none_by : (a b : Option Lock) → option_map wait_list_links a ≡ option_map wait_list_links b → b ≡ None → noted_in a ≡ None
  none_by None b same is = refl
  none_by (Some l) b same is = absurd (none-some l.in_wait_list (sym (ap (option_map wait_list_links) is) ∙ sym same))

  by_slot : (slot : Option Lock) → get q.locks k ≡ slot → noted q' k ≡ noted_in slot
  by_slot None is = none_by (get q'.locks k) (get q.locks k) links is
  by_slot (Some l) is = by_flag l.loose refl
    where
      by_flag : (b : Bool) → l.loose ≡ b → noted q' k ≡ cond b None (Some l.place)
      by_flag true loose = loose_unnoted (get q'.locks k) (flags ∙ ap is_loose_in is ∙ loose)
      by_flag false queued =
          placed'.listed l.place k
          (stays l.place (placed.stands l.place k (λ e. none-some k (sym e)) (ap noted_in is
          ∙ ap (λ b. cond b None (Some l.place)) queued)))

  pub noted_still : wait_list_in (get q'.locks k) ≡ wait_list_in (get q.locks k)
  noted_still = wait_list_by_place (get q'.locks k) (get q.locks k) (by_slot (get q.locks k) refl)

-- ---- the list stays

-- where each record keeps its neighbours and notes what it noted
pub wait_list_stays : (locks locks' : Slab Lock) (wait_list : LinkedList InWaitList) (out : Option ℕ)
    → SameBut wait_list_links locks locks' → ((k : ℕ) → wait_list_in (get locks' k) ≡ wait_list_in (get locks k))
    → IsWaitList locks wait_list out
    → IsWaitList locks' wait_list out
wait_list_stays locks locks' wait_list out links notes is =
    family-kept wait_list_links wait_list_in locks (λ i. wait_list) out is locks' (λ i. wait_list) (λ i. refl)
    (λ i k _. next_by (get locks' k) (get locks k) (links k))
    (λ i k _. prev_by (get locks' k) (get locks k) (links k))
    (λ i k _. there_by_part wait_list_links (get locks' k) (get locks k) (links k)) notes

-- and where just the one that is taken out may note something else
pub wait_list_stays_but : (locks locks' : Slab Lock) (wait_list : LinkedList InWaitList) (at : ℕ)
    → SameBut wait_list_links locks locks'
    → ((k : ℕ) → k ≢ at → wait_list_in (get locks' k) ≡ wait_list_in (get locks k))
    → IsWaitList locks wait_list (Some at)
    → IsWaitList locks' wait_list (Some at)
wait_list_stays_but locks locks' wait_list at links notes is =
    record {
      linked = λ i.
          kept-linked wait_list_links locks locks' wait_list (is.linked i)
          (λ k _. next_by (get locks' k) (get locks k) (links k))
          (λ k _. prev_by (get locks' k) (get locks k) (links k))
          (λ k _. there_by_part wait_list_links (get locks' k) (get locks k) (links k));
      listed = λ i k found.
          let was = subst (IsIn k) handles found in
          notes k (λ e. is.gone i k (ap Some e) was) ∙ is.listed i k was;
      stands = λ i k differs noted_so. subst (IsIn k) (sym handles) (is.stands i k differs (sym (notes k (λ e. differs (ap Some e))) ∙ noted_so));
      gone = λ i k e found. is.gone i k e (subst (IsIn k) handles found);
    }
  where
    handles : wait_list_handles locks' wait_list ≡ wait_list_handles locks wait_list
    handles =
        kept-handles wait_list_links locks locks' wait_list (is.linked tt)
        (λ k _. next_by (get locks' k) (get locks k) (links k))
        (λ k _. prev_by (get locks' k) (get locks k) (links k))
        (λ k _. there_by_part wait_list_links (get locks' k) (get locks k) (links k))

-- ---- locks join and leave their processes and their parents

links-below : (slot : Option Lock) → option_map wait_list_links (option_map but_below slot) ≡ option_map wait_list_links slot
links-below None = refl
links-below (Some l) = refl

notes-below : (slot : Option Lock) → wait_list_in (option_map but_below slot) ≡ wait_list_in slot
notes-below None = refl
notes-below (Some l) = refl

pub wait_list_below : (locks locks' : Slab Lock) (wait_list : LinkedList InWaitList) → SameBut but_below locks locks'
    → IsWaitList locks wait_list None → IsWaitList locks' wait_list None
wait_list_below locks locks' wait_list same =
    wait_list_stays locks locks' wait_list None
    (through but_below (option_map wait_list_links) links-below locks locks' same)
    (through but_below wait_list_in notes-below locks locks' same)

pub wait_list_own : (locks locks' : Slab Lock) (wait_list : LinkedList InWaitList) → Relinks with_own_links locks locks'
    → IsWaitList locks wait_list None → IsWaitList locks' wait_list None
wait_list_own locks locks' wait_list relinks =
    wait_list_stays locks locks' wait_list None
    (relinked_same with_own_links (option_map wait_list_links) (λ l pair. refl) locks locks' relinks)
    (relinked_same with_own_links wait_list_in (λ l pair. refl) locks locks' relinks)

-- room is made, or nothing is done to locks
pub wait_list_same : (locks locks' : Slab Lock) (wait_list : LinkedList InWaitList)
    → ((k : ℕ) → get locks' k ≡ get locks k) → IsWaitList locks wait_list None → IsWaitList locks' wait_list None
wait_list_same locks locks' wait_list same =
    wait_list_stays locks locks' wait_list None (λ k. ap (option_map wait_list_links) (same k))
    (λ k. ap wait_list_in (same k))

-- nothing is there
pub empty_wait_list : (locks : Slab Lock) (wait_list : LinkedList InWaitList) → IsNoList wait_list
    → ((k : ℕ) → get locks k ≡ None) → IsWaitList locks wait_list None
empty_wait_list locks wait_list empty none = family-empty wait_list_links wait_list_in locks (λ i. wait_list) (λ i. empty) none (λ i is. none-some i is)

-- ---- a lock leaves the list or joins it: the other lists see nothing of it

pub wait_list_kin : (locks locks' : Slab Lock) → SameBut but_in_wait_list locks locks' → SameBut but_kin locks locks'
wait_list_kin locks locks' same k = by_part but_in_wait_list (option_map but_kin) again (get locks' k) (get locks k) (same k)
  where
    again : (slot : Option Lock) → option_map but_kin (option_map but_in_wait_list slot) ≡ option_map but_kin slot
    again None = refl
    again (Some l) = refl

pub wait_list_queued : (locks locks' : Slab Lock) → SameBut but_in_wait_list locks locks' → SameBut but_queued locks locks'
wait_list_queued locks locks' same k = by_part but_in_wait_list (option_map but_queued) again (get locks' k) (get locks k) (same k)
  where
    again : (slot : Option Lock) → option_map but_queued (option_map but_in_wait_list slot) ≡ option_map but_queued slot
    again None = refl
    again (Some l) = refl

-- ---- a lock is armed no more

pub wait_list_disarmed : (q q' : Queues) (wait_list : LinkedList InWaitList) → IsPlaced q None → IsPlaced q' None
    → SameBut wait_list_links q.locks q'.locks → LooseStay q q' → ((p : Place) → handles_at q' p ≡ handles_at q p)
    → IsWaitList q.locks wait_list None
    → IsWaitList q'.locks wait_list None
wait_list_disarmed q q' wait_list placed placed' links loose handles =
    wait_list_stays q.locks q'.locks wait_list None links (λ k. noted_still q q' placed placed' k (links k) (loose k) (λ p. subst (IsIn k) (sym (handles p))))

-- ---- a lock moves that is taken out

pub wait_list_moved : (q q' : Queues) (wait_list : LinkedList InWaitList) (at : ℕ) (to : Place) → IsPlaced q None
    → IsPlaced q' None → SameBut wait_list_links q.locks q'.locks → LooseStay q q'
    → handles_at q' to ≡ without at (handles_at q to) ++ at ∷ []
    → ((p : Place) → p ≢ to → handles_at q' p ≡ without at (handles_at q p))
    → IsWaitList q.locks wait_list (Some at) → IsWaitList q'.locks wait_list (Some at)
wait_list_moved q q' wait_list at to placed placed' links loose here elsewhere =
    wait_list_stays_but q.locks q'.locks wait_list at links (λ k differs. noted_still q q' placed placed' k (links k) (loose k) (stays k differs))
  where
    stays : (k : ℕ) → k ≢ at → (p : Place) → IsIn k (handles_at q p) → IsIn k (handles_at q' p)
    stays k differs p found =
        elim (place_cases p to) [
          | inl is ↦
              subst (λ x. IsIn k (handles_at q' x)) (sym is)
              (subst (IsIn k) (sym here)
              (IsIn-push_kept at k (without at (handles_at q to))
              (IsIn-without_kept at k (handles_at q to) (subst (λ x. IsIn k (handles_at q x)) is found) differs)))
          | inr other ↦ subst (IsIn k) (sym (elsewhere p other)) (IsIn-without_kept at k (handles_at q p) found differs)
        ]

-- ---- a lock goes that is taken out, or is loose

pub wait_list_removed : (q q' : Queues) (wait_list : LinkedList InWaitList) (at : ℕ) → IsPlaced q None
    → IsPlaced q' None → wait_list_in (get q'.locks at) ≡ None
    → ((k : ℕ) → k ≢ at → option_map wait_list_links (get q'.locks k) ≡ option_map wait_list_links (get q.locks k))
    → ((k : ℕ) → k ≢ at → is_loose_in (get q'.locks k) ≡ is_loose_in (get q.locks k))
    → ((p : Place) → handles_at q' p ≡ without at (handles_at q p)) → IsWaitList q.locks wait_list (Some at)
    → IsWaitList q'.locks wait_list None
wait_list_removed q q' wait_list at placed placed' gone links loose handles is =
    family-shrunk wait_list_links wait_list_in q.locks (λ i. wait_list) (Some at) is q'.locks (λ i. wait_list)
    (λ i. refl) at (λ i. is.gone i at refl)
    (λ k differs. next_by (get q'.locks k) (get q.locks k) (links k differs))
    (λ k differs. prev_by (get q'.locks k) (get q.locks k) (links k differs))
    (λ k differs. there_by_part wait_list_links (get q'.locks k) (get q.locks k) (links k differs))
    (λ k differs. noted_still q q' placed placed' k (links k differs) (loose k differs)
    (λ p found. subst (IsIn k) (sym (handles p)) (IsIn-without_kept at k (handles_at q p) found differs)))
    (λ i noted_so. none-some i (sym gone ∙ noted_so)) refl

-- ---- a lock comes

-- who stands in a place still stands there after a lock joined one of the places
stays_placed : (q q' : Queues) (at : ℕ) (to : Place) → handles_at q' to ≡ handles_at q to ++ at ∷ []
    → ((p : Place) → p ≢ to → handles_at q' p ≡ handles_at q p) → (k : ℕ) (p : Place) → IsIn k (handles_at q p) → IsIn k (handles_at q' p)
stays_placed q q' at to here elsewhere k p found =
    elim (place_cases p to) [
      | inl is ↦ subst (λ x. IsIn k (handles_at q' x)) (sym is)
          (subst (IsIn k) (sym here)
          (IsIn-push_kept at k (handles_at q to) (subst (λ x. IsIn k (handles_at q x)) is found)))
      | inr other ↦ subst (IsIn k) (sym (elsewhere p other)) found
    ]

pub wait_list_added : (q q' : Queues) (wait_list : LinkedList InWaitList) (at : ℕ) (to : Place) → IsPlaced q None → IsPlaced q' None → get q.locks at ≡ None
    → ((k : ℕ) → k ≢ at → option_map wait_list_links (get q'.locks k) ≡ option_map wait_list_links (get q.locks k))
    → LooseStay q q' → handles_at q' to ≡ handles_at q to ++ at ∷ []
    → ((p : Place) → p ≢ to → handles_at q' p ≡ handles_at q p) → IsWaitList q.locks wait_list None → IsWaitList q'.locks wait_list (Some at)
wait_list_added q q' wait_list at to placed placed' fresh links loose here elsewhere is =
    family-grown wait_list_links wait_list_in q.locks (λ i. wait_list) None is q'.locks (λ i. wait_list) (λ i. refl) at
    (λ i. vacant_unlisted wait_list_links q.locks wait_list (is.linked i) at fresh)
    (λ k differs. next_by (get q'.locks k) (get q.locks k) (links k differs)) (λ k differs. prev_by (get q'.locks k) (get q.locks k) (links k differs))
    (λ k differs. there_by_part wait_list_links (get q'.locks k) (get q.locks k) (links k differs))
    (λ k differs. noted_still q q' placed placed' k (links k differs) (loose k) (stays_placed q q' at to here elsewhere k)) refl

-- ---- a loose lock joins a queue

pub wait_list_pushed : (q q' : Queues) (wait_list : LinkedList InWaitList) (at : ℕ) (to : Place) → IsPlaced q None
    → IsPlaced q' None → is_loose_in (get q.locks at) ≡ true → SameBut wait_list_links q.locks q'.locks
    → ((k : ℕ) → k ≢ at → is_loose_in (get q'.locks k) ≡ is_loose_in (get q.locks k)) → handles_at q' to ≡ handles_at q to ++ at ∷ []
    → ((p : Place) → p ≢ to → handles_at q' p ≡ handles_at q p) → IsWaitList q.locks wait_list None → IsWaitList q'.locks wait_list (Some at)
wait_list_pushed q q' wait_list at to placed placed' flag links loose here elsewhere is =
    wait_list_stays_but q.locks q'.locks wait_list at links
    (λ k differs. noted_still q q' placed placed' k (links k) (loose k differs) (stays_placed q q' at to here elsewhere k))
    (unqueued_left q.locks wait_list at is (wait_list_noted (get q.locks at) ∙ ap wait_list_at (loose_unnoted (get q.locks at) flag)))
