-- The locks whose requests are queued: what becomes of their list as locks leave it and join it.
use Rattle.std.proofs.Common.{◌≡◌, ◌≢◌, ◌⊎◌, ℕ, Bool, true, false, cond, Option, None, Some, [], ◌∷◌, ◌++◌, refl, sym, ap, ◌∙◌, inl}
use Rattle.std.proofs.lemmas.Option.{none-some, same_Some}
use Rattle.std.specs.Option.{option_map}
use Rattle.slab.specs.Slab.{Slab, get}
use Rattle.vlm_collections.specs.declared.lists.LinkedList.{LinkedList}
use Rattle.vlm_collections.specs.Lists.{IsIn, IsLinked, Relinks, without}
use Rattle.vlm_collections.proofs.Keeping.{relinked_same}
use Rattle.vlm_words.specs.declared.resources.Queue.TheVariants.{Granted, Conversion, Waiting}
use Rattle.vlm_records.specs.declared.handles.Place.{Place}
use Rattle.vlm_records.specs.declared.handles.Place.TheVariants.{Queued}
use Rattle.vlm_records.specs.declared.locks.InWaitList.{InWaitList}
use Rattle.vlm_records.specs.declared.locks.Lock.{Lock}
use Rattle.vlm_records.specs.WaitList.{IsWaitList, is_queued, wait_list_handles, wait_list_in, wait_list_links, queued_wait_list, with_wait_list_links}
use Rattle.vlm_records.specs.Shown.{SameBut, but_in_wait_list, noted_in}
use Rattle.vlm_records.proofs.Families.{family-put, family-taken, family-unnoted}

-- there is one list
one_wait_list : (i j : Unit {0}) → (i ≡ j) ⊎ (i ≢ j)
one_wait_list i j = inl refl

-- a lock whose request is queued notes it
pub queued_noted : (place : Place) → is_queued place ≡ true → queued_wait_list place ≡ Some tt
queued_noted (Queued res Granted) is = cc
queued_noted (Queued res Conversion) is = refl
queued_noted (Queued res Waiting) is = refl

pub unqueued_noted : (place : Place) → is_queued place ≡ false → queued_wait_list place ≡ None
unqueued_noted (Queued res Granted) is = refl
unqueued_noted (Queued res Conversion) is = cc
unqueued_noted (Queued res Waiting) is = cc

-- the same, of a lock that notes the place
noted_wait_list : (slot : Option Lock) (place : Place) → noted_in slot ≡ Some place → wait_list_in slot ≡ queued_wait_list place
noted_wait_list None place notes = absurd (none-some place notes)
noted_wait_list (Some l) place notes = by_flag l.loose notes
  where
    by_flag : (loose : Bool) → cond loose None (Some l.place) ≡ Some place → cond loose None (queued_wait_list l.place) ≡ queued_wait_list place
    by_flag true is = absurd (none-some place is)
    by_flag false is = ap queued_wait_list (same_Some l.place place is)

pub queued_here : (slot : Option Lock) (place : Place) → noted_in slot ≡ Some place → is_queued place ≡ true → wait_list_in slot ≡ Some tt
queued_here slot place notes is = noted_wait_list slot place notes ∙ queued_noted place is

pub unqueued_here : (slot : Option Lock) (place : Place) → noted_in slot ≡ Some place → is_queued place ≡ false → wait_list_in slot ≡ None
unqueued_here slot place notes is = noted_wait_list slot place notes ∙ unqueued_noted place is

-- one that is not is none of them
pub unqueued_left : (locks : Slab Lock) (wait_list : LinkedList InWaitList) (at : ℕ) → IsWaitList locks wait_list None
    → wait_list_in (get locks at) ≡ None → IsWaitList locks wait_list (Some at)
unqueued_left locks wait_list at is none = family-unnoted wait_list_links wait_list_in locks (λ i. wait_list) at is (λ i noted. none-some i (sym none ∙ noted))

pub unqueued_joined : (locks : Slab Lock) (wait_list : LinkedList InWaitList) (at : ℕ)
    → IsWaitList locks wait_list (Some at) → wait_list_in (get locks at) ≡ None → IsWaitList locks wait_list None
unqueued_joined locks wait_list at is none = record {
  linked = is.linked;
  listed = is.listed;
  stands = λ i k _ noted. is.stands i k (λ e. none-some i (sym none ∙ ap (λ x. wait_list_in (get locks x)) (sym (same_Some k at e)) ∙ noted)) noted;
  gone = λ i k e found. none-some k (sym e);
}

module _ (locks locks1 : Slab Lock) (wait_list wait_list1 : LinkedList InWaitList) (at : ℕ)
    (relinks : Relinks with_wait_list_links locks locks1) (linked1 : IsLinked wait_list_links locks1 wait_list1)
    (is : wait_list_in (get locks at) ≡ Some tt) where
  notes : (k : ℕ) → wait_list_in (get locks1 k) ≡ wait_list_in (get locks k)
  notes = relinked_same with_wait_list_links wait_list_in (λ l pair. refl) locks locks1 relinks

  pub wait_list_rest : SameBut but_in_wait_list locks locks1
  wait_list_rest = relinked_same with_wait_list_links (option_map but_in_wait_list) (λ l pair. refl) locks locks1 relinks

  pub wait_list_left : IsWaitList locks wait_list None → wait_list_handles locks1 wait_list1 ≡ without at (wait_list_handles locks wait_list)
      → ((other : ℕ) → ¬ IsIn other (wait_list_handles locks wait_list) → get locks1 other ≡ get locks other) → IsWaitList locks1 wait_list1 (Some at)
  wait_list_left family handles1 others1 =
      family-taken wait_list_links wait_list_in one_wait_list locks locks1 locks1 (λ i. wait_list)
      (λ i. wait_list1) wait_list1 at tt (λ k. refl) (λ k. refl) (λ k h. h) linked1 refl
      (λ j differs. absurd (differs refl))
      family is handles1 others1 notes

  pub wait_list_joined : IsWaitList locks wait_list (Some at) → wait_list_handles locks1 wait_list1 ≡ wait_list_handles locks wait_list ++ at ∷ []
      → ((other : ℕ) → ¬ IsIn other (wait_list_handles locks wait_list) → other ≢ at → get locks1 other ≡ get locks other) → IsWaitList locks1 wait_list1 None
  wait_list_joined family handles1 others1 =
      family-put wait_list_links wait_list_in one_wait_list locks locks1 locks1 (λ i. wait_list)
      (λ i. wait_list1) wait_list1 at tt (λ k. refl) (λ k. refl) (λ k h. h) linked1 refl
      (λ j differs. absurd (differs refl))
      family handles1 others1 (notes at ∙ is) (λ k _. notes k)
