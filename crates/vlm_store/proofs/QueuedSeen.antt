-- A walk along the locks whose requests are queued: what is left of it, and which locks these are.
use Rattle.std.proofs.Common.{◌≡◌, ◌≢◌, ℕ, true, List, [], ◌∷◌, Option, None, Some, refl, sym, ap, ◌∙◌, inl, inr, eq-eqb, ne_eqb, Bool, false, cond}
use Rattle.std.proofs.lemmas.Bool.{cases_eq}
use Rattle.std.proofs.lemmas.Option.{none-some, same_Some}
use Rattle.slab.specs.Slab.{get}
use Rattle.vlm_collections.specs.Lists.{IsApart, IsIn, first_handle, handle_after}
use Rattle.vlm_collections.proofs.Walks.{handle_after-in}
use Rattle.vlm_words.specs.declared.resources.Queue.TheVariants.{Granted, Conversion, Waiting}
use Rattle.vlm_records.specs.declared.handles.Place.{Place}
use Rattle.vlm_records.specs.declared.handles.Place.TheVariants.{Queued}
use Rattle.vlm_records.specs.declared.locks.Lock.{Lock}
use Rattle.vlm_records.specs.WaitList.{is_queued, wait_list_handles, wait_list_in, queued_wait_list}
use Rattle.vlm_records.proofs.WaitLists.{queued_noted}
use Rattle.vlm_records.proofs.PlacesOnLists.{stands_there}
use Rattle.vlm_records.specs.Shown.{IsThere, handles_at, noted_in, rows}
use Rattle.vlm_store.specs.declared.store.Store.TheInside.{Inside}
use Rattle.vlm_store.specs.Kept.{IsKept, beside_shown, records_shown}
use Rattle.vlm_store.specs.Queued.{IsQueued, handles_on}
use Rattle.vlm_store.specs.Store.{tables}
use Rattle.vlm_store.proofs.Layouts.{IsSeen, among-under_handle, locks_at-among, locks_at-seen}
use Rattle.vlm_store.proofs.WaitListed.{wait_list_at, wait_list_noted}

-- ---- what is left

-- from the first on all are left
pub on_first : (handles : List ℕ) → handles_on (first_handle handles) handles ≡ handles
on_first [] = refl
on_first (first ∷ rest) = rw (eq-eqb first first refl) refl

-- one that is not the next is not among what is left
on_past : (first : ℕ) (rest : List ℕ) (next : Option ℕ) → next ≢ Some first → handles_on next (first ∷ rest) ≡ handles_on next rest
on_past first rest None differs = refl
on_past first rest (Some at) differs = rw (ne_eqb first at (λ same. differs (ap Some (sym same)))) refl

-- behind the next the one that follows it is left
pub on_next : (at : ℕ) (handles : List ℕ) → IsApart handles → IsIn at handles → handles_on (Some at) handles ≡ at ∷ handles_on (handle_after at handles) handles
on_next at [] apart found = absurd found
on_next at (first ∷ rest) apart found =
    elim (cases_eq first at) [
      | inl same ↦
          rw (eq-eqb first at same)
          (ap (λ k. k ∷ rest) same
          ∙ ap (λ ks. at ∷ ks) (sym (on_past first rest (first_handle rest) (not_first rest apart.0) ∙ on_first rest)))
      | inr differs ↦
          rw (ne_eqb first at differs)
          (on_next at rest apart.1 (later differs found)
          ∙ ap (λ ks. at ∷ ks) (sym (on_past first rest (handle_after at rest) (λ is. apart.0 (handle_after-in at rest first (sym is))))))
    ]
  where
    not_first : (ks : List ℕ) → ¬ IsIn first ks → first_handle ks ≢ Some first
    not_first [] absent is = none-some first is
    not_first (k ∷ ks) absent is = absent (inl (same_Some k first is))

    later : first ≢ at → IsIn at (first ∷ rest) → IsIn at rest
    later differs among = elim among [ inl here ↦ absurd (differs here) | inr there ↦ there ]

-- ---- which locks they are

pub listed_at : (slot : Option Lock) → wait_list_in slot ≡ Some tt → (place : Place) × ((noted_in slot ≡ Some place) × (is_queued place ≡ true))
listed_at None is = absurd (none-some tt is)
listed_at (Some l) is = by_flag l.loose is
  where
    of_place : (place : Place) → queued_wait_list place ≡ Some tt → is_queued place ≡ true
    of_place (Queued res Granted) is = absurd (none-some tt is)
    of_place (Queued res Conversion) is = refl
    of_place (Queued res Waiting) is = refl

    by_flag : (b : Bool) → cond b None (queued_wait_list l.place) ≡ Some tt → (place : Place)
        × ((cond b None (Some l.place) ≡ Some place) × (is_queued place ≡ true))
    by_flag true is = absurd (none-some tt is)
    by_flag false is = (l.place, (refl, of_place l.place is))

module _ (s : Inside) (kept : IsKept s) where
  seen : (place : Place) → IsThere s.queues.resources place → IsSeen (tables s.queues s.order (beside_shown s)) place
  seen (Queued res queue) there = kept.ordered res there

  -- one of the list is queued, as a caller sees it
  pub listed_queued : (at : ℕ) → IsIn at (wait_list_handles s.queues.locks s.wait_list) → IsQueued at (records_shown s)
  listed_queued at found =
      let l = tables s.queues s.order (beside_shown s) in
      let place = listed_at (get s.queues.locks at) (kept.wait_list.listed tt at found) in
      let stands = kept.placed.stands place.0 at (λ e. none-some at (sym e)) place.1.0 in (
        place.0,
        rows s.queues at,
        (
          place.1.1,
          rw (locks_at-seen l place.0 (seen place.0 (stands_there s.queues place.0 at stands)))
              (among-under_handle (rows s.queues) (handles_at s.queues place.0) at stands),
        ),
      )

  -- and the other way
  pub queued_listed : (at : ℕ) → IsQueued at (records_shown s) → IsIn at (wait_list_handles s.queues.locks s.wait_list)
  queued_listed at queued =
      let place = queued.0 in
      let stands = (locks_at-among (tables s.queues s.order (beside_shown s)) place (record { at = at; row = queued.1 }) queued.2.1).0 in
      kept.wait_list.stands tt at (λ e. none-some at (sym e)) (wait_list_noted (get s.queues.locks at)
      ∙ ap wait_list_at (kept.placed.listed place at stands) ∙ queued_noted place queued.2.0)
