-- Walks over all locks of a resource, up to the first that passes.
use Rattle.std.proofs.Common.{◌≡◌, ◌≢◌, ◌<◌, ℕ, List, [], ◌∷◌, ◌++◌, length, Option, None, Some, refl, sym, ap, ◌∙◌}
use Rattle.std.proofs.Common.{subst, inl, inr, eq-eqb, ne_eqb, append_assoc}
use Rattle.std.specs.Option.{ForSome, option_map_or}
use Rattle.std.proofs.lemmas.Bool.{cases_eq}
use Rattle.vlm_words.specs.declared.locks.LockState.{LockState}
use Rattle.vlm_words.specs.declared.resources.Queue.{Queue}
use Rattle.vlm_words.specs.declared.resources.Queue.TheVariants.{Granted, Conversion, Waiting}
use Rattle.vlm_words.specs.State.{Resource}
use Rattle.vlm_collections.specs.Lists.{IsIn}
use Rattle.vlm_collections.proofs.HandleLists.{in_either}
use Rattle.vlm_records.specs.declared.handles.Place.{Place}
use Rattle.vlm_records.specs.declared.handles.Place.TheVariants.{Queued}
use Rattle.vlm_store.specs.Plain.{plain_resource}
use Rattle.vlm_store.specs.Records.{AreApart, IsSound, IsStored, Records, StoredLock, StoredResource, Stores, at_after, first_at, locks_at, queued, resource_at}
use Rattle.vlm_store.proofs.Records.{queue_at}
use Rattle.vlm_store.proofs.Walks.{HasLock, after-among, at_lock, first-there, locks_from, locks_from-first, locks_left-fewer}
use Rattle.vlm_locks.proofs.QueuedLocks.{queued_stored, resource_among}
use Rattle.vlm_cycle.specs.Blocking.{IsFirstFrom, IsFirstOf, IsNextOn, IsOn, PassesOn, all_locks, all_locks_at, first_from}
use Rattle.vlm_cycle.proofs.Blocking.{Where, passes_row, place_is, row_passes, where_on}

-- ---- all locks of a resource

-- no two locks of both lists have one handle
apart_joined : (xs ys : List StoredLock) → AreApart xs → AreApart ys
    → ((k : StoredLock) (row : LockState) → IsIn k xs → IsIn (record { at = k.at; row = row }) ys → ⊥) → AreApart (xs ++ ys)
apart_joined [] ys first second cross = second
apart_joined (x ∷ xs) ys first second cross = (
  λ row there. elim (in_either (record { at = x.at; row = row }) xs ys there) [
    | inl left ↦ first.0 row left
    | inr right ↦ cross x row (inl refl) right
  ],
  apart_joined xs ys first.1 second (λ k row in_k in_row. cross k row (inr in_k) in_row),
)

module _ (s : Records) (sound : IsSound s) (own : StoredResource) (there : IsIn own s.resources) where
  in_one : (queue : Queue) → AreApart (queued queue own)
  in_one queue = subst AreApart (queue_at s sound own there queue) (sound.locks_apart (Queued own.at queue))

  -- a handle is in one queue
  one_place : (p q : Queue) (k : StoredLock) (row : LockState) → IsIn k (queued p own)
      → IsIn (record { at = k.at; row = row }) (queued q own) → Queued own.at p ≡ Queued own.at q
  one_place p q k row in_k in_row =
      sound.one_place k.at k.row row (Queued own.at p) (Queued own.at q) (subst (IsIn k) (sym (queue_at s sound own there p)) in_k)
      (subst (IsIn (record { at = k.at; row = row })) (sym (queue_at s sound own there q)) in_row)

  -- no two locks have one handle
  pub all_apart : AreApart (all_locks own)
  all_apart =
      apart_joined own.granted (own.converting ++ own.waiting) (in_one Granted)
      (apart_joined own.converting own.waiting (in_one Conversion) (in_one Waiting)
      (λ k row in_k in_row. let one : Queued own.at Conversion ≡ Queued own.at Waiting = one_place Conversion Waiting k row in_k in_row in cc))
      (λ k row in_k in_row. elim (in_either (record { at = k.at; row = row }) own.converting own.waiting in_row) [
        | inl converting ↦ (let one : Queued own.at Granted ≡ Queued own.at Conversion = one_place Granted Conversion k row in_k converting in cc)
        | inr waiting ↦ (let one : Queued own.at Granted ≡ Queued own.at Waiting = one_place Granted Waiting k row in_k waiting in cc)
      ])

  -- each of them is stored
  pub all_stored : (lock : ℕ) (row : LockState) → IsIn (record { at = lock; row = row }) (all_locks own) → Stores s lock row
  all_stored lock row among =
      let k : StoredLock = record { at = lock; row = row } in
      elim (in_either k own.granted (own.converting ++ own.waiting) among) [
        | inl granted ↦ queued_stored s sound own there Granted k granted
        | inr later ↦ elim (in_either k own.converting own.waiting later) [
          | inl converting ↦ queued_stored s sound own there Conversion k converting
          | inr waiting ↦ queued_stored s sound own there Waiting k waiting
        ]
      ]

-- ---- the lock after one

-- the first of two lists, where the first has one
first_of : (xs ys : List StoredLock) (n : ℕ) → first_at xs ≡ Some n → first_at (xs ++ ys) ≡ Some n
first_of [] ys n is = cc
first_of (x ∷ xs) ys n is = is

-- and where it has none
first_of_second : (xs ys : List StoredLock) → first_at xs ≡ None → first_at (xs ++ ys) ≡ first_at ys
first_of_second [] ys is = refl
first_of_second (x ∷ xs) ys is = cc

-- a lock of the first list that has one behind it there
after_within : (at : ℕ) (xs ys : List StoredLock) (n : ℕ) → at_after at xs ≡ Some n → at_after at (xs ++ ys) ≡ Some n
after_within at [] ys n is = cc
after_within at (x ∷ xs) ys n is = elim (cases_eq x.at at) [
  | inl same ↦ rw (eq-eqb x.at at same) (first_of xs ys n (rw (eq-eqb x.at at same) at is))
  | inr differs ↦ rw (ne_eqb x.at at differs) (after_within at xs ys n (rw (ne_eqb x.at at differs) at is))
]

-- the last lock of the first list
after_last : (at : ℕ) (row : LockState) (xs ys : List StoredLock) → IsIn (record { at = at; row = row }) xs
    → at_after at xs ≡ None → at_after at (xs ++ ys) ≡ first_at ys
after_last at row [] ys there is = absurd there
after_last at row (x ∷ xs) ys there is = elim (cases_eq x.at at) [
  | inl same ↦ rw (eq-eqb x.at at same) (first_of_second xs ys (rw (eq-eqb x.at at same) at is))
  | inr differs ↦
      rw (ne_eqb x.at at differs)
      (after_last at row xs ys
      (elim there [ inl here ↦ absurd (differs (ap (λ (k : StoredLock). k.at) here)) | inr later ↦ later ])
      (rw (ne_eqb x.at at differs) at is))
]

-- a lock that is not of the first list
after_second : (at : ℕ) (xs ys : List StoredLock) → ((row : LockState) → ¬ IsIn (record { at = at; row = row }) xs) → at_after at (xs ++ ys) ≡ at_after at ys
after_second at [] ys absent = refl
after_second at (x ∷ xs) ys absent =
    rw (ne_eqb x.at at (λ same. absent x.row (inl (ap (λ (n : ℕ). record { at = n; row = x.row }) same))))
    (after_second at xs ys (λ row there. absent row (inr there)))

-- the first lock of the queues behind this one
abbrev pub first_behind : Queue → StoredResource → Option ℕ
first_behind Granted own = first_at (own.converting ++ own.waiting)
first_behind Conversion own = first_at own.waiting
first_behind Waiting own = None

module _ (s : Records) (sound : IsSound s) (own : StoredResource) (there : IsIn own s.resources) (at : ℕ) (row : LockState) where
  -- the lock is in no queue before its own
  absent_granted : (q : Queue) → q ≢ Granted → IsIn (record { at = at; row = row }) (queued q own) → (other : LockState)
      → ¬ IsIn (record { at = at; row = other }) own.granted
  absent_granted q not among other here =
      let one : Queued own.at Granted ≡ Queued own.at q = one_place s sound own there Granted q (record { at = at; row = other }) row here among in
      let same : Granted ≡ q = cc in
      not (sym same)

  absent_converting : IsIn (record { at = at; row = row }) own.waiting → (other : LockState) → ¬ IsIn (record { at = at; row = other }) own.converting
  absent_converting among other here =
      let one : Queued own.at Conversion ≡ Queued own.at Waiting =
      one_place s sound own there Conversion Waiting (record { at = at; row = other }) row here among in
      cc

  -- the next of its queue is the next of all
  pub after_in_queue : (queue : Queue) (n : ℕ) → IsIn (record { at = at; row = row }) (queued queue own)
      → at_after at (queued queue own) ≡ Some n → at_after at (all_locks own) ≡ Some n
  after_in_queue Granted n among is = after_within at own.granted (own.converting ++ own.waiting) n is
  after_in_queue Conversion n among is =
      after_second at own.granted (own.converting ++ own.waiting) (absent_granted Conversion (λ e. cc) among) ∙ after_within at own.converting own.waiting n is
  after_in_queue Waiting n among is =
      after_second at own.granted (own.converting ++ own.waiting) (absent_granted Waiting (λ e. cc) among)
      ∙ after_second at own.converting own.waiting (absent_converting among) ∙ is

  -- behind the last of its queue come the other queues
  pub after_queue : (queue : Queue) → IsIn (record { at = at; row = row }) (queued queue own)
      → at_after at (queued queue own) ≡ None → at_after at (all_locks own) ≡ first_behind queue own
  after_queue Granted among is = after_last at row own.granted (own.converting ++ own.waiting) among is
  after_queue Conversion among is =
      after_second at own.granted (own.converting ++ own.waiting) (absent_granted Conversion (λ e. cc) among)
      ∙ after_last at row own.converting own.waiting among is
  after_queue Waiting among is =
      after_second at own.granted (own.converting ++ own.waiting) (absent_granted Waiting (λ e. cc) among)
      ∙ after_second at own.converting own.waiting (absent_converting among) ∙ is

-- the same by the handle of the resource
abbrev pub behind_at : Records → ℕ → Queue → Option ℕ
behind_at s res Granted = first_at (locks_at (Queued res Conversion) s ++ locks_at (Queued res Waiting) s)
behind_at s res Conversion = first_at (locks_at (Queued res Waiting) s)
behind_at s res Waiting = None

behind_is : (s : Records) (res : ℕ) (own : StoredResource) → resource_at res s.resources ≡ Some own → (queue : Queue)
    → first_behind queue own ≡ behind_at s res queue
behind_is s res own found Granted = ap (λ o. first_at (option_map_or (queued Conversion) o [] ++ option_map_or (queued Waiting) o [])) (sym found)
behind_is s res own found Conversion = ap (λ o. first_at (option_map_or (queued Waiting) o [])) (sym found)
behind_is s res own found Waiting = refl

module _ (s : Records) (res lock : ℕ) (sound : IsSound s) (on : IsOn lock res s) (place : Place) (row : LockState)
    (here : IsIn (record { at = lock; row = row }) (locks_at place s))
    (next : Option ℕ) (is : next ≡ at_after lock (locks_at place s)) where
  -- where the walk is
  abbrev its : Where s res lock
  its = where_on s res lock on

  placed : place ≡ Queued res its.queue
  placed = place_is s res lock sound its place row here

  -- the next of its queue
  next_is : next ≡ at_after lock (queued its.queue its.own)
  next_is = is ∙ ap (λ p. at_after lock (locks_at p s)) placed ∙ ap (at_after lock) (ap (λ o. option_map_or (queued its.queue) o []) its.found)

  all_is : all_locks_at res s ≡ all_locks its.own
  all_is = ap (λ o. option_map_or all_locks o []) its.found

  -- the next of its queue is the next of all
  pub following_some : (n : ℕ) → next ≡ Some n → Some n ≡ at_after lock (all_locks_at res s)
  following_some n some =
      sym (ap (at_after lock) all_is ∙ after_in_queue s sound its.own its.there lock its.row its.queue n its.among (sym next_is ∙ some))

  -- behind the last of its queue come the other queues
  pub following_none : (r : ℕ) (queue : Queue) → place ≡ Queued r queue → next ≡ None → behind_at s r queue ≡ at_after lock (all_locks_at res s)
  following_none r queue at_place none =
      let one : Queued res its.queue ≡ Queued r queue = sym placed ∙ at_place in
      let same_res : res ≡ r = cc in
      let same_queue : its.queue ≡ queue = cc in
      sym (
      ap (at_after lock) all_is ∙ after_queue s sound its.own its.there lock its.row its.queue its.among (sym next_is ∙ none)
      ∙ behind_is s res its.own its.found its.queue ∙ ap (λ x. behind_at s x its.queue) same_res ∙ ap (λ q. behind_at s r q) same_queue
      )

-- ---- walks

-- the locks that a walk has left
abbrev pub left_at : Records → ℕ → Option ℕ → List StoredLock
left_at s res at = locks_from at (all_locks_at res s)

on_locks : (s : Records) (res lock : ℕ) (own : StoredResource) → resource_at res s.resources ≡ Some own → IsOn lock res s → HasLock lock (all_locks own)
on_locks s res lock own found on = subst (λ o. HasLock lock (option_map_or all_locks o [])) found on

locks_on : (s : Records) (res : ℕ) (own : StoredResource) → resource_at res s.resources ≡ Some own → all_locks_at res s ≡ all_locks own
locks_on s res own found = ap (λ o. option_map_or all_locks o []) found

module _ (P : Resource → LockState → Type 0) (s : Records) (res : ℕ) where
  -- the locks that the walk has left give what it is to give
  abbrev pub Leads : Option ℕ → Option ℕ → Type 0
  Leads from at =
      (own : StoredResource) → resource_at res s.resources ≡ Some own → (found : Option ℕ)
      → IsFirstOf (P (plain_resource own)) (locks_from at (all_locks own)) found → IsFirstFrom (P (plain_resource own)) from (all_locks own) found

  -- a walk from the first lock
  leads_first : (at : Option ℕ) → IsSound s → at ≡ first_at (all_locks_at res s) → Leads None at
  leads_first at sound is own found result first =
      let apart = all_apart s sound own (resource_among res s.resources own found) in
      let begins : at ≡ first_at (all_locks own) = is ∙ ap first_at (locks_on s res own found) in
      subst (λ ks. IsFirstOf (P (plain_resource own)) ks result)
      (ap (λ o. locks_from o (all_locks own)) begins ∙ locks_from-first [] (all_locks own) apart) first

  -- a walk from the lock after one
  leads_after : (lock : ℕ) (at : Option ℕ) → IsSound s → at ≡ at_after lock (all_locks_at res s) → Leads (Some lock) at
  leads_after lock at sound is own found result first before rest row split =
      let k : StoredLock = record { at = lock; row = row } in
      let apart : AreApart (before ++ k ∷ rest) = subst AreApart split (all_apart s sound own (resource_among res s.resources own found)) in
      let one : before ++ k ∷ [] ++ rest ≡ before ++ k ∷ rest = append_assoc before (k ∷ []) rest in
      let after : at ≡ first_at rest = is ∙ ap (at_after lock) (locks_on s res own found ∙ split) ∙ after-among k before rest apart in
      let behind : locks_from (first_at rest) (before ++ k ∷ rest) ≡ rest =
      ap (locks_from (first_at rest)) (sym one) ∙ locks_from-first (before ++ k ∷ []) rest (subst AreApart (sym one) apart) in
      subst (λ ks. IsFirstOf (P (plain_resource own)) ks result)
      (ap (λ o. locks_from o (all_locks own)) after ∙ ap (locks_from (first_at rest)) split ∙ behind) first

  -- a walk from either
  pub leads_from : (from at : Option ℕ) → IsSound s → at ≡ first_from from (all_locks_at res s) → Leads from at
  leads_from None at sound is = leads_first at sound is
  leads_from (Some lock) at sound is = leads_after lock at sound is

  -- this lock does not pass
  pub leads_on : (from : Option ℕ) (lock : ℕ) (next : Option ℕ) → IsSound s → IsOn lock res s → next ≡ at_after lock (all_locks_at res s)
      → (PassesOn P s res lock → ⊥) → Leads from (Some lock) → Leads from next
  leads_on from lock next sound on is not leads own found result first =
      let there = resource_among res s.resources own found in
      let stands = at_lock lock (all_locks own) (all_apart s sound own there) (on_locks s res lock own found on) in
      let after : next ≡ at_after lock (all_locks own) = is ∙ ap (at_after lock) (locks_on s res own found) in
      leads own found result (subst (λ ks. IsFirstOf (P (plain_resource own)) ks result) (sym stands.left) (inr (
        λ passes. not (passes_row P s res lock stands.row own found (all_stored s sound own there lock stands.row stands.among) passes),
        subst (λ o. IsFirstOf (P (plain_resource own)) (locks_from o (all_locks own)) result) after first,
      )))

  -- it does
  pub leads_found : (from : Option ℕ) (lock : ℕ) → IsSound s → IsOn lock res s → PassesOn P s res lock → Leads from (Some lock)
      → IsNextOn P s res from (Some lock)
  leads_found from lock sound on passes leads own found =
      let there = resource_among res s.resources own found in
      let stands = at_lock lock (all_locks own) (all_apart s sound own there) (on_locks s res lock own found on) in
      leads own found (Some lock) (subst (λ ks. IsFirstOf (P (plain_resource own)) ks (Some lock)) (sym stands.left)
      (inl (row_passes P s res lock stands.row own sound found (all_stored s sound own there lock stands.row stands.among) passes, refl)))

  -- no lock is left
  pub leads_none : (from at : Option ℕ) → at ≡ None → Leads from at → IsNextOn P s res from None
  leads_none from at none leads own found =
      leads own found None (subst (λ o. IsFirstOf (P (plain_resource own)) (locks_from o (all_locks own)) None) (sym none) refl)

-- where the request waits for no lock there is none
none_first : (P : LockState → Type 0) → ((row : LockState) → P row → ⊥) → (ks : List StoredLock) → IsFirstOf P ks None
none_first P none [] = refl
none_first P none (k ∷ ks) = inr (none k.row, none_first P none ks)

pub none_from : (P : LockState → Type 0) → ((row : LockState) → P row → ⊥) → (from : Option ℕ) (ks : List StoredLock) → IsFirstFrom P from ks None
none_from P none None ks = none_first P none ks
none_from P none (Some at) ks = λ before rest row split. none_first P none rest

-- the lock after one, and the first lock, are on the resource
pub first_on : (s : Records) (res : ℕ) (at : Option ℕ) → at ≡ first_at (all_locks_at res s) → ForSome at (λ lock. IsOn lock res s)
first_on s res at is = subst (λ o. ForSome o (λ lock. IsOn lock res s)) (sym is) (first-there [] (all_locks_at res s))

pub after_on : (s : Records) (res lock : ℕ) (next : Option ℕ) → IsSound s → IsOn lock res s
    → next ≡ at_after lock (all_locks_at res s) → ForSome next (λ other. IsOn other res s)
after_on s res lock next sound on is =
    let w = where_on s res lock on in
    let apart : AreApart (all_locks_at res s) = subst AreApart (sym (locks_on s res w.own w.found)) (all_apart s sound w.own w.there) in
    subst (λ o. ForSome o (λ other. IsOn other res s)) (sym is) (at_lock lock (all_locks_at res s) apart on).next

pub from_on : (s : Records) (res : ℕ) (from at : Option ℕ) → IsSound s → ForSome from (λ lock. IsOn lock res s) → at ≡ first_from from (all_locks_at res s)
    → ForSome at (λ lock. IsOn lock res s)
from_on s res None at sound there is = first_on s res at is
from_on s res (Some lock) at sound there is = after_on s res lock at sound (there lock refl) is

-- fewer are left behind one
pub fewer_left : (s : Records) (res lock : ℕ) (next : Option ℕ) → IsSound s → IsOn lock res s → next ≡ at_after lock (all_locks_at res s)
    → length (left_at s res next) < length (left_at s res (Some lock))
fewer_left s res lock next sound on is =
    let w = where_on s res lock on in
    let apart : AreApart (all_locks_at res s) = subst AreApart (sym (locks_on s res w.own w.found)) (all_apart s sound w.own w.there) in
    subst (λ o. length (left_at s res o) < length (left_at s res (Some lock))) (sym is)
    (locks_left-fewer lock (all_locks_at res s) (at_lock lock (all_locks_at res s) apart on))

-- a lock on a resource is stored
pub on_stored : (s : Records) (res lock : ℕ) → IsSound s → IsOn lock res s → IsStored lock s
on_stored s res lock sound on =
    let w = where_on s res lock on in
    (w.row, queued_stored s sound w.own w.there w.queue (record { at = lock; row = w.row }) w.among)
