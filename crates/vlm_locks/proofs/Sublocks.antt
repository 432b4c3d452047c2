-- The locks that stand below a lock on the next level, and how many handles of stored locks there can be.
use Rattle.std.proofs.Common.{◌≡◌, ◌≢◌, ◌≤◌, ◌+◌, ℕ, List, [], ◌∷◌, ◌++◌, map, flat_map, length, refl, sym, ap, ◌∙◌, subst, inl, inr, arith, eq-eqb, ne_eqb}
use Rattle.std.specs.Option.{option_map_or}
use Rattle.std.specs.List.{sum_by}
use Rattle.std.proofs.lemmas.Bool.{cases_eq}
use Rattle.std.proofs.lemmas.List.{length-append, length-map}
use Rattle.std.proofs.lemmas.List.Sums.{sum_by-cons}
use Rattle.vlm_words.specs.declared.locks.LockState.{LockState}
use Rattle.vlm_words.specs.declared.resources.Queue.{Queue}
use Rattle.vlm_words.specs.declared.resources.Queue.TheVariants.{Granted, Conversion, Waiting}
use Rattle.vlm_collections.specs.Lists.{IsApart, IsIn, without}
use Rattle.vlm_store.specs.Records.{AreOwnApart, IsSound, IsStored, OwnLock, Records, StoredLock, StoredProcess, StoredResource, Stores, queued, sublocks_at}
use Rattle.vlm_store.specs.Total.{lock_total}
use Rattle.vlm_store.proofs.Counted.{one_process}
use Rattle.vlm_store.proofs.Siblings.{all_of_own, own_found, own_of_all}
use Rattle.vlm_locks.specs.Rest.{IsAtRest}
use Rattle.vlm_locks.specs.Rising.{StandById}
use Rattle.vlm_locks.proofs.QueuedLocks.{in_queue, one_lock}
use Rattle.vlm_collections.proofs.HandleLists.{IsIn-without_kept, in_ahead, in_behind, in_map}
use Rattle.vlm_store.proofs.Records.{in_a_queue}
use Rattle.vlm_locks.proofs.Rising.{none_loose}

-- ---- no more handles than these

no_longer : (x : ℕ) (ys : List ℕ) → length (without x ys) ≤ length ys
no_longer x [] = omega arith
no_longer x (z ∷ ys) =
    elim (cases_eq z x) [
      | inl same ↦ rw (eq-eqb z x same) (omega (arith, no_longer x ys))
      | inr other ↦ rw (ne_eqb z x other) (omega (arith, no_longer x ys))
    ]

shorter : (x : ℕ) (ys : List ℕ) → IsIn x ys → length (without x ys) + 1 ≤ length ys
shorter x [] there = absurd there
shorter x (z ∷ ys) there =
    elim (cases_eq z x) [
      | inl same ↦ rw (eq-eqb z x same) (omega (arith, no_longer x ys))
      | inr other ↦ rw (ne_eqb z x other) (elim there [ inl here ↦ absurd (other here) | inr later ↦ omega (arith, shorter x ys later) ])
    ]

-- handles of which none is there twice are no more than those among which they are
no_more : (xs ys : List ℕ) → IsApart xs → ((x : ℕ) → IsIn x xs → IsIn x ys) → length xs ≤ length ys
no_more [] ys apart among = omega arith
no_more (x ∷ xs) ys apart among =
    omega (
      arith,
      no_more xs (without x ys) apart.1 (λ y there. IsIn-without_kept x y ys (among y (inr there)) (λ same. apart.0 (subst (λ k. IsIn k xs) same there))),
      shorter x ys (among x (inl refl)),
    )

-- ---- no more handles than stored locks

abbrev handles_in : List StoredLock → List ℕ
handles_in locks = map (λ (k : StoredLock). k.at) locks

abbrev handles_on : StoredResource → List ℕ
handles_on r = handles_in r.granted ++ handles_in r.converting ++ handles_in r.waiting

handle_on : (r : StoredResource) (queue : Queue) (k : StoredLock) → IsIn k (queued queue r) → IsIn k.at (handles_on r)
handle_on r Granted k there =
    in_ahead k.at (handles_in r.granted ++ handles_in r.converting) (handles_in r.waiting)
    (in_ahead k.at (handles_in r.granted) (handles_in r.converting) (in_map (λ (x : StoredLock). x.at) k r.granted there))
handle_on r Conversion k there =
    in_ahead k.at (handles_in r.granted ++ handles_in r.converting) (handles_in r.waiting)
    (in_behind k.at (handles_in r.granted) (handles_in r.converting) (in_map (λ (x : StoredLock). x.at) k r.converting there))
handle_on r Waiting k there =
    in_behind k.at (handles_in r.granted ++ handles_in r.converting) (handles_in r.waiting) (in_map (λ (x : StoredLock). x.at) k r.waiting there)

handle_among : (at : ℕ) (r : StoredResource) (rs : List StoredResource) → IsIn r rs → IsIn at (handles_on r) → IsIn at (flat_map handles_on rs)
handle_among at r [] there here = absurd there
handle_among at r (x ∷ rs) there here = elim there [
  | inl same ↦ in_ahead at (handles_on x) (flat_map handles_on rs) (subst (λ (y : StoredResource). IsIn at (handles_on y)) (sym same) here)
  | inr later ↦ in_behind at (handles_on x) (flat_map handles_on rs) (handle_among at r rs later here)
]

on_long : (r : StoredResource) → length (handles_on r) ≡ length r.granted + length r.converting + length r.waiting
on_long r =
    omega (
      arith,
      length-append (handles_in r.granted ++ handles_in r.converting) (handles_in r.waiting),
      length-append (handles_in r.granted) (handles_in r.converting),
      length-map r.granted (λ (x : StoredLock). x.at),
      length-map r.converting (λ (x : StoredLock). x.at),
      length-map r.waiting (λ (x : StoredLock). x.at),
    )

all_long : (rs : List StoredResource) → length (flat_map handles_on rs) ≡ sum_by (λ r. length r.granted + length r.converting + length r.waiting) rs
all_long [] = refl
all_long (r ∷ rs) =
    omega (
      arith,
      length-append (handles_on r) (flat_map handles_on rs),
      on_long r,
      all_long rs,
      sum_by-cons (λ (x : StoredResource). length x.granted + length x.converting + length x.waiting) r rs,
    )

pub as_many_at_most : (s : Records) (handles : List ℕ) → IsApart handles → ((at : ℕ) → IsIn at handles → IsStored at s) → length handles ≤ lock_total s
as_many_at_most s handles apart stored =
    omega (
      arith,
      all_long s.resources,
      no_more handles (flat_map handles_on s.resources) apart
          (λ at there. let row = stored at there in
          let stands = in_queue s at row.0 row.1 in
          handle_among at stands.resource s.resources stands.there (handle_on stands.resource stands.queue (record { at = at; row = row.0 }) stands.among)),
    )

-- ---- the sublocks of a lock

one_apart : (xs : List OwnLock) → AreOwnApart xs → (o u : OwnLock) → IsIn o xs → IsIn u xs → o.at ≡ u.at → o ≡ u
one_apart [] apart o u in_o in_u same = absurd in_o
one_apart (x ∷ xs) apart o u in_o in_u same = elim in_o [
  | inl here ↦ elim in_u [
    | inl there ↦ sym here ∙ there
    | inr later ↦ absurd (apart.0 u later (sym same ∙ sym (ap (λ (y : OwnLock). y.at) here)))
  ]
  | inr behind ↦ elim in_u [
    | inl there ↦ absurd (apart.0 o behind (same ∙ sym (ap (λ (y : OwnLock). y.at) there)))
    | inr later ↦ one_apart xs apart.1 o u behind later same
  ]
]

module _ (s : Records) (sound : IsSound s) where
  -- a process has each of its locks once, and no other process has it
  one_own : IsAtRest s → (p q : StoredProcess) (o u : OwnLock) → IsIn p s.processes → IsIn q s.processes → IsIn o p.own → IsIn u q.own → o.at ≡ u.at → o ≡ u
  one_own rest p q o u in_p in_q in_o in_u same =
      let none = none_loose s rest.rising in
      let first = sound.owned.owns p o in_p in_o in
      let second = sound.owned.owns q u in_q in_u in
      let row : first.0 ≡ second.0 =
      one_lock s sound o.at first.0 second.0 (in_a_queue s none o.at first.0 first.1.0)
      (subst (λ h. Stores s h second.0) (sym same) (in_a_queue s none u.at second.0 second.1.0)) in
      let process : p ≡ q =
      one_process s.processes sound.processes_apart p q in_p in_q (sym first.1.1 ∙ ap (λ (x : LockState). x.pid) row ∙ second.1.1) in
      one_apart q.own (sound.own_apart q in_q) o u (subst (λ (x : StoredProcess). IsIn o x.own) process in_o) in_u same

  -- handles that stand by rising ID are apart
  apart_in_order : (handles : List ℕ) → ((at : ℕ) → IsIn at handles → IsStored at s) → StandById s handles → IsApart handles
  apart_in_order [] stored stand = tt
  apart_in_order (at ∷ handles) stored stand = (
    λ there. let row = stored at (inl refl) in absurd (omega (arith, stand.0 at there row.0 row.0 row.1 row.1)),
    apart_in_order handles (λ other there. stored other (inr there)) stand.1,
  )

  module _ (h : ℕ) where
    abbrev owns : List OwnLock
    owns = flat_map (λ (p : StoredProcess). p.own) s.processes

    -- a sublock names the lock as its parent
    pub below_of : IsAtRest s → (at : ℕ) → IsIn at (sublocks_at h s) → (up : LockState) × (row : LockState)
        × (Stores s h up × Stores s at row × (row.parent ≡ up.lkid))
    below_of rest at there =
        elim (own_found h owns) [
          | inr none ↦ absurd (subst (IsIn at) (ap (λ o. option_map_or (λ (x : OwnLock). x.sublocks) o []) none.0) there)
          | inl found ↦ (let of = all_of_own found.0 s.processes found.1.1 in
              let below = sound.owned.below of.0 found.0 at of.1.0 of.1.1
              (subst (IsIn at) (ap (λ o. option_map_or (λ (x : OwnLock). x.sublocks) o []) found.1.0) there) in
              let none = none_loose s rest.rising in (
                below.0,
                below.1,
                (
                  subst (λ k. Stores s k below.0) found.1.2
                      (in_a_queue s none found.0.at below.0 below.2.0),
                  in_a_queue s none at below.1 below.2.1,
                  below.2.2,
                ),
              ))
        ]

    -- a lock that names it is a sublock
    pub is_below_it : IsAtRest s → (at : ℕ) (up row : LockState) → Stores s h up → Stores s at row → row.parent ≢ 0
        → row.parent ≡ up.lkid → IsIn at (sublocks_at h s)
    is_below_it rest at up row above stored has names =
        let named = sound.owned.named at row (inl stored) has in
        let same : named.1.at ≡ h = sound.lkids_apart named.1.at h named.2 up named.3.3 (inl above) (named.3.4 ∙ names) in
        elim (own_found h owns) [
          | inr none ↦ absurd (none.1 named.1 (own_of_all named.0 named.1 s.processes named.3.0 named.3.1) same)
          | inl found ↦ (let of = all_of_own found.0 s.processes found.1.1 in
              let is : named.1 ≡ found.0 = one_own rest named.0 of.0 named.1 found.0 named.3.0 of.1.0 named.3.1 of.1.1 (same ∙ sym found.1.2) in
              subst (IsIn at) (sym (ap (λ o. option_map_or (λ (x : OwnLock). x.sublocks) o []) found.1.0))
              (subst (λ (o : OwnLock). IsIn at o.sublocks) is named.3.2))
        ]

    -- no sublock is there twice
    pub sublocks_apart : IsAtRest s → IsApart (sublocks_at h s)
    sublocks_apart rest =
        elim (own_found h owns) [
          | inr none ↦ subst IsApart (sym (ap (λ o. option_map_or (λ (x : OwnLock). x.sublocks) o []) none.0)) tt
          | inl found ↦ (let of = all_of_own found.0 s.processes found.1.1 in
              let is : sublocks_at h s ≡ found.0.sublocks = ap (λ o. option_map_or (λ (x : OwnLock). x.sublocks) o []) found.1.0 in
              apart_in_order (sublocks_at h s) (λ at there. let below = below_of rest at there in (below.1, below.2.1))
              (subst (StandById s) (sym is) ((rest.rising of.0 of.1.0).sublocks found.0 of.1.1).1))
        ]
