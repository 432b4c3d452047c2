-- What a caller sees of the tables, and how it changes as they do.
use Rattle.std.proofs.Common.{◌≡◌, ◌≢◌, ◌⊎◌, ℕ, List, [], ◌∷◌, ◌++◌, map, true, false, not, cond, None, Some, IsSome}
use Rattle.std.proofs.Common.{refl, sym, ap, ◌∙◌, subst, inl, inr, eq-eqb, ne_eqb, Option}
use Rattle.std.specs.Prelude.{◌==◌}
use Rattle.std.specs.Option.{option_map_or}
use Rattle.std.proofs.lemmas.Bool.{cases_eq}
use Rattle.vlm_collections.specs.declared.hashers.HashKeys.{HashKeys}
use Rattle.vlm_collections.specs.Lists.{IsIn, IsApart, first_handle, handle_after, without}
use Rattle.vlm_collections.proofs.Images.{IsIn-image, IsIn-told}
use Rattle.vlm_collections.proofs.HandleLists.{IsIn-without, without_head, without_past}
use Rattle.vlm_words.specs.declared.locks.LockState.{LockState}
use Rattle.vlm_words.specs.declared.resources.Queue.{Queue}
use Rattle.vlm_words.specs.declared.resources.Queue.TheVariants.{Granted, Conversion, Waiting}
use Rattle.vlm_records.specs.declared.handles.Place.{Place}
use Rattle.vlm_records.specs.declared.handles.Place.TheVariants.{Queued}
use Rattle.vlm_store.specs.Records.{AreOwnApart, StoredProcess, Records, StoredLock, StoredResource, AreApart, AreOwned}
use Rattle.vlm_store.specs.Records.{AreProcessesApart, AreResourcesApart, HasPlace, HasResource, IsSound, Stores}
use Rattle.vlm_store.specs.Records.{at_after, disarmed, disarming, first_at, first_resource_at, resource_at_after}
use Rattle.vlm_store.specs.Records.{is_place, joining, leaving, locks_at, moving, on_resource, queued, resource_at}
use Rattle.vlm_store.specs.Records.{resource_with, with_lists, without_lock, without_resource, HasLock}
use Rattle.vlm_store.specs.Store.{Layout, under_handle, records_of, resource_of}
use Rattle.vlm_records.proofs.PlacesOnLists.{place_cases}
use Rattle.vlm_store.proofs.Records.{is_place-other, is_place-same}

-- ---- locks under their handles

pub under_handle-append : (rows : ℕ → LockState) (ks : List ℕ) (at : ℕ)
    → map (under_handle rows) (ks ++ at ∷ []) ≡ map (under_handle rows) ks ++ under_handle rows at ∷ []
under_handle-append rows [] at = refl
under_handle-append rows (k ∷ ks) at = ap (λ rest. under_handle rows k ∷ rest) (under_handle-append rows ks at)

pub under_handle-without : (rows : ℕ → LockState) (at : ℕ) (ks : List ℕ)
    → without_lock at (map (under_handle rows) ks) ≡ map (under_handle rows) (without at ks)
under_handle-without rows at [] = refl
under_handle-without rows at (k ∷ ks) =
    elim (k == at) as (λ b. cond (not b) (under_handle rows k ∷ without_lock at (map (under_handle rows) ks)) (without_lock at (map (under_handle rows) ks))
    ≡ map (under_handle rows) (cond (not b) (k ∷ without at ks) (without at ks))) [
      | true ↦ under_handle-without rows at ks
      | false ↦ ap (λ rest. under_handle rows k ∷ rest) (under_handle-without rows at ks)
    ]

pub under_handle-kept : (rows rows' : ℕ → LockState) (ks : List ℕ) → ((k : ℕ) → IsIn k ks → rows' k ≡ rows k)
    → map (under_handle rows') ks ≡ map (under_handle rows) ks
under_handle-kept rows rows' [] same = refl
under_handle-kept rows rows' (k ∷ ks) same =
    ap (λ r. record { at = k; row = r } ∷ map (under_handle rows') ks) (same k (inl refl))
    ∙ ap (λ rest. under_handle rows k ∷ rest) (under_handle-kept rows rows' ks (λ x h. same x (inr h)))

-- a lock that a caller sees is there, with its row
pub under_handle-among : (rows : ℕ → LockState) (ks : List ℕ) (lock : StoredLock)
    → IsIn lock (map (under_handle rows) ks) → IsIn lock.at ks × (rows lock.at ≡ lock.row)
under_handle-among rows ks lock found = let of =
    IsIn-told (under_handle rows) (λ (x : StoredLock). x.at) (λ k. refl) ks lock found in
    (of.0, ap (λ (x : StoredLock). x.row) of.1)

pub among-under_handle : (rows : ℕ → LockState) (ks : List ℕ) (at : ℕ) → IsIn at ks → IsIn (record { at = at; row = rows at }) (map (under_handle rows) ks)
among-under_handle rows = IsIn-image (under_handle rows)

-- the first lock, and the one that follows another
pub under_handle-first : (rows : ℕ → LockState) (ks : List ℕ) → first_at (map (under_handle rows) ks) ≡ first_handle ks
under_handle-first rows [] = refl
under_handle-first rows (k ∷ ks) = refl

pub under_handle-after : (rows : ℕ → LockState) (at : ℕ) (ks : List ℕ) → at_after at (map (under_handle rows) ks) ≡ handle_after at ks
under_handle-after rows at [] = refl
under_handle-after rows at (k ∷ ks) =
    elim (k == at) as (λ b. cond b (first_at (map (under_handle rows) ks))
    (at_after at (map (under_handle rows) ks)) ≡ cond b (first_handle ks) (handle_after at ks)) [
      | true ↦ under_handle-first rows ks
      | false ↦ under_handle-after rows at ks
    ]

under_handle-apart : (rows : ℕ → LockState) (ks : List ℕ) → IsApart ks → AreApart (map (under_handle rows) ks)
under_handle-apart rows [] apart = tt
under_handle-apart rows (k ∷ ks) apart = (
  λ row found. apart.0 (under_handle-among rows ks (record { at = k; row = row }) found).0,
  under_handle-apart rows ks apart.1,
)

-- ---- all lists change

-- what a list becomes
pub moving-under_handle : (rows rows' : ℕ → LockState) (handles handles' : Place
    → List ℕ) (at : ℕ) (row : LockState) (to : Place) → rows' at ≡ row → ((k : ℕ) → k ≢ at → rows' k ≡ rows k)
    → handles' to ≡ without at (handles to) ++ at ∷ [] → ((p : Place) → p ≢ to → handles' p ≡ without at (handles p))
    → (p : Place) → map (under_handle rows') (handles' p) ≡ moving to (record { at = at; row = row }) p (map (under_handle rows) (handles p))
moving-under_handle rows rows' handles handles' at row to here others joined left p =
    elim (place_cases p to) [
      | inl same ↦
          rw (ap (λ x. is_place x to) same ∙ is_place-same to)
          (ap (λ x. map (under_handle rows') (handles' x)) same ∙ ap (map (under_handle rows')) joined ∙ under_handle-append rows' (without at (handles to)) at
          ∙ ap (λ xs. xs ++ under_handle rows' at ∷ []) (rest to)
          ∙ ap (λ r. without_lock at (map (under_handle rows) (handles to)) ++ record {
            at = at;
            row =
                r;
          } ∷ []) here
          ∙ ap (λ x. without_lock at (map (under_handle rows) (handles x)) ++ record { at = at; row = row } ∷ []) (sym same))
      | inr differs ↦ rw (is_place-other p to differs) (ap (map (under_handle rows')) (left p differs) ∙ rest p)
    ]
  where
    rest : (p : Place) → map (under_handle rows') (without at (handles p)) ≡ without_lock at (map (under_handle rows) (handles p))
    rest p = under_handle-kept rows rows' (without at (handles p))
        (λ k found. others k (IsIn-without at k (handles p) found).1) ∙ sym (under_handle-without rows at (handles p))

pub joining-under_handle : (rows rows' : ℕ → LockState) (handles handles' : Place
    → List ℕ) (at : ℕ) (row : LockState) (to : Place) → rows' at ≡ row → ((k : ℕ) → k ≢ at → rows' k ≡ rows k)
    → ((p : Place) → ¬ IsIn at (handles p)) → handles' to ≡ handles to ++ at ∷ [] → ((p : Place) → p ≢ to → handles' p ≡ handles p)
    → (p : Place) → map (under_handle rows') (handles' p) ≡ joining to (record { at = at; row = row }) p (map (under_handle rows) (handles p))
joining-under_handle rows rows' handles handles' at row to here others unlisted joined stay p =
    elim (place_cases p to) [
      | inl same ↦
          rw (ap (λ x. is_place x to) same ∙ is_place-same to)
          (ap (λ x. map (under_handle rows') (handles' x)) same ∙ ap (map (under_handle rows')) joined ∙ under_handle-append rows' (handles to) at
          ∙ ap (λ xs. xs ++ under_handle rows' at ∷ []) (rest to) ∙ ap (λ r. map (under_handle rows) (handles to) ++ record { at = at; row = r } ∷ []) here
          ∙ ap (λ x. map (under_handle rows) (handles x) ++ record { at = at; row = row } ∷ []) (sym same))
      | inr differs ↦ rw (is_place-other p to differs) (ap (map (under_handle rows')) (stay p differs) ∙ rest p)
    ]
  where
    rest : (p : Place) → map (under_handle rows') (handles p) ≡ map (under_handle rows) (handles p)
    rest p = under_handle-kept rows rows' (handles p) (λ k found. others k (λ same. unlisted p (subst (λ x. IsIn x (handles p)) same found)))

pub leaving-under_handle : (rows rows' : ℕ → LockState) (handles handles' : Place → List ℕ) (at : ℕ)
    → ((k : ℕ) → k ≢ at → rows' k ≡ rows k) → ((p : Place) → handles' p ≡ without at (handles p))
    → (p : Place) → map (under_handle rows') (handles' p) ≡ leaving at p (map (under_handle rows) (handles p))
leaving-under_handle rows rows' handles handles' at others left p =
    ap (map (under_handle rows')) (left p)
    ∙ under_handle-kept rows rows' (without at (handles p))
    (λ k found. others k (IsIn-without at k (handles p) found).1) ∙ sym (under_handle-without rows at (handles p))

pub disarming-under_handle : (rows rows' : ℕ → LockState) (at : ℕ) → rows' at ≡ record (rows at) { armed = false } → ((k : ℕ) → k ≢ at → rows' k ≡ rows k)
    → (p : Place) (ks : List ℕ) → map (under_handle rows') ks ≡ disarming at p (map (under_handle rows) ks)
disarming-under_handle rows rows' at here others p [] = refl
disarming-under_handle rows rows' at here others p (k ∷ ks) =
    elim (cases_eq k at) [
      | inl same ↦
          let row : rows' k ≡ record (rows k) { armed = false } = subst (λ x. rows' x ≡ record (rows x) { armed = false }) (sym same) here in
          rw (eq-eqb k at same)
          (ap (λ r. record { at = k; row = r } ∷ map (under_handle rows') ks) row
          ∙ ap (λ rest. disarmed (under_handle rows k) ∷ rest)
          (disarming-under_handle rows rows' at here others p ks))
      | inr differs ↦
          rw (ne_eqb k at differs)
          (ap (λ r. record { at = k; row = r } ∷ map (under_handle rows') ks) (others k differs)
          ∙ ap (λ rest. under_handle rows k ∷ rest) (disarming-under_handle rows rows' at here others p ks))
    ]

module _ (old new : Layout) (change : Place → List StoredLock → List StoredLock) (faces : (r : ℕ) → new.faces r ≡ old.faces r)
    (lists : (p : Place) → map (under_handle new.rows) (new.handles p) ≡ change p (map (under_handle old.rows) (old.handles p))) where
  changed_resource : (r : ℕ) → resource_of new r ≡ resource_with change (resource_of old r)
  changed_resource r = rw (faces r, lists (Queued r Granted), lists (Queued r Conversion), lists (Queued r Waiting)) refl

  changed_resources : (rs : List ℕ) → map (resource_of new) rs ≡ map (resource_with change) (map (resource_of old) rs)
  changed_resources [] = refl
  changed_resources (r ∷ rs) =
      ap (λ x. x ∷ map (resource_of new) rs) (changed_resource r) ∙ ap (λ rest. resource_with change (resource_of old r) ∷ rest) (changed_resources rs)

  pub lists_changed_beside : new.order ≡ old.order → new.keys ≡ old.keys
      → records_of new ≡ record (with_lists change (records_of old)) {
        processes = new.processes;
        room =
            (records_of new).room;
      }
  unfolding records_of
  lists_changed_beside order keys =
      ap (λ x. record { resources = x; processes = new.processes; room = new.room; keys = new.keys })
      (ap (map (resource_of new)) order ∙ changed_resources old.order)
      ∙ ap (λ (h : HashKeys). record {
        resources = map (resource_with change) (map (resource_of old) old.order);
        processes = new.processes;
        room = new.room;
        keys = h;
      }) keys

  pub lists_changed : new.order ≡ old.order → new.processes ≡ old.processes → new.room ≡ old.room → new.keys ≡ old.keys
      → records_of new ≡ with_lists change (records_of old)
  unfolding records_of
  lists_changed order processes room keys =
      lists_changed_beside order keys
      ∙ ap (λ ps. record (with_lists change (records_of old)) { processes = ps; room = new.room }) processes
      ∙ ap (λ r. record (with_lists change (records_of old)) { room = r }) room

-- ---- resources

-- a resource that is in the order is found
resource_found : (l : Layout) (res : ℕ) (rs : List ℕ) → IsIn res rs → resource_at res (map (resource_of l) rs) ≡ Some (resource_of l res)
resource_found l res [] found = absurd found
resource_found l res (r ∷ rs) found =
    elim (cases_eq r res) [
      | inl same ↦ rw (eq-eqb r res same) (ap (λ x. Some (resource_of l x)) same)
      | inr differs ↦ rw (ne_eqb r res differs) (resource_found l res rs (elim found [ inl here ↦ absurd (differs here) | inr there ↦ there ]))
    ]

resource_there : (l : Layout) (res : ℕ) (rs : List ℕ) → IsSome (resource_at res (map (resource_of l) rs)) → IsIn res rs
resource_there l res [] found = cc
resource_there l res (r ∷ rs) found =
    elim (cases_eq r res) [
      | inl same ↦ inl same
      | inr differs ↦ inr (resource_there l res rs (rw (ne_eqb r res differs) at found))
    ]

pub resource_at-found : (l : Layout) (res : ℕ) → IsIn res l.order → resource_at res (records_of l).resources ≡ Some (resource_of l res)
unfolding records_of
resource_at-found l res found = resource_found l res l.order found

pub HasResource-order : (l : Layout) (res : ℕ) → HasResource res (records_of l) → IsIn res l.order
unfolding records_of
HasResource-order l res found = resource_there l res l.order found

-- the place is seen by a caller
abbrev pub IsSeen : Layout → Place → Type 0
IsSeen l (Queued res queue) = IsIn res l.order

pub HasPlace-seen : (l : Layout) (p : Place) → HasPlace p (records_of l) → IsSeen l p
HasPlace-seen l (Queued res queue) has = HasResource-order l res has

-- the locks of a queue are those under its handles
pub queued-handles : (l : Layout) (queue : Queue) (r : ℕ) → queued queue (resource_of l r) ≡ map (under_handle l.rows) (l.handles (Queued r queue))
queued-handles l Granted r = refl
queued-handles l Conversion r = refl
queued-handles l Waiting r = refl

-- the locks at a place
pub locks_at-seen : (l : Layout) (p : Place) → IsSeen l p → locks_at p (records_of l) ≡ map (under_handle l.rows) (l.handles p)
unfolding records_of
locks_at-seen l (Queued res queue) seen = ap (λ o. option_map_or (queued queue) o []) (resource_found l res l.order seen) ∙ queued-handles l queue res

in_cases : (at : ℕ) (ks : List ℕ) → IsIn at ks ⊎ (¬ IsIn at ks)
in_cases at [] = inr (λ nowhere. nowhere)
in_cases at (k ∷ ks) =
    elim (cases_eq k at) [
      | inl same ↦ inl (inl same)
      | inr differs ↦ elim (in_cases at ks) [
        | inl there ↦ inl (inr there)
        | inr absent ↦ inr (λ found. elim found [ inl here ↦ differs here | inr there ↦ absent there ])
      ]
    ]

resource_none : (l : Layout) (res : ℕ) (rs : List ℕ) → ¬ IsIn res rs → resource_at res (map (resource_of l) rs) ≡ None
resource_none l res [] absent = refl
resource_none l res (r ∷ rs) absent = rw (ne_eqb r res (λ same. absent (inl same))) (resource_none l res rs (λ there. absent (inr there)))

seen_cases : (l : Layout) (p : Place) → IsSeen l p ⊎ (locks_at p (records_of l) ≡ [])
unfolding records_of
seen_cases l (Queued res queue) =
    elim (in_cases res l.order) [
      | inl there ↦ inl there
      | inr absent ↦ inr (ap (λ o. option_map_or (queued queue) o []) (resource_none l res l.order absent))
    ]

-- a lock that a caller sees stands there, with its row
pub locks_at-among : (l : Layout) (p : Place) (lock : StoredLock) → IsIn lock (locks_at p (records_of l))
    → IsIn lock.at (l.handles p) × (l.rows lock.at ≡ lock.row)
locks_at-among l p lock found =
    elim (seen_cases l p) [
      | inl seen ↦ under_handle-among l.rows (l.handles p) lock (rw (locks_at-seen l p seen) at found)
      | inr none ↦ let nothing : IsIn lock [] = rw none at found in absurd nothing
    ]

-- a place where a caller sees a lock is seen
pub among-seen : (l : Layout) (p : Place) (lock : StoredLock) → IsIn lock (locks_at p (records_of l)) → IsSeen l p
among-seen l p lock found =
    elim (seen_cases l p) [
      | inl seen ↦ seen
      | inr none ↦ let nothing : IsIn lock [] = rw none at found in absurd nothing
    ]

pub Stores-listed : (l : Layout) (at : ℕ) (row : LockState) → Stores (records_of l) at row → (p : Place) × (IsIn at (l.handles p) × (l.rows at ≡ row))
Stores-listed l at row stored = (stored.0, locks_at-among l stored.0 (record { at = at; row = row }) stored.1)

-- a place where a lock stands is there
pub HasPlace-among : (s : Records) (p : Place) (lock : StoredLock) → IsIn lock (locks_at p s) → HasPlace p s
HasPlace-among s (Queued res queue) lock among = of_found (resource_at res s.resources) among
  where
    of_found : (found : Option StoredResource) → IsIn lock (option_map_or (queued queue) found []) → IsSome found
    of_found None among = absurd among
    of_found (Some r) among = refl

pub listed-Stores : (l : Layout) (p : Place) (at : ℕ) → IsSeen l p → IsIn at (l.handles p) → Stores (records_of l) at (l.rows at)
listed-Stores l p at seen found = (p, rw (locks_at-seen l p seen) (among-under_handle l.rows (l.handles p) at found))

-- the resources that a caller sees
pub resource_among : (l : Layout) (rs : List ℕ) (r : StoredResource) → IsIn r (map (resource_of l) rs) → IsIn r.at rs × (resource_of l r.at ≡ r)
resource_among l rs r = IsIn-told (resource_of l) (λ (x : StoredResource). x.at) (λ x. refl) rs r

pub among_resource : (l : Layout) (rs : List ℕ) (res : ℕ) → IsIn res rs → IsIn (resource_of l res) (map (resource_of l) rs)
among_resource l = IsIn-image (resource_of l)

resources_apart : (l : Layout) (rs : List ℕ) → IsApart rs → AreResourcesApart (map (resource_of l) rs)
resources_apart l [] apart = tt
resources_apart l (r ∷ rs) apart = (
  λ other found same. apart.0 (subst (λ x. IsIn x rs) same (resource_among l rs other found).0),
  resources_apart l rs apart.1,
)

-- what a caller sees is sound
pub IsSound-records_of : (l : Layout) → IsApart l.order → ((p : Place) → IsApart (l.handles p))
    → ((at : ℕ) (p q : Place) → IsIn at (l.handles p) → IsIn at (l.handles q) → p ≡ q)
    → ((a b : ℕ) (x y : LockState) → HasLock (records_of l) a x → HasLock (records_of l) b y → x.lkid ≡ y.lkid → a ≡ b)
    → ((a b : StoredResource) → IsIn a (records_of l).resources → IsIn b (records_of l).resources → a.key ≡ b.key → a.at ≡ b.at)
    → AreProcessesApart l.processes → AreOwned (records_of l) → ((p : StoredProcess) → IsIn p l.processes → AreOwnApart p.own) → IsSound (records_of l)
unfolding records_of
IsSound-records_of l order_apart places_apart one_place lkids_apart keys_apart processes_apart owned own_apart = record {
  resources_apart = resources_apart l l.order order_apart;
  locks_apart = λ p. elim (seen_cases l p) [
    | inl seen ↦ rw (locks_at-seen l p seen) (under_handle-apart l.rows (l.handles p) (places_apart p))
    | inr none ↦ rw none tt
  ];
  one_place = λ at a b p q here there.
      one_place at p q (locks_at-among l p (record { at = at; row = a }) here).0 (locks_at-among l q (record { at = at; row = b }) there).0;
  lkids_apart = lkids_apart;
  keys_apart = keys_apart;
  processes_apart = processes_apart;
  owned = owned;
  own_apart = own_apart;
}

-- ---- resources change

-- no lock moves, and no row is written
module _ (old new : Layout) (rows : (k : ℕ) → new.rows k ≡ old.rows k) (handles : (p : Place) → new.handles p ≡ old.handles p) where
  list_same : (p : Place) → map (under_handle new.rows) (new.handles p) ≡ map (under_handle old.rows) (old.handles p)
  list_same p = ap (map (under_handle new.rows)) (handles p) ∙ under_handle-kept old.rows new.rows (old.handles p) (λ k _. rows k)

  -- the other resources stay
  other : (res : ℕ) → ((r : ℕ) → r ≢ res → new.faces r ≡ old.faces r) → (r : ℕ) → r ≢ res → resource_of new r ≡ resource_of old r
  other res faces r differs = rw (faces r differs, list_same (Queued r Granted), list_same (Queued r Conversion), list_same (Queued r Waiting)) refl

-- a resource is made, with empty queues
pub resource_made : (old new : Layout) (res : ℕ) (made : StoredResource) → ((k : ℕ) → new.rows k ≡ old.rows k)
    → ((p : Place) → new.handles p ≡ old.handles p) → ((r : ℕ) → r ≢ res → new.faces r ≡ old.faces r)
    → ¬ IsIn res old.order → new.order ≡ old.order ++ res ∷ [] → resource_of new res ≡ made → new.processes ≡ old.processes → new.keys ≡ old.keys
    → records_of new ≡ record (records_of old) { resources = (records_of old).resources ++ made ∷ []; room = (records_of new).room }
unfolding records_of
resource_made old new res made rows handles faces absent order is processes keys =
    ap (λ x. record { resources = x; processes = new.processes; room = new.room; keys = new.keys })
    (ap (map (resource_of new)) order ∙ resources old.order absent)
    ∙ ap (λ x. record { resources = map (resource_of old) old.order ++ made ∷ []; processes = x; room = new.room; keys = new.keys }) processes
    ∙ ap (λ (h : HashKeys). record { resources = map (resource_of old) old.order ++ made ∷ []; processes = old.processes; room = new.room; keys = h }) keys
  where
    resources : (rs : List ℕ) → ¬ IsIn res rs → map (resource_of new) (rs ++ res ∷ []) ≡ map (resource_of old) rs ++ made ∷ []
    resources [] absent = ap (λ x. x ∷ []) is
    resources (r ∷ rs) absent =
        ap (λ x. x ∷ map (resource_of new) (rs ++ res ∷ []))
        (other old new rows handles res faces r (λ same. absent (inl same)))
        ∙ ap (λ rest. resource_of old r ∷ rest) (resources rs (λ there. absent (inr there)))

-- a resource is removed
pub resource_removed : (old new : Layout) (res : ℕ) → ((k : ℕ) → new.rows k ≡ old.rows k)
    → ((p : Place) → new.handles p ≡ old.handles p) → ((r : ℕ) → r ≢ res → new.faces r ≡ old.faces r)
    → new.order ≡ without res old.order → new.processes ≡ old.processes → new.keys ≡ old.keys
    → records_of new ≡ record (records_of old) { resources = without_resource res (records_of old).resources; room = (records_of new).room }
unfolding records_of
resource_removed old new res rows handles faces order processes keys =
    ap (λ x. record { resources = x; processes = new.processes; room = new.room; keys = new.keys }) (ap (map (resource_of new)) order ∙ resources old.order)
    ∙ ap (λ x. record { resources = without_resource res (map (resource_of old) old.order); processes = x; room = new.room; keys = new.keys }) processes
    ∙ ap (λ (h : HashKeys). record {
      resources = without_resource res (map (resource_of old) old.order);
      processes =
          old.processes;
      room = new.room;
      keys = h;
    }) keys
  where
    resources : (rs : List ℕ) → map (resource_of new) (without res rs) ≡ without_resource res (map (resource_of old) rs)
    resources [] = refl
    resources (r ∷ rs) =
        elim (cases_eq r res) [
          | inl same ↦ ap (map (resource_of new)) (without_head res r rs same) ∙ resources rs ∙ rw (eq-eqb r res same) refl
          | inr differs ↦
              ap (map (resource_of new)) (without_past res r rs differs)
              ∙ rw (ne_eqb r res differs)
              (ap (λ x. x ∷ map (resource_of new) (without res rs)) (other old new rows handles res faces r differs)
              ∙ ap (λ rest. resource_of old r ∷ rest) (resources rs))
        ]

-- the face of one resource is written
pub resource_written : (old new : Layout) (res : ℕ) (change : StoredResource → StoredResource)
    → ((k : ℕ) → new.rows k ≡ old.rows k) → ((p : Place) → new.handles p ≡ old.handles p)
    → ((r : ℕ) → r ≢ res → new.faces r ≡ old.faces r) → new.order ≡ old.order
    → (((p : Place) → map (under_handle new.rows) (new.handles p) ≡ map (under_handle old.rows) (old.handles p))
    → resource_of new res ≡ change (resource_of old res)) → new.processes ≡ old.processes → new.room ≡ old.room
    → new.keys ≡ old.keys
    → records_of new ≡ record (records_of old) { resources = on_resource res change (records_of old).resources }
unfolding records_of
resource_written old new res change rows handles faces order is processes room keys =
    ap (λ x. record { resources = x; processes = new.processes; room = new.room; keys = new.keys }) (ap (map (resource_of new)) order ∙ resources old.order)
    ∙ ap (λ x. record { resources = on_resource res change (map (resource_of old) old.order); processes = x; room = new.room; keys = new.keys }) processes
    ∙ ap (λ x. record { resources = on_resource res change (map (resource_of old) old.order); processes = old.processes; room = x; keys = new.keys }) room
    ∙ ap (λ (h : HashKeys). record {
      resources = on_resource res change (map (resource_of old) old.order);
      processes =
          old.processes;
      room = old.room;
      keys = h;
    }) keys
  where
    resources : (rs : List ℕ) → map (resource_of new) rs ≡ on_resource res change (map (resource_of old) rs)
    resources [] = refl
    resources (r ∷ rs) =
        elim (cases_eq r res) [
          | inl same ↦
              let head : resource_of new r ≡ change (resource_of old r) =
              subst (λ x. resource_of new x ≡ change (resource_of old x)) (sym same)
              (is (list_same old new rows handles)) in
              rw (eq-eqb r res same) (ap (λ x. x ∷ map (resource_of new) rs) head ∙ ap (λ rest. change (resource_of old r) ∷ rest) (resources rs))
          | inr differs ↦
              rw (ne_eqb r res differs)
              (ap (λ x. x ∷ map (resource_of new) rs) (other old new rows handles res faces r differs)
              ∙ ap (λ rest. resource_of old r ∷ rest) (resources rs))
        ]

-- the first resource, and the one made after another
first_resource-order : (l : Layout) (rs : List ℕ) → first_resource_at (map (resource_of l) rs) ≡ first_handle rs
first_resource-order l [] = refl
first_resource-order l (r ∷ rs) = refl

resource_after-order : (l : Layout) (res : ℕ) (rs : List ℕ) → resource_at_after res (map (resource_of l) rs) ≡ handle_after res rs
resource_after-order l res [] = refl
resource_after-order l res (r ∷ rs) =
    elim (r == res) as (λ b. cond b (first_resource_at (map (resource_of l) rs))
    (resource_at_after res (map (resource_of l) rs)) ≡ cond b (first_handle rs) (handle_after res rs)) [
      | true ↦ first_resource-order l rs
      | false ↦ resource_after-order l res rs
    ]

pub first_resource-is : (l : Layout) → first_resource_at (records_of l).resources ≡ first_handle l.order
unfolding records_of
first_resource-is l = first_resource-order l l.order

pub resource_after-is : (l : Layout) (res : ℕ) → resource_at_after res (records_of l).resources ≡ handle_after res l.order
unfolding records_of
resource_after-is l res = resource_after-order l res l.order
