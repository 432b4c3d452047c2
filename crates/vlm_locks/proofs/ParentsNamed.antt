-- The parent lock of a stored lock is the one that its row names, and so are those above it.
use Rattle.std.proofs.Common.{◌≡◌, ◌≢◌, ◌<◌, ◌⊎◌, ℕ, zero, suc, false, List, [], ◌∷◌, ◌++◌, map, refl, sym, ap, ◌∙◌, subst, inl, inr, eq-eqb, ne_eqb}
use Rattle.std.specs.Prelude.{◌==◌, ◌||◌, slice_get}
use Rattle.std.specs.Option.{option_map_or}
use Rattle.std.proofs.lemmas.Bool.{cases_eq}
use Rattle.vlm_words.specs.declared.locks.LockState.{LockState}
use Rattle.vlm_words.specs.declared.resources.Queue.{Queue}
use Rattle.vlm_words.specs.declared.resources.Queue.TheVariants.{Granted, Conversion, Waiting}
use Rattle.vlm_model.specs.OwnLocks.{all_rows_of, is_below, parent_of}
use Rattle.vlm_words.specs.Rows.{rows_of}
use Rattle.vlm_words.specs.State.{Resource}
use Rattle.vlm_collections.specs.Lists.{IsIn}
use Rattle.vlm_store.specs.Plain.{plain_resource, plain_resources}
use Rattle.vlm_store.specs.Records.{IsSound, Records, StoredLock, StoredResource, Stores, queued, rows_of_locks}
use Rattle.vlm_locks.specs.Rest.{IsAtRest}
use Rattle.vlm_locks.proofs.FoundInLists.{IsAbsent, rows-absent}
use Rattle.vlm_locks.proofs.QueuedLocks.{in_queue, one_lock, queued_stored}

-- the row stands first in the list
abbrev IsFirst : LockState → List LockState → Type 0
IsFirst row rows = (rest : List LockState) × (rows ≡ row ∷ rest)

-- the list is empty, or the row stands first in it
abbrev IsFirstIfAny : LockState → List LockState → Type 0
IsFirstIfAny row rows = (rows ≡ []) ⊎ IsFirst row rows

-- ---- lists of which one is put behind another

first_before : (row : LockState) (xs ys : List LockState) → IsFirst row xs → IsFirst row (xs ++ ys)
first_before row xs ys first = (first.0 ++ ys, ap (λ (rows : List LockState). rows ++ ys) first.1)

first_behind : (row : LockState) (xs ys : List LockState) → IsFirstIfAny row xs → IsFirst row ys → IsFirst row (xs ++ ys)
first_behind row xs ys (inl none) first = (first.0, ap (λ (rows : List LockState). rows ++ ys) none ∙ first.1)
first_behind row xs ys (inr before) first = first_before row xs ys before

if_any_both : (row : LockState) (xs ys : List LockState) → IsFirstIfAny row xs → IsFirstIfAny row ys → IsFirstIfAny row (xs ++ ys)
if_any_both row xs ys (inl none) (inl empty) = inl (ap (λ (rows : List LockState). rows ++ ys) none ∙ empty)
if_any_both row xs ys (inl none) (inr first) = inr (first_behind row xs ys (inl none) first)
if_any_both row xs ys (inr first) any = inr (first_before row xs ys first)

-- ---- the rows of one ID, where each of them is this row

-- each lock of the list with the ID of the row has the row
abbrev AreItsOwn : LockState → List StoredLock → Type 0
AreItsOwn row locks = (k : StoredLock) → IsIn k locks → k.row.lkid ≡ row.lkid → k.row ≡ row

if_any_of : (row : LockState) (locks : List StoredLock) → AreItsOwn row locks → IsFirstIfAny row (rows_of row.lkid (rows_of_locks locks))
if_any_of row [] own = inl refl
if_any_of row (k ∷ rest) own =
    elim (cases_eq k.row.lkid row.lkid) [
      | inl same ↦
          rw (eq-eqb k.row.lkid row.lkid same)
          (inr (rows_of row.lkid (rows_of_locks rest), ap (λ (x : LockState). x ∷ rows_of row.lkid (rows_of_locks rest)) (own k (inl refl) same)))
      | inr differs ↦ rw (ne_eqb k.row.lkid row.lkid differs) (if_any_of row rest (λ x there. own x (inr there)))
    ]

first_of : (row : LockState) (locks : List StoredLock) (k : StoredLock) → AreItsOwn row locks → IsIn k locks → k.row ≡ row
    → IsFirst row (rows_of row.lkid (rows_of_locks locks))
first_of row [] k own among is = absurd among
first_of row (x ∷ rest) k own among is =
    elim (cases_eq x.row.lkid row.lkid) [
      | inl same ↦
          rw (eq-eqb x.row.lkid row.lkid same)
          (rows_of row.lkid (rows_of_locks rest), ap (λ (y : LockState). y ∷ rows_of row.lkid (rows_of_locks rest)) (own x (inl refl) same))
      | inr differs ↦
          rw (ne_eqb x.row.lkid row.lkid differs)
          (elim among [
            | inl here ↦ absurd (differs (ap (λ (y : StoredLock). y.row.lkid) here ∙ ap (λ (y : LockState). y.lkid) is))
            | inr there ↦ first_of row rest k (λ y later. own y (inr later)) there is
          ])
    ]

-- the rows of one ID on a resource
abbrev rows_here : ℕ → StoredResource → List LockState
rows_here lkid r = rows_of lkid (rows_of_locks r.granted) ++ rows_of lkid (rows_of_locks r.converting) ++ rows_of lkid (rows_of_locks r.waiting)

-- each lock of the resource with the ID of the row has the row
abbrev AreItsOwnOn : LockState → StoredResource → Type 0
AreItsOwnOn row r = (queue : Queue) → AreItsOwn row (queued queue r)

module _ (row : LockState) (r : StoredResource) (own : AreItsOwnOn row r) where
  -- its rows in each queue, and in those that hold
  abbrev granted : List LockState
  granted = rows_of row.lkid (rows_of_locks r.granted)

  abbrev converting : List LockState
  converting = rows_of row.lkid (rows_of_locks r.converting)

  abbrev waiting : List LockState
  waiting = rows_of row.lkid (rows_of_locks r.waiting)

  if_any_held : IsFirstIfAny row (granted ++ converting)
  if_any_held = if_any_both row granted converting (if_any_of row r.granted (own Granted)) (if_any_of row r.converting (own Conversion))

  if_any_here : IsFirstIfAny row (rows_here row.lkid r)
  if_any_here = if_any_both row (granted ++ converting) waiting if_any_held (if_any_of row r.waiting (own Waiting))

  first_here : (queue : Queue) (k : StoredLock) → IsIn k (queued queue r) → k.row ≡ row → IsFirst row (rows_here row.lkid r)
  first_here Granted k among is =
      first_before row (granted ++ converting) waiting (first_before row granted converting (first_of row r.granted k (own Granted) among is))
  first_here Conversion k among is =
      first_before row (granted ++ converting) waiting
      (first_behind row granted converting (if_any_of row r.granted (own Granted)) (first_of row r.converting k (own Conversion) among is))
  first_here Waiting k among is = first_behind row (granted ++ converting) waiting if_any_held (first_of row r.waiting k (own Waiting) among is)

first_among : (row : LockState) (rs : List StoredResource) → ((r : StoredResource) → IsIn r rs → AreItsOwnOn row r)
    → (r : StoredResource) → IsIn r rs → (queue : Queue) (k : StoredLock) → IsIn k (queued queue r) → k.row ≡ row
    → IsFirst row (all_rows_of row.lkid (map plain_resource rs))
first_among row [] own r among queue k here is = absurd among
first_among row (x ∷ rest) own r among queue k here is =
    elim among [
      | inl same ↦
          first_before row (rows_here row.lkid x) (all_rows_of row.lkid (map plain_resource rest))
          (first_here row x (own x (inl refl)) queue k (subst (λ (y : StoredResource). IsIn k (queued queue y)) (sym same) here) is)
      | inr there ↦
          first_behind row (rows_here row.lkid x) (all_rows_of row.lkid (map plain_resource rest)) (if_any_here row x (own x (inl refl)))
          (first_among row rest (λ y later. own y (inr later)) r there queue k here is)
    ]

-- where no lock has the ID there are none
none_among : (lkid : ℕ) (rs : List StoredResource) → ((r : StoredResource) → IsIn r rs → (queue : Queue) → IsAbsent lkid (queued queue r))
    → all_rows_of lkid (map plain_resource rs) ≡ []
none_among lkid [] none = refl
none_among lkid (r ∷ rest) none =
    rw (
      rows-absent lkid r.granted (none r (inl refl) Granted),
      rows-absent lkid r.converting (none r (inl refl) Conversion),
      rows-absent lkid r.waiting (none r (inl refl) Waiting),
    ) (none_among lkid rest (λ x there. none x (inr there)))

-- ---- the parent lock

-- no stored lock has this ID
abbrev pub IsNowhere : ℕ → Records → Type 0
IsNowhere lkid s = (at : ℕ) (row : LockState) → Stores s at row → row.lkid ≢ lkid

-- some stored lock has this ID
abbrev pub IsSomewhere : ℕ → Records → Type 0
IsSomewhere lkid s = (at : ℕ) × (row : LockState) × (Stores s at row × (row.lkid ≡ lkid))

module _ (s : Records) (sound : IsSound s) where
  -- the parent lock of a lock is the one that its row names
  pub parent_named : (at : ℕ) (row : LockState) → Stores s at row → parent_of row.lkid (plain_resources s) ≡ row.parent
  unfolding parent_of
  parent_named at row stored =
      ap (λ (rows : List LockState). option_map_or (λ (x : LockState). x.parent) (slice_get rows 0) 0) first.1
    where
      own : (r : StoredResource) → IsIn r s.resources → AreItsOwnOn row r
      own r among queue k here same =
          let there : Stores s k.at k.row = queued_stored s sound r among queue k here in
          one_lock s sound at k.row row (subst (λ h. Stores s h k.row) (sound.lkids_apart k.at at k.row row (inl there) (inl stored) same) there) stored

      first : IsFirst row (all_rows_of row.lkid (plain_resources s))
      first =
          let stands = in_queue s at row stored in
          first_among row s.resources own stands.resource stands.there stands.queue (record { at = at; row = row }) stands.among refl

  -- what is no lock has none
  pub parent_nowhere : (lkid : ℕ) → IsNowhere lkid s → parent_of lkid (plain_resources s) ≡ 0
  unfolding parent_of
  parent_nowhere lkid none =
      ap (λ (rows : List LockState). option_map_or (λ (x : LockState). x.parent) (slice_get rows 0) 0)
      (none_among lkid s.resources (λ r among queue k here. none k.at k.row (queued_stored s sound r among queue k here)))

-- what is its own parent is below no other
pub below_no_other : (resources : List Resource) (levels top lkid : ℕ) → parent_of lkid resources ≡ lkid → lkid ≢ top
    → is_below levels top resources lkid ≡ false
below_no_other resources zero top lkid own other = refl
below_no_other resources (suc levels) top lkid own other =
    ap (λ up. (up == top) || is_below levels top resources up) own ∙ ap (λ b. b || is_below levels top resources lkid) (ne_eqb lkid top other)
    ∙ below_no_other resources levels top lkid own other

-- ---- whether a lock has the ID

in_locks : (lkid : ℕ) (locks : List StoredLock) → ((k : StoredLock) × (IsIn k locks × (k.row.lkid ≡ lkid))) ⊎ IsAbsent lkid locks
in_locks lkid [] = inr (λ k none same. none)
in_locks lkid (k ∷ rest) =
    elim (cases_eq k.row.lkid lkid) [
      | inl same ↦ inl (k, (inl refl, same))
      | inr differs ↦ elim (in_locks lkid rest) [
        | inl found ↦ inl (found.0, (inr found.1.0, found.1.1))
        | inr none ↦ inr (none_of differs none)
      ]
    ]
  where
    none_of : k.row.lkid ≢ lkid → IsAbsent lkid rest → IsAbsent lkid (k ∷ rest)
    none_of differs none x (inl here) same = differs (ap (λ (y : StoredLock). y.row.lkid) here ∙ same)
    none_of differs none x (inr there) same = none x there same

-- a lock with the ID, in a queue of the resource
abbrev IsOnOne : ℕ → StoredResource → Type 0
IsOnOne lkid r = (queue : Queue) × (k : StoredLock) × (IsIn k (queued queue r) × (k.row.lkid ≡ lkid))

on_resource : (lkid : ℕ) (r : StoredResource) → IsOnOne lkid r ⊎ ((queue : Queue) → IsAbsent lkid (queued queue r))
on_resource lkid r =
    elim (in_locks lkid r.granted) [
      | inl found ↦ inl (Granted, found.0, found.1)
      | inr not_granted ↦ elim (in_locks lkid r.converting) [
        | inl found ↦ inl (Conversion, found.0, found.1)
        | inr not_converting ↦ elim (in_locks lkid r.waiting) [
          | inl found ↦ inl (Waiting, found.0, found.1)
          | inr not_waiting ↦ inr (none_of not_granted not_converting not_waiting)
        ]
      ]
    ]
  where
    none_of : IsAbsent lkid r.granted → IsAbsent lkid r.converting → IsAbsent lkid r.waiting → (queue : Queue) → IsAbsent lkid (queued queue r)
    none_of not_granted not_converting not_waiting Granted = not_granted
    none_of not_granted not_converting not_waiting Conversion = not_converting
    none_of not_granted not_converting not_waiting Waiting = not_waiting

on_some : (lkid : ℕ) (rs : List StoredResource)
    → ((r : StoredResource) × (IsIn r rs × IsOnOne lkid r)) ⊎ ((r : StoredResource) → IsIn r rs → (queue : Queue) → IsAbsent lkid (queued queue r))
on_some lkid [] = inr (λ r none queue. absurd none)
on_some lkid (r ∷ rest) =
    elim (on_resource lkid r) [
      | inl found ↦ inl (r, (inl refl, found))
      | inr none ↦ elim (on_some lkid rest) [
        | inl found ↦ inl (found.0, (inr found.1.0, found.1.1))
        | inr later ↦ inr (none_of none later)
      ]
    ]
  where
    none_of : ((queue : Queue) → IsAbsent lkid (queued queue r)) → ((x : StoredResource) → IsIn x rest → (queue : Queue) → IsAbsent lkid (queued queue x))
        → (x : StoredResource) → IsIn x (r ∷ rest) → (queue : Queue) → IsAbsent lkid (queued queue x)
    none_of none later x (inl here) queue = subst (λ (y : StoredResource). IsAbsent lkid (queued queue y)) here (none queue)
    none_of none later x (inr there) queue = later x there queue

-- some lock has an ID or none has it
pub somewhere_or_not : (s : Records) → IsSound s → (lkid : ℕ) → IsSomewhere lkid s ⊎ IsNowhere lkid s
somewhere_or_not s sound lkid =
    elim (on_some lkid s.resources) [
      | inl found ↦ (let k : StoredLock = found.1.1.1 in
          inl (k.at, k.row, (queued_stored s sound found.0 found.1.0 found.1.1.0 k found.1.1.2.0, found.1.1.2.1)))
      | inr none ↦ inr (λ at row stored same.
          let stands = in_queue s at row stored in
          none stands.resource stands.there stands.queue (record { at = at; row = row }) stands.among same)
    ]

-- ---- parents before their sublocks

-- each stored parent has a lower ID than a lock that names it
abbrev pub ParentsComeFirst : Records → Type 0
ParentsComeFirst s = (at other : ℕ) (sub up : LockState) → Stores s at sub → Stores s other up → sub.parent ≢ 0 → sub.parent ≡ up.lkid → up.lkid < sub.lkid

-- between two steps they do
pub parents_come_first : (s : Records) → IsSound s → IsAtRest s → ParentsComeFirst s
parents_come_first s sound rest at other sub up stored stored_up has is =
    let parent = sound.owned.named at sub (inl stored) has in
    let same : parent.1.at ≡ other = sound.lkids_apart parent.1.at other parent.2 up parent.3.3 (inl stored_up) (parent.3.4 ∙ is) in
    let up_there : Stores s parent.1.at up = subst (λ h. Stores s h up) (sym same) stored_up in
    ((rest.rising parent.0 parent.3.0).sublocks parent.1 parent.3.1).0 at parent.3.2 up sub up_there stored
