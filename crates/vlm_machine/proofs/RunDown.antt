-- What a rundown needs of the records follows from what holds between two steps.
use Rattle.std.proofs.Common.{◌≡◌, ◌≢◌, ◌<◌, ℕ, List, [], ◌∷◌, ◌++◌, map, Option, None, Some, refl, sym, ap, ◌∙◌, subst, inl, inr, arith}
use Rattle.std.specs.Prelude.{All, Any}
use Rattle.std.specs.List.{AllByRecursion, sum_by}
use Rattle.std.specs.Option.{option_map_or}
use Rattle.vlm_words.specs.declared.locks.LockState.{LockState}
use Rattle.vlm_words.specs.declared.resources.Queue.TheVariants.{Granted}
use Rattle.vlm_model.specs.Laws.{HasItsParent, HoldsOn, IdsAreApart, IsHeld, RowsFit, rows_on}
use Rattle.vlm_words.specs.State.{Resource, State}
use Rattle.vlm_model.proofs.IdsApart.{Apart}
use Rattle.vlm_model.proofs.Each.{Any-cases, Any-none}
use Rattle.vlm_collections.specs.Lists.{IsIn}
use Rattle.vlm_store.specs.Plain.{plain_resource, plain_resources}
use Rattle.vlm_store.specs.Records.{IsSound, Records, StoredLock, StoredResource, Stores, queued, resource_at}
use Rattle.vlm_locks.specs.RunningDown.{GrantedWantNothing, SublocksAreOwn}
use Rattle.vlm_locks.proofs.QueuedLocks.{in_queue, one_lock, queued_stored, resource_among}
use Rattle.vlm_machine.proofs.Childless.{by_recursion, held_stands, of_queue}
use Rattle.vlm_machine.proofs.ParentLocks.{each_resource}
use Rattle.vlm_machine.proofs.FutureIds.{counted_all, counted_on}
use Rattle.vlm_machine.proofs.GrantedWantNothing.{each_of}

-- what one of these images has, one of these has it
some_of : {A B : Type 0} (f : A → B) (P : B → Type 0) (xs : List A) → Any P (map f xs) → (one : A) × (IsIn one xs × P (f one))
some_of f P [] any = absurd (Any-none P any)
some_of f P (x ∷ rest) any =
    elim (Any-cases P (f x) (map f rest) any) [
      | inl here ↦ (x, (inl refl, here))
      | inr there ↦ let found = some_of f P rest there in (found.0, (inr found.1.0, found.1.1))
    ]

-- IDs are apart between two steps, so that what becomes of the resources may be said row by row
pub is_apart : (s : State) → IdsAreApart s → 0 < s.next_lkid → Apart s
is_apart s apart first = record { one_row = apart.one_row; none_is_0 = apart.none_is_0; none_to_come = apart.none_to_come; first = first }

-- granted locks want nothing, where each lock stands in the queue that fits it
pub granted_want_nothing : (s : Records) → All RowsFit (plain_resources s) → GrantedWantNothing s
granted_want_nothing s fit res lock there = of_found (resource_at res s.resources) refl there
  where
    of_found : (found : Option StoredResource) → resource_at res s.resources ≡ found → IsIn lock (option_map_or (queued Granted) found [])
        → lock.row.want ≡ None
    of_found None is here = absurd here
    of_found (Some r) is here =
        let fits : RowsFit (plain_resource r) = each_of plain_resource RowsFit s.resources fit r (resource_among res s.resources r is) in
        let held : IsHeld lock.row = each_of (λ (k : StoredLock). k.row) IsHeld r.granted fits.granted lock here in
        held.1

module _ (s : Records) (sound : IsSound s) where
  -- no lock has the ID 0
  pub none_is_0 : sum_by (rows_on 0) (plain_resources s) ≡ 0 → (at : ℕ) (row : LockState) → Stores s at row → row.lkid ≢ 0
  none_is_0 none at row stored is =
      let there = in_queue s at row stored in
      let one = counted_on 0 there.resource there.queue (record { at = at; row = row }) there.among is in
      let all = counted_all 0 s.resources there.resource there.there in
      absurd (omega (arith, one, all, none))

  -- the lock that holds a mode there is the one on record
  holder_is : (lkid pid at : ℕ) (up : LockState) → Stores s at up → lkid ≡ up.lkid → (r : StoredResource) → IsIn r s.resources
      → HoldsOn lkid pid (plain_resource r) → up.pid ≡ pid
  holder_is lkid pid at up stored names r among holds =
      let held = held_stands r lkid pid holds in
      let k : StoredLock = held.0 in
      let is_stored : Stores s k.at k.row = queued_stored s sound r among held.1 k held.2.0 in
      let same : k.at ≡ at = sound.lkids_apart k.at at k.row up (inl is_stored) (inl stored) (held.2.2 ∙ names) in
      let is : k.row ≡ up = one_lock s sound at k.row up (subst (λ h. Stores s h k.row) same is_stored) stored in
      sym (ap (λ (row : LockState). row.pid) is) ∙ held.2.3

  -- sublocks are of their parents' processes, where each lock of a sub-resource has its parent
  pub sublocks_are_own : sum_by (rows_on 0) (plain_resources s) ≡ 0
      → All (λ r. All (HasItsParent (plain_resources s) r) (r.granted ++ r.converting ++ r.waiting)) (plain_resources s)
      → SublocksAreOwn s
  sublocks_are_own no_lkid_0 parents at other row up stored_row stored_up names =
      let there = in_queue s at row stored_row in
      let r : Resource = plain_resource there.resource in
      let its : HasItsParent (plain_resources s) r row =
      of_queue there.resource there.queue (record { at = at; row = row }) (HasItsParent (plain_resources s) r)
      (each_resource (λ x. AllByRecursion (HasItsParent (plain_resources s) x) (x.granted ++ x.converting ++ x.waiting)) s.resources
      (by_recursion (plain_resources s) parents) there.resource there.there) there.among in
      elim its [
        | inl root ↦ absurd (none_is_0 no_lkid_0 other up stored_up (sym names ∙ root.1))
        | inr below ↦
            (let on = some_of plain_resource (λ x. (x.serial ≡ r.parent) × HoldsOn row.parent row.pid x) s.resources below.2 in
            sym (holder_is row.parent row.pid other up stored_up names on.0 on.1.0 on.1.1.1))
      ]
