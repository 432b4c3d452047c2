-- Conversions and dequeues as they are admitted.
use Rattle.std.proofs.Common.{◌≡◌, ◌≢◌, ℕ, Bool, true, false, not, ◌||◌, ◌&&◌, cond, List, [], ◌∷◌, map, find, Option}
use Rattle.std.proofs.Common.{None, Some, refl, sym, ap, ◌∙◌, subst, inl, inr}
use Rattle.std.specs.List.{list_any}
use Rattle.std.proofs.lemmas.Bool.{cases_eq, or_right}
use Rattle.std.specs.Prelude.{◌==◌, is_some}
use Rattle.vlm_words.specs.declared.conditions.Cond.{Cond}
use Rattle.vlm_words.specs.declared.conditions.Cond.TheVariants.{Cancelgrant}
use Rattle.vlm_words.specs.declared.locks.Request.{Request}
use Rattle.vlm_words.specs.declared.locks.LockState.{LockState}
use Rattle.vlm_words.specs.declared.resources.Queue.{Queue}
use Rattle.vlm_words.specs.declared.resources.Queue.TheVariants.{Granted}
use Rattle.vlm_words.specs.declared.steps.Conversion.{Conversion}
use Rattle.vlm_words.specs.declared.steps.Dequeue.{Dequeue}
use Rattle.vlm_model.specs.Convert.{ConversionAdmission, admission_among, admission_or, convert_admission, convert_lkid, convert_request}
use Rattle.vlm_model.specs.Checks.{lock_refusal, or_else}
use Rattle.vlm_model.specs.Dequeue.{cancel_refusal, dequeue_lkid, dequeued_lock_refusal, is_granted, is_mixed, sublocks_refusal}
use Rattle.vlm_words.specs.Flags.{cancel, deqall, has_flag}
use Rattle.vlm_words.specs.State.{State}
use Rattle.vlm_words.specs.Rows.{is_lock_of}
use Rattle.vlm_collections.specs.Lists.{IsIn}
use Rattle.vlm_store.specs.Plain.{plain_resource, plain_resources}
use Rattle.vlm_store.specs.Records.{IsSound, Records, StoredResource, queued, rows_of_locks}
use Rattle.vlm_locks.proofs.FoundByHandle.{resource_alone, resource_at-at}
use Rattle.vlm_locks.specs.declared.located_locks.LocatedLock.{LocatedLock}
use Rattle.vlm_locks.specs.Converting.{admission_on}
use Rattle.vlm_locks.specs.Standing.{IsLocated, IsLocatedLockOf}
use Rattle.vlm_locks.proofs.FoundInLists.{IsAbsent, any-absent, any-among, find-absent, find-only}
use Rattle.vlm_locks.proofs.QueuedLocks.{absent, only, own_among}
use Rattle.vlm_machine.specs.Admissions.{IsAdmittedDequeue, later_refusal, refusal_alone}
use Rattle.vlm_machine.specs.Machine.{MachineState, plain_state}

module _ (s : Records) (sound : IsSound s) (f : LocatedLock) (located : IsLocated f s) where
  -- the resource of the lock
  abbrev own : StoredResource
  own = located.resource

  -- a lock that is granted stands in the granted queue of its resource
  in_granted : f.queue ≡ Granted → IsIn (record { at = f.lock; row = f.row }) own.granted
  in_granted granted = subst (λ (queue : Queue). IsIn (record { at = f.lock; row = f.row }) (queued queue own)) granted located.among

  -- a lock that is not granted stands in no granted queue
  in_no_granted : f.queue ≢ Granted → (r : StoredResource) → IsIn r s.resources → IsAbsent f.row.lkid r.granted
  in_no_granted ungranted r among = absent s sound f located r among Granted (λ e. ungranted (cc))

  -- a lock stands in the granted queue of no other resource than its own
  on_no_other : (r : StoredResource) → IsIn r s.resources → r.at ≢ f.res → IsAbsent f.row.lkid r.granted
  on_no_other r among differs = absent s sound f located r among Granted (λ e. differs (cc))

  -- the conversion that is asked for, among these resources
  abbrev admits : Request → List StoredResource → Option ConversionAdmission
  admits asked rs = admission_among asked f.row.pid f.row.lkid (map plain_resource rs)

  -- the lock in the granted queue of this resource
  abbrev granted_row : StoredResource → Option LockState
  granted_row r = find (is_lock_of f.row.pid f.row.lkid) (rows_of_locks r.granted)

  -- the conversion of a granted lock is admitted on its resource
  pub admitted_here : (asked : Request) → f.queue ≡ Granted
      → admission_among asked f.row.pid f.row.lkid (plain_resources s) ≡ Some (admission_on f asked located.resource)
  admitted_here asked granted = of_list s.resources (λ r here. here) (own_among s sound f located)
    where
      found : granted_row own ≡ Some f.row
      found = find-only (record { at = f.lock; row = f.row }) own.granted
          (only s sound f located own (own_among s sound f located) Granted) (in_granted granted)

      of_list : (rs : List StoredResource) → ((r : StoredResource) → IsIn r rs → IsIn r s.resources) → IsIn own rs
          → admits asked rs ≡ Some (admission_on f asked own)
      of_list [] within among = absurd among
      of_list (r ∷ rest) within among =
          elim (cases_eq r.at f.res) [
            | inl same ↦
                ap (λ (x : StoredResource). admission_or asked (plain_resource x) (granted_row x) (admits asked rest))
                (resource_alone f.res s.resources own r sound.resources_apart located.found (within r (inl refl)) same)
                ∙ ap (λ o. admission_or asked (plain_resource own) o (admits asked rest)) found
            | inr differs ↦ elim among [
              | inl here ↦ absurd (differs (ap (λ (x : StoredResource). x.at) here ∙ resource_at-at f.res s.resources own located.found))
              | inr there ↦
                  ap (λ o. admission_or asked (plain_resource r) o (admits asked rest))
                  (find-absent f.row.pid f.row.lkid r.granted (on_no_other r (within r (inl refl)) differs))
                  ∙ of_list rest (λ x later. within x (inr later)) there
            ]
          ]

  -- the conversion of a lock that is not granted is admitted nowhere
  pub admitted_nowhere : (asked : Request) → f.queue ≢ Granted → admission_among asked f.row.pid f.row.lkid (plain_resources s) ≡ None
  admitted_nowhere asked ungranted = of_list s.resources (λ r here. here)
    where
      of_list : (rs : List StoredResource) → ((r : StoredResource) → IsIn r rs → IsIn r s.resources) → admits asked rs ≡ None
      of_list [] within = refl
      of_list (r ∷ rest) within =
          ap (λ o. admission_or asked (plain_resource r) o (admits asked rest))
          (find-absent f.row.pid f.row.lkid r.granted (in_no_granted ungranted r (within r (inl refl))))
          ∙ of_list rest (λ x later. within x (inr later))

  -- the lock is granted on this resource
  abbrev holds : StoredResource → Bool
  holds r = list_any (is_lock_of f.row.pid f.row.lkid) (rows_of_locks r.granted)

  -- a lock in the granted queue is granted
  pub granted_here : f.queue ≡ Granted → is_granted f.row.pid f.row.lkid (plain_resources s) ≡ true
  granted_here granted = of_list s.resources (own_among s sound f located)
    where
      of_list : (rs : List StoredResource) → IsIn own rs → is_granted f.row.pid f.row.lkid (map plain_resource rs) ≡ true
      of_list [] among = absurd among
      of_list (r ∷ rest) among =
          elim among [
            | inl here ↦
                ap (λ (x : StoredResource). holds x || is_granted f.row.pid f.row.lkid (map plain_resource rest)) here
                ∙ ap (λ b. b || is_granted f.row.pid f.row.lkid (map plain_resource rest))
                (any-among (record { at = f.lock; row = f.row }) own.granted (in_granted granted))
            | inr there ↦ or_right (holds r) (is_granted f.row.pid f.row.lkid (map plain_resource rest)) (of_list rest there)
          ]

  -- a lock in another queue is granted nowhere
  pub granted_nowhere : f.queue ≢ Granted → is_granted f.row.pid f.row.lkid (plain_resources s) ≡ false
  granted_nowhere ungranted = of_list s.resources (λ r here. here)
    where
      of_list : (rs : List StoredResource) → ((r : StoredResource) → IsIn r rs → IsIn r s.resources)
          → is_granted f.row.pid f.row.lkid (map plain_resource rs) ≡ false
      of_list [] within = refl
      of_list (r ∷ rest) within =
          ap (λ b. b || is_granted f.row.pid f.row.lkid (map plain_resource rest))
          (any-absent f.row.pid f.row.lkid r.granted (in_no_granted ungranted r (within r (inl refl))))
          ∙ of_list rest (λ x later. within x (inr later))

module _ (m : MachineState) (sound : IsSound m.records) (c : Conversion) (f : LocatedLock)
    (located : IsLocatedLockOf c.pid (convert_lkid (plain_state m) c) f m.records) where
  -- the conversion by the lock that stands
  by_lock : (asked : Request) → asked ≡ convert_request (plain_state m) c
      → convert_admission (plain_state m) c ≡ admission_among asked f.row.pid f.row.lkid (plain_resources m.records)
  unfolding convert_admission
  by_lock asked is =
      ap (λ q. admission_among q c.pid (convert_lkid (plain_state m) c) (plain_resources m.records)) (sym is)
      ∙ ap (λ pid. admission_among asked pid (convert_lkid (plain_state m) c) (plain_resources m.records)) (sym located.owned)
      ∙ ap (λ lkid. admission_among asked f.row.pid lkid (plain_resources m.records)) (sym located.named)

  -- a conversion of a granted lock is admitted
  pub is_admitted : (asked : Request) → asked ≡ convert_request (plain_state m) c → f.queue ≡ Granted
      → convert_admission (plain_state m) c ≡ Some (admission_on f asked located.located.resource)
  is_admitted asked is granted = by_lock asked is ∙ admitted_here m.records sound f located.located asked granted

  -- and one of another lock is not
  pub not_admitted : f.queue ≢ Granted → convert_admission (plain_state m) c ≡ None
  not_admitted ungranted = by_lock (convert_request (plain_state m) c) refl
      ∙ admitted_nowhere m.records sound f located.located (convert_request (plain_state m) c) ungranted

module _ (m : MachineState) (sound : IsSound m.records) (d : Dequeue) (f : LocatedLock) (admitted : IsAdmittedDequeue m d f) where
  -- whether the lock is granted, by the lock that stands
  is_by_lock : is_granted d.pid (dequeue_lkid (plain_state m) d) (plain_resources m.records) ≡ is_granted f.row.pid f.row.lkid (plain_resources m.records)
  is_by_lock =
      ap (λ pid. is_granted pid (dequeue_lkid (plain_state m) d) (plain_resources m.records)) (sym admitted.located.owned)
      ∙ ap (λ lkid. is_granted f.row.pid lkid (plain_resources m.records)) (sym admitted.located.named)

  -- the cancel of a granted lock is refused
  pub cancel_refused : has_flag d.flags cancel ≡ true → f.queue ≡ Granted → cancel_refusal (plain_state m) d ≡ Some Cancelgrant
  unfolding cancel_refusal
  cancel_refused cancels granted = rw (cancels, is_by_lock ∙ granted_here m.records sound f admitted.located.located granted) refl

  -- the cancel of another lock is not
  pub cancel_passes : f.queue ≢ Granted → cancel_refusal (plain_state m) d ≡ None
  unfolding cancel_refusal
  cancel_passes ungranted = rw (is_by_lock ∙ granted_nowhere m.records sound f admitted.located.located ungranted) (of_flag (has_flag d.flags cancel))
    where
      of_flag : (b : Bool) → cond (b && false) (Some Cancelgrant) None ≡ None
      of_flag true = refl
      of_flag false = refl

-- nor is a dequeue that cancels nothing
pub dequeue_passes : (s : State) (d : Dequeue) → has_flag d.flags cancel ≡ false → cancel_refusal s d ≡ None
unfolding cancel_refusal
dequeue_passes s d keeps = rw keeps refl

-- the later checks of a dequeue of one lock
pub later_alone : (s : State) (d : Dequeue) → has_flag d.flags deqall ≡ false
    → later_refusal s d ≡ or_else (lock_refusal s d.pid (dequeue_lkid s d)) (refusal_alone s d)
unfolding dequeued_lock_refusal
later_alone s d alone =
    let one : (has_flag d.flags cancel || has_flag d.flags deqall) ≡ has_flag d.flags cancel = rw alone (or_false (has_flag d.flags cancel)) in
    rw (one, alone) refl
  where
    or_false : (b : Bool) → (b || false) ≡ b
    or_false true = refl
    or_false false = refl

-- the later checks of a dequeue with DEQALL that cancels nothing
pub later_of_all : (s : State) (d : Dequeue) → has_flag d.flags deqall ≡ true → has_flag d.flags cancel ≡ false
    → later_refusal s d ≡ cond (dequeue_lkid s d == 0) None (lock_refusal s d.pid (dequeue_lkid s d))
unfolding dequeued_lock_refusal cancel_refusal sublocks_refusal
later_of_all s d all goes = rw (all, goes) (nothing_more (cond (dequeue_lkid s d == 0) None (lock_refusal s d.pid (dequeue_lkid s d))))
  where
    nothing_more : (o : Option Cond) → or_else o None ≡ o
    nothing_more None = refl
    nothing_more (Some refusal) = refl

-- where DEQALL comes with what it goes with, it cancels nothing
pub cancels_nothing : (d : Dequeue) → has_flag d.flags deqall ≡ true → is_mixed d ≡ false → has_flag d.flags cancel ≡ false
cancels_nothing d all fitting = of_tests (has_flag d.flags deqall) (has_flag d.flags cancel) (is_some d.value)
    (is_some d.tail && not (is_some d.value)) all fitting
  where
    of_tests : (a b c t : Bool) → a ≡ true → ((a && (b || c)) || t) ≡ false → b ≡ false
    of_tests true true c t is none = cc
    of_tests true false c t is none = refl
    of_tests false b c t is none = cc

-- and it gives no value and no tail
pub gives_nothing : (d : Dequeue) → has_flag d.flags deqall ≡ true → is_mixed d ≡ false → (d.value ≡ None) × (d.tail ≡ None)
gives_nothing d all fitting = of_tests (has_flag d.flags deqall) (has_flag d.flags cancel) d.value d.tail all fitting
  where
    of_tests : (a b : Bool) (value tail : Option (List ℕ)) → a ≡ true → ((a && (b || is_some value)) || (is_some tail && not (is_some value))) ≡ false
        → (value ≡ None) × (tail ≡ None)
    of_tests true true value tail is none = cc
    of_tests true false None None is none = (refl, refl)
    of_tests true false None (Some tail) is none = cc
    of_tests true false (Some value) tail is none = cc
    of_tests false b value tail is none = cc
