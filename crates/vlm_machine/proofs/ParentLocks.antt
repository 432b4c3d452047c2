-- The parent lock of a request, in the records and in the plain machine.
use Rattle.std.proofs.Common.{◌≡◌, ◌≢◌, ◌<◌, ◌≤◌, ◌+◌, ℕ, Bool, true, false, ◌||◌, cond, List, [], ◌∷◌, map, find}
use Rattle.std.proofs.Common.{Option, None, Some, IfSome, refl, sym, ap, ◌∙◌, subst, inl, inr, eq-eqb, ne_eqb, arith}
use Rattle.std.specs.Prelude.{◌==◌, All, nat_lt}
use Rattle.std.specs.List.{AllByRecursion, list_any}
use Rattle.std.specs.Option.{option_map}
use Rattle.std.proofs.lemmas.Bool.{cases_eq, or_right}
use Rattle.std.proofs.lemmas.Bool.Decides.{nat_tests}
use Rattle.std.proofs.lemmas.Option.{same_Some}
use Rattle.std.proofs.lemmas.List.Elements.{recursion_from_All}
use Rattle.vlm_words.specs.declared.conditions.Cond.TheVariants.{Exdepth, Parnotgrant}
use Rattle.vlm_words.specs.declared.conditions.Cond.{Cond}
use Rattle.vlm_words.specs.declared.locks.LockState.{LockState}
use Rattle.vlm_words.specs.declared.resources.Domain.{Domain}
use Rattle.vlm_words.specs.declared.resources.Key.TheVariants.{Below}
use Rattle.vlm_words.specs.declared.resources.Queue.{Queue}
use Rattle.vlm_words.specs.declared.resources.Queue.TheVariants.{Granted, Conversion, Waiting}
use Rattle.vlm_model.specs.Checks.{holds_lock, lock_refusal, or_else}
use Rattle.vlm_words.specs.Rows.{is_lock_of}
use Rattle.vlm_words.specs.State.{Resource, State}
use Rattle.vlm_words.specs.Flags.{flag_bits}
use Rattle.vlm_words.specs.declared.steps.NewRequest.{NewRequest}
use Rattle.vlm_model.specs.Trees.{depth_refusal, enq_site, parent_refusal, parent_resource, root_domain, site_below, waiting_refusal}
use Rattle.vlm_model.proofs.PassedChecks.{both_pass, test_passes}
use Rattle.vlm_collections.specs.Lists.{IsIn}
use Rattle.vlm_records.specs.declared.handles.Place.TheVariants.{Queued}
use Rattle.vlm_store.specs.Plain.{plain_resource, plain_resources}
use Rattle.vlm_store.specs.Records.{IsParentOf, IsSound, Records, StoredResource, Stores, queued, resource_at, rows_of_locks}
use Rattle.vlm_locks.proofs.FoundByHandle.{resource_alone, resource_at-at}
use Rattle.vlm_locks.specs.declared.located_locks.LocatedLock.{LocatedLock}
use Rattle.vlm_locks.specs.Standing.{IsLocated, IsLocatedLockOf}
use Rattle.vlm_locks.proofs.FoundInLists.{any-absent, any-among}
use Rattle.vlm_locks.proofs.QueuedLocks.{absent, own_among, stored}
use Rattle.vlm_machine.specs.declared.new_requests.RequestForm.{RequestForm}
use Rattle.vlm_machine.specs.Admissions.{IsRequestForm}
use Rattle.vlm_machine.specs.Machine.{MachineState, plain_state}
use Rattle.vlm_machine.specs.declared.parents.Parent.{Parent}
use Rattle.vlm_machine.specs.Parents.{IsParent, IsParentLock}

-- what is so of each plain resource is so of each stored one
pub each_resource : (P : Resource → Type 0) (rs : List StoredResource) → AllByRecursion P (map plain_resource rs)
    → (r : StoredResource) → IsIn r rs → P (plain_resource r)
each_resource P [] each r among = absurd among
each_resource P (x ∷ rest) each r among =
    elim among [
      | inl here ↦ subst (λ (y : StoredResource). P (plain_resource y)) here each.0
      | inr there ↦ each_resource P rest each.1 r there
    ]

-- what is told of an option, where it is there
pub of_some : {X : Type 0} (P : X → Type 0) (o : Option X) (x : X) → o ≡ Some x → IfSome o P → P x
of_some P o x is told = subst (λ q. IfSome q P) is told

module _ (s : Records) (sound : IsSound s) (f : LocatedLock) (located : IsLocated f s) where
  -- the lock is in this queue of the resource
  abbrev is_in : Queue → StoredResource → Bool
  is_in queue r = list_any (is_lock_of f.row.pid f.row.lkid) (rows_of_locks (queued queue r))

  -- it is in no queue but its own
  not_in : (r : StoredResource) → IsIn r s.resources → (queue : Queue) → Queued r.at queue ≢ Queued f.res f.queue → is_in queue r ≡ false
  not_in r among queue differs = any-absent f.row.pid f.row.lkid (queued queue r) (absent s sound f located r among queue differs)

  -- it is in its own
  in_own : (queue : Queue) → f.queue ≡ queue → is_in queue located.resource ≡ true
  in_own queue is =
      any-among (record { at = f.lock; row = f.row }) (queued queue located.resource)
      (subst (λ (q : Queue). IsIn (record { at = f.lock; row = f.row }) (queued q located.resource)) is located.among)

  -- it waits where its queue is the waiting one
  pub waits : f.queue ≡ Waiting → is_in Waiting located.resource ≡ true
  waits is = in_own Waiting is

  pub waits_not : f.queue ≢ Waiting → is_in Waiting located.resource ≡ false
  waits_not differs = not_in located.resource (own_among s sound f located) Waiting (λ e. differs (cc))

  -- its resource holds it
  holds_own : (queue : Queue) → f.queue ≡ queue → holds_lock f.row.pid f.row.lkid (plain_resource located.resource) ≡ true
  holds_own Granted is = rw (in_own Granted is) refl
  holds_own Conversion is =
      ap (λ b. b || is_in Waiting located.resource) (or_right (is_in Granted located.resource) (is_in Conversion located.resource) (in_own Conversion is))
  holds_own Waiting is = or_right (is_in Granted located.resource || is_in Conversion located.resource) (is_in Waiting located.resource) (in_own Waiting is)

  -- no other does
  holds_not : (r : StoredResource) → IsIn r s.resources → r.at ≢ f.res → holds_lock f.row.pid f.row.lkid (plain_resource r) ≡ false
  holds_not r among differs =
      rw (not_in r among Granted (λ e. differs (cc)), not_in r among Conversion (λ e. differs (cc)), not_in r among Waiting (λ e. differs (cc))) refl

  -- so it is the one that is found
  pub holder_is : find (holds_lock f.row.pid f.row.lkid) (plain_resources s) ≡ Some (plain_resource located.resource)
  holder_is = of_list s.resources (λ r here. here) (own_among s sound f located)
    where
      of_list : (rs : List StoredResource) → ((r : StoredResource) → IsIn r rs → IsIn r s.resources) → IsIn located.resource rs
          → find (holds_lock f.row.pid f.row.lkid) (map plain_resource rs) ≡ Some (plain_resource located.resource)
      of_list [] within among = absurd among
      of_list (r ∷ rest) within among =
          elim (cases_eq r.at f.res) [
            | inl same ↦
                ap (λ (x : StoredResource). cond (holds_lock f.row.pid f.row.lkid (plain_resource x))
                (Some (plain_resource x)) (find (holds_lock f.row.pid f.row.lkid) (map plain_resource rest)))
                (resource_alone f.res s.resources located.resource r sound.resources_apart located.found (within r (inl refl)) same)
                ∙ ap (λ b. cond b (Some (plain_resource located.resource))
                (find (holds_lock f.row.pid f.row.lkid) (map plain_resource rest))) (holds_own f.queue refl)
            | inr differs ↦ elim among [
              | inl here ↦ absurd (differs (ap (λ (x : StoredResource). x.at) here ∙ resource_at-at f.res s.resources located.resource located.found))
              | inr there ↦
                  ap (λ b. cond b (Some (plain_resource r))
                  (find (holds_lock f.row.pid f.row.lkid) (map plain_resource rest)))
                  (holds_not r (within r (inl refl)) differs)
                  ∙ of_list rest (λ x later. within x (inr later)) there
            ]
          ]

-- the resource of a parent that is named is that of its lock
pub parent_found : (m : MachineState) → IsSound m.records → (f : LocatedLock) (located : IsLocated f m.records) (pid : ℕ) → f.row.pid ≡ pid → f.row.lkid ≢ 0
    → parent_resource (plain_state m) pid f.row.lkid ≡ Some (plain_resource located.resource)
unfolding parent_resource
parent_found m sound f located pid owner named =
    ap (λ b. cond b None (find (holds_lock pid f.row.lkid) (plain_resources m.records))) (ne_eqb f.row.lkid 0 named)
    ∙ ap (λ p. find (holds_lock p f.row.lkid) (plain_resources m.records)) (sym owner) ∙ holder_is m.records sound f located

-- where none is named there is none
pub parent_none : (m : MachineState) (pid : ℕ) → parent_resource (plain_state m) pid 0 ≡ None
unfolding parent_resource
parent_none m pid = refl

-- the serial of a stored resource is none of 0
pub serial_from_1 : (s : Records) → All (λ (r : Resource). 0 < r.serial) (plain_resources s) → (r : StoredResource) → IsIn r s.resources → 0 < r.serial
serial_from_1 s all r among =
    each_resource (λ x. 0 < x.serial) s.resources (recursion_from_All (λ (x : Resource). 0 < x.serial) (plain_resources s) all) r among

-- where the resource of a request stands, by what the request says of itself
pub site_is : (s : State) (e : NewRequest) (form : RequestForm) (pid parent : ℕ) → IsRequestForm s e form → pid ≡ e.pid → parent ≡ form.parent
    → site_below (root_domain s pid (flag_bits form.flags)) e.name (parent_resource s pid parent) ≡ enq_site s e
site_is s e form pid parent is owner named =
    ap (λ p. site_below (root_domain s p (flag_bits form.flags)) e.name (parent_resource s p parent)) owner
    ∙ ap (λ flags. site_below (root_domain s e.pid flags) e.name (parent_resource s e.pid parent)) is.flags
    ∙ ap (λ lkid. site_below (root_domain s e.pid e.flags) e.name (parent_resource s e.pid lkid)) (named ∙ is.parent)

-- ---- the checks of a parent

module _ (s : Records) (sound : IsSound s) (f : LocatedLock) (located : IsLocated f s) (r : StoredResource)
    (found : resource_at f.res s.resources ≡ Some r) where
  -- the resource is that of the lock
  here : r ≡ located.resource
  here = same_Some r located.resource (sym found ∙ located.found)

  -- whether it waits there
  waiting_here : (b : Bool) → is_in s sound f located Waiting located.resource ≡ b
      → waiting_refusal f.row.pid f.row.lkid (Some (plain_resource r)) ≡ cond b (Some Parnotgrant) None
  unfolding waiting_refusal
  waiting_here b is = ap (λ (x : StoredResource). waiting_refusal f.row.pid f.row.lkid (Some (plain_resource x))) here
      ∙ ap (λ w. cond w (Some Parnotgrant) None) is

  -- a parent that waits is refused
  pub refused_waiting : f.queue ≡ Waiting
      → Some Parnotgrant ≡ or_else (waiting_refusal f.row.pid f.row.lkid (Some (plain_resource r))) (depth_refusal (Some (plain_resource r)))
  refused_waiting is = sym (ap (λ refusal. or_else refusal (depth_refusal (Some (plain_resource r)))) (waiting_here true (waits s sound f located is)))

  -- of another one the level decides
  pub refused_depth : f.queue ≢ Waiting
      → depth_refusal (Some (plain_resource r)) ≡ or_else
      (waiting_refusal f.row.pid f.row.lkid (Some (plain_resource r))) (depth_refusal (Some (plain_resource r)))
  refused_depth differs =
      sym (ap (λ refusal. or_else refusal (depth_refusal (Some (plain_resource r))))
      (waiting_here false (waits_not s sound f located differs)))

-- a resource that is not refused for its level is above the lowest
above_is : (r : StoredResource) → depth_refusal (Some (plain_resource r)) ≡ None → r.level < 15
unfolding depth_refusal
above_is r passed =
    let above : nat_lt r.level 15 ≡ true = test_passes (nat_lt r.level 15) Exdepth passed in
    grind (arith, nat_tests, above)

-- where neither of two checks refuses, the second passes
second_is : (first later : Option Cond) → or_else first later ≡ None → later ≡ None
second_is first later passed = (both_pass first later passed).1

module _ (m : MachineState) (sound : IsSound m.records) (pid lkid : ℕ) (f : LocatedLock)
    (stands : IsLocatedLockOf pid lkid f m.records) (named : (lkid == 0) ≡ false) where
  -- the lock that is named has an ID
  not_0 : f.row.lkid ≢ 0
  not_0 zero = let no : true ≡ false = sym (eq-eqb lkid 0 (sym stands.named ∙ zero)) ∙ named in cc

  -- the checks of the parent are those of the lock
  pub parent_checked : lock_refusal (plain_state m) pid lkid ≡ None → parent_refusal (plain_state m) pid lkid
      ≡ or_else (waiting_refusal f.row.pid f.row.lkid (Some (plain_resource stands.located.resource)))
      (depth_refusal (Some (plain_resource stands.located.resource)))
  unfolding parent_refusal
  parent_checked own =
      ap (λ b. cond b None (or_else (lock_refusal (plain_state m) pid lkid)
      (or_else (waiting_refusal pid lkid (parent_resource (plain_state m) pid lkid)) (depth_refusal (parent_resource (plain_state m) pid lkid))))) named
      ∙ ap (λ refusal. or_else refusal
      (or_else (waiting_refusal pid lkid (parent_resource (plain_state m) pid lkid)) (depth_refusal (parent_resource (plain_state m) pid lkid)))) own
      ∙ ap (λ up. or_else (waiting_refusal pid lkid up) (depth_refusal up)) there
      ∙ ap (λ p. or_else (waiting_refusal p lkid (Some (plain_resource stands.located.resource)))
      (depth_refusal (Some (plain_resource stands.located.resource)))) (sym stands.owned)
      ∙ ap (λ n. or_else (waiting_refusal f.row.pid n (Some (plain_resource stands.located.resource)))
      (depth_refusal (Some (plain_resource stands.located.resource)))) (sym stands.named)
    where
      there : parent_resource (plain_state m) pid lkid ≡ Some (plain_resource stands.located.resource)
      there = ap (parent_resource (plain_state m) pid) (sym stands.named) ∙ parent_found m sound f stands.located pid stands.owned not_0

  -- a lock that passes them is a parent
  pub parent_stands : None ≡ or_else
      (waiting_refusal f.row.pid f.row.lkid (Some (plain_resource stands.located.resource)))
      (depth_refusal (Some (plain_resource stands.located.resource)))
      → (parent : Parent) → f.lock ≡ parent.lock → f.res ≡ parent.res → IsParentLock pid lkid parent m.records
  parent_stands passed parent handle resource = record {
    lock = f;
    located = stands;
    handle = handle;
    resource = resource;
    named = λ zero. not_0 (stands.named ∙ zero);
    above = above_is stands.located.resource
        (second_is (waiting_refusal f.row.pid f.row.lkid (Some (plain_resource stands.located.resource)))
        (depth_refusal (Some (plain_resource stands.located.resource))) (sym passed));
  }

-- the row that names the parent has it
pub parent_of_row : (s : Records) → (pid lkid : ℕ) (parent : Option Parent) → IsParent pid lkid parent s → (row : LockState) → row.parent ≡ lkid
    → IsParentOf (option_map (λ up. up.lock) parent) row s
parent_of_row s pid lkid None is row named = named ∙ is
parent_of_row s pid lkid (Some parent) is row named =
    (is.lock.row, (subst (λ at. Stores s at is.lock.row) is.handle (stored s is.lock is.located.located), is.located.named ∙ sym named))

-- a resource above the lowest level may be a parent
pub shallow : (r : StoredResource) (level : ℕ) → level ≡ r.level → level < 15 → None ≡ depth_refusal (Some (plain_resource r))
unfolding depth_refusal
shallow r level is above =
    let test : nat_lt r.level 15 ≡ true = grind (arith, nat_tests, is, above) in
    sym (ap (λ b. cond b None (Some Exdepth)) test)

-- and one at the lowest may not
pub deep : (r : StoredResource) (level : ℕ) → level ≡ r.level → 15 ≤ level → Some Exdepth ≡ depth_refusal (Some (plain_resource r))
unfolding depth_refusal
deep r level is below =
    let test : nat_lt r.level 15 ≡ false = grind (arith, nat_tests, is, below) in
    sym (ap (λ b. cond b None (Some Exdepth)) test)

-- a site below a resource, by what the records tell of that
pub site_record : (root : Domain) (name : List ℕ) (serial : ℕ) (domain : Domain) (level : ℕ) (r : StoredResource)
    → serial ≡ r.serial → domain ≡ r.domain → level ≡ r.level
    → record { key = Below serial name; domain = domain; level = level + 1 } ≡ site_below root name (Some (plain_resource r))
site_record root name serial domain level r is_serial is_domain is_level =
    ap (λ n. record { key = Below n name; domain = domain; level = level + 1 }) is_serial
    ∙ ap (λ (d : Domain). record { key = Below r.serial name; domain = d; level = level + 1 }) is_domain
    ∙ ap (λ n. record { key = Below r.serial name; domain = r.domain; level = n + 1 }) is_level
