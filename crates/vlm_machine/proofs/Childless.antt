-- Locks without sublocks, in the records and in the plain machine.
use Rattle.std.proofs.Common.{◌≡◌, ◌≢◌, ℕ, Bool, true, false, not, ◌||◌, ◌&&◌, cond, List, [], ◌∷◌, ◌++◌, map, None}
use Rattle.std.proofs.Common.{Some, refl, sym, ap, ◌∙◌, subst, inl, inr, eq-eqb, ne_eqb, arith}
use Rattle.std.specs.Prelude.{◌==◌, All, Any}
use Rattle.std.specs.List.{AllByRecursion, list_any, sum_by}
use Rattle.std.proofs.lemmas.List.Elements.{recursion_from_All}
use Rattle.std.proofs.lemmas.Bool.{or_right}
use Rattle.vlm_words.specs.declared.conditions.Cond.TheVariants.{Sublocks}
use Rattle.vlm_words.specs.declared.locks.LockState.{LockState}
use Rattle.vlm_words.specs.declared.resources.Queue.{Queue}
use Rattle.vlm_words.specs.declared.resources.Queue.TheVariants.{Granted, Conversion, Waiting}
use Rattle.vlm_model.specs.Dequeue.{has_sublock, has_sublock_on, sublocks_refusal}
use Rattle.vlm_model.specs.Laws.{HasItsParent, HoldsOn, rows_on}
use Rattle.vlm_words.specs.State.{Resource}
use Rattle.vlm_model.proofs.Each.{Any-cases, Any-none, each_weaker}
use Rattle.vlm_collections.specs.Lists.{IsIn}
use Rattle.vlm_records.specs.declared.handles.Place.TheVariants.{Queued}
use Rattle.vlm_store.specs.Plain.{plain_resource, plain_resources}
use Rattle.vlm_store.specs.Records.{HasNoSublocks, IsSound, OwnLock, Records, StoredLock, StoredProcess, StoredResource}
use Rattle.vlm_store.specs.Records.{Stores, locks_at, queued, rows_of_locks, NoneIsLoose}
use Rattle.vlm_locks.specs.declared.located_locks.LocatedLock.{LocatedLock}
use Rattle.vlm_locks.specs.Standing.{IsLocated}
use Rattle.vlm_locks.specs.Withdrawing.{goes}
use Rattle.vlm_locks.proofs.QueuedLocks.{in_queue, one_lock, queued_stored, stands, stored}
use Rattle.vlm_machine.specs.Machine.{MachineState, plain_state}
use Rattle.vlm_machine.proofs.ParentLocks.{each_resource}
use Rattle.vlm_machine.proofs.FutureIds.{counted_all, counted_on}
use Rattle.vlm_store.proofs.Records.{queue_at, in_a_queue}

-- what holds on a resource stands in its granted or its conversion queue
pub held_stands : (r : StoredResource) (lkid pid : ℕ) → HoldsOn lkid pid (plain_resource r)
    → (k : StoredLock) × (queue : Queue) × (IsIn k (queued queue r) × (queue ≢ Waiting) × (k.row.lkid ≡ lkid) × (k.row.pid ≡ pid))
held_stands r lkid pid holds = of_granted r.granted (λ k here. here) holds
  where
    of_converting : (locks : List StoredLock) → ((k : StoredLock) → IsIn k locks → IsIn k r.converting)
        → Any (λ (row : LockState). (row.lkid ≡ lkid) × (row.pid ≡ pid)) (rows_of_locks locks)
        → (k : StoredLock) × (queue : Queue) × (IsIn k (queued queue r) × (queue ≢ Waiting) × (k.row.lkid ≡ lkid) × (k.row.pid ≡ pid))
    of_converting [] within any = absurd (Any-none (λ (row : LockState). (row.lkid ≡ lkid) × (row.pid ≡ pid)) any)
    of_converting (k ∷ rest) within any =
        elim (Any-cases (λ (row : LockState). (row.lkid ≡ lkid) × (row.pid ≡ pid)) k.row (rows_of_locks rest) any) [
          | inl here ↦ (k, Conversion, (within k (inl refl), (λ e. cc), here.0, here.1))
          | inr there ↦ of_converting rest (λ x later. within x (inr later)) there
        ]

    of_granted : (locks : List StoredLock) → ((k : StoredLock) → IsIn k locks → IsIn k r.granted)
        → Any (λ (row : LockState). (row.lkid ≡ lkid) × (row.pid ≡ pid)) (rows_of_locks locks ++ rows_of_locks r.converting)
        → (k : StoredLock) × (queue : Queue) × (IsIn k (queued queue r) × (queue ≢ Waiting) × (k.row.lkid ≡ lkid) × (k.row.pid ≡ pid))
    of_granted [] within any = of_converting r.converting (λ k here. here) any
    of_granted (k ∷ rest) within any =
        elim (Any-cases (λ (row : LockState). (row.lkid ≡ lkid) × (row.pid ≡ pid)) k.row (rows_of_locks rest ++ rows_of_locks r.converting) any) [
          | inl here ↦ (k, Granted, (within k (inl refl), (λ e. cc), here.0, here.1))
          | inr there ↦ of_granted rest (λ x later. within x (inr later)) there
        ]

-- what holds of each row of a resource holds of the row of a lock in one of its queues
pub of_queue : (r : StoredResource) (queue : Queue) (k : StoredLock) (P : LockState → Type 0)
    → AllByRecursion P (rows_of_locks r.granted ++ rows_of_locks r.converting ++ rows_of_locks r.waiting) → IsIn k (queued queue r) → P k.row
of_queue r queue k P each = of_its queue
  where
    in_rows : (locks : List StoredLock) → AllByRecursion P (rows_of_locks locks) → IsIn k locks → P k.row
    in_rows [] all is = absurd is
    in_rows (x ∷ rest) all is =
        elim is [
          | inl first ↦ subst (λ (y : StoredLock). P y.row) first all.0
          | inr later ↦ in_rows rest all.1 later
        ]

    parts : (xs ys : List LockState) → AllByRecursion P (xs ++ ys) → AllByRecursion P xs × AllByRecursion P ys
    parts [] ys all = (tt, all)
    parts (x ∷ xs) ys all = let rest = parts xs ys all.1 in ((all.0, rest.0), rest.1)

    held : AllByRecursion P (rows_of_locks r.granted ++ rows_of_locks r.converting)
    held = (parts (rows_of_locks r.granted ++ rows_of_locks r.converting) (rows_of_locks r.waiting) each).0

    of_its : (its : Queue) → IsIn k (queued its r) → P k.row
    of_its Granted is = in_rows r.granted (parts (rows_of_locks r.granted) (rows_of_locks r.converting) held).0 is
    of_its Conversion is = in_rows r.converting (parts (rows_of_locks r.granted) (rows_of_locks r.converting) held).1 is
    of_its Waiting is = in_rows r.waiting (parts (rows_of_locks r.granted ++ rows_of_locks r.converting) (rows_of_locks r.waiting) each).1 is

-- ---- the sublocks of a lock

-- rows of which none is a sublock
rows_none : (lkid : ℕ) (locks : List StoredLock) → ((k : StoredLock) → IsIn k locks → k.row.parent ≢ lkid) → has_sublock lkid (rows_of_locks locks) ≡ false
rows_none lkid [] none = refl
rows_none lkid (k ∷ rest) none =
    rw (ne_eqb k.row.parent lkid (none k (inl refl))) (rows_none lkid rest (λ x there. none x (inr there)))

-- rows of which one is a sublock
rows_some : (lkid : ℕ) (locks : List StoredLock) (k : StoredLock) → IsIn k locks → k.row.parent ≡ lkid → has_sublock lkid (rows_of_locks locks) ≡ true
rows_some lkid [] k among is = absurd among
rows_some lkid (x ∷ rest) k among is =
    elim among [
      | inl here ↦ rw (eq-eqb x.row.parent lkid (ap (λ (y : StoredLock). y.row.parent) here ∙ is)) refl
      | inr there ↦ or_right (x.row.parent == lkid) (has_sublock lkid (rows_of_locks rest)) (rows_some lkid rest k there is)
    ]

-- a sublock stands on a resource, whichever its queue
on_resource_some : (lkid : ℕ) (r : StoredResource) (queue : Queue) (k : StoredLock) → IsIn k (queued queue r)
    → k.row.parent ≡ lkid → has_sublock_on lkid (plain_resource r) ≡ true
on_resource_some lkid r Granted k among is = rw (rows_some lkid r.granted k among is) refl
on_resource_some lkid r Conversion k among is =
    ap (λ b. b || has_sublock lkid (rows_of_locks r.waiting))
    (or_right (has_sublock lkid (rows_of_locks r.granted)) (has_sublock lkid (rows_of_locks r.converting)) (rows_some lkid r.converting k among is))
on_resource_some lkid r Waiting k among is =
    or_right (has_sublock lkid (rows_of_locks r.granted) || has_sublock lkid (rows_of_locks r.converting))
    (has_sublock lkid (rows_of_locks r.waiting)) (rows_some lkid r.waiting k among is)

-- and among all
among_all_some : (lkid : ℕ) (rs : List StoredResource) (r : StoredResource) → IsIn r rs → has_sublock_on lkid (plain_resource r) ≡ true
    → list_any (has_sublock_on lkid) (map plain_resource rs) ≡ true
among_all_some lkid [] r among is = absurd among
among_all_some lkid (x ∷ rest) r among is =
    elim among [
      | inl here ↦ ap (λ b. b || list_any (has_sublock_on lkid) (map plain_resource rest))
          (ap (λ (y : StoredResource). has_sublock_on lkid (plain_resource y)) here ∙ is)
      | inr there ↦ or_right (has_sublock_on lkid (plain_resource x))
          (list_any (has_sublock_on lkid) (map plain_resource rest)) (among_all_some lkid rest r there is)
    ]

module _ (s : Records) (sound : IsSound s) (f : LocatedLock) (located : IsLocated f s) where
  -- no lock of a process's list has sublocks that are not rows of it
  pub none_in_rows : f.row.lkid ≢ 0 → HasNoSublocks f.lock s → list_any (has_sublock_on f.row.lkid) (plain_resources s) ≡ false
  none_in_rows named childless = of_list s.resources (λ r here. here)
    where
      none_stored : (at : ℕ) (row : LockState) → Stores s at row → row.parent ≢ f.row.lkid
      none_stored at row there is =
          let parent = sound.owned.named at row (inl there) (λ zero. named (sym is ∙ zero)) in
          let same : parent.1.at ≡ f.lock =
          sound.lkids_apart parent.1.at f.lock parent.2 f.row parent.3.3 (inl (stored s f located)) (parent.3.4 ∙ is) in
          subst (IsIn at) (childless parent.0 parent.1 parent.3.0 parent.3.1 same) parent.3.2

      none_on : (r : StoredResource) → IsIn r s.resources → (queue : Queue) → has_sublock f.row.lkid (rows_of_locks (queued queue r)) ≡ false
      none_on r among queue = rows_none f.row.lkid (queued queue r) (λ k here. none_stored k.at k.row (queued_stored s sound r among queue k here))

      of_list : (rs : List StoredResource) → ((r : StoredResource) → IsIn r rs → IsIn r s.resources)
          → list_any (has_sublock_on f.row.lkid) (map plain_resource rs) ≡ false
      of_list [] within = refl
      of_list (r ∷ rest) within =
          let here : has_sublock_on f.row.lkid (plain_resource r) ≡ false =
          rw (none_on r (within r (inl refl)) Granted, none_on r (within r (inl refl)) Conversion, none_on r (within r (inl refl)) Waiting) refl in
          ap (λ b. b || list_any (has_sublock_on f.row.lkid) (map plain_resource rest)) here
          ∙ of_list rest (λ x there. within x (inr there))

  -- a sublock in the list of the lock is a stored lock whose row names it
  sublock_stored : NoneIsLoose s → (p : StoredProcess) (own : OwnLock) (at : ℕ) → IsIn p s.processes → IsIn own p.own → own.at ≡ f.lock → IsIn at own.sublocks
      → (row : LockState) × (Stores s at row × (row.parent ≡ f.row.lkid))
  sublock_stored none p own at among here same is_in =
      let below = sound.owned.below p own at among here is_in in
      let up : below.0 ≡ f.row =
      one_lock s sound f.lock below.0 f.row (subst (λ x. Stores s x below.0) same (in_a_queue s none own.at below.0 below.2.0)) (stored s f located) in
      (below.1, (in_a_queue s none at below.1 below.2.1, below.2.2 ∙ ap (λ (x : LockState). x.lkid) up))

  -- where no row of all names the lock as its parent, it has no sublocks
  no_rows_childless : NoneIsLoose s → list_any (has_sublock_on f.row.lkid) (plain_resources s) ≡ false → HasNoSublocks f.lock s
  no_rows_childless queued none p own among here same = of_list own.sublocks refl
    where
      of_list : (sublocks : List ℕ) → own.sublocks ≡ sublocks → sublocks ≡ []
      of_list [] is = refl
      of_list (at ∷ rest) is =
          let below = sublock_stored queued p own at among here same (subst (IsIn at) (sym is) (inl refl)) in
          let in_q = in_queue s at below.0 below.1.0 in
          let some : list_any (has_sublock_on f.row.lkid) (plain_resources s) ≡ true =
          among_all_some f.row.lkid s.resources in_q.resource in_q.there
          (on_resource_some f.row.lkid in_q.resource in_q.queue (record { at = at; row = below.0 }) in_q.among below.1.1) in
          let no : true ≡ false = sym some ∙ none in
          cc

  -- so a lock that has some is named by a row
  pub some_in_rows : NoneIsLoose s → ¬ HasNoSublocks f.lock s → list_any (has_sublock_on f.row.lkid) (plain_resources s) ≡ true
  some_in_rows queued has = of_test (list_any (has_sublock_on f.row.lkid) (plain_resources s)) refl
    where
      of_test : (b : Bool) → list_any (has_sublock_on f.row.lkid) (plain_resources s) ≡ b → b ≡ true
      of_test true is = refl
      of_test false is = absurd (has (no_rows_childless queued is))

  -- no lock has the ID 0
  pub not_zero : sum_by (rows_on 0) (plain_resources s) ≡ 0 → f.row.lkid ≢ 0
  not_zero none is =
      let there = in_queue s f.lock f.row (stored s f located) in
      let one = counted_on 0 there.resource there.queue (record { at = f.lock; row = f.row }) there.among is in
      let all = counted_all 0 s.resources there.resource there.there in
      absurd (omega (arith, one, all, none))

  -- ---- a lock that waits has no sublocks: a parent holds a mode

  -- on some resource a lock of the ID holds a mode: then the lock that waits is another
  none_waits : f.queue ≡ Waiting → (rs : List StoredResource) → ((r : StoredResource) → IsIn r rs → IsIn r s.resources) → (serial pid : ℕ)
      → Any (λ up. (up.serial ≡ serial) × HoldsOn f.row.lkid pid up) (map plain_resource rs) → ⊥
  none_waits waits [] within serial pid any = Any-none (λ (up : Resource). (up.serial ≡ serial) × HoldsOn f.row.lkid pid up) any
  none_waits waits (r ∷ rest) within serial pid any =
      elim (Any-cases (λ (up : Resource). (up.serial ≡ serial) × HoldsOn f.row.lkid pid up) (plain_resource r) (map plain_resource rest) any) [
        | inl here ↦ (let held = held_stands r f.row.lkid pid here.1 in
            let k : StoredLock = held.0 in
            let is_stored : Stores s k.at k.row = queued_stored s sound r (within r (inl refl)) held.1 k held.2.0 in
            let same : k.at ≡ f.lock = sound.lkids_apart k.at f.lock k.row f.row (inl is_stored) (inl (stored s f located)) held.2.2 in
            let there : IsIn (record { at = f.lock; row = k.row }) (locks_at (Queued r.at held.1) s) =
            subst (λ x. IsIn (record { at = x; row = k.row }) (locks_at (Queued r.at held.1) s)) same
            (subst (IsIn k) (sym (queue_at s sound r (within r (inl refl)) held.1)) held.2.0) in
            let place : Queued r.at held.1 ≡ Queued f.res f.queue =
            sound.one_place f.lock k.row f.row (Queued r.at held.1) (Queued f.res f.queue) there (stands s f located) in
            held.2.1 (same_queue r.at f.res held.1 f.queue place ∙ waits))
        | inr there ↦ none_waits waits rest (λ x later. within x (inr later)) serial pid there
      ]
    where
      same_queue : (a b : ℕ) (p q : Queue) → Queued a p ≡ Queued b q → p ≡ q
      same_queue a b p q is = cc

  pub waiting_childless : NoneIsLoose s → sum_by (rows_on 0) (plain_resources s) ≡ 0
      → AllByRecursion (λ r. AllByRecursion (HasItsParent (plain_resources s) r) (r.granted ++ r.converting ++ r.waiting)) (plain_resources s)
      → f.queue ≡ Waiting → HasNoSublocks f.lock s
  waiting_childless queued no_lkid_0 parents waits p own among here same = of_list own.sublocks refl
    where
      of_list : (sublocks : List ℕ) → own.sublocks ≡ sublocks → sublocks ≡ []
      of_list [] is = refl
      of_list (at ∷ rest) is =
          let below = sublock_stored queued p own at among here same (subst (IsIn at) (sym is) (inl refl)) in
          let row : LockState = below.0 in
          let in_q = in_queue s at row below.1.0 in
          let its : HasItsParent (plain_resources s) (plain_resource in_q.resource) row =
          of_queue in_q.resource in_q.queue (record { at = at; row = row }) (HasItsParent (plain_resources s) (plain_resource in_q.resource))
          (each_resource (λ r. AllByRecursion (HasItsParent (plain_resources s) r)
          (r.granted ++ r.converting ++ r.waiting)) s.resources parents in_q.resource in_q.there) in_q.among in
          elim its [
            | inl root ↦ absurd (not_zero no_lkid_0 (sym below.1.1 ∙ root.1))
            | inr up ↦ absurd (none_waits waits s.resources (λ r there. there) (plain_resource in_q.resource).parent row.pid
                (subst (λ n. Any (λ up. (up.serial ≡ (plain_resource in_q.resource).parent) × HoldsOn n row.pid up) (plain_resources s)) below.1.1 up.2))
          ]

-- what the law says of each row, by recursion
pub by_recursion : (resources : List Resource) → All (λ r. All (HasItsParent resources r) (r.granted ++ r.converting ++ r.waiting)) resources
    → AllByRecursion (λ r. AllByRecursion (HasItsParent resources r) (r.granted ++ r.converting ++ r.waiting)) resources
by_recursion resources all =
    each_weaker (λ r. All (HasItsParent resources r) (r.granted ++ r.converting ++ r.waiting))
    (λ r. AllByRecursion (HasItsParent resources r) (r.granted ++ r.converting ++ r.waiting))
    (λ r each. recursion_from_All (HasItsParent resources r) (r.granted ++ r.converting ++ r.waiting) each) resources
    (recursion_from_All (λ r. All (HasItsParent resources r) (r.granted ++ r.converting ++ r.waiting)) resources all)

-- ---- the check of a dequeue

module _ (m : MachineState) (sound : IsSound m.records) (f : LocatedLock) (located : IsLocated f m.records) (cancels : Bool) where
  -- a lock with sublocks is not given up
  pub sublocks_refused : NoneIsLoose m.records → cancels ≡ false → ¬ HasNoSublocks f.lock m.records
      → Some Sublocks ≡ sublocks_refusal (plain_state m) cancels f.row.lkid
  unfolding sublocks_refusal
  sublocks_refused queued plain has = rw (plain, some_in_rows m.records sound f located queued has) refl

  -- one without is
  pub sublocks_pass : sum_by (rows_on 0) (plain_resources m.records) ≡ 0 → HasNoSublocks f.lock m.records
      → None ≡ sublocks_refusal (plain_state m) cancels f.row.lkid
  unfolding sublocks_refusal
  sublocks_pass no_lkid_0 childless =
      rw (none_in_rows m.records sound f located (not_zero m.records sound f located no_lkid_0) childless) (of_flag cancels)
    where
      of_flag : (b : Bool) → None ≡ cond (not b && false) (Some Sublocks) None
      of_flag true = refl
      of_flag false = refl

  -- a cancel asks nothing of them
  pub cancel_passes_sublocks : cancels ≡ true → None ≡ sublocks_refusal (plain_state m) cancels f.row.lkid
  unfolding sublocks_refusal
  cancel_passes_sublocks is = rw is refl

-- a cancel takes a lock only where it waits
pub goes_waiting : (queue : Queue) → goes true queue ≡ true → queue ≡ Waiting
goes_waiting Granted is = cc
goes_waiting Conversion is = cc
goes_waiting Waiting is = refl
