-- A lock among those of its process and below its parent: what stays, and what becomes of the lists.
use Rattle.std.proofs.Common.{◌≡◌, ◌≢◌, ℕ, [], ◌∷◌, ◌++◌, Option, None, Some, refl, sym, ap, ◌∙◌, subst, inl, inr}
use Rattle.std.proofs.lemmas.Bool.{cases_eq}
use Rattle.std.proofs.lemmas.Option.{none-some}
use Rattle.std.specs.Option.{option_map}
use Rattle.slab.specs.Slab.{Slab, get, ContainsKey, with_value}
use Rattle.slab.proofs.SlabLemmas.{Updates-with_value}
use Rattle.vlm_collections.specs.declared.lists.LinkedList.{LinkedList}
use Rattle.vlm_collections.specs.Lists.{IsIn, IsLinked, Relinks, handles_of, next_in, prev_in, without}
use Rattle.vlm_collections.proofs.Keeping.{relinked_same}
use Rattle.vlm_records.specs.declared.locks.Lock.{Lock}
use Rattle.vlm_records.specs.declared.locks.OfParent.{OfParent}
use Rattle.vlm_records.specs.declared.locks.OfProcess.{OfProcess}
use Rattle.vlm_records.specs.declared.processes.Process.{Process}
use Rattle.vlm_records.specs.Shown.{SameBut}
use Rattle.vlm_records.specs.Kin.{IsBelow, IsOwned, below_in, below_handles, below_links, below_list, but_below, own_in}
use Rattle.vlm_records.specs.Kin.{own_handles, own_links, own_list, owner_in, parent_in, with_below_links}
use Rattle.vlm_records.specs.Kin.{with_own_links}
use Rattle.vlm_records.proofs.Families.{family-put, family-put_here, family-put_others, family-taken, family-taken_handles, family-unnoted}
use Rattle.vlm_records.proofs.PlacesOnLists.{there_through}

-- a record that is written shows what it showed
pub written_same : {T X : Type 0} (s : Slab T) (at : ℕ) (was now : T) (shown : Option T → X) → get s at ≡ Some was → shown (Some now) ≡ shown (Some was)
    → (k : ℕ) → shown (get (with_value s at now) k) ≡ shown (get s k)
written_same {T} s at was now shown here same k =
    let there : ContainsKey s at = rw here refl in
    let updates = Updates-with_value s at now there in
    elim (cases_eq k at) [
      | inl is ↦ ap (λ x. shown (get (with_value s at now) x)) is ∙ ap shown updates.changed ∙ same ∙ sym (ap (λ x. shown (get s x)) is ∙ ap shown here)
      | inr differs ↦ ap shown (updates.others k differs)
    ]

-- ---- the locks of a process

-- the process that owns a lock is there
pub owner_there : (processes : Slab Process) (locks : Slab Lock) → IsOwned processes locks None → (at owner : ℕ)
    → owner_in (get locks at) ≡ Some owner → ContainsKey processes owner
owner_there processes locks owned at owner is = by_slot (get processes owner) refl (owned.stands owner at (λ e. none-some at (sym e)) is)
  where
    by_slot : (slot : Option Process) → get processes owner ≡ slot → IsIn at (handles_of own_links locks (own_in slot)) → ContainsKey processes owner
    by_slot None is found = absurd found
    by_slot (Some p) is found = rw is refl

module _ (processes : Slab Process) (locks locks1 : Slab Lock) (at owner : ℕ) (was : Process)
    (own1 : LinkedList OfProcess) (here : get processes owner ≡ Some was)
    (relinks : Relinks with_own_links locks locks1) (linked1 : IsLinked own_links locks1 own1) where
  -- the processes once the locks of one are written
  abbrev pub left_processes : Slab Process
  left_processes = with_value processes owner (record was { own = own1 })

  head_here : own_list left_processes owner ≡ own1
  head_here =
      let there : ContainsKey processes owner = rw here refl in
      ap own_in ((Updates-with_value processes owner (record was { own = own1 }) there).changed)

  head_elsewhere : (j : ℕ) → j ≢ owner → own_list left_processes j ≡ own_list processes j
  head_elsewhere j differs =
      let there : ContainsKey processes owner = rw here refl in
      ap own_in ((Updates-with_value processes owner (record was { own = own1 }) there).others j differs)

  head : was.own ≡ own_list processes owner
  head = sym (ap own_in here)

  owners : (k : ℕ) → owner_in (get locks1 k) ≡ owner_in (get locks k)
  owners = relinked_same with_own_links owner_in (λ l pair. refl) locks locks1 relinks

  module _ (owned : IsOwned processes locks None) (is : owner_in (get locks at) ≡ Some owner)
      (handles1 : handles_of own_links locks1 own1 ≡ without at (handles_of own_links locks was.own))
      (others1 : (other : ℕ) → ¬ IsIn other (handles_of own_links locks was.own) → get locks1 other ≡ get locks other) where
    left_handles1 : handles_of own_links locks1 own1 ≡ without at (own_handles processes locks owner)
    left_handles1 = handles1 ∙ ap (λ l. without at (handles_of own_links locks l)) head

    left_others1 : (other : ℕ) → ¬ IsIn other (own_handles processes locks owner) → get locks1 other ≡ get locks other
    left_others1 other absent = others1 other (λ found. absent (subst (λ l. IsIn other (handles_of own_links locks l)) head found))

    pub process_left_handles : (p : ℕ) → own_handles left_processes locks1 p ≡ without at (own_handles processes locks p)
    process_left_handles =
        family-taken_handles own_links owner_in cases_eq locks locks1 locks1 (own_list processes)
        (own_list left_processes) own1 at owner (λ k. refl) (λ k. refl) (λ k h. h) linked1 head_here head_elsewhere
        owned is left_handles1 left_others1

    pub process_left : IsOwned left_processes locks1 (Some at)
    process_left =
        family-taken own_links owner_in cases_eq locks locks1 locks1 (own_list processes)
        (own_list left_processes) own1 at owner (λ k. refl) (λ k. refl) (λ k h. h) linked1 head_here head_elsewhere
        owned is left_handles1 left_others1 owners

  module _ (owned : IsOwned processes locks (Some at)) (is : owner_in (get locks at) ≡ Some owner)
      (handles1 : handles_of own_links locks1 own1 ≡ handles_of own_links locks was.own ++ at ∷ [])
      (others1 : (other : ℕ) → ¬ IsIn other (handles_of own_links locks was.own) → other ≢ at → get locks1 other ≡ get locks other) where
    joined_handles1 : handles_of own_links locks1 own1 ≡ own_handles processes locks owner ++ at ∷ []
    joined_handles1 = handles1 ∙ ap (λ l. handles_of own_links locks l ++ at ∷ []) head

    joined_others1 : (other : ℕ) → ¬ IsIn other (own_handles processes locks owner) → other ≢ at → get locks1 other ≡ get locks other
    joined_others1 other absent = others1 other (λ found. absent (subst (λ l. IsIn other (handles_of own_links locks l)) head found))

    pub process_joined_here : own_handles left_processes locks1 owner ≡ own_handles processes locks owner ++ at ∷ []
    process_joined_here = ap (handles_of own_links locks1) head_here ∙ joined_handles1

    pub process_joined_others : (p : ℕ) → p ≢ owner → own_handles left_processes locks1 p ≡ own_handles processes locks p
    process_joined_others =
        family-put_others own_links owner_in cases_eq locks locks1 locks1 (own_list processes)
        (own_list left_processes) own1 at owner (λ k. refl) (λ k. refl) (λ k h. h) linked1 head_here head_elsewhere
        owned joined_handles1 joined_others1

    pub process_joined : IsOwned left_processes locks1 None
    process_joined =
        family-put own_links owner_in cases_eq locks locks1 locks1 (own_list processes)
        (own_list left_processes) own1 at owner (λ k. refl) (λ k. refl) (λ k h. h) linked1 head_here head_elsewhere
        owned joined_handles1 joined_others1 (owners at ∙ is) (λ k _. owners k)

-- ---- the locks below a parent

-- the parent of a lock is there
pub parent_there : (locks : Slab Lock) → IsBelow locks None → (at parent : ℕ) → parent_in (get locks at) ≡ Some parent → ContainsKey locks parent
parent_there locks below at parent is = by_slot (get locks parent) refl (below.stands parent at (λ e. none-some at (sym e)) is)
  where
    by_slot : (slot : Option Lock) → get locks parent ≡ slot → IsIn at (handles_of below_links locks (below_in slot)) → ContainsKey locks parent
    by_slot None is found = absurd found
    by_slot (Some l) is found = rw is refl

-- a lock without a parent stands below none
pub below_none : (locks : Slab Lock) (at : ℕ) → IsBelow locks None → parent_in (get locks at) ≡ None → IsBelow locks (Some at)
below_none locks at below none = family-unnoted below_links parent_in locks (below_list locks) at below (λ i is. none-some i (sym none ∙ is))

module _ (locks locks1 : Slab Lock) (at parent : ℕ) (first was : Lock) (sublocks1 : LinkedList OfParent)
    (here0 : get locks parent ≡ Some first) (here1 : get locks1 parent ≡ Some was)
    (relinks : Relinks with_below_links locks locks1) (linked1 : IsLinked below_links locks1 sublocks1) where
  -- the locks once the sublocks of one are written
  abbrev pub left_locks : Slab Lock
  left_locks = with_value locks1 parent (record was { sublocks = sublocks1 })

  module _ {X : Type 0} (shown : Option Lock → X) (apart : (l : Lock) (list : LinkedList OfParent)
      → shown (Some (record l { sublocks = list })) ≡ shown (Some l)) where
    written : (k : ℕ) → shown (get left_locks k) ≡ shown (get locks1 k)
    written = written_same locks1 parent was (record was { sublocks = sublocks1 }) shown here1 (apart was sublocks1)

  nexts : (k : ℕ) → next_in below_links (get left_locks k) ≡ next_in below_links (get locks1 k)
  nexts = written (next_in below_links) (λ l list. refl)

  prevs : (k : ℕ) → prev_in below_links (get left_locks k) ≡ prev_in below_links (get locks1 k)
  prevs = written (prev_in below_links) (λ l list. refl)

  written_rest : SameBut but_below locks1 left_locks
  written_rest = written (option_map but_below) (λ l list. refl)

  there : (k : ℕ) → ContainsKey locks1 k → ContainsKey left_locks k
  there = there_through but_below locks1 left_locks written_rest

  below_here : below_list left_locks parent ≡ sublocks1
  below_here =
      let is_there : ContainsKey locks1 parent = rw here1 refl in
      ap below_in ((Updates-with_value locks1 parent (record was { sublocks = sublocks1 }) is_there).changed)

  below_elsewhere : (j : ℕ) → j ≢ parent → below_list left_locks j ≡ below_list locks j
  below_elsewhere j differs =
      let is_there : ContainsKey locks1 parent = rw here1 refl in
      ap below_in ((Updates-with_value locks1 parent (record was { sublocks = sublocks1 }) is_there).others j differs)
      ∙ relinked_same with_below_links below_in (λ l pair. refl) locks locks1 relinks j

  below_head : first.sublocks ≡ below_list locks parent
  below_head = sym (ap below_in here0)

  parents : (k : ℕ) → parent_in (get left_locks k) ≡ parent_in (get locks k)
  parents k = written parent_in (λ l list. refl) k ∙ relinked_same with_below_links parent_in (λ l pair. refl) locks locks1 relinks k

  module _ (below : IsBelow locks None) (is : parent_in (get locks at) ≡ Some parent)
      (handles1 : handles_of below_links locks1 sublocks1 ≡ without at (handles_of below_links locks first.sublocks))
      (others1 : (other : ℕ) → ¬ IsIn other (handles_of below_links locks first.sublocks) → get locks1 other ≡ get locks other) where
    down_handles1 : handles_of below_links locks1 sublocks1 ≡ without at (below_handles locks parent)
    down_handles1 = handles1 ∙ ap (λ l. without at (handles_of below_links locks l)) below_head

    down_others1 : (other : ℕ) → ¬ IsIn other (below_handles locks parent) → get locks1 other ≡ get locks other
    down_others1 other absent = others1 other (λ found. absent (subst (λ l. IsIn other (handles_of below_links locks l)) below_head found))

    pub parent_left_handles : (p : ℕ) → below_handles left_locks p ≡ without at (below_handles locks p)
    parent_left_handles =
        family-taken_handles below_links parent_in cases_eq locks locks1 left_locks (below_list locks)
        (below_list left_locks) sublocks1 at parent nexts prevs there linked1 below_here below_elsewhere
        below is down_handles1 down_others1

    pub parent_left : IsBelow left_locks (Some at)
    parent_left =
        family-taken below_links parent_in cases_eq locks locks1 left_locks (below_list locks)
        (below_list left_locks) sublocks1 at parent nexts prevs there linked1 below_here below_elsewhere
        below is down_handles1 down_others1 parents

  module _ (below : IsBelow locks (Some at)) (is : parent_in (get locks at) ≡ Some parent)
      (handles1 : handles_of below_links locks1 sublocks1 ≡ handles_of below_links locks first.sublocks ++ at ∷ [])
      (others1 : (other : ℕ) → ¬ IsIn other (handles_of below_links locks first.sublocks) → other ≢ at → get locks1 other ≡ get locks other) where
    up_handles1 : handles_of below_links locks1 sublocks1 ≡ below_handles locks parent ++ at ∷ []
    up_handles1 = handles1 ∙ ap (λ l. handles_of below_links locks l ++ at ∷ []) below_head

    up_others1 : (other : ℕ) → ¬ IsIn other (below_handles locks parent) → other ≢ at → get locks1 other ≡ get locks other
    up_others1 other absent = others1 other (λ found. absent (subst (λ l. IsIn other (handles_of below_links locks l)) below_head found))

    pub parent_joined_here : below_handles left_locks parent ≡ below_handles locks parent ++ at ∷ []
    parent_joined_here =
        family-put_here below_links parent_in cases_eq locks locks1 left_locks (below_list locks)
        (below_list left_locks) sublocks1 at parent nexts prevs there linked1 below_here below_elsewhere
        below up_handles1 up_others1

    pub parent_joined_others : (p : ℕ) → p ≢ parent → below_handles left_locks p ≡ below_handles locks p
    parent_joined_others =
        family-put_others below_links parent_in cases_eq locks locks1 left_locks (below_list locks)
        (below_list left_locks) sublocks1 at parent nexts prevs there linked1 below_here below_elsewhere
        below up_handles1 up_others1

    pub parent_joined : IsBelow left_locks None
    parent_joined =
        family-put below_links parent_in cases_eq locks locks1 left_locks (below_list locks)
        (below_list left_locks) sublocks1 at parent nexts prevs there linked1 below_here below_elsewhere
        below up_handles1 up_others1 (parents at ∙ is) (λ k _. parents k)
