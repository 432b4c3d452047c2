-- What a caller learns of the processes and their locks.
use Rattle.std.proofs.Common.{◌≡◌, ◌≤◌, ℕ, zero, suc, true, nat_lt, arith, length, List, [], ◌∷◌, map, Option, None}
use Rattle.std.proofs.Common.{Some, IfSome, IsSome, refl, sym, ap, ◌∙◌, subst, false, inl, inr}
use Rattle.std.proofs.lemmas.Bool.Decides.{nat_tests}
use Rattle.std.proofs.lemmas.Option.{none-some, same_Some}
use Rattle.std.specs.Bool.{OnFalse, OnTrue}
use Rattle.std.specs.Option.{ForSome, option_map, option_map_or}
use Rattle.slab.specs.Slab.{Slab, get, ContainsKey}
use Rattle.indexmap.specs.IndexMap.{get as found}
use Rattle.vlm_collections.specs.Parts.{handle_in}
use Rattle.vlm_store.specs.Index.{handle_by, hash_key}
use Rattle.vlm_collections.specs.declared.link.TheConstants.{LAST_HANDLE}
use Rattle.vlm_collections.specs.Lists.{IsApart, IsIn, handles_of}
use Rattle.vlm_words.specs.declared.locks.LockState.{LockState}
use Rattle.vlm_records.specs.declared.locks.Lock.{Lock}
use Rattle.vlm_records.specs.declared.processes.Process.{Process}
use Rattle.vlm_store.specs.declared.store.Store.TheInside.{Inside}
use Rattle.vlm_store.specs.Records.{AreOwnApart, AreOwned, AreProcessesApart, FindsLock, FindsProcess, HasNoSublocks, HasProcess}
use Rattle.vlm_store.specs.Records.{IsParentOf, IsProcess, IsSound, OwnLock, StoredProcess, Stores, own_at, process_at}
use Rattle.vlm_store.specs.Records.{HasLock, IsLooseRow, NoneIsLoose}
use Rattle.vlm_store.specs.Kept.{IsKept, beside_shown, found_in, processes_shown, records_shown}
use Rattle.vlm_records.specs.Shown.{lkid_of, row_in, rows, is_loose_in, loose_in, noted_in}
use Rattle.vlm_store.specs.Holdings.{Holding, holding, own_of, process_face_in, process_under, processes_of}
use Rattle.vlm_records.specs.Kin.{NamesParent, OwnerFits, ParentFits, below_handles, own_handles, owner_in, parent_in, pid_at, pid_of, process_links}
use Rattle.vlm_store.specs.Store.{tables}
use Rattle.vlm_store.proofs.HashedKeys.{by_keys}
use Rattle.vlm_store.proofs.KeptRecords.{keys_apart, lkids_apart, no_lock, stored_there, there_stored}
use Rattle.vlm_store.proofs.Layouts.{IsSound-records_of, Stores-listed}
use Rattle.vlm_records.proofs.PlacesOnLists.{lkid_told, one_place}
use Rattle.vlm_store.proofs.Kinship.{records_processes, loose_there, loose_told, noted_not_loose}
use Rattle.vlm_store.proofs.Members.{AreProcessesApart-processes_of, HasProcess-order, among_own, own_among, process_at-found, process_seen, seen_process}
use Rattle.std.proofs.lemmas.Bool.{cases_Bool}

-- what the record of a process tells, where it has an ID
pid_there : (slot : Option Process) (pid : ℕ) → option_map pid_of slot ≡ Some pid → IsSome slot × ((process_face_in slot).plain.pid ≡ pid)
pid_there None pid is = absurd (none-some pid is)
pid_there (Some p) pid is = (refl, same_Some p.pid pid is)

pid_told : (slot : Option Process) → IsSome slot → option_map pid_of slot ≡ Some (process_face_in slot).plain.pid
pid_told None there = cc
pid_told (Some p) there = refl

noted_owner : (slot : Option Lock) (owner : ℕ) → owner_in slot ≡ Some owner → (l : Lock) × ((slot ≡ Some l) × (l.owner ≡ owner))
noted_owner None owner is = absurd (none-some owner is)
noted_owner (Some l) owner is = (l, (refl, same_Some l.owner owner is))

noted_parent : (slot : Option Lock) (parent : ℕ) → parent_in slot ≡ Some parent → (l : Lock) × ((slot ≡ Some l) × (l.parent ≡ Some parent))
noted_parent None parent is = absurd (none-some parent is)
noted_parent (Some l) parent is = (l, (refl, is))

-- where the record of a lock notes no parent, its row names none
named_parent : (locks : Slab Lock) (noted : Option ℕ) (lkid : ℕ) → NamesParent locks noted lkid → ¬ (lkid ≡ 0)
    → (up : ℕ) × ((noted ≡ Some up) × (option_map lkid_of (get locks up) ≡ Some lkid))
named_parent locks None lkid names has = absurd (has names)
named_parent locks (Some up) lkid names has = (up, (refl, names))

there_is : (slot : Option Lock) → IsSome slot → (l : Lock) × (slot ≡ Some l)
there_is None there = cc
there_is (Some l) there = (l, refl)

is_positive : (n : ℕ) → nat_lt 0 (suc n) ≡ true
is_positive n = grind (arith, nat_tests)

module _ (s : Inside) (kept : IsKept s) where
  -- the tables of processes
  abbrev pub held : Holding
  held = holding s.processes s.queues.locks s.process_order

  shown : (records_shown s).processes ≡ processes_of held
  shown = records_processes (tables s.queues s.order (beside_shown s))

  pub process_listed : (at : ℕ) → HasProcess at (records_shown s) → IsIn at (handles_of process_links s.processes s.process_order)
  process_listed at has = HasProcess-order held at (subst (λ ps. IsSome (process_at at ps)) shown has)

  pub process_there : (at : ℕ) → HasProcess at (records_shown s) → ContainsKey s.processes at
  process_there at has = kept.processes_linked.present at (process_listed at has)

  pub process_is : (at : ℕ) → HasProcess at (records_shown s) → process_at at (records_shown s).processes ≡ Some (process_under held at)
  process_is at has = ap (process_at at) shown ∙ process_at-found held at (process_listed at has)

  pub own_is : (at : ℕ) → HasProcess at (records_shown s) → own_at at (records_shown s) ≡ map (own_of held) (own_handles s.processes s.queues.locks at)
  own_is at has = ap (λ o. option_map_or (λ (p : StoredProcess). p.own) o []) (process_is at has)

  pub among_shown : (at : ℕ) → IsIn at (handles_of process_links s.processes s.process_order) → IsIn (process_under held at) (records_shown s).processes
  among_shown at found = subst (IsIn (process_under held at)) (sym shown) (process_seen held at found)

  pub shown_among : (p : StoredProcess) → IsIn p (records_shown s).processes
      → IsIn p.at (handles_of process_links s.processes s.process_order) × (process_under held p.at ≡ p)
  shown_among p among = seen_process held p (subst (IsIn p) shown among)

  pub lock_there : (at : ℕ) (row : LockState) → Stores (records_shown s) at row → ContainsKey s.queues.locks at × (at ≤ LAST_HANDLE) × (rows s.queues at ≡ row)
  lock_there = stored_there s.queues s.order (beside_shown s) kept.placed

  -- so its handle, as that of a parent, fits into a link
  pub parent_within : (parent : Option ℕ) (row : LockState) → IsParentOf parent row (records_shown s) → ForSome parent (λ up. up ≤ LAST_HANDLE)
  parent_within None row is up named = absurd (none-some up named)
  parent_within (Some parent) row is up named = subst (λ k. k ≤ LAST_HANDLE) (same_Some parent up named) (lock_there parent is.0 is.1.0).1

  pub lock_stored : (at : ℕ) → ContainsKey s.queues.locks at → is_loose_in (get s.queues.locks at) ≡ false → Stores (records_shown s) at (rows s.queues at)
  lock_stored = there_stored s.queues s.order (beside_shown s) kept.placed kept.linked kept.ordered

  -- the process that a lock notes is the one that its row names
  pub owner_is : (at : ℕ) (l : Lock) → get s.queues.locks at ≡ Some l → IsProcess l.owner l.row.pid (records_shown s)
  owner_is at l here =
      let fits = subst (OwnerFits s.processes) here (kept.named.owners at) in
      let there = pid_there (get s.processes l.owner) l.row.pid fits in
      (process_under held l.owner, (among_shown l.owner (kept.processes_ordered l.owner there.0), refl, there.1))

  -- the locks of a process that a caller sees
  pub own_among_shown : (p : StoredProcess) (own : OwnLock) → IsIn p (records_shown s).processes → IsIn own p.own
      → (IsIn own.at (own_handles s.processes s.queues.locks p.at)
      × (below_handles s.queues.locks own.at ≡ own.sublocks) × (loose_in (get s.queues.locks own.at) ≡ own.loose))
      × (p.own ≡ map (own_of held) (own_handles s.processes s.queues.locks p.at))
  own_among_shown p own among has =
      let is : map (own_of held) (own_handles s.processes s.queues.locks p.at) ≡ p.own = ap (λ (x : StoredProcess). x.own) (shown_among p among).1 in
      (own_among held (own_handles s.processes s.queues.locks p.at) own (subst (IsIn own) (sym is) has), sym is)

  -- a lock that is there is among those of the process that its row names
  own_there : (at : ℕ) → ContainsKey s.queues.locks at
      → (p : StoredProcess) × (own : OwnLock)
      × (IsIn p (records_shown s).processes × (p.process.pid ≡ (rows s.queues at).pid) × IsIn own p.own
      × (own.at ≡ at) × (own.loose ≡ loose_in (get s.queues.locks at)))
  own_there at there =
      let l = there_is (get s.queues.locks at) there in
      let fits = subst (OwnerFits s.processes) l.1 (kept.named.owners at) in
      let owner = pid_there (get s.processes l.0.owner) l.0.row.pid fits in
      let stands = kept.owned.stands l.0.owner at (λ e. none-some at (sym e)) (ap owner_in l.1) in (
        process_under held l.0.owner,
        own_of held at,
        (
          among_shown l.0.owner (kept.processes_ordered l.0.owner owner.0),
          owner.1 ∙ ap (λ (slot : Option Lock). (row_in slot).pid) (sym l.1),
          among_own held (own_handles s.processes s.queues.locks l.0.owner) at stands,
          refl,
          refl,
        ),
      )

  -- a loose lock that a caller sees is there
  pub loose_lock_there : (at : ℕ) (row : LockState) → IsLooseRow (records_shown s) at row
      → ContainsKey s.queues.locks at × (at ≤ LAST_HANDLE) × (rows s.queues at ≡ row) × (is_loose_in (get s.queues.locks at) ≡ true)
  loose_lock_there at row is =
      let own = own_among_shown is.0 is.1 is.2.0 is.2.1 in
      let told = loose_told (get s.queues.locks is.1.at) row (own.0.2 ∙ is.2.3) in
      let within = (kept.owned.linked is.0.at).within is.1.at own.0.0 in
      subst (λ x. ContainsKey s.queues.locks x × (x ≤ LAST_HANDLE) × (rows s.queues x ≡ row)
      × (is_loose_in (get s.queues.locks x) ≡ true)) is.2.2 (told.0, within, told.2, told.1)

  pub has_there : (at : ℕ) (row : LockState) → HasLock (records_shown s) at row → ContainsKey s.queues.locks at × (rows s.queues at ≡ row)
  has_there at row (inl stored) = let there = lock_there at row stored in (there.0, there.2)
  has_there at row (inr loose) = let there = loose_lock_there at row loose in (there.0, there.2)

  -- a caller sees a loose lock with its row
  pub loose_seen : (at : ℕ) → ContainsKey s.queues.locks at → is_loose_in (get s.queues.locks at) ≡ true → IsLooseRow (records_shown s) at (rows s.queues at)
  loose_seen at there loose =
      let own = own_there at there in
      (own.0, own.1, (own.2.0, own.2.2, own.2.3, own.2.4 ∙ loose_there (get s.queues.locks at) loose))

  -- a lock that is there is in a queue or loose, as a caller sees it
  pub there_has : (at : ℕ) → ContainsKey s.queues.locks at → HasLock (records_shown s) at (rows s.queues at)
  there_has at there =
      elim (cases_Bool (is_loose_in (get s.queues.locks at))) [
        | inl loose ↦ inr (loose_seen at there loose)
        | inr queued ↦ inl (lock_stored at there queued)
      ]

  -- where each lock is in a queue, no record is loose
  pub none_loose_there : NoneIsLoose (records_shown s) → (at : ℕ) → ContainsKey s.queues.locks at → is_loose_in (get s.queues.locks at) ≡ false
  none_loose_there none at there =
      elim (cases_Bool (is_loose_in (get s.queues.locks at))) [
        | inl loose ↦
            let own = own_there at there in
            absurd (none-some (rows s.queues at) (sym (none own.0 own.1 own.2.0 own.2.2) ∙ own.2.4 ∙ loose_there (get s.queues.locks at) loose))
        | inr queued ↦ queued
      ]

  -- a lock in a queue is not loose
  pub stored_queued : (at : ℕ) (row : LockState) → Stores (records_shown s) at row → is_loose_in (get s.queues.locks at) ≡ false
  stored_queued at row stored =
      let listed = Stores-listed (tables s.queues s.order (beside_shown s)) at row stored in
      noted_not_loose (get s.queues.locks at) listed.0 (kept.placed.listed listed.0 at listed.1.0)

  pub stored_in_queue : (at : ℕ) (row : LockState) → Stores (records_shown s) at row → IsSome (noted_in (get s.queues.locks at))
  stored_in_queue at row stored =
      let listed = Stores-listed (tables s.queues s.order (beside_shown s)) at row stored in
      rw (kept.placed.listed listed.0 at listed.1.0) refl

  is_owned : (at : ℕ) (row : LockState) → HasLock (records_shown s) at row
      → (p : StoredProcess) × (own : OwnLock) × (IsIn p (records_shown s).processes × (p.process.pid ≡ row.pid) × IsIn own p.own × (own.at ≡ at))
  is_owned at row has =
      let there = has_there at row has in
      let own = own_there at there.0 in
      (own.0, own.1, (own.2.0, own.2.1 ∙ ap (λ (r : LockState). r.pid) there.1, own.2.2, own.2.3))

  -- a lock whose row names a parent stands below it
  stands_below : (at : ℕ) (row : LockState) → HasLock (records_shown s) at row → ¬ (row.parent ≡ 0)
      → (up : ℕ) × (IsIn at (below_handles s.queues.locks up) × ContainsKey s.queues.locks up × ((rows s.queues up).lkid ≡ row.parent))
  stands_below at row has has_parent =
      let there = has_there at row has in
      let l = there_is (get s.queues.locks at) there.0 in
      let names : l.0.row.parent ≡ row.parent = ap (λ (r : LockState). r.parent) (sym (ap row_in l.1) ∙ there.1) in
      let fits = subst (ParentFits s.queues.locks) l.1 (kept.named.parents at) in
      let up = named_parent s.queues.locks l.0.parent l.0.row.parent fits (λ none. has_parent (sym names ∙ none)) in (
        up.0,
        (
          kept.below.stands up.0 at (λ e. none-some at (sym e)) (ap parent_in l.1 ∙ up.1.0),
          (lkid_told (get s.queues.locks up.0) l.0.row.parent up.1.1).0,
          (lkid_told (get s.queues.locks up.0) l.0.row.parent up.1.1).1 ∙ names,
        ),
      )

  pub are_owned : AreOwned (records_shown s)
  are_owned = record {
    owned = is_owned;
    owns = λ p own among has.
        let own_there = own_among_shown p own among has in
        let noted = noted_owner (get s.queues.locks own.at) p.at (kept.owned.listed p.at own.at own_there.0.0) in
        let there : ContainsKey s.queues.locks own.at = (kept.owned.linked p.at).present own.at own_there.0.0 in
        let fits = subst (OwnerFits s.processes) noted.1.0 (kept.named.owners own.at) in
        let pid = pid_there (get s.processes noted.0.owner) noted.0.row.pid fits in
        let plain : (process_face_in (get s.processes p.at)).plain.pid ≡ p.process.pid = ap (λ (x : StoredProcess). x.process.pid) (shown_among p among).1 in (
          rows s.queues own.at,
          (
            there_has own.at there,
            ap (λ slot. (row_in slot).pid) noted.1.0 ∙ sym pid.1 ∙ ap (λ x. (process_face_in (get s.processes x)).plain.pid) noted.1.1 ∙ plain,
          ),
        );
    below = λ p own at among has stands.
        let own_there = own_among_shown p own among has in
        let up_there : ContainsKey s.queues.locks own.at = (kept.owned.linked p.at).present own.at own_there.0.0 in
        let listed = subst (IsIn at) (sym own_there.0.1) stands in
        let there : ContainsKey s.queues.locks at = (kept.below.linked own.at).present at listed in
        let noted = noted_parent (get s.queues.locks at) own.at (kept.below.listed own.at at listed) in
        let fits = subst (ParentFits s.queues.locks) noted.1.0 (kept.named.parents at) in
        let names = subst (λ o. NamesParent s.queues.locks o noted.0.row.parent) noted.1.1 fits in (
          rows s.queues own.at,
          rows s.queues at,
          (
            there_has own.at up_there,
            there_has at there,
            ap (λ slot. (row_in slot).parent) noted.1.0 ∙ sym (lkid_told (get s.queues.locks own.at) noted.0.row.parent names).1,
          ),
        );
    named = λ at row has has_parent.
        let up = stands_below at row has has_parent in
        let up_stored = there_has up.0 up.1.1 in
        let found = is_owned up.0 (rows s.queues up.0) up_stored in
        let seen = own_among_shown found.0 found.1 found.2.0 found.2.2 in (
          found.0,
          found.1,
          rows s.queues up.0,
          (
            found.2.0,
            found.2.2,
            subst (IsIn at) (ap (below_handles s.queues.locks) (sym found.2.3) ∙ seen.0.1) up.1.0,
            subst (λ x. HasLock (records_shown s) x (rows s.queues up.0)) (sym found.2.3) up_stored,
            up.1.2,
          ),
        );
    queued = λ at row other stored loose. let clash : true ≡ false = sym (loose_lock_there at other loose).3 ∙ stored_queued at row stored in absurd (cc);
  }

  -- no two of the locks of a process have one handle
  pub own_apart : (p : StoredProcess) → IsIn p (processes_shown s) → AreOwnApart p.own
  own_apart p among =
      let seen = seen_process held p among in
      subst AreOwnApart (ap (λ (x : StoredProcess). x.own) seen.1) (apart (own_handles s.processes s.queues.locks p.at) (kept.owned.linked p.at).apart)
    where
      apart : (handles : List ℕ) → IsApart handles → AreOwnApart (map (own_of held) handles)
      apart [] is = tt
      apart (k ∷ rest) is = (
        λ other among same. is.0 (subst (λ x. IsIn x rest) same (own_among held rest other among).0),
        apart rest is.1,
      )

  -- no lock stands below this one
  pub childless : (at : ℕ) (row : LockState) → Stores (records_shown s) at row → HasNoSublocks at (records_shown s) → below_handles s.queues.locks at ≡ []
  childless at row stored none =
      let found = are_owned.owned at row (inl stored) in
      let seen = own_among_shown found.0 found.1 found.2.0 found.2.2 in
      ap (below_handles s.queues.locks) (sym found.2.3) ∙ seen.0.1 ∙ none found.0 found.1 found.2.0 found.2.2 found.2.3

  -- whether locks stand below one is told by how many do
  pub no_sublocks : (at n : ℕ) → n ≡ length (below_handles s.queues.locks at) → OnFalse (nat_lt 0 n) (HasNoSublocks at (records_shown s))
  no_sublocks at zero is = λ p own among has same. sym (own_among_shown p own among has).0.1
      ∙ ap (below_handles s.queues.locks) same ∙ no_length (below_handles s.queues.locks at) (sym is)
    where
      no_length : (handles : List ℕ) → length handles ≡ 0 → handles ≡ []
      no_length [] none = refl
      no_length (k ∷ rest) none = absurd (omega (arith, none))
  no_sublocks at (suc n) is = rw (is_positive n) tt

  pub are_sublocks : (at : ℕ) (row : LockState) → Stores (records_shown s) at row → (n : ℕ)
      → n ≡ length (below_handles s.queues.locks at) → OnTrue (nat_lt 0 n) (¬ HasNoSublocks at (records_shown s))
  are_sublocks at row stored zero is = tt
  are_sublocks at row stored (suc n) is = rw (is_positive n) (λ none. let nothing : suc n ≡ 0 = is
      ∙ ap length (childless at row stored none) in absurd (omega (arith, nothing)))

  pub are_apart : AreProcessesApart (processes_shown s)
  are_apart =
      AreProcessesApart-processes_of held kept.processes_linked.apart
      (λ a b here there same.
      let told_a = pid_told (get s.processes a) (kept.processes_linked.present a here) in
      let told_b = pid_told (get s.processes b) (kept.processes_linked.present b there) in
      same_Some a b
      (sym (kept.processes.complete (process_face_in (get s.processes a)).plain.pid a told_a)
      ∙ kept.processes.complete (process_face_in (get s.processes a)).plain.pid b (told_b ∙ ap Some (sym same))))

  -- what a caller sees is sound
  pub is_sound : IsSound (records_shown s)
  is_sound =
      IsSound-records_of (tables s.queues s.order (beside_shown s)) kept.linked.apart (λ p. (kept.placed.linked p).apart) (one_place s.queues None kept.placed)
      (lkids_apart s.queues s.order (beside_shown s) kept.placed kept.linked kept.ordered has_there there_has (handle_in s.lock_index) kept.locks)
      (keys_apart s.queues s.order (beside_shown s) kept.placed kept.linked kept.ordered (found_in s)
      (by_keys (hash_key s.keys) s.resource_index s.queues kept.resources)) are_apart are_owned own_apart

  -- the index of processes finds what a caller sees
  pub finds_process : (pid : ℕ) (result : Option ℕ) → result ≡ handle_by s.process_index pid → FindsProcess (records_shown s) pid result
  finds_process pid None is = λ p among same.
      let seen = shown_among p among in
      let there = kept.processes_linked.present p.at seen.0 in
      let told : pid_at s.processes p.at ≡ Some pid = pid_told (get s.processes p.at) there
      ∙ ap Some (ap (λ (x : StoredProcess). x.process.pid) seen.1 ∙ same) in
      none-some p.at (is ∙ kept.processes.complete pid p.at told)
  finds_process pid (Some at) is =
      let there = pid_there (get s.processes at) pid (kept.processes.sound pid at (sym is)) in
      (process_under held at, (among_shown at (kept.processes_ordered at there.0), refl, there.1))

  pub found_there : (pid : ℕ) (result : Option ℕ) → result ≡ handle_by s.process_index pid → IfSome result (λ at. HasProcess at (records_shown s))
  found_there pid None is = tt
  found_there pid (Some at) is =
      let there = pid_there (get s.processes at) pid (kept.processes.sound pid at (sym is)) in
      rw (ap (process_at at) shown ∙ process_at-found held at (kept.processes_ordered at there.0)) refl

  -- what a caller does not find is not in the index
  pub no_lock_found : (lkid : ℕ) → FindsLock (records_shown s) lkid None → handle_in s.lock_index lkid ≡ None
  no_lock_found = no_lock s.queues s.order (beside_shown s) kept.placed kept.linked kept.ordered has_there there_has (handle_in s.lock_index) kept.locks

  pub no_process_found : (pid : ℕ) → FindsProcess (records_shown s) pid None → handle_by s.process_index pid ≡ None
  no_process_found pid absent = by_answer (handle_by s.process_index pid) refl
    where
      by_answer : (answer : Option ℕ) → answer ≡ handle_by s.process_index pid → answer ≡ None
      by_answer None is = refl
      by_answer (Some at) is =
          let there = finds_process pid (Some at) is in
          absurd (absent there.0 there.1.0 there.1.2)

  -- the process at the handle, with its ID
  pub process_named : (at pid : ℕ) → IsProcess at pid (records_shown s) → ContainsKey s.processes at × (option_map pid_of (get s.processes at) ≡ Some pid)
  process_named at pid is =
      let seen = shown_among is.0 is.1.0 in
      let there : ContainsKey s.processes at = subst (ContainsKey s.processes) is.1.1 (kept.processes_linked.present is.0.at seen.0) in (
        there,
        pid_told (get s.processes at) there
            ∙ ap Some (ap (λ x. (process_face_in (get s.processes x)).plain.pid) (sym is.1.1) ∙ ap (λ (x : StoredProcess). x.process.pid) seen.1 ∙ is.1.2),
      )
