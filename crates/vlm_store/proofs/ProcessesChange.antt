-- What stays as processes come, go and are written.
use Rattle.std.proofs.Common.{◌≡◌, ◌≢◌, ℕ, nat_eq, List, Bool, [], map, Option, None, Some, IsSome, refl, sym, ap, ◌∙◌, subst, inl, inr}
use Rattle.std.proofs.lemmas.Bool.{cases_eq}
use Rattle.std.proofs.lemmas.Option.{none-some}
use Rattle.std.specs.Map.{lookup}
use Rattle.std.specs.Option.{option_map}
use Rattle.slab.specs.Slab.{Slab, get, ContainsKey, with_value}
use Rattle.slab.proofs.SlabLemmas.{Updates-with_value}
use Rattle.vlm_collections.specs.declared.link.Links.{Links}
use Rattle.vlm_collections.specs.declared.lists.LinkedList.{LinkedList}
use Rattle.vlm_collections.specs.Lists.{IsIn, IsLinked, IsNoList, handles_of, next_in, prev_in}
use Rattle.vlm_collections.proofs.Rings.{kept-handles, kept-linked, no_list-linked, same-handles, same-linked}
use Rattle.vlm_records.specs.declared.locks.Lock.{Lock}
use Rattle.vlm_records.specs.declared.processes.Process.{Process}
use Rattle.vlm_records.specs.declared.resources.InOrder.{InOrder}
use Rattle.vlm_records.specs.Shown.{no_list}
use Rattle.vlm_records.specs.Kin.{IsBelow, IsNamed, IsOwned, OwnerFits, ParentFits, below_links, below_list, but_order}
use Rattle.vlm_records.specs.Kin.{own_in, own_handles, own_links, own_list, owner_in, parent_in, pid_at, pid_of}
use Rattle.vlm_records.specs.Kin.{process_links}
use Rattle.vlm_store.specs.Holdings.{holding, process_face, process_face_in, process_under, processes_of}
use Rattle.vlm_store.specs.Kept.{IsKept}
use Rattle.vlm_store.specs.Pending.{is_of_nodes, waits_in}
use Rattle.vlm_store.specs.declared.store.Store.TheInside.{Inside}
use Rattle.vlm_store.specs.Index.{HandleMap, handle_by}
use Rattle.vlm_store.proofs.Indexing.{Indexes-same}
use Rattle.vlm_records.proofs.Families.{family-empty, family-kept}
use Rattle.vlm_records.proofs.PlacesOnLists.{by_part}
use Rattle.vlm_records.proofs.Making.{no_list_has}
use Rattle.vlm_records.specs.NodeMarks.{Grows as MarksGrow}
use Rattle.vlm_store.proofs.MarkedProcesses.{grown_marked, kept_marked}
use Rattle.vlm_records.proofs.OwnLocks.{written_same}

-- ---- nothing is there yet

module _ (processes : Slab Process) (locks : Slab Lock) (no_processes : (p : ℕ) → get processes p ≡ None) (no_locks : (k : ℕ) → get locks k ≡ None) where
  pub empty_owned : IsOwned processes locks None
  empty_owned = family-empty own_links owner_in locks (own_list processes)
      (λ p. rw (no_processes p) (record { no_first = refl; no_last = refl; no_handles = refl })) no_locks
      (λ p. none-some p)

  pub empty_below : IsBelow locks None
  empty_below = family-empty below_links parent_in locks (below_list locks)
      (λ k. rw (no_locks k) (record { no_first = refl; no_last = refl; no_handles = refl })) no_locks (λ p. none-some p)

  pub empty_named : IsNamed processes locks
  empty_named = record {
    owners = λ at. subst (OwnerFits processes) (sym (no_locks at)) tt;
    parents = λ at. subst (ParentFits locks) (sym (no_locks at)) tt;
  }

  module _ (order : LinkedList InOrder) (none : IsNoList order) where
    pub empty_processes_linked : IsLinked process_links processes order
    empty_processes_linked = (no_list-linked process_links processes order none).0

    pub empty_processes_ordered : (p : ℕ) → ContainsKey processes p → IsIn p (handles_of process_links processes order)
    empty_processes_ordered p there = let nothing : IsSome {T = Process} None = rw (no_processes p) at there in absurd (cc)

    pub empty_processes : processes_of (holding processes locks order) ≡ []
    unfolding processes_of
    empty_processes = ap (λ ks. map (process_under (holding processes locks order)) ks) ((no_list-linked process_links processes order none).1)

-- ---- the processes change, but for their locks

module _ (processes processes' : Slab Process) (locks : Slab Lock) (owns : (p : ℕ) → own_list processes' p ≡ own_list processes p) where
  pub process_owned : IsOwned processes locks None → IsOwned processes' locks None
  process_owned owned = family-kept own_links owner_in locks (own_list processes) None owned locks
      (own_list processes') owns (λ i k _. refl) (λ i k _. refl) (λ i k _ here. here) (λ k. refl)

  pub process_own_handles : (p : ℕ) → own_handles processes' locks p ≡ own_handles processes locks p
  process_own_handles p = ap (handles_of own_links locks) (owns p)

-- the owners stay
owner_stays : (processes processes' : Slab Process) (slot : Option Lock)
    → ((l : Lock) → slot ≡ Some l
    → option_map pid_of (get processes' l.owner) ≡ option_map pid_of (get processes l.owner))
    → OwnerFits processes slot → OwnerFits processes' slot
owner_stays processes processes' None same fits = tt
owner_stays processes processes' (Some l) same fits = same l refl ∙ fits

pub process_named : (processes processes' : Slab Process) (locks : Slab Lock)
    → ((at : ℕ) (l : Lock) → get locks at ≡ Some l
    → option_map pid_of (get processes' l.owner) ≡ option_map pid_of (get processes l.owner))
    → IsNamed processes locks → IsNamed processes' locks
process_named processes processes' locks same named = record {
  owners = λ at. owner_stays processes processes' (get locks at) (same at) (named.owners at);
  parents = named.parents;
}

-- the owner of a lock is there
pub owner_is_there : (processes : Slab Process) (locks : Slab Lock) → IsNamed processes locks → (at : ℕ) (l : Lock)
    → get locks at ≡ Some l → ContainsKey processes l.owner
owner_is_there processes locks named at l here = by_pid (get processes l.owner) l.row.pid (subst (OwnerFits processes) here (named.owners at))
  where
    by_pid : (slot : Option Process) (pid : ℕ) → option_map pid_of slot ≡ Some pid → IsSome slot
    by_pid None pid is = absurd (none-some pid is)
    by_pid (Some p) pid is = refl

-- what a process shows besides its place in the order
own-order : (slot : Option Process) → own_in (option_map but_order slot) ≡ own_in slot
own-order None = refl
own-order (Some p) = refl

face-order : (slot : Option Process) → process_face_in (option_map but_order slot) ≡ process_face_in slot
face-order None = refl
face-order (Some p) = refl

pid-order : (slot : Option Process) → option_map pid_of (option_map but_order slot) ≡ option_map pid_of slot
pid-order None = refl
pid-order (Some p) = refl

pub own_by_order : (a b : Option Process) → option_map but_order a ≡ option_map but_order b → own_in a ≡ own_in b
own_by_order = by_part but_order own_in own-order

pub face_by_order : (a b : Option Process) → option_map but_order a ≡ option_map but_order b → process_face_in a ≡ process_face_in b
face_by_order = by_part but_order process_face_in face-order

pub pid_by_order : (a b : Option Process) → option_map but_order a ≡ option_map but_order b → option_map pid_of a ≡ option_map pid_of b
pid_by_order = by_part but_order (option_map pid_of) pid-order

-- a process without locks comes, or goes
module _ (processes processes' : Slab Process) (at : ℕ) (others : (p : ℕ) → p ≢ at
    → option_map but_order (get processes' p) ≡ option_map but_order (get processes p))
    (before : own_in (get processes at) ≡ no_list) (after : own_in (get processes' at) ≡ no_list) where
  pub owns_stay : (p : ℕ) → own_list processes' p ≡ own_list processes p
  owns_stay p =
      elim (cases_eq p at) [
        | inl same ↦ ap (λ x. own_in (get processes' x)) same ∙ after ∙ sym (ap (λ x. own_in (get processes x)) same ∙ before)
        | inr differs ↦ own_by_order (get processes' p) (get processes p) (others p differs)
      ]

  pub names_stay : (locks : Slab Lock) → ((k : ℕ) (l : Lock) → get locks k ≡ Some l → l.owner ≢ at) → IsNamed processes locks → IsNamed processes' locks
  names_stay locks apart =
      process_named processes processes' locks
      (λ k l here. pid_by_order (get processes' l.owner) (get processes l.owner) (others l.owner (apart k l here)))

-- a process without locks
pub no_own : (processes : Slab Process) (locks : Slab Lock) (at : ℕ) → IsOwned processes locks None
    → own_handles processes locks at ≡ [] → own_in (get processes at) ≡ no_list
no_own processes locks at owned none = no_list_has own_links locks (own_list processes at) (owned.linked at) none

-- a process is written, but for its locks, its place in the order and its ID
module _ (processes : Slab Process) (at : ℕ) (was now : Process) (here : get processes at ≡ Some was)
    (own : now.own ≡ was.own) (order : process_links now ≡ process_links was) (pid : now.pid ≡ was.pid) where
  -- the processes as they are then
  abbrev pub rewritten : Slab Process
  rewritten = with_value processes at now

  pub written_owns : (p : ℕ) → own_list rewritten p ≡ own_list processes p
  written_owns = written_same processes at was now own_in here own

  next_same : (p : ℕ) → next_in process_links (get rewritten p) ≡ next_in process_links (get processes p)
  next_same = written_same processes at was now (next_in process_links) here (ap (λ (l : Links). l.next) order)

  prev_same : (p : ℕ) → prev_in process_links (get rewritten p) ≡ prev_in process_links (get processes p)
  prev_same = written_same processes at was now (prev_in process_links) here (ap (λ (l : Links). l.prev) order)

  pub written_pids : (p : ℕ) → option_map pid_of (get rewritten p) ≡ option_map pid_of (get processes p)
  written_pids = written_same processes at was now (option_map pid_of) here (ap Some pid)

  there_same : (a b : Option Process) → option_map pid_of a ≡ option_map pid_of b → IsSome b → IsSome a
  there_same a None same there = cc
  there_same None (Some p) same there = absurd (none-some p.pid same)
  there_same (Some p) (Some p') same there = refl

  still_there : (p : ℕ) → ContainsKey processes p → ContainsKey rewritten p
  still_there p = there_same (get rewritten p) (get processes p) (written_pids p)

  was_there : (p : ℕ) → ContainsKey rewritten p → ContainsKey processes p
  was_there p = there_same (get processes p) (get rewritten p) (sym (written_pids p))

  pub written_face : process_face_in (get rewritten at) ≡ process_face now
  written_face =
      let there : ContainsKey processes at = rw here refl in
      ap process_face_in ((Updates-with_value processes at now there).changed)

  pub written_others : (p : ℕ) → p ≢ at → process_face_in (get rewritten p) ≡ process_face_in (get processes p)
  written_others p differs =
      let there : ContainsKey processes at = rw here refl in
      ap process_face_in ((Updates-with_value processes at now there).others p differs)

  module _ (list : LinkedList InOrder) (linked : IsLinked process_links processes list) where
    pub written_linked : IsLinked process_links rewritten list
    written_linked = kept-linked process_links processes rewritten list linked (λ p _. next_same p) (λ p _. prev_same p) (λ p _. still_there p)

    pub written_handles : handles_of process_links rewritten list ≡ handles_of process_links processes list
    written_handles = kept-handles process_links processes rewritten list linked (λ p _. next_same p) (λ p _. prev_same p) (λ p _. still_there p)

    pub written_whole : ((p : ℕ) → ContainsKey processes p → IsIn p (handles_of process_links processes list)) → (p : ℕ)
        → ContainsKey rewritten p → IsIn p (handles_of process_links rewritten list)
    written_whole ordered p there = subst (IsIn p) (sym written_handles) (ordered p (was_there p there))

-- there is more room for processes
module _ (s : Inside) (kept : IsKept s) (processes : Slab Process) (index : HandleMap) (same : (p : ℕ) → get processes p ≡ get s.processes p)
    (finds : (number : ℕ) → handle_by index number ≡ handle_by s.process_index number) where
  pub roomier : IsKept (record s { processes = processes; process_index = index })
  roomier = record {
    placed = kept.placed;
    tallied = kept.tallied;
    armed = kept.armed;
    wait_list = kept.wait_list;
    linked = kept.linked;
    ordered = kept.ordered;
    locks = kept.locks;
    resources = kept.resources;
    owned = process_owned s.processes processes s.queues.locks (λ p. ap own_in (same p)) kept.owned;
    below = kept.below;
    named = process_named s.processes processes s.queues.locks (λ k l _. ap (option_map pid_of) (same l.owner)) kept.named;
    processes_linked = same-linked process_links s.processes processes s.process_order kept.processes_linked (λ p _. same p);
    processes_ordered = λ p there. rw
        (same-handles process_links s.processes processes s.process_order kept.processes_linked (λ x _. same x))
        (kept.processes_ordered p (rw (same p) at there));
    processes = Indexes-same (handle_by s.process_index) (handle_by index) (pid_at s.processes) (pid_at processes) finds
        (λ p. ap (option_map pid_of) (same p)) kept.processes;
    marked = kept_marked waits_in s.processes processes s.pending (λ p. ap (option_map pid_of) (same p)) (λ p. ap waits_in (same p)) kept.marked;
    living = kept_marked is_of_nodes s.processes processes s.living (λ p. ap (option_map pid_of) (same p)) (λ p. ap is_of_nodes (same p)) kept.living;
  }

-- so it is after room was made in the slab and in the index
pub reserved_kept : {s : Inside} → IsKept s → (processes : Slab Process) (index : HandleMap)
    → processes ≡ record s.processes { capacity = processes.capacity } → index.entries ≡ s.process_index.entries
    → IsKept (record s { processes = processes; process_index = index })
reserved_kept {s} kept processes index same entries =
    roomier s kept processes index (λ p. ap (λ x. get x p) same) (λ number. ap (lookup (nat_eq number)) entries)

-- more room for the marks of living processes does so too
pub more_living : (s : Inside) → IsKept s → (marks : List (List Bool)) → MarksGrow s.living marks → IsKept (record s { living = marks })
more_living s kept marks grows = record {
  placed = kept.placed;
  tallied = kept.tallied;
  armed = kept.armed;
  wait_list = kept.wait_list;
  linked = kept.linked;
  ordered = kept.ordered;
  locks = kept.locks;
  resources = kept.resources;
  owned = kept.owned;
  below = kept.below;
  named = kept.named;
  processes_linked = kept.processes_linked;
  processes_ordered = kept.processes_ordered;
  processes = kept.processes;
  marked = kept.marked;
  living = grown_marked is_of_nodes s.processes s.living marks grows kept.living;
}

-- and for the marks of processes with a pending AST
pub more_pending : (s : Inside) → IsKept s → (marks : List (List Bool)) → MarksGrow s.pending marks → IsKept (record s { pending = marks })
more_pending s kept marks grows = record {
  placed = kept.placed;
  tallied = kept.tallied;
  armed = kept.armed;
  wait_list = kept.wait_list;
  linked = kept.linked;
  ordered = kept.ordered;
  locks = kept.locks;
  resources = kept.resources;
  owned = kept.owned;
  below = kept.below;
  named = kept.named;
  processes_linked = kept.processes_linked;
  processes_ordered = kept.processes_ordered;
  processes = kept.processes;
  marked = grown_marked waits_in s.processes s.pending marks grows kept.marked;
  living = kept.living;
}
