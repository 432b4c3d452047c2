-- What the store holds and shows once a new process is there.
use Rattle.std.proofs.Common.{◌≡◌, ◌≢◌, ◌++◌, ◌∷◌, ◌/◌, ℕ, nat_eq, true, Bool, List, [], length, map, None, Some, IsSome, ap, sym, refl, ◌∙◌}
use Rattle.std.proofs.lemmas.Option.{none-some}
use Rattle.std.specs.Cmp.{unsigned_Decides}
use Rattle.std.specs.Option.{option_map}
use Rattle.slab.specs.Slab.{Slab, get}
use Rattle.indexmap.specs.IndexMap.{Updates}
use Rattle.vlm_collections.specs.declared.lists.LinkedList.{LinkedList}
use Rattle.vlm_collections.specs.Lists.{IsNoList, handles_of}
use Rattle.vlm_collections.proofs.Keeping.{vacant_unlisted}
use Rattle.vlm_collections.proofs.Rings.{same-handles}
use Rattle.vlm_words.specs.declared.steps.Declaration.{Declaration}
use Rattle.vlm_words.specs.Processes.{new_process}
use Rattle.vlm_words.specs.State.{Process as PlainProcess}
use Rattle.vlm_records.specs.declared.locks.Lock.{Lock}
use Rattle.vlm_records.specs.declared.processes.Process.{Process}
use Rattle.vlm_records.specs.declared.resources.InOrder.{InOrder}
use Rattle.vlm_records.specs.Changes.{AddsProcess}
use Rattle.vlm_records.specs.Kin.{but_order, own_in, own_links, own_list, pid_at, pid_of, plain_process, process_links}
use Rattle.vlm_records.specs.NodeMarks.{Grows, HasRoomFor, Writes, is_node}
use Rattle.vlm_records.specs.Shown.{no_list}
use Rattle.vlm_records.proofs.Making.{whole_grown}
use Rattle.vlm_records.proofs.PlacesOnLists.{no_list_is, there_by_part}
use Rattle.vlm_store.specs.declared.store.Store.TheInside.{Inside}
use Rattle.vlm_store.specs.Holdings.{faced, holding, own_of, process_under}
use Rattle.vlm_store.specs.Index.{HandleMap, Indexes, handle_by}
use Rattle.vlm_store.specs.Kept.{IsKept, beside_shown, records_shown}
use Rattle.vlm_store.specs.Pending.{IsMarked, is_of_nodes, waits_in}
use Rattle.vlm_store.specs.Records.{FindsProcess, StoredProcess, new_stored_process, with_process_room}
use Rattle.vlm_store.specs.Store.{records_of}
use Rattle.vlm_store.proofs.Indexing.{Indexes-same, found_added}
use Rattle.vlm_store.proofs.Kinship.{processes_changed}
use Rattle.vlm_store.proofs.LivingProcesses.{no_process_found}
use Rattle.vlm_store.proofs.MarkedProcesses.{added_marked, and_true, grown_marked, nodes_of_pid, nodes_same, none_written}
use Rattle.vlm_store.proofs.MarkedProcesses.{unmarked, waits_by_order, waits_not, written_others}
use Rattle.vlm_store.proofs.Members.{process_made}
use Rattle.vlm_store.proofs.ProcessesChange.{face_by_order, names_stay, own_by_order, owner_is_there, owns_stay, pid_by_order, process_own_handles}
use Rattle.vlm_store.proofs.ProcessesChange.{process_owned}

-- room was made for a process with an ID of its own, and it was put in
pub record IsAdded (s : Inside) (roomy new : Slab Process) (order : LinkedList InOrder) (at pid : ℕ) (declaration : Declaration)
    (process : Process) : Type 0 where
  pub kept : IsKept s
  pub same : (p : ℕ) → get roomy p ≡ get s.processes p
  pub unknown : FindsProcess (records_shown s) pid None
  pub added : AddsProcess at process s.process_order order roomy new
  pub plain : plain_process process ≡ new_process pid declaration
  pub due : process.asts.due ≡ 0
  pub own : IsNoList process.own

module _ {s : Inside} {roomy new : Slab Process} {order : LinkedList InOrder} {at pid : ℕ} {declaration : Declaration} {process : Process}
    (is : IsAdded s roomy new order at pid declaration process) where
  others : (p : ℕ) → p ≢ at → option_map but_order (get new p) ≡ option_map but_order (get s.processes p)
  others p differs = is.added.others p differs ∙ ap (option_map but_order) (is.same p)

  vacant : get s.processes at ≡ None
  vacant = sym (is.same at) ∙ is.added.fresh

  -- it has no lock, and no lock has it
  lockless : own_in (get new at) ≡ no_list
  lockless = own_by_order (get new at) (Some process) is.added.here ∙ no_list_is process.own is.own

  owns : (p : ℕ) → own_list new p ≡ own_list s.processes p
  owns = owns_stay s.processes new at others (ap own_in vacant) lockless

  apart : (k : ℕ) (l : Lock) → get s.queues.locks k ≡ Some l → l.owner ≢ at
  apart k l here owner = let nothing : IsSome {T = Process} None = rw (ap (get s.processes) owner
      ∙ vacant) at (owner_is_there s.processes s.queues.locks is.kept.named k l here) in absurd (cc)

  -- its ID is new
  pids : (p : ℕ) → p ≢ at → pid_at new p ≡ pid_at s.processes p
  pids p differs = pid_by_order (get new p) (get s.processes p) (others p differs)

  pid_here : pid_at new at ≡ Some pid
  pid_here = pid_by_order (get new at) (Some process) is.added.here ∙ ap (λ (p : PlainProcess). Some p.pid) is.plain

  not_found : handle_by s.process_index pid ≡ None
  not_found = no_process_found s is.kept pid is.unknown

  other_pids : (p : ℕ) → pid_at s.processes p ≢ Some pid
  other_pids p has = none-some p (sym not_found ∙ is.kept.processes.complete pid p has)

  handles_same : handles_of process_links roomy s.process_order ≡ handles_of process_links s.processes s.process_order
  handles_same = same-handles process_links s.processes roomy s.process_order is.kept.processes_linked (λ p _. is.same p)

  -- the index finds it, and its node is marked
  pub added_indexed : (roomy_index index : HandleMap) → ((number : ℕ) → handle_by roomy_index number ≡ handle_by s.process_index number)
      → Updates nat_eq roomy_index index pid (Some at) → Indexes (handle_by index) (pid_at new)
  added_indexed roomy_index index finds updates =
      found_added nat_eq unsigned_Decides (handle_by roomy_index) (handle_by index) pid (pid_at s.processes) (pid_at new) at
      updates.2 pids updates.1 (ap (option_map pid_of) vacant) pid_here (finds pid ∙ not_found)
      (Indexes-same (handle_by s.process_index) (handle_by roomy_index) (pid_at s.processes) (pid_at s.processes) finds (λ _. refl) is.kept.processes)

  pub added_living : (roomy_marks marks : List (List Bool)) → Grows s.living roomy_marks → HasRoomFor roomy_marks pid → Writes pid true roomy_marks marks
      → IsMarked is_of_nodes new marks
  added_living roomy_marks marks grows room written =
      added_marked is_of_nodes s.processes new at pids (λ p differs. nodes_same (get new p) (get s.processes p) (pids p differs))
      roomy_marks marks pid vacant pid_here other_pids
      (written.this ∙ and_true (is_node (pid / 65536)) ∙ sym (nodes_of_pid (get new at) pid pid_here))
      room (written_others pid true roomy_marks marks written) (grown_marked is_of_nodes s.processes s.living roomy_marks grows is.kept.living)

  -- it waits for no AST
  pub added_pending : (marks : List (List Bool)) → Grows s.pending marks → HasRoomFor marks pid → IsMarked waits_in new marks
  added_pending marks grows room =
      let grown = grown_marked waits_in s.processes s.pending marks grows is.kept.marked in
      let waits : (p : ℕ) → p ≢ at → waits_in (get new p) ≡ waits_in (get s.processes p) =
      λ p differs. waits_by_order (get new p) (get s.processes p) (others p differs) in
      added_marked waits_in s.processes new at pids waits marks marks pid vacant pid_here other_pids
      (unmarked waits_in s.processes new at pids waits marks pid other_pids grown
      ∙ sym (waits_by_order (get new at) (Some process) is.added.here ∙ waits_not process (ap (λ (p : PlainProcess). length p.asts) is.plain)))
      room (none_written pid marks) grown

  module _ (index : HandleMap) (living pending : List (List Bool)) where
    abbrev pub after_adding : Inside
    after_adding = record s { processes = new; process_order = order; process_index = index; living = living; pending = pending }

    -- the invariant holds again
    pub added_kept : Indexes (handle_by index) (pid_at new) → IsMarked is_of_nodes new living → IsMarked waits_in new pending → IsKept after_adding
    added_kept indexed is_living is_pending = record {
      placed = is.kept.placed;
      tallied = is.kept.tallied;
      armed = is.kept.armed;
      wait_list = is.kept.wait_list;
      linked = is.kept.linked;
      ordered = is.kept.ordered;
      locks = is.kept.locks;
      resources = is.kept.resources;
      owned = process_owned s.processes new s.queues.locks owns is.kept.owned;
      below = is.kept.below;
      named = names_stay s.processes new at others (ap own_in vacant) lockless s.queues.locks apart is.kept.named;
      processes_linked = is.added.linked;
      processes_ordered = whole_grown process_links roomy new s.process_order order at
          (λ p there. rw handles_same (is.kept.processes_ordered p (rw (is.same p) at there))) is.added.order
          (λ p differs. there_by_part but_order (get roomy p) (get new p) (sym (is.added.others p differs)));
      processes = indexed;
      marked = is_pending;
      living = is_living;
    }

    -- what a caller sees: the process behind all others, and the room that it takes
    pub added_records : records_shown after_adding ≡ with_process_room (records_shown after_adding).room.processes
        (record (records_shown s) { processes = (records_shown s).processes ++ new_stored_process at pid declaration ∷ [] })
    unfolding records_of
    added_records =
        let h = holding s.processes s.queues.locks s.process_order in
        let h' = holding new s.queues.locks order in
        let made : process_under h' at ≡ new_stored_process at pid declaration =
        ap (λ face. faced at face (map (own_of h') (h'.own at))) (face_by_order (get new at) (Some process) is.added.here)
        ∙ ap (λ plain. record { at = at; process = plain; due = process.asts.due; own = map (own_of h') (h'.own at) }) is.plain
        ∙ ap (λ due. record { at = at; process = new_process pid declaration; due = due; own = map (own_of h') (h'.own at) }) is.due
        ∙ ap (λ l. record {
          at = at;
          process = new_process pid declaration;
          due = 0;
          own = map (own_of h') (handles_of own_links s.queues.locks l);
        }) lockless in
        processes_changed s.queues s.order (beside_shown s) (beside_shown after_adding)
        (λ (ps : List StoredProcess). ps ++ new_stored_process at pid declaration ∷ [])
        (process_made h h' (λ k. refl) (λ k. refl) at (new_stored_process at pid declaration)
        (λ p differs. face_by_order (get new p) (get s.processes p) (others p differs))
        (λ p _. process_own_handles s.processes new s.queues.locks owns p)
        (vacant_unlisted process_links s.processes s.process_order is.kept.processes_linked at vacant)
        (is.added.order ∙ ap (λ ks. ks ++ at ∷ []) handles_same) made) refl
