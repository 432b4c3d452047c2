-- A write to a process keeps its ID, its locks and its place in the order.
use Rattle.std.proofs.Common.{◌≡◌, ◌∙◌, ◌+◌, ℕ, Bool, List, Some, ap, sym, refl}
use Rattle.slab.specs.Slab.{get}
use Rattle.vlm_words.specs.declared.asts.Ast.{Ast}
use Rattle.vlm_words.specs.State.{Process as PlainProcess}
use Rattle.vlm_records.specs.AstQueues.{Asts}
use Rattle.vlm_records.specs.declared.processes.Process.{Process}
use Rattle.vlm_store.specs.declared.store.Store.TheInside.{Inside}
use Rattle.vlm_store.specs.Holdings.{faced, holding, process_face, process_face_in}
use Rattle.vlm_records.specs.Kin.{pid_at, plain_process, process_links}
use Rattle.vlm_store.specs.Kept.{IsKept, beside_shown, records_shown, rooms_shown}
use Rattle.vlm_store.specs.Pending.{IsMarked, is_of_nodes, waits_in}
use Rattle.vlm_records.specs.Pending.{IsToldOf, OtherMarksStay}
use Rattle.vlm_store.specs.Records.{OwnLock, StoredProcess, changed_process, on_stored, owed_more}
use Rattle.vlm_store.specs.Store.{tables}
use Rattle.vlm_store.proofs.ProcessesChange.{process_named, process_own_handles, process_owned, rewritten, written_face}
use Rattle.vlm_store.proofs.ProcessesChange.{written_handles, written_linked, written_others, written_owns}
use Rattle.vlm_store.proofs.ProcessesChange.{written_pids, written_whole}
use Rattle.vlm_store.specs.Index.{handle_by, spares_by}
use Rattle.vlm_store.proofs.Indexing.{Indexes-same}
use Rattle.vlm_store.proofs.Kinship.{processes_changed}
use Rattle.vlm_store.proofs.MarkedProcesses.{kept_marked, nodes_same, pids_apart, waits_same, written_marked}
use Rattle.vlm_store.proofs.Members.{process_written}
use Rattle.vlm_records.proofs.OwnLocks.{written_same}
use Rattle.vlm_store.proofs.PlainProcesses.{on_stored-same}
use Rattle.vlm_records.proofs.Rooms.{room_written}
use Rattle.vlm_store.proofs.RoomShown.{room_shown, room_of_same}

-- what a process tells is changed, and it is owed what it was
pub changed_face : (change : PlainProcess → PlainProcess) (was now : Process) → plain_process now ≡ change (plain_process was) → now.asts.due ≡ was.asts.due
    → (at : ℕ) (locks : List OwnLock) → faced at (process_face now) locks ≡ changed_process change (faced at (process_face was) locks)
changed_face change was now plain due at locks =
    ap (λ p. record { at = at; process = p; due = now.asts.due; own = locks }) plain
    ∙ ap (λ n. record { at = at; process = change (plain_process was); due = n; own = locks }) due

module _ (s : Inside) (kept : IsKept s) (at : ℕ) (was now : Process) (here : get s.processes at ≡ Some was)
    (own : now.own ≡ was.own) (order : process_links now ≡ process_links was)
    (pid : now.pid ≡ was.pid) where
  -- the store keeps what it kept, with these marks
  pub remarked_kept : (marks : List (List Bool)) → IsMarked waits_in (rewritten s.processes at was now here own order pid) marks
      → IsKept (record s { processes = rewritten s.processes at was now here own order pid; pending = marks })
  remarked_kept marks marked =
      let owns = written_owns s.processes at was now here own order pid in
      let pids = written_pids s.processes at was now here own order pid in
      let processes = rewritten s.processes at was now here own order pid in
      record {
        placed = kept.placed;
        tallied = kept.tallied;
        armed = kept.armed;
        wait_list = kept.wait_list;
        linked = kept.linked;
        ordered = kept.ordered;
        locks = kept.locks;
        resources = kept.resources;
        owned = process_owned s.processes processes s.queues.locks owns kept.owned;
        below = kept.below;
        named = process_named s.processes processes s.queues.locks (λ k l _. pids l.owner) kept.named;
        processes_linked = written_linked s.processes at was now here own order pid s.process_order kept.processes_linked;
        processes_ordered = written_whole s.processes at was now here own order pid s.process_order kept.processes_linked kept.processes_ordered;
        processes = Indexes-same (handle_by s.process_index) (handle_by s.process_index) (pid_at s.processes)
            (pid_at processes) (λ _. refl) pids kept.processes;
        marked = marked;
        living = kept_marked is_of_nodes s.processes processes s.living pids (λ p. nodes_same (get processes p) (get s.processes p) (pids p)) kept.living;
      }

  -- with its own, where as many ASTs are pending
  pub rewritten_kept : now.asts.pending ≡ was.asts.pending → IsKept (record s { processes = rewritten s.processes at was now here own order pid })
  rewritten_kept pending =
      remarked_kept s.pending
      (kept_marked waits_in s.processes (rewritten s.processes at was now here own order pid) s.pending (written_pids s.processes at was now here own order pid)
      (written_same s.processes at was now waits_in here (waits_same was now pid pending)) kept.marked)

  -- and where the process's mark is written with it
  pub written_kept : (marks : List (List Bool)) → IsToldOf now marks → OtherMarksStay was.pid s.pending marks
      → IsKept (record s { processes = rewritten s.processes at was now here own order pid; pending = marks })
  written_kept marks told others =
      remarked_kept marks (written_marked s.processes s.pending marks at was now here pid told others
      (pids_apart s.processes s.process_index kept.processes) kept.marked)

  -- and shows the process changed
  pub rewritten_shown : (change : StoredProcess → StoredProcess)
      → ((locks : List OwnLock) → faced at (process_face now) locks ≡ change (faced at (process_face was) locks))
      → records_shown (record s { processes = rewritten s.processes at was now here own order pid })
      ≡ record (records_shown s) { processes = on_stored at change (records_shown s).processes }
  rewritten_shown change is =
      let owns = written_owns s.processes at was now here own order pid in
      let processes = rewritten s.processes at was now here own order pid in
      let shown : (locks : List OwnLock)
      → faced at (process_face_in (get processes at)) locks ≡ change
      (faced at (process_face_in (get s.processes at)) locks) =
      λ locks.
      ap (λ face. faced at face locks) (written_face s.processes at was now here own order pid) ∙ is locks
      ∙ ap (λ slot. change (faced at (process_face_in slot) locks)) (sym here) in
      processes_changed s.queues s.order (beside_shown s) (beside_shown (record s { processes = processes })) (on_stored at change)
      (process_written (holding s.processes s.queues.locks s.process_order)
      (holding processes s.queues.locks s.process_order) (λ k. refl) (λ k. refl) at change shown
      (written_others s.processes at was now here own order pid) (process_own_handles s.processes processes s.queues.locks owns)
      (written_handles s.processes at was now here own order pid s.process_order kept.processes_linked)) refl
      ∙ ap (λ r. record (records_shown s) { processes = on_stored at change (records_shown s).processes; room = r })
      (room_shown (λ a b. b ≡ a) (tables s.queues s.order (beside_shown s)) (tables s.queues s.order (beside_shown (record s { processes = processes })))
      (ap (λ p. record (rooms_shown s) { processes = p })
      (room_of_same s.processes processes (spares_by s.process_index) (room_written s.processes at now (rw here refl)))))

-- the ASTs of the process at a handle are written
module _ (s : Inside) (kept : IsKept s) (at : ℕ) (was : Process) (asts : Asts) (here : get s.processes at ≡ Some was) where
  -- the store as it is then
  abbrev with_asts : Inside
  with_asts = record s { processes = rewritten s.processes at was (record was { asts = asts }) here refl refl refl }

  pub asts_kept : asts.pending ≡ was.asts.pending → IsKept with_asts
  asts_kept = rewritten_kept s kept at was (record was { asts = asts }) here refl refl refl

  pub asts_shown : (change : StoredProcess → StoredProcess)
      → ((locks : List OwnLock)
      → faced at (process_face (record was { asts = asts })) locks ≡ change (faced at (process_face was) locks))
      → records_shown with_asts ≡ record (records_shown s) { processes = on_stored at change (records_shown s).processes }
  asts_shown = rewritten_shown s kept at was (record was { asts = asts }) here refl refl refl

  -- more are owed
  pub owed_shown : (count : ℕ) → asts.pending ≡ was.asts.pending → asts.due ≡ was.asts.due + count
      → records_shown with_asts ≡ record (records_shown s) { processes = on_stored at (owed_more count) (records_shown s).processes }
  owed_shown count pending due =
      asts_shown (owed_more count)
      (λ locks.
      let told = λ (xs : List Ast) (n : ℕ). faced at (record { plain = record (plain_process was) { asts = xs }; due = n }) locks in
      let first : told asts.pending asts.due ≡ told was.asts.pending asts.due = ap (λ xs. told xs asts.due) pending in
      let second : told was.asts.pending asts.due ≡ told was.asts.pending (was.asts.due + count) = ap (told was.asts.pending) due in
      first ∙ second)

  -- they are what they were
  pub same_shown : asts ≡ was.asts → records_shown with_asts ≡ records_shown s
  same_shown same =
      asts_shown (λ p. p) (λ locks. ap (λ (x : Asts). faced at (process_face (record was { asts = x })) locks) same)
      ∙ ap (λ ps. record (records_shown s) { processes = ps }) (on_stored-same at (records_shown s).processes)
