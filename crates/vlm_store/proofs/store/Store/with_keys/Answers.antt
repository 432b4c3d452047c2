use Rattle.vlm_store.proofs.LivingProcesses.{is_sound}
use Rattle.vlm_store.specs.Index.{handle_by, hash_key}
use Rattle.vlm_store.proofs.WaitListed.{empty_wait_list}
use Rattle.std.proofs.Common.{◌≡◌, ℕ, None, nat_eq, refl, ap}
use Rattle.std.specs.Map.{lookup}
use Rattle.slab.specs.Slab.{get}
use Rattle.vlm_records.specs.Shown.{lkid_of}
use Rattle.std.specs.Option.{option_map}
use Rattle.vlm_collections.specs.Parts.{handle_in}
use Rattle.vlm_records.specs.declared.queues.Queues.{Queues}
use Rattle.vlm_store.specs.HashedKeys.{hashed_at, hashed_in}
use Rattle.vlm_store.proofs.HashedKeys.{hashed_empty}
use Rattle.vlm_records.specs.Kin.{pid_at, pid_of}
use Rattle.vlm_store.proofs.ProcessesChange.{empty_below, empty_named, empty_owned, empty_processes, empty_processes_linked, empty_processes_ordered}
use Rattle.vlm_store.specs.Store.{lkid_at}
use Rattle.vlm_records.proofs.Arming.{empty_armed}
use Rattle.vlm_store.proofs.KeptRecords.{Indexes-empty, empty_handles, empty_linked, empty_ordered, empty_placed, empty_records, empty_tallied}
use Rattle.vlm_store.specs.Pending.{is_of_nodes, waits_in}
use Rattle.vlm_store.proofs.MarkedProcesses.{empty_marked}
use Rattle.vlm_store.proofs.store.Store.with_keys.Goals as goal
use Rattle.vlm_store.proofs.Kinship.{records_keys}

pub invariant_of-result : goal.invariant_of-result
invariant_of-result c =
    let q : Queues = record { locks = c.new.result; resources = c.new-2.result } in
    let no_locks : (k : ℕ) → get q.locks k ≡ None = λ k. rw c.new.ensures.empty refl in
    let no_resources : (r : ℕ) → get q.resources r ≡ None = λ r. rw c.new-2.ensures.empty refl in
    let no_processes : (p : ℕ) → get c.new-5.result p ≡ None = λ p. rw c.new-5.ensures.empty refl in
    record {
      placed = empty_placed q no_locks no_resources;
      tallied = empty_tallied q no_locks no_resources;
      armed = λ which. empty_armed which q no_resources (empty_handles q no_locks no_resources);
      wait_list = empty_wait_list q.locks c.new-3.result c.new-3.ensures no_locks;
      linked = empty_linked q no_locks no_resources c.new-4.result c.new-4.ensures;
      ordered = empty_ordered q no_locks no_resources c.new-4.result c.new-4.ensures;
      locks = Indexes-empty (handle_in c.new-7.result) (lkid_at q) c.new-7.ensures (λ at. ap (option_map lkid_of) (no_locks at));
      resources =
          hashed_empty (hash_key c.args.keys) c.new-8.result (hashed_at q) c.new-8.ensures (λ r. ap (option_map hashed_in) (no_resources r));
      owned = empty_owned c.new-5.result q.locks no_processes no_locks;
      below = empty_below c.new-5.result q.locks no_processes no_locks;
      named = empty_named c.new-5.result q.locks no_processes no_locks;
      processes_linked = empty_processes_linked c.new-5.result q.locks no_processes no_locks c.new-6.result c.new-6.ensures;
      processes_ordered = empty_processes_ordered c.new-5.result q.locks no_processes no_locks c.new-6.result c.new-6.ensures;
      processes =
          Indexes-empty (handle_by c.with_hasher.result) (pid_at c.new-5.result) (λ number. ap (lookup (nat_eq number)) c.with_hasher.ensures.empty)
          (λ p. ap (option_map pid_of) (no_processes p));
      marked = empty_marked waits_in c.new-5.result c.new-11.result no_processes c.new-11.ensures;
      living = empty_marked is_of_nodes c.new-5.result c.new-10.result no_processes c.new-10.ensures;
    }

pub returns-clause-empty : goal.returns-clause-empty
returns-clause-empty c =
    let q : Queues = record { locks = c.new.result; resources = c.new-2.result } in
    let no_locks : (k : ℕ) → get q.locks k ≡ None = λ k. rw c.new.ensures.empty refl in
    let no_processes : (p : ℕ) → get c.new-5.result p ≡ None = λ p. rw c.new-5.ensures.empty refl in
    empty_records q no_locks (λ r. rw c.new-2.ensures.empty refl) c.new-4.result c.new-4.ensures _
    (empty_processes c.new-5.result q.locks no_processes no_locks c.new-6.result c.new-6.ensures)

pub returns-clause-sound : goal.returns-clause-sound
returns-clause-sound c = is_sound _ (invariant_of-result c)

pub returns-clause-keys : goal.returns-clause-keys
returns-clause-keys c = records_keys _
