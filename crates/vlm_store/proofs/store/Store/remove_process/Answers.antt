use Rattle.vlm_store.specs.Store.{tables, records_of}
use Rattle.vlm_store.proofs.RoomShown.{room_shown, is_given_back, spares_kept}
use Rattle.std.proofs.Common.{◌≡◌, ◌≢◌, ◌∙◌, ℕ, [], Some, ap, nat_eq, sym, refl, subst}
use Rattle.std.specs.Cmp.{unsigned_Decides}
use Rattle.std.proofs.lemmas.Option.{none-some}
use Rattle.std.specs.Option.{option_map}
use Rattle.slab.specs.Slab.{get}
use Rattle.vlm_collections.specs.Lists.{IsIn}
use Rattle.vlm_records.specs.declared.locks.Lock.{Lock}
use Rattle.vlm_records.specs.Kin.{but_order, own_in, own_handles, owner_in, pid_at, pid_of, process_links}
use Rattle.vlm_store.specs.Holdings.{holding, own_of}
use Rattle.vlm_store.specs.Kept.{beside_shown}
use Rattle.vlm_store.specs.Records.{without_process, IsGivenBack}
use Rattle.vlm_store.proofs.ProcessesChange.{names_stay, no_own, owns_stay, pid_by_order, face_by_order, process_own_handles, process_owned}
use Rattle.vlm_store.specs.Index.{handle_by, spares_by}
use Rattle.vlm_store.proofs.Indexing.{found_removed}
use Rattle.vlm_store.proofs.Kinship.{processes_changed}
use Rattle.vlm_records.proofs.PlacesOnLists.{there_by_part}
use Rattle.vlm_store.proofs.LivingProcesses.{held, is_sound, own_is, process_listed, process_there}
use Rattle.vlm_records.proofs.Making.{map-nil, whole_left}
use Rattle.vlm_store.specs.Pending.{is_of_nodes, waits_in}
use Rattle.vlm_store.proofs.MarkedProcesses.{nodes_same, pids_apart, removed_marked, waits_by_order}
use Rattle.vlm_store.proofs.Members.{process_removed}
use Rattle.vlm_store.proofs.store.Store.remove_process.Goals as goal

pub index-requires : goal.index-requires
index-requires c = rw c.slot.ensures (process_there c.self.inside c.self.invariant c.args.at (rw (← c.self.view_is) at c.requires.there))

pub take_out-requires-clause-listed : goal.take_out-requires-clause-listed
take_out-requires-clause-listed c = rw c.slot-2.ensures (process_listed c.self.inside c.self.invariant c.args.at (rw (← c.self.view_is) at c.requires.there))

pub unmark-requires : goal.unmark-requires
unmark-requires c = c.self.invariant.living.room c.args.at c.index.result.now.pid (ap (option_map pid_of) (rw c.slot.ensures at c.index.ensures))

pub unmark-requires-2 : goal.unmark-requires-2
unmark-requires-2 c = c.self.invariant.marked.room c.args.at c.index.result.now.pid (ap (option_map pid_of) (rw c.slot.ensures at c.index.ensures))

pub invariant_of-self : goal.invariant_of-self
invariant_of-self c =
    let s = c.self.inside in
    let kept = c.self.invariant in
    let left = rw c.slot-2.ensures at c.take_out.ensures in
    let new = c.take_out.new.processes in
    let none : own_handles s.processes s.queues.locks c.args.at ≡ [] =
    map-nil (own_of (held s kept)) (own_handles s.processes s.queues.locks c.args.at)
    (sym (own_is s kept c.args.at (rw (← c.self.view_is) at c.requires.there)) ∙ (rw (← c.self.view_is) at c.requires.idle)) in
    let before = no_own s.processes s.queues.locks c.args.at kept.owned none in
    let after = ap own_in left.gone in
    let pids : (p : ℕ) → p ≢ c.args.at
    → pid_at new p ≡ pid_at s.processes p =
    λ p differs. pid_by_order (get new p) (get s.processes p) (left.others p differs) in
    let apart : (k : ℕ) (l : Lock) → get s.queues.locks k ≡ Some l → l.owner ≢ c.args.at =
    λ k l here same. subst (IsIn k) none (kept.owned.stands c.args.at k (λ e. none-some k (sym e)) (ap owner_in here ∙ ap Some same)) in
    record {
      placed = kept.placed;
      tallied = kept.tallied;
      armed = kept.armed;
      wait_list = kept.wait_list;
      linked = kept.linked;
      ordered = kept.ordered;
      locks = kept.locks;
      resources = kept.resources;
      owned = process_owned s.processes new s.queues.locks (owns_stay s.processes new c.args.at left.others before after) kept.owned;
      below = kept.below;
      named = names_stay s.processes new c.args.at left.others before after s.queues.locks apart kept.named;
      processes_linked = left.linked;
      processes_ordered = whole_left process_links s.processes new s.process_order c.take_out.new.order c.args.at kept.processes_ordered left.order left.gone
          (λ p differs. there_by_part but_order (get s.processes p) (get new p) (sym (left.others p differs)));
      processes = found_removed nat_eq unsigned_Decides (handle_by s.process_index)
          (handle_by c.swap_remove.new.self) c.index.result.now.pid (pid_at s.processes) (pid_at new) c.args.at
          c.swap_remove.ensures.updates.2 pids c.swap_remove.ensures.updates.1
          (ap (option_map pid_of) (rw c.slot.ensures at c.index.ensures))
          (ap (option_map pid_of) left.gone) kept.processes;
      marked = removed_marked waits_in s.processes new c.args.at pids
          (λ p differs. waits_by_order (get new p) (get s.processes p) (left.others p differs)) s.pending c.unmark-2.new.self c.index.result.now.pid
          (ap (option_map pid_of) (rw c.slot.ensures at c.index.ensures)) left.gone c.unmark-2.ensures
          (pids_apart s.processes s.process_index kept.processes) kept.marked;
      living = removed_marked is_of_nodes s.processes new c.args.at pids
          (λ p differs. nodes_same (get new p) (get s.processes p)
          (pids p differs)) s.living c.unmark.new.self c.index.result.now.pid
          (ap (option_map pid_of) (rw c.slot.ensures at c.index.ensures)) left.gone c.unmark.ensures
          (pids_apart s.processes s.process_index kept.processes) kept.living;
    }

pub returns-clause-removed : goal.returns-clause-removed
unfolding records_of
returns-clause-removed c =
    let s = c.self.inside in
    let kept = c.self.invariant in
    let left = rw c.slot-2.ensures at c.take_out.ensures in
    let new = c.take_out.new.processes in
    let none : own_handles s.processes s.queues.locks c.args.at ≡ [] =
    map-nil (own_of (held s kept)) (own_handles s.processes s.queues.locks c.args.at)
    (sym (own_is s kept c.args.at (rw (← c.self.view_is) at c.requires.there)) ∙ (rw (← c.self.view_is) at c.requires.idle)) in
    let before = no_own s.processes s.queues.locks c.args.at kept.owned none in
    let after = ap own_in left.gone in
    let owns = owns_stay s.processes new c.args.at left.others before after in
    rw (← c.self.view_is)
    (processes_changed s.queues s.order (beside_shown s)
    (beside_shown (record s {
      processes = new;
      process_order = c.take_out.new.order;
      process_index =
          c.swap_remove.new.self;
      living = c.unmark.new.self;
      pending = c.unmark-2.new.self;
    }))
    (without_process c.args.at)
    (process_removed (holding s.processes s.queues.locks s.process_order) (holding new s.queues.locks c.take_out.new.order) (λ k. refl) (λ k. refl) c.args.at
    (λ p differs. face_by_order (get new p) (get s.processes p) (left.others p differs))
    (λ p _. process_own_handles s.processes new s.queues.locks owns p) left.order) refl)

pub returns-clause-given_back : goal.returns-clause-given_back
returns-clause-given_back c =
    let s = c.self.inside in
    let left = rw c.slot-2.ensures at c.take_out.ensures in
    let s' = record s {
      processes = c.take_out.new.processes;
      process_order = c.take_out.new.order;
      process_index =
          c.swap_remove.new.self;
      living = c.unmark.new.self;
      pending = c.unmark-2.new.self;
    } in
    rw (← c.self.view_is)
    (room_shown (λ a b. IsGivenBack a.processes b.processes) (tables s.queues s.order (beside_shown s)) (tables s.queues s.order (beside_shown s'))
    (is_given_back s.processes c.take_out.new.processes c.args.at (spares_by s.process_index) (spares_by c.swap_remove.new.self) left.given_back
    (c.self.invariant.processes_linked.within c.args.at
    (process_listed s c.self.invariant c.args.at (rw (← c.self.view_is) at c.requires.there)))
    (spares_kept s.process_index c.swap_remove.new.self c.swap_remove.ensures.room.0)))

pub returns-clause-sound : goal.returns-clause-sound
returns-clause-sound c = record { before = rw (← c.self.view_is) (is_sound c.self.inside c.self.invariant); after = is_sound _ (invariant_of-self c) }
