use Rattle.std.proofs.Common.{◌≡◌, ◌∙◌, ℕ, List, [], ◌∷◌, map, ap, sym, subst, refl}
use Rattle.std.proofs.lemmas.Option.{none-some, same_Some}
use Rattle.vlm_collections.specs.Lists.{IsIn, handle_before}
use Rattle.vlm_store.specs.Records.{Records, StoredLock, locks_at}
use Rattle.vlm_records.specs.Shown.{handles_at, rows}
use Rattle.vlm_store.specs.Store.{tables, under_handle}
use Rattle.vlm_words.specs.declared.locks.LockState.{LockState}
use Rattle.vlm_store.proofs.KeptRecords.{stored_there}
use Rattle.vlm_collections.proofs.Walks.{handle_before-in}
use Rattle.vlm_store.proofs.Layouts.{among-seen, locks_at-among, locks_at-seen}
use Rattle.vlm_store.specs.Kept.{beside_shown}
use Rattle.vlm_store.proofs.store.Store.previous.Goals as goal
use Rattle.vlm_records.proofs.PlacesOnLists.{noted_as}
use Rattle.vlm_store.proofs.LivingProcesses.{stored_in_queue}

-- the handles of the locks that a caller sees
handles_seen : (rows : ℕ → LockState) (ks : List ℕ) → map (λ (k : StoredLock). k.at) (map (under_handle rows) ks) ≡ ks
handles_seen rows [] = refl
handles_seen rows (k ∷ ks) = ap (λ rest. k ∷ rest) (handles_seen rows ks)

pub index-requires : goal.index-requires
index-requires c =
    let s = c.self.inside in
    let stored = rw (← c.self.view_is) at c.requires in
    rw c.slot.ensures (stored_there s.queues s.order (beside_shown s) c.self.invariant.placed c.args.lock stored.0 stored.1).0

pub previous-requires : goal.previous-requires
previous-requires c =
    let s = c.self.inside in
    let stored = rw (← c.self.view_is) at c.requires in
    let in_queue = stored_in_queue s c.self.invariant c.args.lock stored.0 stored.1 in
    let place = c.index.result.now.place in
    rw (c.list-list.ensures, c.slot-2.ensures, c.place.ensures)
    (record {
      linked = c.self.invariant.placed.linked place;
      listed = c.self.invariant.placed.stands place c.args.lock (λ e. none-some c.args.lock (sym e))
          (noted_as _ _ (rw c.slot.ensures at c.index.ensures) in_queue);
    })

pub of-requires : goal.of-requires
of-requires c =
    let s = c.self.inside in
    let is = rw (c.list-list.ensures, c.slot-2.ensures, c.place.ensures) at c.in_ok-at.ensures in
    (c.self.invariant.placed.linked c.index.result.now.place).within c.in_ok-at.at
    (handle_before-in c.args.lock (handles_at s.queues c.index.result.now.place) c.in_ok-at.at is)

pub returns : goal.returns
returns c place row among =
    let s = c.self.inside in
    let stored = rw (← c.self.view_is) at c.requires in
    let in_queue = stored_in_queue s c.self.invariant c.args.lock stored.0 stored.1 in
    let l = tables s.queues s.order (beside_shown s) in
    let lock : StoredLock = record { at = c.args.lock; row = row } in
    let there = subst (λ (x : Records). IsIn lock (locks_at place x)) (sym c.self.view_is) among in
    let found = (locks_at-among l place lock there).0 in
    let is : c.index.result.now.place ≡ place =
    same_Some c.index.result.now.place place (sym (noted_as _ _ (rw c.slot.ensures at c.index.ensures) in_queue)
    ∙ c.self.invariant.placed.listed place c.args.lock found) in
    rw (← c.self.view_is, locks_at-seen l place (among-seen l place lock there), c.of.ensures)
    ((rw (c.list-list.ensures, c.slot-2.ensures, c.place.ensures, is) at c.in_ok-at.ensures)
    ∙ ap (handle_before c.args.lock) (sym (handles_seen (rows s.queues) (handles_at s.queues place))))

pub returns-in_err-at : goal.returns-in_err-at
returns-in_err-at c place row among =
    let s = c.self.inside in
    let stored = rw (← c.self.view_is) at c.requires in
    let in_queue = stored_in_queue s c.self.invariant c.args.lock stored.0 stored.1 in
    let l = tables s.queues s.order (beside_shown s) in
    let lock : StoredLock = record { at = c.args.lock; row = row } in
    let there = subst (λ (x : Records). IsIn lock (locks_at place x)) (sym c.self.view_is) among in
    let found = (locks_at-among l place lock there).0 in
    let is : c.index.result.now.place ≡ place =
    same_Some c.index.result.now.place place (sym (noted_as _ _ (rw c.slot.ensures at c.index.ensures) in_queue)
    ∙ c.self.invariant.placed.listed place c.args.lock found) in
    rw (← c.self.view_is, locks_at-seen l place (among-seen l place lock there))
    (c.from_residual.ensures ∙ (rw (c.list-list.ensures, c.slot-2.ensures, c.place.ensures, is) at c.in_err-at.ensures)
    ∙ ap (handle_before c.args.lock) (sym (handles_seen (rows s.queues) (handles_at s.queues place))))
