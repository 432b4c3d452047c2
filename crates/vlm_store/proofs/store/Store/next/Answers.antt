use Rattle.std.proofs.Common.{◌≡◌, ◌∙◌, sym, subst}
use Rattle.std.proofs.lemmas.Option.{none-some, same_Some}
use Rattle.vlm_collections.specs.Lists.{IsIn}
use Rattle.vlm_store.specs.Records.{Records, StoredLock, locks_at}
use Rattle.vlm_records.specs.Shown.{handles_at, rows}
use Rattle.vlm_store.specs.Store.{tables}
use Rattle.vlm_store.proofs.KeptRecords.{stored_there}
use Rattle.vlm_collections.proofs.Walks.{handle_after-in}
use Rattle.vlm_store.proofs.Layouts.{under_handle-after, among-seen, locks_at-among, locks_at-seen}
use Rattle.vlm_store.specs.Kept.{beside_shown}
use Rattle.vlm_store.proofs.store.Store.next.Goals as goal
use Rattle.vlm_records.proofs.PlacesOnLists.{noted_as}
use Rattle.vlm_store.proofs.LivingProcesses.{stored_in_queue}

pub index-requires : goal.index-requires
index-requires c =
    let s = c.self.inside in
    let stored = rw (← c.self.view_is) at c.requires in
    rw c.slot.ensures (stored_there s.queues s.order (beside_shown s) c.self.invariant.placed c.args.lock stored.0 stored.1).0

pub next-requires : goal.next-requires
next-requires c =
    let s = c.self.inside in
    let stored = rw (← c.self.view_is) at c.requires in
    let in_queue = stored_in_queue s c.self.invariant c.args.lock stored.0 stored.1 in
    let place = c.index.result.now.place in
    rw (c.list-list.ensures, c.slot-2.ensures, c.place.ensures)
    (record {
      linked = c.self.invariant.placed.linked place;
      listed = c.self.invariant.placed.stands place c.args.lock (λ e. none-some c.args.lock (sym e))
          (noted_as _ _ (rw c.slot.ensures at c.index.ensures) in_queue);
    })

pub of-requires : goal.of-requires
of-requires c =
    let s = c.self.inside in
    let is = rw (c.list-list.ensures, c.slot-2.ensures, c.place.ensures) at c.in_ok-at.ensures in
    (c.self.invariant.placed.linked c.index.result.now.place).within c.in_ok-at.at
    (handle_after-in c.args.lock (handles_at s.queues c.index.result.now.place) c.in_ok-at.at is)

pub returns : goal.returns
returns c place row among =
    let s = c.self.inside in
    let stored = rw (← c.self.view_is) at c.requires in
    let in_queue = stored_in_queue s c.self.invariant c.args.lock stored.0 stored.1 in
    let l = tables s.queues s.order (beside_shown s) in
    let lock : StoredLock = record { at = c.args.lock; row = row } in
    let there = subst (λ (x : Records). IsIn lock (locks_at place x)) (sym c.self.view_is) among in
    let found = (locks_at-among l place lock there).0 in
    let is : c.index.result.now.place ≡ place =
    same_Some c.index.result.now.place place (sym (noted_as _ _ (rw c.slot.ensures at c.index.ensures) in_queue)
    ∙ c.self.invariant.placed.listed place c.args.lock found) in
    rw (← c.self.view_is, locks_at-seen l place (among-seen l place lock there), c.of.ensures)
    ((rw (c.list-list.ensures, c.slot-2.ensures, c.place.ensures, is) at c.in_ok-at.ensures)
    ∙ sym (under_handle-after (rows s.queues) c.args.lock (handles_at s.queues place)))

pub returns-in_err-at : goal.returns-in_err-at
returns-in_err-at c place row among =
    let s = c.self.inside in
    let stored = rw (← c.self.view_is) at c.requires in
    let in_queue = stored_in_queue s c.self.invariant c.args.lock stored.0 stored.1 in
    let l = tables s.queues s.order (beside_shown s) in
    let lock : StoredLock = record { at = c.args.lock; row = row } in
    let there = subst (λ (x : Records). IsIn lock (locks_at place x)) (sym c.self.view_is) among in
    let found = (locks_at-among l place lock there).0 in
    let is : c.index.result.now.place ≡ place =
    same_Some c.index.result.now.place place (sym (noted_as _ _ (rw c.slot.ensures at c.index.ensures) in_queue)
    ∙ c.self.invariant.placed.listed place c.args.lock found) in
    rw (← c.self.view_is, locks_at-seen l place (among-seen l place lock there))
    (c.from_residual.ensures ∙ (rw (c.list-list.ensures, c.slot-2.ensures, c.place.ensures, is) at c.in_err-at.ensures)
    ∙ sym (under_handle-after (rows s.queues) c.args.lock (handles_at s.queues place)))
