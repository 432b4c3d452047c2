use Rattle.vlm_store.proofs.LivingProcesses.{is_sound, has_there, there_has}
use Rattle.vlm_store.proofs.KeptRecords.{finds_lock}
use Rattle.vlm_collections.specs.Parts.{handle_in}
use Rattle.vlm_store.specs.Kept.{beside_shown}
use Rattle.vlm_store.proofs.store.Store.lock.Goals as goal

pub returns-clause-found : goal.returns-clause-found
returns-clause-found c =
    let s = c.self.inside in
    let kept = c.self.invariant in
    rw (← c.self.view_is) (finds_lock s.queues s.order (beside_shown s) kept.placed kept.linked kept.ordered
    (has_there s kept) (there_has s kept)
    (handle_in s.lock_index) kept.locks c.args.lkid c.get.result c.get.ensures)

pub returns-clause-sound : goal.returns-clause-sound
returns-clause-sound c = rw (← c.self.view_is) (is_sound c.self.inside c.self.invariant)
