use Rattle.std.proofs.Common.{sym, ap, ◌∙◌}
use Rattle.vlm_words.specs.declared.locks.LockState.{LockState}
use Rattle.vlm_locks.proofs.touched.Note.of_lock.Goals as goal

pub returns-clause-lkid : goal.returns-clause-lkid
returns-clause-lkid c row stored = ap (λ (x : LockState). x.lkid) (c.lock_record.ensures.only row stored) ∙ sym c.lkid.ensures
