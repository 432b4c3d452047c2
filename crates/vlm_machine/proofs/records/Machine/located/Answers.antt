use Rattle.std.proofs.Common.{sym, ap, ◌∙◌}
use Rattle.vlm_words.specs.declared.locks.LockState.{LockState}
use Rattle.vlm_machine.proofs.records.Machine.located.Goals as goal

-- the lock that was found stands so
pub returns-clause-located : goal.returns-clause-located
returns-clause-located c pid lkid found =
    let found = rw (← c.self.view_is) at found in
    let same = c.located_lock.ensures.only found.row found.stored in
    rw (← c.self.view_is)
    (record {
      located = c.located_lock.ensures.located;
      named = sym (ap (λ (row : LockState). row.lkid) same) ∙ found.named;
      owned = sym (ap (λ (row : LockState). row.pid) same) ∙ found.owned;
    })
