-- Withdrawals as the plain machine has them.
use Rattle.std.specs.Prelude.{Bool, ◌||◌, is_some}
use Rattle.vlm_model.specs.Endings.{How}
use Rattle.vlm_model.specs.Endings.How.{by_abort, by_cancel, by_deadlock, by_rundown}
use Rattle.vlm_model.specs.Withdrawals.{Withdrawal as PlainWithdrawal}
use Rattle.vlm_locks.specs.declared.withdrawals.EndReason.TheVariants.{Aborted, Cancelled, Deadlocked, RunDown}
use Rattle.vlm_locks.specs.declared.withdrawals.EndReason.{EndReason}
use Rattle.vlm_locks.specs.declared.withdrawals.Withdrawal.{Withdrawal}

-- how a request ends without a grant
abbrev pub how_ended : EndReason → How
how_ended Aborted = by_abort
how_ended Cancelled = by_cancel
how_ended Deadlocked = by_deadlock
how_ended RunDown = by_rundown

-- the withdrawal of the plain machine
abbrev pub plain_withdrawal : Withdrawal → PlainWithdrawal
plain_withdrawal w = record {
  lkid = w.lkid;
  waiting = how_ended w.waiting;
  converting = how_ended w.converting;
  stays = w.stays;
  value = w.value;
  tail = w.tail;
  invalidates = w.invalidates;
}

-- the withdrawal writes the value block, or marks it invalid, if its lock may write it
abbrev pub writes_something : Withdrawal → Bool
writes_something w = is_some w.value || w.invalidates
