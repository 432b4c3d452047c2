use Rattle.std.proofs.Common.{◌≡◌, ◌+◌, true, refl, sym, ap, subst, ◌∙◌}
use Rattle.vlm_words.specs.declared.resources.Queue.{Queue}
use Rattle.vlm_words.specs.Dues.{due_to}
use Rattle.vlm_locks.specs.Owing.{due_for, left_row}
use Rattle.vlm_locks.specs.Withdrawing.{goes, owned_after}
use Rattle.vlm_locks.proofs.ReservedAsts.{due_gone, nothing_wanted}
use Rattle.vlm_locks.proofs.Withdrawn.{cancelled_none, cancelled_waiting}
use Rattle.vlm_locks.proofs.releases.cancel.Goals as goal

-- a granted lock has no request
pub returns-in-Granted-clause-done : goal.returns-in-Granted-clause-done
returns-in-Granted-clause-done c =
    let f = c.args.located.now in
    record {
      made = cancelled_none c.args.store.now c.requires.located.sound f c.requires.located c.in-Granted.is c.requires.rest;
      locks = λ place. refl;
      own_locks = sym (ap (λ (queue : Queue). owned_after (goes true queue) f.lock c.args.store.now.processes) c.in-Granted.is);
    }

-- a converting lock is granted again
pub returns-in-Conversion-clause-done : goal.returns-in-Conversion-clause-done
returns-in-Conversion-clause-done c =
    let f = c.args.located.now in
    record {
      made = c.restore_granted.ensures.done.made;
      locks = c.restore_granted.ensures.done.locks;
      own_locks = c.restore_granted.ensures.done.own_locks
          ∙ sym (ap (λ (queue : Queue). owned_after
          (goes true queue) f.lock c.args.store.now.processes) c.in-Conversion.is);
    }

pub remove-requires-clause-childless : goal.remove-requires-clause-childless
remove-requires-clause-childless c = c.requires.childless c.in-Waiting.is

-- a waiting one goes
pub returns-in-Waiting-clause-done : goal.returns-in-Waiting-clause-done
returns-in-Waiting-clause-done c =
    let f = c.args.located.now in
    record {
      made = cancelled_waiting c.args.store.now c.requires.located.sound f c.requires.located c.in-Waiting.is c.remove.new.store c.remove.ensures.done.made;
      locks = c.remove.ensures.done.locks;
      own_locks = c.remove.ensures.done.own_locks
          ∙ sym (ap (λ (queue : Queue). owned_after
          (goes true queue) f.lock c.args.store.now.processes) c.in-Waiting.is);
    }

-- what is due
pub returns-in-Granted-clause-due : goal.returns-in-Granted-clause-due
returns-in-Granted-clause-due c pid =
    let f = c.args.located.now in
    subst (λ (queue : Queue). due_for pid c.args.store.now + due_to pid f.row ≡ due_for pid c.args.store.now + due_to
    pid (left_row (goes true queue) f.row)) (sym c.in-Granted.is)
    (ap (λ due. due_for pid c.args.store.now + due) (sym (nothing_wanted f.row (c.requires.granted c.in-Granted.is) pid)))

pub returns-in-Conversion-clause-due : goal.returns-in-Conversion-clause-due
returns-in-Conversion-clause-due c pid =
    let f = c.args.located.now in
    subst (λ (queue : Queue). due_for pid c.restore_granted.new.store + due_to pid f.row ≡ due_for pid c.args.store.now
    + due_to pid (left_row (goes true queue) f.row)) (sym c.in-Conversion.is)
    (c.restore_granted.ensures.due pid)

pub returns-in-Waiting-clause-due : goal.returns-in-Waiting-clause-due
returns-in-Waiting-clause-due c pid =
    let f = c.args.located.now in
    subst (λ (queue : Queue). due_for pid c.remove.new.store + due_to pid f.row ≡ due_for pid c.args.store.now + due_to
    pid (left_row (goes true queue) f.row)) (sym c.in-Waiting.is)
    (due_gone c.args.located.now.lock c.args.located.now.row c.args.store.now c.remove.new.store c.remove.ensures.loses pid)
