use Rattle.std.proofs.Common.{rules, sym}
use Rattle.vlm_machine.specs.Machine.{plain_state}
use Rattle.vlm_machine.proofs.Admitting.{cancel_passes, cancel_refused, dequeue_passes}
use Rattle.vlm_machine.proofs.records.Machine.check_cancel.Goals.{else-cancels-via-then-cancels+else-is_granted, else-cancels-via-else-cancels}
use Rattle.vlm_machine.proofs.records.Machine.check_cancel.Goals as goal

-- the cancel of a granted lock is refused
pub returns-then-is_granted : goal.returns-then-is_granted
returns-then-is_granted c d cancels admitted =
    sym (cancel_refused c.args.self.now admitted.located.located.sound d c.args.located.now
    admitted (search rules) (search rules))

pub returns-else-cancels : goal.returns-else-cancels
returns-else-cancels c d cancels admitted =
    elim c.else-cancels.branch [
      | else-cancels-via-then-cancels+else-is_granted w ↦
          sym (cancel_passes c.args.self.now admitted.located.located.sound d c.args.located.now
          admitted (search rules))
      | else-cancels-via-else-cancels w ↦
          sym (dequeue_passes (plain_state c.args.self.now) d (search rules))
    ]
