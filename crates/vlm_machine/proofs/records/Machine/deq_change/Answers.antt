use Rattle.std.proofs.Common.{sym, ap, ◌∙◌, subst}
use Rattle.vlm_model.specs.Dequeue.{withdrawal_of}
use Rattle.vlm_model.specs.Withdrawals.{Withdrawal}
use Rattle.vlm_locks.specs.Withdrawals.{plain_withdrawal}
use Rattle.vlm_locks.specs.Withdrawing.{goes}
use Rattle.vlm_machine.specs.Admissions.{IsAdmittedDequeue, IsChildless}
use Rattle.vlm_machine.specs.Between.{IsBetweenSteps}
use Rattle.vlm_machine.specs.Machine.{MachineState, plain_state}
use Rattle.vlm_machine.proofs.ConversionsMade.{state_withdrawn}
use Rattle.vlm_machine.proofs.GrantedWantNothing.{wants_nothing}
use Rattle.vlm_machine.proofs.records.Machine.deq_change.Goals as goal

-- a lock that goes has no sublocks
pub withdraw-requires-clause-childless : goal.withdraw-requires-clause-childless
withdraw-requires-clause-childless c =
    λ takes. subst (λ (m : MachineState). IsChildless m c.args.dequeue.now c.args.located.now) (sym c.self.view_is) c.requires.childless
    (ap (λ (w : Withdrawal). goes w.stays c.args.located.now.queue) (sym c.withdrawal_of-withdrawal.ensures) ∙ takes)

-- a granted lock wants nothing
pub withdraw-requires-clause-granted : goal.withdraw-requires-clause-granted
withdraw-requires-clause-granted c =
    let between = subst (λ (m : MachineState). IsBetweenSteps (plain_state m)) (sym c.self.view_is) c.requires.between in
    let admitted = subst (λ (m : MachineState). IsAdmittedDequeue m c.args.dequeue.now c.args.located.now) (sym c.self.view_is) c.requires.admitted in
    wants_nothing c.self.inside.store between.rows_fit c.args.located.now admitted.located.located

-- the state is that of the plain machine
pub returns-clause-change : goal.returns-clause-change
returns-clause-change c =
    ap (λ (m : MachineState). plain_state (record m { records = c.withdraw.new.store })) c.self.view_is
    ∙ state_withdrawn c.args.self.now c.args.dequeue.now (plain_withdrawal c.withdrawal_of-withdrawal.result) c.withdraw.new.store c.requires.admitted.alone
    (c.withdrawal_of-withdrawal.ensures
    ∙ ap (withdrawal_of c.args.dequeue.now) (c.lkid.ensures ∙ c.requires.admitted.located.named))
    (rw (← c.self.view_is) c.withdraw.ensures.resources)
    (rw (← c.self.view_is) c.withdraw.ensures.statuses)

-- the other resources stay
pub returns-clause-others : goal.returns-clause-others
returns-clause-others c = rw (← c.self.view_is) c.withdraw.ensures.beside.others
