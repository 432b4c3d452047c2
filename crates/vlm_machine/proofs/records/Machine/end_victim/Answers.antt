use Rattle.std.proofs.Common.{◌≡◌, true, sym, ap, ◌∙◌, subst}
use Rattle.vlm_model.specs.Withdrawals.{Withdrawal}
use Rattle.vlm_store.specs.Plain.{plain_resources}
use Rattle.vlm_store.specs.Records.{HasNoSublocks}
use Rattle.vlm_locks.specs.Standing.{IsLocated}
use Rattle.vlm_locks.specs.Withdrawing.{goes}
use Rattle.vlm_machine.specs.Between.{IsBetweenSteps}
use Rattle.vlm_machine.specs.Machine.{MachineState, plain_state}
use Rattle.vlm_machine.proofs.Childless.{by_recursion, goes_waiting, waiting_childless}
use Rattle.vlm_machine.proofs.GrantedWantNothing.{wants_nothing}
use Rattle.vlm_machine.proofs.records.Machine.end_victim.Goals as goal
use Rattle.vlm_locks.proofs.Rising.{none_loose}

-- a victim whose lock goes waits, and a lock that waits has no sublocks
pub withdraw-requires-clause-childless : goal.withdraw-requires-clause-childless
withdraw-requires-clause-childless c =
    let m = c.args.self.now in
    let f = c.args.located.now in
    let sound = c.requires.located.sound in
    let stays : c.victim-withdrawal.result.stays ≡ true = ap (λ (w : Withdrawal). w.stays) c.victim-withdrawal.ensures in
    λ takes.
    subst (λ (k : MachineState). HasNoSublocks f.lock k.records) (sym c.self.view_is)
    (waiting_childless m.records sound f c.requires.located
    (rw (← c.self.view_is)
    (none_loose c.self.inside.store c.self.invariant.rest.rising)) c.requires.between.ids.none_is_0
    (by_recursion (plain_resources m.records) c.requires.between.parents)
    (goes_waiting f.queue (sym (ap (λ b. goes b f.queue) stays) ∙ takes)))

-- a granted lock wants nothing
pub withdraw-requires-clause-granted : goal.withdraw-requires-clause-granted
withdraw-requires-clause-granted c =
    let f = c.args.located.now in
    let between = subst (λ (m : MachineState). IsBetweenSteps (plain_state m)) (sym c.self.view_is) c.requires.between in
    let located = subst (λ (m : MachineState). IsLocated f m.records) (sym c.self.view_is) c.requires.located in
    wants_nothing c.self.inside.store between.rows_fit f located
