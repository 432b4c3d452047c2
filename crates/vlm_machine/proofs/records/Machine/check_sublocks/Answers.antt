use Rattle.std.proofs.Common.{sym, ap, ◌∙◌, subst}
use Rattle.vlm_store.specs.Plain.{plain_resources}
use Rattle.vlm_store.specs.Records.{HasNoSublocks, IsStored}
use Rattle.vlm_locks.specs.Withdrawing.{goes}
use Rattle.vlm_locks.proofs.QueuedLocks.{stored}
use Rattle.vlm_machine.specs.Machine.{MachineState}
use Rattle.vlm_machine.proofs.Childless.{by_recursion, cancel_passes_sublocks, goes_waiting, sublocks_pass, sublocks_refused, waiting_childless}
use Rattle.vlm_machine.proofs.records.Machine.check_sublocks.Goals.{else-not-cancels-via-then-not-cancels+else-has_sublocks}
use Rattle.vlm_machine.proofs.records.Machine.check_sublocks.Goals.{else-not-cancels-via-else-not-cancels}
use Rattle.vlm_machine.proofs.records.Machine.check_sublocks.Goals as goal
use Rattle.vlm_locks.proofs.Rising.{none_loose}

pub has_sublocks-requires : goal.has_sublocks-requires
has_sublocks-requires c =
    let f = c.args.located.now in
    subst (λ (k : MachineState). IsStored f.lock k.records) (sym c.self.view_is) (f.row, stored c.args.self.now.records f c.requires.located)

pub returns-then-has_sublocks-clause-refusal : goal.returns-then-has_sublocks-clause-refusal
returns-then-has_sublocks-clause-refusal c =
    let f = c.args.located.now in
    sublocks_refused c.args.self.now c.requires.located.sound f c.requires.located c.args.cancels
    (rw (← c.self.view_is) (none_loose c.self.inside.store c.self.invariant.rest.rising)) c.if-not-cancels.true
    (λ none. c.if-has_sublocks.ensures.some (subst (λ (k : MachineState). HasNoSublocks f.lock k.records) (sym c.self.view_is) none))

pub returns-else-not-cancels-clause-refusal : goal.returns-else-not-cancels-clause-refusal
returns-else-not-cancels-clause-refusal c =
    let m = c.args.self.now in
    let f = c.args.located.now in
    let sound = c.requires.located.sound in
    elim c.else-not-cancels.branch [
      | else-not-cancels-via-then-not-cancels+else-has_sublocks w ↦
          sublocks_pass m sound f c.requires.located c.args.cancels c.requires.between.ids.none_is_0
          (subst (λ (k : MachineState). HasNoSublocks f.lock k.records) c.self.view_is w.if-has_sublocks.ensures.none)
      | else-not-cancels-via-else-not-cancels w ↦
          cancel_passes_sublocks m sound f c.requires.located c.args.cancels w.if-not-cancels.false
    ]

-- a lock that is given up has none, and one that a cancel takes waits
pub returns-else-not-cancels-clause-childless : goal.returns-else-not-cancels-clause-childless
returns-else-not-cancels-clause-childless c =
    let m = c.args.self.now in
    let f = c.args.located.now in
    let sound = c.requires.located.sound in
    elim c.else-not-cancels.branch [
      | else-not-cancels-via-then-not-cancels+else-has_sublocks w ↦
          λ _. subst (λ (k : MachineState). HasNoSublocks f.lock k.records) c.self.view_is w.if-has_sublocks.ensures.none
      | else-not-cancels-via-else-not-cancels w ↦
          λ takes.
          waiting_childless m.records sound f c.requires.located
          (rw (← c.self.view_is)
          (none_loose c.self.inside.store c.self.invariant.rest.rising)) c.requires.between.ids.none_is_0
          (by_recursion (plain_resources m.records) c.requires.between.parents)
          (goes_waiting f.queue (sym (ap (λ b. goes b f.queue) w.if-not-cancels.false) ∙ takes))
    ]
