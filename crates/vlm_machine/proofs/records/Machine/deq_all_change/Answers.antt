use Rattle.std.proofs.Common.{sym, ap, subst, ◌∙◌}
use Rattle.vlm_words.specs.Flags.{has_flag, invvalblk}
use Rattle.vlm_locks.specs.GivingUp.{AreGivenUp, SublocksGoToo}
use Rattle.vlm_locks.specs.RunningDown.{CanEndProcesses}
use Rattle.vlm_machine.specs.Machine.{MachineState, kept, plain_state}
use Rattle.vlm_machine.specs.Admissions.{scope_of}
use Rattle.vlm_machine.proofs.Admitting.{cancels_nothing, gives_nothing}
use Rattle.vlm_machine.proofs.AllTogether.{sublocks_go_too, state_given_up, to_sweep_given_up}
use Rattle.vlm_machine.proofs.EndOfProcess.{can_end}
use Rattle.vlm_machine.proofs.records.Machine.deq_all_change.Goals as goal

pub give_up_together-requires-clause-can_end : goal.give_up_together-requires-clause-can_end
give_up_together-requires-clause-can_end c =
    subst (λ (m : MachineState). CanEndProcesses c.args.touched.now m.records) (sym c.self.view_is)
    (can_end c.args.self.now c.args.touched.now (rw (← c.self.view_is) c.self.invariant.rest)
    (rw (← c.self.view_is) c.self.invariant.paid) c.requires.between c.requires.notes)

-- with a chosen lock its sublocks are chosen
pub give_up_together-requires-clause-closed : goal.give_up_together-requires-clause-closed
give_up_together-requires-clause-closed c =
    subst (λ (m : MachineState). SublocksGoToo c.args.scope m.records) (sym c.self.view_is)
    (sublocks_go_too c.args.self.now (rw (← c.self.view_is) c.self.invariant.rest.sound) (rw (← c.self.view_is) c.self.invariant.rest) c.requires.between
    c.args.scope c.args.checked.now.caller.pid c.requires.own)

pub returns-clause-change : goal.returns-clause-change
returns-clause-change c d checked all =
    let scope = c.args.scope in
    let new = c.give_up_together.new in
    let nothing = gives_nothing d all checked.fitting in
    let invalidates = c.has-invalidates.ensures ∙ ap (λ bits. has_flag bits invvalblk) checked.flags in
    ap (λ (m : MachineState). plain_state (record m { records = new.store })) c.self.view_is
    ∙ state_given_up c.args.self.now (rw (← c.self.view_is) c.self.invariant.rest.sound)
    (rw (← c.self.view_is) c.self.invariant.rest) c.requires.between d all
    (cancels_nothing d all checked.fitting) nothing.0 nothing.1 scope (c.requires.scope
    ∙ ap scope_of checked.lkid) new.store c.args.touched.now new.touched
    (subst (λ (m : MachineState). AreGivenUp scope (has_flag d.flags invvalblk) d.pid m.records new.store c.args.touched.now new.touched) c.self.view_is
    (subst (λ pid. AreGivenUp scope (has_flag d.flags invvalblk) pid c.self.inside.store new.store c.args.touched.now new.touched) checked.pid
    (subst (λ invalid. AreGivenUp scope invalid c.args.checked.now.caller.pid c.self.inside.store new.store c.args.touched.now new.touched) invalidates
    c.give_up_together.ensures.given_up)))

pub returns-clause-to_sweep : goal.returns-clause-to_sweep
returns-clause-to_sweep c =
    let m = kept c.self.inside in
    let between = rw (← c.self.view_is) at c.requires.between in
    to_sweep_given_up m (record m {
      records =
          c.give_up_together.new.store;
    }) c.args.scope c.has-invalidates.result c.args.checked.now.caller.pid
    c.args.touched.now
    c.give_up_together.new.touched between c.give_up_together.ensures.given_up c.give_up_together.ensures.can_end
