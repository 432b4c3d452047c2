use Rattle.std.proofs.Common.{◌≡◌, ◌+◌, refl, ap, subst, sym, arith}
use Rattle.vlm_words.specs.declared.locks.LockState.{LockState}
use Rattle.vlm_store.specs.Records.{without_resource}
use Rattle.vlm_machine.specs.Admissions.{IsAdmitted}
use Rattle.vlm_machine.specs.Between.{IsBetweenSteps}
use Rattle.vlm_machine.specs.Machine.{MachineState, kept, plain_state}
use Rattle.vlm_machine.proofs.Entries.{entered_state, processes_are, resources_are, serial_is}
use Rattle.vlm_machine.proofs.ProcessesAlone.{paid_refused, rests_refused}
use Rattle.vlm_machine.proofs.FutureIds.{above_all}
use Rattle.vlm_machine.proofs.records.Machine.enq_change.Goals as goal

-- the ID is to come, and the rest was looked up
pub enter-requires-clause-may_enter : goal.enter-requires-clause-may_enter
enter-requires-clause-may_enter c =
    let between = subst (λ (m : MachineState). IsBetweenSteps (plain_state m)) (sym c.self.view_is) c.requires.between in
    let admitted = subst (λ (m : MachineState). IsAdmitted m c.requires.admitted.0 c.args.new_lock.now) (sym c.self.view_is) c.requires.admitted.1 in
    let lkid : c.args.new_lock.now.lkid ≡ c.self.inside.last_lkid + 1 = ap (λ (r : LockState). r.lkid) admitted.entered.row in
    record {
      rest = c.self.invariant.rest;
      rising = above_all c.self.inside.store c.args.new_lock.now.lkid (λ other from. between.ids.none_to_come other (omega (arith, lkid, from)));
      owner = admitted.entered.owner;
      parent = admitted.entered.parent;
      keyed = admitted.entered.keyed;
      hash = admitted.entered.hash;
    }

-- where memory is refused it is as it was
pub invariant_of-self : goal.invariant_of-self
invariant_of-self c = record {
  rest = rests_refused c.self.inside.store c.enter.new.store c.in_err-res.ensures.err c.self.invariant.rest;
  paid = paid_refused c.self.inside.store c.enter.new.store c.in_err-res.ensures.err c.self.invariant.paid;
}

-- the plain machine's change
pub returns-clause-change : goal.returns-clause-change
returns-clause-change c e admitted =
    let m = kept c.self.inside in
    let new_lock = c.args.new_lock.now in
    let is = (subst (λ (m : MachineState). IsAdmitted m e c.args.new_lock.now) (sym c.self.view_is) admitted).entered in
    rw (← c.self.view_is)
    (entered_state m e new_lock is c.enter.new.store (c.self.inside.last_lkid + 1 + 1)
    (c.self.inside.last_request + 1 + 1) (c.last_given-self-inside.result + 1)
    (resources_are m e new_lock is c.enter.new.store c.in_ok-res.ensures.entered.taken.entered)
    (processes_are m e new_lock is c.enter.new.store c.in_ok-res.ensures.entered.statuses)
    refl refl
    (serial_is m e new_lock is c.self.invariant.rest c.last_given-self-inside.result c.self.inside.last_serial refl c.last_given-self-inside.ensures))

pub returns-clause-others : goal.returns-clause-others
returns-clause-others c =
    subst (λ (m : MachineState). without_resource c.in_ok-res.res c.enter.new.store.resources ≡ without_resource
    c.in_ok-res.res m.records.resources) c.self.view_is c.in_ok-res.ensures.entered.taken.others
