use Rattle.std.proofs.Common.{◌∙◌, ap, sym, Some}
use Rattle.vlm_store.specs.Index.{handle_by}
use Rattle.vlm_store.proofs.LivingProcesses.{is_sound, finds_process, found_there}
use Rattle.vlm_store.proofs.store.Store.process.Goals as goal

pub returns-in_default-clause-found : goal.returns-in_default-clause-found
returns-in_default-clause-found c =
    rw (← c.self.view_is) (finds_process c.self.inside c.self.invariant c.args.pid c.copied.result (c.copied.ensures ∙ c.get.ensures.value))

pub returns-in_default-clause-there : goal.returns-in_default-clause-there
returns-in_default-clause-there c =
    rw (← c.self.view_is) (found_there c.self.inside c.self.invariant c.args.pid c.copied.result (c.copied.ensures ∙ c.get.ensures.value))

pub returns-in_default-clause-sound : goal.returns-in_default-clause-sound
returns-in_default-clause-sound c = rw (← c.self.view_is) (is_sound c.self.inside c.self.invariant)

pub returns-in-Some-clause-found : goal.returns-in-Some-clause-found
returns-in-Some-clause-found c =
    rw (← c.self.view_is) (finds_process c.self.inside c.self.invariant c.args.pid (Some c.in-Some.at.now)
    (sym c.in-Some.ensures.value ∙ ap (handle_by c.self.inside.process_index) c.if-found-pid.true))

pub returns-in-Some-clause-there : goal.returns-in-Some-clause-there
returns-in-Some-clause-there c =
    rw (← c.self.view_is)
    (found_there c.self.inside c.self.invariant c.args.pid (Some c.in-Some.at.now) (sym c.in-Some.ensures.value
    ∙ ap (handle_by c.self.inside.process_index) c.if-found-pid.true))

pub returns-in-Some-clause-sound : goal.returns-in-Some-clause-sound
returns-in-Some-clause-sound c = rw (← c.self.view_is) (is_sound c.self.inside c.self.invariant)
