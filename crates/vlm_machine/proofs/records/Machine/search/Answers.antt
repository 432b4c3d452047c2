use Rattle.std.proofs.Common.{◌≡◌, Option, None, Some, refl, sym, ap, ◌∙◌, subst}
use Rattle.vlm_words.specs.declared.conditions.Cond.{Cond}
use Rattle.vlm_words.specs.declared.steps.Answer.TheVariants.{Victim}
use Rattle.vlm_words.specs.declared.steps.Step.TheVariants.{Search}
use Rattle.vlm_model.specs.Search.{IsSearchedFor}
use Rattle.vlm_words.specs.State.{State}
use Rattle.vlm_model.specs.Sweeps.{state_after_sweep}
use Rattle.vlm_store.specs.Plain.{plain_resources}
use Rattle.vlm_cycle.specs.Waiting.{IsRoomy}
use Rattle.vlm_machine.specs.Machine.{MachineState, plain_state}
use Rattle.vlm_machine.proofs.ChangedAndSwept.{made_choosing}
use Rattle.vlm_machine.proofs.RoomToMark.{roomy}
use Rattle.vlm_machine.proofs.EmptySearches.{no_victim}
use Rattle.vlm_machine.proofs.NothingToSweep.{stable_but, unswept}
use Rattle.vlm_machine.proofs.records.Machine.search.Goals as goal

pub victim-requires-clause-roomy : goal.victim-requires-clause-roomy
victim-requires-clause-roomy c =
    subst (λ (m : MachineState). IsRoomy m.records c.args.scratch.now) (sym c.self.view_is)
    (roomy c.args.self.now c.args.scratch.now c.requires.between.of_nodes c.requires.marks)

-- only the resource of the lock may be swept
pub sweep-requires-clause-stable : goal.sweep-requires-clause-stable
sweep-requires-clause-stable c =
    stable_but c.args.self.now.records c.end_victim.new.self.records c.in-Some.located.res c.requires.between.stable c.end_victim.ensures.others

-- the victim is the choice
pub returns-in-Some-clause-outcome : goal.returns-in-Some-clause-outcome
returns-in-Some-clause-outcome c =
    let s : State = plain_state c.args.self.now in
    let row = c.in-Some.located.row in
    let same : s.resources ≡ plain_resources c.self.inside.store = ap (λ (m : MachineState). plain_resources m.records) (sym c.self.view_is) in
    made_choosing s (plain_state c.sweep.new.self) (Search c.args.node) (Some row) (Victim (Some c.lkid.result))
    (subst (λ (refusal : Option Cond). IsSearchedFor refusal s (Some row)) c.in_default.ensures.refusal
    (c.in-Some.ensures.victim s same)) c.in_default.ensures.refusal
    (c.sweep.ensures ∙ ap state_after_sweep c.end_victim.ensures.change) (ap (λ lkid. Victim (Some lkid)) c.lkid.ensures)

-- without one nothing is chosen, and nothing changes
pub returns-in-None-clause-outcome : goal.returns-in-None-clause-outcome
returns-in-None-clause-outcome c =
    let s : State = plain_state c.args.self.now in
    let same : s.resources ≡ plain_resources c.self.inside.store = ap (λ (m : MachineState). plain_resources m.records) (sym c.self.view_is) in
    made_choosing s s (Search c.args.node) None (Victim None)
    (subst (λ (refusal : Option Cond). IsSearchedFor refusal s None) c.in_default.ensures.refusal
    (c.in-None.ensures.victim s same)) c.in_default.ensures.refusal
    (sym (ap state_after_sweep (no_victim s) ∙ unswept s c.requires.between.stable)) refl
