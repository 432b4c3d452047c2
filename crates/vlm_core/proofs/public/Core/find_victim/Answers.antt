use Rattle.std.proofs.Common.{◌≡◌, true, None, Some, refl, sym, ap, ◌∙◌, subst}
use Rattle.std.specs.Prelude.{All}
use Rattle.vlm_words.specs.State.{Process, State}
use Rattle.vlm_words.specs.Steps.{node_of_pid}
use Rattle.vlm_model.specs.Declare.{is_node}
use Rattle.vlm_model.proofs.Each.{each_weaker}
use Rattle.vlm_store.specs.Plain.{plain_resources}
use Rattle.vlm_cycle.specs.Marking.{HasRoomInBoth}
use Rattle.vlm_cycle.specs.Waiting.{IsRoomy}
use Rattle.vlm_machine.proofs.RoomToMark.{roomy}
use Rattle.vlm_core.specs.Core.{IsCore}
use Rattle.vlm_core.specs.declared.public.Core.TheInside.{Inside}
use Rattle.vlm_core.proofs.public.Core.find_victim.Goals as goal

pub victim-requires-clause-roomy : goal.victim-requires-clause-roomy
victim-requires-clause-roomy c =
    let of_nodes = subst (λ (s : State). All (λ (p : Process). is_node (node_of_pid p.pid) ≡ true) s.processes)
    (sym c.self.view_is) c.between_steps.ensures.of_nodes in
    subst (λ (i : Inside). IsRoomy i.machine.records i.scratch) (sym c.self-inside.view_is)
    (roomy c.self.inside.machine c.self.inside.scratch of_nodes c.self.invariant.marks)

-- the machine stays, and the marks keep their room
pub invariant_of-self : goal.invariant_of-self
invariant_of-self c =
    let invariant = subst IsCore (sym c.self-inside.view_is) c.self.invariant in
    record {
      reachable = invariant.reachable;
      notes = invariant.notes;
      marks =
          each_weaker (λ (p : Process). HasRoomInBoth c.self-inside.inside.0.1.1.0 p.pid) (λ (p : Process). HasRoomInBoth c.victim.new.scratch p.pid)
          (λ p. c.victim.ensures.room p.pid) _ invariant.marks;
    }

pub returns-in_err-located-clause-shown : goal.returns-in_err-located-clause-shown
returns-in_err-located-clause-shown c =
    let same = ap (λ (s : State). s.resources) (sym c.self.view_is) ∙ ap (λ (i : Inside). plain_resources i.machine.records) (sym c.self-inside.view_is) in
    rw (c.from_residual.ensures) (record { victim = None; chosen = c.in_err-located.ensures.victim c.args.self.now same; shown = refl })

pub returns-clause-shown : goal.returns-clause-shown
returns-clause-shown c =
    let same = ap (λ (s : State). s.resources) (sym c.self.view_is) ∙ ap (λ (i : Inside). plain_resources i.machine.records) (sym c.self-inside.view_is) in
    record {
      victim = Some c.in_ok-located.located.row;
      chosen = c.in_ok-located.ensures.victim c.args.self.now same;
      shown = ap Some c.lkid.ensures;
    }
