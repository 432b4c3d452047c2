use Rattle.std.proofs.Common.{arith, ◌≡◌, ◌+◌, ◌++◌, ◌∷◌, [], List, map, refl, ap, sym, subst, ◌∙◌, set}
use mathlib.Core.List.{IsPrefix}
use Rattle.vlm_words.specs.declared.steps.Step.{Step}
use Rattle.vlm_journal.specs.declared.entries.Entry.{Entry}
use Rattle.vlm_journal.specs.declared.entries.Item.TheVariants.{Answer as answer_item}
use Rattle.vlm_journal.specs.declared.entries.Item.{Item}
use Rattle.vlm_ports.specs.Links.{knows, node_rings_base}
use Rattle.vlm_ports.proofs.Asking.{node_asks}
use Rattle.vlm_ports.proofs.Delivering.{served_delivers_none}
use Rattle.vlm_ports.proofs.Lines.{node_at, rings_set, served_follows, set_same}
use Rattle.vlm_ports.proofs.Resting.{grew_none, grew_one}
use Rattle.vlm_ports.proofs.Lasting.{lasts_at, lasts_then}
use Rattle.vlm_ports.proofs.hub.Hub.serve.Goals as goal

pub returns-then-not-has_request-clause-rings : goal.returns-then-not-has_request-clause-rings
returns-then-not-has_request-clause-rings c =
    rings_set c.args.self.now.all_node_rings.items c.args.at c.has_request.new.self c.index_mut-node_rings.result.now
    c.index_mut-node_rings.ensures.value (c.has_request.ensures.rings)

pub returns-then-not-has_request-clause-base : goal.returns-then-not-has_request-clause-base
returns-then-not-has_request-clause-base c =
    let ls = c.args.self.now.all_node_rings.items in let js = c.args.self.now.journaled.entries in
    let follows = set_same ls js c.args.at c.has_request.new.self c.index_mut-node_rings.result.now c.args.self.now.linked
    c.requires c.index_mut-node_rings.ensures.value c.has_request.ensures.rings c.has_request.ensures.taken c.has_request.ensures.told in
    (refl, follows.bases)

pub returns-then-not-has_request-clause-grew : goal.returns-then-not-has_request-clause-grew
returns-then-not-has_request-clause-grew c =
    let now = c.args.self.now.journaled in (omega arith, grew_none now.entries now.entries now.state now.state refl refl)

pub returns-then-not-has_request-clause-known : goal.returns-then-not-has_request-clause-known
returns-then-not-has_request-clause-known c =
    lasts_at c.args.self.now.all_node_rings.items c.args.at c.has_request.new.self c.index_mut-node_rings.result.now
    c.requires c.index_mut-node_rings.ensures.value c.has_request.ensures.lasts

pub returns-then-not-has_place-clause-rings : goal.returns-then-not-has_place-clause-rings
returns-then-not-has_place-clause-rings c =
    rings_set c.args.self.now.all_node_rings.items c.args.at c.has_place.new.self c.index_mut-node_rings.result.now
    c.index_mut-node_rings.ensures.value (c.has_place.ensures.rings ∙ c.has_request.ensures.rings)

pub returns-then-not-has_place-clause-base : goal.returns-then-not-has_place-clause-base
returns-then-not-has_place-clause-base c =
    let ls = c.args.self.now.all_node_rings.items in let js = c.args.self.now.journaled.entries in
    let follows = set_same ls js c.args.at c.has_place.new.self c.index_mut-node_rings.result.now c.args.self.now.linked
    c.requires c.index_mut-node_rings.ensures.value
    (c.has_place.ensures.rings ∙ c.has_request.ensures.rings) (c.has_place.ensures.taken
    ∙ c.has_request.ensures.taken) (c.has_place.ensures.told ∙ c.has_request.ensures.told) in
    (refl, follows.bases)

pub returns-then-not-has_place-clause-grew : goal.returns-then-not-has_place-clause-grew
returns-then-not-has_place-clause-grew c =
    let now = c.args.self.now.journaled in (omega arith, grew_none now.entries now.entries now.state now.state refl refl)

pub returns-then-not-has_place-clause-known : goal.returns-then-not-has_place-clause-known
returns-then-not-has_place-clause-known c =
    lasts_at c.args.self.now.all_node_rings.items c.args.at c.has_place.new.self c.index_mut-node_rings.result.now
    c.requires c.index_mut-node_rings.ensures.value (lasts_then _ _ _ c.has_request.ensures.lasts c.has_place.ensures.lasts)

pub returns-in_err-reserve-clause-rings : goal.returns-in_err-reserve-clause-rings
returns-in_err-reserve-clause-rings c =
    rings_set c.args.self.now.all_node_rings.items c.args.at c.has_place.new.self c.index_mut-node_rings.result.now
    c.index_mut-node_rings.ensures.value (c.has_place.ensures.rings ∙ c.has_request.ensures.rings)

pub returns-in_err-reserve-clause-base : goal.returns-in_err-reserve-clause-base
returns-in_err-reserve-clause-base c =
    let ls = c.args.self.now.all_node_rings.items in let js = c.args.self.now.journaled.entries in
    let follows = set_same ls js c.args.at c.has_place.new.self c.index_mut-node_rings.result.now c.args.self.now.linked
    c.requires c.index_mut-node_rings.ensures.value
    (c.has_place.ensures.rings ∙ c.has_request.ensures.rings) (c.has_place.ensures.taken
    ∙ c.has_request.ensures.taken) (c.has_place.ensures.told ∙ c.has_request.ensures.told) in
    let P : List Entry → Type 0 = λ es. map (node_rings_base es) (set ls c.args.at c.has_place.new.self) ≡ map (node_rings_base js) ls in
    (c.reserve.ensures.base, subst P (sym c.reserve.ensures.entries) follows.bases)

pub returns-in_err-reserve-clause-known : goal.returns-in_err-reserve-clause-known
returns-in_err-reserve-clause-known c =
    lasts_at c.args.self.now.all_node_rings.items c.args.at c.has_place.new.self c.index_mut-node_rings.result.now
    c.requires c.index_mut-node_rings.ensures.value (lasts_then _ _ _ c.has_request.ensures.lasts c.has_place.ensures.lasts)

pub invariant_of-self-2-clause-linked : goal.invariant_of-self-2-clause-linked
invariant_of-self-2-clause-linked c =
    let ls = c.args.self.now.all_node_rings.items in let js = c.args.self.now.journaled.entries in let l = c.tell.new.self in let at = c.args.at in
    let was = c.index_mut-node_rings.result.now in let seen = c.has_place.new.self in
    let step = c.on_behalf-step.result.now in let answer = c.apply-answer.result in
    let posted = subst (λ (s : Step). IsPrefix (s ∷ []) (knows seen)) (sym c.on_behalf-step.ensures.same) c.next_request.ensures in
    let ring = c.has_place.ensures.rings ∙ c.has_request.ensures.rings in
    let node = node_at ls js at seen was c.args.self.now.linked c.requires c.index_mut-node_rings.ensures.value ring in
    let e : Entry = record { sender = seen.node; step = step; answer = answer } in
    (served_follows ls js c.reserve.new.self.entries c.apply-answer.new.self.entries at l was e c.args.self.now.linked
    c.requires c.index_mut-node_rings.ensures.value c.reserve.ensures.entries c.apply-answer.ensures.written.told c.apply-answer.ensures.written.entries node
    (c.tell.ensures.rings ∙ c.take_request.ensures.rings ∙ ring)
    (c.tell.ensures.taken ∙ c.take_request.ensures.taken step posted
    ∙ ap (λ (xs : List Step). xs ++ step ∷ []) (c.has_place.ensures.taken ∙ c.has_request.ensures.taken))
    (c.tell.ensures.told ∙ ap (λ (xs : List Item). xs ++ answer_item answer ∷ []) (c.take_request.ensures.told
    ∙ c.has_place.ensures.told ∙ c.has_request.ensures.told))).linked

-- where the request is served: the node that asked, and the entry of its step
node : (c : goal.After-self-3-1) → c.has_place.new.self.node ≡ c.args.at + 1
node c =
    node_at c.args.self.now.all_node_rings.items c.args.self.now.journaled.entries c.args.at c.has_place.new.self c.index_mut-node_rings.result.now
    c.args.self.now.linked c.requires c.index_mut-node_rings.ensures.value (c.has_place.ensures.rings ∙ c.has_request.ensures.rings)

abbrev entry : goal.After-self-3-1 → Entry
entry c = record { sender = c.has_place.new.self.node; step = c.on_behalf-step.result.now; answer = c.apply-answer.result }

pub returns-clause-rings : goal.returns-clause-rings
returns-clause-rings c =
    rings_set c.args.self.now.all_node_rings.items c.args.at c.tell.new.self c.index_mut-node_rings.result.now c.index_mut-node_rings.ensures.value
    (c.tell.ensures.rings ∙ (c.take_request.ensures.rings ∙ c.has_place.ensures.rings ∙ c.has_request.ensures.rings))

pub returns-clause-base : goal.returns-clause-base
returns-clause-base c =
    let ls = c.args.self.now.all_node_rings.items in let js = c.args.self.now.journaled.entries in let l = c.tell.new.self in let at = c.args.at in
    let was = c.index_mut-node_rings.result.now in let seen = c.has_place.new.self in
    let step = c.on_behalf-step.result.now in let answer = c.apply-answer.result in
    let posted = subst (λ (s : Step). IsPrefix (s ∷ []) (knows seen)) (sym c.on_behalf-step.ensures.same) c.next_request.ensures in
    let ring = c.has_place.ensures.rings ∙ c.has_request.ensures.rings in (
      c.apply-answer.ensures.written.base ∙ c.reserve.ensures.base,
      (served_follows ls js c.reserve.new.self.entries c.apply-answer.new.self.entries at l was (entry c) c.args.self.now.linked
          c.requires c.index_mut-node_rings.ensures.value c.reserve.ensures.entries c.apply-answer.ensures.written.told
          c.apply-answer.ensures.written.entries (node c) (c.tell.ensures.rings ∙ c.take_request.ensures.rings ∙ ring)
          (c.tell.ensures.taken ∙ c.take_request.ensures.taken step posted
          ∙ ap (λ (xs : List Step). xs ++ step ∷ []) (c.has_place.ensures.taken ∙ c.has_request.ensures.taken))
          (c.tell.ensures.told ∙ ap (λ (xs : List Item). xs ++ answer_item answer ∷ []) (c.take_request.ensures.told
          ∙ c.has_place.ensures.told ∙ c.has_request.ensures.told))).bases,
    )

pub returns-clause-once : goal.returns-clause-once
returns-clause-once c =
    node_asks c.args.at c.args.self.now.journaled.entries c.reserve.new.self.entries c.apply-answer.new.self.entries (entry c) c.reserve.ensures.entries
    c.apply-answer.ensures.written.told c.apply-answer.ensures.written.entries (node c)

pub returns-clause-grew : goal.returns-clause-grew
returns-clause-grew c = (
  omega arith,
  grew_one c.args.self.now.journaled.entries c.reserve.new.self.entries c.apply-answer.new.self.entries c.args.self.now.journaled.state
      c.reserve.new.self.state c.apply-answer.new.self.state (entry c) c.reserve.ensures.entries c.reserve.ensures.state
      c.apply-answer.ensures.written.entries c.apply-answer.ensures.written.leads c.apply-answer.ensures.written.departed
      (λ own. absurd (omega (arith, own, node c))),
)

pub returns-clause-known : goal.returns-clause-known
returns-clause-known c =
    lasts_at c.args.self.now.all_node_rings.items c.args.at c.tell.new.self c.index_mut-node_rings.result.now c.requires c.index_mut-node_rings.ensures.value
    (lasts_then _ _ _ (lasts_then _ _ _ c.has_request.ensures.lasts c.has_place.ensures.lasts)
    (lasts_then _ _ _ c.take_request.ensures.lasts c.tell.ensures.lasts))

pub returns-clause-delivers : goal.returns-clause-delivers
returns-clause-delivers c =
    served_delivers_none c.args.at c.args.self.now.journaled.entries c.reserve.new.self.entries c.apply-answer.new.self.entries (entry c)
    c.reserve.ensures.entries c.apply-answer.ensures.written.entries (node c)
