use Rattle.std.proofs.Common.{arith, ◌≡◌, ◌++◌, ◌∷◌, [], ℕ, List, Option, Some, map, refl, ap, sym, subst, ◌∙◌, set}
use Rattle.vlm_words.specs.State.{State}
use Rattle.vlm_model.specs.Pending.{first_pending}
use Rattle.vlm_journal.specs.declared.entries.Entry.{Entry}
use Rattle.vlm_journal.specs.declared.entries.Item.TheVariants.{Ast as ast_item}
use Rattle.vlm_journal.specs.declared.entries.Item.{Item}
use Rattle.vlm_ports.specs.Links.{node_rings_base}
use Rattle.vlm_ports.proofs.Asking.{hub_asks}
use Rattle.vlm_ports.proofs.Delivering.{delivers_one}
use Rattle.vlm_ports.proofs.Lines.{delivery, delivered_follows, node_at, rings_set, set_same}
use Rattle.vlm_ports.proofs.Resting.{grew_none, grew_one}
use Rattle.vlm_ports.proofs.Lasting.{lasts_at, lasts_then}
use Rattle.vlm_ports.proofs.hub.Hub.deliver_ast.Goals as goal

-- the process is still the first of its node with a pending AST
still : (node pid : ℕ) (found : Option ℕ) (old new : State) → found ≡ first_pending node old.processes → found ≡ Some pid → new ≡ old
    → first_pending node new.processes ≡ Some pid
still node pid found old new first is same = ap (λ (s : State). first_pending node s.processes) same ∙ sym first ∙ is

pub deliver_ast-ast-requires-clause-pending : goal.deliver_ast-ast-requires-clause-pending
deliver_ast-ast-requires-clause-pending c =
    let node = c.index_mut-node_rings.result.now.node in (
      node,
      still node c.in-Some.pid c.pending_of.result c.args.self.now.journaled.state c.reserve.new.self.state
          c.pending_of.ensures c.in-Some.is c.reserve.ensures.state,
    )

pub returns-then-not-has_place-clause-rings : goal.returns-then-not-has_place-clause-rings
returns-then-not-has_place-clause-rings c =
    rings_set c.args.self.now.all_node_rings.items c.args.at c.has_place.new.self c.index_mut-node_rings.result.now
    c.index_mut-node_rings.ensures.value c.has_place.ensures.rings

pub returns-then-not-has_place-clause-base : goal.returns-then-not-has_place-clause-base
returns-then-not-has_place-clause-base c =
    let follows = set_same c.args.self.now.all_node_rings.items c.args.self.now.journaled.entries c.args.at
    c.has_place.new.self c.index_mut-node_rings.result.now c.args.self.now.linked c.requires
    c.index_mut-node_rings.ensures.value
    c.has_place.ensures.rings c.has_place.ensures.taken c.has_place.ensures.told in
    (refl, follows.bases)

pub returns-in_err-reserve-clause-rings : goal.returns-in_err-reserve-clause-rings
returns-in_err-reserve-clause-rings c =
    rings_set c.args.self.now.all_node_rings.items c.args.at c.has_place.new.self c.index_mut-node_rings.result.now
    c.index_mut-node_rings.ensures.value c.has_place.ensures.rings

pub returns-in_err-reserve-clause-base : goal.returns-in_err-reserve-clause-base
returns-in_err-reserve-clause-base c =
    let ls = c.args.self.now.all_node_rings.items in let js = c.args.self.now.journaled.entries in
    let follows = set_same ls js c.args.at c.has_place.new.self c.index_mut-node_rings.result.now c.args.self.now.linked
    c.requires c.index_mut-node_rings.ensures.value
    c.has_place.ensures.rings c.has_place.ensures.taken c.has_place.ensures.told in
    let P : List Entry → Type 0 = λ es. map (node_rings_base es) (set ls c.args.at c.has_place.new.self) ≡ map (node_rings_base js) ls in
    (c.reserve.ensures.base, subst P (sym c.reserve.ensures.entries) follows.bases)

pub invariant_of-self-2-clause-linked : goal.invariant_of-self-2-clause-linked
invariant_of-self-2-clause-linked c =
    let ls = c.args.self.now.all_node_rings.items in let js = c.args.self.now.journaled.entries in let l = c.tell.new.self in let at = c.args.at in
    let was = c.index_mut-node_rings.result.now in
    let pid = c.in-Some.pid in let ast = c.deliver_ast-ast.result in
    let to = c.deliver_ast-ast.ensures.node was.node
    (still was.node pid c.pending_of.result c.args.self.now.journaled.state c.reserve.new.self.state c.pending_of.ensures c.in-Some.is c.reserve.ensures.state)
    ∙ node_at ls js at was was c.args.self.now.linked c.requires c.index_mut-node_rings.ensures.value refl in
    (delivered_follows ls js c.reserve.new.self.entries c.deliver_ast-ast.new.self.entries at l was pid ast
    c.args.self.now.linked c.requires c.index_mut-node_rings.ensures.value
    c.reserve.ensures.entries c.deliver_ast-ast.ensures.written.told c.deliver_ast-ast.ensures.written.entries to
    (c.tell.ensures.rings ∙ c.has_place.ensures.rings) (c.tell.ensures.taken ∙ c.has_place.ensures.taken)
    (c.tell.ensures.told ∙ ap (λ (xs : List Item). xs ++ ast_item pid ast ∷ []) c.has_place.ensures.told)).linked

pub returns-clause-rings : goal.returns-clause-rings
returns-clause-rings c =
    rings_set c.args.self.now.all_node_rings.items c.args.at c.tell.new.self c.index_mut-node_rings.result.now c.index_mut-node_rings.ensures.value
    (c.tell.ensures.rings ∙ c.has_place.ensures.rings)

pub returns-clause-base : goal.returns-clause-base
returns-clause-base c =
    let ls = c.args.self.now.all_node_rings.items in let js = c.args.self.now.journaled.entries in let l = c.tell.new.self in let at = c.args.at in
    let was = c.index_mut-node_rings.result.now in
    let pid = c.in-Some.pid in let ast = c.deliver_ast-ast.result in
    let to = c.deliver_ast-ast.ensures.node was.node
    (still was.node pid c.pending_of.result c.args.self.now.journaled.state c.reserve.new.self.state c.pending_of.ensures c.in-Some.is c.reserve.ensures.state)
    ∙ node_at ls js at was was c.args.self.now.linked c.requires c.index_mut-node_rings.ensures.value refl in (
      c.deliver_ast-ast.ensures.written.base ∙ c.reserve.ensures.base,
      (delivered_follows ls js c.reserve.new.self.entries c.deliver_ast-ast.new.self.entries at l was pid ast
          c.args.self.now.linked c.requires c.index_mut-node_rings.ensures.value
          c.reserve.ensures.entries c.deliver_ast-ast.ensures.written.told c.deliver_ast-ast.ensures.written.entries to
          (c.tell.ensures.rings ∙ c.has_place.ensures.rings) (c.tell.ensures.taken ∙ c.has_place.ensures.taken)
          (c.tell.ensures.told ∙ ap (λ (xs : List Item). xs ++ ast_item pid ast ∷ []) c.has_place.ensures.told)).bases,
    )

pub returns-clause-none_asks : goal.returns-clause-none_asks
returns-clause-none_asks c =
    hub_asks c.args.self.now.journaled.entries c.reserve.new.self.entries c.deliver_ast-ast.new.self.entries
    (delivery c.in-Some.pid c.deliver_ast-ast.result) c.reserve.ensures.entries
    c.deliver_ast-ast.ensures.written.told c.deliver_ast-ast.ensures.written.entries refl

pub returns-clause-grew : goal.returns-clause-grew
returns-clause-grew c = (
  omega arith,
  grew_one c.args.self.now.journaled.entries c.reserve.new.self.entries c.deliver_ast-ast.new.self.entries
      c.args.self.now.journaled.state c.reserve.new.self.state c.deliver_ast-ast.new.self.state
      (delivery c.in-Some.pid c.deliver_ast-ast.result)
      c.reserve.ensures.entries c.reserve.ensures.state c.deliver_ast-ast.ensures.written.entries
      c.deliver_ast-ast.ensures.written.leads c.deliver_ast-ast.ensures.written.departed
      (λ own. record { pid = c.in-Some.pid; ast = c.deliver_ast-ast.result; step = refl; answer = refl }),
)

pub returns-then-not-has_place-clause-grew : goal.returns-then-not-has_place-clause-grew
returns-then-not-has_place-clause-grew c = (
  omega arith,
  grew_none c.args.self.now.journaled.entries c.args.self.now.journaled.entries
      c.args.self.now.journaled.state c.args.self.now.journaled.state refl refl,
)

pub returns-in_default-clause-grew : goal.returns-in_default-clause-grew
returns-in_default-clause-grew c = (
  omega arith,
  grew_none c.args.self.now.journaled.entries c.args.self.now.journaled.entries
      c.args.self.now.journaled.state c.args.self.now.journaled.state refl refl,
)

pub returns-then-not-has_place-clause-known : goal.returns-then-not-has_place-clause-known
returns-then-not-has_place-clause-known c =
    lasts_at c.args.self.now.all_node_rings.items c.args.at c.has_place.new.self c.index_mut-node_rings.result.now
    c.requires c.index_mut-node_rings.ensures.value
    c.has_place.ensures.lasts

pub returns-in_err-reserve-clause-known : goal.returns-in_err-reserve-clause-known
returns-in_err-reserve-clause-known c =
    lasts_at c.args.self.now.all_node_rings.items c.args.at c.has_place.new.self c.index_mut-node_rings.result.now
    c.requires c.index_mut-node_rings.ensures.value
    c.has_place.ensures.lasts

pub returns-clause-known : goal.returns-clause-known
returns-clause-known c =
    lasts_at c.args.self.now.all_node_rings.items c.args.at c.tell.new.self c.index_mut-node_rings.result.now c.requires c.index_mut-node_rings.ensures.value
    (lasts_then _ _ _ c.has_place.ensures.lasts c.tell.ensures.lasts)

pub returns-clause-delivers : goal.returns-clause-delivers
returns-clause-delivers c =
    let ls = c.args.self.now.all_node_rings.items in let js = c.args.self.now.journaled.entries in
    let was = c.index_mut-node_rings.result.now in let pid = c.in-Some.pid in
    let to = c.deliver_ast-ast.ensures.node was.node
    (still was.node pid c.pending_of.result c.args.self.now.journaled.state c.reserve.new.self.state c.pending_of.ensures c.in-Some.is c.reserve.ensures.state)
    ∙ node_at ls js c.args.at was was c.args.self.now.linked c.requires c.index_mut-node_rings.ensures.value refl in
    delivers_one c.args.at js c.reserve.new.self.entries c.deliver_ast-ast.new.self.entries pid
    c.deliver_ast-ast.result c.reserve.ensures.entries c.deliver_ast-ast.ensures.written.entries to
