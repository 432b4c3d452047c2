use Rattle.std.proofs.Common.{rules, ◌≡◌, ◌∷◌, ap, sym, ◌∙◌}
use Rattle.vlm_collections.specs.Lists.{handle_after}
use Rattle.vlm_collections.proofs.Walks.{handle_after-in}
use Rattle.vlm_records.specs.WaitList.{wait_list_handles}
use Rattle.vlm_store.specs.Queued.{handles_on}
use Rattle.vlm_store.proofs.QueuedSeen.{on_next}
use Rattle.vlm_store.proofs.wait_list.QueuedLocksIterator.next.Goals as goal

pub of-requires : goal.of-requires
of-requires c = c.self.invariant.linked.within c.in_ok-at.at (c.self.invariant.listed c.in_ok-at.at c.in_ok-at.was)

pub invariant_of-self : goal.invariant_of-self
invariant_of-self c = record {
  linked = c.self.invariant.linked;
  listed = λ next is. handle_after-in c.in_ok-at.at
      (wait_list_handles c.self.inside.locks.now c.self.inside.wait_list) next (sym is ∙ c.next-self-inside.ensures);
}

pub returns-clause-steps : goal.returns-clause-steps
returns-clause-steps c =
    let handles = wait_list_handles c.self.inside.locks.now c.self.inside.wait_list in
    sym c.self.view_is ∙ ap (λ next. handles_on next handles) c.in_ok-at.was
    ∙ on_next c.in_ok-at.at handles c.self.invariant.linked.apart (c.self.invariant.listed c.in_ok-at.at c.in_ok-at.was)
    ∙ ap (λ at. at ∷ handles_on (handle_after c.in_ok-at.at handles) handles) (sym c.of.ensures)
    ∙ ap (λ next. c.of.result ∷ handles_on next handles) (sym c.next-self-inside.ensures)

pub returns-clause-goes : goal.returns-clause-goes
returns-clause-goes c =
    let steps : c.args.self.now ≡ c.of.result ∷ handles_on c.next-self-inside.result
    (wait_list_handles c.self.inside.locks.now c.self.inside.wait_list) = returns-clause-steps c in
    rw steps (search rules)
