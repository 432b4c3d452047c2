use Rattle.std.proofs.Common.{rules, ◌≡◌, inl, refl, subst, sym, Some}
use Rattle.vlm_words.specs.declared.steps.Answer.TheVariants.{Taken}
use Rattle.vlm_words.specs.declared.steps.Step.TheVariants.{Take}
use Rattle.vlm_model.specs.Pending.{first_pending}
use Rattle.vlm_model.specs.Stepped.{Outcome}
use Rattle.vlm_journal.specs.Accounts.{Account, GoesOn}
use Rattle.vlm_journal.specs.Journals.{takes}
use Rattle.vlm_journal.proofs.GoingOn.{delivers, goes_on, one_leads}
use Rattle.vlm_journal.proofs.journaled_core.JournaledCore.deliver_ast.Goals as goal

-- the take answers an AST
pub ast_of-ast-requires : goal.ast_of-ast-requires
ast_of-ast-requires c =
    let P : Account → Type 0 = λ b. first_pending c.requires.pending.0 b.state.processes ≡ Some c.args.pid in
    let given = delivers c.law_delivery.ensures c.self.invariant (subst P (sym c.self.view_is) c.requires.pending.1) c.step-answer.ensures in
    (given.ast, given.answered)

-- the outcome leads on
pub invariant_of-self : goal.invariant_of-self
invariant_of-self c =
    rw (c.push_reserved.ensures.items, c.entry.ensures, c.ast_of-ast.ensures)
    (goes_on (record { sender = 0; step = Take c.args.pid; answer = Taken (Some c.ast_of-ast.result) }) c.self.invariant
    (inl (refl, takes c.args.pid c.ast_of-ast.result)) (rw (sym c.ast_of-ast.ensures) c.step-answer.ensures))

pub returns-clause-node : goal.returns-clause-node
returns-clause-node c node pending =
    let P : Account → Type 0 = λ b. first_pending node b.state.processes ≡ Some c.args.pid in
    (delivers c.law_delivery.ensures c.self.invariant (subst P (sym c.self.view_is) pending) c.step-answer.ensures).of_node

-- a node that had departed stays departed
pub returns-clause-written : goal.returns-clause-written
returns-clause-written c =
    let leads = one_leads (record { sender = 0; step = Take c.args.pid; answer = Taken (Some c.ast_of-ast.result) })
    (inl (refl, takes c.args.pid c.ast_of-ast.result))
    (subst (λ (b : Account). Outcome b.state (Take c.args.pid) c.step-answer.new.self
    (Taken (Some c.ast_of-ast.result))) c.self.view_is (rw (sym c.ast_of-ast.ensures) c.step-answer.ensures)) in
    record {
      entries = search rules;
      leads = leads;
      departed = λ gone.
          c.law_departed.ensures.since _ _ _ _ _ (subst (λ (b : Account). GoesOn b.base b.entries b.state) c.self.view_is c.self.invariant) leads gone;
      told = c.law_entry.ensures.more _ _ (inl (refl, takes c.args.pid c.ast_of-ast.result));
      base = search rules;
      room = search rules;
    }
