use Rattle.std.proofs.Common.{rules, inl, refl, subst}
use Rattle.vlm_words.specs.declared.steps.Step.TheVariants.{Leave}
use Rattle.vlm_model.specs.Stepped.{Outcome}
use Rattle.vlm_journal.specs.Accounts.{Account, GoesOn}
use Rattle.vlm_journal.specs.Journals.{leaves}
use Rattle.vlm_journal.proofs.GoingOn.{goes_on, one_leads}
use Rattle.vlm_journal.proofs.journaled_core.JournaledCore.depart.Goals as goal

-- the outcome leads on
pub invariant_of-self : goal.invariant_of-self
invariant_of-self c =
    rw (c.push_reserved.ensures.items, c.entry-written.ensures)
    (goes_on (record { sender = 0; step = Leave c.args.node; answer = c.step-answer.result }) c.self.invariant
    (inl (refl, leaves c.args.node c.step-answer.result)) c.step-answer.ensures)

-- the departure, if it is answered so
pub returns-clause-leaves : goal.returns-clause-leaves
returns-clause-leaves c which =
    c.law_departed.ensures.departs _ _ (record { sender = 0; step = Leave c.args.node; answer = c.step-answer.result }) _
    (goes_on (record { sender = 0; step = Leave c.args.node; answer = c.step-answer.result }) c.self.invariant
    (inl (refl, leaves c.args.node c.step-answer.result)) c.step-answer.ensures)
    c.args.node (refl, which)

-- a node that had departed stays departed
pub returns-clause-written : goal.returns-clause-written
returns-clause-written c =
    let leads = one_leads (record { sender = 0; step = Leave c.args.node; answer = c.step-answer.result })
    (inl (refl, leaves c.args.node c.step-answer.result))
    (subst (λ (b : Account). Outcome b.state
    (Leave c.args.node) c.step-answer.new.self c.step-answer.result) c.self.view_is c.step-answer.ensures) in
    record {
      entries = search rules;
      leads = leads;
      departed = λ gone.
          c.law_departed.ensures.since _ _ _ _ _ (subst (λ (b : Account). GoesOn b.base b.entries b.state) c.self.view_is c.self.invariant) leads gone;
      told = c.law_entry.ensures.more _ _ (inl (refl, leaves c.args.node c.step-answer.result));
      base = search rules;
      room = search rules;
    }
