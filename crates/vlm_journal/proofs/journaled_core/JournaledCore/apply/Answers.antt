use Rattle.std.proofs.Common.{rules, inr, subst}
use Rattle.vlm_model.specs.Stepped.{Outcome}
use Rattle.vlm_journal.specs.Accounts.{Account, GoesOn}
use Rattle.vlm_journal.proofs.GoingOn.{goes_on, one_leads}
use Rattle.vlm_journal.proofs.journaled_core.JournaledCore.apply.Goals as goal

-- the outcome leads on
pub invariant_of-self : goal.invariant_of-self
invariant_of-self c =
    rw (c.push_reserved.ensures.items, c.entry.ensures)
    (goes_on (record {
      sender = c.args.sender;
      step = c.args.step.now;
      answer =
          c.apply-answer.result;
    }) c.self.invariant
    (inr (c.requires.sender.0, c.requires.sender.1, c.requires.post)) c.apply-answer.ensures)

-- a node that had departed stays departed
pub returns-clause-written : goal.returns-clause-written
returns-clause-written c =
    let leads = one_leads (record { sender = c.args.sender; step = c.args.step.now; answer = c.apply-answer.result })
    (inr (c.requires.sender.0, c.requires.sender.1, c.requires.post))
    (subst (λ (b : Account). Outcome b.state c.args.step.now c.apply-answer.new.self c.apply-answer.result)
    c.self.view_is c.apply-answer.ensures) in record {
      entries = search rules;
      leads = leads;
      departed = λ gone.
          c.law_departed.ensures.since _ _ _ _ _ (subst (λ (b : Account). GoesOn b.base b.entries b.state) c.self.view_is c.self.invariant) leads gone;
      told = c.law_entry.ensures.more _ _ (inr (c.requires.sender.0, c.requires.sender.1, c.requires.post));
      base = search rules;
      room = search rules;
    }
