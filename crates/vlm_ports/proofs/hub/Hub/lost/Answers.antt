use Rattle.std.proofs.Common.{◌≡◌, ◌⊎◌, ◌∙◌, ap, inl, inr, sym, subst}
use Rattle.vlm_words.specs.declared.conditions.Cond.TheVariants.{Departed, Normal}
use Rattle.vlm_words.specs.declared.conditions.Cond.{Cond}
use Rattle.vlm_words.specs.declared.steps.Answer.TheVariants.{Plain}
use Rattle.vlm_ports.proofs.Lines.{lost_follows}
use Rattle.vlm_ports.proofs.Losing.{leave_answers, same_condition}
use Rattle.vlm_ports.proofs.hub.Hub.lost.Goals as goal

pub returns-clause-base : goal.returns-clause-base
returns-clause-base c =
    let ls = c.args.self.now.all_node_rings.items in let js = c.args.self.now.journaled.entries in
    let follows = lost_follows ls js c.reserve.new.self.entries c.depart-answer.new.self.entries c.args.node c.depart-answer.result c.args.self.now.linked
    c.reserve.ensures.entries c.depart-answer.ensures.written.told c.depart-answer.ensures.written.entries in
    (c.depart-answer.ensures.written.base ∙ c.reserve.ensures.base, follows.bases)

pub returns-clause-answer : goal.returns-clause-answer
returns-clause-answer c =
    let left = leave_answers c.reserve.new.self.state c.depart-answer.new.self.state c.args.node c.depart-answer.result
    c.requires.node.0 c.requires.node.1 c.depart-answer.ensures.outcome in
    let P : Cond → Type 0 = λ x. (x ≡ Normal) ⊎ (x ≡ Departed) in
    subst P (same_condition left.cond c.condition_of.result (sym left.answered ∙ c.condition_of.ensures)) left.which

pub returns-clause-departed : goal.returns-clause-departed
returns-clause-departed c =
    let left = leave_answers c.reserve.new.self.state c.depart-answer.new.self.state c.args.node c.depart-answer.result
    c.requires.node.0 c.requires.node.1 c.depart-answer.ensures.outcome in
    c.depart-answer.ensures.leaves (elim left.which [ inl normal ↦ inl (left.answered ∙ ap Plain normal) | inr late ↦ inr (left.answered ∙ ap Plain late) ])
