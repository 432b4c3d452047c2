use Rattle.std.proofs.Common.{List, sym, subst, ◌∙◌, ◌++◌, [], ◌∷◌, ap}
use Rattle.vlm_journal.specs.declared.entries.Part.{Part}
use Rattle.vlm_cluster.specs.Parts.{IsAccounted}
use Rattle.vlm_cluster.proofs.Accounting.{accounts_cut}
use Rattle.vlm_cluster.proofs.hub_driver.HubDriver.cut_off.Goals as goal

pub returns-clause-accounted : goal.returns-clause-accounted
returns-clause-accounted c =
    let cut = c.cut-part.ensures in
    let all = accounts_cut c.args.self.now.parts.items c.cut-part.result c.args.self.now.hub c.cut-part.new.self c.requires
    cut.rings cut.entries cut.number cut.left cut.next cut.state cut.before in
    subst (λ (ps : List Part). IsAccounted ps c.cut-part.new.self)
    (sym (c.push_reserved.ensures.items ∙ ap (λ (ps : List Part). ps ++ c.cut-part.result ∷ []) c.reserve.ensures.items)) all
