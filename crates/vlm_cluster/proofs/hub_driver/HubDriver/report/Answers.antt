use Rattle.std.proofs.Common.{◌≡◌, List, [], ◌++◌, ◌∷◌, sym, ap, subst, ◌∙◌, append-nil}
use Rattle.vlm_words.specs.State.{State}
use Rattle.vlm_journal.specs.declared.entries.Entry.{Entry}
use Rattle.vlm_journal.specs.Journals.{Journal}
use Rattle.vlm_ports.specs.Hubs.{HubTakesAlone, journal, state}
use Rattle.vlm_cluster.specs.Parts.{entries_in}
use Rattle.vlm_cluster.proofs.Accounting.{accounts_cut, entries_with}
use Rattle.vlm_cluster.proofs.hub_driver.HubDriver.report.Goals as goal

pub returns-clause-entries : goal.returns-clause-entries
returns-clause-entries g c =
    entries_with c.args.self.parts.items c.cut-rest.result ∙ ap (λ (es : List Entry). entries_in c.args.self.parts.items ++ es) c.cut-rest.ensures.entries

pub returns-clause-legal : goal.returns-clause-legal
returns-clause-legal g c =
    let cut = c.cut-rest.ensures in
    let all = accounts_cut c.args.self.parts.items c.cut-rest.result c.args.self.hub c.cut-rest.new.self c.requires
    cut.rings cut.entries cut.number cut.left cut.next cut.state cut.before in
    let entries : List Entry = entries_in (c.args.self.parts.items ++ c.cut-rest.result ∷ []) in
    let rest : entries ++ journal c.cut-rest.new.self ≡ entries = ap (λ (es : List Entry). entries ++ es) cut.left ∙ append-nil entries in
    subst (λ (s : State). Journal entries s) (sym c.finish-core.ensures.state)
    (subst (λ (es : List Entry). Journal es (state c.cut-rest.new.self)) rest all.legal)

pub returns-clause-numbered : goal.returns-clause-numbered
returns-clause-numbered g c =
    let cut = c.cut-rest.ensures in
    (accounts_cut c.args.self.parts.items c.cut-rest.result c.args.self.hub c.cut-rest.new.self c.requires
    cut.rings cut.entries cut.number cut.left cut.next cut.state cut.before).numbered

pub returns-clause-takes : goal.returns-clause-takes
returns-clause-takes g c =
    let cut = c.cut-rest.ensures in
    let all = accounts_cut c.args.self.parts.items c.cut-rest.result c.args.self.hub c.cut-rest.new.self c.requires
    cut.rings cut.entries cut.number cut.left cut.next cut.state cut.before in
    let entries : List Entry = entries_in (c.args.self.parts.items ++ c.cut-rest.result ∷ []) in
    let rest : entries ++ journal c.cut-rest.new.self ≡ entries = ap (λ (es : List Entry). entries ++ es) cut.left ∙ append-nil entries in
    subst HubTakesAlone rest all.takes
