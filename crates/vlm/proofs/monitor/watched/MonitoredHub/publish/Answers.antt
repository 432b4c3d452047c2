use Rattle.std.proofs.Common.{◌≡◌, ◌∙◌, List, ap, rules, sym}
use Rattle.std.specs.Prelude.{IsTrue}
use Rattle.vlm_words.specs.State.{State}
use Rattle.vlm_journal.specs.Accounts.{Account}
use Rattle.vlm_ports.specs.Watched.{published, watched_keys}
use Rattle.vlm_ports.specs.declared.watch.rows.Change.{Change}
use Rattle.vlm_ports.specs.Rows.{row_of}
use Rattle.vlm_ports.specs.Sheets.{row_shown}
use Rattle.vlm.specs.Watches.{printed_row, row_at}
use Rattle.vlm.proofs.Going.{printed_at, shown_last}
use Rattle.vlm.proofs.monitor.watched.MonitoredHub.publish.Goals as goal

-- what is seen is what was published, and its last change is that of the journaled core
pub returns-in-Some-clause-row : goal.returns-in-Some-clause-row
returns-in-Some-clause-row g c =
    let hub = c.args.self.now.hub in let key = c.args.self.now.key in
    let new = c.in_ok-told.ensures.published in
    let yes : IsTrue c.has_seen.result = search rules in
    let row : c.in-Some.row ≡ row_of hub.journaled key =
    c.in-Some.ensures.row ∙ ap (λ (cs : List Change). row_shown cs 0) (c.has_seen.ensures yes ∙ c.tell-told.ensures.told ∙ new.2)
    ∙ shown_last hub.journaled key (watched_keys hub) (published hub) new.0 c.args.self.now.subject new.1 in
    ap printed_row row ∙ printed_at hub.journaled key
    ∙ ap (λ (s : State). row_at s key) (sym (c.cut.ensures.state ∙ ap (λ (b : Account). b.state) c.in_ok-told.ensures.same.0.0))
