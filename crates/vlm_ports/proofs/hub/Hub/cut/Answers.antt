use Rattle.std.proofs.Common.{List, sym, subst}
use Rattle.vlm_journal.specs.declared.entries.Entry.{Entry}
use Rattle.vlm_ports.proofs.Lines.{StandsBefore, cut_before}
use Rattle.vlm_ports.proofs.hub.Hub.cut.Goals as goal

pub returns-clause-before : goal.returns-clause-before
returns-clause-before c = λ node some within.
    let ls = c.args.self.now.all_node_rings.items in let js = c.args.self.now.journaled.entries in
    let P : List Entry → Type 0 = λ es. StandsBefore ls es js node in
    subst P (sym c.cut.ensures.left) (cut_before ls js c.args.self.now.linked node some within)
