use Rattle.std.proofs.Common.{List, sym, subst}
use Rattle.vlm_journal.specs.declared.entries.Part.{Part}
use Rattle.vlm_cluster.specs.Parts.{IsAccounted}
use Rattle.vlm_cluster.proofs.Accounting.{accounts_begin}
use Rattle.vlm_cluster.proofs.hub_driver.HubDriver.new.Goals as goal

pub returns-clause-accounted : goal.returns-clause-accounted
returns-clause-accounted c =
    subst (λ (ps : List Part). IsAccounted ps c.args.hub) (sym c.new.ensures.items) (accounts_begin c.args.hub c.requires.hub)
