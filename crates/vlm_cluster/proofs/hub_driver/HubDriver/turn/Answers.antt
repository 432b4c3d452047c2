use Rattle.vlm_ports.specs.Turns.{turn_entries}
use Rattle.vlm_cluster.proofs.Accounting.{accounts_go_on}
use Rattle.vlm_cluster.proofs.hub_driver.HubDriver.turn.Goals as goal

-- what the turn made is legal
pub cut_off-requires : goal.cut_off-requires
cut_off-requires c =
    accounts_go_on (turn_entries c.turn-turn.result) c.args.self.now.parts.items c.args.self.now.hub c.turn-turn.new.self c.requires.accounted
    c.turn-turn.ensures.rings c.turn-turn.ensures.base.0 c.turn-turn.ensures.base.1 c.turn-turn.ensures.made
