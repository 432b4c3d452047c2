use Rattle.std.proofs.Common.{◌∙◌, ap, map}
use Rattle.std.specs.Vec.{with_items}
use Rattle.vlm.specs.WatchedPorts.{posts_of}
use Rattle.vlm.proofs.Going.{lent, ports_stay}
use Rattle.vlm.proofs.monitor.watched.MonitoredHub.turn.Goals as goal

pub invariant_of-self-in-Served-clause-linked : goal.invariant_of-self-in-Served-clause-linked
invariant_of-self-in-Served-clause-linked c =
    let ports = c.args.self.now.ports in let new = c.take_all.new.ports in
    ports_stay c.args.self.now.hub c.turn.new.self ports.items (with_items ports new).items c.turn.ensures.rings
    (lent ports new (c.take_all.ensures ∙ ap (map posts_of) c.deref_mut.ensures.value)) c.args.self.now.linked
