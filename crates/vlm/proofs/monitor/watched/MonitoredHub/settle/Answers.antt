use Rattle.vlm_ports.specs.Hubs.{bases}
use Rattle.vlm.proofs.Going.{settled}
use Rattle.vlm.proofs.monitor.watched.MonitoredHub.settle.Goals as goal

pub returns-then-settled-eq0-clause-standing : goal.returns-then-settled-eq0-clause-standing
returns-then-settled-eq0-clause-standing c =
    settled c.args.self.now.key c.args.self.now.ports.items c.args.place c.index_mut-port.result.now
    c.settle-settled.new.port (bases c.args.self.now.hub) (bases c.settle-settled.new.self)
    c.index_mut-port.ensures.value c.settle-settled.ensures.same.0 c.settle-settled.ensures.same.1 c.settle-settled.ensures.base.1

pub returns-else-settled-eq0-clause-standing : goal.returns-else-settled-eq0-clause-standing
returns-else-settled-eq0-clause-standing c =
    settled c.args.self.now.key c.args.self.now.ports.items c.args.place c.index_mut-port.result.now
    c.settle-settled.new.port (bases c.args.self.now.hub) (bases c.settle-settled.new.self)
    c.index_mut-port.ensures.value c.settle-settled.ensures.same.0 c.settle-settled.ensures.same.1 c.settle-settled.ensures.base.1
