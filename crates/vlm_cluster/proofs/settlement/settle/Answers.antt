use Rattle.std.proofs.Common.{◌≡◌, true, rules, ap}
use Rattle.vlm_cluster.specs.declared.worker.WorkerResult.{WorkerResult}
use Rattle.vlm_cluster.proofs.Accounting.{accounts_stand}
use Rattle.vlm_cluster.proofs.Settled.{begun_of, port_stays, whole_of}
use Rattle.vlm_cluster.proofs.settlement.settle.Goals as goal

pub returns-then-not-worker-clause-begun : goal.returns-then-not-worker-clause-begun
returns-then-not-worker-clause-begun g c =
    let hub = c.settle-settled.new.hub in let parts = c.args.driver.now.parts.items in
    let worker : WorkerResult g.row.G.Denot = record c.args.worker.now { client = c.settle-settled.new.self } in
    let settled = c.settle-settled.ensures in
    begun_of parts hub worker (accounts_stand parts c.args.driver.now.hub hub settled.standing c.requires.accounted)
    (port_stays c.args.driver.now.hub hub c.args.worker.now.client.port worker.client.port (ap (λ s. s.0) settled.standing) settled.same.0 c.requires.port)
    settled.begun

pub returns-else-settled-eq0-clause-begun : goal.returns-else-settled-eq0-clause-begun
returns-else-settled-eq0-clause-begun g c =
    let hub = c.settle-settled.new.hub in let parts = c.args.driver.now.parts.items in
    let worker : WorkerResult g.row.G.Denot = record c.args.worker.now { client = c.settle-settled.new.self } in
    let settled = c.settle-settled.ensures in
    begun_of parts hub worker (accounts_stand parts c.args.driver.now.hub hub settled.standing c.requires.accounted)
    (port_stays c.args.driver.now.hub hub c.args.worker.now.client.port worker.client.port (ap (λ s. s.0) settled.standing) settled.same.0 c.requires.port)
    settled.begun

pub returns-then-settled-eq0-clause-begun : goal.returns-then-settled-eq0-clause-begun
returns-then-settled-eq0-clause-begun g c =
    let hub = c.settle-settled.new.hub in let parts = c.args.driver.now.parts.items in
    let worker : WorkerResult g.row.G.Denot = record c.args.worker.now { client = c.settle-settled.new.self } in
    let settled = c.settle-settled.ensures in
    begun_of parts hub worker (accounts_stand parts c.args.driver.now.hub hub settled.standing c.requires.accounted)
    (port_stays c.args.driver.now.hub hub c.args.worker.now.client.port worker.client.port (ap (λ s. s.0) settled.standing) settled.same.0 c.requires.port)
    settled.begun

pub returns-then-settled-eq0-clause-whole : goal.returns-then-settled-eq0-clause-whole
returns-then-settled-eq0-clause-whole g c = λ yes.
    let hub = c.settle-settled.new.hub in let parts = c.args.driver.now.parts.items in
    let worker : WorkerResult g.row.G.Denot = record c.args.worker.now { client = c.settle-settled.new.self } in
    let settled = c.settle-settled.ensures in
    let left : c.args.worker.now.left ≡ true = search rules in
    let none : c.settle-settled.result.items ≡ 0 = search rules in
    whole_of parts hub worker (accounts_stand parts c.args.driver.now.hub hub settled.standing c.requires.accounted)
    (port_stays c.args.driver.now.hub hub c.args.worker.now.client.port worker.client.port (ap (λ s. s.0) settled.standing) settled.same.0 c.requires.port)
    left (settled.steps c.if-settled-eq0.true) (settled.items none)
