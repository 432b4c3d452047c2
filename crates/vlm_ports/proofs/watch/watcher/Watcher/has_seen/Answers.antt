use Rattle.std.proofs.Common.{arith, sym}
use Rattle.vlm_ports.specs.Watching.{seen, told_changes}
use Rattle.vlm_ports.proofs.Beginnings.{begins_all}
use Rattle.vlm_ports.proofs.watch.watcher.Watcher.has_seen.Goals as goal

-- it has seen as many as are told, and they begin with these
pub returns : goal.returns
returns c = λ yes.
    let watcher = c.args.self.now in let told = c.args.told.now in
    sym (begins_all (told_changes told) (seen watcher) (c.begins.ensures yes) (omega (arith, watcher.counted, told.counted, c.if-self-told.false)))
