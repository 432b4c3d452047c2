use Rattle.std.proofs.Common.{◌≡◌, vec_len, All}
use Rattle.vlm_ports.specs.Watching.{IsNew}
use Rattle.vlm_ports.proofs.watch.publisher.Publisher.watchers.Given as goal

abbrev pub invariant-loop : goal.invariant-loop
invariant-loop l =
    (vec_len l.all ≡ l.counter) × All (IsNew l.initial.self.history.book l.initial.keys) l.all.items × (l.self.history ≡ l.initial.self.history)
