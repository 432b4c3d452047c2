use Rattle.std.proofs.Common.{arith}
use Rattle.vlm_cycle.proofs.DatedNotes.{all_blank}
use Rattle.vlm_cycle.proofs.ranks.Ranks.begin.Goals as goal

pub returns-in-Some-clause-blank : goal.returns-in-Some-clause-blank
returns-in-Some-clause-blank c =
    all_blank c.in-Some.search c.self.inside.notes.items (λ k d within. omega (arith, c.self.invariant k d within, c.in-Some.ensures))
