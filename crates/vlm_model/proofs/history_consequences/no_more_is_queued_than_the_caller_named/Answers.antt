use Rattle.std.proofs.Common.{length, ap, arith}
use Rattle.std.proofs.lemmas.Bool.Decides.{nat_tests}
use Rattle.vlm_model.proofs.ShortHistories.{queued_both, queued_own}
use Rattle.vlm_model.proofs.history_consequences.no_more_is_queued_than_the_caller_named.Goals as goal

pub returns-clause-refused : goal.returns-clause-refused
returns-clause-refused c = λ e cond endings q law. grind (arith, law q.pid, ap length (queued_own q))

pub returns-clause-unnamed : goal.returns-clause-unnamed
returns-clause-unnamed c = λ e cond lkid endings q law completion blocking.
    grind (arith, law q.pid, ap length (queued_own q))

pub returns-clause-anothers : goal.returns-clause-anothers
returns-clause-anothers c = λ e cond lkid endings q law differ.
    grind (arith, nat_tests, law q.pid, ap length (queued_own q))

pub returns-clause-twice : goal.returns-clause-twice
returns-clause-twice c = λ c' cond lkid endings q again law blocking one.
    grind (arith, law q.pid, ap length (queued_both q again one))
