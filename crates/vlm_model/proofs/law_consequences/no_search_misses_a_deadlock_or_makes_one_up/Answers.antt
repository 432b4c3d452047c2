use Rattle.std.proofs.Common.{◌≡◌, [], ◌∷◌, Some, sym, arith}
use Rattle.vlm_model.specs.Endings.{Ending}
use Rattle.vlm_model.specs.Endings.How.{by_deadlock}
use Rattle.vlm_model.proofs.OneLock.{any_of_one}
use Rattle.vlm_model.proofs.TwoDeadlocked.{first_caught, first_waits, nobody_caught, second_waits}
use Rattle.vlm_model.proofs.law_consequences.no_search_misses_a_deadlock_or_makes_one_up.Goals as goal

pub returns-clause-missed : goal.returns-clause-missed
returns-clause-missed c = λ s made a b law two. law.0 a.pid (b.pid ∷ []) (first_waits s a b two, second_waits s a b two)

pub returns-clause-made_up : goal.returns-clause-made_up
returns-clause-made_up c = λ s made lkid law nobody. nobody_caught s law.row nobody law.caught

pub returns-clause-earlier : goal.returns-clause-earlier
returns-clause-earlier c = λ s made lkid a b want ending law two wants ends earlier.
    let ended =
    any_of_one (λ (ending : Ending). (ending.how ≡ by_deadlock) × (ending.lkid ≡ law.row.lkid) × (Some ending.request ≡ law.row.want))
    made.endings ending ends law.ended in
    omega (arith, law.last a (first_caught s a b two) want ending.request wants (sym ended.2))
