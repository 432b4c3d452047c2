-- What is left of a handle that lent its core.
use Rattle.std.proofs.Common.{◌≡◌, ℕ, sym, ap, Some, None}
use Rattle.std.specs.Prelude.{Option}
use Rattle.std.specs.Option.{is_some}
use Rattle.vlm_words.specs.State.{State}
use Rattle.vlm_words.specs.declared.steps.Answer.{Answer}
use Rattle.vlm_words.specs.declared.steps.Step.{Step}
use Rattle.vlm_model.specs.Stepped.{Outcome}
use Rattle.vlm_capi.specs.declared.held.Held.{Held}
use Rattle.vlm_capi.specs.declared.held.Held.TheVariants.{Core as core_held, Hub as hub_held, Port as port_held}
use Rattle.vlm_core.specs.Victims.{ShowsVictim}
use Rattle.vlm_capi.specs.Lending.{LendsCore, core_of}
use Rattle.vlm_capi.specs.Served.{Served}
use Rattle.vlm_capi.specs.Victims.{ReadsVictim}

-- a call that keeps to a relation keeps to each weaker one
pub lends_core : {R : Type 0} (P Q : State → R → State → Type 0)
    → ((s : State) (r : R) (s' : State) → P s r s' → Q s r s')
    → (before : Option Held) (result : Option R) (after : Option Held)
    → LendsCore P before result after → LendsCore Q before result after
lends_core P Q f (Some (core_held s)) (Some r) (Some (core_held s')) made = f s r s' made
lends_core P Q f (Some (core_held s)) (Some r) (Some (hub_held b)) made = made
lends_core P Q f (Some (core_held s)) (Some r) (Some (port_held p)) made = made
lends_core P Q f (Some (core_held s)) (Some r) None made = made
lends_core P Q f (Some (core_held s)) None after made = made
lends_core P Q f (Some (hub_held b)) result after made = made
lends_core P Q f (Some (port_held p)) result after made = made
lends_core P Q f None result after made = made

-- a step that a core made was served
pub served : (before : Option Held) (step : Step) (answer : Answer) (after : Option Held)
    → LendsCore (λ s r s'. Outcome s step s' r) before (Some answer) after → Served before (Some step) after answer
served (Some (core_held s)) step answer (Some (core_held s')) made = made
served (Some (core_held s)) step answer (Some (hub_held b)) made = absurd made
served (Some (core_held s)) step answer (Some (port_held p)) made = absurd made
served (Some (core_held s)) step answer None made = absurd made
served (Some (hub_held b)) step answer after made = absurd (mathlib.Core.Bool.false≢true (sym (ap is_some made.0)))
served (Some (port_held p)) step answer after made = absurd (mathlib.Core.Bool.false≢true (sym (ap is_some made.0)))
served None step answer after made = absurd (mathlib.Core.Bool.false≢true (sym (ap is_some made.0)))

-- a look for a victim changes nothing, and reads it
pub victim_read : (before : Option Held) (found : Option (Option ℕ)) (after : Option Held)
    → LendsCore (λ s victim s'. (s' ≡ s) × ShowsVictim s victim) before found after
    → ReadsVictim (core_of before) found × (after ≡ before)
victim_read (Some (core_held s)) (Some victim) (Some (core_held s')) lent = (lent.1, ap (λ x. Some (core_held x)) lent.0)
victim_read (Some (core_held s)) (Some victim) (Some (hub_held b)) lent = absurd lent
victim_read (Some (core_held s)) (Some victim) (Some (port_held p)) lent = absurd lent
victim_read (Some (core_held s)) (Some victim) None lent = absurd lent
victim_read (Some (core_held s)) None after lent = absurd lent
victim_read (Some (hub_held b)) found after lent = lent
victim_read (Some (port_held p)) found after lent = lent
victim_read None found after lent = lent
