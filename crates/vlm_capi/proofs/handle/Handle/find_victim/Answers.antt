use Rattle.std.proofs.Common.{◌≡◌, rules}
use Rattle.vlm_core.specs.Victims.{ShowsVictim}
use Rattle.vlm_capi.proofs.Serving.{lends_core, victim_read}
use Rattle.vlm_capi.proofs.handle.Handle.find_victim.Goals as goal

pub returns-clause-told : goal.returns-clause-told
returns-clause-told c =
    (victim_read c.args.self.now.slot.held c.with_core.result c.with_core.new.self.slot.held
    (lends_core _ (λ s victim s'. (s' ≡ s)
    × ShowsVictim s victim)
    (λ s victim s' made. search rules) c.args.self.now.slot.held c.with_core.result c.with_core.new.self.slot.held
    c.with_core.ensures)).0

pub returns-clause-same : goal.returns-clause-same
returns-clause-same c =
    (victim_read c.args.self.now.slot.held c.with_core.result c.with_core.new.self.slot.held
    (lends_core _ (λ s victim s'. (s' ≡ s)
    × ShowsVictim s victim)
    (λ s victim s' made. search rules) c.args.self.now.slot.held c.with_core.result c.with_core.new.self.slot.held
    c.with_core.ensures)).1
