use Rattle.std.proofs.Common.{◌≡◌, ◌+◌, ◌-◌, ◌^◌, [], length, min, ap, sym, ◌∙◌, rules}
use Rattle.vlm_journal.specs.Accounts.{made}
use Rattle.vlm_journal.proofs.GoingOn.{goes_on_behind}
use Rattle.vlm_journal.proofs.journaled_core.JournaledCore.cut.Goals as goal

-- nothing is left, behind what was handed out
pub invariant_of-self : goal.invariant_of-self
invariant_of-self c =
    let inside = c.self.inside in
    let count : c.replace-base.new.dest ≡ min (inside.base + length inside.entries.items) (2 ^ 64 - 1) =
    c.replace-base.ensures.after ∙ (c.made-made.ensures ∙ ap made (sym c.self.view_is)) in
    let none : c.replace-entries.new.dest.items ≡ [] = search rules in
    rw (count, none) (goes_on_behind c.self.invariant)
