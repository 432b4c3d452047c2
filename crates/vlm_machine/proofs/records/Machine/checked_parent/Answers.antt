use Rattle.std.proofs.Common.{◌≡◌, refl, rules, false, sym, ap, ◌∙◌, ne_eqb}
use Rattle.std.specs.Prelude.{◌==◌}
use Rattle.std.specs.Result.{result_err}
use Rattle.vlm_machine.proofs.ParentLocks.{parent_checked, parent_stands}
use Rattle.vlm_machine.proofs.records.Machine.checked_parent.Goals as goal

pub returns-in_err-check_parent-clause-refusal : goal.returns-in_err-check_parent-clause-refusal
returns-in_err-check_parent-clause-refusal c =
    let m = c.args.self.now in
    let stands = c.located-located.ensures.located c.args.caller.now.pid c.args.lkid c.in_ok-lock.ensures.lock in
    let named : (c.args.lkid == 0) ≡ false = ne_eqb c.args.lkid 0 c.if-lkid-eq0.false in
    let err : result_err c.from_residual-in_err-check_parent.result ≡ result_err c.check_parent.result = search rules in
    err ∙ c.check_parent.ensures.refusal stands.located.resource stands.located.found
    ∙ sym (parent_checked m stands.located.sound c.args.caller.now.pid c.args.lkid c.located-located.result stands named (sym c.in_ok-lock.ensures.refusal))

pub returns-clause-refusal : goal.returns-clause-refusal
returns-clause-refusal c =
    let m = c.args.self.now in
    let stands = c.located-located.ensures.located c.args.caller.now.pid c.args.lkid c.in_ok-lock.ensures.lock in
    let named : (c.args.lkid == 0) ≡ false = ne_eqb c.args.lkid 0 c.if-lkid-eq0.false in
    sym (ap result_err c.in_ok-check_parent.was) ∙ c.check_parent.ensures.refusal stands.located.resource stands.located.found
    ∙ sym (parent_checked m stands.located.sound c.args.caller.now.pid c.args.lkid c.located-located.result stands named (sym c.in_ok-lock.ensures.refusal))

pub returns-clause-parent : goal.returns-clause-parent
returns-clause-parent c =
    let m = c.args.self.now in
    let stands = c.located-located.ensures.located c.args.caller.now.pid c.args.lkid c.in_ok-lock.ensures.lock in
    let named : (c.args.lkid == 0) ≡ false = ne_eqb c.args.lkid 0 c.if-lkid-eq0.false in
    parent_stands m stands.located.sound c.args.caller.now.pid c.args.lkid c.located-located.result stands named
    (sym (ap result_err c.in_ok-check_parent.was)
    ∙ c.check_parent.ensures.refusal stands.located.resource stands.located.found) _ c.located-located.ensures.lock
    refl
