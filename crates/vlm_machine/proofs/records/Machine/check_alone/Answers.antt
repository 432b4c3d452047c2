use Rattle.std.proofs.Common.{◌≡◌, Bool, OnOk, true, ap, ◌∙◌, subst}
use Rattle.vlm_words.specs.Flags.{cancel, has_flag}
use Rattle.vlm_store.specs.Records.{HasNoSublocks}
use Rattle.vlm_locks.specs.Withdrawing.{goes}
use Rattle.vlm_machine.proofs.records.Machine.check_alone.Goals as goal

-- the flag that is checked is that of the dequeue
pub returns-clause-childless : goal.returns-clause-childless
returns-clause-childless c d flags =
    let f = c.args.located.now in
    let same : c.has-cancels.result ≡ has_flag d.flags cancel =
    c.has-cancels.ensures ∙ ap (λ bits. has_flag bits cancel) flags in
    subst (λ (cancels : Bool). OnOk c.check_sublocks.result (goes cancels f.queue ≡ true
    → HasNoSublocks f.lock c.args.self.now.records)) same c.check_sublocks.ensures.childless
