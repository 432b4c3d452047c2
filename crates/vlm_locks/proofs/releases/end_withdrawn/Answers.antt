use Rattle.std.proofs.Common.{◌+◌, sym, ap, ◌∙◌}
use Rattle.vlm_words.specs.declared.resources.Queue.TheVariants.{Granted, Conversion, Waiting}
use Rattle.vlm_model.specs.Withdrawals.{processes_after}
use Rattle.vlm_store.specs.Plain.{plain_processes}
use Rattle.vlm_store.specs.Records.{due_of}
use Rattle.vlm_locks.specs.Withdrawals.{plain_withdrawal}
use Rattle.vlm_locks.proofs.ReservedAsts.{nothing_wanted}
use Rattle.vlm_locks.proofs.WithdrawnEnds.{withdrawn_ends}
use Rattle.vlm_locks.proofs.releases.end_withdrawn.Goals as goal

pub returns-in-Granted-clause-statuses : goal.returns-in-Granted-clause-statuses
returns-in-Granted-clause-statuses c =
    let s = c.args.store.now in
    ap (λ ends. processes_after ends (plain_processes s))
    (sym (withdrawn_ends s c.requires.located.sound c.args.located.now c.requires.located
    (plain_withdrawal c.args.withdrawal.now) c.requires.named Granted c.in-Granted.is))

pub returns-in-Conversion-clause-statuses : goal.returns-in-Conversion-clause-statuses
returns-in-Conversion-clause-statuses c =
    let s = c.args.store.now in
    let f = c.args.located.now in
    c.end_request.ensures.statuses
    ∙ ap (λ ends. processes_after ends (plain_processes s))
    (sym (withdrawn_ends s c.requires.located.sound f c.requires.located
    (plain_withdrawal c.args.withdrawal.now) c.requires.named Conversion c.in-Conversion.is))

pub returns-in-Waiting-clause-statuses : goal.returns-in-Waiting-clause-statuses
returns-in-Waiting-clause-statuses c =
    let s = c.args.store.now in
    c.end_request-in-Waiting.ensures.statuses
    ∙ ap (λ ends. processes_after ends (plain_processes s))
    (sym (withdrawn_ends s c.requires.located.sound c.args.located.now c.requires.located
    (plain_withdrawal c.args.withdrawal.now) c.requires.named Waiting c.in-Waiting.is))

-- a granted lock wants nothing
pub returns-in-Granted-clause-owed : goal.returns-in-Granted-clause-owed
returns-in-Granted-clause-owed c pid =
    ap (λ due. due_of pid c.args.store.now + due) (sym (nothing_wanted c.args.located.now.row (c.requires.granted c.in-Granted.is) pid))
