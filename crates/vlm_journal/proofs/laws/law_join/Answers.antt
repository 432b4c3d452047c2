use Rattle.vlm_journal.proofs.Joining.{join, part}
use Rattle.vlm_journal.proofs.laws.law_join.Goals as goal

pub returns : goal.returns
returns c first last before behind =
    (λ journal. part first before behind journal, λ parts. join first before behind parts.1 parts.2)
