use Rattle.std.proofs.lemmas.List.Elements.{All-from_recursion}
use Rattle.vlm_journal.specs.Journals.{IsAllowed}
use Rattle.vlm_journal.proofs.Joining.{allowed_of, journal_of, run_of}
use Rattle.vlm_journal.proofs.laws.law_journal.Goals as goal

pub returns : goal.returns
returns c first last entries =
    (λ journal. (run_of first journal, All-from_recursion IsAllowed entries (allowed_of first journal)), λ is. journal_of first entries is.0 is.1)
