-- What holds at each place of a journal.
use Rattle.std.proofs.Common.{◌↔◌, List, ◌++◌, subst}
use Rattle.std.specs.Prelude.{All}
use Rattle.vlm_model.specs.Runs.{History, Legal, Run}
use Rattle.vlm_words.specs.State.{State, start}
use Rattle.vlm_journal.specs.declared.entries.Entry.{Entry}
use Rattle.vlm_journal.specs.Journals.{IsAllowed, Journal, JournalFrom, answers_of, steps_of}
use Rattle.vlm_cluster.specs.Headline.{HoldsThroughout}

-- what holds of every run holds at each place of a journal
pub throughout : (P : History → State → Type 0)
    → ((first last : State) (before behind : List Entry) → JournalFrom first (before ++ behind) last
    ↔ ((between : State) × JournalFrom first before between × JournalFrom between behind last))
    → ((first last : State) (entries : List Entry) → JournalFrom first entries last
    ↔ (Legal first (steps_of entries) (answers_of entries) last × All IsAllowed entries))
    → ((history : History) (last : State) → Run history last → P history last)
    → (entries : List Entry) (last : State) → Journal entries last → HoldsThroughout P entries last
throughout P joins runs law entries last journal before behind is =
    let parts = (joins start last before behind).0 (subst (λ (es : List Entry). Journal es last) is journal) in
    let legal = ((runs start parts.0 before).0 parts.1).0 in record {
      state = parts.0;
      legal = parts.1;
      goes_on = parts.2;
      run = legal;
      holds = law legal.history parts.0 legal.run;
    }
