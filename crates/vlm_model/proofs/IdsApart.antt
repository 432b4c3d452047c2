-- After every step no two locks have the same ID.
use Rattle.std.proofs.Common.{◌≡◌, ◌≤◌, ◌<◌, ◌+◌, ℕ, List, cond, refl, arith}
use Rattle.std.specs.Prelude.{◌==◌}
use Rattle.std.specs.List.{sum_by}
use Rattle.std.proofs.lemmas.Bool.Decides.{nat_tests}
use Rattle.vlm_words.specs.declared.locks.LockState.{LockState}
use Rattle.vlm_words.specs.State.{Resource, State}
use Rattle.vlm_model.specs.Declare.{declare_change}
use Rattle.vlm_model.specs.SetValue.{set_change}
use Rattle.vlm_model.specs.Take.{take_change}
use Rattle.vlm_model.specs.Enqueue.{enq_change}
use Rattle.vlm_model.specs.Convert.{convert_blocks, convert_change, convert_lkid, resource_after_conversion}
use Rattle.vlm_model.specs.Rundown.{processes_but, rundowns, state_after_rundown}
use Rattle.vlm_model.specs.Withdrawals.{resource_after_withdrawals, state_after_withdrawals}
use Rattle.vlm_model.specs.Runs.{History, Run}
use Rattle.vlm_model.specs.Laws.{IdsAreApart}
use Rattle.vlm_model.proofs.Always.{always, kept_by_stepped}
use Rattle.vlm_model.proofs.Weights.{weigh}
use Rattle.vlm_model.proofs.LastingSums.{IsByName, changed_named, converted_named, withdrawn_named, entered_named, swept_named}

-- 1 for a row of this lock
abbrev pub stands : ℕ → LockState → ℕ
stands lkid row = cond (row.lkid == lkid) 1 0

-- how many rows this lock has
abbrev pub standing : ℕ → List Resource → ℕ
standing lkid resources = sum_by (weigh (stands lkid)) resources

-- no lock has two rows, and 0 and those to come have none
pub record Apart (s : State) : Type 0 where
  pub one_row : (lkid : ℕ) → standing lkid s.resources ≤ 1
  pub none_is_0 : standing 0 s.resources ≡ 0
  pub none_to_come : (lkid : ℕ) → s.next_lkid ≤ lkid → standing lkid s.resources ≡ 0
  pub first : 0 < s.next_lkid

-- a row is counted by its ID
stands_named : (lkid : ℕ) → IsByName (stands lkid)
stands_named lkid row held want armed = refl

-- where no lock gets a row, all stay apart
fewer_apart : (s t : State) → Apart s → t.next_lkid ≡ s.next_lkid
    → ((lkid : ℕ) → standing lkid t.resources ≤ standing lkid s.resources) → Apart t
fewer_apart s t apart same fewer = record {
  one_row = λ lkid. omega (arith, apart.one_row lkid, fewer lkid);
  none_is_0 = omega (arith, apart.none_is_0, fewer 0);
  none_to_come = λ lkid past. omega (arith, apart.none_to_come lkid (omega arith), fewer lkid);
  first = omega (arith, apart.first, same);
}

-- where the next ID gets a row, all stay apart
one_more_apart : (s t : State) → Apart s → t.next_lkid ≡ s.next_lkid + 1
    → ((lkid : ℕ) → standing lkid t.resources ≡ standing lkid s.resources + cond (s.next_lkid == lkid) 1 0) → Apart t
one_more_apart s t apart next more = record {
  one_row = λ lkid. grind (arith, nat_tests, more lkid, apart.one_row lkid, apart.none_to_come lkid);
  none_is_0 = grind (arith, nat_tests, more 0, apart.none_is_0, apart.first);
  none_to_come = λ lkid past. grind (arith, nat_tests, more lkid, apart.none_to_come lkid);
  first = omega (arith, next);
}

-- after every run no two rows have the same ID
pub apart_always : (history : History) (last : State)
    → Run history last → Apart last
unfolding declare_change set_change take_change enq_change convert_change state_after_rundown
apart_always =
    always (λ _ s. Apart s) (record { one_row = λ lkid. omega arith; none_is_0 = refl; none_to_come = λ lkid _. refl; first = omega arith })
    (λ history s _ apart.
    kept_by_stepped (λ _ t. Apart t) history.endings s apart
    (λ d _. fewer_apart s _ apart refl (λ lkid. omega (arith, swept_named (stands lkid) (stands_named lkid) (declare_change s d).processes s.resources)))
    (λ v _. fewer_apart s _ apart refl (λ lkid. omega (arith, swept_named (stands lkid) (stands_named lkid) (set_change s v).processes s.resources)))
    (λ taker _. fewer_apart s _ apart refl (λ lkid. omega (arith, swept_named (stands lkid) (stands_named lkid) (take_change s taker).processes s.resources)))
    (λ e _. one_more_apart s _ apart refl (λ lkid. entered_named (stands lkid) (stands_named lkid) s e))
    (λ c a _ _. fewer_apart s _ apart refl
    (λ lkid. changed_named (stands lkid) (stands_named lkid)
    (resource_after_conversion a.request a.at_once c.pid (convert_lkid s c) (convert_blocks s c a).value_block)
    (converted_named (stands lkid) (stands_named lkid) a.request a.at_once c.pid (convert_lkid s c) (convert_blocks s c a).value_block)
    (convert_change s c a).processes s.resources))
    (λ withdrawals _. fewer_apart s _ apart refl
    (λ lkid. changed_named (stands lkid) (stands_named lkid) (resource_after_withdrawals withdrawals)
    (withdrawn_named (stands lkid) (stands_named lkid) withdrawals) (state_after_withdrawals withdrawals s).processes s.resources))
    (λ is_one nodes _. fewer_apart s _ apart refl
    (λ lkid. changed_named (stands lkid) (stands_named lkid) (resource_after_withdrawals (rundowns is_one s))
    (withdrawn_named (stands lkid) (stands_named lkid) (rundowns is_one s)) (processes_but is_one s.processes) s.resources)))

-- after every run IDs are apart
pub ids_always : (history : History) (last : State)
    → Run history last → IdsAreApart last
ids_always history last run =
    let apart : Apart last = apart_always history last run in
    record { one_row = apart.one_row; none_is_0 = apart.none_is_0; none_to_come = apart.none_to_come }
