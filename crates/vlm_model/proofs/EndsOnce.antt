-- After every run each accepted request is wanted once or has ended once.
use Rattle.std.proofs.Common.{◌≡◌, ◌≤◌, ◌<◌, ◌+◌, ◌⊎◌, ℕ, Bool, zero, suc, true, List, [], ◌∷◌, ◌++◌, map, cond, Option}
use Rattle.std.proofs.Common.{None, Some, inl, inr, refl, sym, subst, ap, arith}
use Rattle.std.specs.Prelude.{◌==◌}
use Rattle.std.specs.List.{AllByRecursion, find, sum_by}
use Rattle.std.proofs.lemmas.Bool.Decides.{nat_tests}
use Rattle.std.proofs.lemmas.List.Sums.{sum_by-append, sum_by-cons}
use Rattle.vlm_words.specs.declared.locks.Request.{Request}
use Rattle.vlm_words.specs.declared.locks.LockState.{LockState}
use Rattle.vlm_words.specs.declared.resources.ValueBlock.{ValueBlock}
use Rattle.vlm_words.specs.declared.steps.Conversion.{Conversion}
use Rattle.vlm_words.specs.declared.steps.NewRequest.{NewRequest}
use Rattle.vlm_words.specs.State.{Resource, State}
use Rattle.vlm_model.specs.Endings.{Ending}
use Rattle.vlm_model.specs.Grants.{grant_endings}
use Rattle.vlm_model.specs.Sweeps.{state_after_sweep, sweep_endings}
use Rattle.vlm_words.specs.Rows.{is_lock_of, wanting_row}
use Rattle.vlm_model.specs.Declare.{declare_change}
use Rattle.vlm_model.specs.SetValue.{set_change}
use Rattle.vlm_model.specs.Take.{take_change}
use Rattle.vlm_model.specs.Trees.{enq_site}
use Rattle.vlm_model.specs.Enqueue.{enq_at_once, enq_change, enq_endings, enq_resource, enq_row}
use Rattle.vlm_model.specs.Convert.{ConversionAdmission, admission_among, admission_or, conversion_endings}
use Rattle.vlm_model.specs.Convert.{convert_admission, convert_blocks, convert_change, convert_lkid, convert_request}
use Rattle.vlm_model.specs.Convert.{converts_at_once, resource_after_conversion, resource_after_conversion_of}
use Rattle.vlm_model.specs.Rundown.{processes_but, rundown_endings, rundowns, state_after_rundown}
use Rattle.vlm_model.specs.Runs.{History, Run}
use Rattle.vlm_model.specs.Laws.{EachRequestEndsOnce, times_ended, wanting, wanting_on}
use Rattle.vlm_model.proofs.Always.{WithdrawsNow, always, ends_deadlock, gives_up, kept_by_stepped}
use Rattle.vlm_model.proofs.Victims.{victims_apart}
use Rattle.vlm_model.proofs.Admissions.{admitted_request, some_same}
use Rattle.vlm_model.proofs.Each.{Found, found_at}
use Rattle.vlm_model.proofs.RowsFit.{Fit, fit_always}
use Rattle.vlm_model.proofs.Weights.{weigh, swept_weighs, entered_among_weighs}
use Rattle.vlm_model.proofs.IdsApart.{Apart, apart_always, stands, standing}
use Rattle.vlm_model.proofs.Together.{dequeues_apart, rundowns_apart, OfOneEach}
use Rattle.vlm_model.proofs.Counts.{hits, wants, ends, wants_kept, found_stands, converted_row_counts, all_withdrawn_count}
use Rattle.vlm_model.specs.Withdrawals.{state_after_withdrawals, Withdrawal, withdrawn_endings}

-- a lock that has no row is not found
absent_same : (request : Request) (at_once : Bool) (pid lkid : ℕ) (block : ValueBlock) (r : Resource)
    (found : Option LockState) → find (is_lock_of pid lkid) r.granted ≡ found
    → weigh (stands lkid) r ≡ 0 → resource_after_conversion_of request at_once lkid block r found ≡ r
absent_same request at_once pid lkid block r None is absent = refl
absent_same request at_once pid lkid block r (Some row) is absent =
    absurd (omega (arith, found_stands pid lkid r.granted row (found_at (is_lock_of pid lkid) r.granted row is)))

-- resources without a row of the lock stay as they are when it converts
pub absent_unchanged : (request : Request) (at_once : Bool) (pid lkid : ℕ) (block : ValueBlock) (resources : List Resource) → standing lkid resources ≡ 0
    → map (resource_after_conversion request at_once pid lkid block) resources ≡ resources
unfolding resource_after_conversion
absent_unchanged request at_once pid lkid block [] absent = refl
absent_unchanged request at_once pid lkid block (r ∷ rest) absent =
    let both : standing lkid (r ∷ rest) ≡ weigh (stands lkid) r + standing lkid rest = sum_by-cons (weigh (stands lkid)) r rest in
    let here : resource_after_conversion request at_once pid lkid block r ≡ r =
    absent_same request at_once pid lkid block r (find (is_lock_of pid lkid) r.granted) refl (omega arith) in
    let behind : map (resource_after_conversion request at_once pid lkid block) rest ≡ rest =
    absent_unchanged request at_once pid lkid block rest (omega arith) in
    cc

-- where a lock has one row, its conversion is counted once: on its resource, or on those behind it
here_or_behind : (number : ℕ) (request : Request) (pid lkid : ℕ) (block : ValueBlock) (r : Resource) (rest : List Resource)
    (a : ConversionAdmission) (found : Option LockState)
    → find (is_lock_of pid lkid) r.granted ≡ found → Fit r → standing lkid (r ∷ rest) ≤ 1
    → (admission_among request pid lkid rest ≡ Some a
    → sum_by (wanting_on number) (map (resource_after_conversion request a.at_once pid lkid block) rest) + times_ended number (conversion_endings a)
    ≡ sum_by (wanting_on number) rest + hits number (Some request))
    → admission_or request r found (admission_among request pid lkid rest) ≡ Some a
    → wanting_on number (resource_after_conversion_of request a.at_once lkid block r found)
    + sum_by (wanting_on number) (map (resource_after_conversion request a.at_once pid lkid block) rest)
    + times_ended number (conversion_endings a)
    ≡ wanting_on number r + sum_by (wanting_on number) rest + hits number (Some request)
here_or_behind number request pid lkid block r rest a None is fit one behind at = omega (arith, behind at)
here_or_behind number request pid lkid block r rest a (Some row) is fit one behind at =
    let at_row : Found (is_lock_of pid lkid) r.granted row = found_at (is_lock_of pid lkid) r.granted row is in
    let here : ConversionAdmission = record { resource = r; row = row; request = request; at_once = converts_at_once request row.lkid r } in
    let same : Some here ≡ Some a = at in
    let own : times_ended number (cond a.at_once (grant_endings true (wanting_row row request)) []) ≡ times_ended number (conversion_endings a) =
    ap (λ (b : ConversionAdmission). times_ended number (cond a.at_once (grant_endings true (wanting_row b.row b.request)) [])) (some_same here a same) in
    let counted = converted_row_counts number request a.at_once lkid block r row fit in
    let absent : standing lkid rest ≡ 0 =
    omega (arith, sum_by-cons (weigh (stands lkid)) r rest, found_stands pid lkid r.granted row at_row) in
    omega (arith, counted, own, ap (sum_by (wanting_on number)) (absent_unchanged request a.at_once pid lkid block rest absent))

-- where a lock has one row, its conversion is counted once
all_converted_count : (number : ℕ) (request : Request) (pid lkid : ℕ) (block : ValueBlock) (a : ConversionAdmission) (resources : List Resource)
    → AllByRecursion Fit resources → standing lkid resources ≤ 1 → admission_among request pid lkid resources ≡ Some a
    → sum_by (wanting_on number) (map (resource_after_conversion request a.at_once pid lkid block) resources) + times_ended number (conversion_endings a)
    ≡ sum_by (wanting_on number) resources + hits number (Some request)
unfolding resource_after_conversion
all_converted_count number request pid lkid block a [] fit one at = cc
all_converted_count number request pid lkid block a (r ∷ rest) fit one at =
    let fewer : standing lkid rest ≤ 1 = omega (arith, sum_by-cons (weigh (stands lkid)) r rest) in
    let all = here_or_behind number request pid lkid block r rest a (find (is_lock_of pid lkid) r.granted) refl fit.0 one
    (λ behind. all_converted_count number request pid lkid block a rest fit.1 fewer behind) at in
    omega (
      arith,
      all,
      sum_by-cons (wanting_on number) r rest,
      sum_by-cons (wanting_on number) (resource_after_conversion request a.at_once pid lkid block r)
          (map (resource_after_conversion request a.at_once pid lkid block) rest),
    )

-- a sweep alone counts what was counted
sweep_counts : (number : ℕ) (s : State) → wanting number (state_after_sweep s) + times_ended number (sweep_endings s.resources) ≡ wanting number s
sweep_counts number s = swept_weighs (wants number) (ends number) (wants_kept number) (λ row armed. refl) s.processes s.resources

-- a new request is wanted or ends, and what the sweep grants ends
enqueued_counts : (number : ℕ) (s : State) (e : NewRequest)
    → wanting number (state_after_sweep (enq_change s e)) + times_ended number (enq_endings s e ++ sweep_endings (enq_change s e).resources)
    ≡ wanting number s + cond (s.next_request == number) 1 0
unfolding enq_change enq_resource
enqueued_counts number s e =
    omega (
      arith,
      sweep_counts number (enq_change s e),
      entered_among_weighs (wants number) (ends number) (wants_kept number) s.next_serial (enq_site s e) (enq_row s e)
          (enq_at_once s e) s.resources,
      sum_by-append (ends number) (enq_endings s e) (sweep_endings (enq_change s e).resources),
    )

-- the request of an admitted conversion has the next number
admitted_number : (number : ℕ) (s : State) (c : Conversion) (a : ConversionAdmission) → convert_admission s c ≡ Some a
    → hits number (Some a.request) ≡ cond (s.next_request == number) 1 0
unfolding convert_admission
admitted_number number s c a admitted =
    ap (λ (request : Request). hits number (Some request)) (admitted_request (convert_request s c) c.pid (convert_lkid s c) a s.resources admitted)

-- a conversion is wanted or ends, and what the sweep grants ends
converted_counts : (number : ℕ) (s : State) (c : Conversion) (a : ConversionAdmission) → convert_admission s c ≡ Some a
    → AllByRecursion Fit s.resources → Apart s
    → wanting number (state_after_sweep (convert_change s c a))
    + times_ended number (conversion_endings a ++ sweep_endings (convert_change s c a).resources)
    ≡ wanting number s + cond (s.next_request == number) 1 0
unfolding convert_change convert_admission
converted_counts number s c a admitted fit apart =
    let lkid : ℕ = convert_lkid s c in
    let block : ValueBlock = (convert_blocks s c a).value_block in
    let request : a.request ≡ convert_request s c = admitted_request (convert_request s c) c.pid lkid a s.resources admitted in
    let counted : sum_by (wanting_on number) (map (resource_after_conversion a.request a.at_once c.pid lkid block) s.resources)
    + times_ended number (conversion_endings a) ≡ sum_by (wanting_on number) s.resources + hits number (Some (convert_request s c)) =
    subst (λ (q : Request). sum_by (wanting_on number) (map (resource_after_conversion q a.at_once c.pid lkid block) s.resources)
    + times_ended number (conversion_endings a) ≡ sum_by (wanting_on number) s.resources + hits number (Some (convert_request s c)))
    (sym request) (all_converted_count number (convert_request s c) c.pid lkid block a s.resources fit (apart.one_row lkid) admitted) in
    omega (
      arith,
      sweep_counts number (convert_change s c a),
      counted,
      sum_by-append (ends number) (conversion_endings a) (sweep_endings (convert_change s c a).resources),
    )

-- each accepted request is counted once, and those to come are not
pub record CountedOnce (endings : List Ending) (s : State) : Type 0 where
  pub accepted : (number : ℕ) → 0 < number → number < s.next_request → wanting number s + times_ended number endings ≡ 1
  pub to_come : (number : ℕ) → s.next_request ≤ number → wanting number s + times_ended number endings ≡ 0

-- a step that accepts no request counts what was counted
same_counts : (endings more : List Ending) (s t : State) → CountedOnce endings s → t.next_request ≡ s.next_request
    → ((number : ℕ) → wanting number t + times_ended number more ≡ wanting number s) → CountedOnce (endings ++ more) t
same_counts endings more s t counted same as_many = record {
  accepted = λ number some below.
      omega (arith, as_many number, counted.accepted number some (omega arith), sum_by-append (ends number) endings more);
  to_come = λ number past. omega (arith, as_many number, counted.to_come number (omega arith), sum_by-append (ends number) endings more);
}

-- a step that accepts a request counts it, and what was counted
one_more_counts : (endings more : List Ending) (s t : State) → CountedOnce endings s → t.next_request ≡ s.next_request + 1
    → ((number : ℕ) → wanting number t + times_ended number more ≡ wanting number s + cond (s.next_request == number) 1 0)
    → CountedOnce (endings ++ more) t
one_more_counts endings more s t counted next one_more = record {
  accepted = λ number some below.
      grind (arith, nat_tests, one_more number, counted.accepted number some, counted.to_come number, sum_by-append (ends number) endings more);
  to_come = λ number past.
      grind (arith, nat_tests, one_more number, counted.to_come number, sum_by-append (ends number) endings more);
}

-- each of the withdrawals is of a lock of its own
withdrawn_apart : (s : State) (withdrawals : List Withdrawal) → WithdrawsNow s withdrawals → OfOneEach withdrawals
withdrawn_apart s _ (gives_up d _) = dequeues_apart s d
withdrawn_apart s _ (ends_deadlock choice _) = victims_apart choice

-- after every run each accepted request is counted once
pub counted_always : (history : History) (last : State)
    → Run history last → CountedOnce history.endings last
unfolding declare_change set_change take_change enq_change convert_change state_after_rundown
counted_always =
    always CountedOnce (record { accepted = λ number some below. absurd (omega arith); to_come = λ number past. refl })
    (λ history s run counted.
    let fit : AllByRecursion Fit s.resources = fit_always history s run in
    let apart : Apart s = apart_always history s run in
    kept_by_stepped CountedOnce history.endings s counted
    (λ d _. same_counts history.endings (sweep_endings s.resources) s (state_after_sweep (declare_change s d)) counted refl
    (λ number. sweep_counts number (declare_change s d)))
    (λ v _. same_counts history.endings (sweep_endings s.resources) s (state_after_sweep (set_change s v)) counted refl
    (λ number. sweep_counts number (set_change s v)))
    (λ taker _. same_counts history.endings (sweep_endings s.resources) s (state_after_sweep (take_change s taker)) counted refl
    (λ number. sweep_counts number (take_change s taker)))
    (λ e _. one_more_counts history.endings (enq_endings s e ++ sweep_endings (enq_change s e).resources) s (state_after_sweep (enq_change s e)) counted
    refl (λ number. enqueued_counts number s e))
    (λ c a _ admitted.
    one_more_counts history.endings (conversion_endings a ++ sweep_endings (convert_change s c a).resources) s (state_after_sweep (convert_change s c a))
    counted refl (λ number. converted_counts number s c a admitted fit apart))
    (λ withdrawals now.
    let after : State = state_after_withdrawals withdrawals s in
    same_counts history.endings (withdrawn_endings withdrawals s.resources ++ sweep_endings after.resources) s (state_after_sweep after) counted refl
    (λ number. all_withdrawn_count number withdrawals (withdrawn_apart s withdrawals now) after.processes s.resources fit))
    (λ is_one nodes _.
    same_counts history.endings (rundown_endings is_one s ++ sweep_endings (state_after_rundown is_one nodes s).resources) s
    (state_after_sweep (state_after_rundown is_one nodes s)) counted refl
    (λ number. all_withdrawn_count number (rundowns is_one s) (rundowns_apart is_one s) (processes_but is_one s.processes) s.resources fit)))

-- of two numbers whose sum is 1, one is 1 and the other 0
one_of_two : (a b : ℕ) → a + b ≡ 1 → ((a ≡ 1) × (b ≡ 0)) ⊎ ((a ≡ 0) × (b ≡ 1))
one_of_two zero b is = inr (refl, omega arith)
one_of_two (suc a) b is = inl (omega arith, omega arith)

-- after every run each accepted request is wanted once or has ended once
pub ends_once_always : (history : History) (last : State)
    → Run history last → EachRequestEndsOnce history.endings last
ends_once_always history last run =
    let counted : CountedOnce history.endings last = counted_always history last run in
    record {
      accepted = λ number some below. one_of_two (wanting number last) (times_ended number history.endings) (counted.accepted number some below);
      to_come = λ number past. (omega (arith, counted.to_come number past), omega (arith, counted.to_come number past));
    }
