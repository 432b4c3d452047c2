-- How many locks there are after a step: a new request adds one, and nothing else adds any.
use Rattle.std.proofs.Common.{◌≡◌, ◌≤◌, ◌+◌, ◌⊎◌, ◌∙◌, ℕ, Bool, true, false, not, List, [], ◌∷◌, ◌++◌, map, cond, Option, None, Some, refl, ap, inl, inr, arith}
use Rattle.std.specs.Prelude.{◌==◌}
use Rattle.std.specs.List.{find, sum_by}
use Rattle.std.proofs.lemmas.Bool.{cond_both}
use Rattle.std.proofs.lemmas.List.Filters.{sum_by-filter_both}
use Rattle.std.proofs.lemmas.List.Sums.{sum_by-append, sum_by-cons, sum_by_push}
use Rattle.vlm_words.specs.declared.conditions.Cond.{Cond}
use Rattle.vlm_words.specs.declared.locks.Request.{Request}
use Rattle.vlm_words.specs.declared.locks.LockState.{LockState}
use Rattle.vlm_words.specs.declared.resources.ValueBlock.{ValueBlock}
use Rattle.vlm_words.specs.declared.steps.Conversion.{Conversion}
use Rattle.vlm_words.specs.declared.steps.NewRequest.{NewRequest}
use Rattle.vlm_words.specs.declared.steps.Step.TheVariants.{Declare, SetValue, Enq, Convert, Deq, Rundown, Leave, Search, Take}
use Rattle.vlm_words.specs.declared.steps.Step.{Step}
use Rattle.vlm_words.specs.State.{Node, Process, Resource, State}
use Rattle.vlm_model.specs.Endings.{Ending}
use Rattle.vlm_model.specs.Effects.{with_value_block}
use Rattle.vlm_words.specs.Rows.{granted_row, is_lock_of, rows_of, rows_without, wanting_row}
use Rattle.vlm_model.specs.Grants.{resource_after_grant}
use Rattle.vlm_model.specs.Sweeps.{resources_after_sweep}
use Rattle.vlm_model.specs.Trees.{enq_site}
use Rattle.vlm_model.specs.Declare.{declare_change}
use Rattle.vlm_model.specs.SetValue.{set_change}
use Rattle.vlm_model.specs.Take.{take_change}
use Rattle.vlm_model.specs.Enqueue.{enq_at_once, enq_change, enq_endings, enq_resource, enq_row}
use Rattle.vlm_model.specs.Convert.{ConversionAdmission, convert_admission, convert_blocks, convert_change}
use Rattle.vlm_model.specs.Convert.{convert_lkid, resource_after_conversion, resource_after_conversion_of}
use Rattle.vlm_model.specs.Convert.{resource_without_granted}
use Rattle.vlm_model.specs.Dequeue.{deq_change, withdrawals_of}
use Rattle.vlm_model.specs.Rundown.{is_ended_by, nodes_after_departure, rundowns, state_after_rundown}
use Rattle.vlm_words.specs.Steps.{is_of_node}
use Rattle.vlm_model.specs.Withdrawals.{Withdrawal, is_held_by_writer, resource_after_cancel, resource_after_going}
use Rattle.vlm_model.specs.Withdrawals.{resource_after_withdrawals, resource_without, row_after_cancel}
use Rattle.vlm_model.specs.Withdrawals.{value_block_after_writer}
use Rattle.vlm_model.specs.Stepped.{Stepped, conversion_change, refused_or, step_change, step_refusal, stepped}
use Rattle.vlm_model.proofs.Each.{found_at}
use Rattle.vlm_model.proofs.Sums.{sum_changed-le, sum_of_zero, sum_same}
use Rattle.vlm_model.proofs.Weights.{entered_among_weighs, weigh}
use Rattle.vlm_model.proofs.LastingSums.{IsByName, converted_named, grant_keeps, swept_named, withdrawn_named}
use Rattle.vlm_model.proofs.IdsApart.{Apart, standing, stands}
use Rattle.vlm_model.proofs.Counts.{found_stands}
use Rattle.vlm_model.specs.Search.{victim_withdrawals, search_change}

-- 1 for each row
abbrev pub one_each : LockState → ℕ
one_each row = 1

-- how many locks stand on the resources
abbrev pub total : List Resource → ℕ
total resources = sum_by (weigh one_each) resources

-- every row counts the same, whatever it holds and wants
one_named : IsByName one_each
one_named row held want armed = refl

-- a sweep keeps how many locks there are
pub swept_total : (processes : List Process) (resources : List Resource) → total (resources_after_sweep processes resources) ≡ total resources
swept_total processes resources = swept_named one_each one_named processes resources

-- a new request adds one
pub entered_total : (s : State) (e : NewRequest) → total (enq_change s e).resources ≡ total s.resources + 1
unfolding enq_change enq_resource
entered_total s e =
    omega (
      arith,
      entered_among_weighs one_each (λ ending. 0) (grant_keeps one_each one_named) s.next_serial (enq_site s e) (enq_row s e) (enq_at_once s e) s.resources,
      sum_of_zero {X = Ending} (enq_endings s e),
    )

-- ---- the rows of one lock

-- the rows of a lock, counted as such
ones_of : (lkid : ℕ) (rows : List LockState) → sum_by one_each (rows_of lkid rows) ≡ sum_by (stands lkid) rows
ones_of lkid [] = refl
ones_of lkid (row ∷ rows) =
    elim (row.lkid == lkid) as (λ b. (row.lkid == lkid) ≡ b
    → sum_by one_each (cond b (row ∷ rows_of lkid rows) (rows_of lkid rows)) ≡ sum_by (stands lkid) (row ∷ rows)) [
      | true ↦ λ is.
          let here : stands lkid row ≡ 1 = ap (λ (b : Bool). cond b 1 0) is in
          omega (arith, here, ones_of lkid rows, sum_by-cons one_each row (rows_of lkid rows), sum_by-cons (stands lkid) row rows)
      | false ↦ λ other.
          let none : stands lkid row ≡ 0 = ap (λ (b : Bool). cond b 1 0) other in
          omega (arith, none, ones_of lkid rows, sum_by-cons (stands lkid) row rows)
    ] refl

-- with those of all other locks they are all rows
ones_without : (lkid : ℕ) (rows : List LockState) → sum_by one_each (rows_without lkid rows) + sum_by (stands lkid) rows ≡ sum_by one_each rows
ones_without lkid rows =
    omega (
      arith,
      ones_of lkid rows,
      sum_by-filter_both (λ row. row.lkid == lkid) (λ row. not (row.lkid == lkid)) (λ _. refl) one_each rows,
    )

-- ---- a conversion

-- a conversion keeps how many rows a resource has, where its lock has no second one, whichever row is found
converted_row_total : (request : Request) (at_once : Bool) (pid lkid : ℕ) (block : ValueBlock) (r : Resource) (found : Option LockState)
    → find (is_lock_of pid lkid) r.granted ≡ found → weigh (stands lkid) r ≤ 1
    → weigh one_each (resource_after_conversion_of request at_once lkid block r found) ≡ weigh one_each r
converted_row_total request at_once pid lkid block r None is single = refl
converted_row_total request at_once pid lkid block r (Some row) is single =
    let there : 1 ≤ sum_by (stands lkid) r.granted = found_stands pid lkid r.granted row (found_at (is_lock_of pid lkid) r.granted row is) in
    let others : sum_by one_each (rows_without lkid r.granted) + sum_by (stands lkid) r.granted ≡ sum_by one_each r.granted = ones_without lkid r.granted in
    elim at_once as (λ b.
    weigh one_each (cond b (with_value_block block (resource_after_grant (resource_without_granted lkid r) (wanting_row row request)))
    (record (resource_without_granted lkid r) { converting = r.converting ++ wanting_row row request ∷ [] })) ≡ weigh one_each r) [
      | true ↦ omega (arith, single, there, others, sum_by_push one_each (rows_without lkid r.granted) (granted_row (wanting_row row request)))
      | false ↦ omega (arith, single, there, others, sum_by_push one_each r.converting (wanting_row row request))
    ]

-- the same over all resources
all_converted_total : (request : Request) (at_once : Bool) (pid lkid : ℕ) (block : ValueBlock) (resources : List Resource) → standing lkid resources ≤ 1
    → total (map (resource_after_conversion request at_once pid lkid block) resources) ≡ total resources
unfolding resource_after_conversion
all_converted_total request at_once pid lkid block [] single = refl
all_converted_total request at_once pid lkid block (r ∷ rest) single =
    let both : standing lkid (r ∷ rest) ≡ weigh (stands lkid) r + standing lkid rest = sum_by-cons (weigh (stands lkid)) r rest in
    omega (
      arith,
      converted_row_total request at_once pid lkid block r (find (is_lock_of pid lkid) r.granted) refl (omega (arith, both, single)),
      all_converted_total request at_once pid lkid block rest (omega (arith, both, single)),
      sum_by-cons (weigh one_each) r rest,
      sum_by-cons (weigh one_each) (resource_after_conversion request at_once pid lkid block r)
          (map (resource_after_conversion request at_once pid lkid block) rest),
    )

-- a conversion keeps how many locks there are
pub converted_total : (s : State) (c : Conversion) (a : ConversionAdmission) → Apart s → total (convert_change s c a).resources ≡ total s.resources
unfolding convert_change
converted_total s c a apart =
    all_converted_total a.request a.at_once c.pid (convert_lkid s c) (convert_blocks s c a).value_block s.resources (apart.one_row (convert_lkid s c))

-- ---- withdrawals

-- withdrawals add no lock
pub withdrawn_total : (withdrawals : List Withdrawal) (resources : List Resource)
    → total (map (resource_after_withdrawals withdrawals) resources) ≤ total resources
withdrawn_total withdrawals resources =
    sum_changed-le (weigh one_each) (resource_after_withdrawals withdrawals) (withdrawn_named one_each one_named withdrawals) resources

-- nor does the end of processes
pub ended_total : (s : State) (is_one : ℕ → Bool) (nodes : List Node) → total (state_after_rundown is_one nodes s).resources ≤ total s.resources
unfolding state_after_rundown
ended_total s is_one nodes = withdrawn_total (rundowns is_one s) s.resources

-- how many rows of the lock wait for a first grant
abbrev pub waiting_rows : ℕ → Resource → ℕ
waiting_rows lkid r = sum_by (stands lkid) r.waiting

-- how many rows a withdrawal takes from the resource: all of its lock, or, if a converting lock stays, those that wait
abbrev taken_rows : Withdrawal → Resource → ℕ
taken_rows w r = cond w.stays (waiting_rows w.lkid r) (weigh (stands w.lkid) r)

-- a lock that goes leaves all others
without_total : (lkid : ℕ) (r : Resource) → weigh one_each (resource_without lkid r) + weigh (stands lkid) r ≡ weigh one_each r
unfolding resource_without
without_total lkid r = omega (arith, ones_without lkid r.granted, ones_without lkid r.converting, ones_without lkid r.waiting)

-- a cancel leaves all but a lock that waits
cancelled_total : (lkid : ℕ) (r : Resource) → weigh one_each (resource_after_cancel lkid r) + waiting_rows lkid r ≡ weigh one_each r
unfolding resource_after_cancel
cancelled_total lkid r =
    omega (
      arith,
      sum_by-append one_each r.granted (map row_after_cancel (rows_of lkid r.converting)),
      sum_same one_each row_after_cancel (λ row. refl) (rows_of lkid r.converting),
      ones_of lkid r.converting,
      ones_without lkid r.converting,
      ones_without lkid r.waiting,
    )

-- what a lock that goes or stays takes with it
taken_total : (w : Withdrawal) (r : Resource) → weigh one_each (resource_after_going w r) + taken_rows w r ≡ weigh one_each r
taken_total w r =
    elim w.stays as (λ b. weigh one_each (cond b (resource_after_cancel w.lkid r) (resource_without w.lkid r))
    + cond b (waiting_rows w.lkid r) (weigh (stands w.lkid) r) ≡ weigh one_each r) [
      | true ↦ cancelled_total w.lkid r
      | false ↦ without_total w.lkid r
    ]

-- the same, whatever it leaves in the value block
one_withdrawn_total : (w : Withdrawal) (r : Resource)
    → weigh one_each (resource_after_withdrawals (w ∷ []) r) + taken_rows w r ≡ weigh one_each r
one_withdrawn_total w r =
    let written : Resource = record r { value_block = value_block_after_writer w r.value_block } in
    cond_both (is_held_by_writer w.lkid r) written r
    (λ left. weigh one_each (resource_after_going w left) + taken_rows w r ≡ weigh one_each r)
    (λ _. taken_total w written) (λ _. taken_total w r)

-- and the same over all resources
all_taken_total : (w : Withdrawal) (resources : List Resource)
    → total (map (resource_after_withdrawals (w ∷ [])) resources) + sum_by (taken_rows w) resources ≡ total resources
all_taken_total w [] = refl
all_taken_total w (r ∷ rest) =
    omega (
      arith,
      one_withdrawn_total w r,
      all_taken_total w rest,
      sum_by-cons (weigh one_each) r rest,
      sum_by-cons (weigh one_each) (resource_after_withdrawals (w ∷ []) r) (map (resource_after_withdrawals (w ∷ [])) rest),
      sum_by-cons (taken_rows w) r rest,
    )

-- the lock goes: it is not to stay, or it waits and holds nothing at which it could stay
abbrev pub Goes : Withdrawal → List Resource → Type 0
Goes w resources = (w.stays ≡ false) ⊎ (sum_by (waiting_rows w.lkid) resources ≡ 1)

-- the withdrawal of a lock that goes takes one away
pub gone_total : (w : Withdrawal) (resources : List Resource) → standing w.lkid resources ≡ 1 → Goes w resources
    → total (map (resource_after_withdrawals (w ∷ [])) resources) + 1 ≡ total resources
gone_total w resources there goes = omega (arith, all_taken_total w resources, of_test w.stays refl goes)
  where
    taken : Bool → ℕ
    taken b = sum_by (λ r. cond b (waiting_rows w.lkid r) (weigh (stands w.lkid) r)) resources

    of_test : (b : Bool) → w.stays ≡ b → Goes w resources → taken w.stays ≡ 1
    of_test false is _ = ap taken is ∙ there
    of_test true is (inl goes_so) = cc
    of_test true is (inr waits) = ap taken is ∙ waits

-- ---- each step

-- how many locks a step of this kind may add
abbrev pub most_added : Step → ℕ
most_added (Declare d) = 0
most_added (SetValue v) = 0
most_added (Enq e) = 1
most_added (Convert c) = 0
most_added (Deq d) = 0
most_added (Rundown pid) = 0
most_added (Leave node) = 0
most_added (Search node) = 0
most_added (Take pid) = 0

-- a conversion adds no lock, whether it is admitted or not
conversion_total : (s : State) (c : Conversion) (admission : Option ConversionAdmission)
    → total (conversion_change s c admission).state.resources ≤ total s.resources
unfolding convert_change
conversion_total s c None = omega arith
conversion_total s c (Some a) =
    sum_changed-le (weigh one_each) (resource_after_conversion a.request a.at_once c.pid (convert_lkid s c) (convert_blocks s c a).value_block)
    (converted_named one_each one_named a.request a.at_once c.pid (convert_lkid s c) (convert_blocks s c a).value_block) s.resources

-- the change of a step adds no more
change_total : (s : State) (step : Step) (choice : Option LockState) → total (step_change s step choice).state.resources ≤ total s.resources + most_added step
unfolding declare_change set_change take_change deq_change search_change
change_total s (Declare d) choice = omega arith
change_total s (SetValue v) choice = omega arith
change_total s (Enq e) choice = omega (arith, entered_total s e)
change_total s (Convert c) choice = omega (arith, conversion_total s c (convert_admission s c))
change_total s (Deq d) choice = omega (arith, withdrawn_total (withdrawals_of s d) s.resources)
change_total s (Rundown pid) choice = omega (arith, ended_total s (is_ended_by pid) s.nodes)
change_total s (Leave node) choice = omega (arith, ended_total s (is_of_node node) (nodes_after_departure s.nodes node))
change_total s (Search node) choice = omega (arith, withdrawn_total (victim_withdrawals choice) s.resources)
change_total s (Take pid) choice = omega arith

-- a step adds no more locks than its kind may, whether it is refused or made, and whatever it chooses
pub step_total : (s : State) (step : Step) (choice : Option LockState) → total (stepped s step choice).state.resources ≤ total s.resources + most_added step
step_total s step choice = of_refusal (step_refusal s step)
  where
    change : Stepped
    change = step_change s step choice

    of_refusal : (refusal : Option Cond) → total (refused_or refusal s change).state.resources ≤ total s.resources + most_added step
    of_refusal None = omega (arith, swept_total change.state.processes change.state.resources, change_total s step choice)
    of_refusal (Some refusal) = omega arith
