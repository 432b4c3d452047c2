-- Only a request of a process raises the number of ASTs that it is due.
use Rattle.std.proofs.Common.{◌≡◌, ◌≤◌, ◌+◌, ◌++◌, ℕ, Bool, true, false, not, List, [], ◌∷◌, cond, length}
use Rattle.std.proofs.Common.{length-append, Option, None, Some, inl, inr, refl, sym, subst, ap, arith}
use Rattle.std.specs.Prelude.{◌==◌}
use Rattle.std.specs.List.{sum_by}
use Rattle.std.proofs.lemmas.Bool.{and_parts, eqb-true}
use Rattle.std.proofs.lemmas.List.Sums.{sum_by-append, sum_by-cons, sum_by_push}
use Rattle.vlm_words.specs.declared.asts.Ast.{Ast}
use Rattle.vlm_words.specs.declared.conditions.Cond.{Cond}
use Rattle.vlm_words.specs.declared.locks.Request.{Request}
use Rattle.vlm_words.specs.declared.locks.LockState.{LockState}
use Rattle.vlm_words.specs.declared.resources.ValueBlock.{ValueBlock}
use Rattle.vlm_words.specs.declared.steps.Answer.{Answer}
use Rattle.vlm_words.specs.declared.steps.Conversion.{Conversion}
use Rattle.vlm_words.specs.declared.steps.Dequeue.{Dequeue}
use Rattle.vlm_words.specs.declared.steps.NewRequest.{NewRequest}
use Rattle.vlm_words.specs.declared.steps.Step.TheVariants.{Declare, SetValue, Enq, Convert, Deq, Rundown, Leave, Search, Take}
use Rattle.vlm_words.specs.declared.steps.Step.{Step}
use Rattle.vlm_words.specs.State.{Node, Resource, State}
use Rattle.vlm_model.specs.Endings.{Ending}
use Rattle.vlm_model.specs.Effects.{with_value_block}
use Rattle.vlm_model.specs.Grants.{grant_endings, resource_after_grant}
use Rattle.vlm_words.specs.Rows.{granted_row, is_lock_of, rows_without, wanting_row}
use Rattle.vlm_model.specs.Sweeps.{sweep_asts}
use Rattle.vlm_model.specs.Declare.{declare_change}
use Rattle.vlm_model.specs.SetValue.{set_change}
use Rattle.vlm_model.specs.Take.{take_change}
use Rattle.vlm_model.specs.Trees.{enq_site}
use Rattle.vlm_model.specs.Enqueue.{enq_at_once, enq_change, enq_endings, enq_row}
use Rattle.vlm_model.specs.Convert.{ConversionAdmission, conversion_endings, convert_admission, convert_blocks}
use Rattle.vlm_model.specs.Convert.{convert_change, convert_lkid, convert_request, resource_after_conversion_of}
use Rattle.vlm_model.specs.Convert.{resource_without_granted}
use Rattle.vlm_model.specs.Dequeue.{deq_change, deq_endings, withdrawals_of}
use Rattle.vlm_model.specs.Rundown.{is_ended_by, nodes_after_departure, rundown_endings, rundowns, state_after_rundown}
use Rattle.vlm_words.specs.Steps.{is_of_node}
use Rattle.vlm_words.specs.Dues.{due, due_to, one_where, routines_named, routines_of}
use Rattle.vlm_model.specs.Taking.{AstsAfter, queued_to}
use Rattle.vlm_model.specs.Stepped.{IsChoice, Outcome, Stepped, conversion_change, end_of_processes, outcome_queued}
use Rattle.vlm_model.specs.Stepped.{refused_or, step_change, step_refusal, stepped, stepped_after_sweep}
use Rattle.vlm_model.specs.Runs.{History, Run, begin, next}
use Rattle.vlm_model.proofs.Admissions.{admitted_request}
use Rattle.vlm_model.proofs.Always.{admission_of}
use Rattle.vlm_model.proofs.IdsApart.{Apart, apart_always}
use Rattle.vlm_model.proofs.Each.{Found}
use Rattle.vlm_model.proofs.Sums.{sum_filter_but-le}
use Rattle.vlm_model.proofs.Weights.{weigh}
use Rattle.vlm_model.proofs.Together.{dequeues_apart, rundowns_apart}
use Rattle.vlm_model.specs.Accounting.{taken_in}
use Rattle.vlm_model.specs.Raising.{NoMoreIsQueuedThanNamed, OnlyOwnRequestsRaiseDues, routines_asked, routines_named_in}
use Rattle.vlm_model.proofs.Accounting.{TakesInOrder, taken_and_left}
use Rattle.vlm_model.proofs.ConvertsOnce.{ConvertsWithin, all_convert}
use Rattle.vlm_model.proofs.DueAstsFall.{calls, calls_many, entered_among_falls, grant_falls, many, many-append, own, swept_falls, withdrawals_fall}
use Rattle.vlm_model.specs.Search.{victim_withdrawals, search_change, search_endings}
use Rattle.vlm_model.proofs.Victims.{victims_apart}

-- ---- conversions

-- the routines of a request, where the process is its owner
abbrev asked : ℕ → ℕ → Request → ℕ
asked pid owner request = own pid owner (routines_of (Some request))

-- a row that wants a conversion is due what it was, and what the request names
wanting_due : (pid : ℕ) (request : Request) (row : LockState) → due_to pid (wanting_row row request) ≤ due_to pid row + asked pid row.pid request
wanting_due pid request row = of_owner (row.pid == pid)
  where
    of_owner : (b : Bool) → cond b (routines_of (Some request) + one_where row.armed) 0
        ≤ cond b (routines_of row.want + one_where row.armed) 0 + cond b (routines_of (Some request)) 0
    of_owner true = omega arith
    of_owner false = omega arith

-- on the resource of the lock
converted_row_falls : (pid : ℕ) (request : Request) (at_once : Bool) (caller lkid : ℕ) (block : ValueBlock) (r : Resource) (row : LockState)
    → Found (is_lock_of caller lkid) r.granted row
    → weigh (due_to pid) (resource_after_conversion_of request at_once lkid block r (Some row))
    + sum_by (calls pid) (cond at_once (grant_endings true (wanting_row row request)) [])
    ≤ weigh (due_to pid) r + asked pid caller request
converted_row_falls pid request at_once caller lkid block r row at =
    let parts = and_parts (row.lkid == lkid) (row.pid == caller) at.passes in
    let fewer : sum_by (due_to pid) (rows_without lkid r.granted) + due_to pid row ≤ sum_by (due_to pid) r.granted =
    sum_filter_but-le (due_to pid) (is_lock_of caller lkid) (λ each. not (each.lkid == lkid)) r.granted row (ap not parts.0) at in
    let owner : asked pid row.pid request ≡ asked pid caller request = ap (λ (n : ℕ). asked pid n request) (eqb-true row.pid caller parts.1) in
    let wanting : due_to pid (wanting_row row request) ≤ due_to pid row + asked pid row.pid request = wanting_due pid request row in
    elim at_once as (λ b.
    weigh (due_to pid)
    (cond b (with_value_block block (resource_after_grant (resource_without_granted lkid r) (wanting_row row request)))
    (record (resource_without_granted lkid r) { converting = r.converting ++ wanting_row row request ∷ [] }))
    + sum_by (calls pid) (cond b (grant_endings true (wanting_row row request)) []) ≤ weigh (due_to pid) r + asked pid caller request) [
      | true ↦ omega (
        arith,
        fewer,
        owner,
        wanting,
        grant_falls pid true (wanting_row row request),
        sum_by_push (due_to pid) (rows_without lkid r.granted) (granted_row (wanting_row row request)),
      )
      | false ↦ omega (arith, fewer, owner, wanting, sum_by_push (due_to pid) r.converting (wanting_row row request))
    ]

-- ---- the steps

-- what is due to each process, with what is queued to it, was due or is asked for
abbrev RisesAsAsked : State → Step → Stepped → Type 0
RisesAsAsked s step made =
    (pid : ℕ) → sum_by (weigh (due_to pid)) made.state.resources + many pid made.queued
    ≤ sum_by (weigh (due_to pid)) s.resources + routines_asked pid step made.answer

-- a sweep keeps that
swept_as_asked : (s : State) (step : Step) (change : Stepped) → RisesAsAsked s step change → RisesAsAsked s step (stepped_after_sweep change)
swept_as_asked s step change rises pid =
    omega (
      arith,
      rises pid,
      swept_falls pid change.state.processes change.state.resources,
      many-append pid change.queued (sweep_asts change.state.resources),
    )

-- a new request
request_as_asked : (s : State) (e : NewRequest) (choice : Option LockState) → RisesAsAsked s (Enq e) (step_change s (Enq e) choice)
unfolding enq_change
request_as_asked s e choice pid =
    omega (
      arith,
      calls_many pid (enq_endings s e),
      entered_among_falls pid s.next_serial (enq_site s e) (enq_row s e) (enq_at_once s e) s.resources,
      of_owner (e.pid == pid),
    )
  where
    of_owner : (b : Bool) → cond b (routines_named e.ast e.bast + one_where false) 0 ≤ cond b (routines_named e.ast e.bast) 0
    of_owner true = omega arith
    of_owner false = omega arith

-- a conversion
conversion_as_asked : (s : State) (c : Conversion) (a : ConversionAdmission) → Apart s → convert_admission s c ≡ Some a
    → RisesAsAsked s (Convert c) (conversion_change s c (Some a))
unfolding convert_change convert_admission
conversion_as_asked s c a apart admitted pid =
    let lkid : ℕ = convert_lkid s c in
    let block : ValueBlock = (convert_blocks s c a).value_block in
    let request : a.request ≡ convert_request s c = admitted_request (convert_request s c) c.pid lkid a s.resources admitted in
    let asks : List Ending → ℕ = λ _. asked pid c.pid (convert_request s c) in
    let falls : ConvertsWithin (due_to pid) (sum_by (calls pid)) asks a.request c.pid lkid block a s.resources =
    subst (λ (q : Request). ConvertsWithin (due_to pid) (sum_by (calls pid)) asks q c.pid lkid block a s.resources) (sym request)
    (all_convert (due_to pid) (sum_by (calls pid)) asks (convert_request s c) c.pid lkid block
    (λ at_once r row at. converted_row_falls pid (convert_request s c) at_once c.pid lkid block r row at) a s.resources (apart.one_row lkid) admitted) in
    omega (arith, falls, calls_many pid (conversion_endings a))

-- a dequeue
dequeue_as_asked : (s : State) (d : Dequeue) (choice : Option LockState) → RisesAsAsked s (Deq d) (step_change s (Deq d) choice)
unfolding deq_change
dequeue_as_asked s d choice pid =
    omega (
      arith,
      calls_many pid (deq_endings s d),
      withdrawals_fall pid (withdrawals_of s d) (dequeues_apart s d) s.resources,
    )

-- a search
search_as_asked : (s : State) (node : ℕ) (choice : Option LockState) → RisesAsAsked s (Search node) (step_change s (Search node) choice)
unfolding search_change
search_as_asked s node choice pid =
    omega (
      arith,
      calls_many pid (search_endings s choice),
      withdrawals_fall pid (victim_withdrawals choice) (victims_apart choice) s.resources,
    )

-- the end of processes
end_as_asked : (s : State) (step : Step) (is_one : ℕ → Bool) (nodes : List Node) → RisesAsAsked s step (end_of_processes is_one nodes s)
unfolding state_after_rundown
end_as_asked s step is_one nodes pid =
    omega (
      arith,
      calls_many pid (rundown_endings is_one s),
      withdrawals_fall pid (rundowns is_one s) (rundowns_apart is_one s) s.resources,
    )

-- a step that no check refuses
made_as_asked : (s : State) (step : Step) (choice : Option LockState) → Apart s → step_refusal s step ≡ None
    → RisesAsAsked s step (stepped_after_sweep (step_change s step choice))
unfolding declare_change set_change take_change
made_as_asked s (Declare d) choice apart passed = swept_as_asked s (Declare d) (step_change s (Declare d) choice) (λ pid. omega arith)
made_as_asked s (SetValue v) choice apart passed = swept_as_asked s (SetValue v) (step_change s (SetValue v) choice) (λ pid. omega arith)
made_as_asked s (Enq e) choice apart passed = swept_as_asked s (Enq e) (step_change s (Enq e) choice) (request_as_asked s e choice)
made_as_asked s (Convert c) choice apart passed =
    let admitted = admission_of s c passed in
    subst (λ (a : Option ConversionAdmission). RisesAsAsked s (Convert c) (stepped_after_sweep (conversion_change s c a))) (sym admitted.1)
    (swept_as_asked s (Convert c) (conversion_change s c (Some admitted.0)) (conversion_as_asked s c admitted.0 apart admitted.1))
made_as_asked s (Deq d) choice apart passed = swept_as_asked s (Deq d) (step_change s (Deq d) choice) (dequeue_as_asked s d choice)
made_as_asked s (Rundown process) choice apart passed =
    swept_as_asked s (Rundown process) (step_change s (Rundown process) choice) (end_as_asked s (Rundown process) (is_ended_by process) s.nodes)
made_as_asked s (Leave node) choice apart passed =
    swept_as_asked s (Leave node) (step_change s (Leave node) choice)
    (end_as_asked s (Leave node) (is_of_node node) (nodes_after_departure s.nodes node))
made_as_asked s (Search node) choice apart passed = swept_as_asked s (Search node) (step_change s (Search node) choice) (search_as_asked s node choice)
made_as_asked s (Take process) choice apart passed = swept_as_asked s (Take process) (step_change s (Take process) choice) (λ pid. omega arith)

step_as_asked : (s : State) (step : Step) (choice : Option LockState) → Apart s → (refusal : Option Cond) → step_refusal s step ≡ refusal
    → RisesAsAsked s step (refused_or refusal s (step_change s step choice))
step_as_asked s step choice apart None passed = made_as_asked s step choice apart passed
step_as_asked s step choice apart (Some refusal) is = λ pid. omega arith

-- ---- after every run

-- what is due, counted queue by queue
all_due : (pid : ℕ) (resources : List Resource) → due pid resources ≡ sum_by (weigh (due_to pid)) resources
all_due pid [] = refl
all_due pid (r ∷ rest) =
    omega (
      arith,
      all_due pid rest,
      sum_by-append (due_to pid) (r.granted ++ r.converting) r.waiting,
      sum_by-append (due_to pid) r.granted r.converting,
      sum_by-cons (λ (x : Resource). sum_by (due_to pid) (x.granted ++ x.converting ++ x.waiting)) r rest,
      sum_by-cons (weigh (due_to pid)) r rest,
    )

pub raising_always : TakesInOrder → (history : History) (old : State) → Run history old → (step : Step) (choice : Option LockState)
    → IsChoice old step choice → OnlyOwnRequestsRaiseDues old step choice
raising_always in_order history old run step choice chosen = record {
  room = λ pid before after was is.
      let made : Stepped = stepped old step choice in
      let order : AstsAfter step made.answer made.queued pid before.asts after.asts =
      (in_order history old run step choice chosen).asts pid before after was is in
      omega (
        arith,
        step_as_asked old step choice (apart_always history old run) (step_refusal old step) refl pid,
        all_due pid old.resources,
        all_due pid made.state.resources,
        ap (λ (asts : List Ast). length asts) order.behind,
        length-append order.left (queued_to pid made.queued),
        ap (λ (asts : List Ast). length asts) (taken_and_left step made.answer pid before.asts order.left order.taken),
        length-append (taken_in pid step made.answer) order.left,
      );
}

-- ---- over a run

-- how many routines are named, with one step more
named_more : (pid : ℕ) (steps : List Step) (answers : List Answer) (step : Step) (answer : Answer) → length answers ≡ length steps
    → routines_named_in pid (steps ++ step ∷ []) (answers ++ answer ∷ []) ≡ routines_named_in pid steps answers + routines_asked pid step answer
named_more pid [] [] step answer long = omega arith
named_more pid [] (a ∷ answers) step answer long = absurd (omega (arith, long))
named_more pid (x ∷ steps) [] step answer long = absurd (omega (arith, long))
named_more pid (x ∷ steps) (a ∷ answers) step answer long =
    omega (arith, named_more pid steps answers step answer (omega (arith, long)))

-- an outcome
outcome_as_asked : (history : History) (old new : State) (step : Step) (answer : Answer) → Run history old → (outcome : Outcome old step new answer) → (pid : ℕ)
    → sum_by (weigh (due_to pid)) new.resources + many pid (outcome_queued outcome)
    ≤ sum_by (weigh (due_to pid)) old.resources + routines_asked pid step answer
outcome_as_asked history old new step answer run (inl made) pid =
    omega (
      arith,
      step_as_asked old step made.choice (apart_always history old run) (step_refusal old step) refl pid,
      ap (λ (s : State). sum_by (weigh (due_to pid)) s.resources) made.state,
      ap (routines_asked pid step) made.answered,
    )
outcome_as_asked history old new step answer run (inr short) pid =
    omega (arith, ap (λ (s : State). sum_by (weigh (due_to pid)) s.resources) short.state)

-- what was queued, and what is due still, was named
record IsWithin (pid : ℕ) (history : History) (s : State) : Type 0 where
  long : length history.answers ≡ length history.steps
  bound : many pid history.queued + sum_by (weigh (due_to pid)) s.resources ≤ routines_named_in pid history.steps history.answers

within_always : (pid : ℕ) (history : History) (last : State) → Run history last → IsWithin pid history last
within_always pid _ _ begin = record { long = refl; bound = omega arith }
within_always pid _ last (next {history} {old} {new} {step} {answer} run outcome) =
    let before : IsWithin pid history old = within_always pid history old run in
    record {
      long = omega (arith, before.long, length-append history.answers (answer ∷ []), length-append history.steps (step ∷ []));
      bound = omega (
        arith,
        before.bound,
        outcome_as_asked history old new step answer run outcome pid,
        many-append pid history.queued (outcome_queued outcome),
        named_more pid history.steps history.answers step answer before.long,
      );
    }

pub no_more_always : (history : History) (last : State) → Run history last → NoMoreIsQueuedThanNamed history
no_more_always history last run pid = omega (arith, (within_always pid history last run).bound)
