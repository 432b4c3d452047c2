-- A grant arms its lock at most, and a warning disarms it.
use Rattle.std.proofs.Common.{◌≡◌, ◌≤◌, ◌+◌, ◌++◌, ◌&&◌, ℕ, Bool, true, false, not, List, [], ◌∷◌, map, cond, Option}
use Rattle.std.proofs.Common.{None, Some, inl, inr, refl, sym, subst, ap, arith}
use Rattle.std.specs.Prelude.{◌==◌}
use Rattle.std.specs.List.{flat_map, sum_by}
use Rattle.std.proofs.lemmas.Bool.{and_parts, cond_both}
use Rattle.std.proofs.lemmas.List.Filters.{sum_by-filter_both}
use Rattle.std.proofs.lemmas.List.Sums.{sum_by-append, sum_by-cons, sum_by_push}
use Rattle.vlm_words.specs.declared.asts.AstKind.TheVariants.{Blocking}
use Rattle.vlm_words.specs.declared.conditions.Cond.{Cond}
use Rattle.vlm_words.specs.declared.locks.Request.{Request}
use Rattle.vlm_words.specs.declared.locks.LockState.{LockState}
use Rattle.vlm_words.specs.declared.resources.Site.{Site}
use Rattle.vlm_words.specs.declared.resources.ValueBlock.{ValueBlock}
use Rattle.vlm_words.specs.declared.conditions.Cond.TheVariants.{Normal}
use Rattle.vlm_words.specs.declared.steps.Answer.TheVariants.{Plain, Victim}
use Rattle.vlm_words.specs.declared.steps.Answer.{Answer}
use Rattle.vlm_words.specs.declared.steps.Conversion.{Conversion}
use Rattle.vlm_words.specs.declared.steps.NewRequest.{NewRequest}
use Rattle.vlm_words.specs.declared.steps.Step.TheVariants.{Declare, SetValue, Enq, Convert, Deq, Rundown, Leave, Search, Take}
use Rattle.vlm_words.specs.declared.steps.Step.{Step}
use Rattle.vlm_words.specs.State.{Node, Process, Resource, State}
use Rattle.vlm_model.specs.Endings.{Ending}
use Rattle.vlm_model.specs.Endings.How.{by_grant}
use Rattle.vlm_model.specs.Asts.{Queued, asts_for, blocking_asts, completions_of, is_to_warn, resource_after_warning, row_after_warning, row_warnings, warnings}
use Rattle.vlm_model.specs.Effects.{with_value_block}
use Rattle.vlm_model.specs.Grants.{Service, grant_act, grant_endings, no_service, resource_after_grant, service}
use Rattle.vlm_model.specs.Grants.{service_after_grant, service_of_conversions, service_of_new_requests}
use Rattle.vlm_model.specs.Grants.{service_of_waiting, wanted_fits}
use Rattle.vlm_words.specs.Rows.{granted_row, is_arming, is_empty, is_lock_of, rows_of, rows_without, wanting_row}
use Rattle.vlm_model.specs.Sweeps.{blocks_after_service, resource_after_service, resources_after_sweep, service_asts, sweep_asts, sweep_endings}
use Rattle.vlm_words.specs.Resources.{is_at, new_resource}
use Rattle.vlm_model.specs.Declare.{declare_change}
use Rattle.vlm_model.specs.SetValue.{set_change}
use Rattle.vlm_model.specs.Take.{take_change}
use Rattle.vlm_model.specs.Trees.{enq_site}
use Rattle.vlm_model.specs.Enqueue.{enq_at_once, enq_change, enq_endings, enq_row, resource_after_entry, resources_after_entry}
use Rattle.vlm_model.specs.Convert.{ConversionAdmission, conversion_endings, convert_admission, convert_blocks}
use Rattle.vlm_model.specs.Convert.{convert_change, convert_lkid, convert_request, resource_after_conversion_of}
use Rattle.vlm_model.specs.Convert.{resource_without_granted}
use Rattle.vlm_model.specs.Withdrawals.{Withdrawal, is_held_by_writer, resource_after_cancel, resource_after_going}
use Rattle.vlm_model.specs.Withdrawals.{resource_after_withdrawals, resource_after_writer, resource_without}
use Rattle.vlm_model.specs.Withdrawals.{row_after_cancel, value_block_after_writer, withdrawn_endings}
use Rattle.vlm_model.specs.Dequeue.{deq_change, withdrawals_of}
use Rattle.vlm_model.specs.Rundown.{is_ended_by, nodes_after_departure, rundown_endings, rundowns, state_after_rundown}
use Rattle.vlm_words.specs.Steps.{is_of_node}
use Rattle.vlm_model.specs.Stepped.{Outcome, Stepped, conversion_change, end_of_processes, outcome_endings}
use Rattle.vlm_model.specs.Stepped.{outcome_queued, refused_or, step_change, step_refusal, stepped_after_sweep}
use Rattle.vlm_model.specs.Runs.{History, Run, begin, next}
use Rattle.vlm_model.proofs.Admissions.{admitted_request}
use Rattle.vlm_model.proofs.Always.{admission_of, withdrawal_of_all}
use Rattle.vlm_model.proofs.IdsApart.{Apart, apart_always}
use Rattle.vlm_model.proofs.Each.{Found}
use Rattle.vlm_model.proofs.Sums.{sum_changed-le, sum_filter-le, sum_filter_but-le, sum_of_one, sum_of_zeros, sum_same}
use Rattle.vlm_model.proofs.Weights.{dropped_weighs, weigh}
use Rattle.vlm_model.proofs.Withdrawing.{kept_withdrawn}
use Rattle.vlm_model.specs.WarnedOnce.{EachGrantIsWarnedAtMostOnce, is_armed_lock, is_grant_to_warn, is_warning_of, tells_warning}
use Rattle.vlm_model.proofs.ConvertsOnce.{ConvertsWithin, all_convert}
use Rattle.vlm_model.proofs.Completing.{each_completion}
use Rattle.vlm_model.proofs.DueAstsFall.{is_armed}
use Rattle.vlm_model.specs.Search.{victim_withdrawals, search_change, victim_lkid}

-- 1 for a warning of the lock
abbrev warned : ℕ → Queued → ℕ
warned lkid q = cond (is_warning_of lkid q) 1 0

-- 1 for a row of the lock that is armed
abbrev armed : ℕ → LockState → ℕ
armed lkid row = cond (is_armed_lock lkid row) 1 0

-- 1 for a grant to the lock that may be warned of
abbrev given : ℕ → Ending → ℕ
given lkid ending = cond (is_grant_to_warn lkid ending) 1 0

-- ---- completions are no warnings

all_complete : (lkid : ℕ) (endings : List Ending) → sum_by (warned lkid) (completions_of endings) ≡ 0
all_complete lkid endings =
    sum_of_zeros (warned lkid) (completions_of endings)
    (each_completion (λ q. warned lkid q ≡ 0) (λ q is. ap {B = ℕ} (λ kind. cond (tells_warning kind && (q.ast.lkid == lkid)) 1 0) is) endings)

-- ---- grants

-- what is never so counts nothing
never : (b : Bool) → ◌≡◌ {A = ℕ} (cond (b && false) 1 0) 0
never true = refl
never false = refl

-- a grant arms its row at most, and only where it may be warned of
grant_arms : (lkid : ℕ) (at_once : Bool) (row : LockState) → armed lkid (granted_row row) ≡ sum_by (given lkid) (grant_endings at_once row)
grant_arms lkid at_once row = of_want row.want
  where
    of_want : (want : Option Request)
        → armed lkid (record row { held = want; want = None; armed = is_arming want })
        ≡ sum_by (given lkid) (grant_endings at_once (record row { want = want }))
    of_want None = never (row.lkid == lkid)
    of_want (Some request) =
        sym (sum_of_one (given lkid)
        (record {
          lkid = row.lkid;
          pid = row.pid;
          request = request;
          how =
              by_grant (grant_act row.held (Some request));
          at_once = at_once;
        }))

-- what is armed after a service was armed, or is given by it
abbrev ServiceArms : ℕ → Service → Resource → Type 0
ServiceArms lkid more r = weigh (armed lkid) more.resource ≤ weigh (armed lkid) r + sum_by (given lkid) more.endings

serve_converting_arms : (lkid : ℕ) (r : Resource) (rows : List LockState) → r.converting ≡ rows → ServiceArms lkid (service_of_conversions r rows) r
serve_converting_arms lkid r [] is = omega arith
serve_converting_arms lkid r (row ∷ rows) is =
    let granted : Resource = record (resource_after_grant r row) { converting = rows } in
    let more : Service = service_of_conversions granted rows in
    let after : weigh (armed lkid) more.resource ≤ weigh (armed lkid) granted + sum_by (given lkid) more.endings =
    serve_converting_arms lkid granted rows refl in
    cond_both (wanted_fits row.want r.granted rows) (service_after_grant row more) (no_service r) (λ served. ServiceArms lkid served r)
    (λ _. omega (
      arith,
      after,
      grant_arms lkid false row,
      sum_by-append (given lkid) (grant_endings false row) more.endings,
      sum_by_push (armed lkid) r.granted (granted_row row),
      sum_by-cons (armed lkid) row rows,
      ap (sum_by (armed lkid)) is,
    ))
    (λ _. omega arith)

serve_waiting_arms : (lkid : ℕ) (r : Resource) (rows : List LockState) → r.waiting ≡ rows → ServiceArms lkid (service_of_waiting r rows) r
serve_waiting_arms lkid r [] is = omega arith
serve_waiting_arms lkid r (row ∷ rows) is =
    let granted : Resource = record (resource_after_grant r row) { waiting = rows } in
    let more : Service = service_of_waiting granted rows in
    let after : weigh (armed lkid) more.resource ≤ weigh (armed lkid) granted + sum_by (given lkid) more.endings = serve_waiting_arms lkid granted rows refl in
    cond_both (wanted_fits row.want r.granted r.converting) (service_after_grant row more) (no_service r) (λ served. ServiceArms lkid served r)
    (λ _. omega (
      arith,
      after,
      grant_arms lkid false row,
      sum_by-append (given lkid) (grant_endings false row) more.endings,
      sum_by_push (armed lkid) r.granted (granted_row row),
      sum_by-cons (armed lkid) row rows,
      ap (sum_by (armed lkid)) is,
    ))
    (λ _. omega arith)

serve_new_requests_arms : (lkid : ℕ) (r : Resource) → ServiceArms lkid (service_of_new_requests r) r
serve_new_requests_arms lkid r =
    cond_both (is_empty r.converting) (service_of_waiting r r.waiting) (no_service r) (λ served. ServiceArms lkid served r)
    (λ _. serve_waiting_arms lkid r r.waiting refl) (λ _. omega arith)

served_arms : (lkid : ℕ) (r : Resource) → ServiceArms lkid (service r) r
unfolding service
served_arms lkid r =
    let first : Service = service_of_conversions r r.converting in
    let arms : weigh (armed lkid) first.resource ≤ weigh (armed lkid) r + sum_by (given lkid) first.endings = serve_converting_arms lkid r r.converting refl in
    let later : Service = service_of_new_requests first.resource in
    let then_arms : weigh (armed lkid) later.resource ≤ weigh (armed lkid) first.resource + sum_by
    (given lkid) later.endings = serve_new_requests_arms lkid first.resource in
    omega (arith, arms, then_arms, sum_by-append (given lkid) first.endings later.endings)

-- ---- warnings

-- what is held is warned of once, and only its lock is told of
held_warns : (lkid : ℕ) (held : Option Request) (own pid : ℕ) → sum_by (warned lkid) (blocking_asts held own pid) ≤ cond (own == lkid) 1 0
held_warns lkid None own pid = omega arith
held_warns lkid (Some held) own pid = of_routine held.blocking
  where
    of_routine : (routine : Option ℕ) → sum_by (warned lkid) (asts_for Blocking routine held own pid) ≤ cond (own == lkid) 1 0
    of_routine None = omega arith
    of_routine (Some routine) =
        omega (arith, sum_of_one (warned lkid) (record { pid = pid; ast = record { kind = Blocking; routine = routine; param = held.param; lkid = own } }))

-- a row that is warned was armed, and is so no more
row_disarms : (lkid : ℕ) (converting waiting : List LockState) (row : LockState)
    → armed lkid (row_after_warning converting waiting row) + sum_by (warned lkid) (row_warnings converting waiting row) ≤ armed lkid row
unfolding row_after_warning row_warnings
row_disarms lkid converting waiting row = of_test (is_to_warn converting waiting row) refl
  where
    of_lock : (b : Bool) → cond (b && false) 1 0 + cond b 1 0 ≤ cond (b && true) 1 0
    of_lock true = omega arith
    of_lock false = omega arith

    of_test : (b : Bool) → is_to_warn converting waiting row ≡ b
        → armed lkid (cond b (record row { armed = false }) row) + sum_by (warned lkid) (cond b (blocking_asts row.held row.lkid row.pid) []) ≤ armed lkid row
    of_test false _ = omega arith
    of_test true to_warn =
        omega (
          arith,
          held_warns lkid row.held row.lkid row.pid,
          of_lock (row.lkid == lkid),
          ap (λ (b : Bool). armed lkid (record row { armed = b })) (is_armed converting waiting row to_warn),
        )

rows_disarm : (lkid : ℕ) (converting waiting rows : List LockState)
    → sum_by (armed lkid) (map (row_after_warning converting waiting) rows) + sum_by (warned lkid) (flat_map (row_warnings converting waiting) rows)
    ≤ sum_by (armed lkid) rows
rows_disarm lkid converting waiting [] = omega arith
rows_disarm lkid converting waiting (row ∷ rows) =
    omega (
      arith,
      row_disarms lkid converting waiting row,
      rows_disarm lkid converting waiting rows,
      sum_by-cons (armed lkid) row rows,
      sum_by-cons (armed lkid) (row_after_warning converting waiting row) (map (row_after_warning converting waiting) rows),
      sum_by-append (warned lkid) (row_warnings converting waiting row) (flat_map (row_warnings converting waiting) rows),
    )

warned_disarms : (lkid : ℕ) (block : ValueBlock) (r : Resource)
    → weigh (armed lkid) (resource_after_warning (with_value_block block r)) + sum_by (warned lkid) (warnings r) ≤ weigh (armed lkid) r
unfolding resource_after_warning warnings
warned_disarms lkid block r = omega (arith, rows_disarm lkid r.converting r.waiting r.granted)

-- ---- sweeps

swept_within : (lkid : ℕ) (processes : List Process) (resources : List Resource)
    → sum_by (weigh (armed lkid)) (resources_after_sweep processes resources) + sum_by (warned lkid) (sweep_asts resources)
    ≤ sum_by (weigh (armed lkid)) resources + sum_by (given lkid) (sweep_endings resources)
unfolding resources_after_sweep sweep_asts service_asts sweep_endings
swept_within lkid processes [] = omega arith
swept_within lkid processes (r ∷ rest) =
    let after : List Process = (blocks_after_service processes r).processes in
    let behind : sum_by (weigh (armed lkid)) (resources_after_sweep after rest) + sum_by (warned lkid) (sweep_asts rest)
    ≤ sum_by (weigh (armed lkid)) rest + sum_by (given lkid) (sweep_endings rest) = swept_within lkid after rest in
    omega (
      arith,
      behind,
      served_arms lkid r,
      warned_disarms lkid (blocks_after_service processes r).value_block (service r).resource,
      dropped_weighs (armed lkid) (resource_after_service processes r) (resources_after_sweep after rest),
      all_complete lkid (service r).endings,
      sum_by-append (warned lkid) (completions_of (service r).endings) (warnings (service r).resource),
      sum_by-append (warned lkid) (service_asts r) (sweep_asts rest),
      sum_by-append (given lkid) (service r).endings (sweep_endings rest),
      sum_by-cons (weigh (armed lkid)) r rest,
    )

-- ---- new requests

entered_arms : (lkid : ℕ) (row : LockState) (at_once : Bool) (r : Resource) → row.armed ≡ false
    → weigh (armed lkid) (resource_after_entry row at_once r) ≤ weigh (armed lkid) r + sum_by (given lkid) (cond at_once (grant_endings true row) [])
unfolding resource_after_entry
entered_arms lkid row at_once r unarmed =
    elim at_once as (λ b.
    weigh (armed lkid) (cond b (resource_after_grant r row) (record r { waiting = r.waiting ++ row ∷ [] }))
    ≤ weigh (armed lkid) r + sum_by (given lkid) (cond b (grant_endings true row) [])) [
      | true ↦ omega (arith, grant_arms lkid true row, sum_by_push (armed lkid) r.granted (granted_row row))
      | false ↦ omega (
        arith,
        sum_by_push (armed lkid) r.waiting row,
        ap (λ (b : Bool). armed lkid (record row { armed = b })) unarmed,
        never (row.lkid == lkid),
      )
    ]

entered_among_arms : (lkid serial : ℕ) (site : Site) (row : LockState) (at_once : Bool) (resources : List Resource) → row.armed ≡ false
    → sum_by (weigh (armed lkid)) (resources_after_entry serial site row at_once resources)
    ≤ sum_by (weigh (armed lkid)) resources + sum_by (given lkid) (cond at_once (grant_endings true row) [])
entered_among_arms lkid serial site row at_once [] unarmed =
    omega (
      arith,
      entered_arms lkid row at_once (new_resource serial site) unarmed,
      sum_of_one (weigh (armed lkid)) (resource_after_entry row at_once (new_resource serial site)),
    )
entered_among_arms lkid serial site row at_once (r ∷ rest) unarmed =
    let behind : sum_by (weigh (armed lkid)) (resources_after_entry serial site row at_once rest)
    ≤ sum_by (weigh (armed lkid)) rest + sum_by (given lkid) (cond at_once (grant_endings true row) []) =
    entered_among_arms lkid serial site row at_once rest unarmed in
    elim (is_at site.key r) as (λ b.
    sum_by (weigh (armed lkid)) (cond b (resource_after_entry row at_once r ∷ rest) (r ∷ resources_after_entry serial site row at_once rest))
    ≤ sum_by (weigh (armed lkid)) (r ∷ rest) + sum_by (given lkid) (cond at_once (grant_endings true row) [])) [
      | true ↦ omega (
        arith,
        entered_arms lkid row at_once r unarmed,
        sum_by-cons (weigh (armed lkid)) (resource_after_entry row at_once r) rest,
        sum_by-cons (weigh (armed lkid)) r rest,
      )
      | false ↦ omega (
        arith,
        behind,
        sum_by-cons (weigh (armed lkid)) r (resources_after_entry serial site row at_once rest),
        sum_by-cons (weigh (armed lkid)) r rest,
      )
    ]

-- ---- conversions

-- on the resource of the lock
converted_row_arms : (lkid : ℕ) (request : Request) (at_once : Bool) (caller named : ℕ) (block : ValueBlock) (r : Resource) (row : LockState)
    → Found (is_lock_of caller named) r.granted row
    → weigh (armed lkid) (resource_after_conversion_of request at_once named block r (Some row))
    ≤ weigh (armed lkid) r + sum_by (given lkid) (cond at_once (grant_endings true (wanting_row row request)) [])
converted_row_arms lkid request at_once caller named block r row at =
    let fewer : sum_by (armed lkid) (rows_without named r.granted) + armed lkid row ≤ sum_by (armed lkid) r.granted =
    sum_filter_but-le (armed lkid) (is_lock_of caller named) (λ each. not (each.lkid == named)) r.granted row
    (ap not (and_parts (row.lkid == named) (row.pid == caller) at.passes).0) at in
    let wanting : armed lkid (wanting_row row request) ≡ armed lkid row = refl in
    elim at_once as (λ b.
    weigh (armed lkid)
    (cond b (with_value_block block (resource_after_grant (resource_without_granted named r) (wanting_row row request)))
    (record (resource_without_granted named r) { converting = r.converting ++ wanting_row row request ∷ [] }))
    ≤ weigh (armed lkid) r + sum_by (given lkid) (cond b (grant_endings true (wanting_row row request)) [])) [
      | true ↦ omega (
        arith,
        fewer,
        grant_arms lkid true (wanting_row row request),
        sum_by_push (armed lkid) (rows_without named r.granted) (granted_row (wanting_row row request)),
      )
      | false ↦ omega (arith, fewer, wanting, sum_by_push (armed lkid) r.converting (wanting_row row request))
    ]

-- ---- withdrawals arm nothing

left_armed : (lkid : ℕ) (w : Withdrawal) (r : Resource) → weigh (armed lkid) (resource_after_writer w r) ≡ weigh (armed lkid) r
left_armed lkid w r =
    cond_both (is_held_by_writer w.lkid r) (record r { value_block = value_block_after_writer w r.value_block }) r
    (λ left. weigh (armed lkid) left ≡ weigh (armed lkid) r) (λ _. refl) (λ _. refl)

without_armed : (lkid named : ℕ) (r : Resource) → weigh (armed lkid) (resource_without named r) ≤ weigh (armed lkid) r
unfolding resource_without
without_armed lkid named r =
    omega (
      arith,
      sum_filter-le (armed lkid) (λ row. not (row.lkid == named)) r.granted,
      sum_filter-le (armed lkid) (λ row. not (row.lkid == named)) r.converting,
      sum_filter-le (armed lkid) (λ row. not (row.lkid == named)) r.waiting,
    )

cancelled_armed : (lkid named : ℕ) (r : Resource) → weigh (armed lkid) (resource_after_cancel named r) ≤ weigh (armed lkid) r
unfolding resource_after_cancel
cancelled_armed lkid named r =
    omega (
      arith,
      sum_by-append (armed lkid) r.granted (map row_after_cancel (rows_of named r.converting)),
      sum_same (armed lkid) row_after_cancel (λ row. refl) (rows_of named r.converting),
      sum_by-filter_both (λ row. row.lkid == named) (λ row. not (row.lkid == named)) (λ _. refl) (armed lkid) r.converting,
      sum_filter-le (armed lkid) (λ row. not (row.lkid == named)) r.waiting,
    )

gone_armed : (lkid : ℕ) (w : Withdrawal) (r : Resource) → weigh (armed lkid) (resource_after_going w r) ≤ weigh (armed lkid) r
gone_armed lkid w r =
    cond_both w.stays (resource_after_cancel w.lkid r) (resource_without w.lkid r) (λ left. weigh (armed lkid) left ≤ weigh (armed lkid) r)
    (λ _. cancelled_armed lkid w.lkid r) (λ _. without_armed lkid w.lkid r)

withdrawn_armed : (lkid : ℕ) (withdrawals : List Withdrawal) (r : Resource)
    → weigh (armed lkid) (resource_after_withdrawals withdrawals r) ≤ weigh (armed lkid) r
withdrawn_armed lkid withdrawals r =
    kept_withdrawn (λ left. weigh (armed lkid) left ≤ weigh (armed lkid) r)
    (λ w left fewer. omega (arith, left_armed lkid w left, fewer))
    (λ w left fewer. omega (arith, gone_armed lkid w left, fewer)) withdrawals r (omega arith)

-- ---- the steps

-- what is armed of the lock, with the warnings of it that are queued, was armed or is given
abbrev IsWithinGiven : ℕ → State → Stepped → Type 0
IsWithinGiven lkid s made =
    sum_by (weigh (armed lkid)) made.state.resources + sum_by (warned lkid) made.queued
    ≤ sum_by (weigh (armed lkid)) s.resources + sum_by (given lkid) made.endings

-- a sweep keeps that
swept_given : (lkid : ℕ) (s : State) (change : Stepped) → IsWithinGiven lkid s change → IsWithinGiven lkid s (stepped_after_sweep change)
swept_given lkid s change within =
    omega (
      arith,
      within,
      swept_within lkid change.state.processes change.state.resources,
      sum_by-append (warned lkid) change.queued (sweep_asts change.state.resources),
      sum_by-append (given lkid) change.endings (sweep_endings change.state.resources),
    )

-- a new request
request_given : (lkid : ℕ) (s : State) (e : NewRequest) (choice : Option LockState) → IsWithinGiven lkid s (step_change s (Enq e) choice)
unfolding enq_change
request_given lkid s e choice =
    omega (
      arith,
      all_complete lkid (enq_endings s e),
      entered_among_arms lkid s.next_serial (enq_site s e) (enq_row s e) (enq_at_once s e) s.resources refl,
    )

-- a conversion
conversion_given : (lkid : ℕ) (s : State) (c : Conversion) (a : ConversionAdmission) → Apart s → convert_admission s c ≡ Some a
    → IsWithinGiven lkid s (conversion_change s c (Some a))
unfolding convert_change convert_admission
conversion_given lkid s c a apart admitted =
    let named : ℕ = convert_lkid s c in
    let block : ValueBlock = (convert_blocks s c a).value_block in
    let request : a.request ≡ convert_request s c = admitted_request (convert_request s c) c.pid named a s.resources admitted in
    let none : List Ending → ℕ = λ _. 0 in
    let arms : ConvertsWithin (armed lkid) none (sum_by (given lkid)) a.request c.pid named block a s.resources =
    subst (λ (q : Request). ConvertsWithin (armed lkid) none (sum_by (given lkid)) q c.pid named block a s.resources) (sym request)
    (all_convert (armed lkid) none (sum_by (given lkid)) (convert_request s c) c.pid named block
    (λ at_once r row at. omega
    (arith, converted_row_arms lkid (convert_request s c) at_once c.pid named block r row at)) a s.resources
    (apart.one_row named) admitted) in
    omega (arith, arms, all_complete lkid (conversion_endings a))

-- locks that are withdrawn
withdrawn_given : (lkid : ℕ) (s : State) (answer : Answer) (withdrawals : List Withdrawal) → IsWithinGiven lkid s (withdrawal_of_all answer withdrawals s)
withdrawn_given lkid s answer withdrawals =
    omega (
      arith,
      all_complete lkid (withdrawn_endings withdrawals s.resources),
      sum_changed-le (weigh (armed lkid)) (resource_after_withdrawals withdrawals) (withdrawn_armed lkid withdrawals) s.resources,
    )

-- the end of processes
end_given : (lkid : ℕ) (s : State) (is_one : ℕ → Bool) (nodes : List Node) → IsWithinGiven lkid s (end_of_processes is_one nodes s)
unfolding state_after_rundown
end_given lkid s is_one nodes =
    omega (
      arith,
      all_complete lkid (rundown_endings is_one s),
      sum_changed-le (weigh (armed lkid)) (resource_after_withdrawals (rundowns is_one s)) (withdrawn_armed lkid (rundowns is_one s)) s.resources,
    )

-- a step that no check refuses
made_given : (lkid : ℕ) (s : State) (step : Step) (choice : Option LockState) → Apart s → step_refusal s step ≡ None
    → IsWithinGiven lkid s (stepped_after_sweep (step_change s step choice))
unfolding declare_change set_change take_change deq_change search_change
made_given lkid s (Declare d) choice apart passed = swept_given lkid s (step_change s (Declare d) choice) (omega arith)
made_given lkid s (SetValue v) choice apart passed = swept_given lkid s (step_change s (SetValue v) choice) (omega arith)
made_given lkid s (Enq e) choice apart passed = swept_given lkid s (step_change s (Enq e) choice) (request_given lkid s e choice)
made_given lkid s (Convert c) choice apart passed =
    let admitted = admission_of s c passed in
    subst (λ (a : Option ConversionAdmission). IsWithinGiven lkid s (stepped_after_sweep (conversion_change s c a))) (sym admitted.1)
    (swept_given lkid s (conversion_change s c (Some admitted.0)) (conversion_given lkid s c admitted.0 apart admitted.1))
made_given lkid s (Deq d) choice apart passed = swept_given lkid s (step_change s (Deq d) choice) (withdrawn_given lkid s (Plain Normal) (withdrawals_of s d))
made_given lkid s (Rundown process) choice apart passed =
    swept_given lkid s (step_change s (Rundown process) choice) (end_given lkid s (is_ended_by process) s.nodes)
made_given lkid s (Leave node) choice apart passed =
    swept_given lkid s (step_change s (Leave node) choice) (end_given lkid s (is_of_node node) (nodes_after_departure s.nodes node))
made_given lkid s (Search node) choice apart passed =
    swept_given lkid s (step_change s (Search node) choice) (withdrawn_given lkid s (Victim (victim_lkid choice)) (victim_withdrawals choice))
made_given lkid s (Take process) choice apart passed = swept_given lkid s (step_change s (Take process) choice) (omega arith)

step_given : (lkid : ℕ) (s : State) (step : Step) (choice : Option LockState) → Apart s → (refusal : Option Cond) → step_refusal s step ≡ refusal
    → IsWithinGiven lkid s (refused_or refusal s (step_change s step choice))
step_given lkid s step choice apart None passed = made_given lkid s step choice apart passed
step_given lkid s step choice apart (Some refusal) is = omega arith

-- ---- over a run

outcome_given : (history : History) (old new : State) (step : Step) (answer : Answer) → Run history old → (outcome : Outcome old step new answer) → (lkid : ℕ)
    → sum_by (weigh (armed lkid)) new.resources + sum_by (warned lkid) (outcome_queued outcome)
    ≤ sum_by (weigh (armed lkid)) old.resources + sum_by (given lkid) (outcome_endings outcome)
outcome_given history old new step answer run (inl made) lkid =
    omega (
      arith,
      step_given lkid old step made.choice (apart_always history old run) (step_refusal old step) refl,
      ap (λ (s : State). sum_by (weigh (armed lkid)) s.resources) made.state,
    )
outcome_given history old new step answer run (inr short) lkid =
    omega (arith, ap (λ (s : State). sum_by (weigh (armed lkid)) s.resources) short.state)

pub warned_once_always : (history : History) (last : State) → Run history last → EachGrantIsWarnedAtMostOnce history last
warned_once_always _ _ begin lkid = omega arith
warned_once_always _ last (next {history} {old} {new} {step} {answer} run outcome) lkid =
    let before : sum_by (warned lkid) history.queued + sum_by (weigh (armed lkid)) old.resources ≤ sum_by (given lkid) history.endings =
    warned_once_always history old run lkid in
    omega (
      arith,
      before,
      outcome_given history old new step answer run outcome lkid,
      sum_by-append (warned lkid) history.queued (outcome_queued outcome),
      sum_by-append (given lkid) history.endings (outcome_endings outcome),
    )
