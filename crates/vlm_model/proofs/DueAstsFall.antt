-- Queueing an AST lowers the number of ASTs that its process is due.
use Rattle.std.proofs.Common.{◌≡◌, ◌≤◌, ◌+◌, ◌++◌, ℕ, Bool, true, false, not, List, [], ◌∷◌, map, cond, length}
use Rattle.std.proofs.Common.{length-append, Option, None, Some, refl, ap, ◌∙◌, arith}
use Rattle.std.specs.Prelude.{◌==◌, is_some}
use Rattle.std.specs.List.{flat_map, sum_by}
use Rattle.std.proofs.lemmas.Bool.{and_parts, cond_both}
use Rattle.std.proofs.lemmas.List.Filters.{sum_by-filter_both}
use Rattle.std.proofs.lemmas.List.Sums.{sum_by-append, sum_by-cons, sum_by_push}
use Rattle.vlm_words.specs.declared.asts.Ast.{Ast}
use Rattle.vlm_words.specs.declared.asts.AstKind.{AstKind}
use Rattle.vlm_words.specs.declared.asts.AstKind.TheVariants.{Completion, Blocking}
use Rattle.vlm_words.specs.declared.locks.Request.{Request}
use Rattle.vlm_words.specs.declared.locks.LockState.{LockState}
use Rattle.vlm_words.specs.declared.resources.Site.{Site}
use Rattle.vlm_words.specs.declared.resources.ValueBlock.{ValueBlock}
use Rattle.vlm_words.specs.State.{Process, Resource}
use Rattle.vlm_model.specs.Endings.{Ending, How, is_told, row_endings, wanted_endings}
use Rattle.vlm_model.specs.Endings.How.{by_grant}
use Rattle.vlm_model.specs.Asts.{Queued, asts_for, blocking_asts, completion_asts, completions, completions_of}
use Rattle.vlm_model.specs.Asts.{blocks_a_request, is_synchronous, is_to_warn, resource_after_warning}
use Rattle.vlm_model.specs.Asts.{row_after_warning, row_warnings, warnings}
use Rattle.vlm_model.specs.Effects.{with_value_block}
use Rattle.vlm_model.specs.Grants.{Service, grant_act, grant_endings, no_service, resource_after_grant, service}
use Rattle.vlm_model.specs.Grants.{service_after_grant, service_of_conversions, service_of_new_requests}
use Rattle.vlm_model.specs.Grants.{service_of_waiting, wanted_fits}
use Rattle.vlm_words.specs.Rows.{granted_row, is_arming, is_empty, rows_of, rows_without}
use Rattle.vlm_model.specs.Sweeps.{blocks_after_service, resource_after_service, resources_after_sweep, service_asts, sweep_asts}
use Rattle.vlm_words.specs.Resources.{is_at, new_resource}
use Rattle.vlm_model.specs.Enqueue.{resource_after_entry, resources_after_entry}
use Rattle.vlm_model.specs.Withdrawals.{Withdrawal, is_held_by_writer, queue_endings, resource_after_cancel}
use Rattle.vlm_model.specs.Withdrawals.{resource_after_going, resource_after_withdrawals, resource_without}
use Rattle.vlm_model.specs.Withdrawals.{row_after_cancel, value_block_after_writer, withdrawal_endings}
use Rattle.vlm_model.specs.Withdrawals.{withdrawn_endings}
use Rattle.vlm_model.proofs.Together.{OfOneEach, all_one_after_another, others_end_same}
use Rattle.std.proofs.lemmas.List.{map-id}
use Rattle.vlm_words.specs.Dues.{due_to, one_where, routines_of}
use Rattle.vlm_model.specs.Taking.{queued_to}
use Rattle.vlm_model.proofs.AstQueueing.{queued_to-append}
use Rattle.vlm_model.proofs.Sums.{sum_filter-le, sum_of_one}
use Rattle.vlm_model.proofs.Weights.{dropped_weighs, weigh}

-- how many of what was queued are of the process
abbrev pub many : ℕ → List Queued → ℕ
many pid queued = length (queued_to pid queued)

pub many-append : (pid : ℕ) (first second : List Queued) → many pid (first ++ second) ≡ many pid first + many pid second
many-append pid first second =
    ap (λ (asts : List Ast). length asts) (queued_to-append pid first second) ∙ length-append (queued_to pid first) (queued_to pid second)

-- how many completions of the process an ending has
abbrev pub calls : ℕ → Ending → ℕ
calls pid ending = many pid (completions ending)

pub calls_many : (pid : ℕ) (endings : List Ending) → sum_by (calls pid) endings ≡ many pid (completions_of endings)
calls_many pid [] = refl
calls_many pid (ending ∷ endings) =
    omega (
      arith,
      calls_many pid endings,
      sum_by-cons (calls pid) ending endings,
      many-append pid (completions ending) (completions_of endings),
    )

-- ---- grants

-- so many, where the process is the owner
abbrev pub own : ℕ → ℕ → ℕ → ℕ
own pid owner n = cond (owner == pid) n 0

-- a routine is called once for its owner, if it is named
named_calls : (pid owner lkid : ℕ) (kind : AstKind) (routine : Option ℕ) (request : Request)
    → many pid (asts_for kind routine request lkid owner) ≤ own pid owner (one_where (is_some routine))
named_calls pid owner lkid kind None request = omega arith
named_calls pid owner lkid kind (Some routine) request =
    of_test (record { kind = kind; routine = routine; param = request.param; lkid = lkid }) (owner == pid)
  where
    of_test : (ast : Ast) (b : Bool) → length (cond b (ast ∷ []) []) ≤ cond b 1 0
    of_test ast true = omega arith
    of_test ast false = omega arith

ending_calls : (pid : ℕ) (ending : Ending) → calls pid ending ≤ own pid ending.pid (one_where (is_some ending.request.completion))
unfolding completion_asts
ending_calls pid ending =
    let told : List Queued =
    cond (is_synchronous ending.at_once ending.request) [] (asts_for Completion ending.request.completion ending.request ending.lkid ending.pid) in
    cond_both (is_told ending.how) told [] (λ asts. many pid asts ≤ own pid ending.pid (one_where (is_some ending.request.completion)))
    (λ _. cond_both (is_synchronous ending.at_once ending.request) [] (asts_for Completion ending.request.completion ending.request ending.lkid ending.pid)
    (λ asts. many pid asts ≤ own pid ending.pid (one_where (is_some ending.request.completion))) (λ _. omega arith)
    (λ _. named_calls pid ending.pid ending.lkid Completion ending.request.completion ending.request)) (λ _. omega arith)

-- 1 where a completion routine is wanted
abbrev completion_wanted : Option Request → ℕ
completion_wanted None = 0
completion_wanted (Some request) = one_where (is_some request.completion)

wanted_calls : (pid : ℕ) (how : How) (at_once : Bool) (lkid owner : ℕ) (want : Option Request)
    → sum_by (calls pid) (wanted_endings how at_once lkid owner want) ≤ own pid owner (completion_wanted want)
wanted_calls pid how at_once lkid owner None = omega arith
wanted_calls pid how at_once lkid owner (Some request) =
    let ending : Ending = record { lkid = lkid; pid = owner; request = request; how = how; at_once = at_once } in
    omega (arith, sum_of_one (calls pid) ending, ending_calls pid ending)

row_calls : (pid : ℕ) (how : How) (at_once : Bool) (row : LockState)
    → sum_by (calls pid) (row_endings how at_once row) ≤ own pid row.pid (completion_wanted row.want)
row_calls pid how at_once row = wanted_calls pid how at_once row.lkid row.pid row.want

-- what a granted row is due, with the call that its grant brings, was due to it
pub grant_falls : (pid : ℕ) (at_once : Bool) (row : LockState) → due_to pid (granted_row row) + sum_by (calls pid) (grant_endings at_once row) ≤ due_to pid row
grant_falls pid at_once row =
    omega (arith, row_calls pid (by_grant (grant_act row.held row.want)) at_once row, of_want (row.pid == pid) row.want)
  where
    of_want : (b : Bool) (want : Option Request)
        → cond b (routines_of None + one_where (is_arming want)) 0 + cond b (completion_wanted want) 0 ≤ cond b (routines_of want + one_where row.armed) 0
    of_want true None = omega arith
    of_want true (Some request) = omega arith
    of_want false want = omega arith

-- what is due after a service, with the calls that it brings, was due
abbrev ServiceFalls : ℕ → Service → Resource → Type 0
ServiceFalls pid more r = weigh (due_to pid) more.resource + sum_by (calls pid) more.endings ≤ weigh (due_to pid) r

serve_converting_falls : (pid : ℕ) (r : Resource) (rows : List LockState) → r.converting ≡ rows → ServiceFalls pid (service_of_conversions r rows) r
serve_converting_falls pid r [] is = omega arith
serve_converting_falls pid r (row ∷ rows) is =
    let granted : Resource = record (resource_after_grant r row) { converting = rows } in
    let more : Service = service_of_conversions granted rows in
    let after : weigh (due_to pid) more.resource + sum_by (calls pid) more.endings ≤ weigh (due_to pid) granted =
    serve_converting_falls pid granted rows refl in
    cond_both (wanted_fits row.want r.granted rows) (service_after_grant row more) (no_service r) (λ given. ServiceFalls pid given r)
    (λ _. omega (
      arith,
      after,
      grant_falls pid false row,
      sum_by-append (calls pid) (grant_endings false row) more.endings,
      sum_by_push (due_to pid) r.granted (granted_row row),
      sum_by-cons (due_to pid) row rows,
      ap (sum_by (due_to pid)) is,
    ))
    (λ _. omega arith)

serve_waiting_falls : (pid : ℕ) (r : Resource) (rows : List LockState) → r.waiting ≡ rows → ServiceFalls pid (service_of_waiting r rows) r
serve_waiting_falls pid r [] is = omega arith
serve_waiting_falls pid r (row ∷ rows) is =
    let granted : Resource = record (resource_after_grant r row) { waiting = rows } in
    let more : Service = service_of_waiting granted rows in
    let after : weigh (due_to pid) more.resource + sum_by (calls pid) more.endings ≤ weigh (due_to pid) granted = serve_waiting_falls pid granted rows refl in
    cond_both (wanted_fits row.want r.granted r.converting) (service_after_grant row more) (no_service r) (λ given. ServiceFalls pid given r)
    (λ _. omega (
      arith,
      after,
      grant_falls pid false row,
      sum_by-append (calls pid) (grant_endings false row) more.endings,
      sum_by_push (due_to pid) r.granted (granted_row row),
      sum_by-cons (due_to pid) row rows,
      ap (sum_by (due_to pid)) is,
    ))
    (λ _. omega arith)

serve_new_requests_fall : (pid : ℕ) (r : Resource) → ServiceFalls pid (service_of_new_requests r) r
serve_new_requests_fall pid r =
    cond_both (is_empty r.converting) (service_of_waiting r r.waiting) (no_service r) (λ given. ServiceFalls pid given r)
    (λ _. serve_waiting_falls pid r r.waiting refl) (λ _. omega arith)

served_falls : (pid : ℕ) (r : Resource) → ServiceFalls pid (service r) r
unfolding service
served_falls pid r =
    let first : Service = service_of_conversions r r.converting in
    let fall : weigh (due_to pid) first.resource + sum_by (calls pid) first.endings ≤ weigh (due_to pid) r = serve_converting_falls pid r r.converting refl in
    let later : Service = service_of_new_requests first.resource in
    let then_fall : weigh (due_to pid) later.resource + sum_by (calls pid) later.endings ≤ weigh
    (due_to pid) first.resource = serve_new_requests_fall pid first.resource in
    omega (arith, fall, then_fall, sum_by-append (calls pid) first.endings later.endings)

-- ---- warnings

-- who is to be warned is armed
pub is_armed : (converting waiting : List LockState) (row : LockState) → is_to_warn converting waiting row ≡ true → row.armed ≡ true
unfolding is_to_warn
is_armed converting waiting row warned = (and_parts row.armed (blocks_a_request row.held converting waiting) warned).0

held_warns : (pid : ℕ) (held : Option Request) (lkid owner : ℕ) → many pid (blocking_asts held lkid owner) ≤ own pid owner 1
held_warns pid None lkid owner = omega arith
held_warns pid (Some held) lkid owner =
    omega (arith, named_calls pid owner lkid Blocking held.blocking held, of_tests (owner == pid) (is_some held.blocking))
  where
    of_tests : (a b : Bool) → cond a (one_where b) 0 ≤ cond a 1 0
    of_tests true true = omega arith
    of_tests true false = omega arith
    of_tests false b = omega arith

row_falls : (pid : ℕ) (converting waiting : List LockState) (row : LockState)
    → due_to pid (row_after_warning converting waiting row) + many pid (row_warnings converting waiting row) ≤ due_to pid row
unfolding row_after_warning row_warnings
row_falls pid converting waiting row = of_test (is_to_warn converting waiting row) refl
  where
    of_owner : (b : Bool) → cond b (routines_of row.want + 0) 0 + cond b 1 0 ≤ cond b (routines_of row.want + 1) 0
    of_owner true = omega arith
    of_owner false = omega arith

    of_test : (b : Bool) → is_to_warn converting waiting row ≡ b
        → due_to pid (cond b (record row { armed = false }) row) + many pid (cond b (blocking_asts row.held row.lkid row.pid) []) ≤ due_to pid row
    of_test false _ = omega arith
    of_test true warned =
        omega (
          arith,
          held_warns pid row.held row.lkid row.pid,
          of_owner (row.pid == pid),
          ap (λ (armed : Bool). cond (row.pid == pid) (routines_of row.want + one_where armed) 0) (is_armed converting waiting row warned),
        )

rows_fall : (pid : ℕ) (converting waiting rows : List LockState)
    → sum_by (due_to pid) (map (row_after_warning converting waiting) rows) + many pid
    (flat_map (row_warnings converting waiting) rows) ≤ sum_by (due_to pid) rows
rows_fall pid converting waiting [] = omega arith
rows_fall pid converting waiting (row ∷ rows) =
    omega (
      arith,
      row_falls pid converting waiting row,
      rows_fall pid converting waiting rows,
      sum_by-cons (due_to pid) row rows,
      sum_by-cons (due_to pid) (row_after_warning converting waiting row) (map (row_after_warning converting waiting) rows),
      many-append pid (row_warnings converting waiting row) (flat_map (row_warnings converting waiting) rows),
    )

warned_falls : (pid : ℕ) (block : ValueBlock) (r : Resource)
    → weigh (due_to pid) (resource_after_warning (with_value_block block r)) + many pid (warnings r) ≤ weigh (due_to pid) r
unfolding resource_after_warning warnings
warned_falls pid block r = omega (arith, rows_fall pid r.converting r.waiting r.granted)

-- ---- sweeps

pub swept_falls : (pid : ℕ) (processes : List Process) (resources : List Resource)
    → sum_by (weigh (due_to pid)) (resources_after_sweep processes resources) + many pid (sweep_asts resources) ≤ sum_by (weigh (due_to pid)) resources
unfolding resources_after_sweep sweep_asts service_asts
swept_falls pid processes [] = omega arith
swept_falls pid processes (r ∷ rest) =
    let after : List Process = (blocks_after_service processes r).processes in
    let behind : sum_by (weigh (due_to pid)) (resources_after_sweep after rest) + many pid (sweep_asts rest) ≤ sum_by (weigh (due_to pid)) rest =
    swept_falls pid after rest in
    omega (
      arith,
      behind,
      served_falls pid r,
      warned_falls pid (blocks_after_service processes r).value_block (service r).resource,
      dropped_weighs (due_to pid) (resource_after_service processes r) (resources_after_sweep after rest),
      calls_many pid (service r).endings,
      many-append pid (completions_of (service r).endings) (warnings (service r).resource),
      many-append pid (service_asts r) (sweep_asts rest),
      sum_by-cons (weigh (due_to pid)) r rest,
    )

-- ---- new requests

entered_falls : (pid : ℕ) (row : LockState) (at_once : Bool) (r : Resource)
    → weigh (due_to pid) (resource_after_entry row at_once r) + sum_by (calls pid)
    (cond at_once (grant_endings true row) []) ≤ weigh (due_to pid) r + due_to pid row
unfolding resource_after_entry
entered_falls pid row at_once r =
    elim at_once as (λ b.
    weigh (due_to pid) (cond b (resource_after_grant r row) (record r { waiting = r.waiting ++ row ∷ [] })) + sum_by
    (calls pid) (cond b (grant_endings true row) [])
    ≤ weigh (due_to pid) r + due_to pid row) [
      | true ↦ omega (arith, grant_falls pid true row, sum_by_push (due_to pid) r.granted (granted_row row))
      | false ↦ omega (arith, sum_by_push (due_to pid) r.waiting row)
    ]

pub entered_among_falls : (pid serial : ℕ) (site : Site) (row : LockState) (at_once : Bool) (resources : List Resource)
    → sum_by (weigh (due_to pid)) (resources_after_entry serial site row at_once resources)
    + sum_by (calls pid) (cond at_once (grant_endings true row) [])
    ≤ sum_by (weigh (due_to pid)) resources + due_to pid row
entered_among_falls pid serial site row at_once [] =
    omega (
      arith,
      entered_falls pid row at_once (new_resource serial site),
      sum_of_one (weigh (due_to pid)) (resource_after_entry row at_once (new_resource serial site)),
    )
entered_among_falls pid serial site row at_once (r ∷ rest) =
    let behind : sum_by (weigh (due_to pid)) (resources_after_entry serial site row at_once rest)
    + sum_by (calls pid) (cond at_once (grant_endings true row) [])
    ≤ sum_by (weigh (due_to pid)) rest + due_to pid row = entered_among_falls pid serial site row at_once rest in
    elim (is_at site.key r) as (λ b.
    sum_by (weigh (due_to pid)) (cond b (resource_after_entry row at_once r ∷ rest) (r ∷ resources_after_entry serial site row at_once rest))
    + sum_by (calls pid) (cond at_once (grant_endings true row) [])
    ≤ sum_by (weigh (due_to pid)) (r ∷ rest) + due_to pid row) [
      | true ↦ omega (
        arith,
        entered_falls pid row at_once r,
        sum_by-cons (weigh (due_to pid)) (resource_after_entry row at_once r) rest,
        sum_by-cons (weigh (due_to pid)) r rest,
      )
      | false ↦ omega (
        arith,
        behind,
        sum_by-cons (weigh (due_to pid)) r (resources_after_entry serial site row at_once rest),
        sum_by-cons (weigh (due_to pid)) r rest,
      )
    ]

-- ---- withdrawals

-- the requests of some rows end, and what the rows are due then
rows_end : (pid : ℕ) (how : How) (rows : List LockState)
    → sum_by (due_to pid) (map row_after_cancel rows) + sum_by (calls pid) (flat_map (row_endings how false) rows) ≤ sum_by (due_to pid) rows
rows_end pid how [] = omega arith
rows_end pid how (row ∷ rows) =
    omega (
      arith,
      rows_end pid how rows,
      row_calls pid how false row,
      of_want (row.pid == pid) row.want,
      sum_by-cons (due_to pid) row rows,
      sum_by-cons (due_to pid) (row_after_cancel row) (map row_after_cancel rows),
      sum_by-append (calls pid) (row_endings how false row) (flat_map (row_endings how false) rows),
    )
  where
    of_want : (b : Bool) (want : Option Request)
        → cond b (routines_of None + one_where row.armed) 0 + cond b (completion_wanted want) 0 ≤ cond b (routines_of want + one_where row.armed) 0
    of_want true None = omega arith
    of_want true (Some request) = omega arith
    of_want false want = omega arith

queue_ends : (pid : ℕ) (how : How) (lkid : ℕ) (rows : List LockState)
    → sum_by (due_to pid) (rows_without lkid rows) + sum_by (due_to pid)
    (map row_after_cancel (rows_of lkid rows)) + sum_by (calls pid) (queue_endings how lkid rows)
    ≤ sum_by (due_to pid) rows
queue_ends pid how lkid rows =
    omega (
      arith,
      rows_end pid how (rows_of lkid rows),
      sum_by-filter_both (λ row. row.lkid == lkid) (λ row. not (row.lkid == lkid)) (λ _. refl) (due_to pid) rows,
    )

without_falls : (pid : ℕ) (w : Withdrawal) (r : Resource)
    → weigh (due_to pid) (resource_without w.lkid r) + sum_by (calls pid) (withdrawal_endings w r) ≤ weigh (due_to pid) r
unfolding resource_without
without_falls pid w r =
    omega (
      arith,
      sum_filter-le (due_to pid) (λ row. not (row.lkid == w.lkid)) r.granted,
      queue_ends pid w.converting w.lkid r.converting,
      queue_ends pid w.waiting w.lkid r.waiting,
      sum_by-append (calls pid) (queue_endings w.converting w.lkid r.converting) (queue_endings w.waiting w.lkid r.waiting),
    )

staying_falls : (pid : ℕ) (w : Withdrawal) (r : Resource)
    → weigh (due_to pid) (resource_after_cancel w.lkid r) + sum_by (calls pid) (withdrawal_endings w r) ≤ weigh (due_to pid) r
unfolding resource_after_cancel
staying_falls pid w r =
    omega (
      arith,
      sum_by-append (due_to pid) r.granted (map row_after_cancel (rows_of w.lkid r.converting)),
      queue_ends pid w.converting w.lkid r.converting,
      queue_ends pid w.waiting w.lkid r.waiting,
      sum_by-append (calls pid) (queue_endings w.converting w.lkid r.converting) (queue_endings w.waiting w.lkid r.waiting),
    )

gone_falls : (pid : ℕ) (w : Withdrawal) (r : Resource)
    → weigh (due_to pid) (resource_after_going w r) + sum_by (calls pid) (withdrawal_endings w r) ≤ weigh (due_to pid) r
gone_falls pid w r =
    cond_both w.stays (resource_after_cancel w.lkid r) (resource_without w.lkid r)
    (λ left. weigh (due_to pid) left + sum_by (calls pid) (withdrawal_endings w r) ≤ weigh (due_to pid) r)
    (λ _. staying_falls pid w r) (λ _. without_falls pid w r)

withdrawn_falls : (pid : ℕ) (w : Withdrawal) (r : Resource)
    → weigh (due_to pid) (resource_after_withdrawals (w ∷ []) r) + sum_by (calls pid) (withdrawal_endings w r) ≤ weigh (due_to pid) r
withdrawn_falls pid w r =
    let written : Resource = record r { value_block = value_block_after_writer w r.value_block } in
    cond_both (is_held_by_writer w.lkid r) written r
    (λ left. weigh (due_to pid) (resource_after_going w left) + sum_by (calls pid) (withdrawal_endings w r) ≤ weigh (due_to pid) r)
    (λ _. gone_falls pid w written) (λ _. gone_falls pid w r)

all_withdrawn_fall : (pid : ℕ) (w : Withdrawal) (resources : List Resource)
    → sum_by (weigh (due_to pid)) (map (resource_after_withdrawals (w ∷ [])) resources) + sum_by (calls pid) (flat_map (withdrawal_endings w) resources)
    ≤ sum_by (weigh (due_to pid)) resources
all_withdrawn_fall pid w [] = omega arith
all_withdrawn_fall pid w (r ∷ rest) =
    omega (
      arith,
      withdrawn_falls pid w r,
      all_withdrawn_fall pid w rest,
      sum_by-cons (weigh (due_to pid)) r rest,
      sum_by-cons (weigh (due_to pid)) (resource_after_withdrawals (w ∷ []) r) (map (resource_after_withdrawals (w ∷ [])) rest),
      sum_by-append (calls pid) (withdrawal_endings w r) (flat_map (withdrawal_endings w) rest),
    )

-- several locks that are withdrawn together
pub withdrawals_fall : (pid : ℕ) (withdrawals : List Withdrawal) → OfOneEach withdrawals → (resources : List Resource)
    → sum_by (weigh (due_to pid)) (map (resource_after_withdrawals withdrawals) resources) + sum_by (calls pid) (withdrawn_endings withdrawals resources)
    ≤ sum_by (weigh (due_to pid)) resources
withdrawals_fall pid [] apart resources = omega (arith, ap (sum_by (weigh (due_to pid))) (map-id resources))
withdrawals_fall pid (w ∷ withdrawals) apart resources =
    let after : List Resource = map (resource_after_withdrawals (w ∷ [])) resources in
    omega (
      arith,
      all_withdrawn_fall pid w resources,
      withdrawals_fall pid withdrawals apart.1 after,
      ap (sum_by (weigh (due_to pid))) (all_one_after_another w withdrawals apart.0 resources),
      ap (sum_by (calls pid)) (others_end_same w withdrawals apart.0 resources),
      sum_by-append (calls pid) (flat_map (withdrawal_endings w) resources) (withdrawn_endings withdrawals resources),
    )
