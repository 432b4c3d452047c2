-- A process that does not live has no locks, and nothing is queued to it.
use Rattle.std.proofs.Common.{◌≡◌, ◌≤◌, ◌<◌, ◌++◌, ℕ, Bool, true, false, List, [], ◌∷◌, cond, Option, None, Some, refl, sym, subst, ap, ◌∙◌, arith}
use Rattle.std.specs.Prelude.{◌==◌, is_some}
use Rattle.std.specs.List.{find, flat_map, sum_by}
use Rattle.std.proofs.lemmas.Bool.{cond_both, eqb-true}
use Rattle.std.proofs.lemmas.List.Sums.{sum_by-append, sum_by-cons}
use Rattle.vlm_words.specs.declared.asts.AstKind.{AstKind}
use Rattle.vlm_words.specs.declared.asts.AstKind.TheVariants.{Completion, Blocking}
use Rattle.vlm_words.specs.declared.locks.Request.{Request}
use Rattle.vlm_words.specs.declared.locks.LockState.{LockState}
use Rattle.vlm_words.specs.declared.steps.Conversion.{Conversion}
use Rattle.vlm_words.specs.declared.steps.NewRequest.{NewRequest}
use Rattle.vlm_words.specs.State.{Node, Resource, State}
use Rattle.vlm_model.specs.Endings.{Ending, How, is_told, row_endings, wanted_endings}
use Rattle.vlm_model.specs.Endings.How.{by_grant}
use Rattle.vlm_model.specs.Asts.{Queued, asts_for, blocking_asts, completion_asts, completions, completions_of}
use Rattle.vlm_model.specs.Asts.{is_synchronous, is_to_warn, row_warnings, warnings}
use Rattle.vlm_model.specs.Grants.{grant_act, grant_endings, service}
use Rattle.vlm_model.specs.Sweeps.{service_asts, sweep_asts}
use Rattle.vlm_model.specs.Quotas.{quota_of}
use Rattle.vlm_words.specs.Rows.{is_lock_of, rows_of, wanting_row}
use Rattle.vlm_model.specs.Trees.{enq_site}
use Rattle.vlm_model.specs.Enqueue.{enq_at_once, enq_change, enq_endings, enq_refusal, enq_row}
use Rattle.vlm_model.specs.Convert.{ConversionAdmission, admission_among, admission_or, conversion_endings}
use Rattle.vlm_model.specs.Convert.{convert_admission, convert_blocks, convert_change, convert_lkid, convert_request}
use Rattle.vlm_model.specs.Convert.{converts_at_once, resource_after_conversion}
use Rattle.vlm_model.specs.Withdrawals.{Withdrawal, queue_endings, resource_after_withdrawals, withdrawal_endings, withdrawn_endings, state_after_withdrawals}
use Rattle.vlm_model.specs.Rundown.{rundown_endings, rundowns, state_after_rundown}
use Rattle.vlm_model.specs.Runs.{History, Run}
use Rattle.vlm_model.specs.Taking.{queued_to}
use Rattle.vlm_model.proofs.Admissions.{some_same}
use Rattle.vlm_model.proofs.Each.{Found, found_at}
use Rattle.vlm_model.proofs.LastingSums.{IsByName, converted_named, grant_keeps, withdrawn_named}
use Rattle.vlm_model.proofs.AstQueueing.{queued_to-append}
use Rattle.vlm_model.proofs.Quotas.{all_counted, quotas_always, room_left}
use Rattle.vlm_model.proofs.WhoseLocks.{owned, owning}
use Rattle.vlm_model.proofs.Sums.{found-le-sum, sum_changed-le, sum_filter-le, sum_of_one, sum_of_zero}
use Rattle.vlm_model.proofs.Weights.{GrantKeeps, entered_among_weighs, served_weighs, weigh}

-- a row is counted by its process
owned_named : (pid : ℕ) → IsByName (owned pid)
owned_named pid row held want armed = refl

-- 1 for an ending of a request of the process
abbrev mine : ℕ → Ending → ℕ
mine pid ending = cond (ending.pid == pid) 1 0

-- 1 where the process is the owner, and something is wanted
abbrev wants_of : ℕ → ℕ → Option Request → ℕ
wants_of pid owner want = cond (owner == pid) (cond (is_some want) 1 0) 0

-- 1 for a row of a lock of the process that wants something
abbrev wanted_own : ℕ → LockState → ℕ
wanted_own pid row = wants_of pid row.pid row.want

nothing_wanted : (pid owner : ℕ) → wants_of pid owner None ≡ 0
nothing_wanted pid owner = of_test (owner == pid)
  where
    of_test : (b : Bool) → ◌≡◌ {A = ℕ} (cond b 0 0) 0
    of_test true = refl
    of_test false = refl

-- the ends of what is wanted
wanted_ends : (pid : ℕ) (how : How) (at_once : Bool) (lkid owner : ℕ) (want : Option Request)
    → sum_by (mine pid) (wanted_endings how at_once lkid owner want) ≡ wants_of pid owner want
wanted_ends pid how at_once lkid owner None = sym (nothing_wanted pid owner)
wanted_ends pid how at_once lkid owner (Some request) =
    sum_of_one (mine pid) (record { lkid = lkid; pid = owner; request = request; how = how; at_once = at_once })

row_ends : (pid : ℕ) (how : How) (at_once : Bool) (row : LockState) → sum_by (mine pid) (row_endings how at_once row) ≡ wanted_own pid row
row_ends pid how at_once row = wanted_ends pid how at_once row.lkid row.pid row.want

-- a grant ends what its row wanted
own_kept : (pid : ℕ) → GrantKeeps (wanted_own pid) (mine pid)
own_kept pid at_once row =
    omega (arith, row_ends pid (by_grant (grant_act row.held row.want)) at_once row, nothing_wanted pid row.pid)

wanted_owned : (pid owner : ℕ) (want : Option Request) → wants_of pid owner want ≤ cond (owner == pid) 1 0
wanted_owned pid owner want = of_tests (owner == pid) (is_some want)
  where
    of_tests : (a b : Bool) → cond a (cond b 1 0) 0 ≤ cond a 1 0
    of_tests true true = omega arith
    of_tests true false = omega arith
    of_tests false b = omega arith

-- of a process that has no rows none wants
wanted_rows : (pid : ℕ) (rows : List LockState) → sum_by (wanted_own pid) rows ≤ sum_by (owned pid) rows
wanted_rows pid [] = omega arith
wanted_rows pid (row ∷ rows) =
    omega (
      arith,
      wanted_owned pid row.pid row.want,
      wanted_rows pid rows,
      sum_by-cons (wanted_own pid) row rows,
      sum_by-cons (owned pid) row rows,
    )

wanted_on : (pid : ℕ) (r : Resource) → weigh (wanted_own pid) r ≤ weigh (owned pid) r
wanted_on pid r = omega (arith, wanted_rows pid r.granted, wanted_rows pid r.converting, wanted_rows pid r.waiting)

wanted_all : (pid : ℕ) (resources : List Resource) → sum_by (weigh (wanted_own pid)) resources ≤ owning pid resources
wanted_all pid [] = omega arith
wanted_all pid (r ∷ rest) =
    omega (
      arith,
      wanted_on pid r,
      wanted_all pid rest,
      sum_by-cons (weigh (wanted_own pid)) r rest,
      sum_by-cons (weigh (owned pid)) r rest,
    )

-- ---- what is queued for others

not_counted : (b : Bool) → ◌≡◌ {A = ℕ} (cond b 1 0) 0 → b ≡ false
not_counted true is = absurd (omega arith)
not_counted false is = refl

-- an AST of another process
for_another : (pid owner lkid : ℕ) (kind : AstKind) (routine : Option ℕ) (request : Request) → (owner == pid) ≡ false
    → queued_to pid (asts_for kind routine request lkid owner) ≡ []
for_another pid owner lkid kind None request other = refl
for_another pid owner lkid kind (Some routine) request other = rw other refl

-- completions of endings of which none is of the process
none_completes : (pid : ℕ) (endings : List Ending) → sum_by (mine pid) endings ≡ 0 → queued_to pid (completions_of endings) ≡ []
unfolding completion_asts
none_completes pid [] none = refl
none_completes pid (ending ∷ endings) none =
    let both = sum_by-cons (mine pid) ending endings in
    queued_to-append pid (completions ending) (completions_of endings)
    ∙ ap (λ (asts : List _). asts ++ queued_to pid (completions_of endings)) (here (not_counted (ending.pid == pid) (omega (arith, none, both))))
    ∙ none_completes pid endings (omega (arith, none, both))
  where
    here : (ending.pid == pid) ≡ false → queued_to pid (completions ending) ≡ []
    here other =
        let told : List Queued =
        cond (is_synchronous ending.at_once ending.request) [] (asts_for Completion ending.request.completion ending.request ending.lkid ending.pid) in
        cond_both (is_told ending.how) told [] (λ asts. queued_to pid asts ≡ [])
        (λ _. cond_both (is_synchronous ending.at_once ending.request) [] (asts_for Completion ending.request.completion ending.request ending.lkid ending.pid)
        (λ asts. queued_to pid asts ≡ []) (λ _. refl)
        (λ _. for_another pid ending.pid ending.lkid Completion ending.request.completion ending.request other)) (λ _. refl)

-- warnings of rows of which none is of the process
none_warned : (pid : ℕ) (converting waiting rows : List LockState) → sum_by (owned pid) rows ≡ 0
    → queued_to pid (flat_map (row_warnings converting waiting) rows) ≡ []
unfolding row_warnings
none_warned pid converting waiting [] none = refl
none_warned pid converting waiting (row ∷ rows) none =
    let both = sum_by-cons (owned pid) row rows in
    queued_to-append pid (row_warnings converting waiting row) (flat_map (row_warnings converting waiting) rows)
    ∙ ap (λ (asts : List _). asts ++ queued_to pid (flat_map (row_warnings converting waiting) rows))
    (here (not_counted (row.pid == pid) (omega (arith, none, both))))
    ∙ none_warned pid converting waiting rows (omega (arith, none, both))
  where
    of_held : (held : Option Request) → (row.pid == pid) ≡ false → queued_to pid (blocking_asts held row.lkid row.pid) ≡ []
    of_held None other = refl
    of_held (Some held) other = for_another pid row.pid row.lkid Blocking held.blocking held other

    here : (row.pid == pid) ≡ false → queued_to pid (row_warnings converting waiting row) ≡ []
    here other =
        cond_both (is_to_warn converting waiting row) (blocking_asts row.held row.lkid row.pid) [] (λ asts. queued_to pid asts ≡ [])
        (λ _. of_held row.held other) (λ _. refl)

-- the service of a resource on which the process has no lock
none_served : (pid : ℕ) (r : Resource) → weigh (owned pid) r ≡ 0 → queued_to pid (service_asts r) ≡ []
unfolding service_asts warnings
none_served pid r none =
    let rows = served_weighs (owned pid) (λ ending. 0) (grant_keeps (owned pid) (owned_named pid)) r in
    let ends = served_weighs (wanted_own pid) (mine pid) (own_kept pid) r in
    let after : Resource = (service r).resource in
    queued_to-append pid (completions_of (service r).endings) (warnings after)
    ∙ ap (λ (asts : List _). asts ++ queued_to pid (warnings after)) (none_completes pid (service r).endings (omega (arith, none, ends, wanted_on pid r)))
    ∙ none_warned pid after.converting after.waiting after.granted (omega (arith, none, rows))

-- a sweep where the process has no lock
pub none_swept : (pid : ℕ) (resources : List Resource) → owning pid resources ≡ 0 → queued_to pid (sweep_asts resources) ≡ []
unfolding sweep_asts
none_swept pid [] none = refl
none_swept pid (r ∷ rest) none =
    let both = sum_by-cons (weigh (owned pid)) r rest in
    queued_to-append pid (service_asts r) (sweep_asts rest)
    ∙ ap (λ (asts : List _). asts ++ queued_to pid (sweep_asts rest)) (none_served pid r (omega (arith, none, both)))
    ∙ none_swept pid rest (omega (arith, none, both))

-- ---- the changes of steps

-- what a change queues to a process, and the locks that it has then, where it has none before
pub record NoneOf (pid : ℕ) (asts : List Queued) (resources : List Resource) : Type 0 where
  pub queued : queued_to pid asts ≡ []
  pub locks : owning pid resources ≡ 0

-- a new request
pub none_requested : (s : State) (e : NewRequest) (pid : ℕ) → enq_refusal s e ≡ None → quota_of s.processes pid ≡ 0 → owning pid s.resources ≡ 0
    → NoneOf pid (completions_of (enq_endings s e)) (enq_change s e).resources
unfolding enq_change
none_requested s e pid passed no_quota none =
    let other : (e.pid == pid) ≡ false = of_test (e.pid == pid) refl in
    let not_mine : ◌≡◌ {A = ℕ} (cond (e.pid == pid) 1 0) 0 = ap (λ (b : Bool). cond b 1 0) other in
    record {
      queued = none_completes pid (enq_endings s e)
          (omega (
            arith,
            none,
            not_mine,
            wanted_all pid s.resources,
            wanted_owned pid e.pid (enq_row s e).want,
            entered_among_weighs (wanted_own pid) (mine pid) (own_kept pid) s.next_serial (enq_site s e) (enq_row s e) (enq_at_once s e) s.resources,
          ));
      locks = omega (
        arith,
        none,
        not_mine,
        sum_of_zero {X = Ending} (enq_endings s e),
        entered_among_weighs (owned pid) (λ ending. 0) (grant_keeps (owned pid) (owned_named pid)) s.next_serial
            (enq_site s e) (enq_row s e) (enq_at_once s e) s.resources,
      );
    }
  where
    of_test : (b : Bool) → (e.pid == pid) ≡ b → (e.pid == pid) ≡ false
    of_test false is = is
    of_test true is =
        let left : owning pid s.resources < quota_of s.processes pid =
        subst (λ (n : ℕ). owning n s.resources < quota_of s.processes n) (eqb-true e.pid pid is) (room_left s e passed) in
        absurd (omega (arith, left, no_quota))

-- the lock of an admitted conversion is among the locks
admitted_owned : (pid : ℕ) (request : Request) (caller lkid : ℕ) (a : ConversionAdmission) (resources : List Resource)
    → admission_among request caller lkid resources ≡ Some a → owned pid a.row ≤ owning pid resources
admitted_owned pid request caller lkid a [] at = cc
admitted_owned pid request caller lkid a (r ∷ rest) at =
    of_found (find (is_lock_of caller lkid) r.granted) refl (admitted_owned pid request caller lkid a rest) at
  where
    of_found : (found : Option LockState) → find (is_lock_of caller lkid) r.granted ≡ found
        → (admission_among request caller lkid rest ≡ Some a → owned pid a.row ≤ owning pid rest)
        → admission_or request r found (admission_among request caller lkid rest) ≡ Some a → owned pid a.row ≤ owning pid (r ∷ rest)
    of_found None is behind later = omega (arith, behind later, sum_by-cons (weigh (owned pid)) r rest)
    of_found (Some row) is behind here =
        let admitted : ConversionAdmission = record { resource = r; row = row; request = request; at_once = converts_at_once request row.lkid r } in
        let same : owned pid row ≡ owned pid a.row = ap (λ (b : ConversionAdmission). owned pid b.row) (some_same admitted a here) in
        let among : Found (is_lock_of caller lkid) r.granted row = found_at (is_lock_of caller lkid) r.granted row is in
        omega (arith, same, found-le-sum (owned pid) (is_lock_of caller lkid) r.granted row among, sum_by-cons (weigh (owned pid)) r rest)

-- a conversion
pub none_converted : (s : State) (c : Conversion) (a : ConversionAdmission) (pid : ℕ) → convert_admission s c ≡ Some a → owning pid s.resources ≡ 0
    → NoneOf pid (completions_of (conversion_endings a)) (convert_change s c a).resources
unfolding convert_change convert_admission
none_converted s c a pid admitted none = record {
  queued = none_completes pid (conversion_endings a) (of_test a.at_once);
  locks = omega (
    arith,
    none,
    sum_changed-le (weigh (owned pid)) (resource_after_conversion a.request a.at_once c.pid (convert_lkid s c) (convert_blocks s c a).value_block)
        (converted_named (owned pid) (owned_named pid) a.request a.at_once c.pid (convert_lkid s c) (convert_blocks s c a).value_block) s.resources,
  );
}
  where
    of_test : (b : Bool) → sum_by (mine pid) (cond b (grant_endings true (wanting_row a.row a.request)) []) ≡ 0
    of_test true =
        omega (
          arith,
          none,
          row_ends pid (by_grant (grant_act a.row.held (Some a.request))) true (wanting_row a.row a.request),
          wanted_owned pid a.row.pid (Some a.request),
          admitted_owned pid (convert_request s c) c.pid (convert_lkid s c) a s.resources admitted,
        )
    of_test false = refl

-- the requests of some rows end
rows_end : (pid : ℕ) (how : How) (rows : List LockState) → sum_by (mine pid) (flat_map (row_endings how false) rows) ≤ sum_by (owned pid) rows
rows_end pid how [] = omega arith
rows_end pid how (row ∷ rows) =
    omega (
      arith,
      rows_end pid how rows,
      row_ends pid how false row,
      wanted_owned pid row.pid row.want,
      sum_by-cons (owned pid) row rows,
      sum_by-append (mine pid) (row_endings how false row) (flat_map (row_endings how false) rows),
    )

queue_ends : (pid : ℕ) (how : How) (lkid : ℕ) (rows : List LockState) → sum_by (mine pid) (queue_endings how lkid rows) ≤ sum_by (owned pid) rows
queue_ends pid how lkid rows = omega (arith, rows_end pid how (rows_of lkid rows), sum_filter-le (owned pid) (λ row. row.lkid == lkid) rows)

withdrawals_end : (pid : ℕ) (w : Withdrawal) (resources : List Resource) → sum_by (mine pid) (flat_map (withdrawal_endings w) resources) ≤ owning pid resources
withdrawals_end pid w [] = omega arith
withdrawals_end pid w (r ∷ rest) =
    omega (
      arith,
      withdrawals_end pid w rest,
      queue_ends pid w.converting w.lkid r.converting,
      queue_ends pid w.waiting w.lkid r.waiting,
      sum_by-append (mine pid) (queue_endings w.converting w.lkid r.converting) (queue_endings w.waiting w.lkid r.waiting),
      sum_by-append (mine pid) (withdrawal_endings w r) (flat_map (withdrawal_endings w) rest),
      sum_by-cons (weigh (owned pid)) r rest,
    )

-- withdrawals end no request of a process that has no lock
none_end : (pid : ℕ) (withdrawals : List Withdrawal) (resources : List Resource) → owning pid resources ≡ 0
    → sum_by (mine pid) (withdrawn_endings withdrawals resources) ≡ 0
none_end pid [] resources none = refl
none_end pid (w ∷ withdrawals) resources none =
    omega (
      arith,
      none,
      withdrawals_end pid w resources,
      none_end pid withdrawals resources none,
      sum_by-append (mine pid) (flat_map (withdrawal_endings w) resources) (withdrawn_endings withdrawals resources),
    )

-- locks that are withdrawn
pub none_withdrawn : (s : State) (withdrawals : List Withdrawal) (pid : ℕ) → owning pid s.resources ≡ 0
    → NoneOf pid (completions_of (withdrawn_endings withdrawals s.resources)) (state_after_withdrawals withdrawals s).resources
none_withdrawn s withdrawals pid none = record {
  queued = none_completes pid (withdrawn_endings withdrawals s.resources) (none_end pid withdrawals s.resources none);
  locks = omega (
    arith,
    none,
    sum_changed-le (weigh (owned pid)) (resource_after_withdrawals withdrawals) (withdrawn_named (owned pid) (owned_named pid) withdrawals) s.resources,
  );
}

-- the end of processes
pub none_ended : (s : State) (is_one : ℕ → Bool) (nodes : List Node) (pid : ℕ) → owning pid s.resources ≡ 0
    → NoneOf pid (completions_of (rundown_endings is_one s)) (state_after_rundown is_one nodes s).resources
unfolding state_after_rundown
none_ended s is_one nodes pid none = record {
  queued = none_completes pid (rundown_endings is_one s) (none_end pid (rundowns is_one s) s.resources none);
  locks = omega (
    arith,
    none,
    sum_changed-le (weigh (owned pid)) (resource_after_withdrawals (rundowns is_one s))
        (withdrawn_named (owned pid) (owned_named pid) (rundowns is_one s)) s.resources,
  );
}

-- ---- after every run

-- a process that does not live has no locks
pub none_owned : (history : History) (s : State) → Run history s → (pid : ℕ) → quota_of s.processes pid ≡ 0 → owning pid s.resources ≡ 0
none_owned history s run pid no_quota =
    let kept : owning pid s.resources ≤ quota_of s.processes pid = omega (arith, quotas_always history s run pid, all_counted pid s.resources) in
    omega (arith, kept, no_quota)
