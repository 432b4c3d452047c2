-- After every step no process has more locks than its quota.
use Rattle.std.proofs.Common.{◌≡◌, ◌≤◌, ◌<◌, ◌+◌, ℕ, true, false, List, [], ◌∷◌, ◌++◌, map, cond, None, Some, refl, sym, ap, subst, ◌∙◌, arith, Bool, Option}
use Rattle.std.specs.Prelude.{◌==◌, nat_lt}
use Rattle.std.specs.List.{sum_by}
use Rattle.std.specs.Option.{option_map_or}
use Rattle.std.proofs.lemmas.Bool.Decides.{nat_tests}
use Rattle.std.proofs.lemmas.List.Sums.{sum_by-append, sum_by-cons}
use Rattle.vlm_words.specs.declared.conditions.Cond.TheVariants.{Exenqlm}
use Rattle.vlm_words.specs.declared.steps.NewRequest.{NewRequest}
use Rattle.vlm_words.specs.State.{Process, Resource, State, process_of, Node}
use Rattle.vlm_model.specs.Effects.{blocks_with}
use Rattle.vlm_words.specs.ValueBlocks.{new_value_block}
use Rattle.vlm_model.specs.Checks.{numbers_refusal, or_else, queue_refusal}
use Rattle.vlm_model.specs.Quotas.{locks_of, quota_of, quota_refusal}
use Rattle.vlm_model.specs.Declare.{declare_change, declared_process}
use Rattle.vlm_model.specs.SetValue.{set_change}
use Rattle.vlm_model.specs.Take.{take_change}
use Rattle.vlm_model.specs.Sweeps.{state_after_sweep, processes_after_service}
use Rattle.vlm_model.specs.Enqueue.{enq_at_once, enq_change, enq_limit_refusal, enq_refusal}
use Rattle.vlm_model.specs.Convert.{convert_blocks, convert_change, convert_lkid, resource_after_conversion}
use Rattle.vlm_model.specs.Withdrawals.{resource_after_withdrawals, state_after_withdrawals, withdrawn_endings}
use Rattle.vlm_model.specs.Runs.{History, Run}
use Rattle.vlm_model.specs.Laws.{QuotasAreKept, locks_on}
use Rattle.vlm_model.proofs.Always.{always, kept_by_stepped}
use Rattle.vlm_model.proofs.PassedChecks.{both_pass, enq_passes, test_passes}
use Rattle.vlm_model.proofs.Processes.{kept_converted, kept_ended, kept_entered, kept_set, kept_swept, kept_taken}
use Rattle.vlm_model.proofs.Weights.{weigh}
use Rattle.vlm_model.proofs.LastingSums.{changed_named, converted_named, withdrawn_named, entered_named, swept_named}
use Rattle.vlm_model.proofs.WhoseLocks.{owned, owned_named, owning}
use Rattle.vlm_model.proofs.EndedLocks.{no_lock_left}
use Rattle.vlm_model.proofs.ProcessEnds.{found_still}
use Rattle.vlm_model.proofs.IdsApart.{Apart, apart_always}
use Rattle.vlm_model.proofs.Sums.{sum_changed-le}
use Rattle.vlm_model.specs.Rundown.{processes_but, rundowns, state_after_rundown}

-- the ID of a process, and its quota
abbrev allowance : Process → ℕ × ℕ
allowance p = (p.pid, p.quota)

-- no process has more locks than its quota
abbrev Within : State → Type 0
Within s = (pid : ℕ) → owning pid s.resources ≤ quota_of s.processes pid

-- the quota of a process, by the allowances of all
abbrev quota_in : List (ℕ × ℕ) → ℕ → ℕ
quota_in [] pid = 0
quota_in (a ∷ rest) pid = cond (a.0 == pid) a.1 (quota_in rest pid)

-- is that by the processes
quota_by_allowance : (processes : List Process) (pid : ℕ) → quota_of processes pid ≡ quota_in (map allowance processes) pid
quota_by_allowance [] pid = refl
quota_by_allowance (p ∷ rest) pid =
    elim (p.pid == pid) as (λ b. option_map_or (λ q. q.quota) (cond b (Some p) (process_of rest pid)) 0 ≡ cond b p.quota (quota_in (map allowance rest) pid)) [
      | true ↦ refl
      | false ↦ quota_by_allowance rest pid
    ]

-- one process more takes no quota from any
more_quota : (processes : List Process) (p : Process) (pid : ℕ) → quota_of processes pid ≤ quota_of (processes ++ p ∷ []) pid
more_quota [] p pid = omega arith
more_quota (q ∷ rest) p pid =
    elim (q.pid == pid) as (λ b. option_map_or (λ x. x.quota) (cond b (Some q) (process_of rest pid)) 0
    ≤ option_map_or (λ x. x.quota) (cond b (Some q) (process_of (rest ++ p ∷ []) pid)) 0) [
      | true ↦ omega arith
      | false ↦ more_quota rest p pid
    ]

-- where no process gets a lock and the allowances stay, all are within their quotas
still_within : (s t : State) → map allowance t.processes ≡ map allowance s.processes
    → ((pid : ℕ) → owning pid t.resources ≤ owning pid s.resources) → Within s → Within t
still_within s t same fewer within pid =
    omega (
      arith,
      within pid,
      fewer pid,
      quota_by_allowance s.processes pid,
      quota_by_allowance t.processes pid,
      ap (λ (all : List (ℕ × ℕ)). quota_in all pid) same,
    )

-- the caller of an accepted request has fewer locks than its quota
pub room_left : (s : State) (e : NewRequest) → enq_refusal s e ≡ None → owning e.pid s.resources < quota_of s.processes e.pid
unfolding enq_limit_refusal quota_refusal
room_left s e passed =
    let less : nat_lt (locks_of e.pid s.resources) (quota_of s.processes e.pid) ≡ true =
    test_passes (nat_lt (locks_of e.pid s.resources) (quota_of s.processes e.pid)) Exenqlm
    (both_pass (cond (nat_lt (locks_of e.pid s.resources) (quota_of s.processes e.pid)) None (Some Exenqlm))
    (or_else (numbers_refusal s) (queue_refusal e.flags (enq_at_once s e))) (enq_passes s e passed).3).0 in
    grind (arith, nat_tests, less)

-- the processes after a new request and its sweep
allowances_entered : (s : State) (e : NewRequest) → map allowance (state_after_sweep (enq_change s e)).processes ≡ map allowance s.processes
allowances_entered s e =
    kept_swept allowance (λ _ _ _. refl) (enq_change s e).processes (enq_change s e).resources ∙ kept_entered allowance (λ _ _ _. refl) s e

-- a new request takes what is left
entered_within : (s : State) (e : NewRequest) → enq_refusal s e ≡ None → Within s → Within (state_after_sweep (enq_change s e))
unfolding enq_change
entered_within s e passed within pid =
    let quota : quota_of (state_after_sweep (enq_change s e)).processes pid ≡ quota_of s.processes pid =
    quota_by_allowance (state_after_sweep (enq_change s e)).processes pid
    ∙ ap (λ (all : List (ℕ × ℕ)). quota_in all pid) (allowances_entered s e) ∙ sym (quota_by_allowance s.processes pid) in
    let more : owning pid (state_after_sweep (enq_change s e)).resources ≡ owning pid s.resources + cond (e.pid == pid) 1 0 =
    entered_named (owned pid) (owned_named pid) s e in
    elim (e.pid == pid) as (λ b. (e.pid == pid) ≡ b → owning pid (state_after_sweep (enq_change s e)).resources ≡ owning pid s.resources + cond b 1 0
    → owning pid (state_after_sweep (enq_change s e)).resources ≤ quota_of (state_after_sweep (enq_change s e)).processes pid) [
      | true ↦ λ own count.
          let same : e.pid ≡ pid = grind (arith, nat_tests, own) in
          let left : owning pid s.resources < quota_of s.processes pid =
          subst (λ (n : ℕ). owning n s.resources < quota_of s.processes n) same (room_left s e passed) in
          omega (arith, count, left, quota)
      | false ↦ λ _ count. omega (arith, count, within pid, quota)
    ] refl more

-- a process that has ended has no lock, and no other has more than it had
ended_within : (s : State) (is_one : ℕ → Bool) (nodes : List Node) → Apart s → Within s
    → Within (state_after_sweep (state_after_rundown is_one nodes s))
unfolding state_after_rundown
ended_within s is_one nodes apart within pid = of_test (is_one pid) refl
  where
    left : List Process
    left = processes_but is_one s.processes

    changed : List Resource
    changed = map (resource_after_withdrawals (rundowns is_one s)) s.resources

    swept : owning pid (state_after_sweep (state_after_rundown is_one nodes s)).resources ≤ owning pid changed
    swept = omega (arith, swept_named (owned pid) (owned_named pid) left changed)

    fewer : owning pid changed ≤ owning pid s.resources
    fewer = sum_changed-le (weigh (owned pid)) (resource_after_withdrawals (rundowns is_one s))
        (withdrawn_named (owned pid) (owned_named pid) (rundowns is_one s)) s.resources

    quota : quota_of (processes_after_service left changed) pid ≡ quota_of left pid
    quota =
        quota_by_allowance (processes_after_service left changed) pid
        ∙ ap (λ (all : List (ℕ × ℕ)). quota_in all pid) (kept_swept allowance (λ _ _ _. refl) left changed)
        ∙ sym (quota_by_allowance left pid)

    of_test : (b : Bool) → is_one pid ≡ b
        → owning pid (state_after_sweep (state_after_rundown is_one nodes s)).resources ≤ quota_of (processes_after_service left changed) pid
    of_test true ends = omega (arith, swept, no_lock_left is_one s apart pid ends)
    of_test false other =
        omega (
          arith,
          swept,
          fewer,
          within pid,
          quota,
          ap (λ (found : Option Process). option_map_or (λ p. p.quota) found 0) (found_still is_one pid other s.processes),
        )

-- after every run all are within their quotas
within_always : (history : History) (last : State)
    → Run history last → Within last
unfolding declare_change set_change take_change convert_change
within_always =
    always (λ _ s. Within s) (λ pid. omega arith)
    (λ history s run within.
    kept_by_stepped (λ _ t. Within t) history.endings s within
    (λ d _.
    still_within (declare_change s d) (state_after_sweep (declare_change s d))
    (kept_swept allowance (λ _ _ _. refl) (declare_change s d).processes s.resources)
    (λ pid. omega (arith, swept_named (owned pid) (owned_named pid) (declare_change s d).processes s.resources))
    (λ pid. omega (arith, within pid, more_quota s.processes (declared_process s d) pid)))
    (λ v _.
    still_within s (state_after_sweep (set_change s v))
    (kept_swept allowance (λ _ _ _. refl) (set_change s v).processes s.resources ∙ kept_set allowance (λ _ _. refl) v.pid v.block v.value v.tail s.processes)
    (λ pid. omega (arith, swept_named (owned pid) (owned_named pid) (set_change s v).processes s.resources)) within)
    (λ taker _.
    still_within s (state_after_sweep (take_change s taker))
    (kept_swept allowance (λ _ _ _. refl) (take_change s taker).processes s.resources ∙ kept_taken allowance (λ _ _. refl) taker s.processes)
    (λ pid. omega (arith, swept_named (owned pid) (owned_named pid) (take_change s taker).processes s.resources)) within)
    (λ e passed. entered_within s e passed within)
    (λ c a _ _.
    still_within s (state_after_sweep (convert_change s c a))
    (kept_swept allowance (λ _ _ _. refl) (convert_change s c a).processes (convert_change s c a).resources ∙ kept_converted allowance (λ _ _ _. refl) s c a)
    (λ pid. changed_named (owned pid) (owned_named pid)
    (resource_after_conversion a.request a.at_once c.pid (convert_lkid s c) (convert_blocks s c a).value_block)
    (converted_named (owned pid) (owned_named pid) a.request a.at_once c.pid (convert_lkid s c) (convert_blocks s c a).value_block)
    (convert_change s c a).processes s.resources) within)
    (λ withdrawals _.
    let after : State = state_after_withdrawals withdrawals s in
    still_within s (state_after_sweep after)
    (kept_swept allowance (λ _ _ _. refl) after.processes after.resources
    ∙ kept_ended allowance (λ _ _ _. refl) (withdrawn_endings withdrawals s.resources) (blocks_with new_value_block s.processes))
    (λ pid. changed_named (owned pid) (owned_named pid) (resource_after_withdrawals withdrawals)
    (withdrawn_named (owned pid) (owned_named pid) withdrawals) after.processes s.resources) within)
    (λ is_one nodes _. ended_within s is_one nodes (apart_always history s run) within))

-- the locks of a process on a resource, counted over its three queues at once
counted_at_once : (pid : ℕ) (r : Resource) → locks_on pid r ≡ weigh (owned pid) r
counted_at_once pid r =
    omega (arith, sum_by-append (owned pid) (r.granted ++ r.converting) r.waiting, sum_by-append (owned pid) r.granted r.converting)

-- the same over all resources
pub all_counted : (pid : ℕ) (resources : List Resource) → sum_by (locks_on pid) resources ≡ owning pid resources
all_counted pid [] = refl
all_counted pid (r ∷ rest) =
    omega (
      arith,
      all_counted pid rest,
      counted_at_once pid r,
      sum_by-cons (locks_on pid) r rest,
      sum_by-cons (weigh (owned pid)) r rest,
    )

-- after every run quotas are kept
pub quotas_always : (history : History) (last : State)
    → Run history last → QuotasAreKept last
quotas_always history last run pid =
    omega (arith, within_always history last run pid, all_counted pid last.resources)
