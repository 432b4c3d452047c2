-- A step leaves the requests and locks of other processes alone.
use Rattle.std.proofs.Common.{◌≡◌, ◌≤◌, ◌+◌, ℕ, Bool, true, false, List, [], ◌∷◌, ◌++◌, map, cond, Option, None, Some, refl, sym, subst, ap, inl, inr, arith}
use Rattle.std.specs.Prelude.{◌==◌, ◌/◌, All}
use Rattle.std.specs.List.{AllByRecursion, filter, find, list_any, sum_by}
use Rattle.std.proofs.lemmas.Bool.{cond_both, eqb-true}
use Rattle.std.proofs.lemmas.List.{map-id}
use Rattle.std.proofs.lemmas.Bool.Decides.{eqb_tells}
use Rattle.std.proofs.lemmas.List.Elements.{All-from_recursion}
use Rattle.std.proofs.lemmas.List.Sums.{sum_by-append, sum_by-cons}
use Rattle.vlm_words.specs.declared.conditions.Cond.TheVariants.{Ivlockid}
use Rattle.vlm_words.specs.declared.conditions.Cond.{Cond}
use Rattle.vlm_words.specs.Flags.{deqall, has_flag}
use Rattle.vlm_words.specs.declared.locks.Request.{Request}
use Rattle.vlm_words.specs.declared.locks.LockState.{LockState}
use Rattle.vlm_words.specs.declared.steps.Dequeue.{Dequeue}
use Rattle.vlm_words.specs.declared.steps.Step.TheVariants.{Declare, SetValue, Enq, Convert, Deq, Rundown, Leave, Search, Take}
use Rattle.vlm_words.specs.declared.steps.Step.{Step}
use Rattle.vlm_words.specs.State.{Resource, State}
use Rattle.vlm_model.specs.Endings.{Ending, wanted_endings}
use Rattle.vlm_model.specs.Sweeps.{resources_after_sweep, sweep_endings}
use Rattle.vlm_words.specs.Rows.{is_lock_of, rows_of, wanting_row}
use Rattle.vlm_model.specs.OwnLocks.{own_lkids}
use Rattle.vlm_model.specs.Checks.{caller_refusal, holds_lock, lock_refusal, or_else, which_refusal}
use Rattle.vlm_model.specs.Withdrawals.{Withdrawal, is_held_by_writer, resource_after_cancel, resource_after_going}
use Rattle.vlm_model.specs.Withdrawals.{resource_after_withdrawals, resource_without, row_after_cancel}
use Rattle.vlm_model.specs.Withdrawals.{value_block_after_writer}
use Rattle.vlm_model.specs.Dequeue.{cancel_refusal, deq_change, deq_endings, deq_flags_refusal, deq_refusal}
use Rattle.vlm_model.specs.Dequeue.{dequeue_lkid, dequeued_lkids, dequeued_lock_refusal, is_dequeued, is_for_all}
use Rattle.vlm_model.specs.Dequeue.{leaves_none, sublocks_refusal, withdrawal_of, withdrawals_of}
use Rattle.vlm_model.specs.Rundown.{is_ended_by, rundown_endings, rundowns, state_after_rundown}
use Rattle.vlm_words.specs.Steps.{is_of_node}
use Rattle.vlm_model.specs.Laws.{IsGrant, SweptInOrder, first_rows, goes, none, stays}
use Rattle.vlm_words.specs.declared.resources.ValueBlock.{ValueBlock}
use Rattle.vlm_model.specs.Endings.How.{by_grant}
use Rattle.vlm_model.specs.Effects.{with_value_block}
use Rattle.vlm_model.specs.Grants.{grant_act, grant_endings, resource_after_grant}
use Rattle.vlm_model.specs.Declare.{declare_change}
use Rattle.vlm_model.specs.SetValue.{set_change}
use Rattle.vlm_model.specs.Take.{take_change}
use Rattle.vlm_model.specs.Trees.{enq_site}
use Rattle.vlm_model.specs.Enqueue.{enq_at_once, enq_change, enq_endings, enq_resource, enq_row}
use Rattle.vlm_model.specs.Convert.{ConversionAdmission, conversion_endings, convert_blocks, convert_change}
use Rattle.vlm_model.specs.Convert.{convert_lkid, resource_after_conversion, resource_after_conversion_of}
use Rattle.vlm_model.specs.Convert.{resource_without_granted}
use Rattle.vlm_model.specs.Runs.{History, Run}
use Rattle.vlm_model.specs.Stepped.{IsChoice, Stepped, conversion_change, refused_or, step_change, step_refusal, stepped_after_sweep}
use Rattle.vlm_model.specs.Owners.{IsConcerned, OthersAreLeftAlone}
use Rattle.vlm_model.proofs.Always.{admission_of}
use Rattle.vlm_model.proofs.IdsApart.{Apart, apart_always, standing, stands}
use Rattle.vlm_model.proofs.Each.{each_append, each_filter, each_map, each_weaker}
use Rattle.vlm_model.proofs.Holdings.{converted_held, locks, locks_named, others_go}
use Rattle.vlm_model.proofs.InOrder.{granted_ends, sweep_in_order}
use Rattle.vlm_model.proofs.LastingSums.{IsByName, grant_keeps, swept_named, withdrawn_named}
use Rattle.vlm_model.proofs.PassedChecks.{test_passes}
use Rattle.vlm_model.proofs.Sums.{sum_changed-le, sum_of_zero}
use Rattle.vlm_model.proofs.Weights.{entered_among_weighs, weigh}
use Rattle.vlm_model.proofs.Together.{OfOneEach, all_one_after_another, dequeues_apart, rundowns_apart}
use Rattle.vlm_model.proofs.WhoseLocks.{IsTheirs, NoStrangers, none_strange, own_are_theirs, rundown_ends_are_theirs}
use Rattle.vlm_model.proofs.WhoseLocks.{rundowns_are_theirs, strangers, withdrawn_are_theirs, all_anothers}
use Rattle.vlm_model.specs.Search.{victim_withdrawals, search_change, search_endings, search_refusal}
use Rattle.vlm_model.specs.Deadlocks.{IsVictim}
use Rattle.vlm_model.proofs.Victims.{victim_of, victims_apart, deadlocked_stands, is_owner}

-- ---- whose locks a dequeue takes

-- what the checks of a dequeue have passed: the fourth is that its lock is the caller's, where it names one
fourth_passes : (a b c d e : Option Cond) → or_else a (or_else b (or_else c (or_else d e))) ≡ None → d ≡ None
fourth_passes None None None None e passed = refl
fourth_passes None None None (Some refusal) e passed = cc
fourth_passes None None (Some refusal) d e passed = cc
fourth_passes None (Some refusal) c d e passed = cc
fourth_passes (Some refusal) b c d e passed = cc

-- the caller of a dequeue
abbrev is_caller : Dequeue → ℕ → Bool
is_caller d pid = pid == d.pid

-- the lock that a dequeue without DEQALL names is of its caller, and no other row has its ID
named_is_theirs : (s : State) (d : Dequeue) → Apart s → deq_refusal s d ≡ None → has_flag d.flags deqall ≡ false
    → NoStrangers (is_caller d) s.resources (dequeue_lkid s d)
unfolding deq_refusal dequeued_lock_refusal lock_refusal
named_is_theirs s d apart passed alone =
    let lkid : ℕ = dequeue_lkid s d in
    let named : cond (is_for_all s d) None (cond (list_any (holds_lock d.pid lkid) s.resources) None (Some Ivlockid)) ≡ None =
    fourth_passes (caller_refusal s d.pid) (deq_flags_refusal d) (which_refusal s d.pid d.lock)
    (cond (is_for_all s d) None (cond (list_any (holds_lock d.pid lkid) s.resources) None (Some Ivlockid)))
    (or_else (cancel_refusal s d) (sublocks_refusal s (leaves_none d) lkid)) passed in
    let one : is_for_all s d ≡ false = rw alone refl in
    let held : list_any (holds_lock d.pid lkid) s.resources ≡ true =
    test_passes (list_any (holds_lock d.pid lkid) s.resources) Ivlockid
    (subst (λ (b : Bool). cond b None (cond (list_any (holds_lock d.pid lkid) s.resources) None (Some Ivlockid)) ≡ None) one named) in
    none_strange (is_caller d) s apart lkid held

-- the locks that a dequeue takes are its caller's
dequeued_are_theirs : (s : State) (d : Dequeue) → Apart s → deq_refusal s d ≡ None
    → AllByRecursion (λ w. NoStrangers (is_caller d) s.resources w.lkid) (withdrawals_of s d)
dequeued_are_theirs s d apart passed =
    each_map (NoStrangers (is_caller d) s.resources) (λ w. NoStrangers (is_caller d) s.resources w.lkid) (withdrawal_of d) (λ lkid none. none)
    (dequeued_lkids s d)
    (cond_both (has_flag d.flags deqall) (filter (is_dequeued s d) (own_lkids (is_caller d) s)) (dequeue_lkid s d ∷ [])
    (AllByRecursion (NoStrangers (is_caller d) s.resources))
    (λ _. each_filter (NoStrangers (is_caller d) s.resources) (is_dequeued s d) (own_lkids (is_caller d) s) (own_are_theirs (is_caller d) s apart))
    (λ alone. (named_is_theirs s d apart passed alone, tt)))

-- ---- whose requests end

-- a sweep ends nothing but by grants
swept_ends : (before after : List Resource) (endings : List Ending) → SweptInOrder before after endings → AllByRecursion (λ ending. IsGrant ending.how) endings
swept_ends _ _ _ none = tt
swept_ends _ _ _ (stays {before} {after} {rest} {left} {endings} {more} first behind) =
    each_append (λ ending. IsGrant ending.how) endings more
    (granted_ends (first_rows first.conversions first.new_requests before) endings first.ends) (swept_ends rest left more behind)
swept_ends _ _ _ (goes {before} {after} {rest} {left} {endings} {more} first vacant behind) =
    each_append (λ ending. IsGrant ending.how) endings more
    (granted_ends (first_rows first.conversions first.new_requests before) endings first.ends) (swept_ends rest left more behind)

-- ---- whose locks leave

-- on a resource a conversion takes no row of any lock away
converted_keeps : (pid lkid owner other : ℕ) (request : Request) (at_once : Bool) (block : ValueBlock) (r : Resource) → weigh (stands other) r ≤ 1
    → weigh (locks pid lkid) r ≤ weigh (locks pid lkid) (resource_after_conversion request at_once owner other block r)
unfolding resource_after_conversion
converted_keeps pid lkid owner other request at_once block r one =
    omega (
      arith,
      converted_held pid lkid owner other request at_once block r one,
      ap (sum_by (locks pid lkid)) (same_waiting (find (is_lock_of owner other) r.granted)),
    )
  where
    same_waiting : (found : Option LockState) → (resource_after_conversion_of request at_once other block r found).waiting ≡ r.waiting
    same_waiting None = refl
    same_waiting (Some row) =
        cond_both at_once (with_value_block block (resource_after_grant (resource_without_granted other r) (wanting_row row request)))
        (record (resource_without_granted other r) { converting = r.converting ++ wanting_row row request ∷ [] }) (λ after. after.waiting ≡ r.waiting)
        (λ _. refl) (λ _. refl)

all_converted_keep : (pid lkid owner other : ℕ) (request : Request) (at_once : Bool) (block : ValueBlock)
    (resources : List Resource) → standing other resources ≤ 1
    → sum_by (weigh (locks pid lkid)) resources ≤ sum_by (weigh (locks pid lkid)) (map (resource_after_conversion request at_once owner other block) resources)
all_converted_keep pid lkid owner other request at_once block [] one = omega arith
all_converted_keep pid lkid owner other request at_once block (r ∷ rest) one =
    let both : standing other (r ∷ rest) ≡ weigh (stands other) r + standing other rest = sum_by-cons (weigh (stands other)) r rest in
    omega (
      arith,
      converted_keeps pid lkid owner other request at_once block r (omega (arith, one, both)),
      all_converted_keep pid lkid owner other request at_once block rest (omega (arith, one, both)),
      sum_by-cons (weigh (locks pid lkid)) r rest,
      sum_by-cons (weigh (locks pid lkid)) (resource_after_conversion request at_once owner other block r)
          (map (resource_after_conversion request at_once owner other block) rest),
    )

-- a withdrawal takes no row of another ID away
gone_keeps : (pid lkid : ℕ) (w : Withdrawal) → (lkid == w.lkid) ≡ false → (r : Resource)
    → weigh (locks pid lkid) r ≤ weigh (locks pid lkid) (resource_after_going w r)
unfolding resource_after_cancel resource_without
gone_keeps pid lkid w differs r =
    let granted = others_go pid lkid w.lkid differs r.granted in
    let converting = others_go pid lkid w.lkid differs r.converting in
    let waiting = others_go pid lkid w.lkid differs r.waiting in
    cond_both w.stays (resource_after_cancel w.lkid r) (resource_without w.lkid r) (λ left. weigh (locks pid lkid) r ≤ weigh (locks pid lkid) left)
    (λ _. omega (arith, converting, waiting, sum_by-append (locks pid lkid) r.granted (map row_after_cancel (rows_of w.lkid r.converting))))
    (λ _. omega (arith, granted, converting, waiting))

withdrawn_keeps : (pid lkid : ℕ) (w : Withdrawal) → (lkid == w.lkid) ≡ false → (r : Resource)
    → weigh (locks pid lkid) r ≤ weigh (locks pid lkid) (resource_after_withdrawals (w ∷ []) r)
withdrawn_keeps pid lkid w differs r =
    let written : Resource = record r { value_block = value_block_after_writer w r.value_block } in
    cond_both (is_held_by_writer w.lkid r) written r (λ left. weigh (locks pid lkid) r ≤ weigh (locks pid lkid) (resource_after_going w left))
    (λ _. gone_keeps pid lkid w differs written) (λ _. gone_keeps pid lkid w differs r)

-- nor one of another process
all_withdrawn_keep : (is_one : ℕ → Bool) (pid lkid : ℕ) (w : Withdrawal) → is_one pid ≡ false → (resources : List Resource)
    → NoStrangers is_one resources w.lkid
    → sum_by (weigh (locks pid lkid)) resources ≤ sum_by (weigh (locks pid lkid)) (map (resource_after_withdrawals (w ∷ [])) resources)
all_withdrawn_keep is_one pid lkid w differs [] nothing = omega arith
all_withdrawn_keep is_one pid lkid w differs (r ∷ rest) nothing =
    let both = sum_by-cons (weigh (strangers is_one w.lkid)) r rest in
    omega (
      arith,
      here (omega (arith, nothing, both)),
      all_withdrawn_keep is_one pid lkid w differs rest (omega (arith, nothing, both)),
      sum_by-cons (weigh (locks pid lkid)) r rest,
      sum_by-cons (weigh (locks pid lkid)) (resource_after_withdrawals (w ∷ []) r) (map (resource_after_withdrawals (w ∷ [])) rest),
    )
  where
    here : weigh (strangers is_one w.lkid) r ≡ 0 → weigh (locks pid lkid) r ≤ weigh (locks pid lkid) (resource_after_withdrawals (w ∷ []) r)
    here none_here =
        elim (eqb_tells lkid w.lkid) [
          | inl same ↦
              (let of_lock : weigh (locks pid lkid) r ≤ weigh (strangers is_one lkid) r =
              omega (
                arith,
                all_anothers is_one pid lkid differs r.granted,
                all_anothers is_one pid lkid differs r.converting,
                all_anothers is_one pid lkid differs r.waiting,
              ) in
              omega (arith, of_lock, none_here, ap (λ (n : ℕ). weigh (strangers is_one n) r) same.1))
          | inr other ↦ withdrawn_keeps pid lkid w other.0 r
        ]

-- a row is a stranger's by its lock and its process
strangers_named : (is_one : ℕ → Bool) (lkid : ℕ) → IsByName (strangers is_one lkid)
strangers_named is_one lkid row held want armed = refl

-- where one lock is gone, still no row of the others is a stranger's
still_no_strangers : (is_one : ℕ → Bool) (w : Withdrawal) (resources : List Resource) (withdrawals : List Withdrawal)
    → AllByRecursion (λ v. NoStrangers is_one resources v.lkid) withdrawals
    → AllByRecursion (λ v. NoStrangers is_one (map (resource_after_withdrawals (w ∷ [])) resources) v.lkid) withdrawals
still_no_strangers is_one w resources withdrawals nothing =
    each_weaker (λ v. NoStrangers is_one resources v.lkid) (λ v. NoStrangers is_one (map (resource_after_withdrawals (w ∷ [])) resources) v.lkid)
    (λ v none. omega (
      arith,
      none,
      sum_changed-le (weigh (strangers is_one v.lkid)) (resource_after_withdrawals (w ∷ []))
          (withdrawn_named (strangers is_one v.lkid) (strangers_named is_one v.lkid) (w ∷ [])) resources,
    ))
    withdrawals nothing

-- nor do several
withdrawals_keep : (is_one : ℕ → Bool) (pid lkid : ℕ) → is_one pid ≡ false → (withdrawals : List Withdrawal) → OfOneEach withdrawals
    → (resources : List Resource) → AllByRecursion (λ w. NoStrangers is_one resources w.lkid) withdrawals
    → sum_by (weigh (locks pid lkid)) resources ≤ sum_by (weigh (locks pid lkid)) (map (resource_after_withdrawals withdrawals) resources)
withdrawals_keep is_one pid lkid differs [] apart resources nothing = omega (arith, ap (sum_by (weigh (locks pid lkid))) (map-id resources))
withdrawals_keep is_one pid lkid differs (w ∷ withdrawals) apart resources nothing =
    let after : List Resource = map (resource_after_withdrawals (w ∷ [])) resources in
    omega (
      arith,
      all_withdrawn_keep is_one pid lkid w differs resources nothing.0,
      withdrawals_keep is_one pid lkid differs withdrawals apart.1 after (still_no_strangers is_one w resources withdrawals nothing.1),
      ap (sum_by (weigh (locks pid lkid))) (all_one_after_another w withdrawals apart.0 resources),
    )

-- ---- the steps

-- of endings that are all grants there is nothing to say
grants_alone : (step : Step) (choice : Option LockState) (endings : List Ending) → AllByRecursion (λ ending. IsGrant ending.how) endings
    → AllByRecursion (λ ending. (IsGrant ending.how → ⊥) → IsConcerned step choice ending.pid) endings
grants_alone step choice endings each =
    each_weaker (λ ending. IsGrant ending.how) (λ ending. (IsGrant ending.how → ⊥) → IsConcerned step choice ending.pid)
    (λ ending grants no. absurd (no grants)) endings each

-- the grant at once of a row, if it is granted at once
at_once_alone : (step : Step) (b : Bool) (row : LockState) → AllByRecursion (λ ending. IsGrant ending.how) (cond b (grant_endings true row) [])
at_once_alone step true row = of_want row.want
  where
    of_want : (want : Option Request)
        → AllByRecursion (λ ending. IsGrant ending.how)
        (wanted_endings (by_grant (grant_act row.held row.want)) true row.lkid row.pid want)
    of_want None = tt
    of_want (Some request) = (tt, tt)
at_once_alone step false row = tt

-- what is so of a step that is made is so of the step
abbrev IsLeftAlone : State → Step → Option LockState → Stepped → Type 0
IsLeftAlone s step choice made =
    AllByRecursion (λ ending. (IsGrant ending.how → ⊥) → IsConcerned step choice ending.pid) made.endings
    × ((pid lkid : ℕ) → (IsConcerned step choice pid → ⊥) → sum_by (weigh (locks pid lkid)) s.resources ≤ sum_by (weigh (locks pid lkid)) made.state.resources)

-- a change whose endings and locks are left alone, once it is swept
swept_alone : (s : State) (step : Step) (choice : Option LockState) (change : Stepped)
    → AllByRecursion (λ ending. (IsGrant ending.how → ⊥) → IsConcerned step choice ending.pid) change.endings
    → ((pid lkid : ℕ) → (IsConcerned step choice pid → ⊥)
    → sum_by (weigh (locks pid lkid)) s.resources ≤ sum_by (weigh (locks pid lkid)) change.state.resources)
    → IsLeftAlone s step choice (stepped_after_sweep change)
swept_alone s step choice change ends kept = (
  each_append (λ ending. (IsGrant ending.how → ⊥) → IsConcerned step choice ending.pid) change.endings (sweep_endings change.state.resources) ends
      (grants_alone step choice (sweep_endings change.state.resources)
      (swept_ends change.state.resources (resources_after_sweep change.state.processes change.state.resources) (sweep_endings change.state.resources)
      (sweep_in_order change.state.processes change.state.resources))),
  λ pid lkid stranger.
      omega (arith, kept pid lkid stranger, swept_named (locks pid lkid) (locks_named pid lkid) change.state.processes change.state.resources),
)

-- two numbers that are not the same
no_caller : (a b : ℕ) → (a ≡ b → ⊥) → (a == b) ≡ false
no_caller a b differs = elim (eqb_tells a b) [
  | inl same ↦ absurd (differs same.1)
  | inr other ↦ other.0
]

-- a search ends the request of its victim alone, and takes at most its lock away
searched_alone : (s : State) → Apart s → (node : ℕ) (choice : Option LockState) → IsVictim s choice
    → IsLeftAlone s (Search node) choice (stepped_after_sweep (step_change s (Search node) choice))
unfolding search_change
searched_alone s apart node None nobody =
    swept_alone s (Search node) None (step_change s (Search node) None) tt
    (λ pid lkid stranger. withdrawals_keep (λ _. false) pid lkid refl [] tt s.resources tt)
searched_alone s apart node (Some victim) deadlocked =
    let is_its : ℕ → Bool = is_owner victim in
    let withdrawals : List Withdrawal = victim_withdrawals (Some victim) in
    let its : NoStrangers is_its s.resources victim.lkid = none_strange is_its s apart victim.lkid (deadlocked_stands s victim deadlocked.0) in
    swept_alone s (Search node) (Some victim) (step_change s (Search node) (Some victim))
    (each_weaker (IsTheirs is_its) (λ ending. (IsGrant ending.how → ⊥) → ending.pid ≡ victim.pid) (λ ending is _. eqb-true ending.pid victim.pid is)
    (search_endings s (Some victim)) (withdrawn_are_theirs is_its withdrawals s.resources (its, tt)))
    (λ pid lkid stranger. withdrawals_keep is_its pid lkid (no_caller pid victim.pid stranger) withdrawals (victims_apart (Some victim)) s.resources (its, tt))

left_alone : (s : State) → Apart s → (step : Step) (choice : Option LockState) → IsChoice s step choice → step_refusal s step ≡ None
    → IsLeftAlone s step choice (stepped_after_sweep (step_change s step choice))
unfolding declare_change set_change take_change enq_change enq_resource convert_change deq_change state_after_rundown
left_alone s apart (Declare d) choice chosen passed = swept_alone s (Declare d) choice (step_change s (Declare d) choice) tt (λ pid lkid stranger. omega arith)
left_alone s apart (SetValue v) choice chosen passed =
    swept_alone s (SetValue v) choice (step_change s (SetValue v) choice) tt (λ pid lkid stranger. omega arith)
left_alone s apart (Enq e) choice chosen passed =
    swept_alone s (Enq e) choice (step_change s (Enq e) choice)
    (grants_alone (Enq e) choice (enq_endings s e) (at_once_alone (Enq e) (enq_at_once s e) (enq_row s e)))
    (λ pid lkid stranger.
    omega (
      arith,
      entered_among_weighs (locks pid lkid) (λ ending. 0)
          (grant_keeps (locks pid lkid) (locks_named pid lkid)) s.next_serial (enq_site s e) (enq_row s e)
          (enq_at_once s e) s.resources,
      sum_of_zero {X = Ending} (enq_endings s e),
    ))
left_alone s apart (Convert c) choice chosen passed =
    let admitted = admission_of s c passed in
    let a : ConversionAdmission = admitted.0 in
    subst (λ (there : Option ConversionAdmission). IsLeftAlone s (Convert c) choice (stepped_after_sweep (conversion_change s c there))) (sym admitted.1)
    (swept_alone s (Convert c) choice (conversion_change s c (Some a))
    (grants_alone (Convert c) choice (conversion_endings a)
    (at_once_alone (Convert c) a.at_once (wanting_row a.row a.request)))
    (λ pid lkid stranger. all_converted_keep pid lkid c.pid (convert_lkid s c) a.request a.at_once
    (convert_blocks s c a).value_block s.resources (apart.one_row (convert_lkid s c))))
left_alone s apart (Deq d) choice chosen passed =
    let theirs = dequeued_are_theirs s d apart passed in
    swept_alone s (Deq d) choice (step_change s (Deq d) choice)
    (each_weaker (IsTheirs (is_caller d)) (λ ending. (IsGrant ending.how → ⊥)
    → ending.pid ≡ d.pid) (λ ending is _. eqb-true ending.pid d.pid is) (deq_endings s d)
    (withdrawn_are_theirs (is_caller d) (withdrawals_of s d) s.resources theirs))
    (λ pid lkid stranger. withdrawals_keep (is_caller d) pid lkid (no_caller pid d.pid stranger) (withdrawals_of s d) (dequeues_apart s d) s.resources theirs)
left_alone s apart (Rundown pid) choice chosen passed =
    swept_alone s (Rundown pid) choice (step_change s (Rundown pid) choice)
    (each_weaker (IsTheirs (is_ended_by pid)) (λ ending. (IsGrant ending.how → ⊥) → ending.pid ≡ pid) (λ ending is _. eqb-true ending.pid pid is)
    (rundown_endings (is_ended_by pid) s) (rundown_ends_are_theirs (is_ended_by pid) s apart))
    (λ other lkid stranger. withdrawals_keep (is_ended_by pid) other lkid (no_caller other pid stranger) (rundowns (is_ended_by pid) s)
    (rundowns_apart (is_ended_by pid) s) s.resources (rundowns_are_theirs (is_ended_by pid) s apart))
left_alone s apart (Leave node) choice chosen passed =
    swept_alone s (Leave node) choice (step_change s (Leave node) choice)
    (each_weaker (IsTheirs (is_of_node node)) (λ ending. (IsGrant ending.how → ⊥) → ending.pid / 65536 ≡ node)
    (λ ending is _. eqb-true (ending.pid / 65536) node is)
    (rundown_endings (is_of_node node) s) (rundown_ends_are_theirs (is_of_node node) s apart))
    (λ other lkid stranger. withdrawals_keep (is_of_node node) other lkid (no_caller (other / 65536) node stranger) (rundowns (is_of_node node) s)
    (rundowns_apart (is_of_node node) s) s.resources (rundowns_are_theirs (is_of_node node) s apart))
left_alone s apart (Search node) choice chosen passed =
    searched_alone s apart node choice (victim_of s choice (search_refusal s node) passed chosen)
left_alone s apart (Take pid) choice chosen passed = swept_alone s (Take pid) choice (step_change s (Take pid) choice) tt (λ process lkid stranger. omega arith)

-- after every run
pub left_alone_always : (history : History) (old : State) → Run history old → (step : Step) (choice : Option LockState)
    → IsChoice old step choice → OthersAreLeftAlone old step choice
left_alone_always history old run step choice chosen =
    let so = of_refusal (step_refusal old step) (λ passed. left_alone old (apart_always history old run) step choice chosen passed) in
    record { endings = so.0; locks = so.1 }
  where
    told : (made : Stepped) → IsLeftAlone old step choice made → All (λ ending. (IsGrant ending.how → ⊥) → IsConcerned step choice ending.pid) made.endings
    told made so = All-from_recursion (λ ending. (IsGrant ending.how → ⊥) → IsConcerned step choice ending.pid) made.endings so.0

    of_refusal : (refusal : Option Cond) → (refusal ≡ None → IsLeftAlone old step choice (stepped_after_sweep (step_change old step choice)))
        → (All (λ ending. (IsGrant ending.how → ⊥) → IsConcerned step choice ending.pid) (refused_or refusal old (step_change old step choice)).endings)
        × ((pid lkid : ℕ) → (IsConcerned step choice pid → ⊥) → sum_by (weigh (locks pid lkid)) old.resources
        ≤ sum_by (weigh (locks pid lkid)) (refused_or refusal old (step_change old step choice)).state.resources)
    of_refusal None so = (told (stepped_after_sweep (step_change old step choice)) (so refl), (so refl).1)
    of_refusal (Some refusal) so = (
      All-from_recursion (λ ending. (IsGrant ending.how → ⊥) → IsConcerned step choice ending.pid) [] tt,
      λ pid lkid stranger. omega arith,
    )
