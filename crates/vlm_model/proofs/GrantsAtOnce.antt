-- A new request that is granted at once overtakes no queued request, except with EXPEDITE at NL.
use Rattle.std.proofs.Common.{◌≡◌, ◌≢◌, ◌≤◌, ◌+◌, ◌||◌, ℕ, zero, suc, Bool, true, false, not, List, [], ◌∷◌, ◌++◌, cond}
use Rattle.std.proofs.Common.{Option, None, Some, refl, sym, subst, ap, inl, inr, ⊎_elim, ◌∙◌, arith}
use Rattle.std.specs.Prelude.{◌==◌, ◌&&◌, All, unwrap_or}
use Rattle.std.specs.Cmp.Lexicographic.{bytes_decides}
use Rattle.std.specs.List.{AllByRecursion, filter, find, flat_map, list_all, sum_by}
use Rattle.std.proofs.lemmas.Bool.{and_parts, cond_both, cond-false, eqb-true, eq-eqb, or_cases}
use Rattle.std.proofs.lemmas.Bool.Decides.{eqb_tells}
use Rattle.std.proofs.lemmas.List.Elements.{All-from_recursion}
use Rattle.std.proofs.lemmas.List.Sums.{sum_by-cons}
use Rattle.vlm_words.specs.declared.conditions.Cond.{Cond}
use Rattle.vlm_words.specs.declared.locks.Request.{Request}
use Rattle.vlm_words.specs.declared.locks.LockState.{LockState}
use Rattle.vlm_words.specs.declared.modes.Mode.{Mode}
use Rattle.vlm_words.specs.declared.resources.Domain.{Domain}
use Rattle.vlm_words.specs.declared.resources.Domain.TheVariants.{Group, System}
use Rattle.vlm_words.specs.declared.resources.Key.{Key}
use Rattle.vlm_words.specs.declared.steps.Conversion.{Conversion}
use Rattle.vlm_words.specs.declared.steps.Dequeue.{Dequeue}
use Rattle.vlm_words.specs.declared.steps.NewRequest.{NewRequest}
use Rattle.vlm_words.specs.declared.steps.Step.TheVariants.{Declare, SetValue, Enq, Convert, Deq, Rundown, Leave, Search, Take}
use Rattle.vlm_words.specs.declared.steps.Step.{Step}
use Rattle.vlm_words.specs.Flags.{expedite, flag_bits, has_flag, quecvt, system}
use Rattle.vlm_words.specs.State.{Process, Resource, State, process_of}
use Rattle.vlm_model.specs.Endings.{Ending, How, row_endings, wanted_endings}
use Rattle.vlm_words.specs.Rows.{fits, is_beside, is_empty, is_lock_of, rows_of, rows_without, wanting_row}
use Rattle.vlm_model.specs.Grants.{grant_endings}
use Rattle.vlm_model.specs.Sweeps.{sweep_endings}
use Rattle.vlm_words.specs.Resources.{IsKeyed, is_at, is_domain, new_resource}
use Rattle.vlm_model.specs.Checks.{holds_lock}
use Rattle.vlm_model.specs.Trees.{caller_group, enq_site, parent_lkid, parent_resource, root_domain, site_below}
use Rattle.vlm_model.specs.Enqueue.{enq_at_once, enq_key, enq_refusal, enq_request, enq_resource, enq_row, is_at_once, is_free_for}
use Rattle.vlm_model.specs.Convert.{ConversionAdmission, admission_among, admission_or, conversion_endings}
use Rattle.vlm_model.specs.Convert.{convert_admission, convert_lkid, convert_request, converts_at_once}
use Rattle.vlm_model.specs.Dequeue.{deq_endings, withdrawals_of}
use Rattle.vlm_model.specs.Rundown.{is_ended_by, rundowns}
use Rattle.vlm_words.specs.Steps.{is_of_node}
use Rattle.vlm_model.specs.Withdrawals.{Withdrawal, queue_endings, withdrawal_endings, withdrawn_endings}
use Rattle.vlm_model.specs.Stepped.{IsChoice, Stepped, conversion_change, refused_or, step_change, step_refusal, stepped, stepped_after_sweep}
use Rattle.vlm_model.specs.Runs.{History, Run}
use Rattle.vlm_model.specs.Laws.{ConvertsInTurn, EntersInTurn, GrantsFollowQueueOrder, IsAskedFor, IsBeside, IsFreeFor}
use Rattle.vlm_model.specs.Laws.{IsGrant, IsGrantedInTurn, IsRootDomain, Stands, StandsAsAskedFor, SweptInOrder}
use Rattle.vlm_model.proofs.Each.{Any-none, Any-cases, Found, found_at, each_append, each_passes, each_weaker}
use Rattle.vlm_model.proofs.Pairs.{EachPair}
use Rattle.vlm_model.proofs.PassedChecks.{expedited_is_null, second_passes}
use Rattle.vlm_model.proofs.Always.{admission_of}
use Rattle.vlm_model.proofs.Admissions.{admitted_request, some_same}
use Rattle.vlm_model.proofs.NothingLeft.{is_empty-true}
use Rattle.vlm_model.proofs.Weights.{weigh}
use Rattle.vlm_model.proofs.IdsApart.{Apart, apart_always, stands, standing}
use Rattle.vlm_model.proofs.Counts.{found_stands}
use Rattle.vlm_model.proofs.Keys.{Placed, HaveTwoKeys, enq_keyed, one_key, placed_always}
use Rattle.vlm_model.proofs.Withdrawing.{GrantsNothing, dequeues_grant_nothing, each_end, rundowns_grant_nothing}
use Rattle.vlm_model.proofs.Holders.{IsHolder, only_holder}
use Rattle.vlm_model.proofs.InOrder.{sweep_in_order}
use Rattle.vlm_model.specs.Search.{victim_withdrawals}
use Rattle.vlm_model.proofs.Victims.{victims_grant_nothing}

-- what the step's own endings are to be
abbrev pub InTurn : State → Step → Ending → Type 0
InTurn s step ending = IsGrant ending.how → (ending.at_once ≡ true) × IsGrantedInTurn s step ending

-- a mode that passes the test of what is held is beside it
beside : (mode : Mode) (held : Option Request) → is_beside mode held ≡ true → IsBeside mode held
beside mode None passed = tt
beside mode (Some held) passed = passed

-- a mode that all rows pass is beside each
beside_each : (mode : Mode) (rows : List LockState) → list_all (λ row. is_beside mode row.held) rows ≡ true
    → AllByRecursion (λ row. IsBeside mode row.held) rows
beside_each mode rows passed =
    each_weaker (λ row. is_beside mode row.held ≡ true) (λ row. IsBeside mode row.held) (λ row is. beside mode row.held is) rows
    (each_passes (λ row. is_beside mode row.held) rows passed)

-- a resource that is free for a request
free_for : (request : Request) (r : Resource) → is_free_for request r ≡ true → IsFreeFor request.mode r
unfolding fits
free_for request r free =
    let parts : (fits request.mode r.granted r.converting && is_empty r.converting ≡ true) × (is_empty r.waiting ≡ true) = and_parts _ _ free in
    let first = and_parts (fits request.mode r.granted r.converting) (is_empty r.converting) parts.0 in
    let fitting = and_parts (list_all (λ row. is_beside request.mode row.held) r.granted)
    (list_all (λ row. is_beside request.mode row.held) r.converting) first.0 in
    record {
      no_conversions = is_empty-true r.converting first.1;
      nobody_waits = is_empty-true r.waiting parts.1;
      beside = All-from_recursion (λ row. IsBeside request.mode row.held) r.granted (beside_each request.mode r.granted fitting.0);
    }

-- where keys are apart, a resource under the key is the one that is found
pub found_under : (domain : Domain) (key : Key) → IsKeyed domain key → (resources : List Resource) → EachPair HaveTwoKeys resources
    → AllByRecursion (λ r. is_at key r ≡ true → find (is_at key) resources ≡ Some r) resources
found_under domain key keyed [] apart = tt
found_under domain key keyed (r ∷ rest) apart =
    ((λ here. rw here refl), behind rest (found_under domain key keyed rest apart.1) apart.0)
  where
    elsewhere : (other : Resource) → HaveTwoKeys r other → is_at key other ≡ true → (b : Bool) → is_at key r ≡ b → b ≡ false
    elsewhere other two at true is = absurd (two (one_key domain key r other keyed is at))
    elsewhere other two at false is = refl

    behind : (others : List Resource) → AllByRecursion (λ x. is_at key x ≡ true → find (is_at key) rest ≡ Some x) others
        → AllByRecursion (HaveTwoKeys r) others → AllByRecursion (λ x. is_at key x ≡ true → find (is_at key) (r ∷ rest) ≡ Some x) others
    behind [] each two = tt
    behind (x ∷ xs) each two = (
      (λ at. cond-false (is_at key r) (Some r) (find (is_at key) rest) (elsewhere x two.0 at (is_at key r) refl) ∙ each.0 at),
      behind xs each.1 two.1,
    )

-- the process that is found has the ID that is looked for
pub found_pid : (pid : ℕ) (processes : List Process) (p : Process) → process_of processes pid ≡ Some p → p.pid ≡ pid
found_pid pid processes p is = eqb-true p.pid pid (found_at (λ (x : Process). x.pid == pid) processes p is).passes

-- the domain of a root is the one that is asked for
in_root_domain : (s : State) (e : NewRequest) (caller : Process) → process_of s.processes e.pid ≡ Some caller → (domain : Domain) (flagged : Bool)
    → IsRootDomain flagged caller domain → is_domain domain (cond flagged System (Group (caller_group s e.pid))) ≡ true
in_root_domain s e caller lives domain true is = rw is refl
in_root_domain s e caller lives domain false is = rw is (rw lives (eq-eqb caller.group caller.group refl))

-- no successor is 0
pub no_zero : (n : ℕ) → (suc n == 0) ≡ false
no_zero n = elim (eqb_tells (suc n) 0) [ inl same ↦ absurd (omega (arith, same.1)) | inr differs ↦ differs.0 ]

-- the resource of the parent lock, by its ID
pub parent_by_lkid : (s : State) (e : NewRequest) (lkid : ℕ) → parent_lkid s e ≡ lkid
    → parent_resource s e.pid (parent_lkid s e) ≡ cond (lkid == 0) None (find (holds_lock e.pid lkid) s.resources)
unfolding parent_resource
parent_by_lkid s e lkid is = ap (λ (n : ℕ). cond (n == 0) None (find (holds_lock e.pid n) s.resources)) is

-- the resource that is asked for stands under the request's key
asked_at : (s : State) (e : NewRequest) (r : Resource) → Apart s → IsAskedFor s e r → is_at (enq_key s e) r ≡ true
asked_at s e r apart asked = of_lkid (parent_lkid s e) refl asked.stands
  where
    of_parent : (parent : Option Resource) → parent_resource s e.pid (parent_lkid s e) ≡ parent
        → is_at (site_below (root_domain s e.pid e.flags) e.name parent).key r ≡ true → is_at (enq_key s e) r ≡ true
    of_parent parent is at = subst (λ (p : Option Resource). is_at (site_below (root_domain s e.pid e.flags) e.name p).key r ≡ true) (sym is) at

    of_lkid : (lkid : ℕ) → parent_lkid s e ≡ lkid → StandsAsAskedFor s e asked.caller lkid r → is_at (enq_key s e) r ≡ true
    of_lkid zero is there =
        of_parent None (parent_by_lkid s e 0 is)
        (rw (eq-eqb r.parent 0 there.0) (rw (in_root_domain s e asked.caller asked.lives r.domain (has_flag e.flags system) there.1)
        ((bytes_decides r.name e.name).1 asked.name)))
    of_lkid (suc parent) is there =
        let up : IsHolder asked.caller.pid (suc parent) (λ up. r.parent ≡ up.serial) s.resources =
        only_holder asked.caller.pid (suc parent) (λ up. r.parent ≡ up.serial) s.resources (apart.one_row (suc parent)) there in
        let found : find (holds_lock e.pid (suc parent)) s.resources ≡ Some up.holder =
        ap (λ (pid : ℕ). find (holds_lock pid (suc parent)) s.resources) (sym (found_pid e.pid s.processes asked.caller asked.lives)) ∙ up.found in
        let named : find (holds_lock e.pid (suc parent)) s.resources ≡ parent_resource s e.pid (parent_lkid s e) =
        sym (parent_by_lkid s e (suc parent) is ∙ cond-false (suc parent == 0) None (find (holds_lock e.pid (suc parent)) s.resources) (no_zero parent)) in
        of_parent (Some up.holder) (sym named ∙ found)
        (rw (eq-eqb r.parent up.holder.serial up.so) ((bytes_decides r.name e.name).1 asked.name))

-- a new request that is granted at once overtakes nobody, or is expedited at NL
pub enters_in_turn : (s : State) (e : NewRequest) → Apart s → Placed s → enq_refusal s e ≡ None → enq_at_once s e ≡ true → EntersInTurn s e
unfolding is_at_once enq_resource
enters_in_turn s e apart placed passed at_once =
    ⊎_elim (λ flagged. inr (flagged, expedited_is_null s e passed flagged))
    (λ free.
    inl (All-from_recursion (λ r. IsAskedFor s e r → IsFreeFor e.mode r) s.resources
    (each_weaker
    (λ r. is_at (enq_key s e) r ≡ true → find (is_at (enq_key s e)) s.resources ≡ Some r)
    (λ r. IsAskedFor s e r → IsFreeFor e.mode r)
    (λ r found asked.
    free_for (enq_request s e) r
    (subst (λ (there : Option Resource).
    is_free_for (enq_request s e) (unwrap_or there (new_resource s.next_serial (enq_site s e))) ≡ true)
    (found (asked_at s e r apart asked)) free))
    s.resources (found_under (enq_site s e).domain (enq_key s e) (enq_keyed s e placed) s.resources placed.two_keys))))
    (or_cases (has_flag e.flags expedite) (is_free_for (enq_request s e) (enq_resource s e)) at_once)

-- a lock that stands in a queue is counted
pub stands_counted : (lkid : ℕ) (rows : List LockState) → Stands lkid rows → 1 ≤ sum_by (stands lkid) rows
stands_counted lkid [] there = absurd (Any-none (λ row. row.lkid ≡ lkid) there)
stands_counted lkid (row ∷ rows) there =
    elim (Any-cases (λ (x : LockState). x.lkid ≡ lkid) row rows there) [
      | inl here ↦ (let one : stands lkid row ≡ 1 = ap (λ (b : Bool). cond b 1 0) (eq-eqb row.lkid lkid here) in
          omega (arith, sum_by-cons (stands lkid) row rows))
      | inr later ↦ omega (arith, stands_counted lkid rows later, sum_by-cons (stands lkid) row rows)
    ]

-- an admitted conversion is of a lock that stands on these resources
pub admitted_stands : (request : Request) (pid lkid : ℕ) (a : ConversionAdmission) (resources : List Resource)
    → admission_among request pid lkid resources ≡ Some a → (1 ≤ standing lkid resources) × (a.row.lkid ≡ lkid)
admitted_stands request pid lkid a [] admitted = cc
admitted_stands request pid lkid a (r ∷ rest) admitted =
    of_found (find (is_lock_of pid lkid) r.granted) refl (admission_among request pid lkid rest) (admitted_stands request pid lkid a rest) admitted
  where
    of_found : (found : Option LockState) → find (is_lock_of pid lkid) r.granted ≡ found → (later : Option ConversionAdmission)
        → (later ≡ Some a → (1 ≤ standing lkid rest) × (a.row.lkid ≡ lkid)) → admission_or request r found later ≡ Some a
        → (1 ≤ standing lkid (r ∷ rest)) × (a.row.lkid ≡ lkid)
    of_found None is later behind at =
        let more : (1 ≤ standing lkid rest) × (a.row.lkid ≡ lkid) = behind at in
        (omega (arith, more.0, sum_by-cons (weigh (stands lkid)) r rest), more.1)
    of_found (Some row) is later behind at =
        let there : Found (is_lock_of pid lkid) r.granted row = found_at (is_lock_of pid lkid) r.granted row is in
        let named : row.lkid ≡ lkid = eqb-true row.lkid lkid (and_parts (row.lkid == lkid) (row.pid == pid) there.passes).0 in (
          omega (arith, found_stands pid lkid r.granted row there, sum_by-cons (weigh (stands lkid)) r rest),
          sym (ap (λ (b : ConversionAdmission). b.row.lkid) (some_same _ a at)) ∙ named,
        )

-- where a lock has one row, the resource where it is granted is that of its conversion
pub only_there : (request : Request) (pid lkid : ℕ) (a : ConversionAdmission) (resources : List Resource) → standing lkid resources ≤ 1
    → admission_among request pid lkid resources ≡ Some a
    → AllByRecursion (λ r. Stands lkid r.granted → r ≡ a.resource) resources
only_there request pid lkid a [] one admitted = tt
only_there request pid lkid a (r ∷ rest) one admitted =
    of_found (find (is_lock_of pid lkid) r.granted) refl admitted
    (λ later. only_there request pid lkid a rest (omega (arith, sum_by-cons (weigh (stands lkid)) r rest)) later)
    (λ later. (admitted_stands request pid lkid a rest later).0)
  where
    none_there : (others : List Resource) → standing lkid others ≡ 0 → AllByRecursion (λ x. Stands lkid x.granted → x ≡ a.resource) others
    none_there [] none = tt
    none_there (x ∷ xs) none =
        let all : standing lkid (x ∷ xs) ≡ weigh (stands lkid) x + standing lkid xs = sum_by-cons (weigh (stands lkid)) x xs in
        ((λ there. absurd (omega (arith, all, none, stands_counted lkid x.granted there))), none_there xs (omega (arith, all, none)))

    of_found : (found : Option LockState) → find (is_lock_of pid lkid) r.granted ≡ found
        → admission_or request r found (admission_among request pid lkid rest) ≡ Some a
        → (admission_among request pid lkid rest ≡ Some a → AllByRecursion (λ x. Stands lkid x.granted → x ≡ a.resource) rest)
        → (admission_among request pid lkid rest ≡ Some a → 1 ≤ standing lkid rest)
        → AllByRecursion (λ x. Stands lkid x.granted → x ≡ a.resource) (r ∷ rest)
    of_found None is at behind counted =
        ((λ there. absurd (omega (arith, one, counted at, stands_counted lkid r.granted there, sum_by-cons (weigh (stands lkid)) r rest))), behind at)
    of_found (Some row) is at behind counted =
        let found : Found (is_lock_of pid lkid) r.granted row = found_at (is_lock_of pid lkid) r.granted row is in (
          (λ _. ap (λ (b : ConversionAdmission). b.resource) (some_same _ a at)),
          none_there rest (omega (arith, one, found_stands pid lkid r.granted row found, sum_by-cons (weigh (stands lkid)) r rest)),
        )

-- an admitted conversion is granted at once where it fits on its resource
pub admitted_at_once : (request : Request) (pid lkid : ℕ) (a : ConversionAdmission) (resources : List Resource)
    → admission_among request pid lkid resources ≡ Some a → a.at_once ≡ converts_at_once request a.row.lkid a.resource
admitted_at_once request pid lkid a [] admitted = cc
admitted_at_once request pid lkid a (r ∷ rest) admitted =
    of_found (find (is_lock_of pid lkid) r.granted) (admission_among request pid lkid rest) (admitted_at_once request pid lkid a rest) admitted
  where
    of_found : (found : Option LockState) (later : Option ConversionAdmission)
        → (later ≡ Some a → a.at_once ≡ converts_at_once request a.row.lkid a.resource) → admission_or request r found later ≡ Some a
        → a.at_once ≡ converts_at_once request a.row.lkid a.resource
    of_found None later behind at = behind at
    of_found (Some row) later behind at =
        subst (λ (b : ConversionAdmission). b.at_once ≡ converts_at_once request b.row.lkid b.resource) (some_same _ a at) refl

-- what holds of each element that a filter keeps holds of each that passes its test
each_unfiltered : {X : Type 0} (P : X → Type 0) (test : X → Bool) (xs : List X) → AllByRecursion P (filter test xs)
    → AllByRecursion (λ x. test x ≡ true → P x) xs
each_unfiltered P test [] each = tt
each_unfiltered {X} P test (x ∷ xs) each =
    of_test (test x) refl each (λ kept. each_unfiltered P test xs kept)
  where
    of_test : (b : Bool) → test x ≡ b → AllByRecursion P (cond b (x ∷ filter test xs) (filter test xs))
        → (AllByRecursion P (filter test xs) → AllByRecursion (λ y. test y ≡ true → P y) xs)
        → AllByRecursion (λ y. test y ≡ true → P y) (x ∷ xs)
    of_test true is kept behind = ((λ _. kept.0), behind kept.1)
    of_test false is kept behind = ((λ passes. cc), behind kept)

-- another lock is not this one
not_this : (lkid : ℕ) (row : LockState) → row.lkid ≢ lkid → not (row.lkid == lkid) ≡ true
not_this lkid row other =
    elim (eqb_tells row.lkid lkid) [ inl same ↦ absurd (other same.1) | inr differs ↦ ap not differs.0 ]

-- a conversion that is granted at once fits beside all other locks, and with QUECVT overtakes no conversion
pub converts_in_turn : (c : Conversion) (request : Request) (lkid : ℕ) (r : Resource) → request.mode ≡ c.mode → flag_bits request.flags ≡ c.flags
    → converts_at_once request lkid r ≡ true → ConvertsInTurn c lkid r
unfolding converts_at_once fits
converts_in_turn c request lkid r mode flags at_once =
    let parts : (fits request.mode (rows_without lkid r.granted) r.converting ≡ true)
    × ((not (has_flag (flag_bits request.flags) quecvt) || is_empty r.converting) ≡ true) = and_parts _ _ at_once in
    let fitting = and_parts (list_all (λ row. is_beside request.mode row.held) (rows_without lkid r.granted))
    (list_all (λ row. is_beside request.mode row.held) r.converting) parts.0 in
    let granted : AllByRecursion (λ row. row.lkid ≢ lkid → IsBeside request.mode row.held) r.granted =
    each_weaker (λ row. not (row.lkid == lkid) ≡ true → IsBeside request.mode row.held) (λ row. row.lkid ≢ lkid → IsBeside request.mode row.held)
    (λ row kept other. kept (not_this lkid row other)) r.granted
    (each_unfiltered (λ row. IsBeside request.mode row.held) (λ row. not (row.lkid == lkid)) r.granted
    (beside_each request.mode (rows_without lkid r.granted) fitting.0)) in
    let converting : AllByRecursion (λ row. row.lkid ≢ lkid → IsBeside request.mode row.held) r.converting =
    each_weaker (λ row. IsBeside request.mode row.held) (λ row. row.lkid ≢ lkid → IsBeside request.mode row.held) (λ row is _. is) r.converting
    (beside_each request.mode r.converting fitting.1) in
    record {
      beside =
          subst (λ (m : Mode). All (λ row. row.lkid ≢ lkid → IsBeside m row.held) (r.granted ++ r.converting)) mode
          (All-from_recursion (λ row. row.lkid ≢ lkid → IsBeside request.mode row.held) (r.granted ++ r.converting)
          (each_append (λ row. row.lkid ≢ lkid → IsBeside request.mode row.held) r.granted r.converting granted converting));
      overtakes_none = λ flagged.
          is_empty-true r.converting
          (second_passes (has_flag (flag_bits request.flags) quecvt) (is_empty r.converting) parts.1
          (ap (λ (bits : ℕ). has_flag bits quecvt) flags ∙ flagged));
    }

-- the endings of an admitted conversion are in their turn
conversion_in_turn : (s : State) (c : Conversion) (a : ConversionAdmission) → Apart s → convert_admission s c ≡ Some a
    → AllByRecursion (InTurn s (Convert c)) (conversion_endings a)
unfolding convert_admission
conversion_in_turn s c a apart admitted =
    cond_both a.at_once (grant_endings true (wanting_row a.row a.request)) [] (AllByRecursion (InTurn s (Convert c)))
    (λ at_once. ((λ _. (refl, (ap (λ (q : Request). q.number) asks, ap (λ (q : Request). q.mode) asks, named, turns at_once))), tt)) (λ _. tt)
  where
    asks : a.request ≡ convert_request s c
    asks = admitted_request (convert_request s c) c.pid (convert_lkid s c) a s.resources admitted

    named : a.row.lkid ≡ convert_lkid s c
    named = (admitted_stands (convert_request s c) c.pid (convert_lkid s c) a s.resources admitted).1

    turn : a.at_once ≡ true → ConvertsInTurn c a.row.lkid a.resource
    turn at_once =
        converts_in_turn c (convert_request s c) a.row.lkid a.resource refl refl
        (sym (admitted_at_once (convert_request s c) c.pid (convert_lkid s c) a s.resources admitted) ∙ at_once)

    turns : a.at_once ≡ true → All (λ r. Stands a.row.lkid r.granted → ConvertsInTurn c a.row.lkid r) s.resources
    turns at_once =
        All-from_recursion (λ r. Stands a.row.lkid r.granted → ConvertsInTurn c a.row.lkid r) s.resources
        (each_weaker (λ r. Stands (convert_lkid s c) r.granted → r ≡ a.resource) (λ r. Stands a.row.lkid r.granted → ConvertsInTurn c a.row.lkid r)
        (λ r only there.
        subst (ConvertsInTurn c a.row.lkid) (sym (only (subst (λ (n : ℕ). Stands n r.granted) named there))) (turn at_once))
        s.resources (only_there (convert_request s c) c.pid (convert_lkid s c) a s.resources (apart.one_row (convert_lkid s c)) admitted))

-- requests that end so, and are not granted, are in their turn
ended_in_turn : (s : State) (step : Step) (how : How) → (IsGrant how → ⊥) → (rows : List LockState)
    → AllByRecursion (InTurn s step) (flat_map (row_endings how false) rows)
ended_in_turn s step how withdrawn [] = tt
ended_in_turn s step how withdrawn (row ∷ rows) =
    each_append (InTurn s step) (row_endings how false row) (flat_map (row_endings how false) rows) (here row.want)
    (ended_in_turn s step how withdrawn rows)
  where
    here : (want : Option Request) → AllByRecursion (InTurn s step) (wanted_endings how false row.lkid row.pid want)
    here None = tt
    here (Some request) = ((λ grant. absurd (withdrawn grant)), tt)

-- a withdrawal that grants nothing, as none does, ends nothing out of turn
withdrawal_in_turn : (s : State) (step : Step) (w : Withdrawal) → (IsGrant w.waiting → ⊥) → (IsGrant w.converting → ⊥) → (resources : List Resource)
    → AllByRecursion (InTurn s step) (flat_map (withdrawal_endings w) resources)
withdrawal_in_turn s step w waiting converting [] = tt
withdrawal_in_turn s step w waiting converting (r ∷ rest) =
    each_append (InTurn s step) (withdrawal_endings w r) (flat_map (withdrawal_endings w) rest)
    (each_append (InTurn s step) (queue_endings w.converting w.lkid r.converting) (queue_endings w.waiting w.lkid r.waiting)
    (ended_in_turn s step w.converting converting (rows_of w.lkid r.converting))
    (ended_in_turn s step w.waiting waiting (rows_of w.lkid r.waiting))) (withdrawal_in_turn s step w waiting converting rest)

withdrawals_in_turn : (s : State) (step : Step) (withdrawals : List Withdrawal) → AllByRecursion GrantsNothing withdrawals → (resources : List Resource)
    → AllByRecursion (InTurn s step) (withdrawn_endings withdrawals resources)
withdrawals_in_turn s step withdrawals nothing resources =
    each_end (InTurn s step) withdrawals resources
    (each_weaker GrantsNothing (λ w. AllByRecursion (InTurn s step) (flat_map (withdrawal_endings w) resources))
    (λ w none. withdrawal_in_turn s step w none.1 none.0 resources) withdrawals nothing)

-- a dequeue grants nothing at once
dequeue_in_turn : (s : State) (d : Dequeue) → AllByRecursion (InTurn s (Deq d)) (deq_endings s d)
dequeue_in_turn s d =
    withdrawals_in_turn s (Deq d) (withdrawals_of s d) (dequeues_grant_nothing s d) s.resources

-- the endings of each kind of step that is made are in their turn
each_in_turn : (s : State) → Apart s → Placed s → (step : Step) (choice : Option LockState) → step_refusal s step ≡ None
    → AllByRecursion (InTurn s step) (step_change s step choice).endings
each_in_turn s apart placed (Declare d) choice passed = tt
each_in_turn s apart placed (SetValue v) choice passed = tt
each_in_turn s apart placed (Enq e) choice passed =
    cond_both (enq_at_once s e) (grant_endings true (enq_row s e)) [] (AllByRecursion (InTurn s (Enq e)))
    (λ at_once. ((λ _. (refl, (refl, refl, refl, enters_in_turn s e apart placed passed at_once))), tt)) (λ _. tt)
each_in_turn s apart placed (Convert c) choice passed =
    let admitted = admission_of s c passed in
    subst (λ (a : Option ConversionAdmission). AllByRecursion (InTurn s (Convert c)) (conversion_change s c a).endings) (sym admitted.1)
    (conversion_in_turn s c admitted.0 apart admitted.1)
each_in_turn s apart placed (Deq d) choice passed = dequeue_in_turn s d
each_in_turn s apart placed (Rundown pid) choice passed =
    withdrawals_in_turn s (Rundown pid) (rundowns (is_ended_by pid) s) (rundowns_grant_nothing (is_ended_by pid) s) s.resources
each_in_turn s apart placed (Leave node) choice passed =
    withdrawals_in_turn s (Leave node) (rundowns (is_of_node node) s) (rundowns_grant_nothing (is_of_node node) s) s.resources
each_in_turn s apart placed (Search node) choice passed =
    withdrawals_in_turn s (Search node) (victim_withdrawals choice) (victims_grant_nothing choice) s.resources
each_in_turn s apart placed (Take pid) choice passed = tt

-- a step that is made grants in the order of the queues
follows_queue_order : (s : State) → Apart s → Placed s → (step : Step) (choice : Option LockState)
    → step_refusal s step ≡ None → GrantsFollowQueueOrder s step choice
follows_queue_order s apart placed step choice passed =
    let change : Stepped = step_change s step choice in
    let made : stepped s step choice ≡ stepped_after_sweep change = ap (λ (refusal : Option Cond). refused_or refusal s change) passed in
    record {
      swept_endings = sweep_endings change.state.resources;
      swept =
          subst (λ (t : Stepped). SweptInOrder change.state.resources t.state.resources (sweep_endings change.state.resources)) (sym made)
          (sweep_in_order change.state.processes change.state.resources);
      ends = ap (λ (t : Stepped). t.endings) made;
      at_once = All-from_recursion (InTurn s step) change.endings (each_in_turn s apart placed step choice passed);
    }

-- after every run
pub queue_order_always : (history : History) (old : State) → Run history old
    → (step : Step) (choice : Option LockState) → IsChoice old step choice → step_refusal old step ≡ None → GrantsFollowQueueOrder old step choice
queue_order_always history old run step choice chosen =
    follows_queue_order old (apart_always history old run) (placed_always history old run) step choice
