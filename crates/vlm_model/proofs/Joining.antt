-- A request that joins a queue goes to its end.
use Rattle.std.proofs.Common.{◌≡◌, ◌≤◌, ◌+◌, ℕ, Bool, true, false, not, List, [], ◌∷◌, ◌++◌, map, length, cond, Option}
use Rattle.std.proofs.Common.{None, Some, refl, sym, subst, ap, ◌∙◌, arith}
use Rattle.std.specs.Prelude.{◌==◌, ◌-◌}
use Rattle.std.specs.List.{AllByRecursion, AllZip, find, sum_by, filter, range_with_len}
use Rattle.std.proofs.lemmas.Bool.{and_parts, cond_both, eq-eqb, eqb-true}
use Rattle.std.proofs.lemmas.List.{append-nil}
use Rattle.std.proofs.lemmas.List.Elements.{All-from_recursion}
use Rattle.std.proofs.lemmas.List.Sums.{sum_by-cons}
use Rattle.vlm_words.specs.declared.locks.Request.{Request}
use Rattle.vlm_words.specs.declared.locks.LockState.{LockState}
use Rattle.vlm_words.specs.declared.resources.Site.{Site}
use Rattle.vlm_words.specs.declared.resources.ValueBlock.{ValueBlock}
use Rattle.vlm_words.specs.declared.steps.Step.TheVariants.{Declare, SetValue, Enq, Convert, Deq, Rundown, Leave, Search, Take}
use Rattle.vlm_words.specs.declared.steps.Step.{Step}
use Rattle.vlm_words.specs.State.{Resource, State}
use Rattle.vlm_model.specs.Effects.{with_value_block}
use Rattle.vlm_words.specs.Rows.{granted_row, is_lock_of, rows_of, rows_without, wanting_row}
use Rattle.vlm_model.specs.Grants.{resource_after_grant}
use Rattle.vlm_words.specs.Resources.{is_at, new_resource}
use Rattle.vlm_model.specs.Declare.{declare_change}
use Rattle.vlm_model.specs.SetValue.{set_change}
use Rattle.vlm_model.specs.Take.{take_change}
use Rattle.vlm_model.specs.Trees.{enq_site}
use Rattle.vlm_model.specs.Enqueue.{enq_at_once, enq_change, enq_row, resource_after_entry, resources_after_entry}
use Rattle.vlm_model.specs.Convert.{ConversionAdmission, convert_blocks, convert_change, convert_lkid}
use Rattle.vlm_model.specs.Convert.{resource_after_conversion, resource_after_conversion_of, resource_without_granted}
use Rattle.vlm_model.specs.Withdrawals.{Withdrawal, is_held_by_writer, resource_after_cancel, resource_after_going}
use Rattle.vlm_model.specs.Withdrawals.{resource_after_withdrawals, resource_without, row_after_cancel}
use Rattle.vlm_model.specs.Withdrawals.{value_block_after_writer, resource_after_each, resource_after_writer}
use Rattle.vlm_model.specs.Dequeue.{deq_change, dequeue_lkid, withdrawal_of, withdrawals_of, is_dequeued}
use Rattle.vlm_model.specs.Runs.{History, Run}
use Rattle.vlm_model.specs.Stepped.{IsChoice, conversion_change, step_change, step_refusal}
use Rattle.vlm_model.specs.Joining.{ChangesKeepOrder, HasOwnAlone, JoinsBehind, KeepsOrder, is_own_lock, nobody_joins}
use Rattle.vlm_model.specs.Joining.{one_joins, row_leaves, row_stays, is_lock_of_one}
use Rattle.vlm_model.proofs.Always.{admission_of}
use Rattle.vlm_model.proofs.IdsApart.{Apart, apart_always, standing, stands}
use Rattle.vlm_model.proofs.Each.{Found, found_at, each_filter, each_map, each_so}
use Rattle.vlm_model.proofs.InOrder.{same_resource}
use Rattle.vlm_model.proofs.Keys.{entry_keeps_place}
use Rattle.vlm_model.proofs.Weights.{weigh}
use Rattle.vlm_model.specs.Rundown.{is_ended_by, rundown_of, rundowns, state_after_rundown}
use Rattle.vlm_words.specs.Steps.{is_of_node}
use Rattle.vlm_words.specs.Flags.{cancel, deqall, has_flag}
use Rattle.vlm_model.specs.OwnLocks.{own_lkids}
use Rattle.vlm_words.specs.declared.steps.Dequeue.{Dequeue}
use Rattle.vlm_model.proofs.WhoseLocks.{each_passing}
use Rattle.vlm_model.proofs.PassedChecks.{flags_go_together}
use Rattle.vlm_model.specs.Search.{victim_withdrawals, search_change, deadlock_of}

-- ---- one queue

module _ (own : ℕ → Bool) where
  -- a queue that is left alone
  alone : (rows : List LockState) → JoinsBehind own rows rows
  alone [] = nobody_joins
  alone (row ∷ rows) = row_stays (alone rows)

  -- an own lock joins
  joined : (row : LockState) → own row.lkid ≡ true → (rows : List LockState) → JoinsBehind own rows (rows ++ row ∷ [])
  joined row is [] = one_joins is
  joined row is (first ∷ rows) = row_stays (joined row is rows)

  -- what stands behind a queue whose own locks leave
  left : (lkid : ℕ) → own lkid ≡ true → (behind : List LockState) → JoinsBehind own [] behind → (rows : List LockState)
      → JoinsBehind own rows (rows_without lkid rows ++ behind)
  left lkid is behind joins [] = joins
  left lkid is behind joins (row ∷ rows) = of_test (row.lkid == lkid) refl (left lkid is behind joins rows)
    where
      of_test : (b : Bool) → (row.lkid == lkid) ≡ b → JoinsBehind own rows (rows_without lkid rows ++ behind)
          → JoinsBehind own (row ∷ rows) (cond (not b) (row ∷ rows_without lkid rows) (rows_without lkid rows) ++ behind)
      of_test true here further = row_leaves (ap own (eqb-true row.lkid lkid here) ∙ is) further
      of_test false other further = row_stays further

  -- own locks leave
  gone : (lkid : ℕ) → own lkid ≡ true → (rows : List LockState) → JoinsBehind own rows (rows_without lkid rows)
  gone lkid is rows = subst (JoinsBehind own rows) (append-nil (rows_without lkid rows)) (left lkid is [] nobody_joins rows)

  -- one more behind
  behind_all : (behind : List LockState) → JoinsBehind own [] behind → (rows : List LockState) → JoinsBehind own rows (rows ++ behind)
  behind_all behind joins [] = joins
  behind_all behind joins (row ∷ rows) = row_stays (behind_all behind joins rows)

  -- a resource that is left alone
  kept : (r : Resource) → KeepsOrder own r r
  kept r = record { same = same_resource r; granted = alone r.granted; converting = alone r.converting; waiting = alone r.waiting }

  all_kept : (resources : List Resource) → AllZip (KeepsOrder own) resources resources
  all_kept [] = tt
  all_kept (r ∷ rest) = (kept r, all_kept rest)

  -- each resource that a change keeps
  all_changed : (change : Resource → Resource) (resources : List Resource) → AllByRecursion (λ r. KeepsOrder own r (change r)) resources
      → AllZip (KeepsOrder own) resources (map change resources)
  all_changed change [] each = tt
  all_changed change (r ∷ rest) each = (each.0, all_changed change rest each.1)

-- ---- the changes

-- a new lock enters a queue behind all
entered : (own : ℕ → Bool) (row : LockState) → own row.lkid ≡ true → (at_once : Bool) (r : Resource) → KeepsOrder own r (resource_after_entry row at_once r)
unfolding resource_after_entry
entered own row is at_once r =
    let same = entry_keeps_place row at_once r in
    elim at_once as (λ b. KeepsOrder own r (cond b (resource_after_grant r row) (record r { waiting = r.waiting ++ row ∷ [] }))) [
      | true ↦ record {
        same = record { serial = refl; parent = refl; domain = refl; name = refl; level = refl };
        granted = joined own (granted_row row) is r.granted;
        converting = alone own r.converting;
        waiting = alone own r.waiting;
      }
      | false ↦ record {
        same = record { serial = refl; parent = refl; domain = refl; name = refl; level = refl };
        granted = alone own r.granted;
        converting = alone own r.converting;
        waiting = joined own row is r.waiting;
      }
    ]

-- the resources that were there, and the one that is made, if one is
record Entered (own : ℕ → Bool) (before after : List Resource) : Type 0 where
  kept : List Resource
  made : List Resource
  resources : after ≡ kept ++ made
  order : AllZip (KeepsOrder own) before kept
  alone : AllByRecursion (HasOwnAlone own) made
  at_most_one : length made ≤ 1

all_entered : (own : ℕ → Bool) (serial : ℕ) (site : Site) (row : LockState) → own row.lkid ≡ true → (at_once : Bool) (resources : List Resource)
    → Entered own resources (resources_after_entry serial site row at_once resources)
all_entered own serial site row is at_once [] =
    let first = entered own row is at_once (new_resource serial site) in
    record {
      kept = [];
      made = resource_after_entry row at_once (new_resource serial site) ∷ [];
      resources = refl;
      order = tt;
      alone = (record { granted = first.granted; converting = first.converting; waiting = first.waiting }, tt);
      at_most_one = omega arith;
    }
all_entered own serial site row is at_once (r ∷ rest) =
    elim (is_at site.key r) as
    (λ b. Entered own (r ∷ rest)
    (cond b (resource_after_entry row at_once r ∷ rest) (r ∷ resources_after_entry serial site row at_once rest))) [
      | true ↦ record {
        kept = resource_after_entry row at_once r ∷ rest;
        made = [];
        resources = sym (append-nil (resource_after_entry row at_once r ∷ rest));
        order = (entered own row is at_once r, all_kept own rest);
        alone = tt;
        at_most_one = omega arith;
      }
      | false ↦
          let further = all_entered own serial site row is at_once rest in
          record {
            kept = r ∷ further.kept;
            made = further.made;
            resources = ap (λ (rs : List Resource). r ∷ rs) further.resources;
            order = (kept own r, further.order);
            alone = further.alone;
            at_most_one = further.at_most_one;
          }
    ]

-- a lock that converts leaves the granted queue, and joins behind one queue
converted : (own : ℕ → Bool) (request : Request) (at_once : Bool) (pid lkid : ℕ) → own lkid ≡ true
    → (block : ValueBlock) (r : Resource) (found : Option LockState)
    → find (is_lock_of pid lkid) r.granted ≡ found → KeepsOrder own r (resource_after_conversion_of request at_once lkid block r found)
converted own request at_once pid lkid is block r None at = kept own r
converted own request at_once pid lkid is block r (Some row) at =
    let there : Found (is_lock_of pid lkid) r.granted row = found_at (is_lock_of pid lkid) r.granted row at in
    let its : own row.lkid ≡ true = ap own (eqb-true row.lkid lkid (and_parts (row.lkid == lkid) (row.pid == pid) there.passes).0) ∙ is in
    cond_both at_once (with_value_block block (resource_after_grant (resource_without_granted lkid r) (wanting_row row request)))
    (record (resource_without_granted lkid r) { converting = r.converting ++ wanting_row row request ∷ [] }) (KeepsOrder own r)
    (λ _. record {
      same = record { serial = refl; parent = refl; domain = refl; name = refl; level = refl };
      granted = left own lkid is (granted_row (wanting_row row request) ∷ []) (one_joins its) r.granted;
      converting = alone own r.converting;
      waiting = alone own r.waiting;
    })
    (λ _. record {
      same = record { serial = refl; parent = refl; domain = refl; name = refl; level = refl };
      granted = gone own lkid is r.granted;
      converting = joined own (wanting_row row request) its r.converting;
      waiting = alone own r.waiting;
    })

all_converted : (own : ℕ → Bool) (request : Request) (at_once : Bool) (pid lkid : ℕ) → own lkid ≡ true → (block : ValueBlock) (resources : List Resource)
    → AllByRecursion (λ r. KeepsOrder own r (resource_after_conversion request at_once pid lkid block r)) resources
unfolding resource_after_conversion
all_converted own request at_once pid lkid is block [] = tt
all_converted own request at_once pid lkid is block (r ∷ rest) =
    (converted own request at_once pid lkid is block r (find (is_lock_of pid lkid) r.granted) refl, all_converted own request at_once pid lkid is block rest)

-- a lock that has no row is not found
none_of : (lkid : ℕ) (rows : List LockState) → sum_by (stands lkid) rows ≡ 0 → rows_of lkid rows ≡ []
none_of lkid [] nothing = refl
none_of lkid (x ∷ xs) nothing =
    of_test (x.lkid == lkid) refl (none_of lkid xs (omega (arith, nothing, sum_by-cons (stands lkid) x xs)))
  where
    of_test : (b : Bool) → (x.lkid == lkid) ≡ b → rows_of lkid xs ≡ [] → cond b (x ∷ rows_of lkid xs) (rows_of lkid xs) ≡ []
    of_test true here behind =
        let counted : stands lkid x ≡ 1 = ap (λ (b : Bool). cond b 1 0) here in
        absurd (omega (arith, nothing, counted, sum_by-cons (stands lkid) x xs))
    of_test false other behind = behind

-- of a lock that has at most one row, at most one goes back behind the granted queue
back_again : (own : ℕ → Bool) (lkid : ℕ) → own lkid ≡ true → (rows : List LockState) → sum_by (stands lkid) rows ≤ 1
    → JoinsBehind own [] (map row_after_cancel (rows_of lkid rows))
back_again own lkid is [] one = nobody_joins
back_again own lkid is (row ∷ rows) one =
    of_test (row.lkid == lkid) refl (λ fewer. back_again own lkid is rows fewer)
  where
    of_test : (b : Bool) → (row.lkid == lkid) ≡ b → (sum_by (stands lkid) rows ≤ 1 → JoinsBehind own [] (map row_after_cancel (rows_of lkid rows)))
        → JoinsBehind own [] (map row_after_cancel (cond b (row ∷ rows_of lkid rows) (rows_of lkid rows)))
    of_test true here later =
        let counted : stands lkid row ≡ 1 = ap (λ (b : Bool). cond b 1 0) here in
        subst (λ (behind : List LockState). JoinsBehind own [] (row_after_cancel row ∷ map row_after_cancel behind))
        (sym (none_of lkid rows (omega (arith, one, counted, sum_by-cons (stands lkid) row rows))))
        (one_joins (ap own (eqb-true row.lkid lkid here) ∙ is))
    of_test false other later = later (omega (arith, one, sum_by-cons (stands lkid) row rows))

-- a lock that goes leaves its queue, and one that stays joins the granted queue again
gone_in_order : (own : ℕ → Bool) (w : Withdrawal) → own w.lkid ≡ true → (r : Resource) → weigh (stands w.lkid) r ≤ 1
    → KeepsOrder own r (resource_after_going w r)
unfolding resource_after_cancel resource_without
gone_in_order own w is r one =
    cond_both w.stays (resource_after_cancel w.lkid r) (resource_without w.lkid r) (KeepsOrder own r)
    (λ _. record {
      same = record { serial = refl; parent = refl; domain = refl; name = refl; level = refl };
      granted = behind_all own (map row_after_cancel (rows_of w.lkid r.converting)) (back_again own w.lkid is r.converting (omega (arith, one))) r.granted;
      converting = gone own w.lkid is r.converting;
      waiting = gone own w.lkid is r.waiting;
    })
    (λ _. record {
      same = record { serial = refl; parent = refl; domain = refl; name = refl; level = refl };
      granted = gone own w.lkid is r.granted;
      converting = gone own w.lkid is r.converting;
      waiting = gone own w.lkid is r.waiting;
    })

-- whatever it leaves in the value block
withdrawn : (own : ℕ → Bool) (w : Withdrawal) → own w.lkid ≡ true → (r : Resource) → weigh (stands w.lkid) r ≤ 1
    → KeepsOrder own r (resource_after_withdrawals (w ∷ []) r)
withdrawn own w is r one =
    let written : Resource = record r { value_block = value_block_after_writer w r.value_block } in
    let further : KeepsOrder own written (resource_after_going w written) = gone_in_order own w is written one in
    cond_both (is_held_by_writer w.lkid r) written r (λ left. KeepsOrder own r (resource_after_going w left))
    (λ _. record {
      same = record {
        serial = further.same.serial;
        parent = further.same.parent;
        domain = further.same.domain;
        name =
            further.same.name;
        level = further.same.level;
      };
      granted = further.granted;
      converting = further.converting;
      waiting = further.waiting;
    })
    (λ _. gone_in_order own w is r one)

all_withdrawn : (own : ℕ → Bool) (w : Withdrawal) → own w.lkid ≡ true → (resources : List Resource) → standing w.lkid resources ≤ 1
    → AllByRecursion (λ r. KeepsOrder own r (resource_after_withdrawals (w ∷ []) r)) resources
all_withdrawn own w is [] one = tt
all_withdrawn own w is (r ∷ rest) one =
    let both : standing w.lkid (r ∷ rest) ≡ weigh (stands w.lkid) r + standing w.lkid rest = sum_by-cons (weigh (stands w.lkid)) r rest in
    (withdrawn own w is r (omega (arith, one, both)), all_withdrawn own w is rest (omega (arith, one, both)))

-- ---- several withdrawals

-- own locks that are gone have left
gone_after : (own : ℕ → Bool) (lkid : ℕ) → own lkid ≡ true → (before after : List LockState) → JoinsBehind own before after
    → JoinsBehind own before (rows_without lkid after)
gone_after own lkid is _ _ nobody_joins = nobody_joins
gone_after own lkid is _ _ (one_joins {row} its) =
    cond_both (not (row.lkid == lkid)) (row ∷ []) [] (JoinsBehind own []) (λ _. one_joins its) (λ _. nobody_joins)
gone_after own lkid is _ _ (row_stays {row} {before} {after} further) = of_test (row.lkid == lkid) refl (gone_after own lkid is before after further)
  where
    of_test : (b : Bool) → (row.lkid == lkid) ≡ b → JoinsBehind own before (rows_without lkid after)
        → JoinsBehind own (row ∷ before) (cond (not b) (row ∷ rows_without lkid after) (rows_without lkid after))
    of_test true here behind = row_leaves (ap own (eqb-true row.lkid lkid here) ∙ is) behind
    of_test false other behind = row_stays behind
gone_after own lkid is _ _ (row_leaves {row} {before} {after} its further) = row_leaves its (gone_after own lkid is before after further)

-- the withdrawal is that of an own lock, which goes
abbrev Goes : (ℕ → Bool) → Withdrawal → Type 0
Goes own w = (own w.lkid ≡ true) × (w.stays ≡ false)

going_after : (own : ℕ → Bool) (before : Resource) (w : Withdrawal) → Goes own w → (r : Resource) → KeepsOrder own before r
    → KeepsOrder own before (resource_after_going w r)
unfolding resource_without
going_after own before w goes r order =
    subst (λ (b : Bool). KeepsOrder own before (cond b (resource_after_cancel w.lkid r) (resource_without w.lkid r))) (sym goes.1)
    (record {
      same = record { serial = order.same.serial; parent = order.same.parent; domain = order.same.domain; name = order.same.name; level = order.same.level };
      granted = gone_after own w.lkid goes.0 before.granted r.granted order.granted;
      converting = gone_after own w.lkid goes.0 before.converting r.converting order.converting;
      waiting = gone_after own w.lkid goes.0 before.waiting r.waiting order.waiting;
    })

all_going_after : (own : ℕ → Bool) (before : Resource) (withdrawals : List Withdrawal) → AllByRecursion (Goes own) withdrawals → (r : Resource)
    → KeepsOrder own before r → KeepsOrder own before (resource_after_each resource_after_going withdrawals r)
all_going_after own before [] each r order = order
all_going_after own before (w ∷ withdrawals) each r order =
    all_going_after own before withdrawals each.1 (resource_after_going w r) (going_after own before w each.0 r order)

-- what they leave in the value block leaves the queues
left_in_order : (own : ℕ → Bool) (before : Resource) (withdrawals : List Withdrawal) (r : Resource) → KeepsOrder own before r
    → KeepsOrder own before (resource_after_each resource_after_writer withdrawals r)
left_in_order own before [] r order = order
left_in_order own before (w ∷ withdrawals) r order =
    left_in_order own before withdrawals (resource_after_writer w r)
    (cond_both (is_held_by_writer w.lkid r) (record r { value_block = value_block_after_writer w r.value_block }) r (KeepsOrder own before)
    (λ _. record {
      same = record { serial = order.same.serial; parent = order.same.parent; domain = order.same.domain; name = order.same.name; level = order.same.level };
      granted = order.granted;
      converting = order.converting;
      waiting = order.waiting;
    })
    (λ _. order))

several_in_order : (own : ℕ → Bool) (withdrawals : List Withdrawal) → AllByRecursion (Goes own) withdrawals → (resources : List Resource)
    → AllByRecursion (λ r. KeepsOrder own r (resource_after_withdrawals withdrawals r)) resources
several_in_order own withdrawals each resources =
    each_so (λ r. KeepsOrder own r (resource_after_withdrawals withdrawals r))
    (λ r. all_going_after own r withdrawals each (resource_after_each resource_after_writer withdrawals r) (left_in_order own r withdrawals r (kept own r)))
    resources

-- the locks of processes that end
rundown_in_order : (s : State) (is_one : ℕ → Bool)
    → AllByRecursion (λ r. KeepsOrder (is_lock_of_one is_one s) r (resource_after_withdrawals (rundowns is_one s) r)) s.resources
rundown_in_order s is_one =
    several_in_order (is_lock_of_one is_one s) (rundowns is_one s)
    (each_map (λ lkid. is_lock_of_one is_one s lkid ≡ true) (Goes (is_lock_of_one is_one s)) rundown_of (λ lkid its. (its, refl)) (own_lkids is_one s)
    (each_passing (is_lock_of_one is_one s) (range_with_len 1 (s.next_lkid - 1)))) s.resources

-- the locks that a dequeue takes: one, or with DEQALL several, which go
dequeued_in_order : (s : State) → Apart s → (d : Dequeue) → (has_flag d.flags deqall ≡ true → has_flag d.flags cancel ≡ false)
    → AllByRecursion (λ r. KeepsOrder (is_own_lock s (Deq d) None) r (resource_after_withdrawals (withdrawals_of s d) r)) s.resources
dequeued_in_order s apart d together = of_flag (has_flag d.flags deqall) refl
  where
    caller : ℕ → Bool
    caller pid = pid == d.pid

    own : Bool → ℕ → Bool
    own all lkid = cond all (is_lock_of_one (λ pid. pid == d.pid) s lkid) (lkid == dequeue_lkid s d)

    lkids : Bool → List ℕ
    lkids all = cond all (filter (is_dequeued s d) (own_lkids (λ pid. pid == d.pid) s)) (dequeue_lkid s d ∷ [])

    at : Bool → Type 0
    at all = AllByRecursion (λ r. KeepsOrder (own all) r (resource_after_withdrawals (map (withdrawal_of d) (lkids all)) r)) s.resources

    of_flag : (all : Bool) → has_flag d.flags deqall ≡ all → at (has_flag d.flags deqall)
    of_flag true is =
        subst at (sym is)
        (several_in_order (own true) (map (withdrawal_of d) (lkids true))
        (each_map (λ lkid. own true lkid ≡ true) (Goes (own true)) (withdrawal_of d) (λ lkid its. (its, together is)) (lkids true)
        (each_filter (λ lkid. own true lkid ≡ true) (is_dequeued s d) (own_lkids (λ pid. pid == d.pid) s)
        (each_passing (own true) (range_with_len 1 (s.next_lkid - 1))))) s.resources)
    of_flag false is =
        subst at (sym is)
        (all_withdrawn (own false) (withdrawal_of d (dequeue_lkid s d))
        (eq-eqb (dequeue_lkid s d) (dequeue_lkid s d) refl) s.resources (apart.one_row (dequeue_lkid s d)))

-- the victim of a search
victim_in_order : (s : State) → Apart s → (node : ℕ) (choice : Option LockState)
    → AllByRecursion (λ r. KeepsOrder (is_own_lock s (Search node) choice) r (resource_after_withdrawals (victim_withdrawals choice) r)) s.resources
victim_in_order s apart node None =
    each_so (λ r. KeepsOrder (is_own_lock s (Search node) None) r r) (kept (is_own_lock s (Search node) None)) s.resources
victim_in_order s apart node (Some victim) =
    all_withdrawn (is_own_lock s (Search node) (Some victim)) (deadlock_of victim.lkid)
    (eq-eqb victim.lkid victim.lkid refl) s.resources (apart.one_row victim.lkid)

-- ---- the steps

-- a change that leaves the resources
unchanged : (s : State) (step : Step) (choice : Option LockState) → (step_change s step choice).state.resources ≡ s.resources → ChangesKeepOrder s step choice
unchanged s step choice same = record {
  kept = s.resources;
  made = [];
  resources = same ∙ sym (append-nil s.resources);
  order = all_kept (is_own_lock s step choice) s.resources;
  own = All-from_recursion (HasOwnAlone (is_own_lock s step choice)) [] tt;
  at_most_one = omega arith;
}

-- a change of each resource
changed : (s : State) (step : Step) (choice : Option LockState) (change : Resource → Resource)
    → (step_change s step choice).state.resources ≡ map change s.resources
    → AllByRecursion (λ r. KeepsOrder (is_own_lock s step choice) r (change r)) s.resources → ChangesKeepOrder s step choice
changed s step choice change is each = record {
  kept = map change s.resources;
  made = [];
  resources = is ∙ sym (append-nil (map change s.resources));
  order = all_changed (is_own_lock s step choice) change s.resources each;
  own = All-from_recursion (HasOwnAlone (is_own_lock s step choice)) [] tt;
  at_most_one = omega arith;
}

changes_keep_order : (s : State) → Apart s → (step : Step) (choice : Option LockState) → step_refusal s step ≡ None → ChangesKeepOrder s step choice
unfolding declare_change set_change take_change enq_change convert_change deq_change search_change state_after_rundown
changes_keep_order s apart (Declare d) choice passed = unchanged s (Declare d) choice refl
changes_keep_order s apart (SetValue v) choice passed = unchanged s (SetValue v) choice refl
changes_keep_order s apart (Enq e) choice passed =
    let own : ℕ → Bool = is_own_lock s (Enq e) choice in
    let after = all_entered own s.next_serial (enq_site s e) (enq_row s e) (eq-eqb s.next_lkid s.next_lkid refl) (enq_at_once s e) s.resources in
    record {
      kept = after.kept;
      made = after.made;
      resources = after.resources;
      order = after.order;
      own = All-from_recursion (HasOwnAlone own) after.made after.alone;
      at_most_one = after.at_most_one;
    }
changes_keep_order s apart (Convert c) choice passed =
    let admitted = admission_of s c passed in
    let a : ConversionAdmission = admitted.0 in
    let lkid : ℕ = convert_lkid s c in
    let block : ValueBlock = (convert_blocks s c a).value_block in
    changed s (Convert c) choice (resource_after_conversion a.request a.at_once c.pid lkid block)
    (ap (λ (there : Option ConversionAdmission). (conversion_change s c there).state.resources) admitted.1)
    (all_converted (is_own_lock s (Convert c) choice) a.request a.at_once c.pid lkid (eq-eqb lkid lkid refl) block s.resources)
changes_keep_order s apart (Deq d) choice passed =
    changed s (Deq d) choice (resource_after_withdrawals (withdrawals_of s d)) refl
    (dequeued_in_order s apart d (flags_go_together s d passed))
changes_keep_order s apart (Rundown pid) choice passed =
    changed s (Rundown pid) choice (resource_after_withdrawals (rundowns (is_ended_by pid) s)) refl (rundown_in_order s (is_ended_by pid))
changes_keep_order s apart (Leave node) choice passed =
    changed s (Leave node) choice (resource_after_withdrawals (rundowns (is_of_node node) s)) refl (rundown_in_order s (is_of_node node))
changes_keep_order s apart (Search node) choice passed =
    changed s (Search node) choice (resource_after_withdrawals (victim_withdrawals choice)) refl (victim_in_order s apart node choice)
changes_keep_order s apart (Take pid) choice passed = unchanged s (Take pid) choice refl

-- after every run
pub order_kept_always : (history : History) (old : State) → Run history old → (step : Step) (choice : Option LockState) → IsChoice old step choice
    → step_refusal old step ≡ None → ChangesKeepOrder old step choice
order_kept_always history old run step choice chosen = changes_keep_order old (apart_always history old run) step choice
