-- After every step each lock of a sub-resource has its parent, and each sub-resource stands below its parent resource.
use Rattle.std.proofs.Common.{◌≡◌, ◌≢◌, ◌≤◌, ◌<◌, ◌+◌, inl, inr, ℕ, Bool, true, false, not, ◌&&◌, ◌||◌, List, [], ◌∷◌}
use Rattle.std.proofs.Common.{◌++◌, map, cond, Option, None, Some, refl, sym, ap, ◌∙◌, arith, subst}
use Rattle.std.specs.Prelude.{◌==◌, All, nat_lt}
use Rattle.std.specs.List.{AllByRecursion, list_any, sum_by, filter}
use Rattle.std.proofs.lemmas.Bool.{and_parts, eq-eqb, eqb-true, or_cases, or_parts}
use Rattle.std.proofs.lemmas.Bool.Decides.{nat_tests}
use Rattle.std.proofs.lemmas.List.Elements.{All-from_recursion}
use Rattle.std.proofs.lemmas.List.Folds.{Any-from_list_any}
use Rattle.std.proofs.lemmas.List.Sums.{sum_by-append, sum_by-cons}
use Rattle.vlm_words.specs.declared.locks.LockState.{LockState}
use Rattle.vlm_words.specs.declared.conditions.Cond.TheVariants.{Sublocks}
use Rattle.vlm_words.specs.declared.steps.Conversion.{Conversion}
use Rattle.vlm_words.specs.declared.steps.Dequeue.{Dequeue}
use Rattle.vlm_words.specs.declared.steps.NewRequest.{NewRequest}
use Rattle.vlm_words.specs.Flags.{cancel, has_flag, deqall}
use Rattle.vlm_words.specs.State.{Resource, State, Node}
use Rattle.vlm_model.specs.Sweeps.{is_vacant, state_after_sweep}
use Rattle.vlm_model.specs.Stable.{IsStable}
use Rattle.vlm_words.specs.Resources.{is_at, is_domain, new_resource}
use Rattle.vlm_model.specs.Checks.{caller_refusal, which_refusal}
use Rattle.vlm_model.specs.Trees.{enq_site, root_domain, site_below}
use Rattle.vlm_model.specs.Enqueue.{enq_at_once, enq_change, enq_key, enq_refusal, enq_row, resource_after_entry, resources_after_entry}
use Rattle.vlm_model.specs.Declare.{declare_change}
use Rattle.vlm_model.specs.SetValue.{set_change}
use Rattle.vlm_model.specs.Take.{take_change}
use Rattle.vlm_model.specs.Convert.{ConversionAdmission, convert_blocks, convert_change, convert_lkid, resource_after_conversion}
use Rattle.vlm_model.specs.Dequeue.{cancel_refusal, deq_change, deq_flags_refusal, deq_refusal, dequeue_lkid}
use Rattle.vlm_model.specs.Dequeue.{has_sublock, has_sublock_on, sublocks_refusal, withdrawal_of, dequeued_lock_refusal}
use Rattle.vlm_model.specs.Dequeue.{is_dequeued, leaves_none}
use Rattle.vlm_model.specs.Withdrawals.{Withdrawal, resource_after_withdrawals, state_after_withdrawals}
use Rattle.vlm_model.specs.Runs.{History, Run}
use Rattle.vlm_model.specs.Laws.{ChainsAreBounded, HasItsLevel, HasItsParent, HoldsOn, ParentsOutliveTheirSublocks, TreesAreBounded}
use Rattle.vlm_model.proofs.Always.{always, kept_by_stepped, WithdrawsNow, gives_up, ends_deadlock}
use Rattle.vlm_model.proofs.Each.{Any-weaker, each_map, each_weaker, each_so}
use Rattle.vlm_model.proofs.PassedChecks.{sixth_passes, test_fails, flags_go_together}
use Rattle.vlm_model.proofs.EachResource.{each_entered_among, each_entered_at, each_swept}
use Rattle.vlm_model.proofs.Stable.{stable_law}
use Rattle.vlm_model.proofs.Keys.{KeepsPlace, Placed, conversion_keeps_place, entry_keeps_place, is_domain-true}
use Rattle.vlm_model.proofs.Keys.{placed_always, service_keeps_place, withdrawals_keep_place}
use Rattle.vlm_model.proofs.Weights.{entered_weighs, weigh}
use Rattle.vlm_model.proofs.LastingSums.{converted_named, withdrawn_named, grant_keeps}
use Rattle.vlm_model.proofs.IdsApart.{Apart, apart_always, standing, stands}
use Rattle.vlm_model.proofs.Holdings.{converted_held, held_by, locks, withdrawn_held}
use Rattle.vlm_model.proofs.Sums.{sum_of_zero}
use Rattle.vlm_model.proofs.Rooted.{Position, position, is_parent, is_up, is_rooted, loose, loose_named, AllRooted}
use Rattle.vlm_model.proofs.Rooted.{up_mapped, still_rooted, weigh_le_both, rooted_changed, rooted_swept, NoneOrphaned}
use Rattle.vlm_model.proofs.Rooted.{rooted_mapped}
use Rattle.vlm_model.proofs.NewlyRooted.{parent_of, up_entered, rooted_row, stands_well, own_rooted}
use Rattle.vlm_model.proofs.LocksBelow.{each_weightless, held_there, no_more_levels}
use Rattle.vlm_model.proofs.GivenUpTrees.{Closed, each_closed, held_stays, orphaned_by, own_are_closed, taken_are_closed}
use Rattle.vlm_model.proofs.EndedLocks.{AllGo, AllListed, all_go, none_left_here}
use Rattle.vlm_model.specs.OwnLocks.{own_lkids}
use Rattle.vlm_model.specs.Rundown.{rundown_of, state_after_rundown}
use Rattle.vlm_model.specs.Search.{victim_withdrawals, deadlock_of}

-- each row has its parent, and no resource is below the lowest level
pub record Tree (s : State) : Type 0 where
  pub rooted : AllByRecursion (AllRooted s.resources) s.resources
  pub low : AllByRecursion (λ r. r.level ≤ 15) s.resources

-- a sweep keeps the tree
tree_swept : (s : State) → Tree s → Tree (state_after_sweep s)
tree_swept s tree = record {
  rooted = rooted_swept s.processes s.resources tree.rooted;
  low = each_swept (λ r. r.level ≤ 15) (λ r. r.level ≤ 15)
      (λ block r low. omega (arith, low, (service_keeps_place block r).level)) s.processes s.resources tree.low;
}

-- a new request's own resource is at a level that is there
level_fits : (s : State) (e : NewRequest) → enq_refusal s e ≡ None → (enq_site s e).level ≤ 15
level_fits s e passed =
    elim (parent_of s e passed) [
      | inl root ↦ omega (arith, ap (λ (up : Option Resource). (site_below (root_domain s e.pid e.flags) e.name up).level) root.1)
      | inr below ↦ omega (arith, ap (λ (up : Option Resource). (site_below (root_domain s e.pid e.flags) e.name up).level) below.1.is, below.1.level)
    ]

-- a new request keeps the tree
tree_entered : (s : State) (e : NewRequest) → enq_refusal s e ≡ None → Placed s
    → AllByRecursion (λ r. is_vacant r ≡ false) s.resources → Tree s → Tree (enq_change s e)
unfolding enq_change
tree_entered s e passed placed occupied tree = record {
  rooted =
      each_entered_at (AllRooted new) s.next_serial (enq_site s e) (enq_row s e) (enq_at_once s e)
      (entered (new_resource s.next_serial (enq_site s e)) refl own.0) s.resources
      (each_entry s.resources tree.rooted own.1) (each_still s.resources tree.rooted);
  low =
      each_entered_among (λ r. r.level ≤ 15) s.next_serial (enq_site s e) (enq_row s e) (enq_at_once s e) (level_fits s e passed)
      (λ r low. omega (arith, low, (entry_keeps_place (enq_row s e) (enq_at_once s e) r).level)) s.resources tree.low;
}
  where
    new : List Resource
    new = resources_after_entry s.next_serial (enq_site s e) (enq_row s e) (enq_at_once s e) s.resources

    stays : (p : Position) (pid lkid : ℕ) → list_any (is_up p pid lkid) s.resources ≡ true
        → list_any (is_up p pid lkid) (resources_after_entry s.next_serial (enq_site s e) (enq_row s e) (enq_at_once s e) s.resources) ≡ true
    stays p pid lkid = up_entered p pid lkid s.next_serial (enq_site s e) (enq_row s e) (enq_at_once s e) s.resources

    own : (is_rooted (resources_after_entry s.next_serial (enq_site s e) (enq_row s e) (enq_at_once s e) s.resources)
        (position (new_resource s.next_serial (enq_site s e))) (enq_row s e) ≡ true)
        × AllByRecursion (λ r. is_at (enq_key s e) r ≡ true → is_rooted
        (resources_after_entry s.next_serial (enq_site s e) (enq_row s e) (enq_at_once s e) s.resources) (position r) (enq_row s e) ≡ true) s.resources
    own = own_rooted s e passed placed occupied tree.rooted _ stays

    entered : (r : Resource) → AllRooted new r → is_rooted new (position r) (enq_row s e) ≡ true
        → AllRooted new (resource_after_entry (enq_row s e) (enq_at_once s e) r)
    entered r rooted is =
        rooted_changed new (resource_after_entry (enq_row s e) (enq_at_once s e)) (entry_keeps_place (enq_row s e) (enq_at_once s e)) r
        (omega (
          arith,
          entered_weighs (loose new (position r)) (λ ending. 0)
              (grant_keeps (loose new (position r)) (loose_named new (position r))) (enq_row s e) (enq_at_once s e) r,
          ap {B = ℕ} (λ (b : Bool). cond b 0 1) is,
        ))
        rooted

    each_still : (rs : List Resource) → AllByRecursion (AllRooted s.resources) rs → AllByRecursion (AllRooted new) rs
    each_still [] each = tt
    each_still (r ∷ rest) each = (
      omega (
        arith,
        each.0,
        weigh_le_both (loose new (position r)) (loose s.resources (position r)) (λ row. 0)
            (λ row. omega (arith, still_rooted s.resources new (position r) row (stays (position r) row.pid row.parent))) r,
        sum_of_zero r.granted,
        sum_of_zero r.converting,
        sum_of_zero r.waiting,
      ),
      each_still rest each.1,
    )

    each_entry : (rs : List Resource) → AllByRecursion (AllRooted s.resources) rs
        → AllByRecursion (λ r. is_at (enq_key s e) r ≡ true → is_rooted new (position r) (enq_row s e) ≡ true) rs
        → AllByRecursion (λ r. is_at (enq_key s e) r ≡ true → AllRooted new (resource_after_entry (enq_row s e) (enq_at_once s e) r)) rs
    each_entry [] each own_row = tt
    each_entry (r ∷ rest) each own_row = ((λ at. entered r (each_still (r ∷ []) (each.0, tt)).0 (own_row.0 at)), each_entry rest each.1 own_row.1)

-- a change of each resource keeps the levels
low_mapped : (f : Resource → Resource) → KeepsPlace f → (resources : List Resource) → AllByRecursion (λ r. r.level ≤ 15) resources
    → AllByRecursion (λ r. r.level ≤ 15) (map f resources)
low_mapped f keeps resources low = each_map (λ r. r.level ≤ 15) (λ r. r.level ≤ 15) f (λ r below. omega (arith, below, (keeps r).level)) resources low

-- no lock has two rows on one resource
one_on_each : (lkid : ℕ) (resources : List Resource) → standing lkid resources ≤ 1 → AllByRecursion (λ r. weigh (stands lkid) r ≤ 1) resources
one_on_each lkid [] one = tt
one_on_each lkid (r ∷ rest) one = (
  omega (arith, one, sum_by-cons (weigh (stands lkid)) r rest),
  one_on_each lkid rest (omega (arith, one, sum_by-cons (weigh (stands lkid)) r rest)),
)

-- none of no rows is orphaned
none_orphaned : (f : Resource → Resource) (resources : List Resource) → AllByRecursion (λ r. NoneOrphaned (λ row. false) (f r)) resources
none_orphaned f [] = tt
none_orphaned f (r ∷ rest) = (omega (arith, sum_of_zero (f r).granted, sum_of_zero (f r).converting, sum_of_zero (f r).waiting), none_orphaned f rest)

-- a conversion keeps the tree
tree_converted : (s : State) (c : Conversion) (a : ConversionAdmission) → Apart s → Tree s → Tree (convert_change s c a)
unfolding convert_change
tree_converted s c a apart tree = record {
  rooted =
      rooted_mapped (resource_after_conversion a.request a.at_once c.pid (convert_lkid s c) (convert_blocks s c a).value_block)
      (conversion_keeps_place a.request a.at_once c.pid (convert_lkid s c) (convert_blocks s c a).value_block)
      (λ g named. converted_named g named a.request a.at_once c.pid (convert_lkid s c) (convert_blocks s c a).value_block) (λ row. false) s.resources
      (λ p row _.
      up_mapped p row.pid row.parent (resource_after_conversion a.request a.at_once c.pid (convert_lkid s c) (convert_blocks s c a).value_block)
      (conversion_keeps_place a.request a.at_once c.pid (convert_lkid s c) (convert_blocks s c a).value_block) s.resources
      (each_weaker (λ r. weigh (stands (convert_lkid s c)) r ≤ 1)
      (λ r. held_by row.pid row.parent r ≤ held_by row.pid row.parent
      (resource_after_conversion a.request a.at_once c.pid (convert_lkid s c) (convert_blocks s c a).value_block r))
      (λ r one. converted_held row.pid row.parent c.pid (convert_lkid s c) a.request a.at_once (convert_blocks s c a).value_block r one) s.resources
      (one_on_each (convert_lkid s c) s.resources (apart.one_row (convert_lkid s c)))))
      (none_orphaned (resource_after_conversion a.request a.at_once c.pid (convert_lkid s c) (convert_blocks s c a).value_block) s.resources) tree.rooted;
  low =
      low_mapped (resource_after_conversion a.request a.at_once c.pid (convert_lkid s c) (convert_blocks s c a).value_block)
      (conversion_keeps_place a.request a.at_once c.pid (convert_lkid s c) (convert_blocks s c a).value_block) s.resources tree.low;
}

-- the row's parent goes with a dequeue of one lock
abbrev orphaned_by_one : Withdrawal → LockState → Bool
orphaned_by_one w row = not w.stays && (row.parent == w.lkid)

-- rows of which none passes a test are counted 0
none_counted : (b : Bool) (lkid : ℕ) (rows : List LockState) → (b && has_sublock lkid rows) ≡ false
    → sum_by (λ row. cond (b && (row.parent == lkid)) 1 0) rows ≡ 0
none_counted false lkid rows none = sum_of_zero rows
none_counted true lkid [] none = refl
none_counted true lkid (row ∷ rows) none = of_test (row.parent == lkid) refl (none_counted true lkid rows)
  where
    of_test : (b : Bool) → (row.parent == lkid) ≡ b
        → (has_sublock lkid rows ≡ false → sum_by (λ (x : LockState). cond (x.parent == lkid) 1 0) rows ≡ 0)
        → sum_by (λ (x : LockState). cond (x.parent == lkid) 1 0) (row ∷ rows) ≡ 0
    of_test true is later = let no : true ≡ false = sym (ap (λ (b : Bool). b || has_sublock lkid rows) is) ∙ none in cc
    of_test false is later =
        let behind : has_sublock lkid rows ≡ false = sym (ap (λ (b : Bool). b || has_sublock lkid rows) is) ∙ none in
        omega (
          arith,
          later behind,
          ap {B = ℕ} (λ (b : Bool). cond b 1 0) is,
          sum_by-cons (λ (x : LockState). cond (x.parent == lkid) 1 0) row rows,
        )

-- where the checks of a dequeue of one lock pass, no row is orphaned by it
none_left_behind : (s : State) (d : Dequeue) → deq_refusal s d ≡ None → has_flag d.flags deqall ≡ false
    → AllByRecursion (NoneOrphaned (orphaned_by_one (withdrawal_of d (dequeue_lkid s d)))) s.resources
unfolding deq_refusal sublocks_refusal
none_left_behind s d passed alone =
    each_none s.resources
    (subst (λ (all : Bool). (not (has_flag d.flags cancel || all) && list_any (has_sublock_on (dequeue_lkid s d)) s.resources) ≡ false) alone
    (test_fails (not (leaves_none d) && list_any (has_sublock_on (dequeue_lkid s d)) s.resources) Sublocks
    (sixth_passes (caller_refusal s d.pid) (deq_flags_refusal d) (which_refusal s d.pid d.lock) (dequeued_lock_refusal s d) (cancel_refusal s d)
    (cond (not (leaves_none d) && list_any (has_sublock_on (dequeue_lkid s d)) s.resources) (Some Sublocks) None) passed)))
  where
    both_false : (a b c : Bool) → (a && (b || c)) ≡ false → ((a && b) ≡ false) × ((a && c) ≡ false)
    both_false true b c none = or_parts b c none
    both_false false b c none = (refl, refl)

    plain : Bool → Bool → Bool
    plain cancels is = not (cancels || false) && is

    same : (cancels is : Bool) → plain cancels is ≡ false → (not cancels && is) ≡ false
    same true is none = refl
    same false is none = none

    each_none : (rs : List Resource) → (not (has_flag d.flags cancel || false) && list_any (has_sublock_on (dequeue_lkid s d)) rs) ≡ false
        → AllByRecursion (NoneOrphaned (orphaned_by_one (withdrawal_of d (dequeue_lkid s d)))) rs
    each_none [] none = tt
    each_none (r ∷ rest) none =
        let lkid : ℕ = dequeue_lkid s d in
        let goes : Bool = not (has_flag d.flags cancel) in
        let parts = both_false goes (has_sublock_on lkid r) (list_any (has_sublock_on lkid) rest)
        (same (has_flag d.flags cancel) (has_sublock_on lkid r || list_any (has_sublock_on lkid) rest) none) in
        let queues = both_false goes (has_sublock lkid r.granted || has_sublock lkid r.converting) (has_sublock lkid r.waiting) parts.0 in
        let held = both_false goes (has_sublock lkid r.granted) (has_sublock lkid r.converting) queues.0 in (
          omega (
            arith,
            none_counted goes lkid r.granted held.0,
            none_counted goes lkid r.converting held.1,
            none_counted goes lkid r.waiting queues.1,
          ),
          each_none rest (back (has_flag d.flags cancel) (list_any (has_sublock_on lkid) rest) parts.1),
        )
      where
        back : (cancels is : Bool) → (not cancels && is) ≡ false → plain cancels is ≡ false
        back true is none = refl
        back false is none = none

-- withdrawals keep the tree, where none of what they leave has its parent among them
module _ (s t : State) (withdrawals : List Withdrawal) (is : t.resources ≡ map (resource_after_withdrawals withdrawals) s.resources) (tree : Tree s)
    (orphaned : LockState → Bool)
    (stays : (row : LockState) → orphaned row ≡ false → (r : Resource)
    → held_by row.pid row.parent r ≤ held_by row.pid row.parent (resource_after_withdrawals withdrawals r))
    (none : AllByRecursion (λ r. NoneOrphaned orphaned (resource_after_withdrawals withdrawals r)) s.resources) where
  tree_withdrawn : Tree t
  tree_withdrawn =
      let f : Resource → Resource = resource_after_withdrawals withdrawals in
      record {
        rooted =
            subst (λ (rs : List Resource). AllByRecursion (AllRooted rs) rs) (sym is)
            (rooted_mapped f (withdrawals_keep_place withdrawals) (λ g named. withdrawn_named g named withdrawals) orphaned s.resources
            (λ p row keeps.
            up_mapped p row.pid row.parent f (withdrawals_keep_place withdrawals) s.resources
            (each_so (λ r. held_by row.pid row.parent r ≤ held_by row.pid row.parent (f r)) (stays row keeps) s.resources))
            none tree.rooted);
        low = subst (AllByRecursion (λ (r : Resource). r.level ≤ 15)) (sym is) (low_mapped f (withdrawals_keep_place withdrawals) s.resources tree.low);
      }

-- locks that go together with those below them
tree_closed : (s t : State) → Apart s → Tree s → (f : ℕ → Withdrawal) → ((lkid : ℕ) → (f lkid).lkid ≡ lkid)
    → (lkids : List ℕ) → AllGo (map f lkids) → Closed s lkids
    → t.resources ≡ map (resource_after_withdrawals (map f lkids)) s.resources → Tree t
tree_closed s t apart tree f named lkids go closed is =
    tree_withdrawn s t (map f lkids) is tree (orphaned_by (map f lkids))
    (λ row keeps r. held_stays row.pid row.parent (map f lkids) go keeps r)
    (each_weaker (AllListed (orphaned_by (map f lkids)) (map f lkids))
    (λ r. NoneOrphaned (orphaned_by (map f lkids)) (resource_after_withdrawals (map f lkids) r))
    (λ r listed. none_left_here (orphaned_by (map f lkids)) (map f lkids) go r listed) s.resources
    (each_closed s tree.rooted tree.low f named lkids closed))

-- a dequeue of one lock keeps the tree
tree_dequeued_one : (s t : State) (d : Dequeue) → deq_refusal s d ≡ None → has_flag d.flags deqall ≡ false → Tree s
    → t.resources ≡ map (resource_after_withdrawals (withdrawal_of d (dequeue_lkid s d) ∷ [])) s.resources → Tree t
tree_dequeued_one s t d passed alone tree is =
    tree_withdrawn s t (withdrawal_of d (dequeue_lkid s d) ∷ []) is tree (orphaned_by_one (withdrawal_of d (dequeue_lkid s d)))
    (λ row keeps r. withdrawn_held row.pid row.parent (withdrawal_of d (dequeue_lkid s d))
    (differs (has_flag d.flags cancel) (row.parent == dequeue_lkid s d) keeps) r)
    (each_weaker (NoneOrphaned (orphaned_by_one (withdrawal_of d (dequeue_lkid s d))))
    (λ r. NoneOrphaned (orphaned_by_one (withdrawal_of d (dequeue_lkid s d))) (resource_after_withdrawals (withdrawal_of d (dequeue_lkid s d) ∷ []) r))
    (λ r none. omega (
      arith,
      none,
      withdrawn_named (λ row. cond (orphaned_by_one (withdrawal_of d (dequeue_lkid s d)) row) 1 0) (λ row held want armed. refl)
          (withdrawal_of d (dequeue_lkid s d) ∷ []) r,
    )) s.resources (none_left_behind s d passed alone))
  where
    differs : (cancels named : Bool) → (not cancels && named) ≡ false → cancels ≡ false → named ≡ false
    differs true named none plain = cc
    differs false named none plain = none

-- without a cancel no lock stays
pub all_dequeued_go : (d : Dequeue) → has_flag d.flags cancel ≡ false → (lkids : List ℕ) → AllGo (map (withdrawal_of d) lkids)
all_dequeued_go d goes [] = tt
all_dequeued_go d goes (lkid ∷ lkids) = (goes, all_dequeued_go d goes lkids)

-- a dequeue keeps the tree
tree_dequeued : (s : State) (d : Dequeue) → Apart s → deq_refusal s d ≡ None → Tree s → Tree (deq_change s d)
unfolding deq_change
tree_dequeued s d apart passed tree = of_flag (has_flag d.flags deqall) refl
  where
    lkids : List ℕ
    lkids = filter (is_dequeued s d) (own_lkids (λ pid. pid == d.pid) s)

    of_flag : (all : Bool) → has_flag d.flags deqall ≡ all → Tree (deq_change s d)
    of_flag true is =
        tree_closed s (deq_change s d) apart tree (withdrawal_of d) (λ lkid. refl) lkids (all_dequeued_go d (flags_go_together s d passed is) lkids)
        (taken_are_closed s apart tree.rooted d)
        (ap (λ (all : Bool). map (resource_after_withdrawals (map (withdrawal_of d) (cond all lkids (dequeue_lkid s d ∷ [])))) s.resources) is)
    of_flag false is =
        tree_dequeued_one s (deq_change s d) d passed is tree
        (ap (λ (all : Bool). map (resource_after_withdrawals (map (withdrawal_of d) (cond all lkids (dequeue_lkid s d ∷ [])))) s.resources) is)

-- a search keeps the tree: a victim that waits has no sublocks, and one that converts stays
tree_searched : (s : State) (choice : Option LockState) → Tree s → Tree (state_after_withdrawals (victim_withdrawals choice) s)
tree_searched s choice tree =
    tree_withdrawn s (state_after_withdrawals (victim_withdrawals choice) s) (victim_withdrawals choice) refl tree (λ row. false)
    (λ row _ r. stays choice row r) (none_orphaned (resource_after_withdrawals (victim_withdrawals choice)) s.resources)
  where
    stays : (chosen : Option LockState) (row : LockState) (r : Resource)
        → held_by row.pid row.parent r ≤ held_by row.pid row.parent (resource_after_withdrawals (victim_withdrawals chosen) r)
    stays None row r = omega arith
    stays (Some victim) row r = withdrawn_held row.pid row.parent (deadlock_of victim.lkid) (λ goes. cc) r

-- withdrawals of a step keep the tree
tree_after : (s : State) (withdrawals : List Withdrawal) → Apart s → WithdrawsNow s withdrawals → Tree s → Tree (state_after_withdrawals withdrawals s)
unfolding deq_change
tree_after s _ apart (gives_up d passed) tree = tree_dequeued s d apart passed tree
tree_after s _ apart (ends_deadlock choice _) tree = tree_searched s choice tree

-- ends of processes keep the tree
tree_ended : (s : State) (is_one : ℕ → Bool) (nodes : List Node) → Apart s → Tree s → Tree (state_after_rundown is_one nodes s)
unfolding state_after_rundown
tree_ended s is_one nodes apart tree =
    tree_closed s (state_after_rundown is_one nodes s) apart tree rundown_of (λ lkid. refl) (own_lkids is_one s) (all_go (own_lkids is_one s))
    (own_are_closed s apart tree.rooted is_one) refl

-- no resource is vacant after a run
occupied_always : (history : History) (last : State) → Run history last
    → AllByRecursion (λ r. is_vacant r ≡ false) last.resources
occupied_always history last run =
    each_weaker IsStable (λ r. is_vacant r ≡ false) (λ r stable. stable.occupied) last.resources (stable_law history last run)

-- after every run
pub tree_always : (history : History) (last : State) → Run history last → Tree last
unfolding declare_change set_change take_change
tree_always =
    always (λ _ s. Tree s) (record { rooted = tt; low = tt })
    (λ history s run tree.
    kept_by_stepped (λ _ t. Tree t) history.endings s tree
    (λ d _. tree_swept (declare_change s d) (record { rooted = tree.rooted; low = tree.low }))
    (λ v _. tree_swept (set_change s v) (record { rooted = tree.rooted; low = tree.low }))
    (λ taker _. tree_swept (take_change s taker) (record { rooted = tree.rooted; low = tree.low }))
    (λ e passed.
    tree_swept (enq_change s e)
    (tree_entered s e passed (placed_always history s run) (occupied_always history s run) tree))
    (λ c a _ _. tree_swept (convert_change s c a) (tree_converted s c a (apart_always history s run) tree))
    (λ withdrawals now. tree_swept (state_after_withdrawals withdrawals s) (tree_after s withdrawals (apart_always history s run) now tree))
    (λ is_one nodes _. tree_swept (state_after_rundown is_one nodes s) (tree_ended s is_one nodes (apart_always history s run) tree)))

-- ---- the laws

-- a row that has its parent by the test has it by the law
has_its_parent : (all : List Resource) (r : Resource) (row : LockState) → is_rooted all (position r) row ≡ true → HasItsParent all r row
has_its_parent all r row rooted =
    elim (or_cases ((r.parent == 0) && (row.parent == 0) && (r.level == 0))
    (not (r.parent == 0) && not (row.parent == 0) && list_any (is_up (position r) row.pid row.parent) all) rooted) [
      | inl root ↦ (let first = and_parts (r.parent == 0) (row.parent == 0) (and_parts ((r.parent == 0) && (row.parent == 0)) (r.level == 0) root).0 in
          inl (eqb-true r.parent 0 first.0, eqb-true row.parent 0 first.1))
      | inr below ↦ (let parts = and_parts (not (r.parent == 0) && not (row.parent == 0)) (list_any (is_up (position r) row.pid row.parent) all) below in
          let first = and_parts (not (r.parent == 0)) (not (row.parent == 0)) parts.0 in
          inr (
            not_zero r.parent first.0,
            not_zero row.parent first.1,
            Any-weaker (λ up. is_up (position r) row.pid row.parent up ≡ true) (λ up. (up.serial ≡ r.parent) × HoldsOn row.parent row.pid up) up_holds all
                (Any-from_list_any (is_up (position r) row.pid row.parent) all parts.1),
          ))
    ]
  where
    not_zero : (n : ℕ) → not (n == 0) ≡ true → n ≢ 0
    not_zero n differs is = let no : true ≡ false = sym differs ∙ ap not (eq-eqb n 0 is) in cc

    up_holds : (up : Resource) → is_up (position r) row.pid row.parent up ≡ true → (up.serial ≡ r.parent) × HoldsOn row.parent row.pid up
    up_holds up is =
        let parts = and_parts (is_parent (position r) up) (nat_lt 0 (held_by row.pid row.parent up)) is in
        let place = and_parts ((up.serial == r.parent) && is_domain up.domain r.domain) (r.level == up.level + 1) parts.0 in
        let some : 0 < held_by row.pid row.parent up = grind (arith, nat_tests, parts.1) in (
          eqb-true up.serial r.parent (and_parts (up.serial == r.parent) (is_domain up.domain r.domain) place.0).0,
          held_there row.pid row.parent (up.granted ++ up.converting)
              (omega (arith, some, sum_by-append (locks row.pid row.parent) up.granted up.converting)),
        )

-- after every run a parent lock outlives its sublocks
pub parents_always : (history : History) (last : State)
    → Run history last → ParentsOutliveTheirSublocks last
parents_always history last run =
    All-from_recursion (λ r. All (HasItsParent last.resources r) (r.granted ++ r.converting ++ r.waiting)) last.resources
    (each_weaker (AllRooted last.resources) (λ r. All (HasItsParent last.resources r) (r.granted ++ r.converting ++ r.waiting)) each_row last.resources
    (tree_always history last run).rooted)
  where
    each_row : (r : Resource) → AllRooted last.resources r → All (HasItsParent last.resources r) (r.granted ++ r.converting ++ r.waiting)
    each_row r rooted =
        let f : LockState → ℕ = loose last.resources (position r) in
        All-from_recursion (HasItsParent last.resources r) (r.granted ++ r.converting ++ r.waiting)
        (each_weaker (λ row. loose last.resources (position r) row ≡ 0) (HasItsParent last.resources r)
        (λ row none. has_its_parent last.resources r row (rooted_row last.resources (position r) row none)) (r.granted ++ r.converting ++ r.waiting)
        (each_weightless (loose last.resources (position r)) (r.granted ++ r.converting ++ r.waiting)
        (omega (
          arith,
          rooted,
          sum_by-append (loose last.resources (position r)) (r.granted ++ r.converting) r.waiting,
          sum_by-append (loose last.resources (position r)) r.granted r.converting,
        ))))

-- after every run trees are bounded
pub trees_always : (history : History) (last : State)
    → Run history last → TreesAreBounded last
trees_always history last run =
    let tree : Tree last = tree_always history last run in
    All-from_recursion (λ r. HasItsLevel last.resources r × (r.level ≤ 15)) last.resources
    (each_level last.resources (occupied_always history last run) tree.rooted tree.low)
  where
    up_level : (r up : Resource) → is_parent (position r) up ≡ true → (up.serial ≡ r.parent) × (up.domain ≡ r.domain) × (r.level ≡ up.level + 1)
    up_level r up is =
        let place = and_parts ((up.serial == r.parent) && is_domain up.domain r.domain) (r.level == up.level + 1) is in
        let first = and_parts (up.serial == r.parent) (is_domain up.domain r.domain) place.0 in
        (eqb-true up.serial r.parent first.0, is_domain-true up.domain r.domain first.1, eqb-true r.level (up.level + 1) place.1)

    its_level : (r : Resource) → is_vacant r ≡ false → AllRooted last.resources r → HasItsLevel last.resources r
    its_level r occupied rooted =
        elim (stands_well last.resources r occupied rooted) [
          | inl root ↦ inl root
          | inr below ↦ inr (Any-weaker (λ up. is_parent (position r) up ≡ true)
              (λ up. (up.serial ≡ r.parent) × (up.domain ≡ r.domain) × (r.level ≡ up.level + 1)) (up_level r) last.resources
              (Any-from_list_any (is_parent (position r)) last.resources below.1))
        ]

    each_level : (rs : List Resource) → AllByRecursion (λ r. is_vacant r ≡ false) rs → AllByRecursion (AllRooted last.resources) rs
        → AllByRecursion (λ r. r.level ≤ 15) rs → AllByRecursion (λ r. HasItsLevel last.resources r × (r.level ≤ 15)) rs
    each_level [] busy rooted low = tt
    each_level (r ∷ rest) busy rooted low = ((its_level r busy.0 rooted.0, low.0), each_level rest busy.1 rooted.1 low.1)

-- after every run no lock is more than 15 levels below another
pub chains_always : (history : History) (last : State)
    → Run history last → ChainsAreBounded last
chains_always history last run top levels lkid some below =
    let tree : Tree last = tree_always history last run in
    no_more_levels last (apart_always history last run) tree.rooted 14 tree.low top some levels lkid below
