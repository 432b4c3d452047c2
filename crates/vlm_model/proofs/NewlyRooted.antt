-- A new lock enters with its parent lock.
use Rattle.std.proofs.Common.{◌≡◌, ◌<◌, ◌+◌, ◌⊎◌, inl, inr, ℕ, Bool, true, false, not, ◌&&◌, ◌||◌, List, [], ◌∷◌, cond}
use Rattle.std.proofs.Common.{Option, None, Some, refl, sym, ap, subst, ◌∙◌, arith}
use Rattle.std.specs.Prelude.{◌==◌, nat_lt}
use Rattle.std.specs.List.{AllByRecursion, find, list_any, sum_by}
use Rattle.std.proofs.lemmas.Bool.{and_parts, cond_both, eq-eqb, eqb-true, or_cases, or_right}
use Rattle.std.proofs.lemmas.Bool.Decides.{nat_tests}
use Rattle.std.proofs.lemmas.List.Sums.{sum_by-cons}
use Rattle.vlm_words.specs.declared.locks.LockState.{LockState}
use Rattle.vlm_words.specs.declared.conditions.Cond.TheVariants.{Exdepth, Ivlockid, Parnotgrant}
use Rattle.vlm_words.specs.declared.resources.Site.{Site}
use Rattle.vlm_words.specs.declared.steps.NewRequest.{NewRequest}
use Rattle.vlm_words.specs.State.{Resource, State}
use Rattle.vlm_words.specs.Rows.{is_empty, is_lock_of}
use Rattle.vlm_model.specs.Sweeps.{is_vacant}
use Rattle.vlm_words.specs.Resources.{is_at, is_domain, key_parent, new_resource}
use Rattle.vlm_model.specs.Checks.{holds_lock, lock_refusal, or_else}
use Rattle.vlm_model.specs.Trees.{depth_refusal, enq_site, parent_lkid, parent_refusal, parent_resource}
use Rattle.vlm_model.specs.Trees.{privilege_refusal, root_domain, site_below, site_refusal, waiting_refusal}
use Rattle.vlm_model.specs.Enqueue.{enq_key, enq_refusal, enq_row, resource_after_entry, resources_after_entry}
use Rattle.vlm_model.proofs.Each.{each_weaker, found_at}
use Rattle.vlm_model.proofs.Pairs.{EachPair}
use Rattle.vlm_model.proofs.PassedChecks.{both_pass, enq_passes, three_pass, test_fails, test_passes}
use Rattle.vlm_model.proofs.Keys.{Placed, Rises, WasGiven, enq_keyed, entry_keeps_place, is_domain_refl, key_at, of_found}
use Rattle.vlm_model.proofs.IdsApart.{stands}
use Rattle.vlm_model.proofs.Holdings.{entered_held, held_by, locks_counted}
use Rattle.vlm_model.proofs.Rooted.{Position, position, is_parent, is_up, is_rooted, loose, AllRooted, still_up}

-- a test that some element passes finds one
pub any_found : {X : Type 0} (test : X → Bool) (xs : List X) → list_any test xs ≡ true → (z : X) × (find test xs ≡ Some z)
any_found test [] any = cc
any_found {X} test (x ∷ xs) any = of_test (test x) refl (any_found test xs)
  where
    of_test : (b : Bool) → test x ≡ b → (list_any test xs ≡ true → (z : X) × (find test xs ≡ Some z)) → (z : X) × (find test (x ∷ xs) ≡ Some z)
    of_test true here later = (x, rw here refl)
    of_test false absent later =
        let behind = later (sym (ap (λ (b : Bool). b || list_any test xs) absent) ∙ any) in
        (behind.0, ap (λ (b : Bool). cond b (Some x) (find test xs)) absent ∙ behind.1)

-- what is found passes every test that it passes among the others
found_any : {X : Type 0} (test other : X → Bool) (xs : List X) (z : X) → find test xs ≡ Some z → other z ≡ true → list_any other xs ≡ true
found_any test other [] z is passes = cc
found_any {X} test other (x ∷ xs) z is passes = of_test (test x) is (λ later. found_any test other xs z later passes)
  where
    of_test : (b : Bool) → cond b (Some x) (find test xs) ≡ Some z → (find test xs ≡ Some z → list_any other xs ≡ true)
        → (other x || list_any other xs) ≡ true
    of_test true first behind = let same : x ≡ z = cc in rw (ap other same ∙ passes) refl
    of_test false later behind = or_right (other x) (list_any other xs) (behind later)

-- some element passes the test, and of it holds what holds of each
picked : {X : Type 0} (P : X → Type 0) (test : X → Bool) (xs : List X) → AllByRecursion P xs → list_any test xs ≡ true
    → (x : X) × (P x × (test x ≡ true))
picked P test [] each any = cc
picked P test (x ∷ xs) each any =
    elim (or_cases (test x) (list_any test xs) any) [
      | inl here ↦ (x, (each.0, here))
      | inr later ↦ picked P test xs each.1 later
    ]

-- a lock that stands on a resource and does not wait holds a mode there
holds_mode : (pid lkid : ℕ) (r : Resource) → holds_lock pid lkid r ≡ true → list_any (is_lock_of pid lkid) r.waiting ≡ false
    → nat_lt 0 (held_by pid lkid r) ≡ true
holds_mode pid lkid r stands waits =
    elim (or_cases (list_any (is_lock_of pid lkid) r.granted || list_any (is_lock_of pid lkid) r.converting)
    (list_any (is_lock_of pid lkid) r.waiting) stands) [
      | inl holds ↦ elim (or_cases (list_any (is_lock_of pid lkid) r.granted) (list_any (is_lock_of pid lkid) r.converting) holds) [
        | inl granted ↦ grind (arith, nat_tests, locks_counted pid lkid r.granted granted)
        | inr converting ↦ grind (arith, nat_tests, locks_counted pid lkid r.converting converting)
      ]
      | inr waiting ↦ (let no : true ≡ false = sym waiting ∙ waits in cc)
    ]

-- the parent of an accepted request: its lock holds a mode on it, and it is above the lowest level
pub record HasParent (s : State) (e : NewRequest) (up : Resource) : Type 0 where
  pub named : (parent_lkid s e == 0) ≡ false
  pub is : parent_resource s e.pid (parent_lkid s e) ≡ Some up
  pub found : find (holds_lock e.pid (parent_lkid s e)) s.resources ≡ Some up
  pub holds : nat_lt 0 (held_by e.pid (parent_lkid s e) up) ≡ true
  pub level : up.level < 15

-- the request asks for a root, or has its parent
abbrev pub IsSited : State → NewRequest → Type 0
IsSited s e =
    ((parent_lkid s e ≡ 0) × (parent_resource s e.pid (parent_lkid s e) ≡ None)) ⊎ ((up : Resource) × HasParent s e up)

-- an accepted request asks for a root, or has its parent
pub parent_of : (s : State) (e : NewRequest) → enq_refusal s e ≡ None → IsSited s e
unfolding site_refusal parent_refusal lock_refusal waiting_refusal depth_refusal parent_resource
parent_of s e passed = of_test (parent_lkid s e == 0) refl
  where
    passes : parent_refusal s e.pid (parent_lkid s e) ≡ None
    passes =
        (both_pass (parent_refusal s e.pid (parent_lkid s e)) (privilege_refusal s e.pid e.flags (parent_lkid s e)) (enq_passes s e passed).2).0

    each_passes : (parent_lkid s e == 0) ≡ false → (lock_refusal s e.pid (parent_lkid s e) ≡ None)
        × (waiting_refusal e.pid (parent_lkid s e) (parent_resource s e.pid (parent_lkid s e)) ≡ None)
        × (depth_refusal (parent_resource s e.pid (parent_lkid s e)) ≡ None)
    each_passes named =
        three_pass (lock_refusal s e.pid (parent_lkid s e)) (waiting_refusal e.pid (parent_lkid s e) (parent_resource s e.pid (parent_lkid s e)))
        (depth_refusal (parent_resource s e.pid (parent_lkid s e)))
        (subst (λ (b : Bool). cond b None (or_else (lock_refusal s e.pid (parent_lkid s e))
        (or_else (waiting_refusal e.pid (parent_lkid s e) (parent_resource s e.pid (parent_lkid s e)))
        (depth_refusal (parent_resource s e.pid (parent_lkid s e))))) ≡ None) named passes)

    of_test : (b : Bool) → (parent_lkid s e == 0) ≡ b → IsSited s e
    of_test true is = inl (eqb-true (parent_lkid s e) 0 is, rw is refl)
    of_test false is =
        let any : list_any (holds_lock e.pid (parent_lkid s e)) s.resources ≡ true =
        test_passes (list_any (holds_lock e.pid (parent_lkid s e)) s.resources) Ivlockid (each_passes is).0 in
        let there = any_found (holds_lock e.pid (parent_lkid s e)) s.resources any in
        let parent : parent_resource s e.pid (parent_lkid s e) ≡ Some there.0 =
        ap (λ (b : Bool). cond b None (find (holds_lock e.pid (parent_lkid s e)) s.resources)) is ∙ there.1 in
        let waits : list_any (is_lock_of e.pid (parent_lkid s e)) there.0.waiting ≡ false =
        test_fails (list_any (is_lock_of e.pid (parent_lkid s e)) there.0.waiting) Parnotgrant
        (subst (λ (up : Option Resource). waiting_refusal e.pid (parent_lkid s e) up ≡ None) parent (each_passes is).1) in
        let above : nat_lt there.0.level 15 ≡ true =
        test_passes (nat_lt there.0.level 15) Exdepth (subst (λ (up : Option Resource). depth_refusal up ≡ None) parent (each_passes is).2) in
        inr (
          there.0,
          record {
            named = is;
            is = parent;
            found = there.1;
            holds = holds_mode e.pid (parent_lkid s e) there.0 (found_at (holds_lock e.pid (parent_lkid s e)) s.resources there.0 there.1).passes waits;
            level = grind (arith, nat_tests, above);
          },
        )

-- the parent stays as a lock enters
pub up_entered : (p : Position) (pid lkid serial : ℕ) (site : Site) (row : LockState) (at_once : Bool) (resources : List Resource)
    → list_any (is_up p pid lkid) resources ≡ true → list_any (is_up p pid lkid) (resources_after_entry serial site row at_once resources) ≡ true
up_entered p pid lkid serial site row at_once [] up = cc
up_entered p pid lkid serial site row at_once (r ∷ rest) up =
    cond_both (is_at site.key r) (resource_after_entry row at_once r ∷ rest) (r ∷ resources_after_entry serial site row at_once rest)
    (λ after. list_any (is_up p pid lkid) after ≡ true)
    (λ _. elim (or_cases (is_up p pid lkid r) (list_any (is_up p pid lkid) rest) up) [
      | inl here ↦ rw (still_up p pid lkid r (resource_after_entry row at_once r) (entry_keeps_place row at_once r)
          (entered_held pid lkid row at_once r) here) refl
      | inr later ↦ or_right (is_up p pid lkid (resource_after_entry row at_once r)) (list_any (is_up p pid lkid) rest) later
    ])
    (λ _. elim (or_cases (is_up p pid lkid r) (list_any (is_up p pid lkid) rest) up) [
      | inl here ↦ rw here refl
      | inr later ↦ or_right (is_up p pid lkid r) (list_any (is_up p pid lkid) (resources_after_entry serial site row at_once rest))
          (up_entered p pid lkid serial site row at_once rest later)
    ])

-- among rows that all have their parents, where there is one, is one that has
some_rooted : (f : LockState → ℕ) (granted converting waiting : List LockState)
    → (is_empty granted && is_empty converting && is_empty waiting) ≡ false → sum_by f granted + sum_by f converting + sum_by f waiting ≡ 0
    → (row : LockState) × (f row ≡ 0)
some_rooted f (row ∷ rows) converting waiting some none = (row, omega (arith, none, sum_by-cons f row rows))
some_rooted f [] (row ∷ rows) waiting some none = (row, omega (arith, none, sum_by-cons f row rows))
some_rooted f [] [] (row ∷ rows) some none = (row, omega (arith, none, sum_by-cons f row rows))
some_rooted f [] [] [] some none = cc

-- a row that is not loose has its parent
pub rooted_row : (all : List Resource) (p : Position) (row : LockState) → loose all p row ≡ 0 → is_rooted all p row ≡ true
rooted_row all p row none = of_test (is_rooted all p row) none
  where
    of_test : (b : Bool) → cond {A = ℕ} b 0 1 ≡ 0 → b ≡ true
    of_test true is = refl
    of_test false is = absurd (omega (arith, is))

-- a resource with a lock, whose rows have their parents, is a root at level 0, or its parent resource is there
pub stands_well : (all : List Resource) (r : Resource) → is_vacant r ≡ false → AllRooted all r
    → ((r.parent ≡ 0) × (r.level ≡ 0)) ⊎ (((r.parent == 0) ≡ false) × (list_any (is_parent (position r)) all ≡ true))
stands_well all r occupied rooted =
    let some = some_rooted (loose all (position r)) r.granted r.converting r.waiting occupied rooted in
    of_row some.0 (or_cases ((r.parent == 0) && (some.0.parent == 0) && (r.level == 0))
    (not (r.parent == 0) && not (some.0.parent == 0) && list_any (is_up (position r) some.0.pid some.0.parent) all)
    (rooted_row all (position r) some.0 some.1))
  where
    of_row : (row : LockState) → (((r.parent == 0) && (row.parent == 0) && (r.level == 0)) ≡ true)
        ⊎ ((not (r.parent == 0) && not (row.parent == 0) && list_any (is_up (position r) row.pid row.parent) all) ≡ true)
        → ((r.parent ≡ 0) × (r.level ≡ 0)) ⊎ (((r.parent == 0) ≡ false) × (list_any (is_parent (position r)) all ≡ true))
    of_row row (inl root) =
        let parts = and_parts ((r.parent == 0) && (row.parent == 0)) (r.level == 0) root in
        let first = and_parts (r.parent == 0) (row.parent == 0) parts.0 in
        inl (eqb-true r.parent 0 first.0, eqb-true r.level 0 parts.1)
    of_row row (inr below) =
        let parts = and_parts (not (r.parent == 0) && not (row.parent == 0)) (list_any (is_up (position r) row.pid row.parent) all) below in
        let first = and_parts (not (r.parent == 0)) (not (row.parent == 0)) parts.0 in
        let up = any_found (is_up (position r) row.pid row.parent) all parts.1 in
        let passes : is_up (position r) row.pid row.parent up.0 ≡ true = (found_at (is_up (position r) row.pid row.parent) all up.0 up.1).passes in
        inr (
          not-true (r.parent == 0) first.0,
          found_any (is_up (position r) row.pid row.parent) (is_parent (position r)) all up.0 up.1
              (and_parts (is_parent (position r) up.0) (nat_lt 0 (held_by row.pid row.parent up.0)) passes).0,
        )
      where
        not-true : (b : Bool) → not b ≡ true → b ≡ false
        not-true true is = cc
        not-true false is = refl

-- where serials rise, the resource that is found is the only one of its serial
only_of_serial : (test : Resource → Bool) (up : Resource) (resources : List Resource) → EachPair Rises resources → find test resources ≡ Some up
    → AllByRecursion (λ r. r.serial ≡ up.serial → r ≡ up) resources
only_of_serial test up [] rises is = tt
only_of_serial test up (r ∷ rest) rises is = of_test (test r) is (λ later. only_of_serial test up rest rises.1 later)
  where
    of_test : (b : Bool) → cond b (Some r) (find test rest) ≡ Some up
        → (find test rest ≡ Some up → AllByRecursion (λ x. x.serial ≡ up.serial → x ≡ up) rest)
        → AllByRecursion (λ x. x.serial ≡ up.serial → x ≡ up) (r ∷ rest)
    of_test true first behind =
        let same : r ≡ up = cc in (
          (λ _. same),
          each_weaker (Rises r) (λ x. x.serial ≡ up.serial → x ≡ up)
              (λ x more equal. absurd (omega (arith, more, equal, ap (λ (y : Resource). y.serial) same))) rest rises.0,
        )
    of_test false later behind = (
      (λ equal. absurd (omega (arith, equal, of_found (Rises r) test rest up rises.0 later))),
      behind later,
    )

-- the request's own row has its parent on the resource that it enters
pub own_rooted : (s : State) (e : NewRequest) → enq_refusal s e ≡ None → Placed s → AllByRecursion (λ r. is_vacant r ≡ false) s.resources
    → AllByRecursion (AllRooted s.resources) s.resources → (new : List Resource)
    → ((p : Position) (pid lkid : ℕ) → list_any (is_up p pid lkid) s.resources ≡ true → list_any (is_up p pid lkid) new ≡ true)
    → (is_rooted new (position (new_resource s.next_serial (enq_site s e))) (enq_row s e) ≡ true)
    × AllByRecursion (λ r. is_at (enq_key s e) r ≡ true → is_rooted new (position r) (enq_row s e) ≡ true) s.resources
own_rooted s e passed placed occupied rooted new stays = (made_rooted (parent_of s e passed), each_at_key s.resources occupied rooted)
  where
    site_of : (up : Option Resource) → parent_resource s e.pid (parent_lkid s e) ≡ up → enq_site s e ≡ site_below (root_domain s e.pid e.flags) e.name up
    site_of up is = ap (λ (x : Option Resource). site_below (root_domain s e.pid e.flags) e.name x) is

    as_root : (r : Resource) → r.parent ≡ 0 → r.level ≡ 0 → parent_lkid s e ≡ 0 → is_rooted new (position r) (enq_row s e) ≡ true
    as_root r parent level none = rw (eq-eqb r.parent 0 parent, eq-eqb (parent_lkid s e) 0 none, eq-eqb r.level 0 level) refl

    not_root : (up : Resource) → HasParent s e up → (up.serial == 0) ≡ false
    not_root up has =
        let given = of_found (WasGiven s.next_serial) (holds_lock e.pid (parent_lkid s e)) s.resources up placed.given has.found in
        let first : 0 < up.serial = given.0 in grind (arith, nat_tests, first)

    below_up : (up : Resource) → HasParent s e up → (r : Resource) → r.parent ≡ up.serial → is_parent (position r) up ≡ true
        → is_rooted new (position r) (enq_row s e) ≡ true
    below_up up has r parent is =
        let there : list_any (is_up (position r) e.pid (parent_lkid s e)) new ≡ true =
        stays (position r) e.pid (parent_lkid s e)
        (found_any (holds_lock e.pid (parent_lkid s e)) (is_up (position r) e.pid (parent_lkid s e)) s.resources up has.found (rw (is, has.holds) refl)) in
        rw (ap (λ (n : ℕ). n == 0) parent ∙ not_root up has, has.named, there) refl

    only_parent : (up : Resource) → HasParent s e up → (r : Resource) → r.parent ≡ up.serial
        → list_any (is_parent (position r)) s.resources ≡ true → is_parent (position r) up ≡ true
    only_parent up has r parent any =
        let one = picked (λ (x : Resource). x.serial ≡ up.serial → x ≡ up) (is_parent (position r)) s.resources
        (only_of_serial (holds_lock e.pid (parent_lkid s e)) up s.resources placed.rising has.found) any in
        let first = and_parts ((one.0.serial == r.parent) && is_domain one.0.domain r.domain) (r.level == one.0.level + 1) one.1.1 in
        let serial : one.0.serial ≡ r.parent =
        eqb-true one.0.serial r.parent
        (and_parts (one.0.serial == r.parent) (is_domain one.0.domain r.domain) first.0).0 in
        subst (λ (x : Resource). is_parent (position r) x ≡ true) (one.1.0 (serial ∙ parent)) one.1.1

    made_rooted : IsSited s e → is_rooted new (position (new_resource s.next_serial (enq_site s e))) (enq_row s e) ≡ true
    made_rooted (inl root) =
        let site = site_of None root.1 in
        as_root (new_resource s.next_serial (enq_site s e)) (ap (λ (x : Site). key_parent x.key) site) (ap (λ (x : Site). x.level) site) root.0
    made_rooted (inr below) =
        let up : Resource = below.0 in
        let site = site_of (Some up) below.1.is in
        below_up up below.1 (new_resource s.next_serial (enq_site s e)) (ap (λ (x : Site). key_parent x.key) site)
        (rw (ap (λ (x : Site). key_parent x.key) site, ap (λ (x : Site). x.domain) site, ap (λ (x : Site). x.level) site)
        (rw (eq-eqb up.serial up.serial refl, is_domain_refl up.domain, eq-eqb (up.level + 1) (up.level + 1) refl) refl))

    at_key : (r : Resource) → is_vacant r ≡ false → AllRooted s.resources r → is_at (enq_key s e) r ≡ true → is_rooted new (position r) (enq_row s e) ≡ true
    at_key r busy each at = of_parent (parent_of s e passed) (stands_well s.resources r busy each)
      where
        named : (up : Option Resource) → parent_resource s e.pid (parent_lkid s e) ≡ up
            → r.parent ≡ key_parent (site_below (root_domain s e.pid e.flags) e.name up).key
        named up is = (key_at (enq_site s e).domain (enq_key s e) r (enq_keyed s e placed) at).0 ∙ ap (λ (x : Site). key_parent x.key) (site_of up is)

        of_parent : IsSited s e → ((r.parent ≡ 0) × (r.level ≡ 0)) ⊎ (((r.parent == 0) ≡ false) × (list_any (is_parent (position r)) s.resources ≡ true))
            → is_rooted new (position r) (enq_row s e) ≡ true
        of_parent (inl root) (inl well) = as_root r (named None root.1) well.1 root.0
        of_parent (inl root) (inr below) = let no : true ≡ false = sym (eq-eqb r.parent 0 (named None root.1)) ∙ below.0 in cc
        of_parent (inr under) (inl well) =
            let no : true ≡ false = sym (eq-eqb r.parent 0 well.0) ∙ ap (λ (n : ℕ). n == 0) (named (Some under.0) under.1.is) ∙ not_root under.0 under.1 in cc
        of_parent (inr under) (inr below) =
            let parent : r.parent ≡ under.0.serial = named (Some under.0) under.1.is in
            below_up under.0 under.1 r parent (only_parent under.0 under.1 r parent below.1)

    each_at_key : (rs : List Resource) → AllByRecursion (λ r. is_vacant r ≡ false) rs → AllByRecursion (AllRooted s.resources) rs
        → AllByRecursion (λ r. is_at (enq_key s e) r ≡ true → is_rooted new (position r) (enq_row s e) ≡ true) rs
    each_at_key [] busy each = tt
    each_at_key (r ∷ rest) busy each = (at_key r busy.0 each.0, each_at_key rest busy.1 each.1)
