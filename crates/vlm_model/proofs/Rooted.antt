-- Each lock of a sub-resource has its parent lock; sweeps, conversions and dequeues keep it.
use Rattle.std.proofs.Common.{◌≡◌, ◌≤◌, ◌+◌, inl, inr, ℕ, Bool, true, false, not, ◌&&◌, ◌||◌, List, [], ◌∷◌, map, cond, refl, sym, subst, arith}
use Rattle.std.specs.Prelude.{◌==◌, nat_lt}
use Rattle.std.specs.List.{AllByRecursion, filter, list_any, sum_by}
use Rattle.std.proofs.lemmas.Bool.{and_parts, cond_both, or_cases, or_right}
use Rattle.std.proofs.lemmas.Bool.Decides.{nat_tests}
use Rattle.std.proofs.lemmas.List.Sums.{sum_by-cons}
use Rattle.vlm_words.specs.declared.locks.LockState.{LockState}
use Rattle.vlm_words.specs.declared.resources.Domain.{Domain}
use Rattle.vlm_words.specs.declared.resources.ValueBlock.{ValueBlock}
use Rattle.vlm_words.specs.State.{Process, Resource}
use Rattle.vlm_model.specs.Effects.{with_value_block}
use Rattle.vlm_words.specs.Rows.{is_empty}
use Rattle.vlm_model.specs.Grants.{service}
use Rattle.vlm_model.specs.Sweeps.{blocks_after_service, is_vacant, resource_after_service, resources_after_service, resources_after_sweep, served_with}
use Rattle.vlm_words.specs.Resources.{is_domain}
use Rattle.vlm_model.specs.Laws.{IsSameResource}
use Rattle.vlm_model.proofs.EachResource.{each_swept}
use Rattle.vlm_model.proofs.Keys.{KeepsPlace, service_keeps_place}
use Rattle.vlm_model.proofs.Weights.{served_weighs, weigh, warned_weighs}
use Rattle.vlm_model.proofs.LastingSums.{IsByName, grant_keeps}
use Rattle.vlm_model.proofs.Holdings.{held_by, locks, served_held}
use Rattle.vlm_model.proofs.Sums.{sum_of_zero}

-- where a sub-resource stands: its parent's serial, its domain, and its level
pub record Position : Type 0 where
  pub parent : ℕ
  pub domain : Domain
  pub level : ℕ

-- where the resource stands
abbrev pub position : Resource → Position
position r = record { parent = r.parent; domain = r.domain; level = r.level }

-- the resource is the parent of one that stands there
abbrev pub is_parent : Position → Resource → Bool
is_parent p up = (up.serial == p.parent) && is_domain up.domain p.domain && (p.level == up.level + 1)

-- and the lock of the process holds a mode on it
abbrev pub is_up : Position → ℕ → ℕ → Resource → Bool
is_up p pid lkid up = is_parent p up && nat_lt 0 (held_by pid lkid up)

-- a lock of a root at level 0 has no parent; that of a sub-resource has one that holds a mode on the parent resource
abbrev pub is_rooted : List Resource → Position → LockState → Bool
is_rooted all p row =
    ((p.parent == 0) && (row.parent == 0) && (p.level == 0))
    || (not (p.parent == 0) && not (row.parent == 0) && list_any (is_up p row.pid row.parent) all)

-- 1 for a row that has not its parent
abbrev pub loose : List Resource → Position → LockState → ℕ
loose all p row = cond (is_rooted all p row) 0 1

pub loose_named : (all : List Resource) (p : Position) → IsByName (loose all p)
loose_named all p row held want armed = refl

-- all rows of the resource have their parents
abbrev pub AllRooted : List Resource → Resource → Type 0
AllRooted all r = weigh (loose all (position r)) r ≡ 0

-- ---- what stays a parent

-- a resource that stands where it did, and on which no less is held, is the parent that it was
pub still_up : (p : Position) (pid lkid : ℕ) (before after : Resource) → IsSameResource before after → held_by pid lkid before ≤ held_by pid lkid after
    → is_up p pid lkid before ≡ true → is_up p pid lkid after ≡ true
still_up p pid lkid before after same more up =
    let parts = and_parts (is_parent p before) (nat_lt 0 (held_by pid lkid before)) up in
    let place : is_parent p after ≡ true = rw (same.serial, same.domain, same.level) parts.0 in
    let holds : nat_lt 0 (held_by pid lkid after) ≡ true = grind (arith, nat_tests, parts.1, more) in
    rw (place, holds) refl

-- the parent stays among resources that are changed so
pub up_mapped : (p : Position) (pid lkid : ℕ) (f : Resource → Resource) → KeepsPlace f → (resources : List Resource)
    → AllByRecursion (λ r. held_by pid lkid r ≤ held_by pid lkid (f r)) resources
    → list_any (is_up p pid lkid) resources ≡ true → list_any (is_up p pid lkid) (map f resources) ≡ true
up_mapped p pid lkid f keeps [] more up = up
up_mapped p pid lkid f keeps (r ∷ rest) more up =
    elim (or_cases (is_up p pid lkid r) (list_any (is_up p pid lkid) rest) up) [
      | inl here ↦ rw (still_up p pid lkid r (f r) (keeps r) more.0 here) refl
      | inr later ↦ or_right (is_up p pid lkid (f r)) (list_any (is_up p pid lkid) (map f rest)) (up_mapped p pid lkid f keeps rest more.1 later)
    ]

-- a resource on which a lock holds a mode is not vacant
not_vacant : (pid lkid : ℕ) (r : Resource) → nat_lt 0 (held_by pid lkid r) ≡ true → is_vacant r ≡ false
not_vacant pid lkid r holds = of_queues r.granted r.converting r.waiting holds
  where
    of_queues : (granted converting waiting : List LockState) → nat_lt 0 (sum_by (locks pid lkid) granted + sum_by (locks pid lkid) converting) ≡ true
        → (is_empty granted && is_empty converting && is_empty waiting) ≡ false
    of_queues [] [] waiting holds = cc
    of_queues [] (row ∷ rows) waiting holds = refl
    of_queues (row ∷ rows) converting waiting holds = refl

-- the parent stays in a sweep
pub up_swept : (p : Position) (pid lkid : ℕ) (processes : List Process) (resources : List Resource)
    → list_any (is_up p pid lkid) resources ≡ true → list_any (is_up p pid lkid) (resources_after_sweep processes resources) ≡ true
unfolding resources_after_sweep
up_swept p pid lkid processes [] up = up
up_swept p pid lkid processes (r ∷ rest) up =
    let after : Resource = resource_after_service processes r in
    let others : List Resource = filter (λ x. not (is_vacant x)) (resources_after_service (blocks_after_service processes r).processes rest) in
    elim (or_cases (is_up p pid lkid r) (list_any (is_up p pid lkid) rest) up) [
      | inl here ↦ (let stays : is_up p pid lkid after ≡ true =
          still_up p pid lkid r after (service_keeps_place (blocks_after_service processes r).value_block r)
          (served_held pid lkid (blocks_after_service processes r).value_block r) here in
          let occupied : is_vacant after ≡ false = not_vacant pid lkid after (and_parts (is_parent p after) (nat_lt 0 (held_by pid lkid after)) stays).1 in
          rw occupied (rw stays refl))
      | inr later ↦ behind after others (up_swept p pid lkid (blocks_after_service processes r).processes rest later)
    ]
  where
    behind : (after : Resource) (others : List Resource) → list_any (is_up p pid lkid) others ≡ true
        → list_any (is_up p pid lkid) (cond (not (is_vacant after)) (after ∷ others) others) ≡ true
    behind after others there =
        cond_both (not (is_vacant after)) (after ∷ others) others (λ left. list_any (is_up p pid lkid) left ≡ true)
        (λ _. or_right (is_up p pid lkid after) (list_any (is_up p pid lkid) others) there) (λ _. there)

-- ---- rows and their parents

-- where each parent stays one, each row that had its parent has it still
pub still_rooted : (old new : List Resource) (p : Position) (row : LockState)
    → (list_any (is_up p row.pid row.parent) old ≡ true → list_any (is_up p row.pid row.parent) new ≡ true) → loose new p row ≤ loose old p row
still_rooted old new p row stays =
    of_tests ((p.parent == 0) && (row.parent == 0) && (p.level == 0)) (not (p.parent == 0) && not (row.parent == 0))
    (list_any (is_up p row.pid row.parent) old) (list_any (is_up p row.pid row.parent) new) stays
  where
    of_tests : (root below was is : Bool) → (was ≡ true → is ≡ true) → cond (root || (below && is)) 0 1 ≤ cond (root || (below && was)) 0 1
    of_tests true below was is stays = omega arith
    of_tests false false was is stays = omega arith
    of_tests false true false true stays = omega arith
    of_tests false true false false stays = omega arith
    of_tests false true true true stays = omega arith
    of_tests false true true false stays = absurd (no (stays refl))
      where
        no : false ≡ true → ⊥
        no is = cc

-- a sum of terms that are no more than two others' is no more than the two sums
sum_le_both : {X : Type 0} (f g h : X → ℕ) → ((x : X) → f x ≤ g x + h x) → (xs : List X) → sum_by f xs ≤ sum_by g xs + sum_by h xs
sum_le_both f g h less [] = omega arith
sum_le_both f g h less (x ∷ xs) =
    omega (arith, less x, sum_le_both f g h less xs, sum_by-cons f x xs, sum_by-cons g x xs, sum_by-cons h x xs)

-- the same for what the rows of a resource weigh
pub weigh_le_both : (f g h : LockState → ℕ) → ((row : LockState) → f row ≤ g row + h row) → (r : Resource) → weigh f r ≤ weigh g r + weigh h r
weigh_le_both f g h less r =
    omega (arith, sum_le_both f g h less r.granted, sum_le_both f g h less r.converting, sum_le_both f g h less r.waiting)

-- where the place is the same, so is what the rows are measured by
same_position : (before after : Resource) → IsSameResource before after → position after ≡ position before
same_position before after same = rw (same.parent, same.domain, same.level) refl

-- rows that have their parents have them in a changed resource, if the change adds no weight
pub rooted_changed : (all : List Resource) (f : Resource → Resource) → KeepsPlace f → (r : Resource)
    → weigh (loose all (position r)) (f r) ≤ weigh (loose all (position r)) r
    → AllRooted all r → AllRooted all (f r)
rooted_changed all f keeps r less rooted =
    subst (λ (p : Position). weigh (loose all p) (f r) ≡ 0) (sym (same_position r (f r) (keeps r))) (omega (arith, less, rooted))

-- and once it is served
rooted_served : (all : List Resource) (block : ValueBlock) (r : Resource) → AllRooted all r → AllRooted all (served_with block r)
rooted_served all block r rooted =
    rooted_changed all (λ x. served_with block x) (service_keeps_place block) r
    (omega (
      arith,
      warned_weighs (loose all (position r)) (λ row armed. refl) (with_value_block block (service r).resource),
      served_weighs (loose all (position r)) (λ ending. 0) (grant_keeps (loose all (position r)) (loose_named all (position r))) r,
      sum_of_zero (service r).endings,
    ))
    rooted

-- a sweep keeps each row's parent
pub rooted_swept : (processes : List Process) (resources : List Resource)
    → AllByRecursion (AllRooted resources) resources
    → AllByRecursion (AllRooted (resources_after_sweep processes resources))
    (resources_after_sweep processes resources)
rooted_swept processes resources rooted =
    let all : List Resource = resources_after_sweep processes resources in
    each_swept (AllRooted all) (AllRooted all) (rooted_served all) processes resources (each_still resources rooted)
  where
    each_still : (rs : List Resource) → AllByRecursion (AllRooted resources) rs → AllByRecursion (AllRooted (resources_after_sweep processes resources)) rs
    each_still [] each = tt
    each_still (r ∷ rest) each = (
      omega (
        arith,
        each.0,
        weigh_le_both (loose (resources_after_sweep processes resources) (position r)) (loose resources (position r)) (λ row. 0)
            (λ row. omega (
              arith,
              still_rooted resources (resources_after_sweep processes resources) (position r) row
                  (up_swept (position r) row.pid row.parent processes resources),
            )) r,
        sum_of_zero r.granted,
        sum_of_zero r.converting,
        sum_of_zero r.waiting,
      ),
      each_still rest each.1,
    )

-- ---- conversions and dequeues

-- rows whose parents may go with a change: there are none
abbrev pub NoneOrphaned : (LockState → Bool) → Resource → Type 0
NoneOrphaned orphaned r = weigh (λ row. cond (orphaned row) 1 0) r ≡ 0

-- a row that has its parent is loose only where that may go
loose_or_orphaned : (old new : List Resource) (p : Position) (orphaned : LockState → Bool) (row : LockState)
    → (orphaned row ≡ false → list_any (is_up p row.pid row.parent) old ≡ true → list_any (is_up p row.pid row.parent) new ≡ true)
    → loose new p row ≤ loose old p row + cond (orphaned row) 1 0
loose_or_orphaned old new p orphaned row stays =
    elim (orphaned row) as (λ b. orphaned row ≡ b → loose new p row ≤ loose old p row + cond b 1 0) [
      | true ↦ λ _. at_most (is_rooted new p row)
      | false ↦ λ keeps. omega (arith, still_rooted old new p row (stays keeps))
    ] refl
  where
    at_most : (b : Bool) → cond b 0 1 ≤ loose old p row + 1
    at_most true = omega arith
    at_most false = omega arith

-- a change of each resource keeps each row's parent, where it leaves its place, adds no row, and takes no parent of a row
-- that it leaves
pub rooted_mapped : (f : Resource → Resource) → KeepsPlace f → ((g : LockState → ℕ) → IsByName g → (r : Resource) → weigh g (f r) ≤ weigh g r)
    → (orphaned : LockState → Bool) → (resources : List Resource)
    → ((p : Position) (row : LockState) → orphaned row ≡ false → list_any (is_up p row.pid row.parent) resources ≡ true
    → list_any (is_up p row.pid row.parent) (map f resources) ≡ true)
    → AllByRecursion (λ r. NoneOrphaned orphaned (f r)) resources → AllByRecursion (AllRooted resources) resources
    → AllByRecursion (AllRooted (map f resources)) (map f resources)
rooted_mapped f keeps fewer orphaned resources stays none rooted = each_changed resources none rooted
  where
    each_changed : (rs : List Resource) → AllByRecursion (λ r. NoneOrphaned orphaned (f r)) rs → AllByRecursion (AllRooted resources) rs
        → AllByRecursion (AllRooted (map f resources)) (map f rs)
    each_changed [] orphans each = tt
    each_changed (r ∷ rest) orphans each = (
      subst (λ (p : Position). weigh (loose (map f resources) p) (f r) ≡ 0) (sym (same_position r (f r) (keeps r)))
          (omega (
            arith,
            each.0,
            orphans.0,
            fewer (loose resources (position r)) (loose_named resources (position r)) r,
            weigh_le_both (loose (map f resources) (position r)) (loose resources (position r)) (λ row. cond (orphaned row) 1 0)
                (λ row. loose_or_orphaned resources (map f resources) (position r) orphaned row (stays (position r) row)) (f r),
          )),
      each_changed rest orphans.1 each.1,
    )
