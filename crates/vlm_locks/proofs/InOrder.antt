-- Touched resources in the order of their making.
use Rattle.std.proofs.Common.{◌≡◌, ◌≤◌, ◌<◌, ℕ, Bool, true, false, cond, List, [], ◌∷◌, ◌++◌, length, get_or, refl, sym}
use Rattle.std.proofs.Common.{ap, subst, ◌∙◌, zero, suc, inl, inr, arith}
use Rattle.std.specs.Prelude.{◌==◌}
use Rattle.std.specs.List.{AllByRecursion, dedup, dedup_from}
use Rattle.std.specs.List.Sorted.{IsNonDecreasingBy, IsPermutation}
use Rattle.std.proofs.lemmas.Bool.{eqb-true}
use Rattle.std.proofs.lemmas.Bool.Decides.{nat_tests}
use Rattle.std.proofs.lemmas.List.Elements.{All-from_recursion, recursion_from_All}
use Rattle.std.proofs.lemmas.List.Sorted.{All-permutation}
use Rattle.vlm_model.proofs.Each.{each_weaker}
use Rattle.vlm_collections.specs.Lists.{IsIn}
use Rattle.vlm_locks.specs.declared.touched.Note.{Note}
use Rattle.vlm_store.specs.Records.{StoredResource}
use Rattle.vlm_locks.specs.Sweeping.{StandInOrder}
use Rattle.vlm_locks.specs.Touched.{AreAmong, IsNoted, RiseByNumber, StandBySerial, touched_handles}

-- two notes of one number
abbrev pub same_number : Note → Note → Bool
same_number a b = a.number == b.number

-- ---- the same notes in another order

all_among : (P : Note → Type 0) (xs : List Note) → ((x : Note) → IsIn x xs → P x) → AllByRecursion P xs
all_among P [] each = tt
all_among P (x ∷ xs) each = (each x (inl refl), all_among P xs (λ y there. each y (inr there)))

one_among : (P : Note → Type 0) (xs : List Note) → AllByRecursion P xs → (x : Note) → IsIn x xs → P x
one_among P [] each x none = absurd none
one_among P (y ∷ xs) each x (inl here) = subst P here each.0
one_among P (y ∷ xs) each x (inr there) = one_among P xs each.1 x there

resource_among : (P : StoredResource → Type 0) (xs : List StoredResource) → AllByRecursion P xs → (x : StoredResource) → IsIn x xs → P x
resource_among P [] each x none = absurd none
resource_among P (y ∷ xs) each x (inl here) = subst P here each.0
resource_among P (y ∷ xs) each x (inr there) = resource_among P xs each.1 x there

pub permuted_in : (xs ys : List Note) → IsPermutation xs ys → (t : Note) → IsIn t ys → IsIn t xs
permuted_in xs ys moved t there =
    one_among (λ y. IsIn y xs) ys
    (recursion_from_All (λ y. IsIn y xs) ys
    (All-permutation (λ y. IsIn y xs) xs ys moved
    (All-from_recursion (λ y. IsIn y xs) xs (all_among (λ y. IsIn y xs) xs (λ y here. here)))))
    t there

-- ---- each once

-- no number is less than the one before
abbrev Climbs : ℕ → List Note → Type 0
Climbs number [] = Unit {0}
Climbs number (t ∷ touches) = (number ≤ t.number) × Climbs t.number touches

climbs_from : (xs : List Note) (n : ℕ) → ((k : ℕ) (d : Note) → k < length xs → n ≤ (get_or xs k d).number)
    → ((i j : ℕ) (d : Note) → i ≤ j → j < length xs → (get_or xs i d).number ≤ (get_or xs j d).number) → Climbs n xs
climbs_from [] n above up = tt
climbs_from (x ∷ xs) n above up = (
  above zero x (omega arith),
  climbs_from xs x.number (λ k d within. up zero (suc k) d (omega arith) (omega arith)) (λ i j d le within. up (suc i) (suc j) d (omega arith) (omega arith)),
)

-- where they climb, those that are left rise
rise_from : (k : Note) (xs : List Note) → Climbs k.number xs
    → AllByRecursion (λ later. k.number ≤ later.number) (dedup_from same_number k xs)
    × RiseByNumber (dedup_from same_number k xs)
rise_from k [] up = ((omega arith, tt), (tt, tt))
rise_from k (x ∷ xs) up =
    of_test (x.number == k.number) refl
    (λ is. rise_from k xs (subst (λ n. Climbs n xs) (eqb-true x.number k.number is) up.1)) (rise_from x xs up.1)
  where
    of_test : (b : Bool) → (x.number == k.number) ≡ b
        → ((x.number == k.number) ≡ true
        → AllByRecursion (λ later. k.number ≤ later.number) (dedup_from same_number k xs)
        × RiseByNumber (dedup_from same_number k xs))
        → AllByRecursion (λ later. x.number ≤ later.number) (dedup_from same_number x xs) × RiseByNumber (dedup_from same_number x xs)
        → AllByRecursion (λ later. k.number ≤ later.number) (cond b (dedup_from same_number k xs) (k ∷ dedup_from same_number x xs))
        × RiseByNumber (cond b (dedup_from same_number k xs) (k ∷ dedup_from same_number x xs))
    of_test true is same behind = same is
    of_test false is same behind =
        let above : k.number < x.number = grind (arith, nat_tests, is, up.0) in (
          (
            omega arith,
            each_weaker (λ later. x.number ≤ later.number) (λ later. k.number ≤ later.number)
                (λ later is_above. omega (arith, above, is_above)) (dedup_from same_number x xs) behind.0,
          ),
          (
            each_weaker (λ later. x.number ≤ later.number) (λ later. k.number < later.number)
                (λ later is_above. omega (arith, above, is_above)) (dedup_from same_number x xs) behind.0,
            behind.1,
          ),
        )

pub rise_once : (xs : List Note) → IsNonDecreasingBy (λ t. t.number) xs → RiseByNumber (dedup same_number xs)
rise_once [] up = tt
rise_once (x ∷ xs) up =
    (rise_from x xs (climbs_from xs x.number (λ k d within. up zero (suc k) d (omega arith) (omega arith))
    (λ i j d le within. up (suc i) (suc j) d (omega arith) (omega arith)))).1

-- what is left was there
left_from : (k : Note) (xs : List Note) (t : Note) → IsIn t (dedup_from same_number k xs) → IsIn t (k ∷ xs)
left_from k [] t there = there
left_from k (x ∷ xs) t there = of_test (x.number == k.number) there (left_from k xs t) (left_from x xs t)
  where
    of_test : (b : Bool) → IsIn t (cond b (dedup_from same_number k xs) (k ∷ dedup_from same_number x xs))
        → (IsIn t (dedup_from same_number k xs) → IsIn t (k ∷ xs)) → (IsIn t (dedup_from same_number x xs) → IsIn t (x ∷ xs))
        → IsIn t (k ∷ x ∷ xs)
    of_test true left same next = elim (same left) [ inl here ↦ inl here | inr behind ↦ inr (inr behind) ]
    of_test false (inl here) same next = inl here
    of_test false (inr behind) same next = inr (next behind)

pub left_was_there : (xs : List Note) (t : Note) → IsIn t (dedup same_number xs) → IsIn t xs
left_was_there [] t there = there
left_was_there (x ∷ xs) t there = left_from x xs t there

-- and of each number one is left
noted_behind : (k : Note) (number : ℕ) (touches : List Note) → IsNoted number touches → IsNoted number (k ∷ touches)
noted_behind k number touches noted = (noted.0, (inr noted.1.0, noted.1.1))

kept_from : (k : Note) (xs : List Note) (t : Note) → IsIn t (k ∷ xs) → IsNoted t.number (dedup_from same_number k xs)
kept_from k [] t (inl here) = (k, (inl refl, ap (λ (x : Note). x.number) here))
kept_from k [] t (inr none) = absurd none
kept_from k (x ∷ xs) t there = of_test (x.number == k.number) refl there (kept_from k xs) (kept_from x xs)
  where
    of_test : (b : Bool) → (x.number == k.number) ≡ b → IsIn t (k ∷ x ∷ xs)
        → ((u : Note) → IsIn u (k ∷ xs) → IsNoted u.number (dedup_from same_number k xs))
        → ((u : Note) → IsIn u (x ∷ xs) → IsNoted u.number (dedup_from same_number x xs))
        → IsNoted t.number (cond b (dedup_from same_number k xs) (k ∷ dedup_from same_number x xs))
    of_test true is (inl here) same next = same t (inl here)
    of_test true is (inr (inl here)) same next =
        let kept = same k (inl refl) in
        (kept.0, (kept.1.0, kept.1.1 ∙ sym (eqb-true x.number k.number is) ∙ ap (λ (y : Note). y.number) here))
    of_test true is (inr (inr behind)) same next = same t (inr behind)
    of_test false is (inl here) same next = (k, (inl refl, ap (λ (y : Note). y.number) here))
    of_test false is (inr behind) same next = noted_behind k t.number (dedup_from same_number x xs) (next t behind)

pub each_is_kept : (xs : List Note) (t : Note) → IsIn t xs → IsNoted t.number (dedup same_number xs)
each_is_kept [] t none = absurd none
each_is_kept (x ∷ xs) t there = kept_from x xs t there

-- ---- where they stand

-- a resource among those that rise, with those behind it: all of higher serials are there
record Behind (r : StoredResource) (resources : List StoredResource) : Type 0 where
  before : List StoredResource
  after : List StoredResource
  parted : resources ≡ before ++ r ∷ after
  rise : StandBySerial after
  higher : (q : StoredResource) → IsIn q resources → r.serial < q.serial → IsIn q after

behind : (r : StoredResource) (resources : List StoredResource) → IsIn r resources → StandBySerial resources → Behind r resources
behind r [] none rise = absurd none
behind r (x ∷ xs) (inl here) rise = record {
  before = [];
  after = xs;
  parted = ap (λ first. first ∷ xs) here;
  rise = rise.1;
  higher = λ q among above. elim among [
    | inl is ↦ absurd (omega (arith, above, ap (λ (y : StoredResource). y.serial) is, ap (λ (y : StoredResource). y.serial) here))
    | inr there ↦ there
  ];
}
behind r (x ∷ xs) (inr there) rise =
    let rest = behind r xs there rise.1 in
    let lower : x.serial < r.serial = resource_among (λ later. x.serial < later.serial) xs rise.0 r there in
    record {
      before = x ∷ rest.before;
      after = rest.after;
      parted = ap (λ (ys : List StoredResource). x ∷ ys) rest.parted;
      rise = rest.rise;
      higher = λ q among above. elim among [
        | inl is ↦ absurd (omega (arith, above, lower, ap (λ (y : StoredResource). y.serial) is))
        | inr further ↦ rest.higher q further above
      ];
    }

-- the touched resources stand in order
pub touches_stand : (touches : List Note) (resources : List StoredResource) → RiseByNumber touches → AreAmong touches resources
    → StandBySerial resources → StandInOrder (touched_handles touches) resources
touches_stand [] resources rise among up = tt
touches_stand (t ∷ touches) resources rise among up =
    let own = among t (inl refl) in
    let part : Behind own.0 resources = behind own.0 resources own.1.0 up in (
      record { before = part.before; own = own.0; after = part.after; keyed = own.1.1; parted = part.parted },
      touches_stand touches part.after rise.1
          (λ u there.
          let other = among u (inr there) in
          let above : t.number < u.number = one_among (λ later. t.number < later.number) touches rise.0 u there in
          (other.0, (part.higher other.0 other.1.0 (omega (arith, above, own.1.2, other.1.2)), other.1.1, other.1.2)))
          part.rise,
    )

-- ---- what is touched still

-- two resources of one serial are the same
one_of_serial : (resources : List StoredResource) → StandBySerial resources → (r q : StoredResource) → IsIn r resources → IsIn q resources
    → r.serial ≡ q.serial → r ≡ q
one_of_serial [] rise r q none there same = absurd none
one_of_serial (x ∷ xs) rise r q (inl here) (inl there) same = sym here ∙ there
one_of_serial (x ∷ xs) rise r q (inl here) (inr there) same =
    absurd (omega (arith, same, ap (λ (y : StoredResource). y.serial) here, resource_among (λ later. x.serial < later.serial) xs rise.0 q there))
one_of_serial (x ∷ xs) rise r q (inr here) (inl there) same =
    absurd (omega (arith, same, ap (λ (y : StoredResource). y.serial) there, resource_among (λ later. x.serial < later.serial) xs rise.0 r here))
one_of_serial (x ∷ xs) rise r q (inr here) (inr there) same = one_of_serial xs rise.1 r q here there same

-- a touched resource's handle is among theirs, and each of these is that of one
pub handle_among : (xs : List Note) (u : Note) → IsIn u xs → IsIn u.at (touched_handles xs)
handle_among [] u none = absurd none
handle_among (x ∷ xs) u (inl here) = inl (ap (λ (y : Note). y.at) here)
handle_among (x ∷ xs) u (inr there) = inr (handle_among xs u there)

pub touch_of : (handle : ℕ) (xs : List Note) → IsIn handle (touched_handles xs) → (t : Note) × (IsIn t xs × (t.at ≡ handle))
touch_of handle [] none = absurd none
touch_of handle (x ∷ xs) (inl here) = (x, (inl refl, here))
touch_of handle (x ∷ xs) (inr there) = let found = touch_of handle xs there in (found.0, (inr found.1.0, found.1.1))

-- the handle of a noted resource is there still where of each serial one is left
pub handles_left : (old new : List Note) (resources : List StoredResource) → StandBySerial resources → AreAmong old resources
    → ((t : Note) → IsIn t new → IsIn t old) → ((t : Note) → IsIn t old → IsNoted t.number new)
    → (handle : ℕ) → IsIn handle (touched_handles old) → IsIn handle (touched_handles new)
handles_left old new resources rise among within each handle there =
    let t = touch_of handle old there in
    let left : IsNoted t.0.number new = each t.0 t.1.0 in
    let one = among t.0 t.1.0 in
    let other = among left.0 (within left.0 left.1.0) in
    let same : other.0 ≡ one.0 =
    one_of_serial resources rise other.0 one.0 other.1.0 one.1.0 (other.1.2 ∙ left.1.1 ∙ sym one.1.2) in
    subst (λ (h : ℕ). IsIn h (touched_handles new)) (sym other.1.1 ∙ ap (λ (y : StoredResource). y.at) same ∙ one.1.1 ∙ t.1.1)
    (handle_among new left.0 left.1.0)
