-- As many locks stand in the queues as the slab has.
use Rattle.std.proofs.Common.{◌≡◌, ◌≢◌, ◌+◌, ℕ, zero, suc, Bool, true, false, cond, List, [], ◌∷◌, ◌++◌, map, length}
use Rattle.std.proofs.Common.{length-append, get_or, set, Option, None, Some, inl, inr, refl, sym, subst, ◌∙◌, arith}
use Rattle.std.specs.Prelude.{◌==◌, is_some, IsSome, count_by}
use Rattle.std.specs.List.{flat_map, sum_by}
use Rattle.std.proofs.lemmas.Bool.{eqb-false, eqb-true}
use Rattle.std.proofs.lemmas.List.Sums.{sum_by-cons}
use Rattle.std.proofs.lemmas.List.{get_or-set_other, length-map}
use Rattle.slab.specs.Slab.{ContainsKey, get, slab_len}
use Rattle.vlm_collections.specs.declared.lists.LinkedList.{LinkedList}
use Rattle.vlm_collections.specs.Lists.{IsApart, IsIn, IsLinked, handles_of}
use Rattle.vlm_words.specs.declared.resources.Queue.{Queue}
use Rattle.vlm_words.specs.declared.resources.Queue.TheVariants.{Granted, Conversion, Waiting}
use Rattle.vlm_records.specs.declared.handles.Place.{Place}
use Rattle.vlm_records.specs.declared.handles.Place.TheVariants.{Queued}
use Rattle.vlm_records.specs.declared.queues.Queues.{Queues}
use Rattle.vlm_records.specs.declared.resources.InOrder.{InOrder}
use Rattle.vlm_store.specs.Records.{StoredResource}
use Rattle.vlm_store.specs.Total.{lock_total}
use Rattle.vlm_records.specs.Shown.{IsPlaced, handles_at, order_links, is_loose_in}
use Rattle.vlm_store.specs.Store.{Beside, Layout, records_of, resource_of, tables, under_handle}
use Rattle.std.proofs.lemmas.Option.{none-some}
use Rattle.vlm_collections.proofs.HandleLists.{in_ahead, in_behind, in_either}
use Rattle.vlm_records.proofs.Counting.{IsApart-append}
use Rattle.vlm_records.proofs.PlacesOnLists.{noted_there, one_place, stands_there}

-- ---- handles that are apart, and all that is there

absent : {T : Type 0} (slot : Option T) → slot ≡ None → IsSome slot → ⊥
absent None is there = cc
absent (Some x) is there = cc

-- 1 for a slot that is not empty
abbrev one_if : {T : Type 0} → Option T → ℕ
one_if slot = cond (is_some slot) 1 0

-- a slot that is cleared counts no more
cleared : {T : Type 0} (slots : List (Option T)) (k : ℕ) → IsSome (get_or slots k None) → count_by is_some (set slots k None) + 1 ≡ count_by is_some slots
cleared {T} [] k there = absurd (absent {T = T} (get_or [] k None) refl there)
cleared {T} (None ∷ slots) zero there = absurd (absent {T = T} (get_or (None ∷ slots) zero None) refl there)
cleared {T} (Some x ∷ slots) zero there = omega (arith, sum_by-cons (one_if {T = T}) (Some x) slots, sum_by-cons (one_if {T = T}) None slots)
cleared {T} (None ∷ slots) (suc k) there =
    omega (arith, cleared slots k there, sum_by-cons (one_if {T = T}) None slots, sum_by-cons (one_if {T = T}) None (set slots k None))
cleared {T} (Some x ∷ slots) (suc k) there =
    omega (arith, cleared slots k there, sum_by-cons (one_if {T = T}) (Some x) slots, sum_by-cons (one_if {T = T}) (Some x) (set slots k None))

-- and is empty
cleared_is : {T : Type 0} (slots : List (Option T)) (k : ℕ) → get_or (set slots k None) k None ≡ None
cleared_is [] k = refl
cleared_is (slot ∷ slots) zero = refl
cleared_is (slot ∷ slots) (suc k) = cleared_is slots k

-- where none is there none is counted
none_there : {T : Type 0} (slots : List (Option T)) → ((k : ℕ) → IsSome (get_or slots k None) → ⊥) → count_by is_some slots ≡ 0
none_there [] none = refl
none_there {T} (None ∷ slots) none = omega (arith, none_there slots (λ k. none (suc k)), sum_by-cons (one_if {T = T}) None slots)
none_there (Some x ∷ slots) none = absurd (none zero refl)

-- the handles of all that is there, each once, are as many
as_many : {T : Type 0} (handles : List ℕ) (slots : List (Option T)) → IsApart handles
    → ((k : ℕ) → IsIn k handles → IsSome (get_or slots k None)) → ((k : ℕ) → IsSome (get_or slots k None) → IsIn k handles)
    → length handles ≡ count_by is_some slots
as_many [] slots apart there all = sym (none_there slots (λ k is. all k is))
as_many {T} (h ∷ hs) slots apart there all =
    let here : IsSome (get_or slots h None) = there h (inl refl) in
    omega (arith, cleared slots h here, as_many hs (set slots h None) apart.1 still every)
  where
    still : (k : ℕ) → IsIn k hs → IsSome (get_or (set slots h None) k None)
    still k among =
        let other : k ≢ h = λ same. apart.0 (subst (λ n. IsIn n hs) same among) in
        subst IsSome (sym (get_or-set_other slots h k None None other)) (there k (inr among))

    every : (k : ℕ) → IsSome (get_or (set slots h None) k None) → IsIn k hs
    every k is = of_test (k == h) refl
      where
        of_test : (b : Bool) → (k == h) ≡ b → IsIn k hs
        of_test true same =
            absurd (absent (get_or (set slots h None) h None) (cleared_is slots h)
            (subst (λ n. IsSome (get_or (set slots h None) n None)) (eqb-true k h same) is))
        of_test false differs =
            elim (all k (subst IsSome (get_or-set_other slots h k None None (eqb-false k h differs)) is)) [
              | inl first ↦ absurd (eqb-false k h differs (sym first))
              | inr later ↦ later
            ]

-- ---- parts that are apart

module _ (handles : Place → List ℕ) where
  -- the handles in the queues of a resource
  abbrev pub of_resource : ℕ → List ℕ
  of_resource r = handles (Queued r Granted) ++ (handles (Queued r Conversion) ++ handles (Queued r Waiting))

  abbrev pub of_all : List ℕ → List ℕ
  of_all order = flat_map of_resource order

  -- one of them stands in a queue of that resource
  pub in_resource : (r k : ℕ) → IsIn k (of_resource r) → (queue : Queue) × IsIn k (handles (Queued r queue))
  in_resource r k there =
      elim (in_either k (handles (Queued r Granted)) (handles (Queued r Conversion) ++ handles (Queued r Waiting)) there) [
        | inl granted ↦ (Granted, granted)
        | inr rest ↦ elim (in_either k (handles (Queued r Conversion)) (handles (Queued r Waiting)) rest) [
          | inl converting ↦ (Conversion, converting)
          | inr waiting ↦ (Waiting, waiting)
        ]
      ]

  pub resource_in : (r k : ℕ) (queue : Queue) → IsIn k (handles (Queued r queue)) → IsIn k (of_resource r)
  resource_in r k Granted there = in_ahead k (handles (Queued r Granted)) (handles (Queued r Conversion) ++ handles (Queued r Waiting)) there
  resource_in r k Conversion there =
      in_behind k (handles (Queued r Granted)) (handles (Queued r Conversion) ++ handles (Queued r Waiting))
      (in_ahead k (handles (Queued r Conversion)) (handles (Queued r Waiting)) there)
  resource_in r k Waiting there =
      in_behind k (handles (Queued r Granted)) (handles (Queued r Conversion) ++ handles (Queued r Waiting))
      (in_behind k (handles (Queued r Conversion)) (handles (Queued r Waiting)) there)

  pub in_all : (order : List ℕ) (k : ℕ) → IsIn k (of_all order) → (r : ℕ) × (IsIn r order × IsIn k (of_resource r))
  in_all [] k none = absurd none
  in_all (r ∷ rest) k there =
      elim (in_either k (of_resource r) (of_all rest) there) [
        | inl here ↦ (r, (inl refl, here))
        | inr later ↦ let found = in_all rest k later in (found.0, (inr found.1.0, found.1.1))
      ]

  pub all_in : (order : List ℕ) (r k : ℕ) → IsIn r order → IsIn k (of_resource r) → IsIn k (of_all order)
  all_in [] r k none there = absurd none
  all_in (q ∷ rest) r k (inl here) there = in_ahead k (of_resource q) (of_all rest) (subst (λ n. IsIn k (of_resource n)) (sym here) there)
  all_in (q ∷ rest) r k (inr later) there = in_behind k (of_resource q) (of_all rest) (all_in rest r k later there)

  module _ (each : (place : Place) → IsApart (handles place)) (one : (at : ℕ) (p q : Place) → IsIn at (handles p) → IsIn at (handles q) → p ≡ q) where
    same_resource : (k a b : ℕ) → IsIn k (of_resource a) → IsIn k (of_resource b) → a ≡ b
    same_resource k a b first second =
        let x = in_resource a k first in
        let y = in_resource b k second in
        let same : Queued a x.0 ≡ Queued b y.0 = one k (Queued a x.0) (Queued b y.0) x.1 y.1 in
        cc

    resource_apart : (r : ℕ) → IsApart (of_resource r)
    resource_apart r =
        IsApart-append (handles (Queued r Granted)) (handles (Queued r Conversion) ++ handles (Queued r Waiting)) (each (Queued r Granted))
        (IsApart-append (handles (Queued r Conversion)) (handles (Queued r Waiting)) (each (Queued r Conversion)) (each (Queued r Waiting))
        (λ k first second. let same : Queued r Conversion ≡ Queued r Waiting = one k (Queued r Conversion) (Queued r Waiting) first second in cc))
        (λ k first second. elim (in_either k (handles (Queued r Conversion)) (handles (Queued r Waiting)) second) [
          | inl converting ↦ let same : Queued r Granted ≡ Queued r Conversion = one k (Queued r Granted) (Queued r Conversion) first converting in cc
          | inr waiting ↦ let same : Queued r Granted ≡ Queued r Waiting = one k (Queued r Granted) (Queued r Waiting) first waiting in cc
        ])

    pub all_apart : (order : List ℕ) → IsApart order → IsApart (of_all order)
    all_apart [] apart = tt
    all_apart (r ∷ rest) apart =
        IsApart-append (of_resource r) (of_all rest) (resource_apart r) (all_apart rest apart.1)
        (λ k first second. let found = in_all rest k second in apart.0 (subst (λ n. IsIn n rest) (same_resource k found.0 r found.1.1 first) found.1.0))

-- ---- what a caller sees

shown_length : (l : Layout) (order : List ℕ)
    → sum_by (λ (r : StoredResource). length r.granted + length r.converting + length r.waiting) (map (resource_of l) order) ≡ length (of_all l.handles order)
shown_length l [] = refl
shown_length l (r ∷ rest) =
    omega (
      arith,
      shown_length l rest,
      sum_by-cons (λ (x : StoredResource). length x.granted + length x.converting + length x.waiting) (resource_of l r) (map (resource_of l) rest),
      length-map (l.handles (Queued r Granted)) (under_handle l.rows),
      length-map (l.handles (Queued r Conversion)) (under_handle l.rows),
      length-map (l.handles (Queued r Waiting)) (under_handle l.rows),
      length-append (of_resource l.handles r) (of_all l.handles rest),
      length-append (l.handles (Queued r Granted)) (l.handles (Queued r Conversion) ++ l.handles (Queued r Waiting)),
      length-append (l.handles (Queued r Conversion)) (l.handles (Queued r Waiting)),
    )

total_shown : (l : Layout) → lock_total (records_of l) ≡ length (of_all l.handles l.order)
unfolding records_of
total_shown l = shown_length l l.order

module _ (q : Queues) (order : LinkedList InOrder) (beside : Beside) (placed : IsPlaced q None) (linked : IsLinked order_links q.resources order)
    (ordered : (r : ℕ) → ContainsKey q.resources r → IsIn r (handles_of order_links q.resources order))
    (none_loose : (k : ℕ) → ContainsKey q.locks k → is_loose_in (get q.locks k) ≡ false) where
  abbrev in_order : List ℕ
  in_order = handles_of order_links q.resources order

  there : (k : ℕ) → IsIn k (of_all (handles_at q) in_order) → ContainsKey q.locks k
  there k among =
      let found = in_all (handles_at q) in_order k among in
      let queued = in_resource (handles_at q) found.0 k found.1.1 in
      (placed.linked (Queued found.0 queued.0)).present k queued.1

  all : (k : ℕ) → ContainsKey q.locks k → IsIn k (of_all (handles_at q) in_order)
  all k is =
      let place = noted_there (get q.locks k) is (none_loose k is) in
      of_place place.0 (placed.stands place.0 k (λ e. none-some k (sym e)) place.1)
    where
      of_place : (p : Place) → IsIn k (handles_at q p) → IsIn k (of_all (handles_at q) in_order)
      of_place (Queued r queue) stands =
          all_in (handles_at q) in_order r k (ordered r (stands_there q (Queued r queue) k stands)) (resource_in (handles_at q) r k queue stands)

  -- as many locks are seen as the slab has
  pub all_counted : lock_total (records_of (tables q order beside)) ≡ slab_len q.locks
  all_counted =
      total_shown (tables q order beside)
      ∙ as_many (of_all (handles_at q) in_order) q.locks.slots
      (all_apart (handles_at q) (λ p. (placed.linked p).apart) (one_place q None placed) in_order linked.apart) there all
