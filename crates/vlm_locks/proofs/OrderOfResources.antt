-- Resources in the order of making: those before one, and those after it.
use Rattle.std.proofs.Common.{◌≡◌, ◌≢◌, ℕ, List, [], ◌∷◌, ◌++◌, map, IsSome, refl, sym, ap, ◌∙◌, subst, inl, inr, append_assoc, eq-eqb, ne_eqb}
use Rattle.std.specs.List.{AllByRecursion}
use Rattle.std.proofs.lemmas.Bool.{cases_eq}
use Rattle.vlm_collections.specs.Lists.{IsIn}
use Rattle.vlm_model.specs.Stable.{IsStable}
use Rattle.vlm_store.specs.Plain.{plain_resource}
use Rattle.vlm_store.specs.Records.{AreResourcesApart, HasResource, Records, StoredResource, resource_at}
use Rattle.vlm_locks.specs.Sweeping.{AreStableBut, Parted, StandInOrder}

-- the resource of a handle has some before and some after it
pub parted_at : (res : ℕ) (rs : List StoredResource) → IsSome (resource_at res rs) → Parted res rs
parted_at res [] there = cc
parted_at res (x ∷ rs) there =
    elim (cases_eq x.at res) [
      | inl same ↦ record { before = []; own = x; after = rs; keyed = same; parted = refl }
      | inr differs ↦
          let behind = parted_at res rs (rw (ne_eqb x.at res differs) at there) in
          record { before = x ∷ behind.before; own = behind.own; after = behind.after; keyed = behind.keyed; parted = ap (λ xs. x ∷ xs) behind.parted }
    ]

-- one resource stands in order by itself
pub one_in_order : (res : ℕ) (s : Records) → HasResource res s → StandInOrder (res ∷ []) s.resources
one_in_order res s there = (parted_at res s.resources there, tt)

-- and one that has some before and some after it is there
found_between : (res : ℕ) (before : List StoredResource) (own : StoredResource) (after : List StoredResource) → own.at ≡ res
    → IsSome (resource_at res (before ++ own ∷ after))
found_between res [] own after keyed = rw (eq-eqb own.at res keyed) refl
found_between res (x ∷ before) own after keyed =
    elim (cases_eq x.at res) [
      | inl same ↦ rw (eq-eqb x.at res same) refl
      | inr differs ↦ rw (ne_eqb x.at res differs) (found_between res before own after keyed)
    ]

pub parted_there : (res : ℕ) (s : Records) → Parted res s.resources → HasResource res s
parted_there res s p = subst (λ rs. IsSome (resource_at res rs)) (sym p.parted) (found_between res p.before p.own p.after p.keyed)

pub among_before : (xs ys : List StoredResource) (x : StoredResource) → IsIn x xs → IsIn x (xs ++ ys)
among_before [] ys x among = absurd among
among_before (y ∷ xs) ys x among = elim among [ inl here ↦ inl here | inr there ↦ inr (among_before xs ys x there) ]

pub among_after : (xs ys : List StoredResource) (x : StoredResource) → IsIn x ys → IsIn x (xs ++ ys)
among_after [] ys x among = among
among_after (y ∷ xs) ys x among = inr (among_after xs ys x among)

-- those behind others have other handles than these
apart_behind : (xs ys : List StoredResource) → AreResourcesApart (xs ++ ys) → AreResourcesApart ys
apart_behind [] ys apart = apart
apart_behind (x ∷ xs) ys apart = apart_behind xs ys apart.1

apart_across : (xs ys : List StoredResource) → AreResourcesApart (xs ++ ys) → (x y : StoredResource) → IsIn x xs → IsIn y ys → y.at ≢ x.at
apart_across [] ys apart x y here there = absurd here
apart_across (z ∷ xs) ys apart x y here there =
    elim here [
      | inl is ↦ subst (λ (w : StoredResource). y.at ≢ w.at) is (apart.0 y (among_after xs ys y there))
      | inr later ↦ apart_across xs ys apart.1 x y later there
    ]

module _ (res : ℕ) (rs : List StoredResource) (apart : AreResourcesApart rs) (p : Parted res rs) where
  split : AreResourcesApart (p.before ++ p.own ∷ p.after)
  split = subst AreResourcesApart p.parted apart

  pub own_there : IsIn p.own rs
  own_there = subst (IsIn p.own) (sym p.parted) (among_after p.before (p.own ∷ p.after) p.own (inl refl))

  before_there : (x : StoredResource) → IsIn x p.before → IsIn x rs
  before_there x here = subst (IsIn x) (sym p.parted) (among_before p.before (p.own ∷ p.after) x here)

  after_there : (x : StoredResource) → IsIn x p.after → IsIn x rs
  after_there x there = subst (IsIn x) (sym p.parted) (among_after p.before (p.own ∷ p.after) x (inr there))

  pub before_differ : (x : StoredResource) → IsIn x p.before → x.at ≢ res
  before_differ x here same = apart_across p.before (p.own ∷ p.after) split x p.own here (inl refl) (p.keyed ∙ sym same)

  pub after_differ : (x : StoredResource) → IsIn x p.after → x.at ≢ res
  after_differ x there same = (apart_behind p.before (p.own ∷ p.after) split).0 x there (same ∙ sym p.keyed)

  after_apart : AreResourcesApart p.after
  after_apart = (apart_behind p.before (p.own ∷ p.after) split).1

  across : (x y : StoredResource) → IsIn x p.before → IsIn y p.after → y.at ≢ x.at
  across x y here there = apart_across p.before (p.own ∷ p.after) split x y here (inr there)

-- ---- what is to be swept

-- each of these is stable
abbrev pub AreStable : List StoredResource → Type 0
AreStable rs = AllByRecursion IsStable (map plain_resource rs)

all_stable : (rs : List StoredResource) → ((x : StoredResource) → IsIn x rs → IsStable (plain_resource x)) → AreStable rs
all_stable [] each = tt
all_stable (r ∷ rs) each = (each r (inl refl), all_stable rs (λ x there. each x (inr there)))

stable-append : (xs ys : List StoredResource) → AreStable xs → AreStable ys → AreStable (xs ++ ys)
stable-append [] ys first later = later
stable-append (x ∷ xs) ys first later = (first.0, stable-append xs ys first.1 later)

-- the touched resources in their order; those before, between and after them are stable
abbrev pub AreToSweep : List ℕ → List StoredResource → Type 0
AreToSweep [] rs = AreStable rs
AreToSweep (res ∷ touched) rs = (here : Parted res rs) × (AreStable here.before × AreToSweep touched here.after)

-- a touched resource is there
touched_there : (touched : List ℕ) (rs : List StoredResource) → StandInOrder touched rs → (res : ℕ) → IsIn res touched
    → (y : StoredResource) × (IsIn y rs × (y.at ≡ res))
touched_there [] rs stand res is = absurd is
touched_there (first ∷ touched) rs stand res is =
    let p = stand.0 in
    let there : (y : StoredResource) → IsIn y (p.own ∷ p.after) → IsIn y rs =
    λ y among. subst (IsIn y) (sym p.parted) (among_after p.before (p.own ∷ p.after) y among) in
    elim is [
      | inl here ↦ (p.own, (there p.own (inl refl), p.keyed ∙ here))
      | inr later ↦ let found = touched_there touched p.after stand.1 res later in (found.0, (there found.0 (inr found.1.0), found.1.1))
    ]

pub to_sweep : (touched : List ℕ) (rs : List StoredResource) → AreResourcesApart rs → StandInOrder touched rs → AreStableBut touched rs → AreToSweep touched rs
to_sweep [] rs apart stand stable = all_stable rs (λ x among. stable x among (λ none. none))
to_sweep (res ∷ touched) rs apart stand stable =
    let p = stand.0 in (
      p,
      (
        all_stable p.before (λ x here. stable x (before_there res rs apart p x here) (λ is. elim is [
          | inl same ↦ before_differ res rs apart p x here (sym same)
          | inr later ↦ (
              let found = touched_there touched p.after stand.1 x.at later in
              across res rs apart p x found.0 here found.1.0 found.1.1
              )
        ])),
        to_sweep touched p.after (after_apart res rs apart p) stand.1 (λ x there untouched. stable x (after_there res rs apart p x there) (λ is. elim is [
          | inl same ↦ after_differ res rs apart p x there (sym same)
          | inr later ↦ untouched later
        ])),
      ),
    )

-- stable resources before them change nothing of that
pub to_sweep_behind : (before : List StoredResource) → AreStable before → (touched : List ℕ) (rs : List StoredResource)
    → AreToSweep touched rs → AreToSweep touched (before ++ rs)
to_sweep_behind before stable [] rs all = stable-append before rs stable all
to_sweep_behind before stable (res ∷ touched) rs all =
    let p = all.0 in (
      record {
        before = before ++ p.before;
        own = p.own;
        after = p.after;
        keyed = p.keyed;
        parted = ap (λ xs. before ++ xs) p.parted ∙ sym (append_assoc before p.before (p.own ∷ p.after));
      },
      (stable-append before p.before stable all.1.0, all.1.1),
    )
