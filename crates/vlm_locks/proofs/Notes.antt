-- Lists of notes of locks: their IDs and handles.
use Rattle.std.proofs.Common.{◌≡◌, ◌<◌, ℕ, zero, suc, List, [], ◌∷◌, ◌++◌, map, length, get_or, refl, sym, ap, ◌∙◌, inl, inr, arith}
use Rattle.std.specs.List.{AllByRecursion}
use Rattle.vlm_words.specs.declared.locks.LockState.{LockState}
use Rattle.vlm_collections.specs.Lists.{IsIn}
use Rattle.vlm_store.specs.Records.{Records, Stores}
use Rattle.vlm_locks.specs.declared.touched.Note.{Note}
use Rattle.vlm_locks.specs.GivingUp.{AreOfLocks, Rise, noted_lkids}
use Rattle.vlm_locks.specs.Rising.{StandById}
use Rattle.vlm_locks.specs.Touched.{RiseByNumber, touched_handles}

-- where the notes rise, so do the IDs
pub rise_noted : (notes : List Note) → RiseByNumber notes → Rise (noted_lkids notes)
rise_noted [] rise = tt
rise_noted (t ∷ notes) rise = (each_noted notes rise.0, rise_noted notes rise.1)
  where
    each_noted : (ts : List Note) → AllByRecursion (λ later. t.number < later.number) ts → AllByRecursion (λ later. t.number < later) (noted_lkids ts)
    each_noted [] each = tt
    each_noted (x ∷ ts) each = (each.0, each_noted ts each.1)

-- and so they do where the locks stand by them
pub rise_in_order : (s : Records) (notes : List Note) → AreOfLocks notes s → StandById s (touched_handles notes) → Rise (noted_lkids notes)
rise_in_order s [] locks stand = tt
rise_in_order s (t ∷ notes) locks stand =
    (each_noted notes (λ x there. locks x (inr there)) (λ at there. stand.0 at there), rise_in_order s notes (λ x there. locks x (inr there)) stand.1)
  where
    first : (row : LockState) × (Stores s t.at row × (row.lkid ≡ t.number))
    first = locks t (inl refl)

    each_noted : (ts : List Note) → AreOfLocks ts s
        → ((at : ℕ) → IsIn at (touched_handles ts) → (a b : LockState) → Stores s t.at a → Stores s at b
        → a.lkid < b.lkid)
        → AllByRecursion (λ later. t.number < later) (noted_lkids ts)
    each_noted [] those older = tt
    each_noted (x ∷ ts) those older =
        let other = those x (inl refl) in (
          omega (arith, older x.at (inl refl) first.0 other.0 first.1.0 other.1.0, first.1.1, other.1.1),
          each_noted ts (λ y there. those y (inr there)) (λ at there. older at (inr there)),
        )

-- the note of an ID
pub note_of : (lkid : ℕ) (notes : List Note) → IsIn lkid (noted_lkids notes) → (t : Note) × (IsIn t notes × (t.number ≡ lkid))
note_of lkid [] there = absurd there
note_of lkid (t ∷ notes) there = elim there [
  | inl here ↦ (t, (inl refl, here))
  | inr later ↦ let found = note_of lkid notes later in (found.0, (inr found.1.0, found.1.1))
]

-- what a note on a spot says is there in a list of what they say
said_there : (says : Note → ℕ) (front back : List ℕ) (notes : List Note) (index : ℕ) (t : Note) → map says notes ≡ front ++ back → length front ≡ index
    → index < length notes → t ≡ get_or notes index t → (others : List ℕ) × (back ≡ says t ∷ others)
said_there says front back [] index t split count within is = absurd (omega (arith, within))
said_there says [] [] (x ∷ notes) index t split count within is = cc
said_there says [] (h ∷ back) (x ∷ notes) zero t split count within is =
    (back, ap (λ (hs : List ℕ). first_or h hs ∷ back) (sym split) ∙ ap (λ (y : Note). says y ∷ back) (sym is))
  where
    first_or : ℕ → List ℕ → ℕ
    first_or other [] = other
    first_or other (y ∷ ys) = y
said_there says [] (h ∷ back) (x ∷ notes) (suc index) t split count within is = absurd (omega (arith, count))
said_there says (f ∷ front) back (x ∷ notes) zero t split count within is = absurd (omega (arith, count))
said_there says (f ∷ front) back (x ∷ notes) (suc index) t split count within is =
    said_there says front back notes index t (ap rest_of split) (omega (arith, count)) (omega (arith, within)) is
  where
    rest_of : List ℕ → List ℕ
    rest_of [] = []
    rest_of (y ∷ ys) = ys

pub handle_there : (front back : List ℕ) (notes : List Note) (index : ℕ) (t : Note) → touched_handles notes ≡ front ++ back → length front ≡ index
    → index < length notes → t ≡ get_or notes index t → (others : List ℕ) × (back ≡ t.at ∷ others)
handle_there = said_there (λ t. t.at)

pub number_there : (front back : List ℕ) (notes : List Note) (index : ℕ) (t : Note) → noted_lkids notes ≡ front ++ back → length front ≡ index
    → index < length notes → t ≡ get_or notes index t → (others : List ℕ) × (back ≡ t.number ∷ others)
number_there = said_there (λ t. t.number)

-- and the note is one of them
pub note_in : (notes : List Note) (index : ℕ) (t : Note) → index < length notes → t ≡ get_or notes index t → IsIn t notes
note_in [] index t within is = absurd (omega (arith, within))
note_in (x ∷ notes) zero t within is = inl (sym is)
note_in (x ∷ notes) (suc index) t within is = inr (note_in notes index t (omega (arith, within)) is)
