use Rattle.std.proofs.Common.{◌≡◌, ◌≢◌, inl, inr, ℕ, zero, suc, true, false, List, [], ◌∷◌, ◌++◌, None, Some, subst, sym, refl, arith}
use Rattle.std.specs.Prelude.{All, Any, Contains}
use Rattle.vlm_words.specs.declared.locks.LockState.{LockState}
use Rattle.vlm_words.specs.declared.locks.Request.{Request}
use Rattle.vlm_words.specs.declared.modes.Mode.{Mode}
use Rattle.vlm_words.specs.declared.steps.Conversion.{Conversion}
use Rattle.vlm_words.specs.Flags.{has_flag, quecvt}
use Rattle.vlm_words.specs.Modes.{is_compatible}
use Rattle.vlm_words.specs.State.{Resource, State}
use Rattle.vlm_model.specs.Endings.{Ending}
use Rattle.vlm_model.specs.Laws.{ConvertsInTurn, IsAskedFor, IsBeside, IsFreeFor, IsGrantedAtOnce, Stands}
use Rattle.vlm_model.proofs.OneLock.{all_of_none, all_of_one, contains_one}
use Rattle.vlm_model.proofs.history_consequences.nothing_that_fits_waits.Goals as goal

-- nothing is granted at once where nothing ends
nothing_ends : (number : ℕ) (endings : List Ending) → endings ≡ [] → IsGrantedAtOnce number endings → ⊥
nothing_ends number endings none granted = let some = subst (IsGrantedAtOnce number) none granted in absurd (omega (arith, some.2))

-- what the row holds is beside the mode
beside_held : (mode : Mode) (row : LockState) (held : Request) → row.held ≡ Some held → is_compatible mode held.mode ≡ true
    → IsBeside mode row.held
beside_held mode row held holds fits = subst (IsBeside mode) (sym holds) fits

pub returns-clause-first : goal.returns-clause-first
returns-clause-first c = λ old e cond lkid law answered none ends.
    nothing_ends old.next_request _ ends
    (law.requests e None lkid refl (cond, answered)
    (inl (all_of_none (λ (r : Resource). IsAskedFor old e r → IsFreeFor e.mode r) old.resources none)))

pub returns-clause-expedited : goal.returns-clause-expedited
returns-clause-expedited c = λ old e cond lkid law answered flagged nl ends.
    nothing_ends old.next_request _ ends (law.requests e None lkid refl (cond, answered) (inr (flagged, nl)))

pub returns-clause-beside : goal.returns-clause-beside
returns-clause-beside c = λ old e cond lkid r row held law answered one alone holds fits ends.
    let free : IsFreeFor e.mode r = record {
      no_conversions = alone.converting;
      nobody_waits = alone.waiting;
      beside = all_of_one (λ (row : LockState). IsBeside e.mode row.held) r.granted row alone.granted (beside_held e.mode row held holds fits);
    } in
    nothing_ends old.next_request _ ends
    (law.requests e None lkid refl (cond, answered)
    (inl (all_of_one (λ (r : Resource). IsAskedFor old e r → IsFreeFor e.mode r) old.resources r one (λ asked. free))))

-- the lock is on the resource, and its conversion is in turn
in_turn : (old : State) (c : Conversion) (r : Resource) (row : LockState) → old.resources ≡ r ∷ [] → r.granted ≡ row ∷ []
    → ConvertsInTurn c row.lkid r → Any (λ (r : Resource). Stands row.lkid r.granted × ConvertsInTurn c row.lkid r) old.resources
in_turn old c r row one granted turn =
    let there : Contains old.resources r = contains_one old.resources r one in
    let here : Contains r.granted row = contains_one r.granted row granted in
    let stands : Stands row.lkid r.granted = (here.0, row, here.1, here.2, refl) in
    (there.0, r, there.1, there.2, (stands, turn))

pub returns-clause-only_lock : goal.returns-clause-only_lock
returns-clause-only_lock c = λ old c' cond r row law answered one alone ends.
    let rows : r.granted ++ r.converting ≡ row ∷ [] = rw (alone.granted, alone.converting) in
    let turn : ConvertsInTurn c' row.lkid r = record {
      beside = all_of_one (λ (other : LockState). other.lkid ≢ row.lkid → IsBeside c'.mode other.held) (r.granted ++ r.converting) row rows
          (λ differs. absurd (differs refl));
      overtakes_none = λ flagged. alone.converting;
    } in
    nothing_ends old.next_request _ ends
    (law.conversions c' None row.lkid refl (cond, answered) (in_turn old c' r row one alone.granted turn))

-- what holds of two elements holds of each
all_of_two : {X : Type 0} (P : X → Type 0) (xs : List X) (x y : X) → xs ≡ x ∷ y ∷ [] → P x → P y → All P xs
all_of_two {X} P xs x y two first second =
    subst (All P) (sym two) of_place
  where
    of_place : All P (x ∷ y ∷ [])
    of_place zero d within = first
    of_place (suc zero) d within = second
    of_place (suc (suc k)) d within = absurd (omega arith)

pub returns-clause-overtaking : goal.returns-clause-overtaking
returns-clause-overtaking c = λ old c' cond r row other held law answered one granted converting holds fits without ends.
    let rows : r.granted ++ r.converting ≡ row ∷ other ∷ [] = rw (granted, converting) in
    let turn : ConvertsInTurn c' row.lkid r = record {
      beside = all_of_two (λ (other : LockState). other.lkid ≢ row.lkid → IsBeside c'.mode other.held) (r.granted ++ r.converting) row other rows
          (λ differs. absurd (differs refl)) (λ differs. beside_held c'.mode other held holds fits);
      overtakes_none = λ flagged. let no : has_flag c'.flags quecvt ≡ false = without in cc;
    } in
    nothing_ends old.next_request _ ends
    (law.conversions c' None row.lkid refl (cond, answered) (in_turn old c' r row one granted turn))
