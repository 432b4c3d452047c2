-- What warnings leave: only whether a lock is armed may change.
use Rattle.std.proofs.Common.{◌≡◌, ◌&&◌, ℕ, Bool, false, List, [], ◌∷◌, map, refl, sym, ap, ◌∙◌}
use Rattle.std.specs.List.{AllByRecursion, AllZip, list_all, list_any, sum_by}
use Rattle.std.proofs.lemmas.Bool.{cond_both}
use Rattle.std.proofs.lemmas.List.Sums.{sum_by-cons}
use Rattle.vlm_words.specs.declared.locks.LockState.{LockState}
use Rattle.vlm_words.specs.declared.modes.Mode.{Mode}
use Rattle.vlm_words.specs.State.{Resource}
use Rattle.vlm_model.specs.Asts.{is_to_warn, resource_after_warning, row_after_warning}
use Rattle.vlm_words.specs.Rows.{fits, is_beside, is_empty}
use Rattle.vlm_model.specs.Sweeps.{is_vacant}
use Rattle.vlm_model.specs.Laws.{IsSameButArmed, IsSameResource}

-- it does not depend on whether the lock is armed
abbrev pub IsArmedBlind : {X : Type 0} → (LockState → X) → Type 0
IsArmedBlind f = (row : LockState) (armed : Bool) → f (record row { armed = armed }) ≡ f row

-- a warned row is the same but for that
pub blind_warned : {X : Type 0} (f : LockState → X) → IsArmedBlind f → (converting waiting : List LockState) (row : LockState)
    → f (row_after_warning converting waiting row) ≡ f row
unfolding row_after_warning
blind_warned f blind converting waiting row =
    cond_both (is_to_warn converting waiting row) (record row { armed = false }) row (λ warned. f warned ≡ f row)
    (λ _. blind row false) (λ _. refl)

-- so what holds of a row whether it is armed or not, holds of it once it is warned
pub holds_warned : (P : LockState → Type 0)
    → ((row : LockState) (armed : Bool) → P row → P (record row { armed = armed }))
    → (converting waiting : List LockState) (row : LockState)
    → P row → P (row_after_warning converting waiting row)
unfolding row_after_warning
holds_warned P blind converting waiting row held =
    cond_both (is_to_warn converting waiting row) (record row { armed = false }) row P (λ _. blind row false held) (λ _. held)

-- and of each row
pub each_warned : (P : LockState → Type 0)
    → ((row : LockState) (armed : Bool) → P row → P (record row { armed = armed }))
    → (converting waiting rows : List LockState)
    → AllByRecursion P rows → AllByRecursion P (map (row_after_warning converting waiting) rows)
each_warned P blind converting waiting [] each = tt
each_warned P blind converting waiting (row ∷ rows) each =
    (holds_warned P blind converting waiting row each.0, each_warned P blind converting waiting rows each.1)

-- warned rows weigh what they weighed
pub sum_warned : (f : LockState → ℕ) → IsArmedBlind f → (converting waiting rows : List LockState)
    → sum_by f (map (row_after_warning converting waiting) rows) ≡ sum_by f rows
sum_warned f blind converting waiting [] = refl
sum_warned f blind converting waiting (row ∷ rows) =
    sum_by-cons f (row_after_warning converting waiting row) (map (row_after_warning converting waiting) rows)
    ∙ rw (blind_warned f blind converting waiting row, sum_warned f blind converting waiting rows) (sym (sum_by-cons f row rows))

-- they pass the tests that they passed
pub all_warned : (test : LockState → Bool) → IsArmedBlind test → (converting waiting rows : List LockState)
    → list_all test (map (row_after_warning converting waiting) rows) ≡ list_all test rows
all_warned test blind converting waiting [] = refl
all_warned test blind converting waiting (row ∷ rows) =
    rw (blind_warned test blind converting waiting row, all_warned test blind converting waiting rows) refl

pub any_warned : (test : LockState → Bool) → IsArmedBlind test → (converting waiting rows : List LockState)
    → list_any test (map (row_after_warning converting waiting) rows) ≡ list_any test rows
any_warned test blind converting waiting [] = refl
any_warned test blind converting waiting (row ∷ rows) =
    rw (blind_warned test blind converting waiting row, any_warned test blind converting waiting rows) refl

-- beside them a mode fits as it fitted
pub fits_warned : (mode : Mode) (converting waiting granted others : List LockState)
    → fits mode (map (row_after_warning converting waiting) granted) others ≡ fits mode granted others
unfolding fits
fits_warned mode converting waiting granted others =
    ap (λ (b : Bool). b && list_all (λ row. is_beside mode row.held) others)
    (all_warned (λ row. is_beside mode row.held) (λ row armed. refl) converting waiting granted)

-- none goes or comes
pub empty_warned : (converting waiting rows : List LockState) → is_empty (map (row_after_warning converting waiting) rows) ≡ is_empty rows
empty_warned converting waiting [] = refl
empty_warned converting waiting (row ∷ rows) = refl

pub vacant_warned : (r : Resource) → is_vacant (resource_after_warning r) ≡ is_vacant r
unfolding resource_after_warning
vacant_warned r = ap (λ (b : Bool). b && is_empty r.converting && is_empty r.waiting) (empty_warned r.converting r.waiting r.granted)

-- a warned resource is the one that it was
pub warned_same : (r : Resource) → IsSameResource r (resource_after_warning r)
unfolding resource_after_warning
warned_same r = record { serial = refl; parent = refl; domain = refl; name = refl; level = refl }

-- its rows are the same but that they may be armed no more
pub stay_warned : (converting waiting olds rows : List LockState) → AllZip IsSameButArmed olds rows
    → AllZip IsSameButArmed olds (map (row_after_warning converting waiting) rows)
stay_warned converting waiting [] [] same = tt
stay_warned converting waiting [] (row ∷ rows) same = absurd same
stay_warned converting waiting (old ∷ olds) [] same = absurd same
stay_warned converting waiting (old ∷ olds) (row ∷ rows) same = (
  record {
    lkid = blind_warned (λ x. x.lkid) (λ x armed. refl) converting waiting row ∙ same.0.lkid;
    pid = blind_warned (λ x. x.pid) (λ x armed. refl) converting waiting row ∙ same.0.pid;
    parent = blind_warned (λ x. x.parent) (λ x armed. refl) converting waiting row ∙ same.0.parent;
    held = blind_warned (λ x. x.held) (λ x armed. refl) converting waiting row ∙ same.0.held;
    want = blind_warned (λ x. x.want) (λ x armed. refl) converting waiting row ∙ same.0.want;
  },
  stay_warned converting waiting olds rows same.1,
)
