-- Conversions as they are admitted.
use Rattle.std.proofs.Common.{◌≡◌, ℕ, true, List, [], ◌∷◌, Option, None, Some, sym, ap}
use Rattle.std.specs.Prelude.{◌==◌}
use Rattle.std.specs.List.{find}
use Rattle.std.proofs.lemmas.Bool.{and_parts, eqb-true}
use Rattle.vlm_words.specs.declared.locks.Request.{Request}
use Rattle.vlm_words.specs.declared.locks.LockState.{LockState}
use Rattle.vlm_words.specs.State.{Resource}
use Rattle.vlm_words.specs.Rows.{is_lock_of}
use Rattle.vlm_model.specs.Convert.{ConversionAdmission, admission_among, admission_or}

-- a row of this lock of this process has this ID
pub found_lkid : (pid lkid : ℕ) (row : LockState) → is_lock_of pid lkid row ≡ true → row.lkid ≡ lkid
found_lkid pid lkid row is =
    let both = and_parts (row.lkid == lkid) (row.pid == pid) is in eqb-true row.lkid lkid both.0

-- what is the same as some conversion is that conversion
pub some_same : (a b : ConversionAdmission) → Some a ≡ Some b → a ≡ b
some_same a b same = cc

-- what is admitted here asks for this request, and what is admitted later does
of_found : (request : Request) (r : Resource) (a : ConversionAdmission) (found : Option LockState) (later : Option ConversionAdmission)
    → (later ≡ Some a → a.request ≡ request) → admission_or request r found later ≡ Some a → a.request ≡ request
of_found request r a None later behind admitted = behind admitted
of_found request r a (Some row) later behind admitted = ap (λ (b : ConversionAdmission). b.request) (sym (some_same _ a admitted))

-- an admitted conversion asks for this request
pub admitted_request : (request : Request) (pid lkid : ℕ) (a : ConversionAdmission) (resources : List Resource)
    → admission_among request pid lkid resources ≡ Some a → a.request ≡ request
admitted_request request pid lkid a [] admitted = cc
admitted_request request pid lkid a (r ∷ rest) admitted =
    of_found request r a (find (is_lock_of pid lkid) r.granted) (admission_among request pid lkid rest)
    (λ later. admitted_request request pid lkid a rest later) admitted
