-- A conversion changes the sum over all resources as it changes the sum over its own resource.
use Rattle.std.proofs.Common.{◌≡◌, ◌≤◌, ◌+◌, ℕ, Bool, true, List, [], ◌∷◌, map, cond, Option, None, Some, refl, ap, arith}
use Rattle.std.specs.List.{find, sum_by}
use Rattle.std.proofs.lemmas.List.Sums.{sum_by-cons}
use Rattle.vlm_words.specs.declared.locks.Request.{Request}
use Rattle.vlm_words.specs.declared.locks.LockState.{LockState}
use Rattle.vlm_words.specs.declared.resources.ValueBlock.{ValueBlock}
use Rattle.vlm_words.specs.State.{Resource}
use Rattle.vlm_model.specs.Endings.{Ending}
use Rattle.vlm_model.specs.Grants.{grant_endings}
use Rattle.vlm_words.specs.Rows.{is_lock_of, wanting_row}
use Rattle.vlm_model.specs.Convert.{ConversionAdmission, admission_among, admission_or, conversion_endings}
use Rattle.vlm_model.specs.Convert.{converts_at_once, resource_after_conversion, resource_after_conversion_of}
use Rattle.vlm_model.proofs.Admissions.{some_same}
use Rattle.vlm_model.proofs.IdsApart.{standing, stands}
use Rattle.vlm_model.proofs.Counts.{found_stands}
use Rattle.vlm_model.proofs.Each.{Found, found_at}
use Rattle.vlm_model.proofs.EndsOnce.{absent_unchanged}
use Rattle.vlm_model.proofs.Weights.{weigh}

-- what rows weigh; what an ending brings beside the weight, and what it may add to it
module _ (weight : LockState → ℕ) (brings adds : List Ending → ℕ) (request : Request) (caller lkid : ℕ) (block : ValueBlock) where
  -- what resources weigh once the lock converts, with what its grant at once brings, is at most what they weighed, with
  -- what that may add
  abbrev pub ConvertsWithin : ConversionAdmission → List Resource → Type 0
  ConvertsWithin a resources =
      sum_by (weigh weight) (map (resource_after_conversion request a.at_once caller lkid block) resources) + brings (conversion_endings a)
      ≤ sum_by (weigh weight) resources + adds (conversion_endings a)

  -- the endings of a grant, if it comes at once
  abbrev pub endings_at_once : Bool → LockState → List Ending
  endings_at_once at_once row = cond at_once (grant_endings true (wanting_row row request)) []

  -- it is so on the resource of the lock
  module _ (within : (at_once : Bool) (r : Resource) (row : LockState) → Found (is_lock_of caller lkid) r.granted row
      → weigh weight (resource_after_conversion_of request at_once lkid block r (Some row)) + brings
      (endings_at_once at_once row) ≤ weigh weight r + adds (endings_at_once at_once row)) where
    -- where a lock has one row, its conversion is asked for once: on this resource, or on those behind it
    here_or_behind : (r : Resource) (rest : List Resource) (a : ConversionAdmission) (found : Option LockState)
        → find (is_lock_of caller lkid) r.granted ≡ found → standing lkid (r ∷ rest) ≤ 1
        → (admission_among request caller lkid rest ≡ Some a → ConvertsWithin a rest)
        → admission_or request r found (admission_among request caller lkid rest) ≡ Some a
        → weigh weight (resource_after_conversion_of request a.at_once lkid block r found)
        + sum_by (weigh weight) (map (resource_after_conversion request a.at_once caller lkid block) rest)
        + brings (conversion_endings a)
        ≤ weigh weight r + sum_by (weigh weight) rest + adds (conversion_endings a)
    here_or_behind r rest a None is one behind at = omega (arith, behind at)
    here_or_behind r rest a (Some row) is one behind at =
        let at_row : Found (is_lock_of caller lkid) r.granted row = found_at (is_lock_of caller lkid) r.granted row is in
        let here : ConversionAdmission = record { resource = r; row = row; request = request; at_once = converts_at_once request row.lkid r } in
        let same : Some here ≡ Some a = at in
        let its : endings_at_once a.at_once row ≡ conversion_endings a =
        ap (λ (b : ConversionAdmission). cond a.at_once (grant_endings true (wanting_row b.row b.request)) []) (some_same here a same) in
        let absent : standing lkid rest ≡ 0 =
        omega (arith, sum_by-cons (weigh (stands lkid)) r rest, found_stands caller lkid r.granted row at_row) in
        omega (
          arith,
          within a.at_once r row at_row,
          ap brings its,
          ap adds its,
          ap (sum_by (weigh weight)) (absent_unchanged request a.at_once caller lkid block rest absent),
        )

    pub all_convert : (a : ConversionAdmission) (resources : List Resource) → standing lkid resources ≤ 1
        → admission_among request caller lkid resources ≡ Some a → ConvertsWithin a resources
    unfolding resource_after_conversion
    all_convert a [] one at = cc
    all_convert a (r ∷ rest) one at =
        let fewer : standing lkid rest ≤ 1 = omega (arith, sum_by-cons (weigh (stands lkid)) r rest) in
        let all = here_or_behind r rest a (find (is_lock_of caller lkid) r.granted) refl one (λ behind. all_convert a rest fewer behind) at in
        omega (
          arith,
          all,
          sum_by-cons (weigh weight) r rest,
          sum_by-cons (weigh weight) (resource_after_conversion request a.at_once caller lkid block r)
              (map (resource_after_conversion request a.at_once caller lkid block) rest),
        )
