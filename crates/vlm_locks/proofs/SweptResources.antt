-- The touched resources are swept one after the other.
use Rattle.std.proofs.Common.{◌≡◌, ◌<◌, ◌+◌, ℕ, true, false, not, cond, List, [], ◌∷◌, ◌++◌, length, get_or, drop, map}
use Rattle.std.proofs.Common.{refl, sym, ap, ◌∙◌, subst, inl, inr, eq-eqb, arith}
use Rattle.std.specs.Prelude.{◌==◌}
use Rattle.std.specs.List.{AllByRecursion, list_any}
use Rattle.std.proofs.lemmas.List.{drop_all, drop_more, get_or-map, length-map, map-append}
use Rattle.std.proofs.lemmas.List.Folds.{list_any_at}
use Rattle.vlm_words.specs.Resources.{IsKeyed}
use Rattle.vlm_model.specs.Stable.{IsStable, IsSweptNext, IsUnswept, unless_vacant}
use Rattle.vlm_words.specs.State.{Process, Resource}
use Rattle.vlm_model.specs.Sweeps.{processes_after_service, resource_after_service, resources_after_sweep}
use Rattle.vlm_collections.specs.Lists.{IsIn}
use Rattle.vlm_store.specs.Plain.{plain_processes, plain_resource, plain_resources}
use Rattle.vlm_store.specs.Records.{IsSound, Records, StoredResource, but_notices}
use Rattle.vlm_locks.specs.Rest.{IsAtRest}
use Rattle.vlm_locks.specs.Sweeping.{AreStableBut, IsSwept, Parted, StandInOrder, but_touched}
use Rattle.vlm_locks.specs.Staying.{LocksStayAmong}
use Rattle.vlm_locks.specs.declared.touched.Note.{Note}
use Rattle.vlm_locks.specs.Touched.{touched_handles}
use Rattle.vlm_locks.proofs.Rising.{all_rise_still, none_joined}
use Rattle.vlm_locks.proofs.GrantsKeepResources.{stay_all_among, stay_parts, stay_twice_among}
use Rattle.vlm_locks.proofs.OrderOfResources.{AreToSweep, among_after, among_before, to_sweep, to_sweep_behind}

-- a sweep goes on with a resource, as the law has it
abbrev pub GoesOn : Type 0
GoesOn =
    (processes : List Process) (before : List Resource) (r : Resource) (after : List Resource) → AllByRecursion IsStable before
    → IsSweptNext processes before r after

-- and it is done
abbrev pub IsDone : Type 0
IsDone = (processes : List Process) (resources : List Resource) → AllByRecursion IsStable resources → IsUnswept processes resources

-- these are to be swept still, and the sweep of what stands now is that of what stood before
pub record IsSweeping (touched later : List ℕ) (old now : Records) : Type 0 where
  pub left : AreToSweep later now.resources
  pub resources : resources_after_sweep (plain_processes now) (plain_resources now) ≡ resources_after_sweep (plain_processes old) (plain_resources old)
  pub statuses : processes_after_service (plain_processes now) (plain_resources now) ≡ processes_after_service (plain_processes old) (plain_resources old)
  pub others : but_touched touched now.resources ≡ but_touched touched old.resources
  pub stay : LocksStayAmong old.resources now.resources
  pub none_join : LocksStayAmong now.resources old.resources
  pub processes : map but_notices now.processes ≡ map but_notices old.processes
  pub rest : IsAtRest now

pub sweeping_begun : (touched : List ℕ) (s : Records) → StandInOrder touched s.resources → AreStableBut touched s.resources → IsAtRest s
    → IsSweeping touched touched s s
sweeping_begun touched s stand stable rest = record {
  left = to_sweep touched s.resources rest.sound.resources_apart stand stable;
  resources = refl;
  statuses = refl;
  others = refl;
  stay = stay_all_among s.resources;
  none_join = stay_all_among s.resources;
  processes = refl;
  rest = rest;
}

-- of a list without the touched, the parts are too
but-append : (touched : List ℕ) (xs ys : List StoredResource) → but_touched touched (xs ++ ys) ≡ but_touched touched xs ++ but_touched touched ys
but-append touched [] ys = refl
but-append touched (x ∷ xs) ys =
    elim (list_any (λ res. x.at == res) touched) as (λ b. cond (not b) (x ∷ but_touched touched (xs ++ ys)) (but_touched touched (xs ++ ys))
    ≡ cond (not b) (x ∷ but_touched touched xs) (but_touched touched xs) ++ but_touched touched ys) [
      | true ↦ but-append touched xs ys
      | false ↦ ap (λ zs. x ∷ zs) (but-append touched xs ys)
    ]

-- the touched are not among them
none_touched : (touched : List ℕ) (rs : List StoredResource)
    → ((x : StoredResource) → IsIn x rs → list_any (λ res. x.at == res) touched ≡ true) → but_touched touched rs ≡ []
none_touched touched [] each = refl
none_touched touched (r ∷ rs) each = rw (each r (inl refl)) (none_touched touched rs (λ x there. each x (inr there)))

module _ (touched : List ℕ) (res : ℕ) (later : List ℕ) (old s new : Records) (so_far : IsSweeping touched (res ∷ later) old s)
    (swept : IsSwept res s new so_far.left.0) (goes_on : GoesOn) (is_touched : list_any (λ t. res == t) touched ≡ true)
    (sound_new : IsSound new) (rest : IsAtRest old) where
  abbrev was : Parted res s.resources
  was = so_far.left.0

  abbrev before : List Resource
  before = map plain_resource was.before

  abbrev after : List Resource
  after = map plain_resource was.after

  next : IsSweptNext (plain_processes s) before (plain_resource was.own) after
  next = goes_on (plain_processes s) before (plain_resource was.own) after so_far.left.1.0

  shown_before : plain_resources s ≡ before ++ plain_resource was.own ∷ after
  shown_before = ap (map plain_resource) was.parted ∙ map-append plain_resource was.before (was.own ∷ was.after)

  shown_after : plain_resources new ≡ before ++ (unless_vacant (resource_after_service (plain_processes s) (plain_resource was.own)) ++ after)
  shown_after =
      ap (map plain_resource) swept.resources
      ∙ map-append plain_resource was.before (swept.left ++ was.after)
      ∙ ap (λ xs. before ++ xs) (map-append plain_resource swept.left was.after ∙ ap (λ xs. xs ++ after) swept.served)

  -- what is left of the own resource is touched
  left_touched : (x : StoredResource) → IsIn x swept.left → list_any (λ t. x.at == t) touched ≡ true
  left_touched x among =
      ap (λ at. list_any (λ t. at == t) touched) (ap (λ (r : StoredResource). r.at) (swept.same x among) ∙ was.keyed) ∙ is_touched

  own_touched : (x : StoredResource) → IsIn x (was.own ∷ []) → list_any (λ t. x.at == t) touched ≡ true
  own_touched x among =
      elim among [
        | inl is ↦ ap (λ at. list_any (λ t. at == t) touched) (ap (λ (r : StoredResource). r.at) (sym is)
            ∙ was.keyed) ∙ is_touched
        | inr none ↦ absurd none
      ]

  others_stay : but_touched touched new.resources ≡ but_touched touched s.resources
  others_stay =
      let parts : (own : List StoredResource) → ((x : StoredResource) → IsIn x own → list_any (λ t. x.at == t) touched ≡ true)
      → but_touched touched (was.before ++ (own ++ was.after)) ≡ but_touched touched was.before ++ but_touched touched was.after =
      λ own each.
      but-append touched was.before (own ++ was.after)
      ∙ ap (λ xs. but_touched touched was.before ++ xs) (but-append touched own was.after
      ∙ ap (λ xs. xs ++ but_touched touched was.after) (none_touched touched own each))
      in
      ap (but_touched touched) swept.resources ∙ parts swept.left left_touched
      ∙ sym (ap (but_touched touched) was.parted ∙ parts (was.own ∷ []) own_touched)

  keyed : (x : StoredResource) → IsIn x new.resources → IsKeyed x.domain x.key
  keyed x among = of_part was.before (swept.left ++ was.after) (subst (IsIn x) swept.resources among)
      (λ here. old_keyed (among_before was.before (was.own ∷ was.after) x here))
      (λ there. of_part swept.left was.after there
      (λ here. subst (λ (r : StoredResource). IsKeyed r.domain r.key) (sym (swept.same x here))
      (so_far.rest.keyed was.own
      (subst (IsIn was.own) (sym was.parted) (among_after was.before (was.own ∷ was.after) was.own (inl refl)))))
      (λ behind. old_keyed (among_after was.before (was.own ∷ was.after) x (inr behind))))
    where
      old_keyed : IsIn x (was.before ++ was.own ∷ was.after) → IsKeyed x.domain x.key
      old_keyed among = so_far.rest.keyed x (subst (IsIn x) (sym was.parted) among)

      of_part : (xs ys : List StoredResource) → IsIn x (xs ++ ys) → (IsIn x xs → IsKeyed x.domain x.key) → (IsIn x ys → IsKeyed x.domain x.key)
          → IsKeyed x.domain x.key
      of_part [] ys among first second = second among
      of_part (y ∷ xs) ys among first second =
          elim among [ inl here ↦ first (inl here) | inr there ↦ of_part xs ys there (λ here. first (inr here)) second ]

  none_join : LocksStayAmong new.resources old.resources
  none_join = stay_twice_among new.resources s.resources old.resources
      (subst (λ rs. LocksStayAmong rs s.resources) (sym swept.resources)
      (subst (LocksStayAmong (was.before ++ (swept.left ++ was.after))) (sym was.parted)
      (stay_parts swept.left (was.own ∷ []) swept.none_join was.before was.after)))
      so_far.none_join

  pub sweeping_next : IsSweeping touched later old new
  sweeping_next = record {
    left = subst (AreToSweep later) (sym swept.resources)
        (to_sweep_behind was.before so_far.left.1.0 later (swept.left ++ was.after)
        (to_sweep_behind swept.left (subst (AllByRecursion IsStable) (sym swept.served) next.stable) later was.after so_far.left.1.1));
    resources =
        ap (resources_after_sweep (plain_processes new)) shown_after
        ∙ ap (λ ps. resources_after_sweep ps
        (before ++ (unless_vacant
        (resource_after_service (plain_processes s) (plain_resource was.own)) ++ after))) swept.statuses
        ∙ sym next.resources ∙ sym (ap (resources_after_sweep (plain_processes s)) shown_before) ∙ so_far.resources;
    statuses =
        ap (processes_after_service (plain_processes new)) shown_after
        ∙ ap (λ ps. processes_after_service ps
        (before ++ (unless_vacant
        (resource_after_service (plain_processes s) (plain_resource was.own)) ++ after))) swept.statuses
        ∙ sym next.statuses ∙ sym (ap (processes_after_service (plain_processes s)) shown_before) ∙ so_far.statuses;
    others = others_stay ∙ so_far.others;
    stay = stay_twice_among old.resources s.resources new.resources so_far.stay
        (subst (LocksStayAmong s.resources) (sym swept.resources)
        (subst (λ rs. LocksStayAmong rs (was.before ++ (swept.left ++ was.after))) (sym was.parted)
        (stay_parts (was.own ∷ []) swept.left swept.stay was.before was.after)));
    none_join = none_join;
    processes = swept.processes ∙ so_far.processes;
    rest = record {
      keyed = keyed;
      rising = all_rise_still old new (none_joined old new rest.sound none_join) (swept.processes ∙ so_far.processes) rest.rising;
      sound = sound_new;
    };
  }

-- the next of the touched
pub sweeping_at : (touched : List ℕ) (i res : ℕ) (old s : Records) → i < length touched → res ≡ get_or touched i res
    → IsSweeping touched (drop i touched) old s → IsSweeping touched (res ∷ drop (i + 1) touched) old s
sweeping_at touched i res old s within here so_far =
    subst (λ later. IsSweeping touched later old s) (drop_more touched i res within ∙ ap (λ r. r ∷ drop (i + 1) touched) (sym here)) so_far

pub is_touched_at : (touched : List ℕ) (i res : ℕ) → i < length touched → res ≡ get_or touched i res → list_any (λ t. res == t) touched ≡ true
is_touched_at touched i res within here = list_any_at (λ t. res == t) touched i res within (eq-eqb res (get_or touched i res) here)

-- all of them are swept
pub sweeping_over : (touched : List ℕ) (i : ℕ) (old s : Records) → i ≡ length touched → IsSweeping touched (drop i touched) old s → IsSweeping touched [] old s
sweeping_over touched i old s all so_far = subst (λ later. IsSweeping touched later old s) (drop_all i touched (omega (arith, all))) so_far

module _ (touched : List ℕ) (old s : Records) (so_far : IsSweeping touched [] old s) (done : IsDone) where
  pub swept_resources : plain_resources s ≡ resources_after_sweep (plain_processes old) (plain_resources old)
  swept_resources = sym (done (plain_processes s) (plain_resources s) so_far.left).resources ∙ so_far.resources

  pub swept_statuses : plain_processes s ≡ processes_after_service (plain_processes old) (plain_resources old)
  swept_statuses = sym (done (plain_processes s) (plain_resources s) so_far.left).statuses ∙ so_far.statuses

-- the next of the touched, by its handle
pub handle_at : (touches : List Note) (i : ℕ) (t : Note) → i < length touches → t ≡ get_or touches i t
    → (i < length (touched_handles touches)) × (t.at ≡ get_or (touched_handles touches) i t.at)
handle_at touches i t within here = (
  omega (arith, within, length-map touches (λ (x : Note). x.at)),
  ap (λ (x : Note). x.at) here ∙ sym (get_or-map (λ (x : Note). x.at) touches i t t.at within),
)
