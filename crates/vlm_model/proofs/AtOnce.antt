-- What fits is granted at once.
use Rattle.std.proofs.Common.{◌≡◌, ◌≤◌, ◌+◌, ◌||◌, ℕ, Bool, true, false, List, [], ◌∷◌, ◌++◌, Option, None, Some, refl, sym, subst, ap, inl, inr, ◌∙◌, arith}
use Rattle.std.specs.Prelude.{All, Any, unwrap_or}
use Rattle.std.specs.List.{AllByRecursion, find}
use Rattle.std.proofs.lemmas.List.Elements.{recursion_from_All}
use Rattle.std.proofs.lemmas.List.Sums.{sum_by-cons}
use Rattle.vlm_words.specs.declared.conditions.Cond.{Cond}
use Rattle.vlm_words.specs.declared.locks.Request.{Request}
use Rattle.vlm_words.specs.declared.locks.LockState.{LockState}
use Rattle.vlm_words.specs.declared.steps.Conversion.{Conversion}
use Rattle.vlm_words.specs.declared.steps.NewRequest.{NewRequest}
use Rattle.vlm_words.specs.declared.steps.Step.TheVariants.{Convert, Enq}
use Rattle.vlm_words.specs.Flags.{expedite, has_flag}
use Rattle.vlm_words.specs.State.{Resource, State}
use Rattle.vlm_model.specs.Sweeps.{sweep_endings}
use Rattle.vlm_words.specs.Resources.{is_at, new_resource}
use Rattle.vlm_model.specs.Trees.{enq_site, parent_lkid, parent_refusal, privilege_refusal, site_refusal}
use Rattle.vlm_model.specs.Enqueue.{enq_at_once, enq_change, enq_endings, enq_key, enq_refusal, enq_request, enq_resource, is_at_once, is_free_for}
use Rattle.vlm_model.specs.Convert.{ConversionAdmission, convert_admission, convert_change, convert_lkid, convert_refusal, convert_request}
use Rattle.vlm_model.specs.Stepped.{Stepped, conversion_change, refused_or, step_change, stepped, stepped_after_sweep}
use Rattle.vlm_model.specs.Runs.{History, Run}
use Rattle.vlm_model.specs.Laws.{ConvertsInTurn, EntersInTurn, IsAskedFor, IsFreeFor, IsGrantedAtOnce, Stands}
use Rattle.vlm_model.proofs.Always.{admission_of}
use Rattle.vlm_model.proofs.Admissions.{admitted_request}
use Rattle.vlm_model.proofs.IdsApart.{Apart, apart_always, standing, stands}
use Rattle.vlm_model.proofs.GrantsAtOnce.{stands_counted}
use Rattle.vlm_model.proofs.Each.{Any-cases, Any-here, Any-none, Found, found_at}
use Rattle.vlm_model.proofs.Keys.{Placed, placed_always}
use Rattle.vlm_model.proofs.PassedChecks.{both_pass, enq_passes}
use Rattle.vlm_model.proofs.ReasonsOfConversions.{at_once_by_turn, granted_there, turn_passes}
use Rattle.vlm_model.proofs.ReasonsOfRequests.{asked_for, free_passes, new_is_free}
use Rattle.vlm_model.proofs.Refusals.{caller_passes}
use Rattle.vlm_model.proofs.Weights.{weigh}
use Rattle.vlm_model.proofs.WritingConversions.{at_once_first, lock_same, made_conversion, refused_answers_no_lock}
use Rattle.vlm_model.specs.AtOnce.{GrantsAtOnce, IsAcceptedFor, WhatFitsIsGrantedAtOnce}

-- ---- new requests

-- where each resource that is asked for is free, the one that the request finds is
finds_free : (s : State) (e : NewRequest) → Apart s → Placed s → enq_refusal s e ≡ None
    → All (λ r. IsAskedFor s e r → IsFreeFor e.mode r) s.resources → is_free_for (enq_request s e) (enq_resource s e) ≡ true
unfolding enq_resource site_refusal
finds_free s e apart placed passed free = of_found (find (is_at (enq_key s e)) s.resources) refl
  where
    site : parent_refusal s e.pid (parent_lkid s e) ≡ None
    site = (both_pass (parent_refusal s e.pid (parent_lkid s e)) (privilege_refusal s e.pid e.flags (parent_lkid s e)) (enq_passes s e passed).2).0

    of_found : (found : Option Resource) → find (is_at (enq_key s e)) s.resources ≡ found
        → is_free_for (enq_request s e) (unwrap_or found (new_resource s.next_serial (enq_site s e))) ≡ true
    of_found None is = new_is_free (enq_request s e) s e
    of_found (Some r) is =
        let there : Found (is_at (enq_key s e)) s.resources r = found_at (is_at (enq_key s e)) s.resources r is in
        free_passes (enq_request s e) r
        (at_it there.before r there.after (subst (AllByRecursion (λ x. IsAskedFor s e x → IsFreeFor e.mode x)) there.split
        (recursion_from_All (λ x. IsAskedFor s e x → IsFreeFor e.mode x) s.resources free))
        (asked_for s e r (caller_passes s e.pid (enq_passes s e passed).0) apart placed site there.passes))
      where
        at_it : (xs : List Resource) (x : Resource) (ys : List Resource) → AllByRecursion (λ y. IsAskedFor s e y → IsFreeFor e.mode y) (xs ++ x ∷ ys)
            → IsAskedFor s e x → IsFreeFor e.mode x
        at_it [] x ys each = each.0
        at_it (y ∷ xs) x ys each = at_it xs x ys each.1

-- a new request that may be granted at once is
enters_at_once : (s : State) (e : NewRequest) → Apart s → Placed s → enq_refusal s e ≡ None → EntersInTurn s e → enq_at_once s e ≡ true
unfolding is_at_once
enters_at_once s e apart placed passed (inl free) =
    either (has_flag e.flags expedite) (is_free_for (enq_request s e) (enq_resource s e)) (finds_free s e apart placed passed free)
  where
    either : (a b : Bool) → b ≡ true → (a || b) ≡ true
    either true b second = refl
    either false b second = second
enters_at_once s e apart placed passed (inr expedited) = rw expedited.0 refl

-- ---- conversions

-- what is said of some resource where the lock is granted is said of the one of its conversion, where it has few rows
said_there : (lkid : ℕ) (P : Resource → Type 0) (found : Resource) (resources : List Resource)
    → AllByRecursion (λ r. Stands lkid r.granted → r ≡ found) resources → standing lkid resources ≤ 1
    → Any (λ r. Stands lkid r.granted × P r) resources
    → (Stands lkid found.granted × P found) × (weigh (stands lkid) found ≤ 1)
said_there lkid P found [] only one any = absurd (Any-none (λ r. Stands lkid r.granted × P r) any)
said_there lkid P found (r ∷ rest) only one any =
    let all : standing lkid (r ∷ rest) ≡ weigh (stands lkid) r + standing lkid rest = sum_by-cons (weigh (stands lkid)) r rest in
    elim (Any-cases (λ x. Stands lkid x.granted × P x) r rest any) [
      | inl here ↦ (
        subst (λ (x : Resource). Stands lkid x.granted × P x) (only.0 here.0) here,
        subst (λ (x : Resource). weigh (stands lkid) x ≤ 1) (only.0 here.0) (omega (arith, all, one)),
      )
      | inr later ↦ said_there lkid P found rest only.1 (omega (arith, all, one)) later
    ]

-- a conversion that may be granted at once is
converts_now : (s : State) (c : Conversion) (a : ConversionAdmission) → Apart s → convert_admission s c ≡ Some a
    → Any (λ r. Stands (convert_lkid s c) r.granted × ConvertsInTurn c (convert_lkid s c) r) s.resources → a.at_once ≡ true
converts_now s c a apart admitted some =
    let lkid : ℕ = convert_lkid s c in
    let there = said_there lkid (ConvertsInTurn c lkid) a.resource s.resources (granted_there s c a apart admitted) (apart.one_row lkid) some in
    at_once_by_turn s c a admitted
    ∙ turn_passes c (convert_request s c) lkid a.resource refl refl
    (stands_counted lkid a.resource.granted there.0.0) there.1 there.0.1

-- ---- steps

request_granted : (s : State) → Apart s → Placed s → (e : NewRequest) (choice : Option LockState) (lkid : ℕ) → IsAcceptedFor lkid s (Enq e) choice
    → EntersInTurn s e → GrantsAtOnce s (Enq e) choice
request_granted s apart placed e choice lkid accepted enters =
    let passed : enq_refusal s e ≡ None = refused_answers_no_lock (enq_refusal s e) s (step_change s (Enq e) choice) accepted.0 lkid accepted.1 in
    subst (λ (t : Stepped). IsGrantedAtOnce s.next_request t.endings)
    (sym (ap (λ (refusal : Option Cond). refused_or refusal s (step_change s (Enq e) choice)) passed))
    (first_granted (enters_at_once s e apart placed passed enters))
  where
    first_granted : enq_at_once s e ≡ true → IsGrantedAtOnce s.next_request (enq_endings s e ++ sweep_endings (enq_change s e).resources)
    first_granted at_once = rw at_once (Any-here _ _ (sweep_endings (enq_change s e).resources) (tt, refl, refl))

conversion_granted : (s : State) → Apart s → (c : Conversion) (choice : Option LockState) (lkid : ℕ) → IsAcceptedFor lkid s (Convert c) choice
    → Any (λ r. Stands lkid r.granted × ConvertsInTurn c lkid r) s.resources → GrantsAtOnce s (Convert c) choice
unfolding convert_admission
conversion_granted s apart c choice lkid accepted some =
    let passed : convert_refusal s c ≡ None = refused_answers_no_lock (convert_refusal s c) s (step_change s (Convert c) choice) accepted.0 lkid accepted.1 in
    let admitted = admission_of s c passed in
    let a : ConversionAdmission = admitted.0 in
    let made : stepped s (Convert c) choice ≡ stepped_after_sweep (conversion_change s c (Some a)) = made_conversion s c choice a passed admitted.1 in
    let named : convert_lkid s c ≡ lkid =
    lock_same _ accepted.0 (convert_lkid s c) lkid (sym (ap (λ (t : Stepped). t.answer) made) ∙ accepted.1) in
    subst (λ (t : Stepped). IsGrantedAtOnce s.next_request t.endings) (sym made)
    (at_once_first s.next_request a (sweep_endings (convert_change s c a).resources)
    (ap (λ (q : Request). q.number) (admitted_request (convert_request s c) c.pid (convert_lkid s c) a s.resources admitted.1))
    (converts_now s c a apart admitted.1
    (subst (λ (n : ℕ). Any (λ r. Stands n r.granted × ConvertsInTurn c n r) s.resources) (sym named) some)))

-- after every run
pub at_once_always : (history : History) (old : State) → Run history old → WhatFitsIsGrantedAtOnce old
at_once_always history old run =
    let apart : Apart old = apart_always history old run in
    record {
      requests = λ e choice lkid chosen accepted enters.
          request_granted old apart (placed_always history old run) e choice lkid accepted enters;
      conversions = λ c choice lkid chosen accepted some. conversion_granted old apart c choice lkid accepted some;
    }
