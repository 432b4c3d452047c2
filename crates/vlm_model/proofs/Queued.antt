-- After every run no request with NOQUEUE is queued.
use Rattle.std.proofs.Common.{◌≡◌, ◌&&◌, false, not, List, [], ◌∷◌, ◌++◌, Option, None, Some, sym, subst}
use Rattle.std.specs.Prelude.{All}
use Rattle.std.specs.List.{AllByRecursion}
use Rattle.std.proofs.lemmas.List.Elements.{All-from_recursion}
use Rattle.vlm_words.specs.declared.conditions.Cond.TheVariants.{Notqueued}
use Rattle.vlm_words.specs.declared.locks.Request.{Request}
use Rattle.vlm_words.specs.declared.locks.LockState.{LockState}
use Rattle.vlm_words.specs.declared.steps.Conversion.{Conversion}
use Rattle.vlm_words.specs.declared.steps.NewRequest.{NewRequest}
use Rattle.vlm_words.specs.Flags.{has_flag, noqueue}
use Rattle.vlm_words.specs.State.{Resource, State}
use Rattle.vlm_model.specs.Checks.{numbers_refusal, or_else, queue_refusal, request_numbers_refusal}
use Rattle.vlm_model.specs.Quotas.{quota_refusal}
use Rattle.vlm_model.specs.Enqueue.{enq_at_once, enq_limit_refusal, enq_refusal}
use Rattle.vlm_model.specs.Convert.{ConversionAdmission, admission_refusal, convert_admission, convert_lkid, convert_refusal, convert_request, pair_refusal}
use Rattle.vlm_model.specs.Runs.{History, Run}
use Rattle.vlm_model.specs.Queued.{MayWait, NoqueueIsKept}
use Rattle.vlm_model.proofs.Each.{each_append, each_weaker}
use Rattle.vlm_model.proofs.PassedChecks.{admission_passes, both_pass, enq_passes, first_fails, test_fails}
use Rattle.vlm_model.proofs.Admissions.{admitted_request}
use Rattle.vlm_model.proofs.Waiting.{EachConverting, Queued, queued_always}

-- the row wants nothing that may not be waited for
abbrev Waits : LockState → Type 0
Waits row = MayWait row.want

-- an accepted request that is not granted at once may wait
request_may_wait : (s : State) (e : NewRequest) → enq_refusal s e ≡ None → enq_at_once s e ≡ false → has_flag e.flags noqueue ≡ false
unfolding enq_limit_refusal
request_may_wait s e passed waits =
    let quota = both_pass (quota_refusal s e.pid) (or_else (numbers_refusal s) (queue_refusal e.flags (enq_at_once s e))) (enq_passes s e passed).3 in
    let numbers = both_pass (numbers_refusal s) (queue_refusal e.flags (enq_at_once s e)) quota.1 in
    first_fails (has_flag e.flags noqueue) (enq_at_once s e) (test_fails (has_flag e.flags noqueue && not (enq_at_once s e)) Notqueued numbers.1) waits

-- an accepted conversion that is not granted at once may wait
conversion_may_wait : (s : State) (c : Conversion) (a : ConversionAdmission) → convert_refusal s c ≡ None → convert_admission s c ≡ Some a
    → a.at_once ≡ false → has_flag c.flags noqueue ≡ false
conversion_may_wait s c a passed is waits =
    let admitted : admission_refusal s c (Some a) ≡ None =
    subst (λ (found : Option ConversionAdmission). admission_refusal s c found ≡ None) is (admission_passes s c passed) in
    let pair = both_pass (pair_refusal c a.row) (or_else (request_numbers_refusal s) (queue_refusal c.flags a.at_once)) admitted in
    let numbers = both_pass (request_numbers_refusal s) (queue_refusal c.flags a.at_once) pair.1 in
    first_fails (has_flag c.flags noqueue) a.at_once (test_fails (has_flag c.flags noqueue && not a.at_once) Notqueued numbers.1) waits

-- and so it may as it is queued
rows_may_wait : (s : State) (c : Conversion) (a : ConversionAdmission) → convert_refusal s c ≡ None → convert_admission s c ≡ Some a
    → a.at_once ≡ false → (resources : List Resource) → AllByRecursion (EachConverting Waits c (convert_lkid s c) a) resources
unfolding convert_admission
rows_may_wait s c a passed is waits [] = tt
rows_may_wait s c a passed is waits (r ∷ rest) =
    let asks : a.request ≡ convert_request s c = admitted_request (convert_request s c) c.pid (convert_lkid s c) a s.resources is in (
      λ row _. subst (λ (q : Request). MayWait (Some q)) (sym asks) (conversion_may_wait s c a passed is waits),
      rows_may_wait s c a passed is waits rest,
    )

-- after every run no request with NOQUEUE is queued
pub noqueue_always : (history : History) (last : State) → Run history last → NoqueueIsKept last
noqueue_always history last run =
    All-from_recursion (λ r. All (λ row. MayWait row.want) (r.converting ++ r.waiting)) last.resources
    (each_weaker (Queued Waits) (λ r. All (λ row. MayWait row.want) (r.converting ++ r.waiting))
    (λ r queued. All-from_recursion Waits (r.converting ++ r.waiting) (each_append Waits r.converting r.waiting queued.converting queued.waiting))
    last.resources
    (queued_always Waits (λ _ s _ e passed. request_may_wait s e passed)
    (λ _ s _ c a passed is waits. rows_may_wait s c a passed is waits s.resources) history last run))
