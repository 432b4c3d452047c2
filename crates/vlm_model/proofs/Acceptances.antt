-- What an accepted request answers.
use Rattle.std.proofs.Common.{◌≡◌, ◌&&◌, ℕ, Bool, true, false, cond, List, [], ◌∷◌, ◌++◌, None, Some, inl, inr, refl, sym, ap, ◌∙◌}
use Rattle.std.specs.List.{AllByRecursion, AllZip}
use Rattle.std.proofs.lemmas.Bool.{true≢false}
use Rattle.vlm_words.specs.declared.conditions.Cond.TheVariants.{Normal, Synch}
use Rattle.vlm_words.specs.declared.locks.Request.{Request}
use Rattle.vlm_words.specs.declared.locks.LockState.{LockState}
use Rattle.vlm_words.specs.declared.steps.Conversion.{Conversion}
use Rattle.vlm_words.specs.declared.steps.NewRequest.{NewRequest}
use Rattle.vlm_words.specs.declared.steps.Step.TheVariants.{Convert, Enq}
use Rattle.vlm_words.specs.declared.steps.Step.{Step}
use Rattle.vlm_words.specs.Flags.{has_flag, syncsts}
use Rattle.vlm_words.specs.State.{Resource, State}
use Rattle.vlm_model.specs.Endings.{Ending}
use Rattle.vlm_model.specs.Grants.{grant_endings}
use Rattle.vlm_model.specs.Sweeps.{sweep_endings}
use Rattle.vlm_model.specs.Checks.{acceptance}
use Rattle.vlm_model.specs.Enqueue.{enq_at_once, enq_change, enq_request, enq_row}
use Rattle.vlm_model.specs.Convert.{ConversionAdmission, convert_admission, convert_change, convert_lkid, convert_request}
use Rattle.vlm_words.specs.Rows.{wanting_row}
use Rattle.vlm_model.specs.Stepped.{Stepped, conversion_change, step_change, stepped_after_sweep}
use Rattle.vlm_model.specs.Laws.{IsGrant, IsGrantOf, IsGrantedAtOnce, SweptInOrder, goes, none, stays}
use Rattle.vlm_model.specs.Reasons.{IsAcceptance, IsAcceptedWith}
use Rattle.vlm_model.proofs.Each.{Any-here, each_append, each_weaker, no_Any}
use Rattle.vlm_model.proofs.Admissions.{admitted_request}
use Rattle.vlm_model.proofs.InOrder.{sweep_in_order}

-- the answer of a step that is made is that of an accepted one
abbrev pub IsAnswered : State → Step → Stepped → Type 0
IsAnswered s step made = IsAcceptance step (IsGrantedAtOnce s.next_request made.endings) made.answer

-- what is granted from a queue is not granted at once
abbrev WasQueued : Ending → Type 0
WasQueued ending = ending.at_once ≡ false

-- the grants of rows from their queues
each_queued : (rows : List LockState) (endings : List Ending) → AllZip IsGrantOf rows endings → AllByRecursion WasQueued endings
each_queued [] [] ends = tt
each_queued [] (ending ∷ endings) ends = absurd ends
each_queued (row ∷ rows) [] ends = tt
each_queued (row ∷ rows) (ending ∷ endings) ends = (ends.0.queued, each_queued rows endings ends.1)

-- and so is nothing that a sweep grants
sweep_queued : (before after : List Resource) (endings : List Ending) → SweptInOrder before after endings → AllByRecursion WasQueued endings
sweep_queued _ _ _ none = tt
sweep_queued _ _ _ (stays {before} {after} {rest} {left} {endings} {more} grants swept) =
    each_append WasQueued endings more (each_queued _ endings grants.ends) (sweep_queued rest left more swept)
sweep_queued _ _ _ (goes {before} {after} {rest} {left} {endings} {more} grants vacant swept) =
    each_append WasQueued endings more (each_queued _ endings grants.ends) (sweep_queued rest left more swept)

-- no request is granted at once in a sweep
none_at_once : (number : ℕ) (t : State) → IsGrantedAtOnce number (sweep_endings t.resources) → ⊥
none_at_once number t =
    no_Any (λ ending. IsGrant ending.how × (ending.at_once ≡ true) × (ending.request.number ≡ number)) (sweep_endings t.resources)
    (each_weaker WasQueued (λ ending. IsGrant ending.how × (ending.at_once ≡ true) × (ending.request.number ≡ number) → ⊥)
    (λ ending queued granted. true≢false (sym granted.1 ∙ queued)) (sweep_endings t.resources)
    (sweep_queued t.resources _ (sweep_endings t.resources) (sweep_in_order t.processes t.resources)))

-- a request that is granted at once, or not, is accepted so
accepted_with : (flags number : ℕ) (row : LockState) (request : Request) (t : State) → request.number ≡ number → (at_once : Bool)
    → IsAcceptedWith flags (IsGrantedAtOnce number (cond at_once (grant_endings true (wanting_row row request)) [] ++ sweep_endings t.resources))
    (acceptance flags at_once)
accepted_with flags number row request t is at_once = of_flag (has_flag flags syncsts) refl at_once
  where
    of_flag : (flagged : Bool) → has_flag flags syncsts ≡ flagged → (now : Bool)
        → IsAcceptedWith flags (IsGrantedAtOnce number (cond now (grant_endings true (wanting_row row request)) [] ++ sweep_endings t.resources))
        (cond (flagged && now) Synch Normal)
    of_flag true asked true =
        inl (
          refl,
          asked,
          Any-here (λ ending. IsGrant ending.how × (ending.at_once ≡ true) × (ending.request.number ≡ number)) _ (sweep_endings t.resources) (tt, refl, is),
        )
    of_flag true asked false = inr (refl, λ _ granted. none_at_once number t granted)
    of_flag false asked now = inr (refl, λ flagged _. true≢false (sym flagged ∙ asked))

-- an accepted new request answers so
pub request_answers : (s : State) (e : NewRequest) → IsAnswered s (Enq e) (stepped_after_sweep (step_change s (Enq e) None))
request_answers s e = accepted_with e.flags s.next_request (enq_row s e) (enq_request s e) (enq_change s e) refl (enq_at_once s e)

-- and an accepted conversion
pub conversion_answers : (s : State) (c : Conversion) (a : ConversionAdmission) → convert_admission s c ≡ Some a
    → IsAnswered s (Convert c) (stepped_after_sweep (conversion_change s c (Some a)))
unfolding convert_admission
conversion_answers s c a is =
    accepted_with c.flags s.next_request a.row a.request (convert_change s c a)
    (ap (λ (request : Request). request.number) (admitted_request (convert_request s c) c.pid (convert_lkid s c) a s.resources is)) a.at_once
