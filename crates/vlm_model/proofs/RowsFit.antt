-- After every step each lock stands in the queue that fits it.
use Rattle.std.proofs.Common.{◌≡◌, Bool, ℕ, List, [], ◌∷◌, ◌++◌, Option, None, Some, refl, sym, subst, map}
use Rattle.std.specs.Prelude.{IsSome}
use Rattle.std.specs.List.{AllByRecursion, find}
use Rattle.std.proofs.lemmas.Bool.{cond_both}
use Rattle.std.proofs.lemmas.List.Elements.{All-from_recursion}
use Rattle.vlm_words.specs.declared.locks.Request.{Request}
use Rattle.vlm_words.specs.declared.locks.LockState.{LockState}
use Rattle.vlm_words.specs.declared.resources.ValueBlock.{ValueBlock}
use Rattle.vlm_words.specs.declared.steps.NewRequest.{NewRequest}
use Rattle.vlm_words.specs.State.{Resource, State}
use Rattle.vlm_model.specs.Effects.{with_value_block}
use Rattle.vlm_words.specs.Rows.{granted_row, is_empty, is_lock_of, rows_of, rows_without, wanting_row}
use Rattle.vlm_model.specs.Grants.{no_service, resource_after_grant, service, service_after_grant}
use Rattle.vlm_model.specs.Grants.{service_of_conversions, service_of_new_requests, service_of_waiting, wanted_fits}
use Rattle.vlm_model.specs.Enqueue.{enq_at_once, enq_refusal, enq_resource, enq_row, resource_after_entry}
use Rattle.vlm_model.specs.Convert.{resource_after_conversion, resource_after_conversion_of, resource_without_granted}
use Rattle.vlm_model.specs.Withdrawals.{Withdrawal, is_held_by_writer, resource_after_cancel, resource_after_writer}
use Rattle.vlm_model.specs.Withdrawals.{resource_without, row_after_cancel, value_block_after_writer}
use Rattle.vlm_model.specs.Withdrawals.{resource_after_going, resource_after_withdrawals}
use Rattle.vlm_model.specs.Runs.{History, Run}
use Rattle.vlm_model.specs.Laws.{IsConverting, IsHeld, IsWaiting, RowsFit, RowsFitTheirQueues}
use Rattle.vlm_model.proofs.Withdrawing.{kept_withdrawn}
use Rattle.vlm_model.proofs.Each.{Found, found_at, each_append, each_at, each_filter, each_map, each_weaker}
use Rattle.vlm_model.proofs.EachResource.{each_always}
use Rattle.vlm_model.specs.Asts.{resource_after_warning}
use Rattle.vlm_model.proofs.Warned.{each_warned}

-- each row fits its queue, by recursion on the queues
pub record Fit (r : Resource) : Type 0 where
  pub granted : AllByRecursion IsHeld r.granted
  pub converting : AllByRecursion IsConverting r.converting
  pub waiting : AllByRecursion IsWaiting r.waiting

-- a row that wants something is stable once it is granted, and so are those before it
stable_after_grant : (rows : List LockState) (row : LockState) → AllByRecursion IsHeld rows → IsSome row.want
    → AllByRecursion IsHeld (rows ++ granted_row row ∷ [])
stable_after_grant rows row stable some = each_append IsHeld rows (granted_row row ∷ []) stable ((some, refl), tt)

-- serving the conversions keeps the rows fit
serve_converting_fit : (r : Resource) (rows : List LockState) → r.converting ≡ rows → Fit r → Fit (service_of_conversions r rows).resource
serve_converting_fit r [] is fit = fit
serve_converting_fit r (row ∷ rows) is fit =
    let queue : AllByRecursion IsConverting (row ∷ rows) = subst (AllByRecursion IsConverting) is fit.converting in
    cond_both (wanted_fits row.want r.granted rows)
    (service_after_grant row (service_of_conversions (record (resource_after_grant r row) { converting = rows }) rows)) (no_service r)
    (λ more. Fit more.resource)
    (λ _.
    serve_converting_fit (record (resource_after_grant r row) { converting = rows }) rows refl
    (record { granted = stable_after_grant r.granted row fit.granted queue.0.1; converting = queue.1; waiting = fit.waiting }))
    (λ _. fit)

-- serving the waiting queue keeps the rows fit
serve_waiting_fit : (r : Resource) (rows : List LockState) → r.waiting ≡ rows → Fit r → Fit (service_of_waiting r rows).resource
serve_waiting_fit r [] is fit = fit
serve_waiting_fit r (row ∷ rows) is fit =
    let queue : AllByRecursion IsWaiting (row ∷ rows) = subst (AllByRecursion IsWaiting) is fit.waiting in
    cond_both (wanted_fits row.want r.granted r.converting)
    (service_after_grant row (service_of_waiting (record (resource_after_grant r row) { waiting = rows }) rows)) (no_service r)
    (λ more. Fit more.resource)
    (λ _.
    serve_waiting_fit (record (resource_after_grant r row) { waiting = rows }) rows refl
    (record { granted = stable_after_grant r.granted row fit.granted queue.0.1; converting = fit.converting; waiting = queue.1 }))
    (λ _. fit)

-- serving keeps the rows fit
served_fit : (r : Resource) → Fit r → Fit (service r).resource
unfolding service
served_fit r fit = new_requests (service_of_conversions r r.converting).resource (serve_converting_fit r r.converting refl fit)
  where
    new_requests : (left : Resource) → Fit left → Fit (service_of_new_requests left).resource
    new_requests left fit =
        cond_both (is_empty left.converting) (service_of_waiting left left.waiting) (no_service left) (λ more. Fit more.resource)
        (λ _. serve_waiting_fit left left.waiting refl fit) (λ _. fit)

-- the value block does not matter
pub same_fit : (r t : Resource) → t.granted ≡ r.granted → t.converting ≡ r.converting → t.waiting ≡ r.waiting → Fit r → Fit t
same_fit r t granted converting waiting fit = record {
  granted = subst (AllByRecursion IsHeld) (sym granted) fit.granted;
  converting = subst (AllByRecursion IsConverting) (sym converting) fit.converting;
  waiting = subst (AllByRecursion IsWaiting) (sym waiting) fit.waiting;
}

-- nor do warnings
warned_fit : (r : Resource) → Fit r → Fit (resource_after_warning r)
unfolding resource_after_warning
warned_fit r fit = record {
  granted = each_warned IsHeld (λ row armed held. held) r.converting r.waiting r.granted fit.granted;
  converting = fit.converting;
  waiting = fit.waiting;
}

-- the entry of a lock keeps the rows fit
entered_fit : (s : State) (e : NewRequest) → enq_refusal s e ≡ None → Fit (enq_resource s e)
    → Fit (resource_after_entry (enq_row s e) (enq_at_once s e) (enq_resource s e))
unfolding resource_after_entry
entered_fit s e _ fit =
    let r : Resource = enq_resource s e in
    cond_both (enq_at_once s e) (resource_after_grant r (enq_row s e)) (record r { waiting = r.waiting ++ enq_row s e ∷ [] }) Fit
    (λ _. record { granted = stable_after_grant r.granted (enq_row s e) fit.granted refl; converting = fit.converting; waiting = fit.waiting })
    (λ _. record {
      granted = fit.granted;
      converting = fit.converting;
      waiting = each_append IsWaiting r.waiting (enq_row s e ∷ []) fit.waiting ((refl, refl), tt);
    })

-- a conversion keeps the rows fit, whichever row is found
converted_row_fit : (request : Request) (at_once : Bool) (pid lkid : ℕ) (block : ValueBlock) (r : Resource)
    (found : Option LockState) → find (is_lock_of pid lkid) r.granted ≡ found
    → Fit r → Fit (resource_after_conversion_of request at_once lkid block r found)
converted_row_fit request at_once pid lkid block r None is fit = fit
converted_row_fit request at_once pid lkid block r (Some row) is fit =
    let at : Found (is_lock_of pid lkid) r.granted row = found_at (is_lock_of pid lkid) r.granted row is in
    let held : IsHeld row = each_at IsHeld at.before row at.after (subst (AllByRecursion IsHeld) at.split fit.granted) in
    let others : AllByRecursion IsHeld (rows_without lkid r.granted) = each_filter IsHeld _ r.granted fit.granted in
    cond_both at_once (with_value_block block (resource_after_grant (resource_without_granted lkid r) (wanting_row row request)))
    (record (resource_without_granted lkid r) { converting = r.converting ++ wanting_row row request ∷ [] }) Fit
    (λ _. record {
      granted = stable_after_grant (rows_without lkid r.granted) (wanting_row row request) others refl;
      converting = fit.converting;
      waiting = fit.waiting;
    })
    (λ _. record {
      granted = others;
      converting = each_append IsConverting r.converting (wanting_row row request ∷ []) fit.converting ((held.0, refl), tt);
      waiting = fit.waiting;
    })

-- the same, for the row that is found
converted_fit : (request : Request) (at_once : Bool) (pid lkid : ℕ) (block : ValueBlock) (r : Resource) → Fit r
    → Fit (resource_after_conversion request at_once pid lkid block r)
unfolding resource_after_conversion
converted_fit request at_once pid lkid block r fit = converted_row_fit request at_once pid lkid block r (find (is_lock_of pid lkid) r.granted) refl fit

-- a lock that goes leaves the rows fit
without_fit : (lkid : ℕ) (r : Resource) → Fit r → Fit (resource_without lkid r)
unfolding resource_without
without_fit lkid r fit = record {
  granted = each_filter IsHeld _ r.granted fit.granted;
  converting = each_filter IsConverting _ r.converting fit.converting;
  waiting = each_filter IsWaiting _ r.waiting fit.waiting;
}

-- a lock whose conversion is cancelled is stable
cancelled_fit : (lkid : ℕ) (r : Resource) → Fit r → Fit (resource_after_cancel lkid r)
unfolding resource_after_cancel
cancelled_fit lkid r fit = record {
  granted =
      each_append IsHeld r.granted (map row_after_cancel (rows_of lkid r.converting)) fit.granted
      (each_map IsConverting IsHeld row_after_cancel (λ row converts. (converts.0, refl)) (rows_of lkid r.converting)
      (each_filter IsConverting _ r.converting fit.converting));
  converting = each_filter IsConverting _ r.converting fit.converting;
  waiting = each_filter IsWaiting _ r.waiting fit.waiting;
}

-- what a lock leaves in the value block keeps the rows fit
left_fit : (w : Withdrawal) (r : Resource) → Fit r → Fit (resource_after_writer w r)
left_fit w r fit =
    cond_both (is_held_by_writer w.lkid r) (record r { value_block = value_block_after_writer w r.value_block }) r Fit
    (λ _. same_fit r (record r { value_block = value_block_after_writer w r.value_block }) refl refl refl fit) (λ _. fit)

-- a lock that goes or stays keeps the rows fit
gone_fit : (w : Withdrawal) (r : Resource) → Fit r → Fit (resource_after_going w r)
gone_fit w r fit =
    cond_both w.stays (resource_after_cancel w.lkid r) (resource_without w.lkid r) Fit
    (λ _. cancelled_fit w.lkid r fit) (λ _. without_fit w.lkid r fit)

-- withdrawals keep the rows fit
pub withdrawn_fit : (withdrawals : List Withdrawal) (r : Resource) → Fit r → Fit (resource_after_withdrawals withdrawals r)
withdrawn_fit withdrawals r fit = kept_withdrawn Fit left_fit gone_fit withdrawals r fit

-- after every run each row fits its queue
pub fit_always : (history : History) (last : State)
    → Run history last → AllByRecursion Fit last.resources
fit_always history last run =
    each_always Fit Fit (λ _ fit. fit) (λ block r fit.
    warned_fit (with_value_block block (service r).resource)
    (same_fit (service r).resource (with_value_block block (service r).resource) refl refl refl (served_fit r fit)))
    (record {
      fresh = λ _ _. record { granted = tt; converting = tt; waiting = tt };
      entry = entered_fit;
      conversion = converted_fit;
      leaving = left_fit;
      going = gone_fit;
    })
    history last run

-- after every run each lock stands in the queue that fits it
pub rows_fit_always : (history : History) (last : State)
    → Run history last → RowsFitTheirQueues last
rows_fit_always history last run =
    All-from_recursion RowsFit last.resources
    (each_weaker Fit RowsFit
    (λ r fit. record {
      granted = All-from_recursion IsHeld r.granted fit.granted;
      converting = All-from_recursion IsConverting r.converting fit.converting;
      waiting = All-from_recursion IsWaiting r.waiting fit.waiting;
    })
    last.resources (fit_always history last run))
