-- A fact that holds of each queued lock when it queues holds of it after every run.
use Rattle.std.proofs.Common.{◌≡◌, ℕ, Bool, false, List, [], ◌∷◌, ◌++◌, map, Option, None, Some, refl, sym, subst}
use Rattle.std.specs.List.{AllByRecursion, find}
use Rattle.std.proofs.lemmas.Bool.{cond_both}
use Rattle.vlm_words.specs.declared.locks.LockState.{LockState}
use Rattle.vlm_words.specs.declared.resources.ValueBlock.{ValueBlock}
use Rattle.vlm_words.specs.declared.steps.Conversion.{Conversion}
use Rattle.vlm_words.specs.declared.steps.NewRequest.{NewRequest}
use Rattle.vlm_words.specs.State.{Node, Resource, State}
use Rattle.vlm_model.specs.Effects.{with_value_block}
use Rattle.vlm_model.specs.Grants.{resource_after_grant}
use Rattle.vlm_model.specs.Sweeps.{state_after_sweep, served_with}
use Rattle.vlm_words.specs.Rows.{is_lock_of, wanting_row}
use Rattle.vlm_model.specs.Trees.{enq_site}
use Rattle.vlm_model.specs.Declare.{declare_change}
use Rattle.vlm_model.specs.SetValue.{set_change}
use Rattle.vlm_model.specs.Take.{take_change}
use Rattle.vlm_model.specs.Enqueue.{enq_at_once, enq_change, enq_refusal, enq_row, resource_after_entry}
use Rattle.vlm_model.specs.Convert.{ConversionAdmission, convert_admission, convert_blocks, convert_change}
use Rattle.vlm_model.specs.Convert.{convert_lkid, convert_refusal, resource_after_conversion}
use Rattle.vlm_model.specs.Convert.{resource_after_conversion_of, resource_without_granted}
use Rattle.vlm_model.specs.Withdrawals.{Withdrawal, is_held_by_writer, resource_after_cancel, resource_after_going}
use Rattle.vlm_model.specs.Withdrawals.{resource_after_withdrawals, resource_after_writer, resource_without}
use Rattle.vlm_model.specs.Withdrawals.{value_block_after_writer, state_after_withdrawals}
use Rattle.vlm_model.specs.Rundown.{rundowns, state_after_rundown}
use Rattle.vlm_model.specs.Runs.{History, Run}
use Rattle.vlm_model.proofs.Each.{each_append, each_drop, each_filter, each_map}
use Rattle.vlm_model.proofs.Always.{always, kept_by_stepped}
use Rattle.vlm_model.proofs.EachResource.{each_entered_on, each_swept, found_has}
use Rattle.vlm_model.proofs.Withdrawing.{kept_withdrawn}
use Rattle.vlm_model.proofs.InOrder.{service_in_order}
use Rattle.vlm_model.specs.Asts.{resource_after_warning}

-- each queued row has it
pub record Queued (P : LockState → Type 0) (r : Resource) : Type 0 where
  pub converting : AllByRecursion P r.converting
  pub waiting : AllByRecursion P r.waiting

-- each row of the lock that converts has it as it is queued
abbrev pub EachConverting : (LockState → Type 0) → Conversion → ℕ → ConversionAdmission → Resource → Type 0
EachConverting P c lkid a r = (row : LockState) → find (is_lock_of c.pid lkid) r.granted ≡ Some row → P (wanting_row row a.request)

module _ (P : LockState → Type 0) where
  -- service leaves queued rows as they were
  served_queued : (block : ValueBlock) (r : Resource) → Queued P r → Queued P (served_with block r)
  unfolding resource_after_warning
  served_queued block r queued =
      let order = service_in_order r in
      record {
        converting = subst (AllByRecursion P) (sym order.converting) (each_drop P order.conversions r.converting queued.converting);
        waiting = subst (AllByRecursion P) (sym order.waiting) (each_drop P order.new_requests r.waiting queued.waiting);
      }

  -- and so does a sweep
  pub swept_queued : (t : State) → AllByRecursion (Queued P) t.resources → AllByRecursion (Queued P) (state_after_sweep t).resources
  swept_queued t = each_swept (Queued P) (Queued P) served_queued t.processes t.resources

  -- a lock that enters is granted at once, or has it
  entered_queued : (row : LockState) (at_once : Bool) (r : Resource) → (at_once ≡ false → P row) → Queued P r
      → Queued P (resource_after_entry row at_once r)
  unfolding resource_after_entry
  entered_queued row at_once r has queued =
      cond_both at_once (resource_after_grant r row) (record r { waiting = r.waiting ++ row ∷ [] }) (Queued P)
      (λ _. record { converting = queued.converting; waiting = queued.waiting })
      (λ waits. record {
        converting = queued.converting;
        waiting = each_append P r.waiting (row ∷ []) queued.waiting (has waits, tt);
      })

  -- an accepted request
  pub request_queued : (s : State) (e : NewRequest) → (enq_at_once s e ≡ false → P (enq_row s e)) → AllByRecursion (Queued P) s.resources
      → AllByRecursion (Queued P) (enq_change s e).resources
  unfolding enq_change
  request_queued s e has each =
      each_entered_on (Queued P) s.next_serial (enq_site s e) (enq_row s e) (enq_at_once s e) s.resources
      (entered_queued (enq_row s e) (enq_at_once s e) _ has
      (found_has (Queued P) s.next_serial (enq_site s e) (record { converting = tt; waiting = tt }) s.resources each)) each

  -- a conversion
  pub conversion_queued : (s : State) (c : Conversion) (a : ConversionAdmission)
      → (a.at_once ≡ false → AllByRecursion (EachConverting P c (convert_lkid s c) a) s.resources)
      → AllByRecursion (Queued P) s.resources → AllByRecursion (Queued P) (convert_change s c a).resources
  unfolding convert_change resource_after_conversion
  conversion_queued s c a has each = at_each s.resources has each
    where
      of_found : (r : Resource) → (a.at_once ≡ false → EachConverting P c (convert_lkid s c) a r) → Queued P r → (found : Option LockState)
          → find (is_lock_of c.pid (convert_lkid s c)) r.granted ≡ found
          → Queued P (resource_after_conversion_of a.request a.at_once (convert_lkid s c) (convert_blocks s c a).value_block r found)
      of_found r has queued None is = queued
      of_found r has queued (Some row) is =
          cond_both a.at_once
          (with_value_block (convert_blocks s c a).value_block
          (resource_after_grant (resource_without_granted (convert_lkid s c) r) (wanting_row row a.request)))
          (record (resource_without_granted (convert_lkid s c) r) { converting = r.converting ++ wanting_row row a.request ∷ [] }) (Queued P)
          (λ _. record { converting = queued.converting; waiting = queued.waiting })
          (λ waits. record {
            converting = each_append P r.converting (wanting_row row a.request ∷ []) queued.converting (has waits row is, tt);
            waiting = queued.waiting;
          })

      at_each : (resources : List Resource) → (a.at_once ≡ false → AllByRecursion (EachConverting P c (convert_lkid s c) a) resources)
          → AllByRecursion (Queued P) resources
          → AllByRecursion (Queued P)
          (map (resource_after_conversion a.request a.at_once c.pid (convert_lkid s c)
          (convert_blocks s c a).value_block) resources)
      at_each [] has queued = tt
      at_each (r ∷ rest) has queued = (
        of_found r (λ waits. (has waits).0) queued.0 (find (is_lock_of c.pid (convert_lkid s c)) r.granted) refl,
        at_each rest (λ waits. (has waits).1) queued.1,
      )

  -- what a lock leaves in the value block leaves the queues
  left_queued : (w : Withdrawal) (r : Resource) → Queued P r → Queued P (resource_after_writer w r)
  left_queued w r queued =
      cond_both (is_held_by_writer w.lkid r) (record r { value_block = value_block_after_writer w r.value_block }) r (Queued P)
      (λ _. record { converting = queued.converting; waiting = queued.waiting }) (λ _. queued)

  -- a lock that goes or stays leaves the other rows
  gone_queued : (w : Withdrawal) (r : Resource) → Queued P r → Queued P (resource_after_going w r)
  unfolding resource_without resource_after_cancel
  gone_queued w r queued =
      cond_both w.stays (resource_after_cancel w.lkid r) (resource_without w.lkid r) (Queued P)
      (λ _. record { converting = each_filter P _ r.converting queued.converting; waiting = each_filter P _ r.waiting queued.waiting })
      (λ _. record { converting = each_filter P _ r.converting queued.converting; waiting = each_filter P _ r.waiting queued.waiting })

  -- locks that are withdrawn
  pub withdrawn_queued : (s : State) (withdrawals : List Withdrawal) → AllByRecursion (Queued P) s.resources
      → AllByRecursion (Queued P) (state_after_withdrawals withdrawals s).resources
  withdrawn_queued s withdrawals each =
      each_map (Queued P) (Queued P) (resource_after_withdrawals withdrawals) (kept_withdrawn (Queued P) left_queued gone_queued withdrawals) s.resources each

  -- an end of processes
  pub rundown_queued : (s : State) (is_one : ℕ → Bool) (nodes : List Node) → AllByRecursion (Queued P) s.resources
      → AllByRecursion (Queued P) (state_after_rundown is_one nodes s).resources
  unfolding state_after_rundown
  rundown_queued s is_one nodes each =
      each_map (Queued P) (Queued P) (resource_after_withdrawals (rundowns is_one s))
      (kept_withdrawn (Queued P) left_queued gone_queued (rundowns is_one s)) s.resources each

  -- after every run each queued row has it
  pub queued_always : ((history : History) (s : State) → Run history s → (e : NewRequest) → enq_refusal s e ≡ None → enq_at_once s e ≡ false → P (enq_row s e))
      → ((history : History) (s : State) → Run history s → (c : Conversion) (a : ConversionAdmission)
      → convert_refusal s c ≡ None → convert_admission s c ≡ Some a
      → a.at_once ≡ false → AllByRecursion (EachConverting P c (convert_lkid s c) a) s.resources)
      → (history : History) (last : State) → Run history last → AllByRecursion (Queued P) last.resources
  unfolding declare_change set_change take_change
  queued_always requests conversions =
      always (λ _ s. AllByRecursion (Queued P) s.resources) tt
      (λ history s run each.
      kept_by_stepped (λ _ t. AllByRecursion (Queued P) t.resources) history.endings s each
      (λ d _. swept_queued (declare_change s d) each)
      (λ v _. swept_queued (set_change s v) each)
      (λ taker _. swept_queued (take_change s taker) each)
      (λ e passed. swept_queued (enq_change s e) (request_queued s e (requests history s run e passed) each))
      (λ c a passed is. swept_queued (convert_change s c a) (conversion_queued s c a (conversions history s run c a passed is) each))
      (λ withdrawals _. swept_queued (state_after_withdrawals withdrawals s) (withdrawn_queued s withdrawals each))
      (λ is_one nodes _. swept_queued (state_after_rundown is_one nodes s) (rundown_queued s is_one nodes each)))
