-- A grant arms its lock, and only a warning disarms it.
use Rattle.std.proofs.Common.{◌≡◌, ◌++◌, ℕ, Bool, true, false, not, List, [], ◌∷◌, map, cond, Option, None, Some, inl, inr, refl, sym, subst, ap, ◌∙◌}
use Rattle.std.specs.Prelude.{◌==◌, ◌⊎◌, ⊤, All, Any, is_some}
use Rattle.std.specs.List.{AllByRecursion, find, flat_map}
use Rattle.std.proofs.lemmas.Bool.{and_parts, cond_both, eqb-true}
use Rattle.std.proofs.lemmas.List.Elements.{All-from_recursion}
use Rattle.vlm_words.specs.declared.asts.AstKind.TheVariants.{Blocking}
use Rattle.vlm_words.specs.declared.conditions.Cond.{Cond}
use Rattle.vlm_words.specs.declared.locks.Request.{Request}
use Rattle.vlm_words.specs.declared.locks.LockState.{LockState}
use Rattle.vlm_words.specs.declared.resources.ValueBlock.{ValueBlock}
use Rattle.vlm_words.specs.declared.steps.Answer.{Answer}
use Rattle.vlm_words.specs.declared.steps.Conversion.{Conversion}
use Rattle.vlm_words.specs.declared.steps.NewRequest.{NewRequest}
use Rattle.vlm_words.specs.declared.steps.Step.TheVariants.{Declare, SetValue, Enq, Convert, Deq, Rundown, Leave, Search, Take}
use Rattle.vlm_words.specs.declared.steps.Step.{Step}
use Rattle.vlm_words.specs.State.{Process, Resource, State}
use Rattle.vlm_model.specs.Endings.{Ending}
use Rattle.vlm_model.specs.Endings.How.{by_grant}
use Rattle.vlm_model.specs.Asts.{Queued, asts_for, blocking_asts, completions_of, is_to_warn, resource_after_warning, row_after_warning, row_warnings, warnings}
use Rattle.vlm_model.specs.Effects.{with_value_block}
use Rattle.vlm_model.specs.Grants.{Service, grant_act, grant_endings, no_service, resource_after_grant, service}
use Rattle.vlm_model.specs.Grants.{service_after_grant, service_of_conversions, service_of_new_requests}
use Rattle.vlm_model.specs.Grants.{service_of_waiting, wanted_fits}
use Rattle.vlm_words.specs.Rows.{granted_row, is_arming, is_empty, is_lock_of, rows_of, rows_without, wanting_row}
use Rattle.vlm_model.specs.Sweeps.{blocks_after_service, is_vacant, resource_after_service, resources_after_sweep, service_asts, sweep_asts, sweep_endings}
use Rattle.vlm_model.specs.Declare.{declare_change}
use Rattle.vlm_model.specs.SetValue.{set_change}
use Rattle.vlm_model.specs.Take.{take_change}
use Rattle.vlm_model.specs.Trees.{enq_site}
use Rattle.vlm_model.specs.Enqueue.{enq_at_once, enq_change, enq_resource, enq_row, resource_after_entry}
use Rattle.vlm_model.specs.Convert.{ConversionAdmission, conversion_endings, convert_admission, convert_blocks}
use Rattle.vlm_model.specs.Convert.{convert_change, convert_lkid, convert_request, resource_after_conversion}
use Rattle.vlm_model.specs.Convert.{resource_after_conversion_of, resource_without_granted}
use Rattle.vlm_model.specs.Withdrawals.{Withdrawal, is_held_by_writer, resource_after_cancel, resource_after_going}
use Rattle.vlm_model.specs.Withdrawals.{resource_after_withdrawals, resource_after_writer, resource_without}
use Rattle.vlm_model.specs.Withdrawals.{row_after_cancel, value_block_after_writer}
use Rattle.vlm_model.specs.Dequeue.{deq_change, withdrawals_of}
use Rattle.vlm_model.specs.Rundown.{is_ended_by, rundowns, state_after_rundown}
use Rattle.vlm_words.specs.Steps.{is_of_node}
use Rattle.vlm_model.specs.Search.{search_change, victim_withdrawals}
use Rattle.vlm_model.specs.Granted.{IsGrantTo}
use Rattle.vlm_model.specs.Stepped.{Outcome, Stepped, conversion_change, outcome_endings, outcome_queued, refused_or, step_change, step_refusal, stepped}
use Rattle.vlm_model.specs.Runs.{History, Run, begin, history_after, next}
use Rattle.vlm_model.proofs.Always.{admission_of}
use Rattle.vlm_model.proofs.GrantsAtOnce.{admitted_stands}
use Rattle.vlm_model.proofs.Each.{Any-behind, Any-weaker, Found, any_left, each_append, each_at, each_filter, each_map, each_member, each_weaker, found_at}
use Rattle.vlm_model.proofs.EachResource.{each_entered_on, found_has}
use Rattle.vlm_model.proofs.Granted.{EachRow, admitted_owned, each_row_weaker}
use Rattle.vlm_model.proofs.Withdrawing.{kept_withdrawn}
use Rattle.vlm_model.specs.WarnedSince.{EachGrantIsArmedOrWarned, IsTold, IsWarningOf, QueuedSince, and_then, at_grant}
use Rattle.vlm_model.proofs.Accounting.{each_first}
use Rattle.vlm_model.proofs.DueAstsFall.{is_armed}

-- each of these is among those
abbrev AreIn : {X : Type 0} → List X → List X → Type 0
AreIn {X} all xs = AllByRecursion (λ x. Any (λ y. x ≡ y) all) xs

-- what holds of each of two lists holds of each of the second
each_last : {X : Type 0} (P : X → Type 0) (xs ys : List X) → AllByRecursion P (xs ++ ys) → AllByRecursion P ys
each_last P [] ys each = each
each_last P (x ∷ xs) ys each = each_last P xs ys each.1

-- what is said of a row: of its lock, its process, whether it is armed, and what it holds
abbrev Said : Type 1
Said = ℕ → ℕ → Bool → Option Request → Type 0

abbrev OfRow : Said → LockState → Type 0
OfRow F row = F row.lkid row.pid row.armed row.held

-- what a step ends and queues keeps what is said of rows: of a row that holds nothing, of one that is granted, and of
-- one that is warned
record Keeps (F : Said) (ended : List Ending) (queued : List Queued) : Type 0 where
  nothing : (lkid pid : ℕ) (armed : Bool) → F lkid pid armed None
  grant : (lkid pid : ℕ) (request : Request) → Any (IsGrantTo lkid pid request) ended → F lkid pid (is_some request.blocking) (Some request)
  warning : (lkid pid : ℕ) (held : Option Request) → F lkid pid true held → AreIn queued (blocking_asts held lkid pid) → F lkid pid false held

module _ (F : Said) (ended : List Ending) (queued : List Queued) (keeps : Keeps F ended queued) where
  -- ---- grants

  -- a row whose grant is among the endings
  granted_so : (at_once : Bool) (row : LockState) → AreIn ended (grant_endings at_once row) → OfRow F (granted_row row)
  granted_so at_once row ends = of_want row.want ends
    where
      of_want : (want : Option Request) → AreIn ended (grant_endings at_once (record row { want = want })) → F row.lkid row.pid (is_arming want) want
      of_want None ends = keeps.nothing row.lkid row.pid false
      of_want (Some request) ends =
          let its : Ending = record {
            lkid = row.lkid;
            pid = row.pid;
            request = request;
            how =
                by_grant (grant_act row.held (Some request));
            at_once = at_once;
          } in
          keeps.grant row.lkid row.pid request
          (Any-weaker (λ y. its ≡ y) (IsGrantTo row.lkid row.pid request)
          (λ y same. subst (IsGrantTo row.lkid row.pid request) same (record { lock = refl; process = refl; whole = refl; grants = tt })) ended ends.0)

  -- what is so after a service
  abbrev Serves : Service → Type 0
  Serves served = AreIn ended served.endings → EachRow (OfRow F) served.resource

  serve_converting_so : (r : Resource) (rows : List LockState) → r.converting ≡ rows → EachRow (OfRow F) r → Serves (service_of_conversions r rows)
  serve_converting_so r [] is each = λ _. each
  serve_converting_so r (row ∷ rows) is each =
      let granted : Resource = record (resource_after_grant r row) { converting = rows } in
      let more : Service = service_of_conversions granted rows in
      cond_both (wanted_fits row.want r.granted rows) (service_after_grant row more) (no_service r) Serves
      (λ _ ends. serve_converting_so granted rows refl (record {
        granted =
            each_append (OfRow F) r.granted (granted_row row ∷ []) each.granted
            (granted_so false row (each_first (λ x. Any (λ y. x ≡ y) ended) (grant_endings false row) more.endings ends), tt);
        converting = (subst (AllByRecursion (OfRow F)) is each.converting).1;
        waiting = each.waiting;
      }) (each_last (λ x. Any (λ y. x ≡ y) ended) (grant_endings false row) more.endings ends))
      (λ _ _. each)

  serve_waiting_so : (r : Resource) (rows : List LockState) → r.waiting ≡ rows → EachRow (OfRow F) r → Serves (service_of_waiting r rows)
  serve_waiting_so r [] is each = λ _. each
  serve_waiting_so r (row ∷ rows) is each =
      let granted : Resource = record (resource_after_grant r row) { waiting = rows } in
      let more : Service = service_of_waiting granted rows in
      cond_both (wanted_fits row.want r.granted r.converting) (service_after_grant row more) (no_service r) Serves
      (λ _ ends. serve_waiting_so granted rows refl (record {
        granted =
            each_append (OfRow F) r.granted (granted_row row ∷ []) each.granted
            (granted_so false row (each_first (λ x. Any (λ y. x ≡ y) ended) (grant_endings false row) more.endings ends), tt);
        converting = each.converting;
        waiting = (subst (AllByRecursion (OfRow F)) is each.waiting).1;
      }) (each_last (λ x. Any (λ y. x ≡ y) ended) (grant_endings false row) more.endings ends))
      (λ _ _. each)

  served_so : (r : Resource) → EachRow (OfRow F) r → Serves (service r)
  unfolding service
  served_so r each ends =
      let first : Service = service_of_conversions r r.converting in
      let each_then : EachRow (OfRow F) first.resource =
      serve_converting_so r r.converting refl each
      (each_first (λ x. Any (λ y. x ≡ y) ended) first.endings (service_of_new_requests first.resource).endings ends) in
      cond_both (is_empty first.resource.converting) (service_of_waiting first.resource first.resource.waiting) (no_service first.resource) Serves
      (λ _. serve_waiting_so first.resource first.resource.waiting refl each_then) (λ _ _. each_then)
      (each_last (λ x. Any (λ y. x ≡ y) ended) first.endings (service_of_new_requests first.resource).endings ends)

  -- ---- warnings

  row_warned_so : (converting waiting : List LockState) (row : LockState) → AreIn queued (row_warnings converting waiting row) → OfRow F row
      → OfRow F (row_after_warning converting waiting row)
  unfolding row_after_warning row_warnings
  row_warned_so converting waiting row asts said = of_test (is_to_warn converting waiting row) refl asts
    where
      of_test : (b : Bool) → is_to_warn converting waiting row ≡ b → AreIn queued (cond b (blocking_asts row.held row.lkid row.pid) [])
          → OfRow F (cond b (record row { armed = false }) row)
      of_test false _ asts = said
      of_test true to_warn asts =
          keeps.warning row.lkid row.pid row.held
          (subst (λ (b : Bool). F row.lkid row.pid b row.held) (is_armed converting waiting row to_warn) said) asts

  rows_warned_so : (converting waiting rows : List LockState) → AreIn queued (flat_map (row_warnings converting waiting) rows) → AllByRecursion (OfRow F) rows
      → AllByRecursion (OfRow F) (map (row_after_warning converting waiting) rows)
  rows_warned_so converting waiting [] asts each = tt
  rows_warned_so converting waiting (row ∷ rows) asts each =
      let its : List Queued = row_warnings converting waiting row in
      let others : List Queued = flat_map (row_warnings converting waiting) rows in (
        row_warned_so converting waiting row (each_first (λ x. Any (λ y. x ≡ y) queued) its others asts) each.0,
        rows_warned_so converting waiting rows (each_last (λ x. Any (λ y. x ≡ y) queued) its others asts) each.1,
      )

  warned_so : (block : ValueBlock) (r : Resource) → AreIn queued (warnings r) → EachRow (OfRow F) r
      → EachRow (OfRow F) (resource_after_warning (with_value_block block r))
  unfolding resource_after_warning warnings
  warned_so block r asts each = record {
    granted = rows_warned_so r.converting r.waiting r.granted asts each.granted;
    converting = each.converting;
    waiting = each.waiting;
  }

  -- ---- sweeps

  swept_so : (processes : List Process) (resources : List Resource) → AreIn ended (sweep_endings resources) → AreIn queued (sweep_asts resources)
      → AllByRecursion (EachRow (OfRow F)) resources → AllByRecursion (EachRow (OfRow F)) (resources_after_sweep processes resources)
  unfolding resources_after_sweep sweep_asts service_asts sweep_endings
  swept_so processes [] ends asts each = tt
  swept_so processes (r ∷ rest) ends asts each =
      let after : List Process = (blocks_after_service processes r).processes in
      let served : Resource = resource_after_service processes r in
      let behind : AllByRecursion (EachRow (OfRow F)) (resources_after_sweep after rest) =
      swept_so after rest (each_last (λ x. Any (λ y. x ≡ y) ended) (service r).endings (sweep_endings rest) ends)
      (each_last (λ x. Any (λ y. x ≡ y) queued) (service_asts r) (sweep_asts rest) asts) each.1 in
      let here : EachRow (OfRow F) served =
      warned_so (blocks_after_service processes r).value_block (service r).resource
      (each_last (λ x. Any (λ y. x ≡ y) queued) (completions_of (service r).endings) (warnings (service r).resource)
      (each_first (λ x. Any (λ y. x ≡ y) queued) (service_asts r) (sweep_asts rest) asts))
      (served_so r each.0 (each_first (λ x. Any (λ y. x ≡ y) ended) (service r).endings (sweep_endings rest) ends)) in
      cond_both (not (is_vacant served)) (served ∷ resources_after_sweep after rest) (resources_after_sweep after rest) (AllByRecursion (EachRow (OfRow F)))
      (λ _. (here, behind)) (λ _. behind)

  -- ---- the changes of the steps

  -- a new request
  entered_so : (row : LockState) (at_once : Bool) (r : Resource) → row.held ≡ None → AreIn ended (cond at_once (grant_endings true row) [])
      → EachRow (OfRow F) r → EachRow (OfRow F) (resource_after_entry row at_once r)
  unfolding resource_after_entry
  entered_so row true r none ends each = record {
    granted = each_append (OfRow F) r.granted (granted_row row ∷ []) each.granted (granted_so true row ends, tt);
    converting = each.converting;
    waiting = each.waiting;
  }
  entered_so row false r none ends each = record {
    granted = each.granted;
    converting = each.converting;
    waiting =
        each_append (OfRow F) r.waiting (row ∷ []) each.waiting
        (subst (F row.lkid row.pid row.armed) (sym none) (keeps.nothing row.lkid row.pid row.armed), tt);
  }

  -- a conversion, on one resource
  converted_so : (a : ConversionAdmission) (pid lkid : ℕ) (block : ValueBlock) (r : Resource) (found : Option LockState)
      → find (is_lock_of pid lkid) r.granted ≡ found
      → a.row.lkid ≡ lkid → a.row.pid ≡ pid → AreIn ended (conversion_endings a) → EachRow (OfRow F) r
      → EachRow (OfRow F) (resource_after_conversion_of a.request a.at_once lkid block r found)
  converted_so a pid lkid block r None is named owned ends each = each
  converted_so a pid lkid block r (Some row) is named owned ends each = of_test a.at_once ends
    where
      at : Found (is_lock_of pid lkid) r.granted row
      at = found_at (is_lock_of pid lkid) r.granted row is

      same_lock : a.row.lkid ≡ row.lkid
      same_lock = named ∙ sym (eqb-true row.lkid lkid (and_parts (row.lkid == lkid) (row.pid == pid) at.passes).0)

      same_process : a.row.pid ≡ row.pid
      same_process = owned ∙ sym (eqb-true row.pid pid (and_parts (row.lkid == lkid) (row.pid == pid) at.passes).1)

      others : AllByRecursion (OfRow F) (rows_without lkid r.granted)
      others = each_filter (OfRow F) (λ x. not (x.lkid == lkid)) r.granted each.granted

      of_test : (b : Bool) → AreIn ended (cond b (grant_endings true (wanting_row a.row a.request)) [])
          → EachRow (OfRow F)
          (cond b (with_value_block block (resource_after_grant (resource_without_granted lkid r) (wanting_row row a.request)))
          (record (resource_without_granted lkid r) { converting = r.converting ++ wanting_row row a.request ∷ [] }))
      of_test true ends = record {
        granted =
            each_append (OfRow F) (rows_without lkid r.granted) (granted_row (wanting_row row a.request) ∷ []) others (
              subst (λ n. F n row.pid (is_some a.request.blocking) (Some a.request)) same_lock
                  (subst (λ n. F a.row.lkid n (is_some a.request.blocking) (Some a.request)) same_process (granted_so true (wanting_row a.row a.request) ends)),
              tt,
            );
        converting = each.converting;
        waiting = each.waiting;
      }
      of_test false ends = record {
        granted = others;
        converting =
            each_append (OfRow F) r.converting (wanting_row row a.request ∷ []) each.converting
            (each_at (OfRow F) at.before row at.after (subst (AllByRecursion (OfRow F)) at.split each.granted), tt);
        waiting = each.waiting;
      }

  all_converted_so : (a : ConversionAdmission) (pid lkid : ℕ) (block : ValueBlock) (resources : List Resource)
      → a.row.lkid ≡ lkid → a.row.pid ≡ pid → AreIn ended (conversion_endings a) → AllByRecursion (EachRow (OfRow F)) resources
      → AllByRecursion (EachRow (OfRow F)) (map (resource_after_conversion a.request a.at_once pid lkid block) resources)
  unfolding resource_after_conversion
  all_converted_so a pid lkid block [] named owned ends each = tt
  all_converted_so a pid lkid block (r ∷ rest) named owned ends each = (
    converted_so a pid lkid block r (find (is_lock_of pid lkid) r.granted) refl named owned ends each.0,
    all_converted_so a pid lkid block rest named owned ends each.1,
  )

  -- withdrawals
  left_so : (w : Withdrawal) (r : Resource) → EachRow (OfRow F) r → EachRow (OfRow F) (resource_after_writer w r)
  left_so w r each =
      cond_both (is_held_by_writer w.lkid r) (record r { value_block = value_block_after_writer w r.value_block }) r (EachRow (OfRow F))
      (λ _. record { granted = each.granted; converting = each.converting; waiting = each.waiting }) (λ _. each)

  gone_so : (w : Withdrawal) (r : Resource) → EachRow (OfRow F) r → EachRow (OfRow F) (resource_after_going w r)
  unfolding resource_after_cancel resource_without
  gone_so w r each =
      cond_both w.stays (resource_after_cancel w.lkid r) (resource_without w.lkid r) (EachRow (OfRow F))
      (λ _. record {
        granted =
            each_append (OfRow F) r.granted (map row_after_cancel (rows_of w.lkid r.converting)) each.granted
            (each_map (OfRow F) (OfRow F) row_after_cancel (λ row said. said) (rows_of w.lkid r.converting)
            (each_filter (OfRow F) (λ row. row.lkid == w.lkid) r.converting each.converting));
        converting = each_filter (OfRow F) (λ row. not (row.lkid == w.lkid)) r.converting each.converting;
        waiting = each_filter (OfRow F) (λ row. not (row.lkid == w.lkid)) r.waiting each.waiting;
      })
      (λ _. record {
        granted = each_filter (OfRow F) (λ row. not (row.lkid == w.lkid)) r.granted each.granted;
        converting = each_filter (OfRow F) (λ row. not (row.lkid == w.lkid)) r.converting each.converting;
        waiting = each_filter (OfRow F) (λ row. not (row.lkid == w.lkid)) r.waiting each.waiting;
      })

  withdrawn_so : (withdrawals : List Withdrawal) (resources : List Resource) → AllByRecursion (EachRow (OfRow F)) resources
      → AllByRecursion (EachRow (OfRow F)) (map (resource_after_withdrawals withdrawals) resources)
  withdrawn_so withdrawals resources each =
      each_map (EachRow (OfRow F)) (EachRow (OfRow F)) (resource_after_withdrawals withdrawals)
      (kept_withdrawn (EachRow (OfRow F)) left_so gone_so withdrawals) resources each

  -- ---- the steps

  -- the change of a step, before its sweep
  abbrev Changes : State → Stepped → Type 0
  Changes s change =
      AreIn ended change.endings → AllByRecursion (EachRow (OfRow F)) s.resources → AllByRecursion (EachRow (OfRow F)) change.state.resources

  request_so : (s : State) (e : NewRequest) (choice : Option LockState) → Changes s (step_change s (Enq e) choice)
  unfolding enq_change enq_resource
  request_so s e choice ends each =
      each_entered_on (EachRow (OfRow F)) s.next_serial (enq_site s e) (enq_row s e) (enq_at_once s e) s.resources
      (entered_so (enq_row s e) (enq_at_once s e) (enq_resource s e) refl ends
      (found_has (EachRow (OfRow F)) s.next_serial (enq_site s e) (record { granted = tt; converting = tt; waiting = tt }) s.resources each)) each

  conversion_so : (s : State) (c : Conversion) (a : ConversionAdmission) → convert_admission s c ≡ Some a → Changes s (conversion_change s c (Some a))
  unfolding convert_change convert_admission
  conversion_so s c a admitted ends each =
      let lkid : ℕ = convert_lkid s c in
      all_converted_so a c.pid lkid (convert_blocks s c a).value_block s.resources
      (admitted_stands (convert_request s c) c.pid lkid a s.resources admitted).1
      (admitted_owned (convert_request s c) c.pid lkid a s.resources admitted) ends each

  change_so : (s : State) (step : Step) (choice : Option LockState) → step_refusal s step ≡ None → Changes s (step_change s step choice)
  unfolding declare_change set_change take_change deq_change search_change state_after_rundown
  change_so s (Declare d) choice passed ends each = each
  change_so s (SetValue v) choice passed ends each = each
  change_so s (Enq e) choice passed ends each = request_so s e choice ends each
  change_so s (Convert c) choice passed ends each =
      let admitted = admission_of s c passed in
      subst (λ (a : Option ConversionAdmission). Changes s (conversion_change s c a)) (sym admitted.1)
      (conversion_so s c admitted.0 admitted.1) ends each
  change_so s (Deq d) choice passed ends each = withdrawn_so (withdrawals_of s d) s.resources each
  change_so s (Rundown pid) choice passed ends each = withdrawn_so (rundowns (is_ended_by pid) s) s.resources each
  change_so s (Leave node) choice passed ends each = withdrawn_so (rundowns (is_of_node node) s) s.resources each
  change_so s (Search node) choice passed ends each = withdrawn_so (victim_withdrawals choice) s.resources each
  change_so s (Take pid) choice passed ends each = each

  step_so : (s : State) (change : Stepped) (refusal : Option Cond) → (refusal ≡ None → Changes s change)
      → AreIn ended (refused_or refusal s change).endings → AreIn queued (refused_or refusal s change).queued
      → AllByRecursion (EachRow (OfRow F)) s.resources → AllByRecursion (EachRow (OfRow F)) (refused_or refusal s change).state.resources
  step_so s change None changes ends asts each =
      let swept : List Resource = change.state.resources in
      swept_so change.state.processes swept
      (each_last (λ x. Any (λ y. x ≡ y) ended) change.endings (sweep_endings swept) ends)
      (each_last (λ x. Any (λ y. x ≡ y) queued) change.queued (sweep_asts swept) asts)
      (changes refl (each_first (λ x. Any (λ y. x ≡ y) ended) change.endings (sweep_endings swept) ends) each)
  step_so s change (Some refusal) changes ends asts each = each

-- ---- outcomes

outcome_so : (F : Said) (old new : State) (step : Step) (answer : Answer) (outcome : Outcome old step new answer)
    → Keeps F (outcome_endings outcome) (outcome_queued outcome)
    → AllByRecursion (EachRow (OfRow F)) old.resources → AllByRecursion (EachRow (OfRow F)) new.resources
outcome_so F old new step answer (inl made) keeps each =
    let outcome : Stepped = stepped old step made.choice in
    subst (λ (s : State). AllByRecursion (EachRow (OfRow F)) s.resources) (sym made.state)
    (step_so F outcome.endings outcome.queued keeps old (step_change old step made.choice) (step_refusal old step)
    (change_so F outcome.endings outcome.queued keeps old step made.choice) (each_member outcome.endings) (each_member outcome.queued) each)
outcome_so F old new step answer (inr short) keeps each = subst (λ (s : State). AllByRecursion (EachRow (OfRow F)) s.resources) (sym short.state) each

-- ---- over a run

-- once a step is made, what was queued since the grant ends with what the step queues
record IsKept {history : History} {old new : State} {step : Step} {answer : Answer} (run : Run history old) (outcome : Outcome old step new answer)
    (lkid pid : ℕ) (armed : Bool) (held : Request) (routine : ℕ) : Type 0 where
  before : List Queued
  queued :
      QueuedSince lkid pid held (history_after history step answer (outcome_endings outcome) (outcome_queued outcome)) new (next run outcome)
      (before ++ outcome_queued outcome)
  warning : (armed ≡ true) ⊎ Any (IsWarningOf lkid pid held routine) (before ++ outcome_queued outcome)

abbrev Kept : {history : History} {old new : State} {step : Step} {answer : Answer} → Run history old → Outcome old step new answer → Said
Kept run outcome lkid pid armed None = ⊤
Kept run outcome lkid pid armed (Some held) = (routine : ℕ) → held.blocking ≡ Some routine → IsKept run outcome lkid pid armed held routine

-- a step keeps it
kept_so : {history : History} {old new : State} {step : Step} {answer : Answer} (run : Run history old) (outcome : Outcome old step new answer)
    → Keeps (Kept run outcome) (outcome_endings outcome) (outcome_queued outcome)
kept_so run outcome = record {
  nothing = λ lkid pid armed. tt;
  grant = λ lkid pid request grant routine named. record {
    before = [];
    queued = at_grant run outcome grant;
    warning = inl (ap is_some named);
  };
  warning = warned;
}
  where
    its_warning : (lkid pid : ℕ) (held : Request) (routine : ℕ) (named : Option ℕ) → named ≡ Some routine
        → AreIn (outcome_queued outcome) (asts_for Blocking named held lkid pid) → Any (IsWarningOf lkid pid held routine) (outcome_queued outcome)
    its_warning lkid pid held routine None is asts = cc
    its_warning lkid pid held routine (Some called) is asts =
        let its : Queued = record { pid = pid; ast = record { kind = Blocking; routine = called; param = held.param; lkid = lkid } } in
        let same : called ≡ routine = cc in
        Any-weaker (λ y. its ≡ y) (IsWarningOf lkid pid held routine)
        (λ y is. subst (IsWarningOf lkid pid held routine) is (record { kind = refl; process = refl; lock = refl; routine_named = same; param = refl }))
        (outcome_queued outcome) asts.0

    warned : (lkid pid : ℕ) (held : Option Request) → Kept run outcome lkid pid true held → AreIn (outcome_queued outcome) (blocking_asts held lkid pid)
        → Kept run outcome lkid pid false held
    warned lkid pid None kept asts = tt
    warned lkid pid (Some held) kept asts = λ routine named.
        let was = kept routine named in
        record {
          before = was.before;
          queued = was.queued;
          warning = inr (Any-behind (IsWarningOf lkid pid held routine) was.before (outcome_queued outcome)
              (its_warning lkid pid held routine held.blocking named asts));
        }

-- what was so before the step is so with what it queues
told_kept : {history : History} {old new : State} {step : Step} {answer : Answer} (run : Run history old) (outcome : Outcome old step new answer)
    → (row : LockState) → OfRow (IsTold run) row → OfRow (Kept run outcome) row
told_kept run outcome row told = of_held row.held told
  where
    of_held : (held : Option Request) → IsTold run row.lkid row.pid row.armed held → Kept run outcome row.lkid row.pid row.armed held
    of_held None told = tt
    of_held (Some held) told = λ routine named.
        let was = told routine named in
        record {
          before = was.since;
          queued = and_then run outcome was.queued;
          warning = elim was.warning [
            | inl armed ↦ inl armed
            | inr warned ↦ inr (any_left (IsWarningOf row.lkid row.pid held routine) was.since (outcome_queued outcome) warned)
          ];
        }

kept_told : {history : History} {old new : State} {step : Step} {answer : Answer} (run : Run history old) (outcome : Outcome old step new answer)
    → (row : LockState) → OfRow (Kept run outcome) row → OfRow (IsTold (next run outcome)) row
kept_told run outcome row kept = of_held row.held kept
  where
    of_held : (held : Option Request) → Kept run outcome row.lkid row.pid row.armed held → IsTold (next run outcome) row.lkid row.pid row.armed held
    of_held None kept = tt
    of_held (Some held) kept = λ routine named.
        let is = kept routine named in
        record { since = is.before ++ outcome_queued outcome; queued = is.queued; warning = is.warning }

told_always : (history : History) (last : State) (run : Run history last) → AllByRecursion (EachRow (OfRow (IsTold run))) last.resources
told_always _ _ begin = tt
told_always _ last (next {history} {old} {new} {step} {answer} run outcome) =
    each_weaker (EachRow (OfRow (Kept run outcome))) (EachRow (OfRow (IsTold (next run outcome))))
    (each_row_weaker (OfRow (Kept run outcome)) (OfRow (IsTold (next run outcome))) (kept_told run outcome)) last.resources
    (outcome_so (Kept run outcome) old last step answer outcome (kept_so run outcome)
    (each_weaker (EachRow (OfRow (IsTold run))) (EachRow (OfRow (Kept run outcome)))
    (each_row_weaker (OfRow (IsTold run)) (OfRow (Kept run outcome)) (told_kept run outcome)) old.resources (told_always history old run)))

pub warned_since_always : (history : History) (last : State) (run : Run history last) → EachGrantIsArmedOrWarned run
warned_since_always history last run =
    let Told : LockState → Type 0 = λ row. IsTold run row.lkid row.pid row.armed row.held in
    All-from_recursion (λ r. All Told (r.granted ++ r.converting)) last.resources
    (each_weaker (EachRow (OfRow (IsTold run))) (λ r. All Told (r.granted ++ r.converting))
    (λ r each. All-from_recursion Told (r.granted ++ r.converting) (each_append Told r.granted r.converting each.granted each.converting))
    last.resources (told_always history last run))
