-- After every step the held modes of each resource are compatible.
use Rattle.std.proofs.Common.{◌≡◌, ℕ, Bool, true, not, List, [], ◌∷◌, ◌++◌, map, Option, None, Some, append_assoc, refl, sym, subst, ap, ⊎_elim, ◌∙◌}
use Rattle.std.specs.Prelude.{AllPairs, ◌==◌}
use Rattle.std.specs.List.{AllByRecursion, find, list_all}
use Rattle.std.proofs.lemmas.Bool.{cond_both, and_parts, or_cases}
use Rattle.std.proofs.lemmas.List.Elements.{All-from_recursion, filter-append}
use Rattle.vlm_words.specs.declared.locks.Request.{Request}
use Rattle.vlm_words.specs.declared.locks.LockState.{LockState}
use Rattle.vlm_words.specs.declared.modes.Mode.TheVariants.{Nl, Cr, Cw, Pr, Pw, Ex}
use Rattle.vlm_words.specs.declared.modes.Mode.{Mode}
use Rattle.vlm_words.specs.declared.resources.ValueBlock.{ValueBlock}
use Rattle.vlm_words.specs.declared.steps.Conversion.{Conversion}
use Rattle.vlm_words.specs.declared.steps.NewRequest.{NewRequest}
use Rattle.vlm_words.specs.Modes.{is_compatible}
use Rattle.vlm_words.specs.Flags.{expedite, has_flag}
use Rattle.vlm_words.specs.State.{Process, Resource, State}
use Rattle.vlm_model.specs.Effects.{with_value_block}
use Rattle.vlm_words.specs.Rows.{fits, granted_row, is_beside, is_empty, is_lock_of, rows_without, wanting_row}
use Rattle.vlm_model.specs.Grants.{no_service, resource_after_grant, service, service_after_grant}
use Rattle.vlm_model.specs.Grants.{service_of_conversions, service_of_new_requests, service_of_waiting, wanted_fits}
use Rattle.vlm_model.specs.Sweeps.{resources_after_sweep}
use Rattle.vlm_model.specs.Declare.{declare_change}
use Rattle.vlm_model.specs.SetValue.{set_change}
use Rattle.vlm_model.specs.Take.{take_change}
use Rattle.vlm_model.specs.Trees.{enq_site}
use Rattle.vlm_model.specs.Enqueue.{enq_at_once, enq_change, enq_refusal, enq_request, enq_resource, enq_row, is_at_once, is_free_for, resource_after_entry}
use Rattle.vlm_model.specs.Convert.{ConversionAdmission, convert_admission, convert_blocks, convert_change}
use Rattle.vlm_model.specs.Convert.{convert_lkid, convert_request, converts_at_once, resource_after_conversion}
use Rattle.vlm_model.specs.Convert.{resource_after_conversion_of, resource_without_granted}
use Rattle.vlm_model.specs.Rundown.{processes_but, rundowns, state_after_rundown}
use Rattle.vlm_model.specs.Withdrawals.{Withdrawal, is_held_by_writer, resource_after_cancel}
use Rattle.vlm_model.specs.Withdrawals.{resource_after_withdrawals, resource_after_writer, resource_without}
use Rattle.vlm_model.specs.Withdrawals.{row_after_cancel, value_block_after_writer, resource_after_going}
use Rattle.vlm_model.specs.Withdrawals.{state_after_withdrawals}
use Rattle.vlm_model.specs.Runs.{History, Run}
use Rattle.vlm_model.specs.Laws.{AreCompatible, HeldModesAreCompatible, Stands}
use Rattle.vlm_model.proofs.Each.{Any-behind, Any-here, Found, found_at, each_append, each_map, each_passes, each_weaker}
use Rattle.vlm_model.proofs.Pairs.{EachPair, AllPairs-from_recursion, each_pair_filter, each_pair_filter_left}
use Rattle.vlm_model.proofs.Pairs.{each_pair_found, each_pair_insert, each_pair_move, each_pair_push, each_pair_remove}
use Rattle.vlm_model.proofs.PassedChecks.{expedited_is_null}
use Rattle.vlm_model.proofs.Admissions.{admitted_request, found_lkid}
use Rattle.vlm_model.proofs.Always.{always, kept_by_stepped}
use Rattle.vlm_model.proofs.IdsApart.{Apart, apart_always}
use Rattle.vlm_model.proofs.GrantsAtOnce.{admitted_at_once, admitted_stands, only_there}
use Rattle.vlm_words.proofs.Compatible.{is_compatible-comm}
use Rattle.vlm_model.proofs.EachResource.{each_entered_on, each_swept, found_has}
use Rattle.vlm_model.proofs.Withdrawing.{kept_withdrawn}
use Rattle.vlm_model.specs.Asts.{resource_after_warning, row_after_warning}
use Rattle.vlm_model.proofs.Warned.{blind_warned}

-- two rows hold compatible modes
abbrev pub HoldCompatible : LockState → LockState → Type 0
HoldCompatible a b = AreCompatible a.held b.held

-- being compatible has no order
are_compatible-comm : (a b : Option Request) → AreCompatible a b → AreCompatible b a
are_compatible-comm None None compatible = tt
are_compatible-comm None (Some b) compatible = tt
are_compatible-comm (Some a) None compatible = tt
are_compatible-comm (Some a) (Some b) compatible = is_compatible-comm b.mode a.mode ∙ compatible

-- holding compatible modes has no order
pub hold_compatible-comm : (a b : LockState) → HoldCompatible a b → HoldCompatible b a
hold_compatible-comm a b compatible = are_compatible-comm a.held b.held compatible

-- a mode that may be held beside what a row holds is compatible with it
compatible_beside : (request : Request) (held : Option Request) → is_beside request.mode held ≡ true → AreCompatible (Some request) held
compatible_beside request None beside = tt
compatible_beside request (Some held) beside = beside

-- a mode that fits is compatible with what each row holds
compatible_if_fits : (request : Request) (granted converting : List LockState) → fits request.mode granted converting ≡ true
    → AllByRecursion (λ row. AreCompatible (Some request) row.held) (granted ++ converting)
unfolding fits
compatible_if_fits request granted converting fitting =
    each_append (λ row. AreCompatible (Some request) row.held) granted converting (each_of granted parts.0) (each_of converting parts.1)
  where
    parts : (list_all (λ row. is_beside request.mode row.held) granted ≡ true) × (list_all (λ row. is_beside request.mode row.held) converting ≡ true)
    parts = and_parts _ _ fitting

    each_of : (rows : List LockState) → list_all (λ row. is_beside request.mode row.held) rows ≡ true
        → AllByRecursion (λ row. AreCompatible (Some request) row.held) rows
    each_of rows passed =
        each_weaker (λ row. is_beside request.mode row.held ≡ true) (λ row. AreCompatible (Some request) row.held)
        (λ row beside. compatible_beside request row.held beside) rows (each_passes (λ row. is_beside request.mode row.held) rows passed)

-- what a row wants, where it fits, is compatible with what each other row holds
compatible_if_wanted_fits : (want : Option Request) (granted converting : List LockState) → wanted_fits want granted converting ≡ true
    → AllByRecursion (λ row. AreCompatible want row.held) (granted ++ converting)
compatible_if_wanted_fits None granted converting fitting = cc
compatible_if_wanted_fits (Some request) granted converting fitting = compatible_if_fits request granted converting fitting

-- the held modes of the two queues are compatible
abbrev pub QueuesAgree : List LockState → List LockState → Type 0
QueuesAgree granted converting = EachPair HoldCompatible (granted ++ converting)

-- the held modes of the resource are compatible
abbrev pub HoldersAgree : Resource → Type 0
HoldersAgree r = QueuesAgree r.granted r.converting

-- a row whose request fits may be granted
agree_after_grant : (row : LockState) (granted converting : List LockState)
    → AllByRecursion (λ other. AreCompatible row.want other.held) (granted ++ converting) → QueuesAgree granted converting
    → QueuesAgree (granted ++ granted_row row ∷ []) converting
agree_after_grant row granted converting compatible agree =
    rw append_assoc
    (each_pair_insert HoldCompatible hold_compatible-comm granted (granted_row row) converting compatible agree)

-- serving the conversions keeps the held modes compatible
serve_converting_agrees : (r : Resource) (rows : List LockState) → r.converting ≡ rows → HoldersAgree r → HoldersAgree (service_of_conversions r rows).resource
serve_converting_agrees r [] is agree = agree
serve_converting_agrees r (row ∷ rows) is agree =
    cond_both (wanted_fits row.want r.granted rows)
    (service_after_grant row (service_of_conversions (record (resource_after_grant r row) { converting = rows }) rows)) (no_service r)
    (λ more. HoldersAgree more.resource)
    (λ fitting.
    serve_converting_agrees (record (resource_after_grant r row) { converting = rows }) rows refl
    (agree_after_grant row r.granted rows (compatible_if_wanted_fits row.want r.granted rows fitting)
    (each_pair_remove HoldCompatible r.granted row rows (subst (QueuesAgree r.granted) is agree))))
    (λ _. agree)

-- serving the waiting queue keeps the held modes compatible
serve_waiting_agrees : (r : Resource) (rows : List LockState) → HoldersAgree r → HoldersAgree (service_of_waiting r rows).resource
serve_waiting_agrees r [] agree = agree
serve_waiting_agrees r (row ∷ rows) agree =
    cond_both (wanted_fits row.want r.granted r.converting)
    (service_after_grant row (service_of_waiting (record (resource_after_grant r row) { waiting = rows }) rows)) (no_service r)
    (λ more. HoldersAgree more.resource)
    (λ fitting.
    serve_waiting_agrees (record (resource_after_grant r row) { waiting = rows }) rows
    (agree_after_grant row r.granted r.converting (compatible_if_wanted_fits row.want r.granted r.converting fitting) agree))
    (λ _. agree)

-- serving keeps the held modes compatible
served_agrees : (r : Resource) → HoldersAgree r → HoldersAgree (service r).resource
unfolding service
served_agrees r agree = new_requests (service_of_conversions r r.converting).resource (serve_converting_agrees r r.converting refl agree)
  where
    new_requests : (left : Resource) → HoldersAgree left → HoldersAgree (service_of_new_requests left).resource
    new_requests left agree =
        cond_both (is_empty left.converting) (service_of_waiting left left.waiting) (no_service left) (λ more. HoldersAgree more.resource)
        (λ _. serve_waiting_agrees left left.waiting agree) (λ _. agree)

-- NL is compatible with every mode
null_is_compatible : (mode : Mode) → is_compatible Nl mode ≡ true
unfolding is_compatible
null_is_compatible Nl = refl
null_is_compatible Cr = refl
null_is_compatible Cw = refl
null_is_compatible Pr = refl
null_is_compatible Pw = refl
null_is_compatible Ex = refl

-- a request for NL is compatible with whatever is held
null_is_beside : (request : Request) (held : Option Request) → request.mode ≡ Nl → AreCompatible (Some request) held
null_is_beside request None null = tt
null_is_beside request (Some held) null = subst (λ mode. is_compatible mode held.mode ≡ true) (sym null) (null_is_compatible held.mode)

-- a request for NL is compatible with what each row holds
null_beside_each : (request : Request) → request.mode ≡ Nl → (rows : List LockState) → AllByRecursion (λ row. AreCompatible (Some request) row.held) rows
null_beside_each request null [] = tt
null_beside_each request null (row ∷ rows) = (null_is_beside request row.held null, null_beside_each request null rows)

-- a new request that is granted at once is compatible with what each row holds
compatible_at_once : (s : State) (e : NewRequest) → enq_refusal s e ≡ None → (r : Resource) → is_at_once (enq_request s e) r ≡ true
    → AllByRecursion (λ row. AreCompatible (Some (enq_request s e)) row.held) (r.granted ++ r.converting)
unfolding is_at_once
compatible_at_once s e passed r at_once =
    ⊎_elim (λ flagged. null_beside_each (enq_request s e) (expedited_is_null s e passed flagged) (r.granted ++ r.converting))
    (λ free. compatible_if_fits (enq_request s e) r.granted r.converting (and_parts _ _ (and_parts _ _ free).0).0)
    (or_cases (has_flag e.flags expedite) (is_free_for (enq_request s e) r) at_once)

-- the entry of a lock keeps the held modes compatible
entered_agrees : (s : State) (e : NewRequest) → enq_refusal s e ≡ None → HoldersAgree (enq_resource s e)
    → HoldersAgree (resource_after_entry (enq_row s e) (enq_at_once s e) (enq_resource s e))
unfolding resource_after_entry
entered_agrees s e passed agree =
    let r : Resource = enq_resource s e in
    cond_both (enq_at_once s e) (resource_after_grant r (enq_row s e)) (record r { waiting = r.waiting ++ enq_row s e ∷ [] }) HoldersAgree
    (λ at_once. agree_after_grant (enq_row s e) r.granted r.converting (compatible_at_once s e passed r at_once) agree) (λ _. agree)

-- a conversion that is granted at once keeps the held modes compatible
converted_at_once_agrees : (request : Request) (lkid : ℕ) (r : Resource) (row : LockState) → converts_at_once request lkid r ≡ true → HoldersAgree r
    → HoldersAgree (resource_after_grant (resource_without_granted lkid r) (wanting_row row request))
unfolding converts_at_once
converted_at_once_agrees request lkid r row at_once agree =
    agree_after_grant (wanting_row row request) (rows_without lkid r.granted) r.converting
    (compatible_if_fits request (rows_without lkid r.granted) r.converting (and_parts _ _ at_once).0)
    (each_pair_filter_left HoldCompatible _ r.granted r.converting agree)

-- a conversion that queues holds what it held
queued_agrees : (request : Request) (pid lkid : ℕ) (granted converting : List LockState) (row : LockState)
    → Found (is_lock_of pid lkid) granted row → QueuesAgree granted converting
    → QueuesAgree (rows_without lkid granted) (converting ++ wanting_row row request ∷ [])
queued_agrees request pid lkid granted converting row at agree =
    rw (← append_assoc)
    (each_pair_push HoldCompatible hold_compatible-comm (rows_without lkid granted ++ converting) (wanting_row row request)
    (each_pair_found HoldCompatible hold_compatible-comm (is_lock_of pid lkid) (λ other. not (other.lkid == lkid)) granted converting row
    (ap not (and_parts _ _ at.passes).0) at agree)
    (each_pair_filter_left HoldCompatible _ granted converting agree))

-- a lock that is found stands there
found_there : (pid lkid : ℕ) (rows : List LockState) (row : LockState) → Found (is_lock_of pid lkid) rows row → Stands lkid rows
found_there pid lkid rows row at =
    subst (Stands lkid) (sym at.split)
    (Any-behind (λ (x : LockState). x.lkid ≡ lkid) at.before (row ∷ at.after)
    (Any-here (λ (x : LockState). x.lkid ≡ lkid) row at.after (found_lkid pid lkid row at.passes)))

-- a conversion keeps the held modes compatible, whichever row is found, where one at once fits on its resource
converted_row_agrees : (request : Request) (at_once : Bool) (pid lkid : ℕ) (block : ValueBlock) (r : Resource) (found : Option LockState)
    → find (is_lock_of pid lkid) r.granted ≡ found → (Stands lkid r.granted → at_once ≡ converts_at_once request lkid r) → HoldersAgree r
    → HoldersAgree (resource_after_conversion_of request at_once lkid block r found)
converted_row_agrees request at_once pid lkid block r None is fits agree = agree
converted_row_agrees request at_once pid lkid block r (Some row) is fits agree =
    let at : Found (is_lock_of pid lkid) r.granted row = found_at (is_lock_of pid lkid) r.granted row is in
    cond_both at_once (with_value_block block (resource_after_grant (resource_without_granted lkid r) (wanting_row row request)))
    (record (resource_without_granted lkid r) { converting = r.converting ++ wanting_row row request ∷ [] }) HoldersAgree
    (λ now. converted_at_once_agrees request lkid r row (sym (fits (found_there pid lkid r.granted row at)) ∙ now) agree)
    (λ _. queued_agrees request pid lkid r.granted r.converting row at agree)

-- the same, for the row that is found on each resource
converted_agrees : (request : Request) (at_once : Bool) (pid lkid : ℕ) (block : ValueBlock) (resources : List Resource)
    → AllByRecursion (λ r. Stands lkid r.granted → at_once ≡ converts_at_once request lkid r) resources
    → AllByRecursion HoldersAgree resources → AllByRecursion HoldersAgree (map (resource_after_conversion request at_once pid lkid block) resources)
unfolding resource_after_conversion
converted_agrees request at_once pid lkid block [] fits each = tt
converted_agrees request at_once pid lkid block (r ∷ rest) fits each = (
  converted_row_agrees request at_once pid lkid block r (find (is_lock_of pid lkid) r.granted) refl fits.0 each.0,
  converted_agrees request at_once pid lkid block rest fits.1 each.1,
)

-- an admitted conversion
conversion_agrees : (s : State) (c : Conversion) (a : ConversionAdmission) → Apart s → convert_admission s c ≡ Some a
    → AllByRecursion HoldersAgree s.resources → AllByRecursion HoldersAgree (convert_change s c a).resources
unfolding convert_change convert_admission
conversion_agrees s c a apart admitted each =
    let lkid : ℕ = convert_lkid s c in
    let request : Request = convert_request s c in
    let asks : a.request ≡ request = admitted_request request c.pid lkid a s.resources admitted in
    let named : a.row.lkid ≡ lkid = (admitted_stands request c.pid lkid a s.resources admitted).1 in
    let fits : a.at_once ≡ converts_at_once a.request lkid a.resource =
    admitted_at_once request c.pid lkid a s.resources admitted
    ∙ ap (λ q. converts_at_once q a.row.lkid a.resource) (sym asks)
    ∙ ap (λ n. converts_at_once a.request n a.resource) named in
    converted_agrees a.request a.at_once c.pid lkid (convert_blocks s c a).value_block s.resources
    (each_weaker (λ r. Stands lkid r.granted → r ≡ a.resource) (λ r. Stands lkid r.granted → a.at_once ≡ converts_at_once a.request lkid r)
    (λ r only there. fits ∙ ap (converts_at_once a.request lkid) (sym (only there))) s.resources
    (only_there request c.pid lkid a s.resources (apart.one_row lkid) admitted)) each

-- a lock that goes leaves the held modes compatible
without_agrees : (lkid : ℕ) (r : Resource) → HoldersAgree r → HoldersAgree (resource_without lkid r)
unfolding resource_without
without_agrees lkid r agree = rw (← filter-append) (each_pair_filter HoldCompatible _ (r.granted ++ r.converting) agree)

-- a lock whose conversion is cancelled holds what it held
cancelled_agrees : (lkid : ℕ) (r : Resource) → HoldersAgree r → HoldersAgree (resource_after_cancel lkid r)
unfolding resource_after_cancel
cancelled_agrees lkid r agree =
    each_pair_move HoldCompatible hold_compatible-comm row_after_cancel (λ a b compatible. compatible) (λ row. row.lkid == lkid) r.granted r.converting agree

-- what a lock leaves in the value block does not touch the held modes
left_agrees : (w : Withdrawal) (r : Resource) → HoldersAgree r → HoldersAgree (resource_after_writer w r)
left_agrees w r agree =
    cond_both (is_held_by_writer w.lkid r) (record r { value_block = value_block_after_writer w r.value_block }) r HoldersAgree
    (λ _. agree) (λ _. agree)

-- a lock that goes or stays keeps the held modes compatible
gone_agrees : (w : Withdrawal) (r : Resource) → HoldersAgree r → HoldersAgree (resource_after_going w r)
gone_agrees w r agree =
    cond_both w.stays (resource_after_cancel w.lkid r) (resource_without w.lkid r) HoldersAgree
    (λ _. cancelled_agrees w.lkid r agree) (λ _. without_agrees w.lkid r agree)

-- warnings do not touch the held modes
warned_agrees : (r : Resource) → HoldersAgree r → HoldersAgree (resource_after_warning r)
unfolding resource_after_warning
warned_agrees r agree = of_rows r.granted agree
  where
    warned : LockState → LockState
    warned = row_after_warning r.converting r.waiting

    compatible : (a row : LockState) → AreCompatible a.held row.held → AreCompatible (warned a).held (warned row).held
    compatible a row so =
        subst (λ (held : Option Request). AreCompatible held (warned row).held)
        (sym (blind_warned (λ x. x.held) (λ x armed. refl) r.converting r.waiting a))
        (subst (AreCompatible a.held) (sym (blind_warned (λ x. x.held) (λ x armed. refl) r.converting r.waiting row)) so)

    -- those that convert are not warned
    others : (a : LockState) (rows : List LockState) → AllByRecursion (HoldCompatible a) rows → AllByRecursion (HoldCompatible (warned a)) rows
    others a rows each =
        each_weaker (HoldCompatible a) (HoldCompatible (warned a))
        (λ row so. subst (λ (held : Option Request). AreCompatible held row.held)
        (sym (blind_warned (λ x. x.held) (λ x armed. refl) r.converting r.waiting a)) so) rows each

    first : (a : LockState) (rows : List LockState) → AllByRecursion (HoldCompatible a) (rows ++ r.converting)
        → AllByRecursion (HoldCompatible (warned a)) (map warned rows ++ r.converting)
    first a [] each = others a r.converting each
    first a (row ∷ rows) each = (compatible a row each.0, first a rows each.1)

    of_rows : (rows : List LockState) → EachPair HoldCompatible (rows ++ r.converting) → EachPair HoldCompatible (map warned rows ++ r.converting)
    of_rows [] pairs = pairs
    of_rows (row ∷ rows) pairs = (first row rows pairs.0, of_rows rows pairs.1)

-- after every run the held modes of each resource are compatible, by recursion
pub holders_agree_always : (history : History) (last : State)
    → Run history last → AllByRecursion HoldersAgree last.resources
unfolding declare_change set_change take_change enq_change enq_resource state_after_rundown
holders_agree_always =
    always (λ _ s. AllByRecursion HoldersAgree s.resources) tt
    (λ history s run each.
    kept_by_stepped (λ _ t. AllByRecursion HoldersAgree t.resources) history.endings s each
    (λ d _. swept_agree (declare_change s d).processes s.resources each)
    (λ v _. swept_agree (set_change s v).processes s.resources each)
    (λ taker _. swept_agree (take_change s taker).processes s.resources each)
    (λ e passed.
    swept_agree (enq_change s e).processes (enq_change s e).resources
    (each_entered_on HoldersAgree s.next_serial (enq_site s e) (enq_row s e) (enq_at_once s e) s.resources
    (entered_agrees s e passed (found_has HoldersAgree s.next_serial (enq_site s e) tt s.resources each)) each))
    (λ c a _ admitted.
    swept_agree (convert_change s c a).processes (convert_change s c a).resources
    (conversion_agrees s c a (apart_always history s run) admitted each))
    (λ withdrawals _.
    swept_agree (state_after_withdrawals withdrawals s).processes (state_after_withdrawals withdrawals s).resources
    (each_map HoldersAgree HoldersAgree (resource_after_withdrawals withdrawals) (kept_withdrawn HoldersAgree left_agrees gone_agrees withdrawals)
    s.resources each))
    (λ is_one nodes _.
    swept_agree (processes_but is_one s.processes) (state_after_rundown is_one nodes s).resources
    (each_map HoldersAgree HoldersAgree (resource_after_withdrawals (rundowns is_one s))
    (kept_withdrawn HoldersAgree left_agrees gone_agrees (rundowns is_one s))
    s.resources each)))
  where
    swept_agree : (processes : List Process) (resources : List Resource) → AllByRecursion HoldersAgree resources
        → AllByRecursion HoldersAgree (resources_after_sweep processes resources)
    swept_agree processes resources each =
        each_swept HoldersAgree HoldersAgree
        (λ block r agree. warned_agrees (with_value_block block (service r).resource)
        (served_agrees r agree)) processes resources each

-- after every run the held modes are compatible
pub held_modes_always : (history : History) (last : State)
    → Run history last → HeldModesAreCompatible last
held_modes_always history last run =
    All-from_recursion (λ r. AllPairs HoldCompatible (r.granted ++ r.converting)) last.resources
    (each_weaker HoldersAgree (λ r. AllPairs HoldCompatible (r.granted ++ r.converting))
    (λ r. AllPairs-from_recursion HoldCompatible (r.granted ++ r.converting)) last.resources
    (holders_agree_always history last run))
