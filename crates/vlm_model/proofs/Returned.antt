-- A grant reads or writes the value block as the request asks.
use Rattle.std.proofs.Common.{◌≡◌, ◌<◌, ◌+◌, ℕ, Bool, true, false, not, List, [], ◌∷◌, ◌++◌, map, filter, flat_map}
use Rattle.std.proofs.Common.{length, get_or, cond, Option, None, Some, refl, sym, subst, ap, inl, inr, ◌∙◌}
use Rattle.std.specs.Prelude.{Any}
use Rattle.std.specs.List.{AllByRecursion, AllZip, find}
use Rattle.std.proofs.lemmas.Bool.{cond_both}
use Rattle.std.proofs.lemmas.List.Elements.{All-from_recursion}
use Rattle.vlm_words.specs.declared.blocks.Block.{Block}
use Rattle.vlm_words.specs.declared.conditions.Cond.{Cond}
use Rattle.vlm_words.specs.declared.locks.Request.{Request}
use Rattle.vlm_words.specs.declared.locks.LockState.{LockState}
use Rattle.vlm_words.specs.declared.modes.Act.TheVariants.{Nothing, Return, Write}
use Rattle.vlm_words.specs.declared.modes.Act.{Act}
use Rattle.vlm_words.specs.declared.modes.Mode.TheVariants.{Nl, Cr, Cw, Pr, Pw, Ex}
use Rattle.vlm_words.specs.declared.modes.Mode.{Mode}
use Rattle.vlm_words.specs.declared.resources.ValueBlock.{ValueBlock}
use Rattle.vlm_words.specs.declared.steps.Conversion.{Conversion}
use Rattle.vlm_words.specs.declared.steps.NewRequest.{NewRequest}
use Rattle.vlm_words.specs.declared.steps.Step.TheVariants.{Declare, SetValue, Enq, Convert, Deq, Rundown, Leave, Search, Take}
use Rattle.vlm_words.specs.declared.steps.Step.{Step}
use Rattle.vlm_words.specs.Flags.{flag_bits, has_flag, valblk}
use Rattle.vlm_words.specs.Modes.{value_action}
use Rattle.vlm_words.specs.State.{Process, Resource, State, process_of, Node}
use Rattle.vlm_words.specs.ValueBlocks.{new_value_block}
use Rattle.vlm_words.specs.Processes.{new_status_block}
use Rattle.vlm_model.specs.StatusBlocks.{processes_after_acceptance, status_blocks_of}
use Rattle.vlm_model.specs.Endings.{Ending, How, row_endings, wanted_endings}
use Rattle.vlm_model.specs.Endings.How.{by_grant}
use Rattle.vlm_model.specs.Effects.{blocks_after, blocks_with, with_value_block, Blocks}
use Rattle.vlm_model.specs.Grants.{grant_act, grant_endings, resource_after_grant, service}
use Rattle.vlm_words.specs.Rows.{granted_row, is_empty, is_lock_of, rows_of, wanting_row}
use Rattle.vlm_model.specs.Sweeps.{is_vacant, resources_after_sweep, sweep_endings}
use Rattle.vlm_model.specs.Declare.{declare_change}
use Rattle.vlm_model.specs.SetValue.{set_change}
use Rattle.vlm_model.specs.Take.{take_change}
use Rattle.vlm_model.specs.Trees.{enq_site}
use Rattle.vlm_model.specs.Enqueue.{enq_at_once, enq_change, enq_refusal, enq_request, enq_resource, enq_row, resource_after_entry}
use Rattle.vlm_model.specs.Convert.{ConversionAdmission, convert_admission, convert_blocks, convert_change}
use Rattle.vlm_model.specs.Convert.{convert_lkid, convert_refusal, convert_request, resource_after_conversion}
use Rattle.vlm_model.specs.Convert.{resource_after_conversion_of, resource_without_granted}
use Rattle.vlm_model.specs.Withdrawals.{Withdrawal, queue_endings, withdrawal_endings, withdrawn_endings}
use Rattle.vlm_model.specs.Dequeue.{deq_change, withdrawals_of}
use Rattle.vlm_model.specs.Runs.{History, Run}
use Rattle.vlm_model.specs.Stepped.{IsChoice, Stepped, conversion_change, refused_or, step_change, step_refusal, stepped, stepped_after_sweep, end_of_processes}
use Rattle.vlm_model.specs.Laws.{IsGrant, IsGrantOf, IsGranted}
use Rattle.vlm_model.specs.Returned.{ActsAsAskedFor, GrantsReturnValues, HeldBefore, HoldsGranted, IsItsValue}
use Rattle.vlm_model.specs.Returned.{TellsMark, TellsTail, TellsValue, act_asked_for, conversion_act, last_return}
use Rattle.vlm_model.specs.Returned.{last_wide_return}
use Rattle.vlm_model.specs.Written.{last_end}
use Rattle.vlm_model.proofs.Always.{admission_of, withdrawal_of_all}
use Rattle.vlm_model.proofs.IdsApart.{Apart, apart_always}
use Rattle.vlm_model.proofs.Each.{Any-behind, Any-cases, Any-here, Any-none, Any-there, Any-weaker, any_left, each_append, each_weaker, each_member}
use Rattle.vlm_model.proofs.HeldModes.{HoldersAgree, holders_agree_always}
use Rattle.vlm_model.proofs.InOrder.{service_in_order}
use Rattle.vlm_model.proofs.Refusals.{Any_found}
use Rattle.vlm_model.proofs.Returning.{AreReturned, Its, Serves, StatusBy, TailBy, ValueBy, none_returned, one_returned, all_returned, returned_swept}
use Rattle.vlm_model.proofs.Standing.{admitted_there, any_entered, any_map, granted_stays}
use Rattle.vlm_model.proofs.SweptValues.{IsHarmless, WritesNothing, conversion_is_harmless, harmless_always}
use Rattle.vlm_model.proofs.SweptValues.{new_is_harmless, service_each, service_harmless, served, served_leaves}
use Rattle.vlm_model.proofs.SweptValues.{swept_alone}
use Rattle.vlm_model.proofs.Waiting.{EachConverting, Queued, conversion_queued, request_queued, rundown_queued, withdrawn_queued}
use Rattle.vlm_model.proofs.Withdrawing.{GrantsNothing, dequeues_grant_nothing, each_end, rundowns_grant_nothing}
use Rattle.vlm_model.proofs.Writers.{kept_value}
use Rattle.vlm_model.proofs.WrittenBlocks.{blocks_are}
use Rattle.vlm_model.proofs.Warned.{holds_warned}
use Rattle.vlm_model.specs.Asts.{resource_after_warning, row_after_warning}
use Rattle.vlm_model.specs.Rundown.{is_ended_by, nodes_after_departure, processes_but, rundown_endings, rundowns, state_after_rundown}
use Rattle.vlm_words.specs.Steps.{is_of_node}
use Rattle.vlm_model.proofs.ProcessEnds.{rundowns_write_nothing}
use Rattle.vlm_model.specs.Search.{victim_withdrawals, search_change, victim_lkid}
use Rattle.vlm_model.proofs.Victims.{victims_grant_nothing}
use Rattle.vlm_words.specs.declared.steps.Answer.TheVariants.{Plain, Victim}
use Rattle.vlm_words.specs.declared.conditions.Cond.TheVariants.{Normal}
use Rattle.vlm_words.specs.declared.steps.Answer.{Answer}

-- ---- what a grant does

-- the table of value blocks, in the words of the law
table_act : (held want : Mode) → value_action held want ≡ conversion_act held want
unfolding value_action
table_act Nl Nl = refl
table_act Cr Nl = refl
table_act Cw Nl = refl
table_act Pr Nl = refl
table_act Pw Nl = refl
table_act Ex Nl = refl
table_act held want = refl

-- a grant does what is asked for
grant_act_is : (held : Option Request) (request : Request) → grant_act held (Some request) ≡ act_asked_for held request
unfolding grant_act
grant_act_is None request = refl
grant_act_is (Some held) request =
    ap (λ (act : Act). cond (has_flag (flag_bits request.flags) valblk) act Nothing) (table_act held.mode request.mode)

-- what is so of an ending
abbrev Acts : State → Ending → Type 0
Acts s ending = IsGrant ending.how → ActsAsAskedFor s ending

-- what a lock of this row holds, it held before the step
abbrev HeldSo : State → LockState → Type 0
HeldSo s row = HeldBefore s row.lkid row.held

-- the grant of such a row
row_acts : (s : State) (at_once : Bool) (row : LockState) → HeldSo s row → AllByRecursion (Acts s) (grant_endings at_once row)
row_acts s at_once row before = of_want row.want refl
  where
    of_want : (want : Option Request) → row.want ≡ want
        → AllByRecursion (Acts s) (wanted_endings (by_grant (grant_act row.held row.want)) at_once row.lkid row.pid want)
    of_want None is = tt
    of_want (Some request) is = (
      λ _. record {
        held = row.held;
        before = before;
        acts = ap by_grant (ap (λ (want : Option Request). grant_act row.held want) is ∙ grant_act_is row.held request);
      },
      tt,
    )

-- what a row of a resource that is there holds, its lock held before the step
held_there : (s : State) (r : Resource) (row : LockState) → Any (λ x. r ≡ x) s.resources
    → Any (λ y. row ≡ y) (r.granted ++ r.converting ++ r.waiting) → HeldSo s row
held_there s r row there among =
    inr (Any-weaker (λ x. r ≡ x) (λ x. Any (λ y. (y.lkid ≡ row.lkid) × (y.held ≡ row.held)) (x.granted ++ x.converting ++ x.waiting))
    (λ x same.
    subst (λ (t : Resource). Any (λ y. (y.lkid ≡ row.lkid) × (y.held ≡ row.held)) (t.granted ++ t.converting ++ t.waiting)) same
    (Any-weaker (λ y. row ≡ y) (λ y. (y.lkid ≡ row.lkid) × (y.held ≡ row.held))
    (λ y is. (ap (λ (z : LockState). z.lkid) (sym is), ap (λ (z : LockState). z.held) (sym is)))
    (r.granted ++ r.converting ++ r.waiting) among)) s.resources there)

-- so it is with each queued row before the step
queued_held : (s : State) → AllByRecursion (Queued (HeldSo s)) s.resources
queued_held s =
    each_weaker (λ r. Any (λ x. r ≡ x) s.resources) (Queued (HeldSo s))
    (λ r there. record {
      converting =
          each_weaker (λ row. Any (λ y. row ≡ y) r.converting) (HeldSo s)
          (λ row among. held_there s r row there
          (any_left (λ y. row ≡ y) (r.granted ++ r.converting) r.waiting
          (Any-behind (λ y. row ≡ y) r.granted r.converting among)))
          r.converting (each_member r.converting);
      waiting =
          each_weaker (λ row. Any (λ y. row ≡ y) r.waiting) (HeldSo s)
          (λ row among. held_there s r row there (Any-behind (λ y. row ≡ y) (r.granted ++ r.converting) r.waiting among)) r.waiting (each_member r.waiting);
    }) s.resources (each_member s.resources)

-- and with a granted one
granted_held : (s : State) (pid lkid : ℕ) (r : Resource) (row : LockState) → Any (λ x. r ≡ x) s.resources
    → find (is_lock_of pid lkid) r.granted ≡ Some row → HeldSo s row
granted_held s pid lkid r row there is =
    held_there s r row there
    (any_left (λ y. row ≡ y) (r.granted ++ r.converting) r.waiting
    (any_left (λ y. row ≡ y) r.granted r.converting (Any_found (λ y. row ≡ y) (is_lock_of pid lkid) r.granted row is refl)))

-- ---- where a granted lock stands after the sweep

-- the row is that of the granted lock
abbrev IsOf : Ending → LockState → Type 0
IsOf ending row = (row.lkid ≡ ending.lkid) × (row.pid ≡ ending.pid) × (row.held ≡ Some ending.request)

-- the lock is granted on the resource, whose value block is this one
abbrev IsHeldOn : Ending → ValueBlock → Resource → Type 0
IsHeldOn ending block r = HoldsGranted ending r × (block ≡ r.value_block)

-- the locks of rows that are granted
given_hold : (rows given : List LockState) (endings : List Ending) → AllZip IsGranted rows given → AllZip IsGrantOf rows endings
    → AllByRecursion (λ ending. Any (IsOf ending) given) endings
given_hold [] [] [] granted ends = tt
given_hold [] [] (ending ∷ endings) granted ends = absurd ends
given_hold [] (row ∷ given) endings granted ends = absurd granted
given_hold (row ∷ rows) [] endings granted ends = absurd granted
given_hold (row ∷ rows) (left ∷ given) [] granted ends = tt
given_hold (row ∷ rows) (left ∷ given) (ending ∷ endings) granted ends = (
  Any-here (IsOf ending) left given (granted.0.lkid ∙ sym ends.0.lkid, granted.0.pid ∙ sym ends.0.pid, granted.0.holds ∙ sym ends.0.request),
  each_weaker (λ other. Any (IsOf other) given) (λ other. Any (IsOf other) (left ∷ given)) (λ other any. Any-there (IsOf other) left given any) endings
      (given_hold rows given endings granted.1 ends.1),
)

service_holds : (r : Resource) → AllByRecursion (λ ending. HoldsGranted ending (service r).resource) (service r).endings
service_holds r =
    let first = service_in_order r in
    each_weaker (λ ending. Any (IsOf ending) first.given) (λ ending. HoldsGranted ending (service r).resource)
    (λ ending any. subst (Any (IsOf ending)) (sym first.granted) (Any-behind (IsOf ending) first.kept first.given any)) (service r).endings
    (given_hold _ first.given (service r).endings first.rows first.ends)

-- a lock that is warned holds what it held
held_warned : (ending : Ending) (r : Resource) → HoldsGranted ending r → HoldsGranted ending (resource_after_warning r)
unfolding resource_after_warning
held_warned ending r held =
    any_map (IsOf ending) (IsOf ending) (row_after_warning r.converting r.waiting)
    (holds_warned (IsOf ending) (λ row armed is. is) r.converting r.waiting) r.granted held

-- what a filter keeps
any_filter : {X : Type 0} (P : X → Type 0) (test : X → Bool) → ((x : X) → P x → test x ≡ true) → (xs : List X) → Any P xs → Any P (filter test xs)
any_filter P test keeps [] some = some
any_filter P test keeps (x ∷ xs) some =
    elim (Any-cases P x xs some) [
      | inl here ↦ rw (keeps x here) (Any-here P x (filter test xs) here)
      | inr there ↦ cond_both (test x) (x ∷ filter test xs) (filter test xs) (Any P)
          (λ _. Any-there P x (filter test xs) (any_filter P test keeps xs there)) (λ _. any_filter P test keeps xs there)
    ]

-- a resource with a granted lock is not vacant
occupied : (ending : Ending) (block : ValueBlock) (r : Resource) → IsHeldOn ending block r → not (is_vacant r) ≡ true
occupied ending block r held = rw (some r.granted held.0) refl
  where
    some : (rows : List LockState) → Any (IsOf ending) rows → is_empty rows ≡ false
    some [] any = absurd (Any-none (IsOf ending) any)
    some (row ∷ rows) any = refl

-- so it is there after the sweep
held_swept : (ending : Ending) (block : ValueBlock) (processes : List Process) (resources : List Resource) → AllByRecursion (Queued IsHarmless) resources
    → Any (IsHeldOn ending block) (map served resources) → Any (IsHeldOn ending block) (resources_after_sweep processes resources)
held_swept ending block processes resources harmless any =
    subst (Any (IsHeldOn ending block)) (sym (swept_alone processes resources harmless))
    (any_filter (IsHeldOn ending block) (λ r. not (is_vacant r)) (occupied ending block) (map served resources) any)

-- one that is granted before the sweep is so after it
held_stays : (ending : Ending) (block : ValueBlock) (processes : List Process) (resources : List Resource) → AllByRecursion (Queued IsHarmless) resources
    → Any (IsHeldOn ending block) resources → Any (IsHeldOn ending block) (resources_after_sweep processes resources)
held_stays ending block processes resources harmless any =
    held_swept ending block processes resources harmless
    (any_map (IsHeldOn ending block) (IsHeldOn ending block) served
    (λ r held. (
      held_warned ending (service r).resource
          (granted_stays (IsOf ending) (λ x y same is. (same.lkid ∙ is.0, same.pid ∙ is.1, same.held ∙ is.2)) r
          (service r).resource (service r).endings (service_in_order r) held.0),
      held.1 ∙ sym (served_leaves r),
    )) resources any)

-- ---- a step that is made

record IsReturning (s : State) (made : Stepped) : Type 0 where
  acts : AllByRecursion (Acts s) made.endings
  base : List Process
  blocks : AreReturned (IsItsValue made.state) made.endings base made.state.processes

-- the sweep returns what stands there
sweep_serves : (change : Stepped) → AllByRecursion (Queued IsHarmless) change.state.resources
    → AllByRecursion (Serves (IsItsValue (stepped_after_sweep change).state)) change.state.resources
sweep_serves change harmless =
    at_each change.state.resources harmless (each_member change.state.resources)
  where
    at_each : (resources : List Resource) → AllByRecursion (Queued IsHarmless) resources
        → AllByRecursion (λ r. Any (λ x. r ≡ x) change.state.resources) resources
        → AllByRecursion (Serves (IsItsValue (stepped_after_sweep change).state)) resources
    at_each [] nothing there = tt
    at_each (r ∷ rest) nothing there = (
      record {
        nothing = service_harmless r nothing.0;
        its =
            each_weaker (λ ending. HoldsGranted ending (service r).resource) (Its (IsItsValue (stepped_after_sweep change).state) r.value_block)
            (λ ending held _.
            held_swept ending r.value_block change.state.processes change.state.resources harmless
            (any_map (λ x. r ≡ x) (IsHeldOn ending r.value_block) served
            (λ x same. subst (λ (t : Resource). IsHeldOn ending r.value_block (served t)) same
            (held_warned ending (service r).resource held, sym (served_leaves r)))
            change.state.resources there.0)) (service r).endings (service_holds r);
      },
      at_each rest nothing.1 there.1,
    )

swept_returning : (s : State) (change : Stepped) (base : List Process)
    → AllByRecursion (Queued IsHarmless) change.state.resources → AllByRecursion (Queued (HeldSo s)) change.state.resources
    → AllByRecursion (Acts s) change.endings → AreReturned (IsItsValue (stepped_after_sweep change).state) change.endings base change.state.processes
    → IsReturning s (stepped_after_sweep change)
unfolding sweep_endings
swept_returning s change base harmless held acts blocks = record {
  acts = each_append (Acts s) change.endings (sweep_endings change.state.resources) acts (all_act change.state.resources held);
  base = base;
  blocks =
      returned_swept (IsItsValue (stepped_after_sweep change).state) change.endings base change.state.processes change.state.resources blocks
      (sweep_serves change harmless);
}
  where
    all_act : (resources : List Resource) → AllByRecursion (Queued (HeldSo s)) resources
        → AllByRecursion (Acts s) (flat_map (λ r. (service r).endings) resources)
    all_act [] each = tt
    all_act (r ∷ rest) each =
        each_append (Acts s) (service r).endings (flat_map (λ x. (service x).endings) rest)
        (service_each (HeldSo s) (Acts s) (row_acts s false) r each.0) (all_act rest each.1)

-- ---- the steps

-- a step that ends nothing itself and moves no lock
idle_returning : (s : State) (change : Stepped) → change.endings ≡ []
    → AllByRecursion (Queued IsHarmless) change.state.resources
    → AllByRecursion (Queued (HeldSo s)) change.state.resources → IsReturning s (stepped_after_sweep change)
idle_returning s change none harmless held =
    swept_returning s change change.state.processes harmless held (subst (AllByRecursion (Acts s)) (sym none) tt)
    (subst (λ (endings : List Ending). AreReturned
    (IsItsValue (stepped_after_sweep change).state) endings change.state.processes change.state.processes)
    (sym none)
    (none_returned (IsItsValue (stepped_after_sweep change).state) change.state.processes))

-- the end of a request that is granted at once, if it is
at_once_returned : (P : Ending → ValueBlock → Type 0) (b : Bool) (ending : Ending) (block : ValueBlock) (processes : List Process)
    → (b ≡ true → ending.how ≡ by_grant Return → P ending block)
    → AreReturned P (cond b (ending ∷ []) []) processes (blocks_after (cond b (ending ∷ []) []) (blocks_with block processes)).processes
at_once_returned P true ending block processes its = one_returned P ending (blocks_with block processes) (its refl)
at_once_returned P false ending block processes its = none_returned P processes

at_once_acts : (s : State) (b : Bool) (row : LockState) → HeldSo s row → AllByRecursion (Acts s) (cond b (grant_endings true row) [])
at_once_acts s true row before = row_acts s true row before
at_once_acts s false row before = tt

-- the grant of a new request
abbrev request_grant : State → NewRequest → Ending
request_grant s e = record {
  lkid = s.next_lkid;
  pid = e.pid;
  request = enq_request s e;
  how =
      by_grant (grant_act None (Some (enq_request s e)));
  at_once = true;
}

-- its lock is granted where it enters
request_held : (s : State) (e : NewRequest) → enq_at_once s e ≡ true
    → Any (IsHeldOn (request_grant s e) (enq_resource s e).value_block) (enq_change s e).resources
unfolding enq_change enq_resource resource_after_entry
request_held s e now =
    any_entered (IsHeldOn (request_grant s e) (enq_resource s e).value_block) s.next_serial (enq_site s e) (enq_row s e) (enq_at_once s e) s.resources
    (subst (λ (b : Bool). IsHeldOn (request_grant s e) (enq_resource s e).value_block
    (cond b (resource_after_grant (enq_resource s e) (enq_row s e)) (record (enq_resource s e) { waiting = (enq_resource s e).waiting ++ enq_row s e ∷ [] })))
    (sym now) (
      Any-behind (IsOf (request_grant s e)) (enq_resource s e).granted (granted_row (enq_row s e) ∷ [])
          (Any-here (IsOf (request_grant s e)) (granted_row (enq_row s e)) [] (refl, refl, refl)),
      refl,
    ))

request_returning : (s : State) (e : NewRequest) (choice : Option LockState) → enq_refusal s e ≡ None
    → AllByRecursion (Queued IsHarmless) s.resources → IsReturning s (stepped_after_sweep (step_change s (Enq e) choice))
unfolding enq_change
request_returning s e choice passed harmless =
    let change : Stepped = step_change s (Enq e) choice in
    let accepted : List Process = processes_after_acceptance e.pid e.block s.next_lkid s.processes in
    let safe : AllByRecursion (Queued IsHarmless) (enq_change s e).resources = request_queued IsHarmless s e (λ _. new_is_harmless s e) harmless in
    swept_returning s change accepted safe
    (request_queued (HeldSo s) s e (λ _. inl (refl, refl)) (queued_held s))
    (at_once_acts s (enq_at_once s e) (enq_row s e) (inl (refl, refl)))
    (at_once_returned (IsItsValue (stepped_after_sweep change).state) (enq_at_once s e) (request_grant s e) (enq_resource s e).value_block accepted
    (λ now _. held_stays (request_grant s e) (enq_resource s e).value_block (enq_change s e).processes (enq_change s e).resources safe (request_held s e now)))

-- the grant of a conversion
abbrev conversion_grant : ConversionAdmission → Ending
conversion_grant a = record { lkid = a.row.lkid; pid = a.row.pid; request = a.request; how = by_grant (grant_act a.row.held (Some a.request)); at_once = true }

-- its lock is granted where it stood
conversion_held : (s : State) (c : Conversion) (a : ConversionAdmission) → convert_admission s c ≡ Some a → a.at_once ≡ true
    → (grant_act a.row.held (Some a.request) ≡ Write → ⊥) → Any (IsHeldOn (conversion_grant a) a.resource.value_block) (convert_change s c a).resources
unfolding convert_change convert_admission resource_after_conversion
conversion_held s c a admitted now harmless =
    let lkid : ℕ = convert_lkid s c in
    let block : ValueBlock = (convert_blocks s c a).value_block in
    let there = admitted_there (convert_request s c) c.pid lkid a s.resources admitted in
    any_map (λ r. a.resource ≡ r) (IsHeldOn (conversion_grant a) a.resource.value_block) (resource_after_conversion a.request a.at_once c.pid lkid block)
    (λ r same.
    subst (λ (x : Resource). IsHeldOn (conversion_grant a) a.resource.value_block (resource_after_conversion a.request a.at_once c.pid lkid block x)) same
    (subst (λ (found : Option LockState). IsHeldOn (conversion_grant a) a.resource.value_block
    (resource_after_conversion_of a.request a.at_once lkid block a.resource found)) (sym there.0)
    (subst (λ (b : Bool). IsHeldOn (conversion_grant a) a.resource.value_block
    (cond b (with_value_block block (resource_after_grant (resource_without_granted lkid a.resource) (wanting_row a.row a.request)))
    (record (resource_without_granted lkid a.resource) { converting = a.resource.converting ++ wanting_row a.row a.request ∷ [] }))) (sym now) (
      Any-behind (IsOf (conversion_grant a)) (resource_without_granted lkid a.resource).granted (granted_row (wanting_row a.row a.request) ∷ [])
          (Any-here (IsOf (conversion_grant a)) (granted_row (wanting_row a.row a.request)) [] (refl, refl, refl)),
      sym (kept_value s c a harmless),
    ))))
    s.resources there.1

-- a grant that returns does not write
return_is_harmless : (act : Act) → by_grant act ≡ by_grant Return → act ≡ Write → ⊥
return_is_harmless act is writes = cc

conversion_returning : (s : State) (c : Conversion) (a : ConversionAdmission) → AllByRecursion HoldersAgree s.resources → Apart s → convert_refusal s c ≡ None
    → convert_admission s c ≡ Some a → AllByRecursion (Queued IsHarmless) s.resources
    → IsReturning s (stepped_after_sweep (conversion_change s c (Some a)))
unfolding convert_change convert_blocks convert_admission
conversion_returning s c a agree apart passed admitted harmless =
    let lkid : ℕ = convert_lkid s c in
    let change : Stepped = conversion_change s c (Some a) in
    let accepted : List Process = processes_after_acceptance c.pid c.block lkid s.processes in
    let there = admitted_there (convert_request s c) c.pid lkid a s.resources admitted in
    let safe : AllByRecursion (Queued IsHarmless) (convert_change s c a).resources =
    conversion_queued IsHarmless s c a (conversion_is_harmless s c a agree apart passed admitted) harmless in
    let before : HeldSo s a.row =
    granted_held s c.pid lkid a.resource a.row there.1 there.0 in
    swept_returning s change accepted safe
    (conversion_queued (HeldSo s) s c a
    (λ _. each_weaker (λ r. Any (λ x. r ≡ x) s.resources) (EachConverting (HeldSo s) c lkid a)
    (λ r member row is. granted_held s c.pid lkid r row member is) s.resources (each_member s.resources)) (queued_held s))
    (at_once_acts s a.at_once (wanting_row a.row a.request) before)
    (at_once_returned (IsItsValue (stepped_after_sweep change).state) a.at_once (conversion_grant a) a.resource.value_block accepted
    (λ now returns.
    held_stays (conversion_grant a) a.resource.value_block (convert_change s c a).processes (convert_change s c a).resources safe
    (conversion_held s c a admitted now (return_is_harmless (grant_act a.row.held (Some a.request)) returns))))

-- a dequeue grants nothing itself
abbrev IsNoGrant : Ending → Type 0
IsNoGrant ending = IsGrant ending.how → ⊥

rows_grant_nothing : (how : How) → (IsGrant how → ⊥) → (rows : List LockState) → AllByRecursion IsNoGrant (flat_map (row_endings how false) rows)
rows_grant_nothing how none [] = tt
rows_grant_nothing how none (row ∷ rows) =
    each_append IsNoGrant (row_endings how false row) (flat_map (row_endings how false) rows) (of_want row.want) (rows_grant_nothing how none rows)
  where
    of_want : (want : Option Request) → AllByRecursion IsNoGrant (wanted_endings how false row.lkid row.pid want)
    of_want None = tt
    of_want (Some request) = (none, tt)

withdrawn_grant_nothing : (w : Withdrawal) → (IsGrant w.converting → ⊥) → (IsGrant w.waiting → ⊥) → (resources : List Resource)
    → AllByRecursion IsNoGrant (flat_map (withdrawal_endings w) resources)
withdrawn_grant_nothing w converting waiting [] = tt
withdrawn_grant_nothing w converting waiting (r ∷ rest) =
    each_append IsNoGrant (withdrawal_endings w r) (flat_map (withdrawal_endings w) rest)
    (each_append IsNoGrant (queue_endings w.converting w.lkid r.converting) (queue_endings w.waiting w.lkid r.waiting)
    (rows_grant_nothing w.converting converting (rows_of w.lkid r.converting)) (rows_grant_nothing w.waiting waiting (rows_of w.lkid r.waiting)))
    (withdrawn_grant_nothing w converting waiting rest)

all_grant_nothing : (withdrawals : List Withdrawal) → AllByRecursion GrantsNothing withdrawals → (resources : List Resource)
    → AllByRecursion IsNoGrant (withdrawn_endings withdrawals resources)
all_grant_nothing withdrawals nothing resources =
    each_end IsNoGrant withdrawals resources
    (each_weaker GrantsNothing (λ w. AllByRecursion IsNoGrant (flat_map (withdrawal_endings w) resources))
    (λ w none. withdrawn_grant_nothing w none.0 none.1 resources) withdrawals nothing)

-- an end that grants with some act is a grant
by_act : (ending : Ending) (act : Act) → IsNoGrant ending → ending.how ≡ by_grant act → ⊥
by_act ending act none is = none (subst IsGrant (sym is) tt)

withdrawn_returning : (s : State) (answer : Answer) (withdrawals : List Withdrawal) → AllByRecursion GrantsNothing withdrawals
    → AllByRecursion (Queued IsHarmless) s.resources → IsReturning s (stepped_after_sweep (withdrawal_of_all answer withdrawals s))
withdrawn_returning s answer withdrawals nothing harmless =
    let change : Stepped = withdrawal_of_all answer withdrawals s in
    let P : Ending → ValueBlock → Type 0 = IsItsValue (stepped_after_sweep change).state in
    let endings : List Ending = withdrawn_endings withdrawals s.resources in
    let none : AllByRecursion IsNoGrant endings = all_grant_nothing withdrawals nothing s.resources in
    swept_returning s change s.processes (withdrawn_queued IsHarmless s withdrawals harmless) (withdrawn_queued (HeldSo s) s withdrawals (queued_held s))
    (each_weaker IsNoGrant (Acts s) (λ ending no grant. absurd (no grant)) endings none)
    (all_returned P endings (blocks_with new_value_block s.processes)
    (each_weaker IsNoGrant WritesNothing (λ ending no. by_act ending Write no) endings none)
    (each_weaker IsNoGrant (Its P new_value_block) (λ ending no returns. absurd (by_act ending Return no returns)) endings none))

-- the ends of processes return nothing
rundown_returning : (s : State) (is_one : ℕ → Bool) (nodes : List Node) → AllByRecursion (Queued IsHarmless) s.resources
    → IsReturning s (stepped_after_sweep (end_of_processes is_one nodes s))
unfolding state_after_rundown
rundown_returning s is_one nodes harmless =
    let change : Stepped = end_of_processes is_one nodes s in
    let left : List Process = processes_but is_one s.processes in
    let P : Ending → ValueBlock → Type 0 = IsItsValue (stepped_after_sweep change).state in
    let endings : List Ending = rundown_endings is_one s in
    let none : AllByRecursion IsNoGrant endings = all_grant_nothing (rundowns is_one s) (rundowns_grant_nothing is_one s) s.resources in
    swept_returning s change left (rundown_queued IsHarmless s is_one nodes harmless) (rundown_queued (HeldSo s) s is_one nodes (queued_held s))
    (each_weaker IsNoGrant (Acts s) (λ ending no grant. absurd (no grant)) endings none)
    (subst (λ (b : Blocks). AreReturned P endings left b.processes) (rundowns_write_nothing is_one s (blocks_with new_value_block left))
    (all_returned P endings (blocks_with new_value_block left)
    (each_weaker IsNoGrant WritesNothing (λ ending no. by_act ending Write no) endings none)
    (each_weaker IsNoGrant (Its P new_value_block) (λ ending no returns. absurd (by_act ending Return no returns)) endings none)))

returning : (history : History) (s : State) → Run history s → (step : Step) (choice : Option LockState) → step_refusal s step ≡ None
    → IsReturning s (stepped_after_sweep (step_change s step choice))
unfolding declare_change set_change take_change deq_change search_change
returning history s run (Declare d) choice passed =
    idle_returning s (step_change s (Declare d) choice) refl (harmless_always history s run) (queued_held s)
returning history s run (SetValue v) choice passed =
    idle_returning s (step_change s (SetValue v) choice) refl (harmless_always history s run) (queued_held s)
returning history s run (Enq e) choice passed = request_returning s e choice passed (harmless_always history s run)
returning history s run (Convert c) choice passed =
    let admitted = admission_of s c passed in
    subst (λ (there : Option ConversionAdmission). IsReturning s (stepped_after_sweep (conversion_change s c there))) (sym admitted.1)
    (conversion_returning s c admitted.0 (holders_agree_always history s run) (apart_always history s run) passed admitted.1
    (harmless_always history s run))
returning history s run (Deq d) choice passed =
    withdrawn_returning s (Plain Normal) (withdrawals_of s d) (dequeues_grant_nothing s d) (harmless_always history s run)
returning history s run (Rundown pid) choice passed = rundown_returning s (is_ended_by pid) s.nodes (harmless_always history s run)
returning history s run (Leave node) choice passed =
    rundown_returning s (is_of_node node) (nodes_after_departure s.nodes node) (harmless_always history s run)
returning history s run (Search node) choice passed =
    withdrawn_returning s (Victim (victim_lkid choice)) (victim_withdrawals choice) (victims_grant_nothing choice) (harmless_always history s run)
returning history s run (Take pid) choice passed =
    idle_returning s (step_change s (Take pid) choice) refl (harmless_always history s run) (queued_held s)

-- what is said of a status block
tells_value : (s : State) (last : Option Ending) (before after : List ℕ) → ValueBy (IsItsValue s) last before after → TellsValue s last after
tells_value s None before after by = tt
tells_value s (Some ending) before after by = by

tells_tail : (s : State) (last : Option Ending) (before after : List ℕ) → TailBy (IsItsValue s) last before after → TellsTail s last after
tells_tail s None before after by = tt
tells_tail s (Some ending) before after by = by

tells_mark : (s : State) (last : Option Ending) (before after : ℕ) → StatusBy (IsItsValue s) last before after → TellsMark s last after
tells_mark s None before after by = tt
tells_mark s (Some ending) before after by = by

-- a step that is made returns what stands there
told : (s : State) (made : Stepped) → IsReturning s made → (pid k : ℕ) (p : Process) → process_of made.state.processes pid ≡ Some p → k < length p.blocks
    → TellsValue made.state (last_return pid (k + 1) made.endings) (get_or p.blocks k new_status_block).value
    × TellsTail made.state (last_wide_return pid (k + 1) made.endings) (get_or p.blocks k new_status_block).tail
    × TellsMark made.state (last_end pid (k + 1) made.endings) (get_or p.blocks k new_status_block).status
told s made returning pid k p is within =
    let blocks : status_blocks_of made.state.processes pid ≡ p.blocks = blocks_are made.state.processes pid p is in
    let there : k < length (status_blocks_of returning.base pid) =
    subst (λ (n : ℕ). k < n) (returning.blocks.many pid) (subst (λ (all : List Block). k < length all) (sym blocks) within) in
    let by = returning.blocks.each pid k there in
    subst (λ (all : List Block). TellsValue made.state (last_return pid (k + 1) made.endings) (get_or all k new_status_block).value
    × TellsTail made.state (last_wide_return pid (k + 1) made.endings) (get_or all k new_status_block).tail
    × TellsMark made.state (last_end pid (k + 1) made.endings) (get_or all k new_status_block).status) blocks (
      tells_value made.state (last_return pid (k + 1) made.endings) _ _ by.value,
      tells_tail made.state (last_wide_return pid (k + 1) made.endings) _ _ by.tail,
      tells_mark made.state (last_end pid (k + 1) made.endings) _ _ by.status,
    )

-- after every run
pub returned_always : (history : History) (old : State) → Run history old → (step : Step) (choice : Option LockState)
    → IsChoice old step choice → GrantsReturnValues old step choice
returned_always history old run step choice chosen =
    let all = of_refusal (step_refusal old step) refl in
    record {
      acts = All-from_recursion (Acts old) (stepped old step choice).endings all.acts;
      values = λ pid k p is within. (told old (stepped old step choice) all pid k p is within).0;
      tails = λ pid k p is within. (told old (stepped old step choice) all pid k p is within).1;
      marks = λ pid k p is within. (told old (stepped old step choice) all pid k p is within).2;
    }
  where
    of_refusal : (refusal : Option Cond) → step_refusal old step ≡ refusal → IsReturning old (refused_or refusal old (step_change old step choice))
    of_refusal None passed = returning history old run step choice passed
    of_refusal (Some refusal) is =
        record { acts = tt; base = old.processes; blocks = none_returned (IsItsValue old) old.processes }
