-- Only requests that may write change a value block.
use Rattle.std.proofs.Common.{◌≡◌, ◌⊎◌, ◌-◌, ◌+◌, ℕ, Bool, true, false, not, List, [], ◌∷◌, ◌++◌, map, length, get_or}
use Rattle.std.proofs.Common.{cond, Option, None, Some, refl, sym, subst, ap, inl, inr, ◌∙◌, arith}
use Rattle.std.specs.Prelude.{◌==◌, ◌≢◌, ◌&&◌, Any, ◌/◌, ⊤}
use Rattle.std.specs.List.{AllByRecursion, find, list_any}
use Rattle.std.proofs.lemmas.Bool.{and_from, and_parts, cases_lt, cond_both, eq-eqb, eqb-true, or_cases}
use Rattle.std.proofs.lemmas.List.{get_or_past}
use Rattle.std.proofs.lemmas.List.Elements.{All-from_recursion}
use Rattle.std.proofs.lemmas.List.Folds.{Any-from_list_any, list_any-append, list_any-from_Any}
use Rattle.vlm_words.specs.declared.blocks.Block.{Block}
use Rattle.vlm_words.specs.declared.conditions.Cond.{Cond}
use Rattle.vlm_words.specs.declared.locks.Request.{Request}
use Rattle.vlm_words.specs.declared.locks.LockState.{LockState}
use Rattle.vlm_words.specs.declared.modes.Act.TheVariants.{Write}
use Rattle.vlm_words.specs.declared.modes.Act.{Act}
use Rattle.vlm_words.specs.declared.modes.Mode.TheVariants.{Nl, Cr, Cw, Pr, Pw, Ex}
use Rattle.vlm_words.specs.declared.modes.Mode.{Mode}
use Rattle.vlm_words.specs.declared.resources.ValueBlock.{ValueBlock}
use Rattle.vlm_words.specs.declared.steps.Conversion.{Conversion}
use Rattle.vlm_words.specs.declared.steps.Dequeue.{Dequeue}
use Rattle.vlm_words.specs.declared.steps.NewRequest.{NewRequest}
use Rattle.vlm_words.specs.declared.steps.Step.TheVariants.{Declare, SetValue, Enq, Convert, Deq, Rundown, Leave, Search, Take}
use Rattle.vlm_words.specs.declared.steps.Step.{Step}
use Rattle.vlm_words.specs.Flags.{cancel, has_flag, invvalblk, valblk, wide, deqall}
use Rattle.vlm_words.specs.Modes.{is_writing, value_action}
use Rattle.vlm_words.specs.State.{Process, Resource, State, process_of, Node}
use Rattle.vlm_words.specs.Processes.{new_status_block}
use Rattle.vlm_model.specs.StatusBlocks.{processes_after_acceptance, status_block_of, status_blocks_of}
use Rattle.vlm_model.specs.Endings.How.{by_grant}
use Rattle.vlm_words.specs.ValueBlocks.{invalid_value_block, value_block_written_from}
use Rattle.vlm_model.specs.Effects.{blocks_after, blocks_after_grant, blocks_after_writing, blocks_with, is_wide}
use Rattle.vlm_model.specs.Grants.{grant_act, grant_endings, resource_after_grant}
use Rattle.vlm_words.specs.Rows.{is_lock_of, wanting_row}
use Rattle.vlm_words.specs.Resources.{is_at, new_resource}
use Rattle.vlm_model.specs.Sweeps.{is_vacant, resources_after_sweep}
use Rattle.vlm_model.specs.Declare.{declare_change}
use Rattle.vlm_model.specs.SetValue.{set_change}
use Rattle.vlm_model.specs.Take.{take_change}
use Rattle.vlm_model.specs.Trees.{enq_site}
use Rattle.vlm_model.specs.Enqueue.{enq_at_once, enq_change, enq_row, resource_after_entry}
use Rattle.vlm_model.specs.Convert.{ConversionAdmission, conversion_endings, convert_admission, convert_blocks}
use Rattle.vlm_model.specs.Convert.{convert_change, convert_lkid, convert_refusal, convert_request}
use Rattle.vlm_model.specs.Convert.{resource_after_conversion, resource_after_conversion_of}
use Rattle.vlm_model.specs.Withdrawals.{Withdrawal, has_writer, is_held_by_writer, is_writer, resource_after_cancel}
use Rattle.vlm_model.specs.Withdrawals.{resource_after_going, resource_after_withdrawals, resource_after_writer}
use Rattle.vlm_model.specs.Withdrawals.{resource_without, value_block_after_gift, value_block_after_writer}
use Rattle.vlm_model.specs.Withdrawals.{resource_after_each}
use Rattle.vlm_model.specs.Dequeue.{deq_change, dequeue_lkid, withdrawal_of, withdrawals_of, deq_refusal, dequeued_lkids}
use Rattle.vlm_model.specs.Runs.{History, Run}
use Rattle.vlm_model.specs.Stepped.{IsChoice, Stepped, conversion_change, refused_or, step_change, step_refusal, stepped, stepped_after_sweep}
use Rattle.vlm_model.specs.Laws.{Stands, action_from}
use Rattle.vlm_model.specs.Writers.{HasItsValue, HasNewValue, IsWrittenValue, IsWriter, LeavesValue}
use Rattle.vlm_model.specs.Writers.{OnlyWritersChangeValues, WritesFrom, WritesValue, HasWriterOf, IsHeldByWriter}
use Rattle.vlm_model.specs.Writers.{IsWrittenFrom}
use Rattle.vlm_model.proofs.Admissions.{admitted_request, found_lkid}
use Rattle.vlm_model.proofs.Always.{admission_of}
use Rattle.vlm_model.proofs.IdsApart.{Apart, apart_always}
use Rattle.vlm_model.proofs.GrantsAtOnce.{only_there}
use Rattle.vlm_model.proofs.Each.{Any-behind, Any-cases, Any-none, Any-weaker, any_left, each_filter, each_map}
use Rattle.vlm_model.proofs.Each.{each_weaker, found_at, each_member, Any-here, each_so, each_there}
use Rattle.vlm_model.proofs.EachResource.{each_entered_at}
use Rattle.vlm_model.proofs.HeldModes.{HoldersAgree, holders_agree_always}
use Rattle.vlm_model.proofs.Keys.{Placed, WasGiven, conversion_keeps_place, entry_keeps_place, placed_always, withdrawals_keep_place}
use Rattle.vlm_model.proofs.Refusals.{Any_found}
use Rattle.vlm_model.proofs.Standing.{admitted_there}
use Rattle.vlm_model.proofs.SweptValues.{IsHarmless, WritesNothing, conversion_is_harmless, ends_leave, grant_harmless}
use Rattle.vlm_model.proofs.SweptValues.{harmless_always, new_is_harmless, served, served_leaves, served_same}
use Rattle.vlm_model.proofs.SweptValues.{swept_alone, table_writes, writes_by_table}
use Rattle.vlm_model.proofs.Waiting.{Queued, conversion_queued, request_queued, rundown_queued, withdrawn_queued}
use Rattle.vlm_model.proofs.WritingConversions.{only_row_among, write_at_once}
use Rattle.vlm_model.proofs.WrittenBlocks.{blocks_are, conversion_names}
use Rattle.vlm_model.proofs.EndWrites.{block_at, block_numbered, block_written, many_written}
use Rattle.vlm_model.specs.OwnLocks.{own_lkids}
use Rattle.vlm_model.specs.Rundown.{is_ended_by, nodes_after_departure, rundown_of, rundowns, state_after_rundown}
use Rattle.vlm_words.specs.Steps.{is_of_node}
use Rattle.vlm_model.proofs.ReleasedValues.{IsPlain, LeftTogether, left_together, lkids_of_writers, writer_found, writer_of}
use Rattle.vlm_model.proofs.PassedChecks.{flags_go_together, given_none, no_value_goes}
use Rattle.vlm_model.specs.Search.{victim_withdrawals, search_change, deadlock_of}

-- ---- what is so of a resource

-- its value block is as the step leaves it
abbrev Has : State → Step → Resource → Type 0
Has s step r = Any (λ before. HasItsValue s step before r) s.resources ⊎ HasNewValue s r

-- that is known by its serial and its value block
has_same : (s : State) (step : Step) (r t : Resource) → t.serial ≡ r.serial → t.value_block ≡ r.value_block → Has s step r → Has s step t
has_same s step r t serial value (inl any) =
    inl (Any-weaker (λ before. HasItsValue s step before r) (λ before. HasItsValue s step before t)
    (λ before has. record {
      serial = serial ∙ has.serial;
      written = λ writes. subst (IsWrittenValue s step before.value_block) (sym value) (has.written writes);
      kept = λ none. value ∙ has.kept none;
    }) s.resources any)
has_same s step r t serial value (inr new) =
    inr (record {
      made = λ k d within is. new.made k d within (is ∙ serial);
      zeros = ap (λ (block : ValueBlock). block.value) value ∙ new.zeros;
      valid = ap (λ (block : ValueBlock). block.valid) value ∙ new.valid;
      tail_zeros = ap (λ (block : ValueBlock). block.tail) value ∙ new.tail_zeros;
      tail_valid = ap (λ (block : ValueBlock). block.tail_valid) value ∙ new.tail_valid;
    })

-- a sweep leaves it so
swept_has : (s : State) (step : Step) (processes : List Process) (resources : List Resource) → AllByRecursion (Queued IsHarmless) resources
    → AllByRecursion (Has s step) resources → AllByRecursion (Has s step) (resources_after_sweep processes resources)
swept_has s step processes resources harmless each =
    subst (AllByRecursion (Has s step)) (sym (swept_alone processes resources harmless))
    (each_filter (Has s step) (λ r. not (is_vacant r)) (map served resources)
    (each_map (Has s step) (Has s step) served
    (λ r has. has_same s step r (served r) (served_same r).serial (served_leaves r) has) resources each))

-- a change of each resource that is there
changed_has : (s : State) (step : Step) (change : Resource → Resource) → ((r : Resource) → Any (λ x. r ≡ x) s.resources → HasItsValue s step r (change r))
    → AllByRecursion (Has s step) (map change s.resources)
changed_has s step change has =
    each_map (λ r. Any (λ x. r ≡ x) s.resources) (Has s step) change
    (λ r there.
    inl (Any-weaker (λ x. r ≡ x) (λ before. HasItsValue s step before (change r))
    (λ x same. subst (λ (before : Resource). HasItsValue s step before (change r)) same (has r there)) s.resources there))
    s.resources (each_member s.resources)

-- a step that writes nothing and leaves the resources
idle_has : (s : State) (step : Step) → ((r : Resource) → WritesValue s step r → ⊥) → AllByRecursion (Has s step) s.resources
idle_has s step none =
    each_weaker (λ r. Any (λ x. r ≡ x) s.resources) (Has s step)
    (λ r there.
    inl (Any-weaker (λ x. r ≡ x) (λ before. HasItsValue s step before r)
    (λ x same.
    subst (λ (before : Resource). HasItsValue s step before r) same
    (record { serial = refl; written = λ writes. absurd (none r writes); kept = λ _. refl })) s.resources there))
    s.resources (each_member s.resources)

-- ---- a new request

-- an entry leaves the value block
pub entry_leaves : (row : LockState) (at_once : Bool) (r : Resource) → (resource_after_entry row at_once r).value_block ≡ r.value_block
unfolding resource_after_entry
entry_leaves row at_once r =
    cond_both at_once (resource_after_grant r row) (record r { waiting = r.waiting ++ row ∷ [] })
    (λ after. after.value_block ≡ r.value_block) (λ _. refl) (λ _. refl)

-- no resource has the serial that is to come
all_older : (next : ℕ) (resources : List Resource) → AllByRecursion (WasGiven next) resources → AllByRecursion (λ before. before.serial ≢ next) resources
all_older next [] given = tt
all_older next (r ∷ rest) given = ((λ same. absurd (omega (arith, same, given.0.1))), all_older next rest given.1)

request_has : (s : State) (e : NewRequest) → Placed s → AllByRecursion (Has s (Enq e)) (enq_change s e).resources
unfolding enq_change
request_has s e placed =
    let row : LockState = enq_row s e in
    let now : Bool = enq_at_once s e in
    let here = idle_has s (Enq e) (λ r writes. writes) in
    each_entered_at (Has s (Enq e)) s.next_serial (enq_site s e) row now
    (inr (record {
      made =
          All-from_recursion (λ before. before.serial ≢ (resource_after_entry row now (new_resource s.next_serial (enq_site s e))).serial) s.resources
          (subst (λ (n : ℕ). AllByRecursion (λ before. before.serial ≢ n) s.resources)
          (sym (entry_keeps_place row now (new_resource s.next_serial (enq_site s e))).serial)
          (all_older s.next_serial s.resources placed.given));
      zeros = ap (λ (block : ValueBlock). block.value) (entry_leaves row now (new_resource s.next_serial (enq_site s e)));
      valid = ap (λ (block : ValueBlock). block.valid) (entry_leaves row now (new_resource s.next_serial (enq_site s e)));
      tail_zeros = ap (λ (block : ValueBlock). block.tail) (entry_leaves row now (new_resource s.next_serial (enq_site s e)));
      tail_valid = ap (λ (block : ValueBlock). block.tail_valid) (entry_leaves row now (new_resource s.next_serial (enq_site s e)));
    }))
    s.resources
    (each_weaker (Has s (Enq e)) (λ r. is_at (enq_site s e).key r ≡ true → Has s (Enq e) (resource_after_entry row now r))
    (λ r has _. has_same s (Enq e) r (resource_after_entry row now r) (entry_keeps_place row now r).serial (entry_leaves row now r) has) s.resources here)
    here

-- ---- a dequeue

-- what is held may write, by the table of modes and by the law
writer_is : (held : Option Request) → is_writer held ≡ true → IsWriter held
writer_is None is = cc
writer_is (Some held) is = of_mode held.mode is
  where
    of_mode : (mode : Mode) → is_writing mode ≡ true → (mode ≡ Pw) ⊎ (mode ≡ Ex)
    of_mode Pw is = inl refl
    of_mode Ex is = inr refl
    of_mode mode is = cc

is_writer_so : (held : Option Request) → IsWriter held → is_writer held ≡ true
is_writer_so None is = absurd is
is_writer_so (Some held) (inl pw) = rw pw refl
is_writer_so (Some held) (inr ex) = rw ex refl

-- a lock that may write is among the rows
abbrev WriterAmong : ℕ → List LockState → Type 0
WriterAmong lkid rows = Any (λ row. (row.lkid ≡ lkid) × IsWriter row.held) rows

held_by_writer : (lkid : ℕ) (r : Resource) → WriterAmong lkid (r.granted ++ r.converting) → is_held_by_writer lkid r ≡ true
held_by_writer lkid r there =
    sym (list_any-append (λ row. (row.lkid == lkid) && is_writer row.held) r.granted r.converting)
    ∙ list_any-from_Any (λ row. (row.lkid == lkid) && is_writer row.held) (r.granted ++ r.converting)
    (Any-weaker (λ row. (row.lkid ≡ lkid) × IsWriter row.held) (λ row. ((row.lkid == lkid) && is_writer row.held) ≡ true)
    (λ row so. and_from (row.lkid == lkid) (is_writer row.held) (eq-eqb row.lkid lkid so.0) (is_writer_so row.held so.1)) (r.granted ++ r.converting) there)

writer_holds : (lkid : ℕ) (r : Resource) → is_held_by_writer lkid r ≡ true → WriterAmong lkid (r.granted ++ r.converting)
writer_holds lkid r held =
    elim (or_cases (has_writer lkid r.granted) (has_writer lkid r.converting) held) [
      | inl granted ↦ any_left (λ row. (row.lkid ≡ lkid) × IsWriter row.held) r.granted r.converting (among r.granted granted)
      | inr converting ↦ Any-behind (λ row. (row.lkid ≡ lkid) × IsWriter row.held) r.granted r.converting (among r.converting converting)
    ]
  where
    among : (rows : List LockState) → has_writer lkid rows ≡ true → WriterAmong lkid rows
    among rows some =
        Any-weaker (λ row. ((row.lkid == lkid) && is_writer row.held) ≡ true) (λ row. (row.lkid ≡ lkid) × IsWriter row.held)
        (λ row passes.
        let parts = and_parts (row.lkid == lkid) (is_writer row.held) passes in (eqb-true row.lkid lkid parts.0, writer_is row.held parts.1)) rows
        (Any-from_list_any (λ row. (row.lkid == lkid) && is_writer row.held) rows some)

-- a lock that goes or stays leaves the value block
pub going_leaves : (w : Withdrawal) (r : Resource) → (resource_after_going w r).value_block ≡ r.value_block
unfolding resource_without resource_after_cancel
going_leaves w r =
    cond_both w.stays (resource_after_cancel w.lkid r) (resource_without w.lkid r) (λ after. after.value_block ≡ r.value_block) (λ _. refl) (λ _. refl)

-- the value block after a withdrawal
withdrawn_value : (w : Withdrawal) (r : Resource)
    → (resource_after_withdrawals (w ∷ []) r).value_block ≡ cond (is_held_by_writer w.lkid r)
    (value_block_after_writer w r.value_block) r.value_block
withdrawn_value w r =
    going_leaves w (resource_after_writer w r)
    ∙ cond_both (is_held_by_writer w.lkid r) (record r { value_block = value_block_after_writer w r.value_block }) r
    (λ left. (cond (is_held_by_writer w.lkid r)
    (record r { value_block = value_block_after_writer w r.value_block }) r).value_block ≡
    (cond (is_held_by_writer w.lkid r) (value_block_after_writer w r.value_block) r.value_block)) (λ is. rw is refl)
    (λ is. rw is refl)

-- what a dequeue leaves, and that a cancel leaves nothing
abbrev left_value : Option (List ℕ) → Option (List ℕ) → Bool → Bool → ValueBlock → ValueBlock
left_value value tail invalidates cancels block =
    let given : ValueBlock = value_block_after_gift (cond cancels None value) (cond cancels None tail) block in
    cond (invalidates && not cancels) (invalid_value_block given) given

left_by_dequeue : (value tail : Option (List ℕ)) (invalidates cancels : Bool) (block : ValueBlock) → cancels ≡ false
    → LeavesValue value tail invalidates block (left_value value tail invalidates cancels block)
left_by_dequeue value tail invalidates true block is = cc
left_by_dequeue (Some value) (Some tail) true false block is = record { value = refl; valid = refl; tail = refl; tail_valid = refl }
left_by_dequeue (Some value) (Some tail) false false block is = record { value = refl; valid = refl; tail = refl; tail_valid = refl }
left_by_dequeue (Some value) None true false block is = record { value = refl; valid = refl; tail = refl; tail_valid = refl }
left_by_dequeue (Some value) None false false block is = record { value = refl; valid = refl; tail = refl; tail_valid = refl }
left_by_dequeue None tail true false block is = record { value = refl; valid = refl; tail = refl; tail_valid = refl }
left_by_dequeue None tail false false block is = refl

left_by_cancel : (value tail : Option (List ℕ)) (invalidates cancels : Bool) (block : ValueBlock) → cancels ≡ true
    → left_value value tail invalidates cancels block ≡ block
left_by_cancel value tail true true block is = refl
left_by_cancel value tail false true block is = refl
left_by_cancel value tail invalidates false block is = cc

-- without a value the tail that is given says nothing
left_whichever : (tail : Option (List ℕ)) (invalidates : Bool) (before after : ValueBlock) → LeavesValue None None invalidates before after
    → LeavesValue None tail invalidates before after
left_whichever tail true before after left = left
left_whichever tail false before after left = left

-- a dequeue of one lock
one_has_its : (s : State) (d : Dequeue) (lkid : ℕ) → dequeued_lkids s d ≡ lkid ∷ [] → (r : Resource)
    → HasItsValue s (Deq d) r (resource_after_withdrawals (withdrawal_of d lkid ∷ []) r)
one_has_its s d lkid one r = record {
  serial = (withdrawals_keep_place (withdrawal_of d lkid ∷ []) r).serial;
  written = λ writes.
      subst (LeavesValue d.value d.tail (has_flag d.flags invvalblk) r.value_block)
      (sym (withdrawn_value (withdrawal_of d lkid) r
      ∙ ap (λ (held : Bool). cond held (value_block_after_writer (withdrawal_of d lkid) r.value_block) r.value_block)
      (held_by_writer lkid r (only (subst (Any (IsHeldByWriter r)) one writes.1)))))
      (left_by_dequeue d.value d.tail (has_flag d.flags invvalblk) (has_flag d.flags cancel) r.value_block writes.0);
  kept = λ none. withdrawn_value (withdrawal_of d lkid) r ∙ of_tests none (is_held_by_writer lkid r) refl (has_flag d.flags cancel) refl;
}
  where
    only : Any (IsHeldByWriter r) (lkid ∷ []) → IsHeldByWriter r lkid
    only some = elim (Any-cases (IsHeldByWriter r) lkid [] some) [
      | inl here ↦ here
      | inr later ↦ absurd (Any-none (IsHeldByWriter r) later)
    ]

    of_tests : (WritesValue s (Deq d) r → ⊥) → (held : Bool) → is_held_by_writer lkid r ≡ held → (cancels : Bool) → has_flag d.flags cancel ≡ cancels
        → cond held (value_block_after_writer (withdrawal_of d lkid) r.value_block) r.value_block ≡ r.value_block
    of_tests none false holds cancels is = refl
    of_tests none true holds true is = left_by_cancel d.value d.tail (has_flag d.flags invvalblk) (has_flag d.flags cancel) r.value_block is
    of_tests none true holds false is =
        absurd (none (is, subst (Any (IsHeldByWriter r)) (sym one) (Any-here (IsHeldByWriter r) lkid [] (writer_holds lkid r holds))))

-- a lock of a list is held by a writer, by the test and by the law
some_holds : (r : Resource) (lkids : List ℕ) → list_any (λ lkid. is_held_by_writer lkid r) lkids ≡ true → Any (IsHeldByWriter r) lkids
some_holds r lkids some =
    Any-weaker (λ lkid. is_held_by_writer lkid r ≡ true) (IsHeldByWriter r) (λ lkid held. writer_holds lkid r held) lkids
    (Any-from_list_any (λ lkid. is_held_by_writer lkid r) lkids some)

holds_some : (r : Resource) (lkids : List ℕ) → Any (IsHeldByWriter r) lkids → list_any (λ lkid. is_held_by_writer lkid r) lkids ≡ true
holds_some r lkids some =
    list_any-from_Any (λ lkid. is_held_by_writer lkid r) lkids
    (Any-weaker (IsHeldByWriter r) (λ lkid. is_held_by_writer lkid r ≡ true) (λ lkid held. held_by_writer lkid r held) lkids some)

-- locks that go or stay leave the value block
all_going_leave : (withdrawals : List Withdrawal) (r : Resource) → (resource_after_each resource_after_going withdrawals r).value_block ≡ r.value_block
all_going_leave [] r = refl
all_going_leave (w ∷ withdrawals) r = all_going_leave withdrawals (resource_after_going w r) ∙ going_leaves w r

-- locks that are given up together, of which the step says whether one is held by a writer
together_has_its : (s : State) (step : Step) (invalidates : Bool) (withdrawals : List Withdrawal) → AllByRecursion (IsPlain invalidates) withdrawals
    → (r : Resource) → (WritesValue s step r → list_any (λ w. is_held_by_writer w.lkid r) withdrawals ≡ true)
    → (list_any (λ w. is_held_by_writer w.lkid r) withdrawals ≡ true → WritesValue s step r)
    → ((after : ValueBlock) → LeavesValue None None invalidates r.value_block after → IsWrittenValue s step r.value_block after)
    → HasItsValue s step r (resource_after_withdrawals withdrawals r)
together_has_its s step invalidates withdrawals plain r by_law by_test written = record {
  serial = (withdrawals_keep_place withdrawals r).serial;
  written = λ writes. subst (IsWrittenValue s step r.value_block) (sym leaves) (written left (all.written (by_law writes)));
  kept = λ none. leaves ∙ of_test none (list_any (λ w. is_held_by_writer w.lkid r) withdrawals) refl;
}
  where
    left : ValueBlock
    left = (resource_after_each resource_after_writer withdrawals r).value_block

    all : LeftTogether invalidates withdrawals r
    all = left_together invalidates withdrawals plain r

    leaves : (resource_after_withdrawals withdrawals r).value_block ≡ left
    leaves = all_going_leave withdrawals (resource_after_each resource_after_writer withdrawals r)

    of_test : (WritesValue s step r → ⊥) → (b : Bool) → list_any (λ w. is_held_by_writer w.lkid r) withdrawals ≡ b → left ≡ r.value_block
    of_test none true is = absurd (none (by_test is))
    of_test none false is = all.kept is

-- a dequeue of several locks gives no value
several_have_its : (s : State) (d : Dequeue) → has_flag d.flags cancel ≡ false → d.value ≡ None → (r : Resource)
    → HasItsValue s (Deq d) r (resource_after_withdrawals (withdrawals_of s d) r)
several_have_its s d plain none r =
    together_has_its s (Deq d) (has_flag d.flags invvalblk) (withdrawals_of s d)
    (each_map (λ lkid. ⊤) (IsPlain (has_flag d.flags invvalblk)) (withdrawal_of d)
    (λ lkid _. (rw (plain, none) refl, rw plain (marks (has_flag d.flags invvalblk))))
    (dequeued_lkids s d) (each_so (λ lkid. ⊤) (λ lkid. tt) (dequeued_lkids s d)))
    r
    (λ writes. lkids_of_writers (withdrawal_of d) (λ lkid. refl) (dequeued_lkids s d) r ∙ holds_some r (dequeued_lkids s d) writes.1)
    (λ some. (plain, some_holds r (dequeued_lkids s d) (sym (lkids_of_writers (withdrawal_of d) (λ lkid. refl) (dequeued_lkids s d) r) ∙ some)))
    (λ after left. subst (λ (value : Option (List ℕ)). LeavesValue value d.tail (has_flag d.flags invvalblk) r.value_block after) (sym none)
    (left_whichever d.tail (has_flag d.flags invvalblk) r.value_block after left))
  where
    marks : (b : Bool) → (b && true) ≡ b
    marks true = refl
    marks false = refl

dequeue_has_its : (s : State) (d : Dequeue) → deq_refusal s d ≡ None → (r : Resource)
    → HasItsValue s (Deq d) r (resource_after_withdrawals (withdrawals_of s d) r)
dequeue_has_its s d passed r = of_flag (has_flag d.flags deqall) refl
  where
    of_flag : (all : Bool) → has_flag d.flags deqall ≡ all → HasItsValue s (Deq d) r (resource_after_withdrawals (withdrawals_of s d) r)
    of_flag true is =
        several_have_its s d (flags_go_together s d passed is) (given_none d.value (no_value_goes s d passed is)) r
    of_flag false is =
        let one : dequeued_lkids s d ≡ dequeue_lkid s d ∷ [] = rw is refl in
        subst (λ (lkids : List ℕ). HasItsValue s (Deq d) r (resource_after_withdrawals (map (withdrawal_of d) lkids) r)) (sym one)
        (one_has_its s d (dequeue_lkid s d) one r)

-- ends of processes
ending_has_its : (s : State) (step : Step) (is_one : ℕ → Bool) → Apart s
    → ((r : Resource) → WritesValue s step r → HasWriterOf (λ owner. is_one owner ≡ true) r)
    → ((r : Resource) → HasWriterOf (λ owner. is_one owner ≡ true) r → WritesValue s step r)
    → ((before after : ValueBlock) → LeavesValue None None true before after → IsWrittenValue s step before after)
    → (r : Resource) → Any (λ x. r ≡ x) s.resources → HasItsValue s step r (resource_after_withdrawals (rundowns is_one s) r)
ending_has_its s step is_one apart by_law by_test written r among =
    together_has_its s step true (rundowns is_one s)
    (each_map (λ lkid. ⊤) (IsPlain true) rundown_of (λ lkid _. (refl, refl)) (own_lkids is_one s) (each_so (λ lkid. ⊤) (λ lkid. tt) (own_lkids is_one s)))
    r
    (λ writes. lkids_of_writers rundown_of (λ lkid. refl) (own_lkids is_one s) r
    ∙ writer_found is_one s apart r among (λ lkid. held_by_writer lkid r) (λ lkid. writer_holds lkid r) (by_law r writes))
    (λ some. by_test r (writer_of is_one s apart r among (λ lkid. held_by_writer lkid r) (λ lkid. writer_holds lkid r)
    (sym (lkids_of_writers rundown_of (λ lkid. refl) (own_lkids is_one s) r) ∙ some)))
    (written r.value_block)

ending_has : (s : State) (step : Step) (is_one : ℕ → Bool) (nodes : List Node) → Apart s
    → ((r : Resource) → WritesValue s step r → HasWriterOf (λ owner. is_one owner ≡ true) r)
    → ((r : Resource) → HasWriterOf (λ owner. is_one owner ≡ true) r → WritesValue s step r)
    → ((before after : ValueBlock) → LeavesValue None None true before after → IsWrittenValue s step before after)
    → AllByRecursion (Has s step) (state_after_rundown is_one nodes s).resources
unfolding state_after_rundown
ending_has s step is_one nodes apart by_law by_test written =
    changed_has s step (resource_after_withdrawals (rundowns is_one s)) (ending_has_its s step is_one apart by_law by_test written)

-- whose locks they are, by the test and by the law
of_pid : (pid : ℕ) (r : Resource) → HasWriterOf (λ owner. owner ≡ pid) r → HasWriterOf (λ owner. is_ended_by pid owner ≡ true) r
of_pid pid r = Any-weaker (λ row. (row.pid ≡ pid) × IsWriter row.held) (λ row. (is_ended_by pid row.pid ≡ true) × IsWriter row.held)
    (λ row so. (eq-eqb row.pid pid so.0, so.1)) (r.granted ++ r.converting)

is_pid : (pid : ℕ) (r : Resource) → HasWriterOf (λ owner. is_ended_by pid owner ≡ true) r → HasWriterOf (λ owner. owner ≡ pid) r
is_pid pid r = Any-weaker (λ row. (is_ended_by pid row.pid ≡ true) × IsWriter row.held) (λ row. (row.pid ≡ pid) × IsWriter row.held)
    (λ row so. (eqb-true row.pid pid so.0, so.1)) (r.granted ++ r.converting)

of_node : (node : ℕ) (r : Resource) → HasWriterOf (λ owner. owner / 65536 ≡ node) r → HasWriterOf (λ owner. is_of_node node owner ≡ true) r
of_node node r = Any-weaker (λ row. (row.pid / 65536 ≡ node) × IsWriter row.held) (λ row. (is_of_node node row.pid ≡ true) × IsWriter row.held)
    (λ row so. (eq-eqb (row.pid / 65536) node so.0, so.1)) (r.granted ++ r.converting)

is_node_of : (node : ℕ) (r : Resource) → HasWriterOf (λ owner. is_of_node node owner ≡ true) r → HasWriterOf (λ owner. owner / 65536 ≡ node) r
is_node_of node r = Any-weaker (λ row. (is_of_node node row.pid ≡ true) × IsWriter row.held) (λ row. (row.pid / 65536 ≡ node) × IsWriter row.held)
    (λ row so. (eqb-true (row.pid / 65536) node so.0, so.1)) (r.granted ++ r.converting)

dequeue_has : (s : State) (d : Dequeue) → deq_refusal s d ≡ None → AllByRecursion (Has s (Deq d)) (deq_change s d).resources
unfolding deq_change
dequeue_has s d passed = changed_has s (Deq d) (resource_after_withdrawals (withdrawals_of s d)) (λ r _. dequeue_has_its s d passed r)

-- ---- a search

-- the victim leaves the value block
victim_leaves : (choice : Option LockState) (r : Resource) → (resource_after_withdrawals (victim_withdrawals choice) r).value_block ≡ r.value_block
victim_leaves None r = refl
victim_leaves (Some victim) r =
    withdrawn_value (deadlock_of victim.lkid) r
    ∙ cond_both (is_held_by_writer victim.lkid r) (value_block_after_writer (deadlock_of victim.lkid) r.value_block) r.value_block
    (λ block. block ≡ r.value_block) (λ _. refl) (λ _. refl)

search_has : (s : State) (node : ℕ) (choice : Option LockState) → AllByRecursion (Has s (Search node)) (search_change s choice).resources
unfolding search_change
search_has s node choice =
    changed_has s (Search node) (resource_after_withdrawals (victim_withdrawals choice))
    (λ r _. record {
      serial = (withdrawals_keep_place (victim_withdrawals choice) r).serial;
      written = λ writes. absurd writes;
      kept = λ _. victim_leaves choice r;
    })

-- ---- a conversion

-- the table of value blocks lets a conversion write from PW to another mode than EX, and from EX
table : (held want : Mode) → value_action held want ≡ Write → ((held ≡ Pw) × (want ≢ Ex)) ⊎ (held ≡ Ex)
unfolding value_action
table Nl Nl is = cc
table Cr Nl is = cc
table Cw Nl is = cc
table Pr Nl is = cc
table Pw Ex is = cc
table Pw want is = inl (refl, λ ex. cc)
table Ex want is = inr refl
table held want is = cc

table_so : (held want : Mode) → ((held ≡ Pw) × (want ≢ Ex)) ⊎ (held ≡ Ex) → value_action held want ≡ Write
unfolding value_action
table_so Pw Ex (inl pw) = absurd (pw.1 refl)
table_so Pw want (inl pw) = refl
table_so Ex Nl (inr ex) = refl
table_so Ex want (inr ex) = refl
table_so held want (inl pw) = cc
table_so held want (inr ex) = cc

from_table : (held : Option Request) (mode : Mode) → action_from held mode ≡ Write → WritesFrom held mode
from_table None mode is = cc
from_table (Some held) mode is = table held.mode mode is

to_table : (held : Option Request) (mode : Mode) → WritesFrom held mode → action_from held mode ≡ Write
to_table None mode from = absurd from
to_table (Some held) mode from = table_so held.mode mode from

-- an accepted request leaves the value part of each status block, and its tail
accepted_leaves : (part : Block → List ℕ) (owner number lkid pid k : ℕ) (processes : List Process)
    → ((block : Block) → part (record block { status = 0; lkid = lkid }) ≡ part block)
    → part (block_at (processes_after_acceptance owner number lkid processes) pid k) ≡ part (block_at processes pid k)
unfolding processes_after_acceptance
accepted_leaves part owner number lkid pid k processes blind =
    elim (cases_lt k (length (status_blocks_of processes pid))) [
      | inl within ↦
          ap part (block_written owner number (λ block. record block { status = 0; lkid = lkid }) processes pid k within)
          ∙ cond_both ((owner == pid) && (number == k + 1)) (record (block_at processes pid k) { status = 0; lkid = lkid }) (block_at processes pid k)
          (λ block. part block ≡ part (block_at processes pid k)) (λ _. blind (block_at processes pid k)) (λ _. refl)
      | inr past ↦
          (let many : length (status_blocks_of (processes_after_acceptance owner number lkid processes) pid) ≡ length (status_blocks_of processes pid) =
          many_written owner number pid _ processes in
          ap part
          (get_or_past (status_blocks_of (processes_after_acceptance owner number lkid processes) pid) k new_status_block (omega (arith, many, past))
          ∙ sym (get_or_past (status_blocks_of processes pid) k new_status_block past)))
    ]

-- the value block that a conversion leaves, where it is granted at once and writes
written_value : (s : State) (c : Conversion) (a : ConversionAdmission) → a.at_once ≡ true → grant_act a.row.held (Some a.request) ≡ Write
    → (convert_blocks s c a).value_block
    ≡ value_block_written_from (is_wide a.request)
    (status_block_of (processes_after_acceptance c.pid c.block (convert_lkid s c) s.processes) a.row.pid a.request.block) a.resource.value_block
unfolding convert_blocks blocks_after_writing
written_value s c a now writes =
    ap (λ (b : Bool).
    (blocks_after (cond b (grant_endings true (wanting_row a.row a.request)) [])
    (blocks_with a.resource.value_block (processes_after_acceptance c.pid c.block (convert_lkid s c) s.processes))).value_block) now
    ∙ ap (λ (act : Act).
    (blocks_after_grant act
    (record {
      lkid = a.row.lkid;
      pid = a.row.pid;
      request = a.request;
      how =
          by_grant (grant_act a.row.held (Some a.request));
      at_once = true;
    })
    (blocks_with a.resource.value_block (processes_after_acceptance c.pid c.block (convert_lkid s c) s.processes))).value_block) writes

-- and where it does not write
pub kept_value : (s : State) (c : Conversion) (a : ConversionAdmission) → (grant_act a.row.held (Some a.request) ≡ Write → ⊥)
    → (convert_blocks s c a).value_block ≡ a.resource.value_block
unfolding convert_blocks
kept_value s c a harmless =
    ends_leave (conversion_endings a) (blocks_with a.resource.value_block (processes_after_acceptance c.pid c.block (convert_lkid s c) s.processes))
    (cond_both a.at_once (grant_endings true (wanting_row a.row a.request)) [] (AllByRecursion WritesNothing)
    (λ _. grant_harmless true (wanting_row a.row a.request) harmless) (λ _. tt))

-- what is written from a status block, said of one with the same bytes
written_from : (wide : Bool) (from block : Block) (before after : ValueBlock) → after ≡ value_block_written_from wide from before → from.value ≡ block.value
    → from.tail ≡ block.tail → IsWrittenFrom wide block before after
written_from true from block before after is value tail = record {
  value = ap (λ (b : ValueBlock). b.value) is ∙ value;
  valid = ap (λ (b : ValueBlock). b.valid) is;
  tail = ap (λ (b : ValueBlock). b.tail) is ∙ tail;
  tail_valid = ap (λ (b : ValueBlock). b.tail_valid) is;
}
written_from false from block before after is value tail = record {
  value = ap (λ (b : ValueBlock). b.value) is ∙ value;
  valid = ap (λ (b : ValueBlock). b.valid) is;
  tail = ap (λ (b : ValueBlock). b.tail) is;
  tail_valid = ap (λ (b : ValueBlock). b.tail_valid) is;
}

-- the value block of the resource on which the lock is granted
module _ (s : State) (c : Conversion) (a : ConversionAdmission) (agree : AllByRecursion HoldersAgree s.resources) (apart : Apart s)
    (passed : convert_refusal s c ≡ None) (admitted : convert_admission s c ≡ Some a) where
  asks : a.request ≡ convert_request s c
  unfolding convert_admission
  asks = admitted_request (convert_request s c) c.pid (convert_lkid s c) a s.resources admitted

  found : find (is_lock_of c.pid (convert_lkid s c)) a.resource.granted ≡ Some a.row
  unfolding convert_admission
  found = (admitted_there (convert_request s c) c.pid (convert_lkid s c) a s.resources admitted).0

  its_pid : a.row.pid ≡ c.pid
  its_pid =
      eqb-true a.row.pid c.pid
      (and_parts (a.row.lkid == convert_lkid s c) (a.row.pid == c.pid) (found_at (is_lock_of c.pid (convert_lkid s c)) a.resource.granted a.row found).passes).1

  -- where the lock is granted is that resource
  only_one : (r : Resource) → Any (λ x. r ≡ x) s.resources → Stands (convert_lkid s c) r.granted → r ≡ a.resource
  unfolding convert_admission
  only_one r there stands =
      each_there (λ x. Stands (convert_lkid s c) x.granted → x ≡ a.resource) s.resources r
      (only_there (convert_request s c) c.pid (convert_lkid s c) a s.resources (apart.one_row (convert_lkid s c)) admitted) there stands

  -- what is so of a granted row of the lock is so of the row that converts
  only_row : (P : LockState → Type 0) (r : Resource) → Any (λ x. r ≡ x) s.resources → Any (λ row. (row.lkid ≡ convert_lkid s c) × P row) r.granted → P a.row
  unfolding convert_admission
  only_row P r there some =
      only_row_among P (convert_request s c) c.pid (convert_lkid s c) a s.resources (apart.one_row (convert_lkid s c)) admitted
      (Any-weaker (λ x. r ≡ x) (λ x. Any (λ row. (row.lkid ≡ convert_lkid s c) × P row) x.granted)
      (λ x same. subst (λ (t : Resource). Any (λ row. (row.lkid ≡ convert_lkid s c) × P row) t.granted) same some) s.resources there)

  -- the conversion writes where the law says so
  act_is : (has_flag c.flags valblk ≡ true) × WritesFrom a.row.held c.mode → grant_act a.row.held (Some a.request) ≡ Write
  act_is writes =
      subst (λ (request : Request). grant_act a.row.held (Some request) ≡ Write) (sym asks)
      (table_writes a.row.held (convert_request s c) writes.0 (to_table a.row.held c.mode writes.1))

  is_act : grant_act a.row.held (Some a.request) ≡ Write → (has_flag c.flags valblk ≡ true) × WritesFrom a.row.held c.mode
  is_act act =
      let parts = writes_by_table a.row.held (convert_request s c) (subst (λ (request : Request). grant_act a.row.held (Some request) ≡ Write) asks act) in
      (parts.0, from_table a.row.held c.mode parts.1)

  -- a part of the status block that it writes from
  part_written : (part : Block → List ℕ) → ((block : Block) → part (record block { status = 0; lkid = convert_lkid s c }) ≡ part block)
      → (p : Process) → process_of s.processes c.pid ≡ Some p
      → part (status_block_of (processes_after_acceptance c.pid c.block (convert_lkid s c) s.processes) a.row.pid a.request.block)
      ≡ part (get_or p.blocks (c.block - 1) new_status_block)
  part_written part blind p lives =
      ap (λ (pid : ℕ). part (status_block_of (processes_after_acceptance c.pid c.block (convert_lkid s c) s.processes) pid a.request.block)) its_pid
      ∙ ap (λ (request : Request). part (status_block_of (processes_after_acceptance c.pid c.block (convert_lkid s c) s.processes) c.pid request.block)) asks
      ∙ ap part (block_numbered (processes_after_acceptance c.pid c.block (convert_lkid s c) s.processes) c.pid c.block (conversion_names s c passed))
      ∙ accepted_leaves part c.pid c.block (convert_lkid s c) c.pid (c.block - 1) s.processes blind
      ∙ ap (λ (blocks : List Block). part (get_or blocks (c.block - 1) new_status_block)) (blocks_are s.processes c.pid p lives)

  -- what it writes
  written_so : (p : Process) → process_of s.processes c.pid ≡ Some p → a.at_once ≡ true → grant_act a.row.held (Some a.request) ≡ Write
      → IsWrittenFrom (has_flag c.flags wide) (get_or p.blocks (c.block - 1) new_status_block) a.resource.value_block (convert_blocks s c a).value_block
  written_so p lives now act =
      subst (λ (request : Request). IsWrittenFrom (is_wide request)
      (get_or p.blocks (c.block - 1) new_status_block) a.resource.value_block (convert_blocks s c a).value_block)
      asks
      (written_from (is_wide a.request)
      (status_block_of (processes_after_acceptance c.pid c.block
      (convert_lkid s c) s.processes) a.row.pid a.request.block)
      (get_or p.blocks (c.block - 1) new_status_block) a.resource.value_block (convert_blocks s c a).value_block
      (written_value s c a now act) (part_written (λ block. block.value) (λ _. refl) p lives) (part_written (λ block. block.tail) (λ _. refl) p lives))

  -- a resource after the conversion
  abbrev after_conversion : Resource → Option LockState → Resource
  after_conversion r there = resource_after_conversion_of a.request a.at_once (convert_lkid s c) (convert_blocks s c a).value_block r there

  at_once_value : (r : Resource) (row : LockState) → a.at_once ≡ true → (after_conversion r (Some row)).value_block ≡ (convert_blocks s c a).value_block
  at_once_value r row now = rw now refl

  waiting_value : (r : Resource) (row : LockState) → a.at_once ≡ false → (after_conversion r (Some row)).value_block ≡ r.value_block
  waiting_value r row waits = rw waits refl

  written_there : (r : Resource) → Any (λ x. r ≡ x) s.resources → WritesValue s (Convert c) r → (there : Option LockState)
      → find (is_lock_of c.pid (convert_lkid s c)) r.granted ≡ there → IsWrittenValue s (Convert c) r.value_block (after_conversion r there).value_block
  written_there r member writes there is p lives =
      let from : WritesFrom a.row.held c.mode = only_row (λ row. WritesFrom row.held c.mode) r member writes.1 in
      let now : a.at_once ≡ true = write_at_once s c a agree passed admitted (to_table a.row.held c.mode from) in
      let same : r ≡ a.resource =
      only_one r member
      (Any-weaker (λ row. (row.lkid ≡ convert_lkid s c)
      × WritesFrom row.held c.mode) (λ row. row.lkid ≡ convert_lkid s c) (λ row so. so.0) r.granted writes.1) in
      let row : there ≡ Some a.row = sym is ∙ ap (λ (x : Resource). find (is_lock_of c.pid (convert_lkid s c)) x.granted) same ∙ found in
      subst (IsWrittenFrom (has_flag c.flags wide) (get_or p.blocks (c.block - 1) new_status_block) r.value_block)
      (sym (ap (λ (found : Option LockState). (after_conversion r found).value_block) row ∙ at_once_value r a.row now))
      (subst (λ (x : Resource). IsWrittenFrom (has_flag c.flags wide)
      (get_or p.blocks (c.block - 1) new_status_block) x.value_block (convert_blocks s c a).value_block)
      (sym same) (written_so p lives now (act_is (writes.0, from))))

  kept_there : (r : Resource) → Any (λ x. r ≡ x) s.resources → (WritesValue s (Convert c) r → ⊥) → (there : Option LockState)
      → find (is_lock_of c.pid (convert_lkid s c)) r.granted ≡ there → (now : Bool) → a.at_once ≡ now → (after_conversion r there).value_block ≡ r.value_block
  kept_there r member none None is now at = refl
  kept_there r member none (Some row) is false at = waiting_value r row at
  kept_there r member none (Some row) is true at =
      let lkid : ℕ = convert_lkid s c in
      let named : row.lkid ≡ lkid = found_lkid c.pid lkid row (found_at (is_lock_of c.pid lkid) r.granted row is).passes in
      let same : r ≡ a.resource = only_one r member (Any_found (λ x. x.lkid ≡ lkid) (is_lock_of c.pid lkid) r.granted row is named) in
      let its : row ≡ a.row =
      row_same row a.row (sym is ∙ ap (λ (x : Resource). find (is_lock_of c.pid lkid) x.granted) same ∙ found) in
      at_once_value r row at
      ∙ kept_value s c a
      (λ act.
      let writes = is_act act in
      none (
        writes.0,
        Any_found (λ x. (x.lkid ≡ lkid) × WritesFrom x.held c.mode) (is_lock_of c.pid lkid) r.granted row is
            (named, subst (λ (x : LockState). WritesFrom x.held c.mode) (sym its) writes.1),
      ))
      ∙ ap (λ (x : Resource). x.value_block) (sym same)
    where
      row_same : (x y : LockState) → Some x ≡ Some y → x ≡ y
      row_same x y is = cc

  conversion_has_its : (r : Resource) → Any (λ x. r ≡ x) s.resources
      → HasItsValue s (Convert c) r (resource_after_conversion a.request a.at_once c.pid (convert_lkid s c) (convert_blocks s c a).value_block r)
  unfolding resource_after_conversion
  conversion_has_its r member = record {
    serial = (conversion_keeps_place a.request a.at_once c.pid (convert_lkid s c) (convert_blocks s c a).value_block r).serial;
    written = λ writes. written_there r member writes (find (is_lock_of c.pid (convert_lkid s c)) r.granted) refl;
    kept = λ none. kept_there r member none (find (is_lock_of c.pid (convert_lkid s c)) r.granted) refl a.at_once refl;
  }

  conversion_has : AllByRecursion (Has s (Convert c)) (convert_change s c a).resources
  unfolding convert_change
  conversion_has =
      changed_has s (Convert c) (resource_after_conversion a.request a.at_once c.pid (convert_lkid s c) (convert_blocks s c a).value_block) conversion_has_its

-- ---- the steps

-- a change whose resources have it, once it is swept
swept_change : (s : State) (step : Step) (change : Stepped) → AllByRecursion (Queued IsHarmless) change.state.resources
    → AllByRecursion (Has s step) change.state.resources
    → AllByRecursion (Has s step) (stepped_after_sweep change).state.resources
swept_change s step change harmless each = swept_has s step change.state.processes change.state.resources harmless each

accepted_has : (history : History) (s : State) → Run history s → (step : Step) (choice : Option LockState) → step_refusal s step ≡ None
    → AllByRecursion (Has s step) (stepped_after_sweep (step_change s step choice)).state.resources
unfolding declare_change set_change take_change deq_change search_change
accepted_has history s run (Declare d) choice passed =
    swept_change s (Declare d) (step_change s (Declare d) choice) (harmless_always history s run) (idle_has s (Declare d) (λ r writes. writes))
accepted_has history s run (SetValue v) choice passed =
    swept_change s (SetValue v) (step_change s (SetValue v) choice) (harmless_always history s run) (idle_has s (SetValue v) (λ r writes. writes))
accepted_has history s run (Enq e) choice passed =
    swept_change s (Enq e) (step_change s (Enq e) choice) (request_queued IsHarmless s e (λ _. new_is_harmless s e) (harmless_always history s run))
    (request_has s e (placed_always history s run))
accepted_has history s run (Convert c) choice passed =
    let admitted = admission_of s c passed in
    let agree = holders_agree_always history s run in
    let apart = apart_always history s run in
    subst (λ (there : Option ConversionAdmission). AllByRecursion (Has s (Convert c))
    (stepped_after_sweep (conversion_change s c there)).state.resources) (sym admitted.1)
    (swept_change s (Convert c) (conversion_change s c (Some admitted.0))
    (conversion_queued IsHarmless s c admitted.0 (conversion_is_harmless s c admitted.0 agree apart passed admitted.1) (harmless_always history s run))
    (conversion_has s c admitted.0 agree apart passed admitted.1))
accepted_has history s run (Deq d) choice passed =
    swept_change s (Deq d) (step_change s (Deq d) choice)
    (withdrawn_queued IsHarmless s (withdrawals_of s d) (harmless_always history s run)) (dequeue_has s d passed)
accepted_has history s run (Rundown pid) choice passed =
    swept_change s (Rundown pid) (step_change s (Rundown pid) choice) (rundown_queued IsHarmless s (is_ended_by pid) s.nodes (harmless_always history s run))
    (ending_has s (Rundown pid) (is_ended_by pid) s.nodes (apart_always history s run) (of_pid pid) (is_pid pid) (λ before after left. left))
accepted_has history s run (Leave node) choice passed =
    swept_change s (Leave node) (step_change s (Leave node) choice)
    (rundown_queued IsHarmless s (is_of_node node) (nodes_after_departure s.nodes node) (harmless_always history s run))
    (ending_has s (Leave node) (is_of_node node) (nodes_after_departure s.nodes node) (apart_always history s run)
    (of_node node) (is_node_of node) (λ before after left. left))
accepted_has history s run (Search node) choice passed =
    swept_change s (Search node) (step_change s (Search node) choice)
    (withdrawn_queued IsHarmless s (victim_withdrawals choice) (harmless_always history s run)) (search_has s node choice)
accepted_has history s run (Take pid) choice passed =
    swept_change s (Take pid) (step_change s (Take pid) choice) (harmless_always history s run) (idle_has s (Take pid) (λ r writes. writes))

pub writers_always : (history : History) (old : State) → Run history old → (step : Step) (choice : Option LockState) → IsChoice old step choice
    → step_refusal old step ≡ None → OnlyWritersChangeValues old step choice
writers_always history old run step choice chosen passed =
    All-from_recursion (Has old step) (stepped old step choice).state.resources
    (subst (λ (refusal : Option Cond). AllByRecursion (Has old step) (refused_or refusal old (step_change old step choice)).state.resources) (sym passed)
    (accepted_has history old run step choice passed))
