-- A step writes the status blocks that it names, and those of the requests that end in it. It writes no other.
use Rattle.std.proofs.Common.{◌≡◌, ◌<◌, ◌+◌, ◌&&◌, ℕ, Bool, true, false, List, [], ◌∷◌, ◌++◌, length, get_or, cond}
use Rattle.std.proofs.Common.{Option, None, Some, refl, sym, subst, ap, ◌∙◌, map}
use Rattle.std.specs.Prelude.{◌==◌, is_some, nat_lt, nat_le, not, ⊤}
use Rattle.std.specs.List.{AllByRecursion, flat_map}
use Rattle.std.specs.Option.{option_map_or, option_or}
use Rattle.std.proofs.lemmas.Bool.{and_parts, cond_both, ltb-true}
use Rattle.std.proofs.lemmas.List.Folds.{find-append}
use Rattle.vlm_words.specs.declared.blocks.Block.{Block}
use Rattle.vlm_words.specs.declared.conditions.Cond.TheVariants.{Normal, Departed, Nonexpr, Accvio, Badparam}
use Rattle.vlm_words.specs.declared.conditions.Cond.{Cond}
use Rattle.vlm_words.specs.declared.locks.LockState.{LockState}
use Rattle.vlm_words.specs.declared.steps.Answer.TheVariants.{Plain, Victim}
use Rattle.vlm_words.specs.declared.steps.Answer.{Answer}
use Rattle.vlm_words.specs.declared.steps.Conversion.{Conversion}
use Rattle.vlm_words.specs.declared.steps.Declaration.{Declaration}
use Rattle.vlm_words.specs.declared.steps.Dequeue.{Dequeue}
use Rattle.vlm_words.specs.declared.steps.NewRequest.{NewRequest}
use Rattle.vlm_words.specs.declared.steps.Step.TheVariants.{Declare, SetValue, Enq, Convert, Deq, Rundown, Leave, Search, Take}
use Rattle.vlm_words.specs.declared.steps.Step.{Step}
use Rattle.vlm_words.specs.declared.steps.ValueSetting.{ValueSetting}
use Rattle.vlm_words.specs.State.{Process, Resource, State, process_of, Node}
use Rattle.vlm_words.specs.ValueBlocks.{new_value_block}
use Rattle.vlm_model.specs.StatusBlocks.{block_after_setting, processes_after_acceptance, processes_after_setting}
use Rattle.vlm_model.specs.StatusBlocks.{processes_after_write, status_block_of, status_blocks_of}
use Rattle.vlm_words.specs.Processes.{new_status_block, later}
use Rattle.vlm_model.specs.Endings.{Ending, How, is_told, row_endings, wanted_endings}
use Rattle.vlm_model.specs.Effects.{blocks_with}
use Rattle.vlm_model.specs.Sweeps.{processes_after_service, sweep_endings}
use Rattle.vlm_model.specs.Checks.{caller_refusal, has_departed, or_else, request_flags_refusal, status_block_refusal, which_refusal, lock_refusal}
use Rattle.vlm_model.specs.Declare.{declare_change, declared_process, is_node}
use Rattle.vlm_model.specs.SetValue.{set_change, set_refusal}
use Rattle.vlm_model.specs.Take.{take_change}
use Rattle.vlm_model.specs.Asts.{process_after_take, processes_after_take}
use Rattle.vlm_model.specs.Enqueue.{enq_change, enq_endings, enq_resource, enq_at_once, enq_row}
use Rattle.vlm_model.specs.Convert.{ConversionAdmission, admission_refusal, conversion_endings, convert_admission}
use Rattle.vlm_model.specs.Convert.{convert_blocks, convert_change, convert_lkid, convert_refusal}
use Rattle.vlm_words.specs.Rows.{wanting_row, rows_of}
use Rattle.vlm_words.specs.Steps.{node_of_pid, is_of_node}
use Rattle.vlm_model.specs.Dequeue.{deq_change, deq_endings, conversion_ending, dequeued_lkids, withdrawal_of, withdrawals_of}
use Rattle.vlm_model.specs.Runs.{History, Run}
use Rattle.vlm_model.specs.Stepped.{IsChoice, Stepped, conversion_change, refused, refused_or, step_change}
use Rattle.vlm_model.specs.Stepped.{step_refusal, stepped, stepped_after_sweep, end_of_processes}
use Rattle.vlm_model.specs.Stable.{IsStable}
use Rattle.vlm_model.specs.Written.{BlocksAfter, IsLeftByEnds, ProcessesAfter, WritesNamedBlocks, block_named, names_block, without_notices}
use Rattle.vlm_model.proofs.Always.{admission_of}
use Rattle.vlm_model.proofs.PassedChecks.{test_passes}
use Rattle.vlm_model.proofs.Processes.{kept_converted, kept_ended, kept_entered, kept_set, kept_swept, kept_taken}
use Rattle.vlm_model.proofs.Stable.{stable_law, unswept}
use Rattle.vlm_model.proofs.EndWrites.{block_at, block_written, many_written}
use Rattle.vlm_model.proofs.StatusBlockWrites.{AreLeftByEnds, all_left, all_left_by_none, all_left_swept, IsTold}
use Rattle.vlm_words.specs.declared.locks.Request.{Request}
use Rattle.vlm_model.specs.Endings.How.{by_grant}
use Rattle.vlm_model.specs.Grants.{grant_act, grant_endings}
use Rattle.vlm_words.specs.Flags.{cancel, has_flag}
use Rattle.vlm_model.specs.Withdrawals.{Withdrawal, queue_endings, withdrawal_endings}
use Rattle.vlm_model.specs.Rundown.{is_ended_by, leave_refusal, nodes_after_departure, processes_but, rundown_endings, rundown_refusal, state_after_rundown}
use Rattle.vlm_model.proofs.IdsApart.{Apart, apart_always}
use Rattle.vlm_model.proofs.Each.{each_append, each_map, each_so}
use Rattle.vlm_model.proofs.ProcessEnds.{found_still, is_left, left_by_rundown, swept_living}
use Rattle.vlm_model.proofs.WhoseLocks.{rundown_ends_are_theirs}
use Rattle.vlm_model.proofs.Withdrawing.{each_end}
use Rattle.vlm_model.specs.Search.{victim_withdrawals, search_change, search_endings, victim_lkid, deadlock_of}

-- ---- status blocks are numbered from 1

-- a status block that a process has is numbered from 1
from_1 : (s : State) (pid block : ℕ) → status_block_refusal s pid block ≡ None → 0 < block
unfolding status_block_refusal
from_1 s pid block passed =
    ltb-true 0 block
    (and_parts (nat_lt 0 block) (nat_le block (length (status_blocks_of s.processes pid)))
    (test_passes (nat_lt 0 block && nat_le block (length (status_blocks_of s.processes pid))) Accvio passed)).0

-- where none of some checks refuses, the third passes
third_of : (a b c d : Option Cond) → or_else a (or_else b (or_else c d)) ≡ None → c ≡ None
third_of None None None d passed = refl
third_of None None (Some refusal) d passed = cc
third_of None (Some refusal) c d passed = cc
third_of (Some refusal) b c d passed = cc

-- an accepted conversion names one
pub conversion_names : (s : State) (c : Conversion) → convert_refusal s c ≡ None → 0 < c.block
unfolding convert_refusal
conversion_names s c passed =
    from_1 s c.pid c.block
    (third_of (caller_refusal s c.pid) (request_flags_refusal c.flags) (status_block_refusal s c.pid c.block)
    (or_else (which_refusal s c.pid c.lock) (or_else (lock_refusal s c.pid (convert_lkid s c)) (admission_refusal s c (convert_admission s c)))) passed)

-- ---- what a step makes of the blocks

-- what is so of a step that is made is so of the step
abbrev Writes : State → Step → Stepped → Type 0
Writes s step made =
    ProcessesAfter step made.answer s.processes made.state.processes
    × ((pid : ℕ) (before : Process) → process_of s.processes pid ≡ Some before
    → is_some (process_of made.state.processes pid) ≡ true
    → BlocksAfter step made.answer made.endings pid before.blocks (status_blocks_of made.state.processes pid))

-- the blocks of a process that is there
pub blocks_are : (processes : List Process) (pid : ℕ) (p : Process) → process_of processes pid ≡ Some p → status_blocks_of processes pid ≡ p.blocks
blocks_are processes pid p is = ap (λ (found : Option Process). option_map_or (λ q. q.blocks) found []) is

-- first the step writes what it names, and then its ends
record NamedFirst (step : Step) (answer : Answer) (pid : ℕ) (before : List Block) (named : List Process) : Type 0 where
  many : length (status_blocks_of named pid) ≡ length before
  each : (k : ℕ) → k < length before
      → block_at named pid k ≡ cond (names_block step pid (k + 1))
      (block_named step answer (get_or before k new_status_block)) (get_or before k new_status_block)

named_then_ended : (step : Step) (answer : Answer) (endings : List Ending) (pid : ℕ) (before : List Block) (named after : List Process)
    → NamedFirst step answer pid before named → AreLeftByEnds endings named after → BlocksAfter step answer endings pid before (status_blocks_of after pid)
named_then_ended step answer endings pid before named after first ends = record {
  many = ends.many pid ∙ first.many;
  each = λ k within.
      subst (λ (block : Block). IsLeftByEnds pid (k + 1) endings block (block_at after pid k)) (first.each k within)
      (ends.each pid k (subst (λ (n : ℕ). k < n) (sym first.many) within));
}

-- a step that names one, and makes this of it
one_named : (step : Step) (answer : Answer) (s : State) (owner number : ℕ) (made : Block → Block)
    → ((pid k : ℕ) → names_block step pid (k + 1) ≡ ((owner == pid) && (number == k + 1))) → ((block : Block) → block_named step answer block ≡ made block)
    → (pid : ℕ) (before : Process) → process_of s.processes pid ≡ Some before
    → NamedFirst step answer pid before.blocks (processes_after_write owner number (made (status_block_of s.processes owner number)) s.processes)
one_named step answer s owner number made names makes pid before is =
    subst (λ (blocks : List Block). NamedFirst step answer pid blocks
    (processes_after_write owner number (made (status_block_of s.processes owner number)) s.processes))
    (blocks_are s.processes pid before is)
    (record {
      many = many_written owner number pid _ s.processes;
      each = λ k within.
          block_written owner number made s.processes pid k within
          ∙ rw (names pid k, makes (block_at s.processes pid k)) refl;
    })

-- ---- the steps

-- a step that makes nothing of a block
unmade : (step : Step) (answer : Answer) (s : State) → ((block : Block) → block_named step answer block ≡ block)
    → (pid : ℕ) (before : Process) → process_of s.processes pid ≡ Some before → NamedFirst step answer pid before.blocks s.processes
unmade step answer s nothing pid before is = record {
  many = ap (λ (blocks : List Block). length blocks) (blocks_are s.processes pid before is);
  each = λ k _. ap (λ (blocks : List Block). get_or blocks k new_status_block) (blocks_are s.processes pid before is)
      ∙ cond_both (names_block step pid (k + 1)) (block_named step answer (get_or before.blocks k new_status_block)) (get_or before.blocks k new_status_block)
      (λ block. get_or before.blocks k new_status_block ≡ block) (λ _. sym (nothing (get_or before.blocks k new_status_block))) (λ _. refl);
}

-- ---- refusals

-- the setting of a value is never refused by NORMAL
set_not_normal : (s : State) (v : ValueSetting) (refusal : Cond) → set_refusal s v ≡ Some refusal → (refusal ≡ Normal → ⊥)
unfolding set_refusal caller_refusal status_block_refusal
set_not_normal s v refusal is =
    of_tests (has_departed s.nodes (node_of_pid v.pid)) (is_some (process_of s.processes v.pid))
    (nat_lt 0 v.block && nat_le v.block (length (status_blocks_of s.processes v.pid))) is
  where
    of_tests : (a b c : Bool) → or_else (cond a (Some Departed) (cond b None (Some Nonexpr))) (cond c None (Some Accvio)) ≡ Some refusal → refusal ≡ Normal → ⊥
    of_tests true b c told normal = cc
    of_tests false true true told normal = cc
    of_tests false true false told normal = cc
    of_tests false false c told normal = cc

-- a refused step makes nothing of a block
refused_makes_nothing : (s : State) (step : Step) (refusal : Cond) → step_refusal s step ≡ Some refusal
    → (block : Block) → block_named step (Plain refusal) block ≡ block
refused_makes_nothing s (Declare d) refusal is block = refl
refused_makes_nothing s (SetValue v) refusal is block = of_told refusal (set_not_normal s v refusal is)
  where
    of_told : (told : Cond) → (told ≡ Normal → ⊥) → block_named (SetValue v) (Plain told) block ≡ block
    of_told Normal other = absurd (other refl)
    of_told told other = refl
refused_makes_nothing s (Enq e) refusal is block = refl
refused_makes_nothing s (Convert c) refusal is block = refl
refused_makes_nothing s (Deq d) refusal is block = refl
refused_makes_nothing s (Rundown pid) refusal is block = refl
refused_makes_nothing s (Leave node) refusal is block = refl
refused_makes_nothing s (Search node) refusal is block = refl
refused_makes_nothing s (Take pid) refusal is block = refl

-- the end of a process, or of a node's, is never refused by NORMAL
pub end_not_normal : (s : State) (pid : ℕ) (refusal : Cond) → rundown_refusal s pid ≡ Some refusal → (refusal ≡ Normal → ⊥)
unfolding caller_refusal
end_not_normal s pid refusal is = of_tests (has_departed s.nodes (node_of_pid pid)) (is_some (process_of s.processes pid)) is
  where
    of_tests : (a b : Bool) → cond a (Some Departed) (cond b None (Some Nonexpr)) ≡ Some refusal → refusal ≡ Normal → ⊥
    of_tests true b told normal = cc
    of_tests false true told normal = cc
    of_tests false false told normal = cc

pub departure_not_normal : (s : State) (node : ℕ) (refusal : Cond) → leave_refusal s node ≡ Some refusal → (refusal ≡ Normal → ⊥)
unfolding leave_refusal
departure_not_normal s node refusal is = of_tests (not (is_node node)) (has_departed s.nodes node) is
  where
    of_tests : (a b : Bool) → cond a (Some Badparam) (cond b (Some Departed) None) ≡ Some refusal → refusal ≡ Normal → ⊥
    of_tests true b told normal = cc
    of_tests false true told normal = cc
    of_tests false false told normal = cc

refused_leaves : (s : State) (kind : Step) (refusal : Cond) → step_refusal s kind ≡ Some refusal → (processes : List Process)
    → ProcessesAfter kind (Plain refusal) processes processes
refused_leaves s (Declare d) refusal is processes = refl
refused_leaves s (SetValue v) refusal is processes = refl
refused_leaves s (Enq e) refusal is processes = refl
refused_leaves s (Convert c) refusal is processes = refl
refused_leaves s (Deq d) refusal is processes = refl
refused_leaves s (Rundown pid) refusal is processes = of_told refusal (end_not_normal s pid refusal is)
  where
    of_told : (told : Cond) → (told ≡ Normal → ⊥) → ProcessesAfter (Rundown pid) (Plain told) processes processes
    of_told Normal other = absurd (other refl)
    of_told told other = refl
refused_leaves s (Leave node) refusal is processes = of_told refusal (departure_not_normal s node refusal is)
  where
    of_told : (told : Cond) → (told ≡ Normal → ⊥) → ProcessesAfter (Leave node) (Plain told) processes processes
    of_told Normal other = absurd (other refl)
    of_told told other = refl
refused_leaves s (Search node) refusal is processes = refl
refused_leaves s (Take pid) refusal is processes = refl

-- a refused step
refused_writes : (s : State) (step : Step) (refusal : Cond) → step_refusal s step ≡ Some refusal → Writes s step (refused s refusal)
refused_writes s step refusal is = (
  refused_leaves s step refusal is s.processes,
  λ pid before there living.
      named_then_ended step (Plain refusal) [] pid before.blocks s.processes s.processes
      (unmade step (Plain refusal) s (refused_makes_nothing s step refusal is) pid before there) (all_left_by_none s.processes),
)

-- ---- the steps

-- a step whose change is swept
swept_writes : (s : State) (step : Step) (change : Stepped)
    → ProcessesAfter step change.answer s.processes (processes_after_service change.state.processes change.state.resources)
    → (named : List Process) → ((pid : ℕ) (before : Process) → process_of s.processes pid ≡ Some before → NamedFirst step change.answer pid before.blocks named)
    → AreLeftByEnds change.endings named change.state.processes → Writes s step (stepped_after_sweep change)
swept_writes s step change kept named first ends = (
  kept,
  λ pid before there living.
      named_then_ended step change.answer (change.endings ++ sweep_endings change.state.resources) pid before.blocks named
      (processes_after_service change.state.processes change.state.resources) (first pid before there)
      (all_left_swept change.endings named change.state.processes change.state.resources ends),
)

-- where all is stable a sweep writes nothing
nothing_swept : (processes : List Process) (resources : List Resource) → AllByRecursion IsStable resources
    → processes_after_service processes resources ≡ processes
nothing_swept processes resources stable = (unswept processes resources stable).statuses

-- who is there is found before one who is added
pub found_first : (processes : List Process) (p : Process) (pid : ℕ) (before : Process) → process_of processes pid ≡ Some before
    → process_of (processes ++ p ∷ []) pid ≡ Some before
found_first processes p pid before is =
    find-append (λ (q : Process). q.pid == pid) processes (p ∷ [])
    ∙ ap (λ (found : Option Process). option_or found (process_of (p ∷ []) pid)) is

-- a declaration
declaration_writes : (s : State) (d : Declaration) (choice : Option LockState) → AllByRecursion IsStable s.resources
    → Writes s (Declare d) (stepped_after_sweep (step_change s (Declare d) choice))
unfolding declare_change
declaration_writes s d choice stable =
    swept_writes s (Declare d) (step_change s (Declare d) choice) (nothing_swept (declare_change s d).processes s.resources stable)
    (declare_change s d).processes
    (λ pid before is. record {
      many = ap (λ (blocks : List Block). length blocks)
          (blocks_are (declare_change s d).processes pid before
          (found_first s.processes (declared_process s d) pid before is));
      each = λ k _.
          ap (λ (blocks : List Block). get_or blocks k new_status_block)
          (blocks_are (declare_change s d).processes pid before (found_first s.processes (declared_process s d) pid before is));
    })
    (all_left_by_none (declare_change s d).processes)

-- the setting of a value
setting_writes : (s : State) (v : ValueSetting) (choice : Option LockState)
    → Writes s (SetValue v) (stepped_after_sweep (step_change s (SetValue v) choice))
unfolding set_change processes_after_setting
setting_writes s v choice =
    swept_writes s (SetValue v) (step_change s (SetValue v) choice)
    (kept_swept without_notices (λ _ _ _. refl) (set_change s v).processes s.resources
    ∙ kept_set without_notices (λ _ _. refl) v.pid v.block v.value v.tail s.processes)
    (set_change s v).processes
    (one_named (SetValue v) (Plain Normal) s v.pid v.block (block_after_setting v.value v.tail) (λ _ _. refl) (λ _. refl))
    (all_left_by_none (set_change s v).processes)

-- the process is told of a grant at once, and of what a dequeue ends
at_once_tells : (b : Bool) (row : LockState) → AllByRecursion IsTold (cond b (grant_endings true row) [])
at_once_tells false row = tt
at_once_tells true row = of_want row.want
  where
    of_want : (want : Option Request) → AllByRecursion IsTold (wanted_endings (by_grant (grant_act row.held row.want)) true row.lkid row.pid want)
    of_want None = tt
    of_want (Some request) = (refl, tt)

rows_tell : (how : How) → is_told how ≡ true → (rows : List LockState) → AllByRecursion IsTold (flat_map (row_endings how false) rows)
rows_tell how told [] = tt
rows_tell how told (row ∷ rows) =
    each_append IsTold (row_endings how false row) (flat_map (row_endings how false) rows) (of_want row.want) (rows_tell how told rows)
  where
    of_want : (want : Option Request) → AllByRecursion IsTold (wanted_endings how false row.lkid row.pid want)
    of_want None = tt
    of_want (Some request) = (told, tt)

lock_tells : (w : Withdrawal) → is_told w.converting ≡ true → is_told w.waiting ≡ true → (resources : List Resource)
    → AllByRecursion IsTold (flat_map (withdrawal_endings w) resources)
lock_tells w converting waiting [] = tt
lock_tells w converting waiting (r ∷ rest) =
    each_append IsTold (withdrawal_endings w r) (flat_map (withdrawal_endings w) rest)
    (each_append IsTold (queue_endings w.converting w.lkid r.converting) (queue_endings w.waiting w.lkid r.waiting)
    (rows_tell w.converting converting (rows_of w.lkid r.converting)) (rows_tell w.waiting waiting (rows_of w.lkid r.waiting)))
    (lock_tells w converting waiting rest)

dequeue_tells : (s : State) (d : Dequeue) → AllByRecursion IsTold (deq_endings s d)
dequeue_tells s d =
    each_end IsTold (withdrawals_of s d) s.resources
    (each_map (λ lkid. ⊤) (λ w. AllByRecursion IsTold (flat_map (withdrawal_endings w) s.resources)) (withdrawal_of d)
    (λ lkid _. lock_tells (withdrawal_of d lkid) (of_cancel (has_flag d.flags cancel)) refl s.resources) (dequeued_lkids s d)
    (each_so (λ lkid. ⊤) (λ lkid. tt) (dequeued_lkids s d)))
  where
    of_cancel : (cancels : Bool) → is_told (conversion_ending cancels) ≡ true
    of_cancel true = refl
    of_cancel false = refl

-- a new request
request_writes : (s : State) (e : NewRequest) (choice : Option LockState)
    → Writes s (Enq e) (stepped_after_sweep (step_change s (Enq e) choice))
unfolding enq_change processes_after_acceptance
request_writes s e choice =
    swept_writes s (Enq e) (step_change s (Enq e) choice)
    (kept_swept without_notices (λ _ _ _. refl) (enq_change s e).processes (enq_change s e).resources ∙ kept_entered without_notices (λ _ _ _. refl) s e)
    (processes_after_acceptance e.pid e.block s.next_lkid s.processes)
    (one_named (Enq e) (step_change s (Enq e) choice).answer s e.pid e.block (λ block. record block { status = 0; lkid = s.next_lkid })
    (λ _ _. refl) (λ _. refl))
    (all_left (enq_endings s e) (blocks_with (enq_resource s e).value_block (processes_after_acceptance e.pid e.block s.next_lkid s.processes))
    (at_once_tells (enq_at_once s e) (enq_row s e)))

-- a conversion
conversion_writes : (s : State) (c : Conversion) (a : ConversionAdmission) → Writes s (Convert c) (stepped_after_sweep (conversion_change s c (Some a)))
unfolding convert_change convert_blocks processes_after_acceptance
conversion_writes s c a =
    let lkid : ℕ = convert_lkid s c in
    swept_writes s (Convert c) (conversion_change s c (Some a))
    (kept_swept without_notices (λ _ _ _. refl) (convert_change s c a).processes (convert_change s c a).resources
    ∙ kept_converted without_notices (λ _ _ _. refl) s c a)
    (processes_after_acceptance c.pid c.block lkid s.processes)
    (one_named (Convert c) (conversion_change s c (Some a)).answer s c.pid c.block (λ block. record block { status = 0; lkid = lkid })
    (λ _ _. refl) (λ _. refl))
    (all_left (conversion_endings a) (blocks_with a.resource.value_block (processes_after_acceptance c.pid c.block lkid s.processes))
    (at_once_tells a.at_once (wanting_row a.row a.request)))

-- a search
victim_tells : (s : State) (choice : Option LockState) → AllByRecursion IsTold (search_endings s choice)
victim_tells s None = tt
victim_tells s (Some victim) =
    each_end IsTold (victim_withdrawals (Some victim)) s.resources (lock_tells (deadlock_of victim.lkid) refl refl s.resources, tt)

search_writes : (s : State) (node : ℕ) (choice : Option LockState) → Writes s (Search node) (stepped_after_sweep (step_change s (Search node) choice))
unfolding search_change
search_writes s node choice =
    swept_writes s (Search node) (step_change s (Search node) choice)
    (kept_swept without_notices (λ _ _ _. refl) (search_change s choice).processes (search_change s choice).resources
    ∙ kept_ended without_notices (λ _ _ _. refl) (search_endings s choice) (blocks_with new_value_block s.processes))
    s.processes (unmade (Search node) (Victim (victim_lkid choice)) s (λ _. refl))
    (all_left (search_endings s choice) (blocks_with new_value_block s.processes) (victim_tells s choice))

-- a dequeue
dequeue_writes : (s : State) (d : Dequeue) (choice : Option LockState) → Writes s (Deq d) (stepped_after_sweep (step_change s (Deq d) choice))
unfolding deq_change
dequeue_writes s d choice =
    swept_writes s (Deq d) (step_change s (Deq d) choice)
    (kept_swept without_notices (λ _ _ _. refl) (deq_change s d).processes (deq_change s d).resources
    ∙ kept_ended without_notices (λ _ _ _. refl) (deq_endings s d) (blocks_with new_value_block s.processes))
    s.processes (unmade (Deq d) (Plain Normal) s (λ _. refl))
    (all_left (deq_endings s d) (blocks_with new_value_block s.processes) (dequeue_tells s d))

-- ends of processes
rundown_writes : (s : State) (step : Step) (is_one : ℕ → Bool) (nodes : List Node) → Apart s
    → ((block : Block) → block_named step (Plain Normal) block ≡ block)
    → ((processes : List Process) → map without_notices processes ≡ map without_notices (processes_but is_one s.processes)
    → ProcessesAfter step (Plain Normal) s.processes processes)
    → Writes s step (stepped_after_sweep (end_of_processes is_one nodes s))
unfolding state_after_rundown
rundown_writes s step is_one nodes apart nothing kept =
    let left : List Process = processes_but is_one s.processes in
    let change : Stepped = end_of_processes is_one nodes s in (
      kept (processes_after_service left change.state.resources) (kept_swept without_notices (λ _ _ _. refl) left change.state.resources),
      λ pid before there living.
          let still : process_of left pid ≡ process_of s.processes pid =
          found_still is_one pid (is_left is_one pid s.processes (sym (swept_living left change.state.resources pid) ∙ living)) s.processes in
          named_then_ended step (Plain Normal) (rundown_endings is_one s ++ sweep_endings change.state.resources) pid before.blocks left
          (processes_after_service left change.state.resources)
          (unmade step (Plain Normal) (record s { processes = left }) nothing pid before (still ∙ there))
          (all_left_swept (rundown_endings is_one s) left left change.state.resources
          (left_by_rundown is_one (rundown_endings is_one s) (rundown_ends_are_theirs is_one s apart) s.processes)),
    )

-- a process as a take leaves it, if it is its own
abbrev pub as_taken : Process → Bool → Process
as_taken p mine = cond mine (record p { asts = later p.asts }) p

-- status blocks stay where an AST is taken
blocks_kept : (taker pid : ℕ) (processes : List Process) → status_blocks_of (processes_after_take taker processes) pid ≡ status_blocks_of processes pid
unfolding process_after_take
blocks_kept taker pid [] = refl
blocks_kept taker pid (p ∷ rest) = of_tests (p.pid == taker) (p.pid == pid) refl (blocks_kept taker pid rest)
  where
    of_tests : (mine found : Bool) → (p.pid == pid) ≡ found → status_blocks_of (processes_after_take taker rest) pid ≡ status_blocks_of rest pid
        → option_map_or (λ q. q.blocks) (cond ((as_taken p mine).pid == pid) (Some (as_taken p mine)) (process_of (processes_after_take taker rest) pid)) []
        ≡ option_map_or (λ q. q.blocks) (cond found (Some p) (process_of rest pid)) []
    of_tests true true at behind = rw at refl
    of_tests false true at behind = rw at refl
    of_tests true false at behind = rw at behind
    of_tests false false at behind = rw at behind

-- a take
taking_writes : (s : State) (taker : ℕ) (choice : Option LockState) → Writes s (Take taker) (stepped_after_sweep (step_change s (Take taker) choice))
unfolding take_change
taking_writes s taker choice =
    swept_writes s (Take taker) (step_change s (Take taker) choice)
    (kept_swept without_notices (λ _ _ _. refl) (take_change s taker).processes s.resources ∙ kept_taken without_notices (λ _ _. refl) taker s.processes)
    (take_change s taker).processes
    (λ pid before is.
    let blocks : status_blocks_of (take_change s taker).processes pid ≡ before.blocks =
    blocks_kept taker pid s.processes ∙ blocks_are s.processes pid before is in
    record {
      many = ap (λ (blocks : List Block). length blocks) blocks;
      each = λ k _. ap (λ (blocks : List Block). get_or blocks k new_status_block) blocks;
    })
    (all_left_by_none (take_change s taker).processes)

writes : (s : State) → Apart s → AllByRecursion IsStable s.resources → (step : Step) (choice : Option LockState)
    → step_refusal s step ≡ None → Writes s step (stepped_after_sweep (step_change s step choice))
writes s apart stable (Declare d) choice passed = declaration_writes s d choice stable
writes s apart stable (SetValue v) choice passed = setting_writes s v choice
writes s apart stable (Enq e) choice passed = request_writes s e choice
writes s apart stable (Convert c) choice passed =
    let admitted = admission_of s c passed in
    subst (λ (there : Option ConversionAdmission). Writes s (Convert c) (stepped_after_sweep (conversion_change s c there))) (sym admitted.1)
    (conversion_writes s c admitted.0)
writes s apart stable (Deq d) choice passed = dequeue_writes s d choice
writes s apart stable (Rundown pid) choice passed =
    rundown_writes s (Rundown pid) (is_ended_by pid) s.nodes apart (λ _. refl) (λ processes kept. kept)
writes s apart stable (Leave node) choice passed =
    rundown_writes s (Leave node) (is_of_node node) (nodes_after_departure s.nodes node) apart (λ _. refl) (λ processes kept. kept)
writes s apart stable (Search node) choice passed = search_writes s node choice
writes s apart stable (Take pid) choice passed = taking_writes s pid choice

-- after every run
pub written_always : (history : History) (old : State) → Run history old → (step : Step) (choice : Option LockState)
    → IsChoice old step choice → WritesNamedBlocks old step choice
written_always history old run step choice chosen =
    let so = of_refusal (step_refusal old step) refl in
    record {
      processes = so.0;
      blocks = λ pid before after was is.
          subst (λ (blocks : List Block). BlocksAfter step (stepped old step choice).answer (stepped old step choice).endings pid before.blocks blocks)
          (blocks_are (stepped old step choice).state.processes pid after is)
          (so.1 pid before was (ap (λ (found : Option Process). is_some found) is));
    }
  where
    of_refusal : (refusal : Option Cond) → step_refusal old step ≡ refusal → Writes old step (refused_or refusal old (step_change old step choice))
    of_refusal None passed = writes old (apart_always history old run) (stable_law history old run) step choice passed
    of_refusal (Some refusal) is = refused_writes old step refusal is
