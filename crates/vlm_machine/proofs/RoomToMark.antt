-- After a step there is room to mark each living process in a search.
use Rattle.std.proofs.Common.{◌≡◌, ℕ, Bool, true, not, List, [], ◌∷◌, ◌++◌, map, Option, None, Some, refl, sym, subst, inl, inr}
use Rattle.std.specs.Prelude.{◌/◌, ⊤, All}
use Rattle.std.specs.List.{AllByRecursion}
use Rattle.std.proofs.lemmas.List.Elements.{recursion_from_All}
use Rattle.vlm_words.specs.declared.conditions.Cond.{Cond}
use Rattle.vlm_words.specs.declared.locks.LockState.{LockState}
use Rattle.vlm_words.specs.declared.steps.Answer.{Answer}
use Rattle.vlm_words.specs.declared.steps.Answer.TheVariants.{Process as process_answer}
use Rattle.vlm_words.specs.declared.steps.Step.{Step}
use Rattle.vlm_words.specs.declared.steps.Step.TheVariants.{Declare, SetValue, Enq, Convert, Deq, Rundown, Leave, Search, Take}
use Rattle.vlm_model.specs.Convert.{ConversionAdmission, convert_admission, convert_change}
use Rattle.vlm_model.specs.Declare.{declare_change, declared_process, is_node, next_pid}
use Rattle.vlm_model.specs.Dequeue.{deq_change, withdrawals_of}
use Rattle.vlm_model.specs.Effects.{blocks_with}
use Rattle.vlm_model.specs.Enqueue.{enq_change}
use Rattle.vlm_model.specs.Rundown.{is_ended_by, nodes_after_departure, state_after_rundown}
use Rattle.vlm_words.specs.Steps.{is_of_node, node_of_pid}
use Rattle.vlm_model.specs.Search.{search_change, victim_withdrawals}
use Rattle.vlm_model.specs.SetValue.{set_change}
use Rattle.vlm_words.specs.State.{Node, Process, State, start}
use Rattle.vlm_model.specs.Stepped.{Outcome, Stepped, conversion_change, refused_or, step_change, step_refusal, stepped}
use Rattle.vlm_model.specs.Take.{take_change}
use Rattle.vlm_words.specs.ValueBlocks.{new_value_block}
use Rattle.vlm_model.specs.Withdrawals.{Withdrawal, processes_after, withdrawn_endings}
use Rattle.vlm_model.proofs.Declarations.{pids, pids_added}
use Rattle.vlm_model.proofs.Each.{each_append, each_filter, each_weaker}
use Rattle.vlm_model.proofs.Processes.{kept_converted, kept_ended, kept_entered, kept_set, kept_swept, kept_taken}
use Rattle.vlm_collections.specs.Lists.{IsIn}
use Rattle.vlm_store.specs.Records.{StoredProcess}
use Rattle.vlm_cycle.specs.declared.scratch.Scratch.{Scratch}
use Rattle.vlm_cycle.specs.Marking.{HasRoomInBoth, KeepsRoom}
use Rattle.vlm_cycle.specs.Waiting.{IsRoomy}
use Rattle.vlm_machine.specs.Machine.{MachineState, plain_state}
use Rattle.vlm_machine.specs.Notes.{HasRoomToMark}

-- at the start no process lives
pub none_lives_at_start : (m : MachineState) (marks : Scratch) → plain_state m ≡ start → HasRoomToMark marks m
none_lives_at_start m marks is = subst (λ (s : State). AllByRecursion (λ p. HasRoomInBoth marks p.pid) s.processes) (sym is) tt

-- a search finds room for each stored process, and each is of one of the eight nodes
pub roomy : (m : MachineState) (marks : Scratch)
    → All (λ p. is_node (node_of_pid p.pid) ≡ true) (plain_state m).processes → HasRoomToMark marks m
    → IsRoomy m.records marks
roomy m marks named room =
    of_list m.records.processes
    (recursion_from_All (λ (p : Process). is_node (node_of_pid p.pid) ≡ true) (plain_state m).processes named) room
  where
    of_list : (ps : List StoredProcess) → AllByRecursion (λ (p : Process). is_node (node_of_pid p.pid) ≡ true) (map (λ (x : StoredProcess). x.process) ps)
        → AllByRecursion (λ (p : Process). HasRoomInBoth marks p.pid) (map (λ (x : StoredProcess). x.process) ps)
        → (p : StoredProcess) → IsIn p ps → HasRoomInBoth marks p.process.pid × (is_node (p.process.pid / 65536) ≡ true)
    of_list [] of_nodes rooms p there = absurd there
    of_list (x ∷ ps) of_nodes rooms p there =
        elim there [
          | inl here ↦ subst (λ (y : StoredProcess). HasRoomInBoth marks y.process.pid × (is_node (y.process.pid / 65536) ≡ true)) here (rooms.0, of_nodes.0)
          | inr later ↦ of_list ps of_nodes.1 rooms.1 p later
        ]

-- ---- after a step

module _ (P : ℕ → Type 0) where
  -- each of these processes has it, by its ID
  abbrev Each : List Process → Type 0
  Each ps = AllByRecursion (λ p. P p.pid) ps

  -- what a declaration makes has it
  abbrev pub HasNew : Step → Answer → Type 0
  HasNew (Declare d) answer = (pid : ℕ) → answer ≡ process_answer pid → P pid
  HasNew step answer = ⊤

  to_pids : (ps : List Process) → Each ps → AllByRecursion P (pids ps)
  to_pids [] each = tt
  to_pids (p ∷ ps) each = (each.0, to_pids ps each.1)

  of_pids : (ps : List Process) → AllByRecursion P (pids ps) → Each ps
  of_pids [] each = tt
  of_pids (p ∷ ps) each = (each.0, of_pids ps each.1)

  -- where no ID changes
  same_pids : (before after : List Process) → pids after ≡ pids before → Each before → Each after
  same_pids before after same each = of_pids after (subst (AllByRecursion P) (sym same) (to_pids before each))

  withdrawn_each : (withdrawals : List Withdrawal) (s : State) → Each s.processes
      → Each (processes_after (withdrawn_endings withdrawals s.resources) s.processes)
  withdrawn_each withdrawals s each =
      same_pids s.processes (processes_after (withdrawn_endings withdrawals s.resources) s.processes)
      (kept_ended (λ p. p.pid) (λ _ _ _. refl) (withdrawn_endings withdrawals s.resources) (blocks_with new_value_block s.processes)) each

  ended_each : (is_one : ℕ → Bool) (nodes : List Node) (s : State) → Each s.processes → Each (state_after_rundown is_one nodes s).processes
  unfolding state_after_rundown
  ended_each is_one nodes s each = each_filter (λ p. P p.pid) (λ p. not (is_one p.pid)) s.processes each

  -- the change of a step
  change_each : (s : State) (step : Step) (choice : Option LockState) → Each s.processes → HasNew step (step_change s step choice).answer
      → Each (step_change s step choice).state.processes
  unfolding declare_change set_change take_change enq_change deq_change search_change convert_change
  change_each s (Declare d) choice each new =
      of_pids (s.processes ++ declared_process s d ∷ [])
      (subst (AllByRecursion P) (sym (pids_added s.processes (declared_process s d)))
      (each_append P (pids s.processes) (next_pid s d.node ∷ []) (to_pids s.processes each) (new (next_pid s d.node) refl, tt)))
  change_each s (SetValue v) choice each new =
      same_pids s.processes (set_change s v).processes (kept_set (λ p. p.pid) (λ _ _. refl) v.pid v.block v.value v.tail s.processes) each
  change_each s (Enq e) choice each new =
      same_pids s.processes (enq_change s e).processes (kept_entered (λ p. p.pid) (λ _ _ _. refl) s e) each
  change_each s (Convert c) choice each new = of_admission (convert_admission s c)
    where
      of_admission : (a : Option ConversionAdmission) → Each (conversion_change s c a).state.processes
      of_admission None = each
      of_admission (Some a) = same_pids s.processes (convert_change s c a).processes (kept_converted (λ p. p.pid) (λ _ _ _. refl) s c a) each
  change_each s (Deq d) choice each new = withdrawn_each (withdrawals_of s d) s each
  change_each s (Rundown pid) choice each new = ended_each (is_ended_by pid) s.nodes s each
  change_each s (Leave node) choice each new = ended_each (is_of_node node) (nodes_after_departure s.nodes node) s each
  change_each s (Search node) choice each new = withdrawn_each (victim_withdrawals choice) s each
  change_each s (Take pid) choice each new =
      same_pids s.processes (take_change s pid).processes (kept_taken (λ p. p.pid) (λ _ _. refl) pid s.processes) each

  -- and the step
  step_each : (s : State) (step : Step) (choice : Option LockState) → Each s.processes
      → HasNew step (stepped s step choice).answer → Each (stepped s step choice).state.processes
  step_each s step choice each = of_refusal (step_refusal s step)
    where
      change : Stepped
      change = step_change s step choice

      of_refusal : (refusal : Option Cond) → HasNew step (refused_or refusal s change).answer → Each (refused_or refusal s change).state.processes
      of_refusal None new =
          same_pids change.state.processes (refused_or None s change).state.processes
          (kept_swept (λ p. p.pid) (λ _ _ _. refl) change.state.processes change.state.resources)
          (change_each s step choice each new)
      of_refusal (Some refusal) new = each

  -- what has happened in a step: those that live after it are those of before, and what it made
  pub living_after : (old new : State) (step : Step) (answer : Answer) → Outcome old step new answer
      → HasNew step answer → Each old.processes → Each new.processes
  living_after old new step answer (inl made) has each =
      subst (λ (s : State). Each s.processes) (sym made.state) (step_each old step made.choice each (subst (HasNew step) made.answered has))
  living_after old new step answer (inr short) has each = subst (λ (s : State). Each s.processes) (sym short.state) each

-- a step leaves room for the marks of those that live after it
pub marks_after : (old new : MachineState) (before after : Scratch) (step : Step) (answer : Answer) → Outcome (plain_state old) step (plain_state new) answer
    → KeepsRoom before after → HasNew (HasRoomInBoth after) step answer → HasRoomToMark before old → HasRoomToMark after new
marks_after old new before after step answer outcome kept has room =
    living_after (HasRoomInBoth after) (plain_state old) (plain_state new) step answer outcome has
    (each_weaker (λ p. HasRoomInBoth before p.pid) (λ p. HasRoomInBoth after p.pid) (λ p. kept p.pid) (plain_state old).processes room)
