-- ASTs are taken in order, and by takes alone.
use Rattle.std.proofs.Common.{◌≡◌, ◌++◌, ℕ, Bool, true, false, List, [], ◌∷◌, cond, Option, None, Some, refl, sym, subst, ap, ◌∙◌}
use Rattle.std.specs.Prelude.{◌==◌, is_some}
use Rattle.std.proofs.lemmas.List.{append-nil}
use Rattle.std.specs.Option.{option_map_or}
use Rattle.std.proofs.lemmas.Bool.{cond_both, eqb-true, eqb-false, eq-eqb, ne_eqb}
use Rattle.vlm_words.specs.declared.asts.Ast.{Ast}
use Rattle.vlm_words.specs.declared.conditions.Cond.{Cond}
use Rattle.vlm_words.specs.declared.locks.LockState.{LockState}
use Rattle.vlm_words.specs.declared.steps.Answer.TheVariants.{Plain}
use Rattle.vlm_words.specs.declared.steps.Declaration.{Declaration}
use Rattle.vlm_words.specs.declared.steps.Step.TheVariants.{Declare, SetValue, Enq, Convert, Deq, Rundown, Leave, Search, Take}
use Rattle.vlm_words.specs.declared.steps.Step.{Step}
use Rattle.vlm_words.specs.State.{Process, State, process_of, Node, Resource}
use Rattle.vlm_model.specs.Asts.{asts_of, process_after_take, processes_after_take, Queued}
use Rattle.vlm_words.specs.Processes.{later, oldest}
use Rattle.vlm_model.specs.Sweeps.{processes_after_service, sweep_asts}
use Rattle.vlm_model.specs.Declare.{declare_change, declared_process}
use Rattle.vlm_model.specs.SetValue.{set_change}
use Rattle.vlm_model.specs.Take.{take_change, taken_ast}
use Rattle.vlm_model.specs.Convert.{ConversionAdmission}
use Rattle.vlm_model.specs.Runs.{History, Run}
use Rattle.vlm_model.specs.Stepped.{IsChoice, Stepped, conversion_change, refused, refused_or, step_change}
use Rattle.vlm_model.specs.Stepped.{step_refusal, stepped, stepped_after_sweep, end_of_processes}
use Rattle.vlm_model.specs.Taking.{AstsAfter, AstsAfterTake, AstsAreTakenInOrder, AstsLeft, IsTakenFrom, queued_to}
use Rattle.vlm_model.proofs.Always.{admission_of}
use Rattle.vlm_model.proofs.Processes.{kept_set}
use Rattle.vlm_model.proofs.AstQueueing.{AreQueued, asts_are, both_queued, conversion_queues, none_queued, pending}
use Rattle.vlm_model.proofs.AstQueueing.{request_queues, sweep_queues, withdrawn_queue}
use Rattle.vlm_model.proofs.WrittenBlocks.{as_taken, found_first}
use Rattle.vlm_words.specs.declared.conditions.Cond.TheVariants.{Normal}
use Rattle.vlm_model.specs.Rundown.{is_ended_by, nodes_after_departure, processes_but, state_after_rundown}
use Rattle.vlm_words.specs.Steps.{is_of_node}
use Rattle.vlm_model.proofs.ProcessEnds.{found_still, is_left, rundowns_tell_nobody, swept_living}
use Rattle.vlm_model.specs.Search.{victim_withdrawals, search_change}
use Rattle.vlm_model.specs.Dequeue.{deq_change, withdrawals_of}

-- ---- what a take leaves

-- a take leaves the later ones of its process, and those of the others
asts_taken : (taker pid : ℕ) (processes : List Process)
    → asts_of (processes_after_take taker processes) pid ≡ cond (taker == pid) (later (asts_of processes pid)) (asts_of processes pid)
unfolding process_after_take
asts_taken taker pid [] = cond_both (taker == pid) [] [] (λ (asts : List Ast). [] ≡ asts) (λ _. refl) (λ _. refl)
asts_taken taker pid (p ∷ rest) = of_tests (p.pid == taker) refl (p.pid == pid) refl (asts_taken taker pid rest)
  where
    of_tests : (mine : Bool) → (p.pid == taker) ≡ mine → (found : Bool) → (p.pid == pid) ≡ found
        → asts_of (processes_after_take taker rest) pid ≡ cond (taker == pid) (later (asts_of rest pid)) (asts_of rest pid)
        → option_map_or (λ q. q.asts) (cond ((as_taken p mine).pid == pid) (Some (as_taken p mine)) (process_of (processes_after_take taker rest) pid)) []
        ≡ cond (taker == pid) (later (option_map_or (λ q. q.asts) (cond found (Some p) (process_of rest pid)) []))
        (option_map_or (λ q. q.asts) (cond found (Some p) (process_of rest pid)) [])
    of_tests true is true at behind =
        let same : (taker == pid) ≡ true = eq-eqb taker pid (sym (eqb-true p.pid taker is) ∙ eqb-true p.pid pid at) in
        rw (at, same) refl
    of_tests false is true at behind =
        let differ : (taker == pid) ≡ false =
        ne_eqb taker pid (λ same. eqb-false p.pid taker is (eqb-true p.pid pid at ∙ sym same)) in
        rw (at, differ) refl
    of_tests true is false at behind = rw at behind
    of_tests false is false at behind = rw at behind

-- and takes nobody away
taken_there : (taker pid : ℕ) (processes : List Process)
    → is_some (process_of (processes_after_take taker processes) pid) ≡ is_some (process_of processes pid)
unfolding process_after_take
taken_there taker pid [] = refl
taken_there taker pid (p ∷ rest) = of_tests (p.pid == taker) (taken_there taker pid rest)
  where
    of_test : (q : Process) (found : Bool) → is_some (process_of (processes_after_take taker rest) pid) ≡ is_some (process_of rest pid)
        → is_some (cond found (Some q) (process_of (processes_after_take taker rest) pid)) ≡ is_some (cond found (Some p) (process_of rest pid))
    of_test q true behind = refl
    of_test q false behind = behind

    of_tests : (mine : Bool) → is_some (process_of (processes_after_take taker rest) pid) ≡ is_some (process_of rest pid)
        → is_some (cond ((as_taken p mine).pid == pid) (Some (as_taken p mine))
        (process_of (processes_after_take taker rest) pid)) ≡ is_some
        (cond (p.pid == pid) (Some p) (process_of rest pid))
    of_tests true behind = of_test (as_taken p true) (p.pid == pid) behind
    of_tests false behind = of_test p (p.pid == pid) behind

-- what is answered is the first
first_is_taken : (asts : List Ast) → IsTakenFrom (oldest asts) asts (later asts)
first_is_taken [] = (refl, refl)
first_is_taken (ast ∷ asts) = refl

-- ---- the steps

-- what is so of a step that is made is so of the step
abbrev Takes : State → Step → Stepped → Type 0
Takes s step made =
    (pid : ℕ) (before : Process) → process_of s.processes pid ≡ Some before
    → is_some (process_of made.state.processes pid) ≡ true
    → AstsAfter step made.answer made.queued pid before.asts (asts_of made.state.processes pid)

-- a process that is there is there
is_there : (processes : List Process) (pid : ℕ) (p : Process) → process_of processes pid ≡ Some p → is_some (process_of processes pid) ≡ true
is_there processes pid p is = ap (λ (o : Option Process). is_some o) is

-- a step that leaves the ASTs of each process, and queues these, with its sweep
leaves : (s : State) (step : Step) (change : Stepped) → ((pid : ℕ) (asts : List Ast) → AstsLeft step change.answer pid asts asts)
    → AreQueued change.queued s.processes change.state.processes → Takes s step (stepped_after_sweep change)
leaves s step change left queued pid before is living =
    let all : AreQueued (change.queued ++ sweep_asts change.state.resources) s.processes
    (processes_after_service change.state.processes change.state.resources) =
    both_queued change.queued (sweep_asts change.state.resources) s.processes change.state.processes
    (processes_after_service change.state.processes change.state.resources)
    queued (sweep_queues change.state.processes change.state.resources) in
    record {
      left = before.asts;
      taken = left pid before.asts;
      behind =
          all.asts pid (is_there s.processes pid before is)
          ∙ ap (λ (asts : List Ast). asts ++ queued_to pid (change.queued ++ sweep_asts change.state.resources)) (asts_are s.processes pid before is);
    }

-- a declaration
declaring_leaves : (s : State) (d : Declaration) → AreQueued [] s.processes (declare_change s d).processes
unfolding declare_change
declaring_leaves s d = record {
  asts = λ pid is. of_found pid (process_of s.processes pid) refl is;
  there = λ pid is. there pid (process_of s.processes pid) refl is;
}
  where
    no : false ≡ true → ⊥
    no e = cc

    of_found : (pid : ℕ) (o : Option Process) → process_of s.processes pid ≡ o → is_some (process_of s.processes pid) ≡ true
        → asts_of (s.processes ++ declared_process s d ∷ []) pid ≡ asts_of s.processes pid ++ []
    of_found pid None none is = absurd (no (sym (ap (λ (o : Option Process). is_some o) none) ∙ is))
    of_found pid (Some p) found is =
        asts_are (s.processes ++ declared_process s d ∷ []) pid p (found_first s.processes (declared_process s d) pid p found)
        ∙ sym (asts_are s.processes pid p found) ∙ sym (append-nil (asts_of s.processes pid))

    there : (pid : ℕ) (o : Option Process) → process_of s.processes pid ≡ o → is_some (process_of s.processes pid) ≡ true
        → is_some (process_of (s.processes ++ declared_process s d ∷ []) pid) ≡ true
    there pid None none is = absurd (no (sym (ap (λ (o : Option Process). is_some o) none) ∙ is))
    there pid (Some p) found is =
        is_there (s.processes ++ declared_process s d ∷ []) pid p (found_first s.processes (declared_process s d) pid p found)

-- a take
taking : (s : State) (taker : ℕ) (choice : Option LockState) → Takes s (Take taker) (stepped_after_sweep (step_change s (Take taker) choice))
unfolding take_change
taking s taker choice pid before is living = record {
  left = cond (taker == pid) (later before.asts) before.asts;
  taken = of_test (taker == pid) refl;
  behind =
      (sweep_queues (take_change s taker).processes s.resources).asts pid (still_there (process_of s.processes pid) is)
      ∙ ap (λ (asts : List Ast). asts ++ queued_to pid (sweep_asts s.resources))
      (asts_taken taker pid s.processes ∙ ap (λ (asts : List Ast). cond (taker == pid) (later asts) asts) (asts_are s.processes pid before is));
}
  where
    still_there : (o : Option Process) → process_of s.processes pid ≡ Some before → is_some (process_of (take_change s taker).processes pid) ≡ true
    still_there o is =
        taken_there taker pid s.processes ∙ ap (λ (found : Option Process). is_some found) is

    of_test : (b : Bool) → (taker == pid) ≡ b
        → AstsAfterTake b (taken_ast s taker) before.asts (cond b (later before.asts) before.asts)
    of_test true same =
        subst (λ (asts : List Ast). IsTakenFrom (oldest asts) before.asts (later before.asts))
        (sym (ap (λ (process : ℕ). asts_of s.processes process) (eqb-true taker pid same) ∙ asts_are s.processes pid before is))
        (first_is_taken before.asts)
    of_test false other = refl

-- ends of processes leave the ASTs of the others
ending_takes : (s : State) (step : Step) (is_one : ℕ → Bool) (nodes : List Node)
    → ((pid : ℕ) (asts : List Ast) → AstsLeft step (Plain Normal) pid asts asts)
    → Takes s step (stepped_after_sweep (end_of_processes is_one nodes s))
unfolding state_after_rundown
ending_takes s step is_one nodes left pid before is living =
    let others : List Process = processes_but is_one s.processes in
    let resources : List Resource = (state_after_rundown is_one nodes s).resources in
    let there : is_some (process_of others pid) ≡ true = sym (swept_living others resources pid) ∙ living in
    let still : process_of others pid ≡ process_of s.processes pid = found_still is_one pid (is_left is_one pid s.processes there) s.processes in
    record {
      left = before.asts;
      taken = left pid before.asts;
      behind =
          (sweep_queues others resources).asts pid there
          ∙ ap (λ (asts : List Ast). asts ++ queued_to pid (sweep_asts resources)) (asts_are others pid before (still ∙ is))
          ∙ ap (λ (queued : List Queued). before.asts ++ queued_to pid (queued ++ sweep_asts resources)) (sym (rundowns_tell_nobody is_one s));
    }

takes : (s : State) (step : Step) (choice : Option LockState) → step_refusal s step ≡ None → Takes s step (stepped_after_sweep (step_change s step choice))
unfolding set_change deq_change search_change
takes s (Declare d) choice passed =
    leaves s (Declare d) (step_change s (Declare d) choice) (λ pid asts. refl) (declaring_leaves s d)
takes s (SetValue v) choice passed =
    leaves s (SetValue v) (step_change s (SetValue v) choice) (λ pid asts. refl)
    (none_queued s.processes (set_change s v).processes (kept_set pending (λ _ _. refl) v.pid v.block v.value v.tail s.processes))
takes s (Enq e) choice passed = leaves s (Enq e) (step_change s (Enq e) choice) (λ pid asts. refl) (request_queues s e)
takes s (Convert c) choice passed =
    let admitted = admission_of s c passed in
    subst (λ (there : Option ConversionAdmission). Takes s (Convert c) (stepped_after_sweep (conversion_change s c there))) (sym admitted.1)
    (leaves s (Convert c) (conversion_change s c (Some admitted.0)) (λ pid asts. refl) (conversion_queues s c admitted.0))
takes s (Deq d) choice passed = leaves s (Deq d) (step_change s (Deq d) choice) (λ pid asts. refl) (withdrawn_queue s (withdrawals_of s d))
takes s (Rundown pid) choice passed = ending_takes s (Rundown pid) (is_ended_by pid) s.nodes (λ process asts. refl)
takes s (Leave node) choice passed =
    ending_takes s (Leave node) (is_of_node node) (nodes_after_departure s.nodes node) (λ process asts. refl)
takes s (Search node) choice passed =
    leaves s (Search node) (step_change s (Search node) choice) (λ pid asts. refl) (withdrawn_queue s (victim_withdrawals choice))
takes s (Take taker) choice passed = taking s taker choice

-- a refused step
refused_takes : (s : State) (step : Step) (refusal : Cond) → Takes s step (refused s refusal)
refused_takes s step refusal pid before is living = record {
  left = before.asts;
  taken = stays step;
  behind = asts_are s.processes pid before is ∙ sym (append-nil before.asts);
}
  where
    stays : (kind : Step) → AstsLeft kind (Plain refusal) pid before.asts before.asts
    stays (Declare d) = refl
    stays (SetValue v) = refl
    stays (Enq e) = refl
    stays (Convert c) = refl
    stays (Deq d) = refl
    stays (Rundown process) = refl
    stays (Leave node) = refl
    stays (Search node) = refl
    stays (Take process) = refl

-- after every run
pub taking_always : (history : History) (old : State) → Run history old → (step : Step) (choice : Option LockState)
    → IsChoice old step choice → AstsAreTakenInOrder old step choice
taking_always history old run step choice chosen = record {
  asts = λ pid before after was is.
      subst (AstsAfter step (stepped old step choice).answer (stepped old step choice).queued pid before.asts)
      (asts_are (stepped old step choice).state.processes pid after is)
      (of_refusal (step_refusal old step) refl pid before was (is_there (stepped old step choice).state.processes pid after is));
}
  where
    of_refusal : (refusal : Option Cond) → step_refusal old step ≡ refusal → Takes old step (refused_or refusal old (step_change old step choice))
    of_refusal None passed = takes old step choice passed
    of_refusal (Some refusal) is = refused_takes old step refusal
