-- An AST that a step queues goes after the pending ASTs of its process.
use Rattle.std.proofs.Common.{◌≡◌, ◌++◌, ◌||◌, ℕ, Bool, true, false, List, [], ◌∷◌, map, cond, Option, None, Some, append_assoc, refl, sym, subst, ap, ◌∙◌}
use Rattle.std.specs.Prelude.{◌==◌, is_some}
use Rattle.std.specs.List.{list_any}
use Rattle.std.specs.Option.{option_map, option_map_or}
use Rattle.std.proofs.lemmas.Bool.{cond_both, eq-eqb, eqb-false, eqb-true, ne_eqb}
use Rattle.std.proofs.lemmas.List.{append-nil}
use Rattle.vlm_words.specs.declared.asts.Ast.{Ast}
use Rattle.vlm_words.specs.declared.steps.Conversion.{Conversion}
use Rattle.vlm_words.specs.declared.steps.NewRequest.{NewRequest}
use Rattle.vlm_words.specs.ValueBlocks.{new_value_block}
use Rattle.vlm_words.specs.State.{Process, Resource, State, process_of}
use Rattle.vlm_model.specs.StatusBlocks.{processes_after_acceptance}
use Rattle.vlm_model.specs.Endings.{Ending}
use Rattle.vlm_model.specs.Asts.{Queued, asts_of, completions, completions_of, process_after_queueing, processes_after_asts, processes_after_queueing, warnings}
use Rattle.vlm_words.specs.Processes.{with_ast}
use Rattle.vlm_model.specs.Effects.{Blocks, blocks_after, blocks_after_end, blocks_after_ending, blocks_with}
use Rattle.vlm_model.specs.Grants.{service}
use Rattle.vlm_model.specs.Sweeps.{blocks_after_service, processes_after_service, service_asts, sweep_asts}
use Rattle.vlm_model.specs.Enqueue.{enq_change, enq_endings, enq_resource}
use Rattle.vlm_model.specs.Convert.{ConversionAdmission, conversion_endings, convert_blocks, convert_change, convert_lkid}
use Rattle.vlm_model.specs.Taking.{queued_to}
use Rattle.vlm_model.proofs.Each.{found_at}
use Rattle.vlm_model.proofs.Processes.{ending_kept, kept_accepted}
use Rattle.vlm_model.specs.Withdrawals.{state_after_withdrawals, Withdrawal, withdrawn_endings}

-- ---- ASTs by the process's ID

-- what of a process tells its ASTs
pub record Pending : Type 0 where
  pub pid : ℕ
  pub asts : List Ast

abbrev pub pending : Process → Pending
pending p = record { pid = p.pid; asts = p.asts }

-- the ASTs of a process that is there
pub asts_are : (processes : List Process) (pid : ℕ) (p : Process) → process_of processes pid ≡ Some p → asts_of processes pid ≡ p.asts
asts_are processes pid p is = ap (λ (found : Option Process). option_map_or (λ q. q.asts) found []) is

-- the ASTs of a process among what is told of each
abbrev pending_asts : List Pending → ℕ → List Ast
pending_asts [] pid = []
pending_asts (p ∷ rest) pid = cond (p.pid == pid) p.asts (pending_asts rest pid)

asts_pending : (processes : List Process) (pid : ℕ) → asts_of processes pid ≡ pending_asts (map pending processes) pid
asts_pending [] pid = refl
asts_pending (p ∷ rest) pid = of_test (p.pid == pid) (asts_pending rest pid)
  where
    of_test : (b : Bool) → asts_of rest pid ≡ pending_asts (map pending rest) pid
        → option_map_or (λ q. q.asts) (cond b (Some p) (process_of rest pid)) [] ≡ cond b p.asts (pending_asts (map pending rest) pid)
    of_test true behind = refl
    of_test false behind = behind

-- and whether it is there
abbrev is_pending : List Pending → ℕ → Bool
is_pending all pid = list_any (λ p. p.pid == pid) all

there_pending : (processes : List Process) (pid : ℕ) → is_some (process_of processes pid) ≡ is_pending (map pending processes) pid
there_pending [] pid = refl
there_pending (p ∷ rest) pid = of_test (p.pid == pid) (there_pending rest pid)
  where
    of_test : (b : Bool) → is_some (process_of rest pid) ≡ is_pending (map pending rest) pid
        → is_some (cond b (Some p) (process_of rest pid)) ≡ (b || is_pending (map pending rest) pid)
    of_test true behind = refl
    of_test false behind = behind

-- where what is told of each is the same, each has the ASTs that it had
pub asts_stay : (before after : List Process) (pid : ℕ) → map pending after ≡ map pending before → asts_of after pid ≡ asts_of before pid
asts_stay before after pid same =
    asts_pending after pid ∙ ap (λ (all : List Pending). pending_asts all pid) same ∙ sym (asts_pending before pid)

-- and who was there is there
there_stays : (before after : List Process) (pid : ℕ) → map pending after ≡ map pending before
    → is_some (process_of after pid) ≡ is_some (process_of before pid)
there_stays before after pid same =
    there_pending after pid ∙ ap (λ (all : List Pending). is_pending all pid) same ∙ sym (there_pending before pid)

-- ---- ASTs that are queued

-- these ASTs were queued, to each process that was there behind the others, and nobody went
pub record AreQueued (queued : List Queued) (before after : List Process) : Type 0 where
  pub asts : (pid : ℕ) → is_some (process_of before pid) ≡ true → asts_of after pid ≡ asts_of before pid ++ queued_to pid queued
  pub there : (pid : ℕ) → is_some (process_of before pid) ≡ true → is_some (process_of after pid) ≡ true

-- what is queued to a process of two lists
pub queued_to-append : (pid : ℕ) (first second : List Queued) → queued_to pid (first ++ second) ≡ queued_to pid first ++ queued_to pid second
queued_to-append pid [] second = refl
queued_to-append pid (q ∷ first) second = of_test (q.pid == pid) (queued_to-append pid first second)
  where
    of_test : (b : Bool) → queued_to pid (first ++ second) ≡ queued_to pid first ++ queued_to pid second
        → cond b (q.ast ∷ queued_to pid (first ++ second)) (queued_to pid (first ++ second)) ≡ cond b
        (q.ast ∷ queued_to pid first) (queued_to pid first) ++ queued_to pid second
    of_test true behind = ap (λ (asts : List Ast). q.ast ∷ asts) behind
    of_test false behind = behind

-- what tells of each process what was told queues nothing
pub none_queued : (before after : List Process) → map pending after ≡ map pending before → AreQueued [] before after
none_queued before after same = record {
  asts = λ pid _. asts_stay before after pid same ∙ sym (append-nil (asts_of before pid));
  there = λ pid is. there_stays before after pid same ∙ is;
}

-- first some ASTs and then others
pub both_queued : (first second : List Queued) (a b c : List Process) → AreQueued first a b → AreQueued second b c → AreQueued (first ++ second) a c
both_queued first second a b c one other = record {
  asts = λ pid is.
      other.asts pid (one.there pid is) ∙ ap (λ (asts : List Ast). asts ++ queued_to pid second) (one.asts pid is)
      ∙ append_assoc (asts_of a pid) (queued_to pid first) (queued_to pid second)
      ∙ ap (λ (asts : List Ast). asts_of a pid ++ asts) (sym (queued_to-append pid first second));
  there = λ pid is. other.there pid (one.there pid is);
}

-- the process that is there, where each is changed but for its ID
of_mapped : (change : Process → Process) → ((p : Process) → (change p).pid ≡ p.pid) → (pid : ℕ) (processes : List Process)
    → process_of (map change processes) pid ≡ option_map change (process_of processes pid)
of_mapped change same pid [] = refl
of_mapped change same pid (p ∷ rest) =
    ap (λ (owner : ℕ). cond (owner == pid) (Some (change p)) (process_of (map change rest) pid)) (same p)
    ∙ of_test (p.pid == pid) (of_mapped change same pid rest)
  where
    of_test : (found : Bool) → process_of (map change rest) pid ≡ option_map change (process_of rest pid)
        → cond found (Some (change p)) (process_of (map change rest) pid) ≡ option_map change (cond found (Some p) (process_of rest pid))
    of_test true behind = refl
    of_test false behind = behind

-- one AST
module _ (q : Queued) (processes : List Process) where
  changed : Process → Process
  changed = process_after_queueing q.pid q.ast

  same_pid : (p : Process) → (process_after_queueing q.pid q.ast p).pid ≡ p.pid
  unfolding process_after_queueing
  same_pid p = cond_both (p.pid == q.pid) (with_ast q.ast p) p (λ x. x.pid ≡ p.pid) (λ _. refl) (λ _. refl)

  -- the ASTs of a process that has the ID
  its_asts : (pid : ℕ) (p : Process) → (p.pid == pid) ≡ true → (process_after_queueing q.pid q.ast p).asts ≡ p.asts ++ queued_to pid (q ∷ [])
  unfolding process_after_queueing
  its_asts pid p is = of_test (q.pid == pid) refl
    where
      of_test : (b : Bool) → (q.pid == pid) ≡ b → (cond (p.pid == q.pid) (with_ast q.ast p) p).asts ≡ p.asts ++ cond b (q.ast ∷ []) []
      of_test true same =
          let mine : (p.pid == q.pid) ≡ true = eq-eqb p.pid q.pid (eqb-true p.pid pid is ∙ sym (eqb-true q.pid pid same)) in rw mine refl
      of_test false other =
          let not_mine : (p.pid == q.pid) ≡ false =
          ne_eqb p.pid q.pid (λ same. eqb-false q.pid pid other (sym same ∙ eqb-true p.pid pid is)) in rw not_mine (sym (append-nil p.asts))

  one_queued : AreQueued (q ∷ []) processes (processes_after_queueing q.pid q.ast processes)
  one_queued = record {
    asts = λ pid is. of_found pid (process_of processes pid) refl is;
    there = λ pid is.
        ap (λ (o : Option Process). is_some o) (of_mapped (process_after_queueing q.pid q.ast) same_pid pid processes)
        ∙ still (process_of processes pid) is;
  }
    where
      still : (o : Option Process) → is_some o ≡ true → is_some (option_map (process_after_queueing q.pid q.ast) o) ≡ true
      still None is = is
      still (Some p) is = refl

      of_found : (pid : ℕ) (o : Option Process) → process_of processes pid ≡ o → is_some (process_of processes pid) ≡ true
          → asts_of (processes_after_queueing q.pid q.ast processes) pid ≡ asts_of processes pid ++ queued_to pid (q ∷ [])
      of_found pid None none is = absurd (no (sym (ap (λ (o : Option Process). is_some o) none) ∙ is))
        where
          no : false ≡ true → ⊥
          no e = cc
      of_found pid (Some p) found is =
          ap (λ (o : Option Process). option_map_or (λ x. x.asts) o [])
          (of_mapped (process_after_queueing q.pid q.ast) same_pid pid processes
          ∙ ap (option_map (process_after_queueing q.pid q.ast)) found)
          ∙ its_asts pid p (found_at (λ (x : Process). x.pid == pid) processes p found).passes
          ∙ ap (λ (asts : List Ast). asts ++ queued_to pid (q ∷ [])) (sym (asts_are processes pid p found))

-- many
pub many_queued : (queued : List Queued) (processes : List Process) → AreQueued queued processes (processes_after_asts queued processes)
many_queued [] processes = none_queued processes processes refl
many_queued (q ∷ queued) processes =
    both_queued (q ∷ []) queued processes (processes_after_queueing q.pid q.ast processes)
    (processes_after_asts queued (processes_after_queueing q.pid q.ast processes))
    (one_queued q processes) (many_queued queued (processes_after_queueing q.pid q.ast processes))

-- then nothing more
pub queued_then_none : (queued : List Queued) (a b c : List Process) → AreQueued queued a b → map pending c ≡ map pending b → AreQueued queued a c
queued_then_none queued a b c some same =
    subst (λ (all : List Queued). AreQueued all a c) (append-nil queued) (both_queued queued [] a b c some (none_queued b c same))

pub none_then_queued : (queued : List Queued) (a b c : List Process) → map pending b ≡ map pending a → AreQueued queued b c → AreQueued queued a c
none_then_queued queued a b c same some = both_queued [] queued a b c (none_queued a b same) some

-- ---- the ends of requests, and the sweep

-- the end of a request queues its completion
one_ended : (ending : Ending) (b : Blocks) → AreQueued (completions ending) b.processes (blocks_after_ending ending b).processes
one_ended ending b =
    none_then_queued (completions ending) b.processes (blocks_after_end ending.how ending b).processes (blocks_after_ending ending b).processes
    (ending_kept pending (λ _ _. refl) ending.how ending b) (many_queued (completions ending) (blocks_after_end ending.how ending b).processes)

-- those of many
pub ends_queue : (endings : List Ending) (b : Blocks) → AreQueued (completions_of endings) b.processes (blocks_after endings b).processes
ends_queue [] b = none_queued b.processes b.processes refl
ends_queue (ending ∷ endings) b =
    both_queued (completions ending) (completions_of endings) b.processes (blocks_after_ending ending b).processes
    (blocks_after endings (blocks_after_ending ending b)).processes
    (one_ended ending b) (ends_queue endings (blocks_after_ending ending b))

-- the service of a resource queues the completions of its grants, and then its warnings
service_queues : (processes : List Process) (r : Resource) → AreQueued (service_asts r) processes (blocks_after_service processes r).processes
unfolding service_asts blocks_after_service
service_queues processes r =
    let granted : Blocks = blocks_after (service r).endings (blocks_with r.value_block processes) in
    both_queued (completions_of (service r).endings) (warnings (service r).resource) processes granted.processes
    (processes_after_asts (warnings (service r).resource) granted.processes)
    (ends_queue (service r).endings (blocks_with r.value_block processes)) (many_queued (warnings (service r).resource) granted.processes)

-- a sweep
pub sweep_queues : (processes : List Process) (resources : List Resource)
    → AreQueued (sweep_asts resources) processes (processes_after_service processes resources)
unfolding sweep_asts
sweep_queues processes [] = none_queued processes processes refl
sweep_queues processes (r ∷ rest) =
    both_queued (service_asts r) (sweep_asts rest) processes (blocks_after_service processes r).processes
    (processes_after_service (blocks_after_service processes r).processes rest)
    (service_queues processes r) (sweep_queues (blocks_after_service processes r).processes rest)

-- ---- the changes of steps

-- a new request
pub request_queues : (s : State) (e : NewRequest) → AreQueued (completions_of (enq_endings s e)) s.processes (enq_change s e).processes
unfolding enq_change
request_queues s e =
    let accepted : List Process = processes_after_acceptance e.pid e.block s.next_lkid s.processes in
    none_then_queued (completions_of (enq_endings s e)) s.processes accepted (enq_change s e).processes
    (kept_accepted pending (λ _ _. refl) e.pid e.block s.next_lkid s.processes)
    (ends_queue (enq_endings s e) (blocks_with (enq_resource s e).value_block accepted))

-- a conversion
pub conversion_queues : (s : State) (c : Conversion) (a : ConversionAdmission)
    → AreQueued (completions_of (conversion_endings a)) s.processes (convert_change s c a).processes
unfolding convert_change convert_blocks
conversion_queues s c a =
    let accepted : List Process = processes_after_acceptance c.pid c.block (convert_lkid s c) s.processes in
    none_then_queued (completions_of (conversion_endings a)) s.processes accepted (convert_change s c a).processes
    (kept_accepted pending (λ _ _. refl) c.pid c.block (convert_lkid s c) s.processes)
    (ends_queue (conversion_endings a) (blocks_with a.resource.value_block accepted))

-- locks that are withdrawn
pub withdrawn_queue : (s : State) (withdrawals : List Withdrawal)
    → AreQueued (completions_of (withdrawn_endings withdrawals s.resources)) s.processes (state_after_withdrawals withdrawals s).processes
withdrawn_queue s withdrawals = ends_queue (withdrawn_endings withdrawals s.resources) (blocks_with new_value_block s.processes)
