-- A process that gives up all its locks leaves the others in the state that its end would leave.
use Rattle.std.proofs.Common.{◌≡◌, ℕ, Bool, true, not, List, [], ◌∷◌, map, filter, Option, None, Some, refl, sym, ap, eq-eqb, ◌∙◌}
use Rattle.std.specs.List.{AllByRecursion}
use Rattle.std.proofs.lemmas.Bool.{eqb-true}
use Rattle.vlm_words.specs.declared.conditions.Cond.{Cond}
use Rattle.vlm_words.specs.declared.steps.Dequeue.{Dequeue}
use Rattle.vlm_words.specs.declared.steps.Step.TheVariants.{Deq, Rundown}
use Rattle.vlm_words.specs.State.{Process, Resource, State}
use Rattle.vlm_model.specs.Checks.{caller_refusal, or_else}
use Rattle.vlm_model.specs.Dequeue.{deq_change, deq_refusal, is_dequeued, withdrawal_of, withdrawals_of}
use Rattle.vlm_model.specs.Effects.{blocks_with}
use Rattle.vlm_model.specs.Endings.How.{by_abort}
use Rattle.vlm_words.specs.ValueBlocks.{new_value_block}
use Rattle.vlm_model.specs.OwnLocks.{own_lkids}
use Rattle.vlm_model.specs.Rundown.{is_ended_by, rundown_of, rundowns, state_after_rundown}
use Rattle.vlm_model.specs.Runs.{History, Run}
use Rattle.vlm_model.specs.Stepped.{refused_or, step_change, step_refusal}
use Rattle.vlm_model.specs.Sweeps.{is_vacant, processes_after_service, resources_after_service, resources_after_sweep, state_after_sweep}
use Rattle.vlm_model.specs.Withdrawals.{Withdrawal, processes_after, resource_after_each, resource_after_going}
use Rattle.vlm_model.specs.Withdrawals.{resource_after_withdrawals, resource_after_writer, withdrawn_endings}
use Rattle.vlm_model.proofs.IdsApart.{Apart, apart_always}
use Rattle.vlm_model.proofs.Each.{each_map, each_weaker}
use Rattle.vlm_model.proofs.EndedLocks.{no_lock_left}
use Rattle.vlm_model.proofs.WhoseLocks.{IsTheirs, NoStrangers, own_are_theirs, owning, withdrawn_are_theirs}
use Rattle.vlm_model.specs.Reuse.{ChangesOthersAsARundown, GivesUpAll, state_but}
use Rattle.vlm_model.proofs.Others.{IsIts, its_ends, others}
use Rattle.vlm_model.proofs.Foreign.{processes_but_swept, resources_swept}

-- ---- the same locks go, and write the same

-- a lock that goes as a rundown takes it, but whose request ends by ABORT
abbrev aborted_of : ℕ → Withdrawal
aborted_of lkid = record (rundown_of lkid) { waiting = by_abort; converting = by_abort }

-- a dequeue of all withdraws locks so
is_aborted : (d : Dequeue) → GivesUpAll d → (lkid : ℕ) → withdrawal_of d lkid ≡ aborted_of lkid
is_aborted d all lkid = rw (all.goes, all.invalidates, all.no_value, all.no_tail) refl

same_written : (lkids : List ℕ) (r : Resource)
    → resource_after_each resource_after_writer (map aborted_of lkids) r ≡ resource_after_each resource_after_writer (map rundown_of lkids) r
same_written [] r = refl
same_written (lkid ∷ lkids) r = same_written lkids (resource_after_writer (rundown_of lkid) r)

same_gone : (lkids : List ℕ) (r : Resource)
    → resource_after_each resource_after_going (map aborted_of lkids) r ≡ resource_after_each resource_after_going (map rundown_of lkids) r
same_gone [] r = refl
same_gone (lkid ∷ lkids) r = same_gone lkids (resource_after_going (rundown_of lkid) r)

same_left : (lkids : List ℕ) (r : Resource) → resource_after_withdrawals (map aborted_of lkids) r ≡ resource_after_withdrawals (map rundown_of lkids) r
same_left lkids r =
    ap (resource_after_each resource_after_going (map aborted_of lkids)) (same_written lkids r)
    ∙ same_gone lkids (resource_after_each resource_after_writer (map rundown_of lkids) r)

all_left : (lkids : List ℕ) (rs : List Resource)
    → map (resource_after_withdrawals (map aborted_of lkids)) rs ≡ map
    (resource_after_withdrawals (map rundown_of lkids)) rs
all_left lkids [] = refl
all_left lkids (r ∷ rs) =
    ap (λ x. x ∷ map (resource_after_withdrawals (map aborted_of lkids)) rs) (same_left lkids r)
    ∙ ap (λ xs. resource_after_withdrawals (map rundown_of lkids) r ∷ xs) (all_left lkids rs)

-- ---- all locks of the process go

filtered : (test : ℕ → Bool) → ((n : ℕ) → test n ≡ true) → (xs : List ℕ) → filter test xs ≡ xs
filtered test all [] = refl
filtered test all (x ∷ xs) = rw (all x) (ap (λ ys. x ∷ ys) (filtered test all xs))

mapped : (f g : ℕ → Withdrawal) → ((n : ℕ) → f n ≡ g n) → (xs : List ℕ) → map f xs ≡ map g xs
mapped f g same [] = refl
mapped f g same (x ∷ xs) = ap (λ y. y ∷ map f xs) (same x) ∙ ap (λ ys. g x ∷ ys) (mapped f g same xs)

of_all : (s : State) (d : Dequeue) → GivesUpAll d → (lkid : ℕ) → is_dequeued s d lkid ≡ true
of_all s d all lkid = rw (all.lock) refl

withdrawn : (s : State) (d : Dequeue) → GivesUpAll d → withdrawals_of s d ≡ map aborted_of (own_lkids (is_ended_by d.pid) s)
withdrawn s d all =
    ap (map (withdrawal_of d)) (rw (all.all) (filtered (is_dequeued s d) (of_all s d all) (own_lkids (is_ended_by d.pid) s)))
    ∙ mapped (withdrawal_of d) aborted_of (is_aborted d all) (own_lkids (is_ended_by d.pid) s)

-- ---- the states

-- no check refuses the rundown
first_passed : (a b : Option Cond) → or_else a b ≡ None → a ≡ None
first_passed None b passed = refl
first_passed (Some refusal) b passed = cc

caller_passed : (s : State) (d : Dequeue) → deq_refusal s d ≡ None → caller_refusal s d.pid ≡ None
unfolding deq_refusal
caller_passed s d passed = first_passed (caller_refusal s d.pid) _ passed

module _ (s : State) (apart : Apart s) (d : Dequeue) (all : GivesUpAll d) where
  abbrev lkids : List ℕ
  lkids = own_lkids (is_ended_by d.pid) s

  abbrev left : List Resource
  left = map (resource_after_withdrawals (rundowns (is_ended_by d.pid) s)) s.resources

  abbrev ended : List Process
  ended = processes_after (withdrawn_endings (map aborted_of lkids) s.resources) s.processes

  none_left : owning d.pid left ≡ 0
  none_left = no_lock_left (is_ended_by d.pid) s apart d.pid (eq-eqb d.pid d.pid refl)

  -- the requests that end are the process's own
  its_own : AllByRecursion (IsIts d.pid) (withdrawn_endings (map aborted_of lkids) s.resources)
  its_own =
      each_weaker (IsTheirs (is_ended_by d.pid)) (IsIts d.pid) (λ e is. eqb-true e.pid d.pid is) (withdrawn_endings (map aborted_of lkids) s.resources)
      (withdrawn_are_theirs (is_ended_by d.pid) (map aborted_of lkids) s.resources
      (each_map (NoStrangers (is_ended_by d.pid) s.resources) (λ w. NoStrangers (is_ended_by d.pid) s.resources w.lkid) aborted_of (λ lkid none. none) lkids
      (own_are_theirs (is_ended_by d.pid) s apart)))

  others_same : others d.pid ended ≡ others d.pid s.processes
  others_same = its_ends d.pid (withdrawn_endings (map aborted_of lkids) s.resources) its_own (blocks_with new_value_block s.processes)

  -- the swept states
  after : deq_change s d ≡ record s { processes = ended; resources = left }
  unfolding deq_change
  after =
      ap (λ ws. record s {
        processes = processes_after (withdrawn_endings ws s.resources) s.processes;
        resources =
            map (resource_after_withdrawals ws) s.resources;
      }) (withdrawn s d all)
      ∙ ap (λ rs. record s { processes = ended; resources = rs }) (all_left lkids s.resources)

  processes_same : others d.pid (processes_after_service ended left) ≡ processes_after_service (others d.pid s.processes) left
  processes_same = sym (processes_but_swept d.pid left none_left ended) ∙ ap (λ ps. processes_after_service ps left) others_same

  resources_same : resources_after_sweep ended left ≡ resources_after_sweep (others d.pid s.processes) left
  unfolding resources_after_sweep
  resources_same =
      ap (filter (λ r. not (is_vacant r)))
      (sym (resources_swept d.pid left none_left ended) ∙ ap (λ ps. resources_after_service ps left) others_same)

  swept_same : state_but d.pid (state_after_sweep (deq_change s d)) ≡ state_after_sweep (state_after_rundown (is_ended_by d.pid) s.nodes s)
  unfolding state_after_rundown
  swept_same =
      ap (λ t. state_but d.pid (state_after_sweep t)) after
      ∙ ap (λ ps. record s { processes = ps; resources = resources_after_sweep ended left }) processes_same
      ∙ ap (λ rs. record s { processes = processes_after_service (others d.pid s.processes) left; resources = rs }) resources_same

  pub changes_as_a_rundown : step_refusal s (Deq d) ≡ None → ChangesOthersAsARundown s d
  changes_as_a_rundown passed =
      ap (λ (refusal : Option Cond). state_but d.pid (refused_or refusal s (step_change s (Deq d) None)).state) passed
      ∙ swept_same
      ∙ sym (ap (λ (refusal : Option Cond). (refused_or refusal s (step_change s (Rundown d.pid) None)).state) (caller_passed s d passed))

pub always_as_a_rundown : (history : History) (last : State) → Run history last → (d : Dequeue) → GivesUpAll d → step_refusal last (Deq d) ≡ None
    → ChangesOthersAsARundown last d
always_as_a_rundown history last run d all passed = changes_as_a_rundown last (apart_always history last run) d all passed
