-- The end of a process: its requests end, and the other processes stay.
use Rattle.std.proofs.Common.{◌≡◌, ◌<◌, ◌+◌, ℕ, Bool, true, false, not, List, [], ◌∷◌, map, flat_map, length, cond}
use Rattle.std.proofs.Common.{Option, None, Some, refl, sym, ap, ◌∙◌, arith}
use Rattle.std.specs.Prelude.{◌==◌, ◌||◌, is_some}
use Rattle.std.specs.List.{AllByRecursion, list_any}
use Rattle.std.specs.Option.{option_map_or}
use Rattle.std.proofs.lemmas.Bool.{eqb-true}
use Rattle.vlm_words.specs.declared.blocks.Block.{Block}
use Rattle.vlm_words.specs.declared.locks.Request.{Request}
use Rattle.vlm_words.specs.declared.locks.LockState.{LockState}
use Rattle.vlm_words.specs.State.{Process, Resource, State, process_of}
use Rattle.vlm_model.specs.Endings.{Ending, row_endings, wanted_endings}
use Rattle.vlm_model.specs.Endings.How.{by_rundown}
use Rattle.vlm_model.specs.Asts.{completions_of}
use Rattle.vlm_model.specs.Effects.{Blocks, blocks_after}
use Rattle.vlm_words.specs.Rows.{rows_of}
use Rattle.vlm_model.specs.Sweeps.{processes_after_service}
use Rattle.vlm_model.specs.OwnLocks.{own_lkids}
use Rattle.vlm_model.specs.Withdrawals.{queue_endings, withdrawal_endings}
use Rattle.vlm_model.specs.Rundown.{processes_but, rundown_endings, rundown_of, rundowns}
use Rattle.vlm_model.specs.Written.{IsLeftByEnds, last_end}
use Rattle.vlm_model.proofs.Each.{each_append, each_map, each_so}
use Rattle.vlm_model.proofs.EndWrites.{block_at, nothing_changed}
use Rattle.vlm_model.proofs.Processes.{kept_swept}
use Rattle.vlm_model.proofs.WhoseLocks.{IsTheirs}
use Rattle.vlm_model.proofs.Withdrawing.{each_end}
use Rattle.vlm_model.proofs.StatusBlockWrites.{AreLeftByEnds}

-- ---- how requests end

-- the request ends with its process
abbrev pub IsByRundown : Ending → Type 0
IsByRundown ending = ending.how ≡ by_rundown

rows_end : (rows : List LockState) → AllByRecursion IsByRundown (flat_map (row_endings by_rundown false) rows)
rows_end [] = tt
rows_end (row ∷ rows) =
    each_append IsByRundown (row_endings by_rundown false row) (flat_map (row_endings by_rundown false) rows) (of_want row.want) (rows_end rows)
  where
    of_want : (want : Option Request) → AllByRecursion IsByRundown (wanted_endings by_rundown false row.lkid row.pid want)
    of_want None = tt
    of_want (Some request) = (refl, tt)

pub lock_ends : (lkid : ℕ) (resources : List Resource) → AllByRecursion IsByRundown (flat_map (withdrawal_endings (rundown_of lkid)) resources)
lock_ends lkid [] = tt
lock_ends lkid (r ∷ rest) =
    each_append IsByRundown (withdrawal_endings (rundown_of lkid) r) (flat_map (withdrawal_endings (rundown_of lkid)) rest)
    (each_append IsByRundown (queue_endings by_rundown lkid r.converting) (queue_endings by_rundown lkid r.waiting)
    (rows_end (rows_of lkid r.converting)) (rows_end (rows_of lkid r.waiting))) (lock_ends lkid rest)

-- all requests end with their processes
all_by_rundown : (is_one : ℕ → Bool) (s : State) → AllByRecursion IsByRundown (rundown_endings is_one s)
all_by_rundown is_one s =
    each_end IsByRundown (rundowns is_one s) s.resources
    (each_map (λ lkid. AllByRecursion IsByRundown (flat_map (withdrawal_endings (rundown_of lkid)) s.resources))
    (λ w. AllByRecursion IsByRundown (flat_map (withdrawal_endings w) s.resources)) rundown_of (λ lkid each. each) (own_lkids is_one s)
    (each_so (λ lkid. AllByRecursion IsByRundown (flat_map (withdrawal_endings (rundown_of lkid)) s.resources))
    (λ lkid. lock_ends lkid s.resources) (own_lkids is_one s)))

tell_nobody : (endings : List Ending) → AllByRecursion IsByRundown endings → completions_of endings ≡ []
tell_nobody [] each = refl
tell_nobody (ending ∷ endings) each = rw (each.0) (tell_nobody endings each.1)

-- nobody is told
pub rundowns_tell_nobody : (is_one : ℕ → Bool) (s : State) → completions_of (rundown_endings is_one s) ≡ []
rundowns_tell_nobody is_one s = tell_nobody (rundown_endings is_one s) (all_by_rundown is_one s)

pub write_nothing : (endings : List Ending) (b : Blocks) → AllByRecursion IsByRundown endings → blocks_after endings b ≡ b
write_nothing [] b each = refl
write_nothing (ending ∷ endings) b each =
    ap (blocks_after endings) (nothing_changed ending b each.0) ∙ write_nothing endings b each.1

-- nothing is written
pub rundowns_write_nothing : (is_one : ℕ → Bool) (s : State) (b : Blocks) → blocks_after (rundown_endings is_one s) b ≡ b
rundowns_write_nothing is_one s b = write_nothing (rundown_endings is_one s) b (all_by_rundown is_one s)

-- ---- who is left

-- of processes that are left each is found as before
pub found_still : (is_one : ℕ → Bool) (pid : ℕ) → is_one pid ≡ false → (processes : List Process)
    → process_of (processes_but is_one processes) pid ≡ process_of processes pid
found_still is_one pid other [] = refl
found_still is_one pid other (p ∷ rest) = of_tests (is_one p.pid) refl (p.pid == pid) refl (found_still is_one pid other rest)
  where
    of_tests : (ends : Bool) → is_one p.pid ≡ ends → (found : Bool) → (p.pid == pid) ≡ found
        → process_of (processes_but is_one rest) pid ≡ process_of rest pid
        → process_of (cond (not ends) (p ∷ processes_but is_one rest) (processes_but is_one rest)) pid ≡ cond found (Some p) (process_of rest pid)
    of_tests true is true at behind =
        let same : is_one p.pid ≡ is_one pid = ap is_one (eqb-true p.pid pid at) in
        cc
    of_tests true is false at behind = behind
    of_tests false is true at behind = rw at refl
    of_tests false is false at behind = rw at behind

-- and of those that end none is
pub gone_with : (is_one : ℕ → Bool) (pid : ℕ) → is_one pid ≡ true → (processes : List Process)
    → process_of (processes_but is_one processes) pid ≡ None
gone_with is_one pid ends [] = refl
gone_with is_one pid ends (p ∷ rest) = of_tests (is_one p.pid) refl (p.pid == pid) refl (gone_with is_one pid ends rest)
  where
    of_tests : (b : Bool) → is_one p.pid ≡ b → (found : Bool) → (p.pid == pid) ≡ found → process_of (processes_but is_one rest) pid ≡ None
        → process_of (cond (not b) (p ∷ processes_but is_one rest) (processes_but is_one rest)) pid ≡ None
    of_tests true is found at behind = behind
    of_tests false is true at behind =
        let same : is_one p.pid ≡ is_one pid = ap is_one (eqb-true p.pid pid at) in
        cc
    of_tests false is false at behind = rw at behind

-- so who is there is none of those that end
pub is_left : (is_one : ℕ → Bool) (pid : ℕ) (processes : List Process) → is_some (process_of (processes_but is_one processes) pid) ≡ true
    → is_one pid ≡ false
is_left is_one pid processes there = of_test (is_one pid) refl
  where
    of_test : (b : Bool) → is_one pid ≡ b → b ≡ false
    of_test true ends = let none = gone_with is_one pid ends processes in cc
    of_test false other = refl

-- whether a process is there, by the IDs
there_by_pid : (processes : List Process) (pid : ℕ) → is_some (process_of processes pid) ≡ list_any (λ owner. owner == pid) (map (λ p. p.pid) processes)
there_by_pid [] pid = refl
there_by_pid (p ∷ rest) pid = of_test (p.pid == pid) (there_by_pid rest pid)
  where
    of_test : (b : Bool) → is_some (process_of rest pid) ≡ list_any (λ owner. owner == pid) (map (λ q. q.pid) rest)
        → is_some (cond b (Some p) (process_of rest pid)) ≡ (b || list_any (λ owner. owner == pid) (map (λ q. q.pid) rest))
    of_test true behind = refl
    of_test false behind = behind

-- where the IDs are the same, the same processes are there
pub same_living : (before after : List Process) → map (λ p. p.pid) after ≡ map (λ p. p.pid) before → (pid : ℕ)
    → is_some (process_of after pid) ≡ is_some (process_of before pid)
same_living before after same pid =
    there_by_pid after pid ∙ ap (list_any (λ owner. owner == pid)) same ∙ sym (there_by_pid before pid)

-- a sweep takes nobody away, and adds nobody
pub swept_living : (processes : List Process) (resources : List Resource) (pid : ℕ)
    → is_some (process_of (processes_after_service processes resources) pid) ≡ is_some (process_of processes pid)
swept_living processes resources pid =
    same_living processes (processes_after_service processes resources) (kept_swept (λ p. p.pid) (λ _ _ _. refl) processes resources) pid

-- ---- what ends leave of their status blocks

-- no request of another process ends
no_end_of : (is_one : ℕ → Bool) (pid number : ℕ) → is_one pid ≡ false → (endings : List Ending) → AllByRecursion (IsTheirs is_one) endings
    → last_end pid number endings ≡ None
no_end_of is_one pid number other [] each = refl
no_end_of is_one pid number other (ending ∷ endings) each =
    of_test (ending.pid == pid) refl (no_end_of is_one pid number other endings each.1)
  where
    of_test : (b : Bool) → (ending.pid == pid) ≡ b → last_end pid number endings ≡ None → last_end pid number (ending ∷ endings) ≡ None
    of_test true is behind =
        let same : is_one ending.pid ≡ is_one pid = ap is_one (eqb-true ending.pid pid is) in
        let theirs = each.0 in
        cc
    of_test false is behind = rw (behind, is) refl

-- the status blocks of those that are left stay as they are
pub left_by_rundown : (is_one : ℕ → Bool) (endings : List Ending) → AllByRecursion (IsTheirs is_one) endings → (processes : List Process)
    → AreLeftByEnds endings (processes_but is_one processes) (processes_but is_one processes)
left_by_rundown is_one endings each processes = record {
  many = λ pid. refl;
  each = λ pid k within. of_found pid k (process_of (processes_but is_one processes) pid) refl within;
}
  where
    no_status : (pid k : ℕ) → is_one pid ≡ false → (block : Block) → IsLeftByEnds pid (k + 1) endings block block
    no_status pid k other block = record {
      status = rw (no_end_of is_one pid (k + 1) other endings each) refl;
      lkid = refl;
      value = λ _. refl;
      tail = λ _. refl;
    }

    of_found : (pid k : ℕ) (found : Option Process) → process_of (processes_but is_one processes) pid ≡ found
        → k < length (option_map_or (λ q. q.blocks) (process_of (processes_but is_one processes) pid) [])
        → IsLeftByEnds pid (k + 1) endings (block_at (processes_but is_one processes) pid k) (block_at (processes_but is_one processes) pid k)
    of_found pid k None none within = absurd (omega (arith, within, ap (λ (found : Option Process). length (option_map_or (λ q. q.blocks) found [])) none))
    of_found pid k (Some p) is within =
        no_status pid k (is_left is_one pid processes (ap (λ (found : Option Process). is_some found) is))
        (block_at (processes_but is_one processes) pid k)
