-- The ends of requests, one after another, and the status blocks that they write.
use Rattle.std.proofs.Common.{◌≡◌, ◌<◌, ◌+◌, ◌-◌, ℕ, Bool, true, false, List, [], ◌∷◌, ◌++◌, length, set, get_or, cond, Some, refl, sym, subst, ap, ◌∙◌, arith}
use Rattle.std.specs.Prelude.{◌==◌, ◌&&◌, nat_lt}
use Rattle.std.specs.List.{AllByRecursion}
use Rattle.std.specs.Option.{option_map_or}
use Rattle.std.proofs.lemmas.Bool.{cond_both, eqb-true, eqb-false, eq-eqb, lt-ltb, ltb-false, ltb-true, ne_eqb}
use Rattle.std.proofs.lemmas.List.{length-set, get_or-set_same, get_or-set_other}
use Rattle.vlm_words.specs.declared.blocks.Block.{Block}
use Rattle.vlm_words.specs.declared.conditions.Cond.TheVariants.{Normal, Abort, Cancel, Deadlock}
use Rattle.vlm_words.specs.declared.modes.Act.TheVariants.{Nothing, Return, Write}
use Rattle.vlm_words.specs.declared.resources.ValueBlock.{ValueBlock}
use Rattle.vlm_words.specs.Conditions.{condition_number}
use Rattle.vlm_words.specs.State.{Process, Resource, process_of}
use Rattle.vlm_model.specs.StatusBlocks.{block_after_return, process_after_write, processes_after_return}
use Rattle.vlm_model.specs.StatusBlocks.{processes_after_status, processes_after_write, status_block_of}
use Rattle.vlm_model.specs.StatusBlocks.{status_blocks_of}
use Rattle.vlm_words.specs.Processes.{new_status_block, process_with_block, with_block}
use Rattle.vlm_model.specs.Endings.{Ending, How, is_told}
use Rattle.vlm_model.specs.Endings.How.{by_abort, by_cancel, by_deadlock, by_grant, by_rundown}
use Rattle.vlm_model.specs.Effects.{Blocks, blocks_after_end, blocks_after_ending, blocks_after_return, blocks_after_writing, is_wide}
use Rattle.vlm_model.specs.Grants.{service}
use Rattle.vlm_model.specs.Sweeps.{blocks_after_service, processes_after_service, sweep_endings}
use Rattle.vlm_model.specs.Written.{is_end_for}
use Rattle.vlm_model.specs.Asts.{Queued, completions, processes_after_asts}
use Rattle.vlm_model.proofs.Processes.{blocks_queued}

-- ---- one write

-- a status block of the process of this ID, the first at 0
abbrev pub block_at : List Process → ℕ → ℕ → Block
block_at processes pid k = get_or (status_blocks_of processes pid) k new_status_block

-- a process as a write leaves it, if it is its own
abbrev as_written : ℕ → Block → Process → Bool → Process
as_written number block p mine = cond mine (process_with_block number block p) p

-- as many status blocks stand there after a write
length-with_block : (number : ℕ) (block : Block) (blocks : List Block) → length (with_block number block blocks) ≡ length blocks
length-with_block number block blocks =
    cond_both (nat_lt 0 number) (set blocks (number - 1) block) blocks (λ xs. length xs ≡ length blocks)
    (λ _. length-set blocks (number - 1) block) (λ _. refl)

-- a write changes the blocks of its process alone
blocks_written : (owner number pid : ℕ) (block : Block) (processes : List Process)
    → status_blocks_of (processes_after_write owner number block processes) pid
    ≡ cond (owner == pid) (with_block number block (status_blocks_of processes pid)) (status_blocks_of processes pid)
unfolding process_after_write
blocks_written owner number pid block [] =
    cond_both (owner == pid) (with_block number block []) [] (λ blocks. [] ≡ blocks)
    (λ _. cond_both (nat_lt 0 number) (set [] (number - 1) block) [] (λ blocks. [] ≡ blocks) (λ _. refl) (λ _. refl))
    (λ _. refl)
blocks_written owner number pid block (p ∷ rest) =
    of_tests (p.pid == owner) refl (p.pid == pid) refl (blocks_written owner number pid block rest)
  where
    of_tests : (mine : Bool) → (p.pid == owner) ≡ mine → (found : Bool) → (p.pid == pid) ≡ found
        → status_blocks_of (processes_after_write owner number block rest) pid
        ≡ cond (owner == pid) (with_block number block (status_blocks_of rest pid)) (status_blocks_of rest pid)
        → option_map_or (λ q. q.blocks)
        (cond ((as_written number block p mine).pid == pid) (Some (as_written number block p mine))
        (process_of (processes_after_write owner number block rest) pid)) []
        ≡ cond (owner == pid) (with_block number block (option_map_or (λ q. q.blocks) (cond found (Some p) (process_of rest pid)) []))
        (option_map_or (λ q. q.blocks) (cond found (Some p) (process_of rest pid)) [])
    of_tests true is true at behind =
        let same : (owner == pid) ≡ true = eq-eqb owner pid (sym (eqb-true p.pid owner is) ∙ eqb-true p.pid pid at) in
        rw (at, same) refl
    of_tests false is true at behind =
        let differ : (owner == pid) ≡ false =
        ne_eqb owner pid (λ same. eqb-false p.pid owner is (eqb-true p.pid pid at ∙ sym same)) in
        rw (at, differ) refl
    of_tests true is false at behind = rw at behind
    of_tests false is false at behind = rw at behind

-- a process has as many status blocks after a write
pub many_written : (owner number pid : ℕ) (block : Block) (processes : List Process)
    → length (status_blocks_of (processes_after_write owner number block processes) pid) ≡ length (status_blocks_of processes pid)
many_written owner number pid block processes =
    ap (λ (blocks : List Block). length blocks) (blocks_written owner number pid block processes)
    ∙ cond_both (owner == pid) (with_block number block (status_blocks_of processes pid)) (status_blocks_of processes pid)
    (λ blocks. length blocks ≡ length (status_blocks_of processes pid))
    (λ _. length-with_block number block (status_blocks_of processes pid)) (λ _. refl)

-- a block is read where its number says
pub block_numbered : (processes : List Process) (pid number : ℕ) → 0 < number → status_block_of processes pid number ≡ block_at processes pid (number - 1)
block_numbered processes pid number first =
    ap (λ (b : Bool). cond b (block_at processes pid (number - 1)) new_status_block) (lt-ltb 0 number first)

-- each block is what the write makes of it if it is the one, and else as it was
pub block_written : (owner number : ℕ) (made : Block → Block) (processes : List Process) (pid k : ℕ) → k < length (status_blocks_of processes pid)
    → block_at (processes_after_write owner number (made (status_block_of processes owner number)) processes) pid k
    ≡ cond ((owner == pid) && (number == k + 1)) (made (block_at processes pid k)) (block_at processes pid k)
block_written owner number made processes pid k within =
    ap (λ (blocks : List Block). get_or blocks k new_status_block) (blocks_written owner number pid (made (status_block_of processes owner number)) processes)
    ∙ of_number (nat_lt 0 number) refl
  where
    blocks : List Block
    blocks = status_blocks_of processes pid

    read : Block
    read = get_or (status_blocks_of processes owner) (number - 1) new_status_block

    of_tests : 0 < number → (mine : Bool) → (owner == pid) ≡ mine → (this : Bool) → (number == k + 1) ≡ this
        → get_or (cond mine (set blocks (number - 1) (made read)) blocks) k new_status_block
        ≡ cond (mine && this) (made (block_at processes pid k)) (block_at processes pid k)
    of_tests first true is true at =
        let index : number - 1 ≡ k = omega (arith, eqb-true number (k + 1) at) in
        ap (λ (n : ℕ). get_or (set blocks n (made read)) k new_status_block) index
        ∙ get_or-set_same blocks k (made read) new_status_block within
        ∙ ap made (ap (λ (n : ℕ). get_or (status_blocks_of processes owner) n new_status_block) index
        ∙ ap (λ (n : ℕ). block_at processes n k) (eqb-true owner pid is))
    of_tests first true is false at =
        get_or-set_other blocks (number - 1) k (made read) new_status_block (λ same. eqb-false number (k + 1) at (omega (arith, same, first)))
    of_tests first false is this at = refl

    -- number 0 names no block
    of_none : (mine : Bool)
        → get_or (cond mine blocks blocks) k new_status_block ≡ cond (mine && false) (made (block_at processes pid k))
        (block_at processes pid k)
    of_none true = refl
    of_none false = refl

    of_number : (named : Bool) → nat_lt 0 number ≡ named
        → get_or (cond (owner == pid) (with_block number (made (status_block_of processes owner number)) blocks) blocks) k new_status_block
        ≡ cond ((owner == pid) && (number == k + 1)) (made (block_at processes pid k)) (block_at processes pid k)
    of_number true is = rw is (of_tests (ltb-true 0 number is) (owner == pid) refl (number == k + 1) refl)
    of_number false is =
        let other : (number == k + 1) ≡ false = ne_eqb number (k + 1) (λ same. omega (arith, same, ltb-false 0 number is)) in
        rw (is, other) (of_none (owner == pid))

-- ---- one end

-- what an end makes of its status block, where its resource has this value block; its request is wide or not
abbrev pub block_after_how : How → Bool → ValueBlock → Block → Block
block_after_how (by_grant Nothing) wide value block = record block { status = condition_number Normal }
block_after_how (by_grant Return) wide value block = block_after_return wide value block
block_after_how (by_grant Write) wide value block = record block { status = condition_number Normal }
block_after_how by_abort wide value block = record block { status = condition_number Abort }
block_after_how by_cancel wide value block = record block { status = condition_number Cancel }
block_after_how by_deadlock wide value block = record block { status = condition_number Deadlock }
block_after_how by_rundown wide value block = block

-- an end of which the process is told writes its status block so
pub end_writes : (how : How) → is_told how ≡ true → (ending : Ending) (b : Blocks) → (blocks_after_end how ending b).processes
    ≡ processes_after_write ending.pid ending.request.block
    (block_after_how how (is_wide ending.request) b.value_block (status_block_of b.processes ending.pid ending.request.block)) b.processes
unfolding blocks_after_return blocks_after_writing processes_after_status processes_after_return
end_writes (by_grant Nothing) told ending b = refl
end_writes (by_grant Return) told ending b = refl
end_writes (by_grant Write) told ending b = refl
end_writes by_abort told ending b = refl
end_writes by_cancel told ending b = refl
end_writes by_deadlock told ending b = refl
end_writes by_rundown told ending b = cc

-- at the end of a process nothing is written, and nobody is told
pub nothing_changed : (ending : Ending) (b : Blocks) → ending.how ≡ by_rundown → blocks_after_ending ending b ≡ b
nothing_changed ending b is = rw is refl

nothing_written : (ending : Ending) (b : Blocks) → ending.how ≡ by_rundown → (blocks_after_ending ending b).processes ≡ b.processes
nothing_written ending b is = ap (λ (after : Blocks). after.processes) (nothing_changed ending b is)

-- ---- all ends of a step

-- what ends make of a status block of a process, each said by its number
module _ (Leaves : ℕ → ℕ → List Ending → Block → Block → Type 0) where
  -- what they make of all status blocks
  pub record AreLeft (endings : List Ending) (before after : List Process) : Type 0 where
    pub many : (pid : ℕ) → length (status_blocks_of after pid) ≡ length (status_blocks_of before pid)
    pub each : (pid k : ℕ) → k < length (status_blocks_of before pid) → Leaves pid (k + 1) endings (block_at before pid k) (block_at after pid k)

  -- where nothing ends
  pub left_by_none : ((pid number : ℕ) (block : Block) → Leaves pid number [] block block) → (processes : List Process) → AreLeft [] processes processes
  left_by_none none processes = record { many = λ _. refl; each = λ pid k _. none pid (k + 1) (block_at processes pid k) }

  -- ASTs that are queued leave all that
  pub left_with_asts : (queued : List Queued) (endings : List Ending) (before after : List Process) → AreLeft endings before after
      → AreLeft endings before (processes_after_asts queued after)
  left_with_asts queued endings before after left = record {
    many = λ pid. ap (λ (blocks : List Block). length blocks) (blocks_queued queued after pid) ∙ left.many pid;
    each = λ pid k within.
        subst (λ (blocks : List Block). Leaves pid (k + 1) endings (block_at before pid k)
        (get_or blocks k new_status_block)) (sym (blocks_queued queued after pid))
        (left.each pid k within);
  }

  -- where one request ends
  pub left_by_one : (ending : Ending) (b : Blocks)
      → ((pid number : ℕ) (block : Block)
      → Leaves pid number (ending ∷ []) block
      (cond (is_end_for pid number ending)
      (block_after_how ending.how (is_wide ending.request) b.value_block block) block))
      → AreLeft (ending ∷ []) b.processes (blocks_after_ending ending b).processes
  left_by_one ending b one = of_how ending.how refl
    where
      written : is_told ending.how ≡ true → AreLeft (ending ∷ []) b.processes (blocks_after_ending ending b).processes
      written told =
          left_with_asts (completions ending) (ending ∷ []) b.processes (blocks_after_end ending.how ending b).processes
          (subst (λ (after : List Process). AreLeft (ending ∷ []) b.processes after) (sym (end_writes ending.how told ending b))
          (record {
            many = λ pid. many_written ending.pid ending.request.block pid _ b.processes;
            each = λ pid k within.
                subst (λ (after : Block). Leaves pid (k + 1) (ending ∷ []) (block_at b.processes pid k) after)
                (sym (block_written ending.pid ending.request.block
                (block_after_how ending.how (is_wide ending.request) b.value_block) b.processes pid k within))
                (one pid (k + 1) (block_at b.processes pid k));
          }))

      same : ending.how ≡ by_rundown → (block : Block) (named : Bool)
          → cond named (block_after_how ending.how (is_wide ending.request) b.value_block block) block ≡ block
      same is block true = ap (λ (how : How). block_after_how how (is_wide ending.request) b.value_block block) is
      same is block false = refl

      of_how : (how : How) → ending.how ≡ how → AreLeft (ending ∷ []) b.processes (blocks_after_ending ending b).processes
      of_how (by_grant act) is = written (ap is_told is)
      of_how by_abort is = written (ap is_told is)
      of_how by_cancel is = written (ap is_told is)
      of_how by_deadlock is = written (ap is_told is)
      of_how by_rundown is =
          subst (λ (after : List Process). AreLeft (ending ∷ []) b.processes after) (sym (nothing_written ending b is))
          (record {
            many = λ _. refl;
            each = λ pid k within.
                subst (λ (after : Block). Leaves pid (k + 1) (ending ∷ []) (block_at b.processes pid k) after)
                (same is (block_at b.processes pid k) (is_end_for pid (k + 1) ending)) (one pid (k + 1) (block_at b.processes pid k));
          })

  -- what first ends and then others make of a status block is what all of them make of it
  abbrev pub FollowOn : Type 0
  FollowOn =
      (pid number : ℕ) (first second : List Ending) (a b c : Block) → Leaves pid number first a b → Leaves pid number second b c
      → Leaves pid number (first ++ second) a c

  -- first ends and then others
  pub left_by_both : FollowOn → (first second : List Ending) (a b c : List Process) → AreLeft first a b → AreLeft second b c → AreLeft (first ++ second) a c
  left_by_both both first second a b c one other = record {
    many = λ pid. other.many pid ∙ one.many pid;
    each = λ pid k within.
        both pid (k + 1) first second (block_at a pid k) (block_at b pid k) (block_at c pid k) (one.each pid k within)
        (other.each pid k (subst (λ (n : ℕ). k < n) (sym (one.many pid)) within));
  }

  -- the grants of a service
  abbrev pub ServiceLeaves : Resource → Type 0
  ServiceLeaves r = (processes : List Process) → AreLeft (service r).endings processes (blocks_after_service processes r).processes

  -- the grants of a sweep
  left_by_sweep : ((pid number : ℕ) (block : Block) → Leaves pid number [] block block) → FollowOn → (processes : List Process) (resources : List Resource)
      → AllByRecursion ServiceLeaves resources → AreLeft (sweep_endings resources) processes (processes_after_service processes resources)
  unfolding sweep_endings
  left_by_sweep none both processes [] serves = left_by_none none processes
  left_by_sweep none both processes (r ∷ rest) serves =
      left_by_both both (service r).endings (sweep_endings rest) processes (blocks_after_service processes r).processes
      (processes_after_service (blocks_after_service processes r).processes rest)
      (serves.0 processes) (left_by_sweep none both (blocks_after_service processes r).processes rest serves.1)

  -- the ends of a change, and then the grants of its sweep
  pub left_swept : ((pid number : ℕ) (block : Block) → Leaves pid number [] block block) → FollowOn
      → (endings : List Ending) (before changed : List Process) (resources : List Resource) → AreLeft endings before changed
      → AllByRecursion ServiceLeaves resources → AreLeft (endings ++ sweep_endings resources) before (processes_after_service changed resources)
  left_swept none both endings before changed resources left serves =
      left_by_both both endings (sweep_endings resources) before changed
      (processes_after_service changed resources) left (left_by_sweep none both changed resources serves)
