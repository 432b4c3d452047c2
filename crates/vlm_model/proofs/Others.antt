-- All processes except one: a step changes them in the same way whether that one is there or not.
use Rattle.std.proofs.Common.{◌≡◌, ℕ, Bool, true, false, not, List, [], ◌∷◌, map, cond, Option, None, Some, refl, ap, ◌∙◌}
use Rattle.std.specs.Prelude.{◌==◌, ◌-◌, nat_lt, slice_index_or}
use Rattle.std.specs.List.{AllByRecursion}
use Rattle.std.specs.Option.{option_map_or}
use Rattle.vlm_words.specs.declared.blocks.Block.{Block}
use Rattle.vlm_words.specs.declared.asts.Ast.{Ast}
use Rattle.vlm_words.specs.declared.asts.AstKind.TheVariants.{Completion}
use Rattle.vlm_words.specs.declared.conditions.Cond.{Cond}
use Rattle.vlm_words.specs.declared.conditions.Cond.TheVariants.{Abort, Cancel, Deadlock, Normal}
use Rattle.vlm_words.specs.Conditions.{condition_number}
use Rattle.vlm_words.specs.Processes.{new_status_block, process_with_block, with_ast}
use Rattle.vlm_words.specs.ValueBlocks.{value_block_written_from}
use Rattle.vlm_words.specs.declared.modes.Act.TheVariants.{Nothing, Return, Write}
use Rattle.vlm_words.specs.State.{Process}
use Rattle.vlm_model.specs.Asts.{Queued, asts_for, completion_asts, completions, is_synchronous, process_after_queueing, processes_after_asts}
use Rattle.vlm_model.specs.Effects.{Blocks, blocks_after, blocks_after_asts, blocks_after_end, blocks_after_ending}
use Rattle.vlm_model.specs.Effects.{blocks_after_return, blocks_after_status, blocks_after_writing, is_wide}
use Rattle.vlm_model.specs.Endings.{Ending, How, is_told}
use Rattle.vlm_model.specs.Endings.How.{by_abort, by_cancel, by_deadlock, by_grant, by_rundown}
use Rattle.vlm_model.specs.Rundown.{is_ended_by, processes_but}
use Rattle.vlm_model.specs.StatusBlocks.{block_after_return, process_after_write, processes_after_return, processes_after_status, status_block_of}
use Rattle.vlm_model.proofs.ProcessEnds.{found_still}

module _ (pid : ℕ) where
  -- the processes without this one
  abbrev pub others : List Process → List Process
  others processes = processes_but (is_ended_by pid) processes

  -- the blocks without this process
  abbrev pub blocks_but : Blocks → Blocks
  blocks_but b = record b { processes = others b.processes }

  -- a change of single processes that keeps their IDs
  module _ (change : Process → Process) (kept : (p : Process) → (change p).pid ≡ p.pid) where
    pub others_changed : (ps : List Process) → map change (others ps) ≡ others (map change ps)
    others_changed [] = refl
    others_changed (p ∷ ps) = of_test (p.pid == pid) refl (others_changed ps)
      where
        same : ((change p).pid == pid) ≡ (p.pid == pid)
        same = ap (λ n. n == pid) (kept p)

        of_test : (b : Bool) → (p.pid == pid) ≡ b → map change (others ps) ≡ others (map change ps)
            → map change (cond (not (p.pid == pid)) (p ∷ others ps) (others ps))
            ≡ cond (not ((change p).pid == pid)) (change p ∷ others (map change ps)) (others (map change ps))
        of_test true is later = rw (same, is) later
        of_test false is later = rw (same, is) (ap (λ qs. change p ∷ qs) later)

    -- one that only changes this process changes no other
    pub others_unchanged : ((p : Process) → (p.pid == pid) ≡ false → change p ≡ p) → (ps : List Process) → others (map change ps) ≡ others ps
    others_unchanged only [] = refl
    others_unchanged only (p ∷ ps) = of_test (p.pid == pid) refl (others_unchanged only ps)
      where
        same : ((change p).pid == pid) ≡ (p.pid == pid)
        same = ap (λ n. n == pid) (kept p)

        of_test : (b : Bool) → (p.pid == pid) ≡ b → others (map change ps) ≡ others ps
            → cond (not ((change p).pid == pid)) (change p ∷ others (map change ps)) (others (map change ps))
            ≡ cond (not (p.pid == pid)) (p ∷ others ps) (others ps)
        of_test true is later = rw (same, is) later
        of_test false is later = rw (same, is) (ap (λ q. q ∷ others (map change ps)) (only p is) ∙ ap (λ qs. p ∷ qs) later)

  -- ---- writes and ASTs

  write_keeps : (q n : ℕ) (block : Block) (p : Process) → (process_after_write q n block p).pid ≡ p.pid
  unfolding process_after_write
  write_keeps q n block p = of_test (p.pid == q)
    where
      of_test : (b : Bool) → (cond b (process_with_block n block p) p).pid ≡ p.pid
      of_test true = refl
      of_test false = refl

  queue_keeps : (q : ℕ) (ast : Ast) (p : Process) → (process_after_queueing q ast p).pid ≡ p.pid
  unfolding process_after_queueing
  queue_keeps q ast p = of_test (p.pid == q)
    where
      of_test : (b : Bool) → (cond b (with_ast ast p) p).pid ≡ p.pid
      of_test true = refl
      of_test false = refl

  -- a write to this process, or an AST of it, leaves the others
  write_of_it : (q n : ℕ) (block : Block) → q ≡ pid → (p : Process) → (p.pid == pid) ≡ false → process_after_write q n block p ≡ p
  unfolding process_after_write
  write_of_it q n block its p other = rw (its, other) refl

  queue_of_it : (q : ℕ) (ast : Ast) → q ≡ pid → (p : Process) → (p.pid == pid) ≡ false → process_after_queueing q ast p ≡ p
  unfolding process_after_queueing
  queue_of_it q ast its p other = rw (its, other) refl

  pub written_but : (q n : ℕ) (block : Block) (ps : List Process)
      → map (process_after_write q n block) (others ps) ≡ others (map (process_after_write q n block) ps)
  written_but q n block ps = others_changed (process_after_write q n block) (write_keeps q n block) ps

  pub its_write : (q n : ℕ) (block : Block) → q ≡ pid → (ps : List Process) → others (map (process_after_write q n block) ps) ≡ others ps
  its_write q n block its ps = others_unchanged (process_after_write q n block) (write_keeps q n block) (write_of_it q n block its) ps

  -- ASTs that are queued, to whomever
  pub queued_but : (queued : List Queued) (ps : List Process) → processes_after_asts queued (others ps) ≡ others (processes_after_asts queued ps)
  queued_but [] ps = refl
  queued_but (q ∷ queued) ps =
      ap (processes_after_asts queued) (others_changed (process_after_queueing q.pid q.ast) (queue_keeps q.pid q.ast) ps)
      ∙ queued_but queued (map (process_after_queueing q.pid q.ast) ps)

  -- ASTs of this process
  abbrev pub IsItsAst : Queued → Type 0
  IsItsAst q = q.pid ≡ pid

  pub its_asts : (queued : List Queued) → AllByRecursion IsItsAst queued → (ps : List Process) → others (processes_after_asts queued ps) ≡ others ps
  its_asts [] each ps = refl
  its_asts (q ∷ queued) each ps =
      its_asts queued each.1 (map (process_after_queueing q.pid q.ast) ps)
      ∙ others_unchanged (process_after_queueing q.pid q.ast) (queue_keeps q.pid q.ast) (queue_of_it q.pid q.ast each.0) ps

  -- ---- the ends of requests of other processes

  -- the status block of another process is found as before
  block_still : (q n : ℕ) → (q == pid) ≡ false → (ps : List Process) → status_block_of (others ps) q n ≡ status_block_of ps q n
  block_still q n other ps =
      ap (λ (found : Option Process). cond (nat_lt 0 n) (slice_index_or (option_map_or (λ p. p.blocks) found []) (n - 1) new_status_block) new_status_block)
      (found_still (is_ended_by pid) q other ps)

  abbrev pub IsOthers : Ending → Type 0
  IsOthers e = (e.pid == pid) ≡ false

  status_but : (e : Ending) (cond : Cond) → IsOthers e → (b : Blocks)
      → blocks_after_status e (Some cond) (blocks_but b) ≡ blocks_but (blocks_after_status e (Some cond) b)
  unfolding processes_after_status
  status_but e status other b =
      ap (λ (ps : List Process). record b { processes = ps })
      (ap (λ (block : Block). map (process_after_write e.pid e.request.block (record block { status = condition_number status })) (others b.processes))
      (block_still e.pid e.request.block other b.processes)
      ∙ written_but e.pid e.request.block (record (status_block_of b.processes e.pid e.request.block) { status = condition_number status }) b.processes)

  return_but : (e : Ending) → IsOthers e → (b : Blocks) → blocks_after_return e (blocks_but b) ≡ blocks_but (blocks_after_return e b)
  unfolding blocks_after_return processes_after_return
  return_but e other b =
      ap (λ (ps : List Process). record b { processes = ps })
      (ap (λ (block : Block). map (process_after_write e.pid e.request.block (block_after_return (is_wide e.request) b.value_block block)) (others b.processes))
      (block_still e.pid e.request.block other b.processes)
      ∙ written_but e.pid e.request.block
      (block_after_return (is_wide e.request) b.value_block
      (status_block_of b.processes e.pid e.request.block)) b.processes)

  write_but : (e : Ending) → IsOthers e → (b : Blocks) → blocks_after_writing e (blocks_but b) ≡ blocks_but (blocks_after_writing e b)
  unfolding blocks_after_writing processes_after_status
  write_but e other b =
      let still = block_still e.pid e.request.block other b.processes in
      ap (λ (block : Block). record {
        value_block = value_block_written_from (is_wide e.request) block b.value_block;
        processes = map (process_after_write e.pid e.request.block (record block { status = condition_number Normal })) (others b.processes);
      }) still
      ∙ ap (λ (ps : List Process). record {
        value_block = value_block_written_from (is_wide e.request) (status_block_of b.processes e.pid e.request.block) b.value_block;
        processes = ps;
      })
      (written_but e.pid e.request.block (record (status_block_of b.processes e.pid e.request.block) { status = condition_number Normal }) b.processes)

  end_but : (how : How) (e : Ending) → IsOthers e → (b : Blocks) → blocks_after_end how e (blocks_but b) ≡ blocks_but (blocks_after_end how e b)
  end_but (by_grant Nothing) e other b = status_but e Normal other b
  end_but (by_grant Return) e other b = return_but e other b
  end_but (by_grant Write) e other b = write_but e other b
  end_but by_abort e other b = status_but e Abort other b
  end_but by_cancel e other b = status_but e Cancel other b
  end_but by_deadlock e other b = status_but e Deadlock other b
  end_but by_rundown e other b = refl

  pub asts_but : (queued : List Queued) (b : Blocks) → blocks_after_asts queued (blocks_but b) ≡ blocks_but (blocks_after_asts queued b)
  asts_but queued b = ap (λ (ps : List Process). record b { processes = ps }) (queued_but queued b.processes)

  pub ends_but : (endings : List Ending) → AllByRecursion IsOthers endings → (b : Blocks)
      → blocks_after endings (blocks_but b) ≡ blocks_but (blocks_after endings b)
  ends_but [] each b = refl
  ends_but (e ∷ endings) each b =
      ap (blocks_after endings) (ap (blocks_after_asts (completions e)) (end_but e.how e each.0 b) ∙ asts_but (completions e) (blocks_after_end e.how e b))
      ∙ ends_but endings each.1 (blocks_after_ending e b)

  -- ---- the ends of its own requests

  abbrev pub IsIts : Ending → Type 0
  IsIts e = e.pid ≡ pid

  its_status : (e : Ending) (status : Option Cond) → IsIts e → (b : Blocks) → others (blocks_after_status e status b).processes ≡ others b.processes
  unfolding processes_after_status
  its_status e None its b = refl
  its_status e (Some status) its b =
      its_write e.pid e.request.block (record (status_block_of b.processes e.pid e.request.block) { status = condition_number status }) its b.processes

  its_end : (how : How) (e : Ending) → IsIts e → (b : Blocks) → others (blocks_after_end how e b).processes ≡ others b.processes
  unfolding blocks_after_return processes_after_return blocks_after_writing processes_after_status
  its_end (by_grant Nothing) e its b = its_status e (Some Normal) its b
  its_end (by_grant Return) e its b =
      its_write e.pid e.request.block (block_after_return (is_wide e.request) b.value_block (status_block_of b.processes e.pid e.request.block)) its b.processes
  its_end (by_grant Write) e its b =
      its_write e.pid e.request.block (record (status_block_of b.processes e.pid e.request.block) { status = condition_number Normal }) its b.processes
  its_end by_abort e its b = its_status e (Some Abort) its b
  its_end by_cancel e its b = its_status e (Some Cancel) its b
  its_end by_deadlock e its b = its_status e (Some Deadlock) its b
  its_end by_rundown e its b = refl

  its_completion : (e : Ending) → IsIts e → AllByRecursion IsItsAst (completions e)
  unfolding completion_asts
  its_completion e its = of_told (is_told e.how)
    where
      of_routine : (routine : Option ℕ) → AllByRecursion IsItsAst (asts_for Completion routine e.request e.lkid e.pid)
      of_routine None = tt
      of_routine (Some routine) = (its, tt)

      of_synchronous : (b : Bool) → AllByRecursion IsItsAst (cond b [] (asts_for Completion e.request.completion e.request e.lkid e.pid))
      of_synchronous true = tt
      of_synchronous false = of_routine e.request.completion

      of_told : (b : Bool) → AllByRecursion IsItsAst (cond b (completion_asts e.at_once e.request e.lkid e.pid) [])
      of_told true = of_synchronous (is_synchronous e.at_once e.request)
      of_told false = tt

  pub its_ends : (endings : List Ending) → AllByRecursion IsIts endings → (b : Blocks) → others (blocks_after endings b).processes ≡ others b.processes
  its_ends [] each b = refl
  its_ends (e ∷ endings) each b =
      its_ends endings each.1 (blocks_after_ending e b)
      ∙ its_asts (completions e) (its_completion e each.0) (blocks_after_end e.how e b).processes
      ∙ its_end e.how e each.0 b
