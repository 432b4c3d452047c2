-- What the steps keep of each process: all but its status blocks.
use Rattle.std.proofs.Common.{◌≡◌, ℕ, List, [], ◌∷◌, map, refl, ap, ◌∙◌, ◌++◌, Option, Some, Bool, true, false, cond}
use Rattle.std.specs.Prelude.{◌==◌}
use Rattle.std.proofs.lemmas.Bool.{cond_both}
use Rattle.vlm_words.specs.declared.blocks.Block.{Block}
use Rattle.vlm_words.specs.declared.conditions.Cond.{Cond}
use Rattle.vlm_words.specs.declared.modes.Act.TheVariants.{Nothing, Return, Write}
use Rattle.vlm_words.specs.declared.steps.NewRequest.{NewRequest}
use Rattle.vlm_words.specs.declared.steps.Conversion.{Conversion}
use Rattle.vlm_words.specs.declared.asts.Ast.{Ast}
use Rattle.vlm_words.specs.Processes.{later, with_ast, process_with_block}
use Rattle.vlm_model.specs.Asts.{process_after_take, processes_after_take, process_after_queueing}
use Rattle.vlm_model.specs.Asts.{processes_after_queueing, Queued, processes_after_asts, completions, warnings}
use Rattle.vlm_words.specs.State.{Process, Resource, State, process_of}
use Rattle.vlm_model.specs.StatusBlocks.{process_after_write, processes_after_acceptance, processes_after_return}
use Rattle.vlm_model.specs.StatusBlocks.{processes_after_setting, processes_after_status, processes_after_write}
use Rattle.vlm_model.specs.StatusBlocks.{status_blocks_of}
use Rattle.vlm_words.specs.declared.resources.ValueBlock.{ValueBlock}
use Rattle.vlm_model.specs.Endings.{Ending, How}
use Rattle.vlm_model.specs.Endings.How.{by_grant, by_abort, by_cancel, by_deadlock, by_rundown}
use Rattle.vlm_model.specs.Effects.{Blocks, blocks_after, blocks_after_end, blocks_after_ending, blocks_after_return, blocks_after_writing, blocks_with}
use Rattle.vlm_model.specs.Grants.{service}
use Rattle.vlm_model.specs.Sweeps.{blocks_after_service, processes_after_service}
use Rattle.vlm_model.specs.Enqueue.{enq_change, enq_endings, enq_resource}
use Rattle.vlm_model.specs.Convert.{ConversionAdmission, convert_blocks, convert_change, convert_lkid, conversion_endings}
use Rattle.std.specs.Option.{option_map_or}

-- ---- what does not show status blocks

module _ {X : Type 0} (shown : Process → X) (blind : (p : Process) (blocks : List Block) → shown (record p { blocks = blocks }) ≡ shown p) where
  -- a write keeps what does not show status blocks
  write_kept : (pid n : ℕ) (block : Block) (p : Process) → shown (process_after_write pid n block p) ≡ shown p
  unfolding process_after_write
  write_kept pid n block p = cond_both (p.pid == pid) (process_with_block n block p) p (λ q. shown q ≡ shown p) (λ _. blind p _) (λ _. refl)

  -- of each process
  writes_kept : (pid n : ℕ) (block : Block) (processes : List Process) → map shown (processes_after_write pid n block processes) ≡ map shown processes
  writes_kept pid n block [] = refl
  writes_kept pid n block (p ∷ rest) =
      ap (λ (first : X). first ∷ map shown (processes_after_write pid n block rest)) (write_kept pid n block p)
      ∙ ap (λ (others : List X). shown p ∷ others) (writes_kept pid n block rest)

  -- so does an acceptance
  pub kept_accepted : (pid n lkid : ℕ) (processes : List Process) → map shown (processes_after_acceptance pid n lkid processes) ≡ map shown processes
  unfolding processes_after_acceptance
  kept_accepted pid n lkid processes = writes_kept pid n _ processes

  -- the setting of a value
  pub kept_set : (pid n : ℕ) (value : List ℕ) (tail : Option (List ℕ)) (processes : List Process)
      → map shown (processes_after_setting pid n value tail processes) ≡ map shown processes
  unfolding processes_after_setting
  kept_set pid n value tail processes = writes_kept pid n _ processes

  -- a status
  kept_status : (pid n : ℕ) (cond : Cond) (processes : List Process) → map shown (processes_after_status pid n cond processes) ≡ map shown processes
  unfolding processes_after_status
  kept_status pid n cond processes = writes_kept pid n _ processes

  -- a returned value block
  kept_returned : (pid n : ℕ) (wide : Bool) (returned : ValueBlock) (processes : List Process)
      → map shown (processes_after_return pid n wide returned processes) ≡ map shown processes
  unfolding processes_after_return
  kept_returned pid n wide returned processes = writes_kept pid n _ processes

  -- an ending
  pub ending_kept : (how : How) (ending : Ending) (b : Blocks) → map shown (blocks_after_end how ending b).processes ≡ map shown b.processes
  unfolding blocks_after_return blocks_after_writing
  ending_kept (by_grant Nothing) ending b = kept_status ending.pid ending.request.block _ b.processes
  ending_kept (by_grant Return) ending b = kept_returned ending.pid ending.request.block _ _ b.processes
  ending_kept (by_grant Write) ending b = kept_status ending.pid ending.request.block _ b.processes
  ending_kept by_abort ending b = kept_status ending.pid ending.request.block _ b.processes
  ending_kept by_cancel ending b = kept_status ending.pid ending.request.block _ b.processes
  ending_kept by_deadlock ending b = kept_status ending.pid ending.request.block _ b.processes
  ending_kept by_rundown ending b = refl

-- ---- what does not show ASTs

module _ {X : Type 0} (shown : Process → X) (blind : (p : Process) (asts : List Ast) → shown (record p { asts = asts }) ≡ shown p) where
  -- an AST that is queued keeps it
  one_queued : (pid : ℕ) (ast : Ast) (processes : List Process) → map shown (processes_after_queueing pid ast processes) ≡ map shown processes
  unfolding process_after_queueing
  one_queued pid ast [] = refl
  one_queued pid ast (p ∷ rest) =
      ap (λ (first : X). first ∷ map shown (processes_after_queueing pid ast rest))
      (cond_both (p.pid == pid) (with_ast ast p) p (λ q. shown q ≡ shown p) (λ _. blind p (p.asts ++ ast ∷ [])) (λ _. refl))
      ∙ ap (λ (others : List X). shown p ∷ others) (one_queued pid ast rest)

  -- and so do many
  pub kept_queued : (queued : List Queued) (processes : List Process) → map shown (processes_after_asts queued processes) ≡ map shown processes
  kept_queued [] processes = refl
  kept_queued (q ∷ queued) processes = kept_queued queued (processes_after_queueing q.pid q.ast processes) ∙ one_queued q.pid q.ast processes

  -- and one that is taken
  pub kept_taken : (pid : ℕ) (processes : List Process) → map shown (processes_after_take pid processes) ≡ map shown processes
  unfolding process_after_take
  kept_taken pid [] = refl
  kept_taken pid (p ∷ rest) =
      ap (λ (first : X). first ∷ map shown (processes_after_take pid rest))
      (cond_both (p.pid == pid) (record p { asts = later p.asts }) p (λ q. shown q ≡ shown p) (λ _. blind p (later p.asts)) (λ _. refl))
      ∙ ap (λ (others : List X). shown p ∷ others) (kept_taken pid rest)

-- ---- what shows neither

module _ {X : Type 0} (shown : Process → X)
    (blind : (p : Process) (blocks : List Block) (asts : List Ast) → shown (record p { blocks = blocks; asts = asts }) ≡ shown p) where
  -- status blocks alone, and ASTs alone
  no_blocks : (p : Process) (blocks : List Block) → shown (record p { blocks = blocks }) ≡ shown p
  no_blocks p blocks = blind p blocks p.asts

  no_asts : (p : Process) (asts : List Ast) → shown (record p { asts = asts }) ≡ shown p
  no_asts p asts = blind p p.blocks asts

  -- endings
  pub kept_ended : (endings : List Ending) (b : Blocks) → map shown (blocks_after endings b).processes ≡ map shown b.processes
  kept_ended [] b = refl
  kept_ended (ending ∷ endings) b =
      kept_ended endings (blocks_after_ending ending b)
      ∙ kept_queued shown no_asts (completions ending) (blocks_after_end ending.how ending b).processes
      ∙ ending_kept shown no_blocks ending.how ending b

  -- a sweep
  pub kept_swept : (processes : List Process) (resources : List Resource) → map shown (processes_after_service processes resources) ≡ map shown processes
  unfolding blocks_after_service
  kept_swept processes [] = refl
  kept_swept processes (r ∷ rest) =
      kept_swept (blocks_after_service processes r).processes rest
      ∙ kept_queued shown no_asts (warnings (service r).resource) (blocks_after (service r).endings (blocks_with r.value_block processes)).processes
      ∙ kept_ended (service r).endings (blocks_with r.value_block processes)

  -- a new request
  pub kept_entered : (s : State) (e : NewRequest) → map shown (enq_change s e).processes ≡ map shown s.processes
  unfolding enq_change
  kept_entered s e =
      kept_ended (enq_endings s e)
      (blocks_with (enq_resource s e).value_block (processes_after_acceptance e.pid e.block s.next_lkid s.processes))
      ∙ kept_accepted shown no_blocks e.pid e.block s.next_lkid s.processes

  -- a conversion
  pub kept_converted : (s : State) (c : Conversion) (a : ConversionAdmission) → map shown (convert_change s c a).processes ≡ map shown s.processes
  unfolding convert_change convert_blocks
  kept_converted s c a =
      kept_ended (conversion_endings a)
      (blocks_with a.resource.value_block (processes_after_acceptance c.pid c.block (convert_lkid s c) s.processes))
      ∙ kept_accepted shown no_blocks c.pid c.block (convert_lkid s c) s.processes

-- ---- what is read of one process

-- what a change of each process keeps of it, it keeps of the one that is there
pub read_mapped : {X : Type 0} (part : Process → X) (nothing : X) (change : Process → Process) → ((p : Process) → (change p).pid ≡ p.pid)
    → ((p : Process) → part (change p) ≡ part p) → (pid : ℕ) (processes : List Process)
    → option_map_or part (process_of (map change processes) pid) nothing ≡ option_map_or part (process_of processes pid) nothing
read_mapped part nothing change same keeps pid [] = refl
read_mapped {X} part nothing change same keeps pid (p ∷ rest) =
    ap (λ (owner : ℕ). option_map_or part (cond (owner == pid) (Some (change p)) (process_of (map change rest) pid)) nothing) (same p)
    ∙ of_test (p.pid == pid) (read_mapped part nothing change same keeps pid rest)
  where
    of_test : (found : Bool)
        → option_map_or part (process_of (map change rest) pid) nothing ≡ option_map_or part (process_of rest pid) nothing
        → option_map_or part (cond found (Some (change p)) (process_of (map change rest) pid)) nothing
        ≡ option_map_or part (cond found (Some p) (process_of rest pid)) nothing
    of_test true behind = keeps p
    of_test false behind = behind

-- ASTs that are queued leave the status blocks of each process
pub blocks_queued : (queued : List Queued) (processes : List Process) (pid : ℕ)
    → status_blocks_of (processes_after_asts queued processes) pid ≡ status_blocks_of processes pid
unfolding process_after_queueing
blocks_queued [] processes pid = refl
blocks_queued (q ∷ queued) processes pid =
    blocks_queued queued (processes_after_queueing q.pid q.ast processes) pid
    ∙ read_mapped (λ p. p.blocks) [] (process_after_queueing q.pid q.ast) (named q) (blocks q) pid processes
  where
    named : (one : Queued) (p : Process) → (process_after_queueing one.pid one.ast p).pid ≡ p.pid
    named one p = cond_both (p.pid == one.pid) (with_ast one.ast p) p (λ x. x.pid ≡ p.pid) (λ _. refl) (λ _. refl)

    blocks : (one : Queued) (p : Process) → (process_after_queueing one.pid one.ast p).blocks ≡ p.blocks
    blocks one p = cond_both (p.pid == one.pid) (with_ast one.ast p) p (λ x. x.blocks ≡ p.blocks) (λ _. refl) (λ _. refl)
