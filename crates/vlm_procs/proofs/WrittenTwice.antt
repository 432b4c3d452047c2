-- Two changes of a status block, one after the other, are one change of it.
use Rattle.std.proofs.Common.{◌≡◌, ◌-◌, ℕ, Bool, true, false, cond, get_or, set, length, List, [], ◌∷◌, map, Some, refl}
use Rattle.std.proofs.Common.{sym, ap, ◌∙◌, subst, inl, inr, eq-eqb, ne_eqb}
use Rattle.std.specs.Prelude.{◌==◌, nat_lt}
use Rattle.std.proofs.lemmas.Bool.{cases_eq, cases_lt}
use Rattle.std.proofs.lemmas.List.{get_or-set_same, set-set, set_past}
use Rattle.std.proofs.lemmas.Option.{same_Some}
use Rattle.vlm_words.specs.declared.blocks.Block.{Block}
use Rattle.vlm_words.specs.State.{Process, process_of}
use Rattle.vlm_words.specs.Processes.{new_status_block, process_with_block, with_block}
use Rattle.vlm_model.specs.StatusBlocks.{process_after_write, processes_after_write, status_block_of}
use Rattle.vlm_records.specs.StatusBlocks.{block_or_new, with_changed_block}
use Rattle.vlm_collections.specs.Lists.{IsIn}
use Rattle.vlm_store.specs.Plain.{plain_processes}
use Rattle.vlm_store.specs.Records.{IsProcess, IsSound, Records, StoredProcess}
use Rattle.vlm_store.proofs.PlainProcesses.{process_of-stored}

-- the same block of one process is changed twice
twice_here : (n : ℕ) (f g : Block → Block) (blocks : List Block)
    → with_block n (f (block_or_new n (with_block n (g (block_or_new n blocks)) blocks))) (with_block n (g (block_or_new n blocks)) blocks)
    ≡ with_block n (f (g (block_or_new n blocks))) blocks
twice_here n f g blocks = of_number (nat_lt 0 n)
  where
    first : Block
    first = g (get_or blocks (n - 1) new_status_block)

    of_number : (named : Bool)
        → cond named (set (cond named (set blocks (n - 1) (g (cond named (get_or blocks (n - 1) new_status_block) new_status_block))) blocks) (n - 1)
        (f (cond named (get_or
        (cond named (set blocks (n - 1)
        (g (cond named (get_or blocks (n - 1) new_status_block) new_status_block))) blocks)
        (n - 1) new_status_block) new_status_block)))
        (cond named (set blocks (n - 1) (g (cond named (get_or blocks (n - 1) new_status_block) new_status_block))) blocks)
        ≡ cond named (set blocks (n - 1) (f (g (cond named (get_or blocks (n - 1) new_status_block) new_status_block)))) blocks
    of_number false = refl
    of_number true =
        elim (cases_lt (n - 1) (length blocks)) [
          | inl within ↦ ap (λ b. set (set blocks (n - 1) first) (n - 1) (f b))
              (get_or-set_same blocks (n - 1) first new_status_block within) ∙ set-set blocks (n - 1) first (f first)
          | inr past ↦ rw (set_past blocks (n - 1) first past)
              (set_past blocks (n - 1) (f (get_or blocks (n - 1) new_status_block)) past
              ∙ sym (set_past blocks (n - 1) (f first) past))
        ]

module _ (pid n : ℕ) where
  -- the change of the block of each process that has the ID
  abbrev changing : (Block → Block) → Process → Process
  changing change p = cond (p.pid == pid) (with_changed_block n change p) p

  -- no other process has the ID
  abbrev IsOnly : Process → List Process → Type 0
  IsOnly x [] = Unit {0}
  IsOnly x (p ∷ ps) = (p.pid ≡ pid → p ≡ x) × IsOnly x ps

  -- it is the write of what the change makes of the block
  written : (change : Block → Block) (x : Process) (ps : List Process) → IsOnly x ps
      → map (changing change) ps ≡ processes_after_write pid n (change (block_or_new n x.blocks)) ps
  unfolding process_after_write
  written change x [] only = refl
  written change x (p ∷ ps) only =
      elim (cases_eq p.pid pid) [
        | inl same ↦ rw (eq-eqb p.pid pid same) (ap (λ (y : Process). with_changed_block n change y ∷ map (changing change) ps) (only.0 same)
            ∙ ap (λ (y : Process). process_with_block n (change (block_or_new n x.blocks)) y ∷ map (changing change) ps) (sym (only.0 same))
            ∙ ap (λ rest. process_with_block n (change (block_or_new n x.blocks)) p ∷ rest) (written change x ps only.1))
        | inr differs ↦ rw (ne_eqb p.pid pid differs) (ap (λ rest. p ∷ rest) (written change x ps only.1))
      ]

  -- the process is found still, as it was changed
  found_still : (change : Block → Block) (x : Process) (ps : List Process) → process_of ps pid ≡ Some x
      → process_of (map (changing change) ps) pid ≡ Some (with_changed_block n change x)
  found_still change x [] found = cc
  found_still change x (p ∷ ps) found =
      elim (cases_eq p.pid pid) [
        | inl same ↦ rw (eq-eqb p.pid pid same)
            (rw (eq-eqb p.pid pid same)
            (ap (λ (y : Process). Some (with_changed_block n change y))
            (same_Some p x (rw (eq-eqb p.pid pid same) at found))))
        | inr differs ↦ rw (ne_eqb p.pid pid differs) (rw (ne_eqb p.pid pid differs) (found_still change x ps (rw (ne_eqb p.pid pid differs) at found)))
      ]

  -- and is still the only one
  only_still : (change : Block → Block) (x : Process) (ps : List Process) → IsOnly x ps → IsOnly (with_changed_block n change x) (map (changing change) ps)
  only_still change x [] only = tt
  only_still change x (p ∷ ps) only = (here, only_still change x ps only.1)
    where
      here : (changing change p).pid ≡ pid → changing change p ≡ with_changed_block n change x
      here =
          elim (cases_eq p.pid pid) [
            | inl same ↦ rw (eq-eqb p.pid pid same) (λ _. ap (with_changed_block n change) (only.0 same))
            | inr differs ↦ rw (ne_eqb p.pid pid differs) (λ same. absurd (differs same))
          ]

  -- both changes are one
  both : (f g : Block → Block) (ps : List Process) → map (changing f) (map (changing g) ps) ≡ map (changing (λ b. f (g b))) ps
  both f g [] = refl
  both f g (p ∷ ps) =
      elim (cases_eq p.pid pid) [
        | inl same ↦ rw (eq-eqb p.pid pid same)
            (rw (eq-eqb p.pid pid same)
            (ap (λ blocks. record p { blocks = blocks } ∷ map (changing f) (map (changing g) ps))
            (twice_here n f g p.blocks)
            ∙ ap (λ rest. with_changed_block n (λ b. f (g b)) p ∷ rest) (both f g ps)))
        | inr differs ↦ rw (ne_eqb p.pid pid differs) (rw (ne_eqb p.pid pid differs) (ap (λ rest. p ∷ rest) (both f g ps)))
      ]

  -- the block of the process that is found
  block_of : (x : Process) (ps : List Process) → process_of ps pid ≡ Some x → status_block_of ps pid n ≡ block_or_new n x.blocks
  block_of x ps found = rw found refl

  -- so one write is what two writes make
  one_write : (f g : Block → Block) (x : Process) (ps : List Process) → process_of ps pid ≡ Some x → IsOnly x ps
      → (let once = processes_after_write pid n (g (status_block_of ps pid n)) ps
      in processes_after_write pid n (f (g (status_block_of ps pid n))) ps ≡ processes_after_write pid n (f (status_block_of once pid n)) once)
  one_write f g x ps found only =
      let once : map (changing g) ps ≡ processes_after_write pid n (g (status_block_of ps pid n)) ps =
      written g x ps only ∙ ap (λ b. processes_after_write pid n (g b) ps) (sym (block_of x ps found)) in
      let after = with_changed_block n g x in
      ap (λ b. processes_after_write pid n (f (g b)) ps) (block_of x ps found)
      ∙ sym (written (λ b. f (g b)) x ps only)
      ∙ sym (both f g ps)
      ∙ written f after (map (changing g) ps) (only_still g x ps only)
      ∙ ap (λ b. processes_after_write pid n (f b) (map (changing g) ps)) (sym (block_of after (map (changing g) ps) (found_still g x ps found)))
      ∙ ap (λ (qs : List Process). processes_after_write pid n (f (status_block_of qs pid n)) qs) once

-- the process at a handle is the only one that has its ID
only_at : (x : StoredProcess) (ps : List StoredProcess) → ((p : StoredProcess) → IsIn p ps → p.process.pid ≡ x.process.pid → p.process ≡ x.process)
    → IsOnly x.process.pid 0 x.process (map (λ (p : StoredProcess). p.process) ps)
only_at x [] same = tt
only_at x (p ∷ ps) same = (same p (inl refl), only_at x ps (λ q among. same q (inr among)))

-- two writes of a status block by the handle of its process are one write of it
pub written_at_once : (s : Records) (at pid n : ℕ) (f g : Block → Block) → IsSound s → IsProcess at pid s
    → (let once = processes_after_write pid n (g (status_block_of (plain_processes s) pid n)) (plain_processes s)
    in processes_after_write pid n (f (g (status_block_of (plain_processes s) pid n))) (plain_processes s)
    ≡ processes_after_write pid n (f (status_block_of once pid n)) once)
written_at_once s at pid n f g sound is =
    let x = is.0 in
    let found = process_of-stored x s.processes sound.processes_apart is.1.0 in
    let same : (p : StoredProcess) → IsIn p s.processes → p.process.pid ≡ x.process.pid → p.process ≡ x.process =
    λ p among alike.
    same_Some p.process x.process
    (sym (process_of-stored p s.processes sound.processes_apart among) ∙ ap (process_of (plain_processes s)) alike ∙ found) in
    subst (λ (q : ℕ).
    (let once = processes_after_write q n (g (status_block_of (plain_processes s) q n)) (plain_processes s)
    in processes_after_write q n (f (g (status_block_of (plain_processes s) q n))) (plain_processes s)
    ≡ processes_after_write q n (f (status_block_of once q n)) once)) is.1.2
    (one_write x.process.pid n f g x.process (plain_processes s) found (only_at x s.processes same))
