-- What a grant writes into a status block.
use Rattle.std.proofs.Common.{◌≡◌, ℕ, Bool, true, false, List, [], ◌∷◌, ◌++◌, cond, not, Option, None, Some, refl, sym, subst, ap, ◌∙◌}
use Rattle.std.specs.Prelude.{◌&&◌}
use Rattle.std.specs.List.{AllByRecursion}
use Rattle.vlm_words.specs.declared.blocks.Block.{Block}
use Rattle.vlm_words.specs.declared.conditions.Cond.TheVariants.{Normal, Valnotvalid, Widenotvalid}
use Rattle.vlm_words.specs.declared.modes.Act.TheVariants.{Nothing, Return, Write}
use Rattle.vlm_words.specs.declared.resources.ValueBlock.{ValueBlock}
use Rattle.vlm_words.specs.Conditions.{condition_number}
use Rattle.vlm_words.specs.State.{Process, Resource}
use Rattle.vlm_model.specs.Endings.{Ending, How}
use Rattle.vlm_model.specs.Endings.How.{by_abort, by_cancel, by_deadlock, by_grant, by_rundown}
use Rattle.vlm_model.specs.Effects.{Blocks, blocks_after, blocks_after_ending, blocks_with, is_wide}
use Rattle.vlm_model.specs.Grants.{service}
use Rattle.vlm_model.specs.Sweeps.{blocks_after_service, processes_after_service, sweep_endings}
use Rattle.vlm_model.specs.Written.{is_end_for, last_end, later_end}
use Rattle.vlm_model.specs.Returned.{is_return, is_wide_return, last_of_kind, last_return, last_wide_return, told_by_marks}
use Rattle.vlm_model.proofs.SweptValues.{WritesNothing, end_leaves}
use Rattle.vlm_model.proofs.Each.{each_weaker}
use Rattle.vlm_model.proofs.EndWrites.{AreLeft, ServiceLeaves, block_after_how, left_by_both, left_by_none, left_by_one, left_swept, left_with_asts}
use Rattle.vlm_model.proofs.StatusBlockWrites.{last_of_both, later_end-none, later_end-twice}
use Rattle.vlm_model.specs.Asts.{warnings}

module _ (P : Ending → ValueBlock → Type 0) where
  -- what the last return makes of a part of the status block
  abbrev pub PartBy : (ValueBlock → List ℕ) → Option Ending → List ℕ → List ℕ → Type 0
  PartBy part None before after = after ≡ before
  PartBy part (Some ending) before after = (block : ValueBlock) × P ending block × (after ≡ part block)

  -- of its value part
  abbrev pub ValueBy : Option Ending → List ℕ → List ℕ → Type 0
  ValueBy = PartBy (λ block. block.value)

  -- of its tail
  abbrev pub TailBy : Option Ending → List ℕ → List ℕ → Type 0
  TailBy = PartBy (λ block. block.tail)

  -- what the last end makes of a status, where it is a return
  abbrev pub StatusBy : Option Ending → ℕ → ℕ → Type 0
  StatusBy None before after = after ≡ before
  StatusBy (Some ending) before after = ending.how ≡ by_grant Return → (block : ValueBlock) × P ending block
      × (after ≡ condition_number (told_by_marks (is_wide ending.request) block.valid block.tail_valid))

  -- what ends make of a status block
  pub record ReturnsTo (pid number : ℕ) (endings : List Ending) (before after : Block) : Type 0 where
    pub value : ValueBy (last_return pid number endings) before.value after.value
    pub tail : TailBy (last_wide_return pid number endings) before.tail after.tail
    pub status : StatusBy (last_end pid number endings) before.status after.status

  -- ---- one end

  returns_nothing : (pid number : ℕ) (block : Block) → ReturnsTo pid number [] block block
  returns_nothing pid number block = record { value = refl; tail = refl; status = refl }

  -- what it makes of its own block
  own_value : (ending : Ending) (how : How) (wide : Bool) (block : ValueBlock) (before : Block) → (how ≡ by_grant Return → P ending block)
      → ValueBy (cond (is_return how) (Some ending) None) before.value (block_after_how how wide block before).value
  own_value ending (by_grant Nothing) wide block before its = refl
  own_value ending (by_grant Return) wide block before its = (block, its refl, refl)
  own_value ending (by_grant Write) wide block before its = refl
  own_value ending by_abort wide block before its = refl
  own_value ending by_cancel wide block before its = refl
  own_value ending by_deadlock wide block before its = refl
  own_value ending by_rundown wide block before its = refl

  own_tail : (ending : Ending) (how : How) (wide : Bool) (block : ValueBlock) (before : Block) → (how ≡ by_grant Return → P ending block)
      → TailBy (cond (is_return how && wide) (Some ending) None) before.tail (block_after_how how wide block before).tail
  own_tail ending (by_grant Nothing) wide block before its = refl
  own_tail ending (by_grant Return) true block before its = (block, its refl, refl)
  own_tail ending (by_grant Return) false block before its = refl
  own_tail ending (by_grant Write) wide block before its = refl
  own_tail ending by_abort wide block before its = refl
  own_tail ending by_cancel wide block before its = refl
  own_tail ending by_deadlock wide block before its = refl
  own_tail ending by_rundown wide block before its = refl

  own_status : (ending : Ending) (how : How) (wide : Bool) (block : ValueBlock) (before : Block) → (how ≡ by_grant Return → P ending block)
      → how ≡ by_grant Return
      → (b : ValueBlock) × P ending b × ((block_after_how how wide block before).status ≡ condition_number (told_by_marks wide b.valid b.tail_valid))
  own_status ending (by_grant Nothing) wide block before its is = cc
  own_status ending (by_grant Return) wide block before its is = (block, its refl, of_marks block.valid wide block.tail_valid)
    where
      of_marks : (valid wide tail_valid : Bool)
          → condition_number (cond (not valid) Valnotvalid
          (cond (wide && not tail_valid) Widenotvalid Normal)) ≡ condition_number
          (told_by_marks wide valid tail_valid)
      of_marks false wide tail_valid = refl
      of_marks true true false = refl
      of_marks true true true = refl
      of_marks true false tail_valid = refl
  own_status ending (by_grant Write) wide block before its is = cc
  own_status ending by_abort wide block before its is = cc
  own_status ending by_cancel wide block before its is = cc
  own_status ending by_deadlock wide block before its is = cc
  own_status ending by_rundown wide block before its is = cc

  returns_one : (pid number : ℕ) (ending : Ending) (block : ValueBlock) (before : Block) → (ending.how ≡ by_grant Return → P ending block)
      → ReturnsTo pid number (ending ∷ []) before
      (cond (is_end_for pid number ending)
      (block_after_how ending.how (is_wide ending.request) block before) before)
  returns_one pid number ending block before its = of_test (is_end_for pid number ending) refl
    where
      of_test : (this : Bool) → is_end_for pid number ending ≡ this
          → ReturnsTo pid number (ending ∷ []) before
          (cond this (block_after_how ending.how (is_wide ending.request) block before) before)
      of_test true is = record {
        value = rw is (own_value ending ending.how (is_wide ending.request) block before its);
        tail = rw is (own_tail ending ending.how (is_wide ending.request) block before its);
        status = rw is (own_status ending ending.how (is_wide ending.request) block before its);
      }
      of_test false is = record { value = rw is refl; tail = rw is refl; status = rw is refl }

  -- ---- one after another

  last_of_both_lists : (is_one : Ending → Bool) (pid number : ℕ) (first second : List Ending)
      → last_of_kind is_one pid number (first ++ second) ≡ later_end (last_of_kind is_one pid number second) (last_of_kind is_one pid number first)
  last_of_both_lists is_one pid number [] second = later_end-none (last_of_kind is_one pid number second)
  last_of_both_lists is_one pid number (ending ∷ first) second =
      ap (λ (last : Option Ending). later_end last
      (cond (is_end_for pid number ending && is_one ending) (Some ending) None))
      (last_of_both_lists is_one pid number first second)
      ∙ later_end-twice (last_of_kind is_one pid number second) (last_of_kind is_one pid number first)
      (cond (is_end_for pid number ending && is_one ending) (Some ending) None)

  part_by_both : (part : ValueBlock → List ℕ) (first second : Option Ending) (a b c : List ℕ) → PartBy part first a b → PartBy part second b c
      → PartBy part (later_end second first) a c
  part_by_both part first None a b c one other = subst (λ (bytes : List ℕ). PartBy part first a bytes) (sym other) one
  part_by_both part first (Some ending) a b c one other = other

  part_of_both : (part : ValueBlock → List ℕ) (is_one : Ending → Bool) (pid number : ℕ) (first second : List Ending) (a b c : List ℕ)
      → PartBy part (last_of_kind is_one pid number first) a b → PartBy part (last_of_kind is_one pid number second) b c
      → PartBy part (last_of_kind is_one pid number (first ++ second)) a c
  part_of_both part is_one pid number first second a b c one other =
      subst (λ (last : Option Ending). PartBy part last a c) (sym (last_of_both_lists is_one pid number first second))
      (part_by_both part (last_of_kind is_one pid number first) (last_of_kind is_one pid number second) a b c one other)

  status_by_both : (first second : Option Ending) (a b c : ℕ) → StatusBy first a b → StatusBy second b c → StatusBy (later_end second first) a c
  status_by_both first None a b c one other = subst (λ (status : ℕ). StatusBy first a status) (sym other) one
  status_by_both first (Some ending) a b c one other = other

  returns_both : (pid number : ℕ) (first second : List Ending) (a b c : Block) → ReturnsTo pid number first a b → ReturnsTo pid number second b c
      → ReturnsTo pid number (first ++ second) a c
  returns_both pid number first second a b c one other = record {
    value = part_of_both (λ block. block.value) (λ ending. is_return ending.how) pid number first second a.value b.value c.value one.value other.value;
    tail = part_of_both (λ block. block.tail) is_wide_return pid number first second a.tail b.tail c.tail one.tail other.tail;
    status =
        subst (λ (last : Option Ending). StatusBy last a.status c.status) (sym (last_of_both pid number first second))
        (status_by_both (last_end pid number first) (last_end pid number second) a.status b.status c.status one.status other.status);
  }

  -- ---- all ends of a step

  -- what ends make of all status blocks
  abbrev pub AreReturned : List Ending → List Process → List Process → Type 0
  AreReturned = AreLeft ReturnsTo

  pub none_returned : (processes : List Process) → AreReturned [] processes processes
  none_returned = left_by_none ReturnsTo returns_nothing

  pub one_returned : (ending : Ending) (b : Blocks) → (ending.how ≡ by_grant Return → P ending b.value_block)
      → AreReturned (ending ∷ []) b.processes (blocks_after_ending ending b).processes
  one_returned ending b its =
      left_by_one ReturnsTo ending b (λ pid number before. returns_one pid number ending b.value_block before its)

  -- what is returned, where it is, is the value block that stands there
  abbrev pub Its : ValueBlock → Ending → Type 0
  Its block ending = ending.how ≡ by_grant Return → P ending block

  -- ends that do not write the value block
  pub all_returned : (endings : List Ending) (b : Blocks) → AllByRecursion WritesNothing endings
      → AllByRecursion (Its b.value_block) endings → AreReturned endings b.processes (blocks_after endings b).processes
  all_returned [] b nothing its = none_returned b.processes
  all_returned (ending ∷ endings) b nothing its =
      left_by_both ReturnsTo returns_both (ending ∷ []) endings b.processes (blocks_after_ending ending b).processes
      (blocks_after endings (blocks_after_ending ending b)).processes
      (one_returned ending b its.0)
      (all_returned endings (blocks_after_ending ending b) nothing.1
      (subst (λ (block : ValueBlock). AllByRecursion (Its block) endings) (sym (end_leaves ending.how ending b nothing.0)) its.1))

  -- the grants on a resource in a sweep
  pub record Serves (r : Resource) : Type 0 where
    pub nothing : AllByRecursion WritesNothing (service r).endings
    pub its : AllByRecursion (Its r.value_block) (service r).endings

  -- the ends of a change, and then the grants of its sweep
  pub returned_swept : (endings : List Ending) (before changed : List Process) (resources : List Resource) → AreReturned endings before changed
      → AllByRecursion Serves resources → AreReturned (endings ++ sweep_endings resources) before (processes_after_service changed resources)
  unfolding blocks_after_service
  returned_swept endings before changed resources left serves =
      left_swept ReturnsTo returns_nothing returns_both endings before changed resources left
      (each_weaker Serves (ServiceLeaves ReturnsTo) served resources serves)
    where
      served : (r : Resource) → Serves r → ServiceLeaves ReturnsTo r
      served r each processes =
          left_with_asts ReturnsTo (warnings (service r).resource) (service r).endings processes
          (blocks_after (service r).endings (blocks_with r.value_block processes)).processes
          (all_returned (service r).endings (blocks_with r.value_block processes) each.nothing each.its)
