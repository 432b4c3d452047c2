-- The effect of a list of writes on each status block.
use Rattle.std.proofs.Common.{◌≡◌, ℕ, Bool, true, false, List, [], ◌∷◌, ◌++◌, cond, not, Option, None, Some, refl, sym, subst, ap, inl, inr, ◌∙◌}
use Rattle.std.specs.Prelude.{◌==◌, ◌&&◌}
use Rattle.std.specs.List.{AllByRecursion}
use Rattle.std.proofs.lemmas.Bool.{eqb-true}
use Rattle.vlm_words.specs.declared.blocks.Block.{Block}
use Rattle.vlm_words.specs.declared.conditions.Cond.TheVariants.{Normal, Valnotvalid, Widenotvalid}
use Rattle.vlm_words.specs.declared.modes.Act.TheVariants.{Nothing, Return, Write}
use Rattle.vlm_words.specs.declared.resources.ValueBlock.{ValueBlock}
use Rattle.vlm_words.specs.Conditions.{condition_number}
use Rattle.vlm_words.specs.State.{Process, Resource}
use Rattle.vlm_model.specs.Endings.{Ending, How, is_told}
use Rattle.vlm_model.specs.Endings.How.{by_abort, by_cancel, by_deadlock, by_grant, by_rundown}
use Rattle.vlm_model.specs.Effects.{Blocks, blocks_after, blocks_after_ending, blocks_with, is_wide}
use Rattle.vlm_model.specs.Grants.{service}
use Rattle.vlm_model.specs.Sweeps.{blocks_after_service, processes_after_service, sweep_endings}
use Rattle.vlm_model.specs.Written.{IsLeftByEnds, TellsHow, TellsLast, is_end_for, last_end, later_end}
use Rattle.vlm_model.specs.Laws.{IsGrant}
use Rattle.vlm_model.proofs.Each.{Any-behind, Any-here, any_left, each_so, each_weaker}
use Rattle.vlm_model.proofs.InOrder.{service_grants}
use Rattle.vlm_model.proofs.EndWrites.{AreLeft, ServiceLeaves, block_after_how, left_by_both, left_by_none, left_by_one, left_swept, left_with_asts}
use Rattle.vlm_model.specs.Asts.{warnings}

-- the status that it writes tells how the request ended
tells : (how : How) → is_told how ≡ true → (wide : Bool) (value : ValueBlock) (block : Block) → TellsHow how (block_after_how how wide value block).status
tells (by_grant Nothing) told wide value block = refl
tells (by_grant Return) told wide value block = of_marks value.valid wide value.tail_valid
  where
    of_marks : (valid wide tail_valid : Bool)
        → TellsHow (by_grant Return) (condition_number (cond (not valid) Valnotvalid (cond (wide && not tail_valid) Widenotvalid Normal)))
    of_marks false wide tail_valid = inr (inl refl)
    of_marks true true false = inr (inr refl)
    of_marks true true true = inl refl
    of_marks true false tail_valid = inl refl
tells (by_grant Write) told wide value block = refl
tells by_abort told wide value block = refl
tells by_cancel told wide value block = refl
tells by_deadlock told wide value block = refl
tells by_rundown told wide value block = cc

keeps_lkid : (how : How) (wide : Bool) (value : ValueBlock) (block : Block) → (block_after_how how wide value block).lkid ≡ block.lkid
keeps_lkid (by_grant Nothing) wide value block = refl
keeps_lkid (by_grant Return) wide value block = refl
keeps_lkid (by_grant Write) wide value block = refl
keeps_lkid by_abort wide value block = refl
keeps_lkid by_cancel wide value block = refl
keeps_lkid by_deadlock wide value block = refl
keeps_lkid by_rundown wide value block = refl

keeps_value : (how : How) (wide : Bool) (value : ValueBlock) (block : Block) → (how ≡ by_grant Return → ⊥)
    → (block_after_how how wide value block).value ≡ block.value
keeps_value (by_grant Nothing) wide value block other = refl
keeps_value (by_grant Return) wide value block other = absurd (other refl)
keeps_value (by_grant Write) wide value block other = refl
keeps_value by_abort wide value block other = refl
keeps_value by_cancel wide value block other = refl
keeps_value by_deadlock wide value block other = refl
keeps_value by_rundown wide value block other = refl

keeps_tail : (how : How) (wide : Bool) (value : ValueBlock) (block : Block) → ((how ≡ by_grant Return) × (wide ≡ true) → ⊥)
    → (block_after_how how wide value block).tail ≡ block.tail
keeps_tail (by_grant Nothing) wide value block other = refl
keeps_tail (by_grant Return) true value block other = absurd (other (refl, refl))
keeps_tail (by_grant Return) false value block other = refl
keeps_tail (by_grant Write) wide value block other = refl
keeps_tail by_abort wide value block other = refl
keeps_tail by_cancel wide value block other = refl
keeps_tail by_deadlock wide value block other = refl
keeps_tail by_rundown wide value block other = refl

-- nothing ended
one_left_by_none : (pid number : ℕ) (block : Block) → IsLeftByEnds pid number [] block block
one_left_by_none pid number block = record { status = refl; lkid = refl; value = λ _. refl; tail = λ _. refl }

-- one request ended
one_left_by_one : (pid number : ℕ) (ending : Ending) → is_told ending.how ≡ true → (value : ValueBlock) (before : Block)
    → IsLeftByEnds pid number (ending ∷ []) before
    (cond (is_end_for pid number ending) (block_after_how ending.how (is_wide ending.request) value before) before)
one_left_by_one pid number ending told value before = of_tests (ending.pid == pid) refl (ending.request.block == number) refl
  where
    of_tests : (mine : Bool) → (ending.pid == pid) ≡ mine → (this : Bool) → (ending.request.block == number) ≡ this
        → IsLeftByEnds pid number (ending ∷ []) before (cond (mine && this) (block_after_how ending.how (is_wide ending.request) value before) before)
    of_tests true is true at = record {
      status = rw (is, at) (tells ending.how told (is_wide ending.request) value before);
      lkid = keeps_lkid ending.how (is_wide ending.request) value before;
      value = λ none. keeps_value ending.how (is_wide ending.request) value before
          (λ returns. none (Any-here _ ending [] (eqb-true ending.pid pid is, eqb-true ending.request.block number at, returns)));
      tail = λ none. keeps_tail ending.how (is_wide ending.request) value before
          (λ returns. none (Any-here _ ending [] (eqb-true ending.pid pid is, eqb-true ending.request.block number at, returns.0, returns.1)));
    }
    of_tests true is false at = record { status = rw (is, at) refl; lkid = refl; value = λ _. refl; tail = λ _. refl }
    of_tests false is this at = record { status = rw is refl; lkid = refl; value = λ _. refl; tail = λ _. refl }

-- ---- one end after another

-- the later of an end and none is that end
pub later_end-none : (last : Option Ending) → last ≡ later_end last None
later_end-none None = refl
later_end-none (Some ending) = refl

-- of three ends the latest is one, whichever two are compared first
pub later_end-twice : (a b c : Option Ending) → later_end (later_end a b) c ≡ later_end a (later_end b c)
later_end-twice None b c = refl
later_end-twice (Some ending) b c = refl

-- the last end of both is that of the second, or else of the first
pub last_of_both : (pid number : ℕ) (first second : List Ending)
    → last_end pid number (first ++ second) ≡ later_end (last_end pid number second) (last_end pid number first)
last_of_both pid number [] second = later_end-none (last_end pid number second)
last_of_both pid number (ending ∷ first) second =
    ap (λ (last : Option Ending). later_end last (cond (is_end_for pid number ending) (Some ending) None)) (last_of_both pid number first second)
    ∙ later_end-twice (last_end pid number second) (last_end pid number first) (cond (is_end_for pid number ending) (Some ending) None)

tells_last : (first second : Option Ending) (a b c : ℕ) → TellsLast first a b → TellsLast second b c → TellsLast (later_end second first) a c
tells_last first None a b c one other = subst (λ (n : ℕ). TellsLast first a n) (sym other) one
tells_last first (Some ending) a b c one other = other

one_left_by_both : (pid number : ℕ) (first second : List Ending) (a b c : Block) → IsLeftByEnds pid number first a b → IsLeftByEnds pid number second b c
    → IsLeftByEnds pid number (first ++ second) a c
one_left_by_both pid number first second a b c one other = record {
  status =
      subst (λ (last : Option Ending). TellsLast last a.status c.status) (sym (last_of_both pid number first second))
      (tells_last (last_end pid number first) (last_end pid number second) a.status b.status c.status one.status other.status);
  lkid = other.lkid ∙ one.lkid;
  value = λ none.
      other.value (λ there. none (Any-behind _ first second there)) ∙ one.value (λ here. none (any_left _ first second here));
  tail = λ none.
      other.tail (λ there. none (Any-behind _ first second there)) ∙ one.tail (λ here. none (any_left _ first second here));
}

-- ---- all ends of a step

-- what ends make of all status blocks
abbrev pub AreLeftByEnds : List Ending → List Process → List Process → Type 0
AreLeftByEnds = AreLeft IsLeftByEnds

pub all_left_by_none : (processes : List Process) → AreLeftByEnds [] processes processes
all_left_by_none = left_by_none IsLeftByEnds one_left_by_none

-- the process is told of the end
abbrev pub IsTold : Ending → Type 0
IsTold ending = is_told ending.how ≡ true

-- the ends of requests of one resource
pub all_left : (endings : List Ending) (b : Blocks) → AllByRecursion IsTold endings → AreLeftByEnds endings b.processes (blocks_after endings b).processes
all_left [] b told = all_left_by_none b.processes
all_left (ending ∷ endings) b told =
    left_by_both IsLeftByEnds one_left_by_both (ending ∷ []) endings b.processes
    (blocks_after_ending ending b).processes (blocks_after endings (blocks_after_ending ending b)).processes
    (left_by_one IsLeftByEnds ending b (λ pid number before. one_left_by_one pid number ending told.0 b.value_block before))
    (all_left endings (blocks_after_ending ending b) told.1)

-- a process is told of each grant
grant_told : (how : How) → IsGrant how → is_told how ≡ true
grant_told (by_grant act) grants = refl
grant_told by_abort grants = absurd grants
grant_told by_cancel grants = absurd grants
grant_told by_deadlock grants = absurd grants
grant_told by_rundown grants = absurd grants

service_tells : (r : Resource) → AllByRecursion IsTold (service r).endings
service_tells r =
    each_weaker (λ ending. IsGrant ending.how) IsTold (λ ending grants. grant_told ending.how grants) (service r).endings (service_grants r)

-- the ends of a change, and then the grants of its sweep
pub all_left_swept : (endings : List Ending) (before changed : List Process) (resources : List Resource) → AreLeftByEnds endings before changed
    → AreLeftByEnds (endings ++ sweep_endings resources) before (processes_after_service changed resources)
unfolding blocks_after_service
all_left_swept endings before changed resources left =
    left_swept IsLeftByEnds one_left_by_none one_left_by_both endings before changed resources left
    (each_so (ServiceLeaves IsLeftByEnds)
    (λ r processes.
    left_with_asts IsLeftByEnds (warnings (service r).resource) (service r).endings processes
    (blocks_after (service r).endings (blocks_with r.value_block processes)).processes
    (all_left (service r).endings (blocks_with r.value_block processes) (service_tells r))) resources)
