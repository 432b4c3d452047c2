use Rattle.std.proofs.Common.{◌≡◌, ◌∙◌, ◌+◌, ℕ, Bool, true, false, [], ◌∷◌, Option, Some, ap, subst, refl}
use Rattle.std.specs.Prelude.{slice_index_or}
use Rattle.std.proofs.lemmas.Bool.{eq-eqb}
use Rattle.vlm_words.specs.declared.conditions.Cond.TheVariants.{Valnotvalid}
use Rattle.vlm_words.specs.declared.modes.Act.TheVariants.{Return}
use Rattle.vlm_words.specs.declared.resources.ValueBlock.{ValueBlock}
use Rattle.vlm_words.specs.Conditions.{condition_number}
use Rattle.vlm_words.specs.Flags.{flag_bits, has_flag, wide}
use Rattle.vlm_words.specs.State.{Resource, State}
use Rattle.vlm_model.specs.Endings.{Ending}
use Rattle.vlm_model.specs.Endings.How.{by_grant}
use Rattle.vlm_model.specs.Returned.{HoldsGranted, IsItsValue, TellsMark, TellsTail, TellsValue, last_return, last_wide_return, told_by_marks}
use Rattle.vlm_model.specs.Stepped.{stepped}
use Rattle.vlm_model.specs.Written.{blank_block, last_end}
use Rattle.vlm_model.proofs.OneLock.{any_of_one}
use Rattle.vlm_model.proofs.law_consequences.no_grant_returns_another_value.Goals as goal

-- the one return is the last
return_of_one : (ending : Ending) (number : ℕ) → ending.how ≡ by_grant Return → ending.request.block ≡ number
    → last_return ending.pid number (ending ∷ []) ≡ Some ending
return_of_one ending number how block = rw (eq-eqb ending.pid ending.pid refl, eq-eqb ending.request.block number block, how)

-- the one wide return is the last
wide_return_of_one : (ending : Ending) (number : ℕ) → ending.how ≡ by_grant Return → ending.request.block ≡ number
    → has_flag (flag_bits ending.request.flags) wide ≡ true → last_wide_return ending.pid number (ending ∷ []) ≡ Some ending
wide_return_of_one ending number how block flagged =
    rw (eq-eqb ending.pid ending.pid refl, eq-eqb ending.request.block number block, how, flagged)

-- the one ending is the last
end_of_one : (ending : Ending) (number : ℕ) → ending.request.block ≡ number → last_end ending.pid number (ending ∷ []) ≡ Some ending
end_of_one ending number block = rw (eq-eqb ending.pid ending.pid refl, eq-eqb ending.request.block number block)

-- the value block of the one resource
value_of_one : (s : State) (ending : Ending) (block : ValueBlock) (r : Resource) → s.resources ≡ r ∷ [] → IsItsValue s ending block
    → block ≡ r.value_block
value_of_one s ending block r one its =
    (any_of_one (λ (r : Resource). HoldsGranted ending r × (block ≡ r.value_block)) s.resources r one its).1

-- an invalid value is told as such
invalid_told : (is_wide valid tail_valid : Bool) → valid ≡ false → told_by_marks is_wide valid tail_valid ≡ Valnotvalid
invalid_told is_wide true tail_valid invalid = cc
invalid_told true false tail_valid invalid = refl
invalid_told false false tail_valid invalid = refl

pub returns-clause-value : goal.returns-clause-value
returns-clause-value c = λ old step choice ending k p r law ends how block lives within one.
    let last : last_return ending.pid (k + 1) (stepped old step choice).endings ≡ Some ending =
    ap (last_return ending.pid (k + 1)) ends ∙ return_of_one ending (k + 1) how block in
    let told : TellsValue (stepped old step choice).state (Some ending) (slice_index_or p.blocks k blank_block).value =
    subst (λ (end : Option Ending). TellsValue (stepped old step choice).state end (slice_index_or p.blocks k blank_block).value) last
    (law.values ending.pid k p lives within) in
    told.2 ∙ ap (λ (block : ValueBlock). block.value) (value_of_one (stepped old step choice).state ending told.0 r one told.1)

pub returns-clause-tail : goal.returns-clause-tail
returns-clause-tail c = λ old step choice ending k p r law ends how block flagged lives within one.
    let last : last_wide_return ending.pid (k + 1) (stepped old step choice).endings ≡ Some ending =
    ap (last_wide_return ending.pid (k + 1)) ends ∙ wide_return_of_one ending (k + 1) how block flagged in
    let told : TellsTail (stepped old step choice).state (Some ending) (slice_index_or p.blocks k blank_block).tail =
    subst (λ (end : Option Ending). TellsTail (stepped old step choice).state end (slice_index_or p.blocks k blank_block).tail) last
    (law.tails ending.pid k p lives within) in
    told.2 ∙ ap (λ (block : ValueBlock). block.tail) (value_of_one (stepped old step choice).state ending told.0 r one told.1)

pub returns-clause-mark : goal.returns-clause-mark
returns-clause-mark c = λ old step choice ending k p r law ends how block lives within one invalid.
    let last : last_end ending.pid (k + 1) (stepped old step choice).endings ≡ Some ending =
    ap (last_end ending.pid (k + 1)) ends ∙ end_of_one ending (k + 1) block in
    let marks : TellsMark (stepped old step choice).state (Some ending) (slice_index_or p.blocks k blank_block).status =
    subst (λ (end : Option Ending). TellsMark (stepped old step choice).state end (slice_index_or p.blocks k blank_block).status) last
    (law.marks ending.pid k p lives within) in
    let told = marks how in
    let its : told.0 ≡ r.value_block = value_of_one (stepped old step choice).state ending told.0 r one told.1 in
    told.2 ∙ ap condition_number (invalid_told (has_flag (flag_bits ending.request.flags) wide) told.0.valid told.0.tail_valid
    (ap (λ (block : ValueBlock). block.valid) its ∙ invalid))
