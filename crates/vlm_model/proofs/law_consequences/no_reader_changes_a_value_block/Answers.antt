use Rattle.std.proofs.Common.{Some, ◌≡◌, ◌≢◌, ◌⊎◌, ◌-◌, inl, inr, Bool, true, false, [], ◌∷◌, ◌++◌, Option, ap, subst, sym, refl}
use Rattle.std.specs.Prelude.{Any, Contains, slice_index_or}
use Rattle.std.proofs.lemmas.List.Elements.{All-contains}
use Rattle.vlm_words.specs.declared.blocks.Block.{Block}
use Rattle.vlm_words.specs.declared.locks.LockState.{LockState}
use Rattle.vlm_words.specs.declared.locks.Request.{Request}
use Rattle.vlm_words.specs.declared.modes.Mode.TheVariants.{Ex}
use Rattle.vlm_words.specs.declared.resources.ValueBlock.{ValueBlock}
use Rattle.vlm_words.specs.declared.steps.Conversion.{Conversion}
use Rattle.vlm_words.specs.declared.steps.Which.TheVariants.{Id}
use Rattle.vlm_words.specs.declared.steps.Step.{Step}
use Rattle.vlm_words.specs.declared.steps.Step.TheVariants.{Convert, Rundown}
use Rattle.vlm_words.specs.Flags.{has_flag, valblk, wide}
use Rattle.vlm_words.specs.State.{Process, Resource, State, process_of}
use Rattle.vlm_model.specs.Checks.{named_lkid}
use Rattle.vlm_model.specs.Consequences.{IsHeldAlone}
use Rattle.vlm_model.specs.Stepped.{stepped}
use Rattle.vlm_model.specs.Writers.{HasItsValue, HasNewValue, IsInvalid, IsWriter, IsWrittenFrom, IsWrittenShort}
use Rattle.vlm_model.specs.Writers.{OnlyWritersChangeValues, WritesFrom, WritesValue}
use Rattle.vlm_model.specs.Written.{blank_block}
use Rattle.vlm_model.proofs.OneLock.{any_of_one, contains_one}
use Rattle.vlm_model.proofs.law_consequences.no_reader_changes_a_value_block.Goals as goal

-- what the law says of the one resource that is still there
of_one : (old : State) (step : Step) (choice : Option LockState) (r after : Resource) → OnlyWritersChangeValues old step choice
    → old.resources ≡ r ∷ [] → Contains (stepped old step choice).state.resources after → after.serial ≡ r.serial
    → HasItsValue old step r after
of_one old step choice r after law one there same =
    elim (All-contains (λ (after : Resource). Any (λ (before : Resource). HasItsValue old step before after) old.resources
    ⊎ HasNewValue old after) (stepped old step choice).state.resources after law there) [
      | inl was ↦ any_of_one (λ (before : Resource). HasItsValue old step before after) old.resources r one was
      | inr new ↦ absurd (All-contains (λ (before : Resource). before.serial ≢ after.serial) old.resources r new.made
          (contains_one old.resources r one) (sym same))
    ]

pub returns-clause-end_of_writer : goal.returns-clause-end_of_writer
returns-clause-end_of_writer c = λ old choice r after row held law one alone holds writes there same.
    let rows : r.granted ++ r.converting ≡ row ∷ [] = rw (alone.granted, alone.converting) in
    let here : Contains (r.granted ++ r.converting) row = contains_one (r.granted ++ r.converting) row rows in
    let writer : IsWriter row.held = subst IsWriter (sym holds) (inr writes) in
    let ends : WritesValue old (Rundown row.pid) r = (here.0, row, here.1, here.2, (refl, writer)) in
    let left : IsInvalid r.value_block.value r.value_block.tail after.value_block =
    (of_one old (Rundown row.pid) choice r after law one there same).written ends in
    (left.valid, left.value)

-- a write of a status block makes its value valid, wide or not
written : (is_wide : Bool) (from : Block) (before after : ValueBlock) → IsWrittenFrom is_wide from before after
    → (after.valid ≡ true) × (after.value ≡ from.value)
written true from before after is = (is.valid, is.value)
written false from before after is = (is.valid, is.value)

-- the conversion from EX with VALBLK writes the value block of the one resource
converts : (old : State) (c : Conversion) (choice : Option LockState) (r after : Resource) (row : LockState) (held : Request) (p : Process)
    → OnlyWritersChangeValues old (Convert c) choice → old.resources ≡ r ∷ [] → IsHeldAlone row r → row.held ≡ Some held
    → held.mode ≡ Ex → c.lock ≡ Id row.lkid → has_flag c.flags valblk ≡ true → process_of old.processes c.pid ≡ Some p
    → Contains (stepped old (Convert c) choice).state.resources after → after.serial ≡ r.serial
    → IsWrittenFrom (has_flag c.flags wide) (slice_index_or p.blocks (c.block - 1) blank_block) r.value_block after.value_block
converts old c choice r after row held p law one alone holds writes named flagged lives there same =
    let here : Contains r.granted row = contains_one r.granted row alone.granted in
    let its : row.lkid ≡ named_lkid old c.pid c.lock = sym (ap (named_lkid old c.pid) named) in
    let writer : WritesFrom row.held c.mode = subst (λ (held : Option Request). WritesFrom held c.mode) (sym holds) (inr writes) in
    let writes_value : WritesValue old (Convert c) r = (flagged, (here.0, row, here.1, here.2, (its, writer))) in
    (of_one old (Convert c) choice r after law one there same).written writes_value p lives

pub returns-clause-writer : goal.returns-clause-writer
returns-clause-writer c = λ old c' choice r after row held p law one alone holds writes named flagged lives there same.
    written (has_flag c'.flags wide) (slice_index_or p.blocks (c'.block - 1) blank_block) r.value_block after.value_block
    (converts old c' choice r after row held p law one alone holds writes named flagged lives there same)

pub returns-clause-short_write : goal.returns-clause-short_write
returns-clause-short_write c = λ old c' choice r after row held p law one alone holds writes named flagged short lives there same.
    let from : Block = slice_index_or p.blocks (c'.block - 1) blank_block in
    let is : IsWrittenShort from.value r.value_block after.value_block =
    subst (λ (is_wide : Bool). IsWrittenFrom is_wide from r.value_block after.value_block) short
    (converts old c' choice r after row held p law one alone holds writes named flagged lives there same) in
    (is.tail_valid, is.tail)
