-- A conversion and a dequeue on the records are those of the plain machine.
use Rattle.std.proofs.Common.{◌≡◌, ◌+◌, Bool, false, List, [], ◌∷◌, map, flat_map, Some, IfSome, refl, sym, ap, ◌∙◌}
use Rattle.std.proofs.lemmas.List.{append-nil}
use Rattle.std.proofs.lemmas.Option.{same_Some}
use Rattle.vlm_words.specs.declared.locks.Request.{Request}
use Rattle.vlm_words.specs.declared.resources.ValueBlock.{ValueBlock}
use Rattle.vlm_words.specs.declared.steps.Conversion.{Conversion}
use Rattle.vlm_words.specs.declared.steps.Dequeue.{Dequeue}
use Rattle.vlm_model.specs.Convert.{ConversionAdmission, conversion_blocks, convert_admission, convert_blocks}
use Rattle.vlm_model.specs.Convert.{convert_change, convert_lkid, convert_request, resource_after_conversion}
use Rattle.vlm_model.specs.Dequeue.{deq_change, dequeue_lkid, withdrawal_of, withdrawals_of}
use Rattle.vlm_words.specs.Flags.{deqall, has_flag}
use Rattle.vlm_model.specs.Withdrawals.{Withdrawal, processes_after, resource_after_withdrawals, withdrawal_endings, withdrawn_endings}
use Rattle.vlm_model.specs.Effects.{Blocks}
use Rattle.vlm_words.specs.State.{Process, Resource, State}
use Rattle.vlm_model.specs.StatusBlocks.{processes_after_acceptance}
use Rattle.vlm_store.specs.Plain.{plain_processes, plain_resources}
use Rattle.vlm_store.specs.Records.{Records, StoredResource, resource_at}
use Rattle.vlm_locks.specs.declared.located_locks.LocatedLock.{LocatedLock}
use Rattle.vlm_locks.specs.Converting.{IsConverted, admission_on, processes_converting}
use Rattle.vlm_machine.specs.Admissions.{IsAdmittedConversion}
use Rattle.vlm_machine.specs.Machine.{MachineState, plain_state}

module _ (old : MachineState) (c : Conversion) (f : LocatedLock) (at_once : Bool)
    (admitted : IsAdmittedConversion old c f at_once) (asked : Request)
    (asked_is : asked ≡ convert_request (plain_state old) c) where
  -- the resource of the lock
  abbrev own : StoredResource
  own = admitted.located.located.resource

  -- the conversion there, as it is admitted
  abbrev admission : ConversionAdmission
  admission = admission_on f asked own

  -- what the conversion writes, once its status block is accepted
  blocks_is : conversion_blocks admission (processes_converting f asked old.records) ≡ convert_blocks (plain_state old) c admission
  unfolding convert_blocks
  blocks_is =
      ap (λ pid. conversion_blocks admission (processes_after_acceptance pid asked.block f.row.lkid (plain_processes old.records))) admitted.located.owned
      ∙ ap (λ lkid. conversion_blocks admission (processes_after_acceptance c.pid asked.block lkid (plain_processes old.records))) admitted.located.named
      ∙ ap (λ (q : Request). conversion_blocks admission
      (processes_after_acceptance c.pid q.block (convert_lkid (plain_state old) c)
      (plain_processes old.records))) asked_is

  -- the resources once the lock is converted
  resources_are : (new : Records) → IsConverted f asked (processes_converting f asked old.records) own old.records new
      → plain_resources new ≡ map
      (resource_after_conversion asked admission.at_once c.pid (convert_lkid (plain_state old) c)
      (convert_blocks (plain_state old) c admission).value_block) (plain_resources old.records)
  resources_are new converted =
      converted.resources
      ∙ ap (λ (b : Blocks). map (resource_after_conversion asked admission.at_once f.row.pid f.row.lkid b.value_block) (plain_resources old.records)) blocks_is
      ∙ ap (λ pid. map (resource_after_conversion asked admission.at_once pid f.row.lkid left) (plain_resources old.records)) admitted.located.owned
      ∙ ap (λ lkid. map (resource_after_conversion asked admission.at_once c.pid lkid left) (plain_resources old.records)) admitted.located.named
    where
      left : ValueBlock
      left = (convert_blocks (plain_state old) c admission).value_block

  -- the state once the lock is converted and the request number is used up
  pub state_converted : (new : Records)
      → IfSome (resource_at f.res old.records.resources) (λ r. IsConverted f asked (processes_converting f asked old.records) r old.records new)
      → (there : ConversionAdmission) → convert_admission (plain_state old) c ≡ Some there
      → plain_state (record old { records = new; next_request = old.next_request + 1 }) ≡ convert_change (plain_state old) c there
  unfolding convert_change
  state_converted new converts there found =
      let converted : IsConverted f asked (processes_converting f asked old.records) own old.records new = rw admitted.located.located.found at converts in
      ap (λ ps. with_parts ps (plain_resources new)) (converted.statuses ∙ ap (λ (b : Blocks). b.processes) blocks_is)
      ∙ ap (λ rs. with_parts (convert_blocks (plain_state old) c admission).processes rs) (resources_are new converted)
      ∙ ap (convert_change (plain_state old) c)
      (same_Some admission there (sym (admitted.found ∙ ap (λ q. Some (admission_on f q own)) (sym asked_is))
      ∙ found))
    where
      with_parts : List Process → List Resource → State
      with_parts ps rs = record (plain_state old) { processes = ps; resources = rs; next_request = old.next_request + 1 }

-- withdrawn is the one lock that is named
one_withdrawn : (s : State) (d : Dequeue) → has_flag d.flags deqall ≡ false → withdrawal_of d (dequeue_lkid s d) ∷ [] ≡ withdrawals_of s d
one_withdrawn s d alone = rw alone refl

-- and its request ends
one_ends : (w : Withdrawal) (resources : List Resource) → withdrawn_endings (w ∷ []) resources ≡ flat_map (withdrawal_endings w) resources
one_ends w resources = append-nil (flat_map (withdrawal_endings w) resources)

-- the state once the lock is withdrawn
pub state_withdrawn : (old : MachineState) (d : Dequeue) (w : Withdrawal) (new : Records) → has_flag d.flags deqall ≡ false
    → w ≡ withdrawal_of d (dequeue_lkid (plain_state old) d)
    → plain_resources new ≡ map (resource_after_withdrawals (w ∷ [])) (plain_resources old.records)
    → plain_processes new ≡ processes_after (flat_map (withdrawal_endings w) (plain_resources old.records)) (plain_processes old.records)
    → plain_state (record old { records = new }) ≡ deq_change (plain_state old) d
unfolding deq_change
state_withdrawn old d w new alone is resources statuses =
    ap (λ ps. with_parts ps (plain_resources new)) statuses
    ∙ ap (λ rs. with_parts (processes_after (flat_map (withdrawal_endings w) (plain_resources old.records)) (plain_processes old.records)) rs) resources
    ∙ ap (λ ends. with_parts (processes_after ends (plain_processes old.records)) (map (resource_after_withdrawals (w ∷ [])) (plain_resources old.records)))
    (sym (one_ends w (plain_resources old.records)))
    ∙ ap (λ (ws : List Withdrawal). with_parts (processes_after (withdrawn_endings ws (plain_resources old.records)) (plain_processes old.records))
    (map (resource_after_withdrawals ws) (plain_resources old.records))) (ap (λ x. x ∷ []) is ∙ one_withdrawn (plain_state old) d alone)
  where
    with_parts : List Process → List Resource → State
    with_parts ps rs = record (plain_state old) { processes = ps; resources = rs }
