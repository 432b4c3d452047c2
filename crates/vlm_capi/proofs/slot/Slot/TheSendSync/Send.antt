-- A slot may cross threads as what it owns may: any thread may free a block of `Global`.
use mir.Raw.{raw}
use denote.Memory.{lone}
use denote.Param.Send.{IsSend, owning_send, struct_send, recorded_send, sendable}
use denote.Builtin.{RawPtr}
use denote.RawPtr.{Ptr}
use base.Shift.{Keyless}
use denote.Struct.Struct.{exits_of}
use denote.Struct.Owning.{shape, fields, to}
use Rattle.std_alloc.proofs.SendSync.{quiet, lies}
use Rattle.std.specs.Prelude.{Option, Some, None}
use Rattle.std.proofs.Crossing.{frees}
use Rattle.vlm_capi.specs.Slots.{slot_owns}
use Rattle.vlm_capi.specs.declared.held.Held.{Held}
use Rattle.vlm_capi.specs.contracts.held.Held as inner
use Rattle.vlm_capi.proofs.held.Held.TheSendSync as crosses
use Rattle.vlm_capi.specs.contracts.slot.Slot.{the_row, the_type}

owned : (p : Ptr) (c : Option Held) → Keyless (slot_owns p c)
owned p (Some x) = (
  lies inner.the_row
      (recorded_send (inner.the_field).row _ _ (inner.the_type).to_one crosses.the_field_send) p x,
  frees.frees (record { memory = record { seal = tt } }) (raw (lone (inner.the_row).mir)) p,
)
owned p None = tt

pub send : IsSend the_row
send = let O = the_type in let ps : IsSend RawPtr = search sendable in
    owning_send O (ps, tt) (λ d. owned d.at d.held) (λ k. quiet (to O) (exits_of k (fields O)) ((struct_send (shape O) (ps, tt)).leaving k))
