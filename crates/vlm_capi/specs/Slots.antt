-- The memory that a slot owns.
use Rattle.std.specs.Prelude.{Option, Some, None}
use mir.Syntax.{Ty}
use base.Fml.{Fml, ftrue}
use denote.RawPtr.{Ptr}
use Rattle.std.specs.Box.Ownership.{box_owns}
use Rattle.std.specs.contracts.impls.GlobalAllocator.TheImpl.{ghosts}
use Rattle.vlm_capi.specs.declared.held.Held.{Held}
use Rattle.vlm_capi.specs.contracts.held.Held.{the_row}

-- the right to free a block of the heap `Global`
abbrev pub holds : Ty → Ptr → Fml
holds = ghosts.dealloc_token (record { memory = record { seal = tt } })

-- what is held and the block that holds it; an empty slot owns nothing
abbrev pub slot_owns : Ptr → Option Held → Fml
slot_owns p (Some held) = box_owns holds the_row p held
slot_owns p None = ftrue
