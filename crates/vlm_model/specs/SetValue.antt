-- The step SetValue: writes the value part of a status block, and its tail if one is given.
use Rattle.std.specs.Prelude.{Option}
use Rattle.vlm_words.specs.declared.conditions.Cond.{Cond}
use Rattle.vlm_words.specs.declared.steps.ValueSetting.{ValueSetting}
use Rattle.vlm_words.specs.State.{State}
use Rattle.vlm_model.specs.StatusBlocks.{processes_after_setting}
use Rattle.vlm_model.specs.Checks.{caller_refusal, or_else, status_block_refusal}

-- the checks of a SetValue, in their order
unfoldable pub set_refusal : State → ValueSetting → Option Cond
set_refusal s v = or_else (caller_refusal s v.pid) (status_block_refusal s v.pid v.block)

-- the value part is written, and the tail if one is given
unfoldable pub set_change : State → ValueSetting → State
set_change s v = record s { processes = processes_after_setting v.pid v.block v.value v.tail s.processes }
