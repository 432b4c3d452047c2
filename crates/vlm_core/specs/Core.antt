-- The invariant of a core.
use Rattle.vlm_model.specs.Runs.{History, Run}
use Rattle.vlm_words.specs.State.{State}
use Rattle.vlm_machine.specs.Machine.{plain_state}
use Rattle.vlm_machine.specs.Notes.{HasRoomToMark, HasRoomToNote}
use Rattle.vlm_core.specs.declared.public.Core.TheInside.{Inside}

-- some run leads to the state
pub record IsReachable (s : State) : Type 0 where
  pub history : History
  pub run : Run history s

-- between two steps some run leads to the machine's state, an ending finds room for its notes, and a search for its
-- marks
pub record IsCore (c : Inside) : Type 0 where
  pub reachable : IsReachable (plain_state c.machine)
  pub notes : HasRoomToNote c.touched c.machine
  pub marks : HasRoomToMark c.scratch c.machine
