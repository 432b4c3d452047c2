-- The notes that a step keeps of the resources that it touches, and the room for them and for the marks of a search.
use Rattle.std.specs.Prelude.{◌≡◌, ◌≤◌, ◌+◌, ℕ, List, [], length, sum_by}
use Rattle.std.specs.List.{AllByRecursion}
use Rattle.vlm_words.specs.State.{Resource}
use Rattle.vlm_locks.specs.Sweeping.{AreStableBut}
use Rattle.vlm_locks.specs.Touched.{AreThere, StandBySerial, Touches, touched_handles}
use Rattle.vlm_cycle.specs.declared.scratch.Scratch.{Scratch}
use Rattle.vlm_cycle.specs.Marking.{HasRoomInBoth}
use Rattle.vlm_machine.specs.Machine.{MachineState, plain_state}

-- how many locks the resources have
abbrev pub total_locks_on : List Resource → ℕ
total_locks_on resources = sum_by (λ r. length r.granted + length r.converting + length r.waiting) resources

-- nothing is noted, and there is room to note the resource of each lock
pub record HasRoomToNote (touched : Touches) (m : MachineState) : Type 0 where
  pub none : touched.noted ≡ []
  pub room : total_locks_on (plain_state m).resources ≤ touched.room

-- a search has room to mark each living process
abbrev pub HasRoomToMark : Scratch → MachineState → Type 0
HasRoomToMark marks m = AllByRecursion (λ p. HasRoomInBoth marks p.pid) (plain_state m).processes

-- the step is ready for its sweep: the resources that it touched are noted, and no other resource needs a sweep
pub record IsToSweep (touched : Touches) (m : MachineState) : Type 0 where
  pub noted : AreThere touched.noted m.records
  pub rise : StandBySerial m.records.resources
  pub stable : AreStableBut (touched_handles touched.noted) m.records.resources
