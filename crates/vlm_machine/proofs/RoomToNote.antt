-- After a step there is room for the notes of the next one.
use Rattle.std.proofs.Common.{◌≡◌, ◌≤◌, ◌+◌, List, [], ◌∷◌, length, refl, ap, inl, inr, arith}
use Rattle.std.specs.List.{sum_by}
use Rattle.std.proofs.lemmas.List.Sums.{sum_by-cons}
use Rattle.vlm_words.specs.declared.locks.LockState.{LockState}
use Rattle.vlm_words.specs.declared.steps.Answer.{Answer}
use Rattle.vlm_words.specs.declared.steps.Step.{Step}
use Rattle.vlm_words.specs.State.{Resource, State, start}
use Rattle.vlm_model.specs.Stepped.{Outcome}
use Rattle.vlm_model.proofs.Totals.{most_added, one_each, step_total, total}
use Rattle.vlm_model.proofs.Weights.{weigh}
use Rattle.vlm_store.specs.Plain.{plain_resources}
use Rattle.vlm_store.specs.Records.{Records}
use Rattle.vlm_store.specs.Total.{lock_total}
use Rattle.vlm_locks.specs.Touched.{Touches}
use Rattle.vlm_locks.proofs.RunsDown.{total_is}
use Rattle.vlm_machine.specs.Machine.{MachineState, plain_state}
use Rattle.vlm_machine.specs.Notes.{HasRoomToNote, total_locks_on}

-- each row counts as one
ones : (rows : List LockState) → sum_by one_each rows ≡ length rows
ones [] = refl
ones (row ∷ rows) = omega (arith, ones rows, sum_by-cons one_each row rows)

counted : (rs : List Resource) → total_locks_on rs ≡ total rs
counted [] = refl
counted (r ∷ rs) =
    omega (
      arith,
      counted rs,
      ones r.granted,
      ones r.converting,
      ones r.waiting,
      sum_by-cons (λ (x : Resource). length x.granted + length x.converting + length x.waiting) r rs,
      sum_by-cons (weigh one_each) r rs,
    )

-- as many locks are stored as stand on the resources
pub as_many_stored : (s : Records) → lock_total s ≡ total_locks_on (plain_resources s)
as_many_stored s = omega (arith, counted (plain_resources s), total_is s.resources)

-- at the start there is none
pub none_at_start : (m : MachineState) (touched : Touches) → plain_state m ≡ start → touched.noted ≡ [] → HasRoomToNote touched m
none_at_start m touched is none = record { none = none; room = omega (arith, ap (λ (s : State). total_locks_on s.resources) is) }

-- a step leaves room where there was room for what it may add
pub room_after : (old new : MachineState) (touched : Touches) (step : Step) (answer : Answer)
    → Outcome (plain_state old) step (plain_state new) answer → touched.noted ≡ []
    → total_locks_on (plain_state old).resources + most_added step ≤ touched.room → HasRoomToNote touched new
room_after old new touched step answer (inl made) none room = record {
  none = none;
  room =
      omega (
        arith,
        room,
        counted (plain_state old).resources,
        counted (plain_state new).resources,
        step_total (plain_state old) step made.choice,
        ap (λ (s : State). total s.resources) made.state,
      );
}
room_after old new touched step answer (inr short) none room = record {
  none = none;
  room = omega (arith, room, ap (λ (s : State). total_locks_on s.resources) short.state);
}
