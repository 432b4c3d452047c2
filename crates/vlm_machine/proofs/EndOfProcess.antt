-- Processes that go from the records go from the plain machine, with all their locks.
use Rattle.std.proofs.Common.{◌≡◌, ◌<◌, ℕ, Bool, true, List, [], ◌∷◌, length, map, sym, ap, ◌∙◌, subst, arith}
use Rattle.std.specs.List.{AllByRecursion}
use Rattle.vlm_words.specs.declared.locks.LockState.{LockState}
use Rattle.vlm_model.specs.Rundown.{rundowns, state_after_rundown}
use Rattle.vlm_words.specs.State.{Node, Process, Resource, State}
use Rattle.vlm_model.specs.Withdrawals.{resource_after_withdrawals}
use Rattle.vlm_model.proofs.IdsApart.{Apart}
use Rattle.vlm_model.proofs.Pairs.{EachPair}
use Rattle.vlm_collections.specs.Lists.{IsIn}
use Rattle.vlm_store.specs.Plain.{plain_processes, plain_resource, plain_resources}
use Rattle.vlm_store.specs.Records.{Records, StoredResource}
use Rattle.vlm_locks.specs.Left.{resource_left}
use Rattle.vlm_locks.specs.Owing.{IsPaid}
use Rattle.vlm_locks.specs.Rest.{IsAtRest}
use Rattle.vlm_locks.specs.RunningDown.{AreEnded, CanEndProcesses}
use Rattle.vlm_locks.specs.declared.touched.Note.{Note}
use Rattle.vlm_locks.specs.Touched.{AreThere, OnlyTouched, StandBySerial, Touches}
use Rattle.vlm_locks.proofs.ProcessEndsAlike.{rundown_by_rows}
use Rattle.vlm_machine.specs.Between.{IsBetweenSteps}
use Rattle.vlm_machine.specs.Machine.{MachineState, plain_state}
use Rattle.vlm_machine.specs.Notes.{HasRoomToNote, IsToSweep}
use Rattle.vlm_machine.proofs.RoomToNote.{as_many_stored}
use Rattle.vlm_machine.proofs.Pairing.{pairs_by_recursion}
use Rattle.vlm_machine.proofs.RunDown.{granted_want_nothing, sublocks_are_own}
use Rattle.vlm_machine.proofs.NothingToSweep.{stable_one}

-- ---- before

-- between two steps processes can be ended
pub can_end : (m : MachineState) (touched : Touches) → IsAtRest m.records → IsPaid m.records → IsBetweenSteps (plain_state m) → HasRoomToNote touched m
    → CanEndProcesses touched m.records
can_end m touched rest paid between notes = record {
  rest = rest;
  together = sublocks_are_own m.records rest.sound between.ids.none_is_0 between.parents;
  granted = granted_want_nothing m.records between.rows_fit;
  paid = paid;
  noted = λ t there. absurd (subst (IsIn t) notes.none there);
  room = omega (arith, notes.room, as_many_stored m.records, ap (λ (touches : List Note). length touches) notes.none);
}

-- ---- after

-- the state once these processes are gone with their locks
pub state_ended : (old : MachineState) (is_one : ℕ → Bool) (nodes : List Node) (new : Records) (before after : Touches) → Apart (plain_state old)
    → AreEnded is_one old.records new before after
    → plain_state (record old { nodes = nodes; records = new }) ≡ state_after_rundown is_one nodes (plain_state old)
unfolding state_after_rundown
state_ended old is_one nodes new before after apart ended =
    ap (λ rs. with_parts (plain_processes new) rs) (ended.resources ∙ sym (rundown_by_rows (plain_state old) is_one apart))
    ∙ ap (λ ps. with_parts ps (map (resource_after_withdrawals (rundowns is_one (plain_state old))) (plain_resources old.records))) ended.processes
  where
    with_parts : List Process → List Resource → State
    with_parts ps rs = record (plain_state old) { nodes = nodes; processes = ps; resources = rs }

-- serials rise among the records as among the plain resources
rise_plain : (rs : List StoredResource) → EachPair (λ a b. a.serial < b.serial) (map plain_resource rs) → StandBySerial rs
rise_plain [] pairs = tt
rise_plain (r ∷ rs) pairs = (each_above rs pairs.0, rise_plain rs pairs.1)
  where
    each_above : (later : List StoredResource) → AllByRecursion (λ (x : Resource). r.serial < x.serial) (map plain_resource later)
        → AllByRecursion (λ (x : StoredResource). r.serial < x.serial) later
    each_above [] all = tt
    each_above (x ∷ later) all = (all.0, each_above later all.1)

-- and where locks go they stay
rise_still : (goes : LockState → Bool) (invalidates : Bool) (rs : List Resource) → EachPair (λ a b. a.serial < b.serial) rs
    → EachPair (λ a b. a.serial < b.serial) (map (resource_left goes invalidates) rs)
unfolding resource_left
rise_still goes invalidates [] pairs = tt
rise_still goes invalidates (r ∷ rs) pairs = (each_above rs pairs.0, rise_still goes invalidates rs pairs.1)
  where
    each_above : (later : List Resource) → AllByRecursion (λ (x : Resource). r.serial < x.serial) later
        → AllByRecursion (λ (x : Resource). r.serial < x.serial) (map (resource_left goes invalidates) later)
    each_above [] all = tt
    each_above (x ∷ later) all = (all.0, each_above later all.1)

-- where locks are gone, what is left to sweep is noted
pub to_sweep_left : (old new : MachineState) (goes : LockState → Bool) (invalidates : Bool) (after : Touches) → IsBetweenSteps (plain_state old)
    → plain_resources new.records ≡ map (resource_left goes invalidates) (plain_resources old.records)
    → OnlyTouched after.noted old.records new.records → AreThere after.noted new.records → IsToSweep after new
to_sweep_left old new goes invalidates after between left only_touched noted = record {
  noted = noted;
  rise =
      rise_plain new.records.resources
      (subst (EachPair (λ (a b : Resource). a.serial < b.serial)) (sym left)
      (rise_still goes invalidates (plain_resources old.records)
      (pairs_by_recursion (λ (a b : Resource). a.serial < b.serial)
      (plain_resources old.records) between.serials_rise)));
  stable = λ r there untouched. stable_one old.records.resources between.stable r (only_touched r there untouched);
}

-- and so it is where processes have ended
pub to_sweep : (old new : MachineState) (is_one : ℕ → Bool) (before after : Touches) → IsBetweenSteps (plain_state old)
    → AreEnded is_one old.records new.records before after
    → CanEndProcesses after new.records → IsToSweep after new
to_sweep old new is_one before after between ended left =
    to_sweep_left old new (λ row. is_one row.pid) true after between ended.resources ended.only_touched left.noted
