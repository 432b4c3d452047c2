-- What the report of a run says.
use Rattle.std.specs.Prelude.{◌≡◌, ◌<◌, ◌≤◌, ◌+◌, ◌++◌, ℕ, Bool, true, false, IfErr, IfOk, Result, List, [], ◌∷◌, None}
use Rattle.std.specs.Prelude.{MatchResult, Option, Some, length, slice_get, take, ⊤}
use Rattle.std.specs.declared.alloc.Global.{Global}
use Rattle.std.specs.declared.vec.Vec.{Vec}
use mathlib.Core.List.{IsPrefix}
use Rattle.vlm_words.specs.declared.locks.LockState.{LockState}
use Rattle.vlm_words.specs.declared.steps.Step.{Step}
use Rattle.vlm_words.specs.declared.steps.Step.TheVariants.{Leave}
use Rattle.vlm_model.specs.Laws.{EachRequestEndsOnce, GrantsFollowQueueOrder, HeldModesAreCompatible}
use Rattle.vlm_model.specs.Runs.{History, Legal}
use Rattle.vlm_words.specs.State.{State, start}
use Rattle.vlm_model.specs.Stepped.{IsChoice, step_refusal}
use Rattle.vlm_journal.specs.declared.entries.Entry.{Entry}
use Rattle.vlm_journal.specs.declared.entries.Item.{Item}
use Rattle.vlm_journal.specs.Departed.{IsAnsweredDeparted}
use Rattle.vlm_journal.specs.Journals.{Journal, JournalFrom, answers_of, steps_of}
use Rattle.vlm_journal.specs.Told.{asked, told}
use Rattle.vlm_ports.specs.Hubs.{HubTakesAlone}
use Rattle.vlm_cluster.specs.declared.report.Fault.{Fault}
use Rattle.vlm_cluster.specs.declared.report.Fault.TheVariants.{Memory}
use Rattle.vlm_cluster.specs.declared.report.Report.{Report}
use Rattle.vlm_cluster.specs.Gates.{IsFollowed, Moves}
use Rattle.vlm_cluster.specs.Parts.{AreNumbered}
use Rattle.vlm_cluster.specs.Reports.{entries_of, parts_of}

-- a list of steps
abbrev pub StepList : Type 0
StepList = Vec Step Global

-- a list of items
abbrev pub Items : Type 0
Items = Vec Item Global

-- what holds of every report: it has items and a number of posts for each list, and no more posts than steps; the
-- journal is legal and leads to the core's state; the base of each part is the number of entries before it; the hub's
-- own entries are takes, so it lost no node; a node that has departed is answered so
pub record IsReport (lists : List StepList) (r : Report) : Type 0 where
  pub counts : (length r.items.items ≡ length lists) × (length r.posted.items ≡ length lists)
  pub within : (k n : ℕ) (list : StepList) → slice_get lists k ≡ Some list → slice_get r.posted.items k ≡ Some n
      → n ≤ length list.items
  pub legal : Journal (entries_of r) r.core
  pub numbered : AreNumbered (parts_of r)
  pub takes : HubTakesAlone (entries_of r)
  pub departed : (node : ℕ) → 0 < node → IsAnsweredDeparted node (entries_of r)

-- each node has asked for the posted steps of its list and then for its departure, in order, and was told all that the
-- journal tells it
pub record AreServed (lists : List StepList) (r : Report) : Type 0 where
  pub report : IsReport lists r
  pub asked : (k n : ℕ) (list : StepList) → slice_get lists k ≡ Some list → slice_get r.posted.items k ≡ Some n
      → asked (k + 1) (entries_of r) ≡ take n list.items ++ Leave (k + 1) ∷ []
  pub told : (k : ℕ) (items : Items) → slice_get r.items.items k ≡ Some items
      → items.items ≡ told (k + 1) (entries_of r)

-- the same in part: what each node has asked for, and what it was told, is a prefix of that
pub record AreServedInPart (lists : List StepList) (r : Report) : Type 0 where
  pub report : IsReport lists r
  pub asked : (k n : ℕ) (list : StepList) → slice_get lists k ≡ Some list → slice_get r.posted.items k ≡ Some n
      → IsPrefix (asked (k + 1) (entries_of r)) (take n list.items ++ Leave (k + 1) ∷ [])
  pub told : (k : ℕ) (items : Items) → slice_get r.items.items k ≡ Some items
      → IsPrefix items.items (told (k + 1) (entries_of r))

-- if memory was refused after a worker was started, the lists were served in part
abbrev pub IsCutShort : List StepList → Fault → Type 0
IsCutShort lists (Memory None) = ⊤
IsCutShort lists (Memory (Some r)) = AreServedInPart lists r

-- all of each list was posted
abbrev pub AreAllPosted : List StepList → Report → Type 0
AreAllPosted lists r = (k n : ℕ) (list : StepList) → slice_get lists k ≡ Some list → slice_get r.posted.items k ≡ Some n
    → n ≡ length list.items

-- at a place of a journal: the entries before it are a run of the machine to a state, from which the entries after it
-- go on, and the fact holds of that run and that state
pub record IsReached (P : History → State → Type 0) (before behind : List Entry) (last : State) : Type 0 where
  pub state : State
  pub legal : Journal before state
  pub goes_on : JournalFrom state behind last
  pub run : Legal start (steps_of before) (answers_of before) state
  pub holds : P run.history state

-- the fact holds at each place of a journal
abbrev pub HoldsThroughout : (History → State → Type 0) → List Entry → State → Type 0
HoldsThroughout P entries last = (before behind : List Entry) → entries ≡ before ++ behind
    → IsReached P before behind last

-- in each resource the held modes of any two locks are compatible, at each place of the journal
abbrev pub ModesStayCompatible : List Entry → State → Type 0
ModesStayCompatible entries last = HoldsThroughout (λ history state. HeldModesAreCompatible state) entries last

-- each accepted request is still wanted and has not ended, or has ended exactly once, at each place of the journal
abbrev pub RequestsEndOnce : List Entry → State → Type 0
RequestsEndOnce entries last = HoldsThroughout (λ history state. EachRequestEndsOnce history.endings state) entries last

-- each step that is not refused grants in queue order, conversions before new requests, at each place of the journal
abbrev pub GrantsKeepOrder : List Entry → State → Type 0
GrantsKeepOrder entries last = HoldsThroughout
    (λ history state. (step : Step) (choice : Option LockState) → IsChoice state step choice
    → step_refusal state step ≡ None
    → GrantsFollowQueueOrder state step choice)
    entries last

-- the result of serving lists: a report that all lists were served, and posted whole if no gate ever stops; at each
-- place of its journal the held modes are compatible, each request ends once, and grants follow queue order; or, if
-- memory was refused, what was done
pub record IsServing (never_stops : Bool) (lists : List StepList) (result : Result Report Fault) : Type 0 where
  pub served : IfOk result (λ r. AreServed lists r)
  pub whole : never_stops ≡ true → IfOk result (λ r. AreAllPosted lists r)
  pub modes : IfOk result (λ r. ModesStayCompatible (entries_of r) r.core)
  pub once : IfOk result (λ r. RequestsEndOnce (entries_of r) r.core)
  pub order : IfOk result (λ r. GrantsKeepOrder (entries_of r) r.core)
  pub cut_short : IfErr result (λ fault. IsCutShort lists fault)

-- a list was posted as its gate said: the gate heard these items and let through n steps, which is the whole list or
-- all steps before a stop; or, of a worker that may be cancelled, the items are a prefix of those that the gate heard
abbrev pub IsGated : {G : Type 0} → Bool → Moves G → G → StepList → ℕ → Items → Type 0
IsGated {G} true moves gate list n items =
    (last : G) × IsFollowed moves (gate, []) (last, items.items) (length list.items) n true
IsGated {G} false moves gate list n items =
    (last : G) × (told : List Item) × IsPrefix items.items told
    × IsFollowed moves (gate, []) (last, told) (length list.items) n false

-- each list was posted so, by what the report says of it; `ended` tells that no worker was cancelled
abbrev pub AreGated : {G : Type 0} → Bool → Moves G → List G → List StepList → Report → Type 0
AreGated {G} ended moves gates lists r = (k n : ℕ) (gate : G) (list : StepList) (items : Items)
    → slice_get gates k ≡ Some gate → slice_get lists k ≡ Some list
    → slice_get r.posted.items k ≡ Some n → slice_get r.items.items k ≡ Some items
    → IsGated ended moves gate list n items

-- if memory was refused after a worker was started, the lists were posted as far as the workers came
abbrev pub IsGatedFault : {G : Type 0} → Moves G → List G → List StepList → Fault → Type 0
IsGatedFault moves gates lists (Memory None) = ⊤
IsGatedFault moves gates lists (Memory (Some r)) = AreGated false moves gates lists r

-- the workers posted as their gates said, as far as the run came
abbrev pub IsGatedRun : {G : Type 0} → Moves G → List G → List StepList → Result Report Fault → Type 0
IsGatedRun moves gates lists result =
    MatchResult result (AreGated true moves gates lists) (IsGatedFault moves gates lists)
