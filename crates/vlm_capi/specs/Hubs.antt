-- What the calls of a hub do.
use Rattle.std.specs.Prelude.{◌≡◌, ◌⊎◌, ◌<◌, ◌≤◌, ◌*◌, ◌∷◌, ◌++◌, ◌-◌, ℕ, Bool, true, false, List, [], length, map}
use Rattle.std.specs.Prelude.{slice_index_or, slice_set, Option, Some, None, Result, Ok, Err, All, IfOk, OnOk, OnErr}
use Rattle.std.specs.Prelude.{Box, replicate}
use Rattle.std.specs.declared.alloc.AllocError.{AllocError}
use Rattle.std.specs.declared.alloc.Global.{Global}
use Rattle.vlm_words.specs.declared.conditions.Cond.{Cond}
use Rattle.vlm_words.specs.declared.conditions.Cond.TheVariants.{Normal, Badparam, Departed, Insfmem, Ivbuflen}
use Rattle.vlm_words.specs.declared.steps.Answer.TheVariants.{Plain}
use Rattle.vlm_words.specs.declared.steps.Step.TheVariants.{Leave}
use Rattle.vlm_words.specs.Conditions.{condition_number}
use Rattle.vlm_words.specs.State.{State}
use Rattle.vlm_model.specs.Reasons.{HasDeparted}
use Rattle.vlm_model.specs.Stepped.{Outcome}
use Rattle.vlm_journal.specs.declared.entries.Entry.{Entry}
use Rattle.vlm_journal.specs.declared.entries.Part.{Part}
use Rattle.vlm_journal.specs.Accounts.{GoesOn, made}
use Rattle.vlm_ports.specs.declared.hub.Turn.{Turn}
use Rattle.vlm_ports.specs.declared.hub.Turn.TheVariants.{Idle, NoMemory, Served}
use Rattle.vlm_ports.specs.declared.port.Port.{Port}
use Rattle.vlm_ports.specs.Hubs.{EachAsksOnce, EachIsDeliveredOnce, HubGrew, IsAsWritten, IsNewHub, IsPortOf}
use Rattle.vlm_ports.specs.Hubs.{KeepsKnown, KnowsAllTheSame, MayIdle, OthersLast, PutsBeforeCut, base, bases, journal}
use Rattle.vlm_ports.specs.Hubs.{nodes, rings, state, waiting}
use Rattle.vlm_ports.specs.Ports.{AreNew}
use Rattle.vlm_ports.specs.Turns.{IsIdleTurn, IsServedTurn, turn_entries}
use Rattle.vlm_capi.specs.declared.entries.VlmCut.{VlmCut}
use Rattle.vlm_capi.specs.declared.entries.VlmEntry.{VlmEntry}
use Rattle.vlm_capi.specs.declared.held.Held.{Held}
use Rattle.vlm_capi.specs.declared.held.Held.TheVariants.{Core as core_held, Hub as hub_held, Port as port_held}
use Rattle.vlm_capi.specs.declared.held.OwnedHub.{OwnedHub}
use Rattle.vlm_capi.specs.Entries.{written}
use Rattle.vlm_capi.specs.Lending.{LendsHub}

-- a new hub of this many nodes, which has all its ports; no port has posted or taken anything
pub record IsNewOwned (count : ℕ) (o : OwnedHub) : Type 0 where
  pub hub : IsNewHub count o.hub
  pub ports : List Port
  pub kept : o.ports.items ≡ map Some ports
  pub all : length ports ≡ count
  pub new : AreNew ports
  pub ours : All (IsPortOf o.hub) ports

-- what is held is a new hub
abbrev pub IsNewHeld : ℕ → Held → Type 0
IsNewHeld count (hub_held b) = IsNewOwned count b.value
IsNewHeld count (core_held s) = ⊥
IsNewHeld count (port_held p) = ⊥

-- an open handle stays, with BADPARAM; a closed one gets a new hub, or stays with INSFMEM
abbrev pub OpensHub : ℕ → Option Held → Option Held → ℕ → Type 0
OpensHub count (Some held) after status = (after ≡ Some held) × (status ≡ condition_number Badparam)
OpensHub count None (Some held) status = IsNewHeld count held × (status ≡ condition_number Normal)
OpensHub count None None status = status ≡ condition_number Insfmem

-- a hub is opened if options and number of nodes are right; otherwise nothing changes, with BADPARAM
abbrev pub OpensHubIf : Bool → ℕ → Option Held → Option Held → ℕ → Type 0
OpensHubIf true count before after status = OpensHub count before after status
OpensHubIf false count before after status = (after ≡ before) × (status ≡ condition_number Badparam)

-- the port of a place goes into a block of its own; without memory it stays there, and without a port nothing changes
abbrev pub BoxesPort : Option Port → Result (Box Held Global) Cond → Option Port → Type 0
BoxesPort (Some p) (Ok b) after = (b.value ≡ port_held p) × (after ≡ None)
BoxesPort (Some p) (Err cond) after = (cond ≡ Insfmem) × (after ≡ Some p)
BoxesPort None (Ok b) after = ⊥
BoxesPort None (Err cond) after = (cond ≡ Badparam) × (after ≡ None)

-- the place of a node gives its port, and all else stays
pub record GivesFromPlace (node : ℕ) (old : OwnedHub) (result : Result (Box Held Global) Cond)
    (new : OwnedHub) : Type 0 where
  pub place : Option Port
  pub left : Option Port
  pub within : (0 < node) × (node ≤ length old.ports.items)
  pub there : (d : Option Port) → slice_index_or old.ports.items (node - 1) d ≡ place
  pub boxes : BoxesPort place result left
  pub ports : new.ports.items ≡ slice_set old.ports.items (node - 1) left
  pub hub : new.hub ≡ old.hub

-- the hub gives the port of one of its nodes; for another number nothing changes
unfoldable pub GivesPort : ℕ → OwnedHub → Result (Box Held Global) Cond → OwnedHub → Type 0
GivesPort node old result new = GivesFromPlace node old result new
    ⊎ (((node ≡ 0) ⊎ (length old.ports.items < node)) × (result ≡ Err Badparam) × (new ≡ old))

-- nothing was cut: each node has the same requests and items before these entries
abbrev pub KeepsBase : OwnedHub → OwnedHub → Type 0
KeepsBase old new = (base new.hub ≡ base old.hub) × (bases new.hub ≡ bases old.hub)

-- the hub has made a turn, as `Hub::turn` says, and has the same ports
pub record HasTurned (old : OwnedHub) (turn : Turn) (new : OwnedHub) : Type 0 where
  pub rings : rings new.hub ≡ rings old.hub
  pub base : KeepsBase old new
  pub made : HubGrew (turn_entries turn) old.hub new.hub
  pub some : IsServedTurn turn → 0 < turn_entries turn
  pub most : turn_entries turn ≤ 2 * nodes old.hub
  pub once : EachAsksOnce (journal old.hub) (journal new.hub)
  pub delivers : EachIsDeliveredOnce (journal old.hub) (journal new.hub)
  pub idle : IsIdleTurn turn → MayIdle new.hub
  pub known : KeepsKnown old.hub new.hub
  pub ports : new.ports ≡ old.ports

abbrev pub turn_status : Option Turn → ℕ
turn_status (Some (Served n)) = condition_number Normal
turn_status (Some Idle) = condition_number Normal
turn_status (Some (NoMemory n)) = condition_number Insfmem
turn_status None = condition_number Badparam

-- how many entries a turn made, or 0 without a turn
abbrev pub turn_count : Option Turn → ℕ
turn_count (Some turn) = turn_entries turn
turn_count None = 0

-- a call makes a turn of the hub of a handle
pub record TurnsHub (before after : Option Held) (status made : ℕ) : Type 0 where
  pub turn : Option Turn
  pub lends : LendsHub HasTurned before turn after
  pub status_told : status ≡ turn_status turn
  pub made_told : made ≡ turn_count turn

-- the departure of a lost node is made, as `Hub::lost` says, and the hub has the same ports
pub record IsLost (node : ℕ) (old : OwnedHub) (result : Result Cond AllocError) (new : OwnedHub) : Type 0 where
  pub rings : rings new.hub ≡ rings old.hub
  pub base : KeepsBase old new
  pub known : KnowsAllTheSame old.hub new.hub
  pub lost : IfOk result (λ cond. journal new.hub ≡ journal old.hub
      ++ record { sender = 0; step = Leave node; answer = Plain cond } ∷ [])
  pub outcome : IfOk result (λ cond. Outcome (state old.hub) (Leave node) (state new.hub) (Plain cond))
  pub departed : OnOk result (HasDeparted (state new.hub) node)
  pub answer : IfOk result (λ cond. (cond ≡ Normal) ⊎ (cond ≡ Departed))
  pub refused : OnErr result (IsAsWritten old.hub new.hub)
  pub ports : new.ports ≡ old.ports

-- a node from 1 to 8 is lost; for another number nothing changes
abbrev pub HasLost : ℕ → OwnedHub → Option (Result Cond AllocError) → OwnedHub → Type 0
HasLost node old (Some result) new = (0 < node) × (node ≤ 8) × IsLost node old result new
HasLost node old None new = (new ≡ old) × ((node ≡ 0) ⊎ (8 < node))

abbrev pub lost_status : Option (Option (Result Cond AllocError)) → ℕ
lost_status (Some (Some (Ok cond))) = condition_number cond
lost_status (Some (Some (Err e))) = condition_number Insfmem
lost_status (Some None) = condition_number Badparam
lost_status None = condition_number Badparam

-- a call lets a node of the hub of a handle be lost
pub record LosesNode (node : ℕ) (before after : Option Held) (status : ℕ) : Type 0 where
  pub result : Option (Option (Result Cond AllocError))
  pub lends : LendsHub (HasLost node) before result after
  pub status_told : status ≡ lost_status result

-- the posts of a node are counted, as `Hub::posts_waiting` says, and the hub has the same ports
pub record HasPostsCounted (node : ℕ) (old : OwnedHub) (count : ℕ) (new : OwnedHub) : Type 0 where
  pub rings : rings new.hub ≡ rings old.hub
  pub base : KeepsBase old new
  pub unmoved : IsAsWritten old.hub new.hub
  pub counted : count ≡ length (waiting new.hub node)
  pub known : KeepsKnown old.hub new.hub
  pub others : OthersLast node old.hub new.hub
  pub ports : new.ports ≡ old.ports

-- the posts of one of the hub's nodes are counted; for another number nothing changes
abbrev pub HasCounted : ℕ → OwnedHub → Option ℕ → OwnedHub → Type 0
HasCounted node old (Some count) new = (0 < node) × (node ≤ nodes old.hub) × HasPostsCounted node old count new
HasCounted node old None new = (new ≡ old) × ((node ≡ 0) ⊎ (8 < node) ⊎ (nodes old.hub < node))

-- a call writes a count, or nothing
abbrev pub CountTold : Option (Option ℕ) → ℕ → ℕ → ℕ → Type 0
CountTold (Some (Some count)) old new status = (new ≡ count) × (status ≡ condition_number Normal)
CountTold (Some None) old new status = (new ≡ old) × (status ≡ condition_number Badparam)
CountTold None old new status = (new ≡ old) × (status ≡ condition_number Badparam)

-- a call counts the posts of a node that the hub of a handle has not made
pub record CountsPosts (node : ℕ) (before after : Option Held) (old new status : ℕ) : Type 0 where
  pub count : Option (Option ℕ)
  pub lends : LendsHub (HasCounted node) before count after
  pub told : CountTold count old new status

-- the entries are handed out, as `Hub::cut` says, and the hub has the same ports
pub record IsCut (old : OwnedHub) (part : Part) (new : OwnedHub) : Type 0 where
  pub rings : rings new.hub ≡ rings old.hub
  pub entries : part.entries.items ≡ journal old.hub
  pub number : part.base ≡ base old.hub
  pub legal : GoesOn part.base part.entries.items (state new.hub)
  pub left : journal new.hub ≡ []
  pub next : base new.hub ≡ made old.hub.journaled
  pub state : state new.hub ≡ state old.hub
  pub known : KnowsAllTheSame old.hub new.hub
  pub before : PutsBeforeCut old.hub new.hub
  pub ports : new.ports ≡ old.ports

-- all entries are handed out, at most this many; with more of them nothing changes
abbrev pub HasCut : ℕ → OwnedHub → Option Part → OwnedHub → Type 0
HasCut most old (Some part) new = (length (journal old.hub) ≤ most) × IsCut old part new
HasCut most old None new = (most < length (journal old.hub)) × (new ≡ old)

abbrev pub cut_of : Part → VlmCut
cut_of part = record {
  size = 32;
  entry_size = 512;
  base = part.base;
  count = length part.entries.items;
  reserved = replicate 2 0;
}

-- a call writes the entries and what it tells of them; it writes nothing if there are too many, or no hub
abbrev pub CutTold : Option (Option Part) → List VlmEntry → List VlmEntry → VlmCut → VlmCut → ℕ → Type 0
CutTold (Some (Some part)) old new old_cut new_cut status =
    (new ≡ written part.entries.items old) × (new_cut ≡ cut_of part) × (status ≡ condition_number Normal)
CutTold (Some None) old new old_cut new_cut status =
    (new ≡ old) × (new_cut ≡ old_cut) × (status ≡ condition_number Ivbuflen)
CutTold None old new old_cut new_cut status =
    (new ≡ old) × (new_cut ≡ old_cut) × (status ≡ condition_number Badparam)

-- a call cuts the journal of the hub of a handle
pub record CutsHub (before after : Option Held) (old new : List VlmEntry) (old_cut new_cut : VlmCut)
    (status : ℕ) : Type 0 where
  pub part : Option (Option Part)
  pub lends : LendsHub (HasCut (length old)) before part after
  pub told : CutTold part old new old_cut new_cut status

-- the caller's structs have their sizes; otherwise nothing changes
abbrev pub CutsHubIf : Bool → Option Held → Option Held → List VlmEntry → List VlmEntry → VlmCut → VlmCut
    → ℕ → Type 0
CutsHubIf true before after old new old_cut new_cut status = CutsHub before after old new old_cut new_cut status
CutsHubIf false before after old new old_cut new_cut status =
    (after ≡ before) × (new ≡ old) × (new_cut ≡ old_cut) × (status ≡ condition_number Badparam)

-- the node of the port of a handle, or 0
abbrev pub port_node : Option Held → ℕ
port_node (Some (port_held p)) = p.node
port_node (Some (core_held s)) = 0
port_node (Some (hub_held b)) = 0
port_node None = 0

-- how many nodes the hub of a handle serves, or 0
abbrev pub node_count : Option Held → ℕ
node_count (Some (hub_held b)) = nodes b.value.hub
node_count (Some (core_held s)) = 0
node_count (Some (port_held p)) = 0
node_count None = 0

-- the state of the hub of a handle, if it holds one
abbrev pub hub_state : Option Held → Option State
hub_state (Some (hub_held b)) = Some (state b.value.hub)
hub_state (Some (core_held s)) = None
hub_state (Some (port_held p)) = None
hub_state None = None

-- the entries of the hub of a handle since the last cut
abbrev pub entries_shown : Option Held → List Entry
entries_shown (Some (hub_held b)) = journal b.value.hub
entries_shown (Some (core_held s)) = []
entries_shown (Some (port_held p)) = []
entries_shown None = []

-- what a call answers of a port that it gave; otherwise the handle for it stays
abbrev pub PortTold : Option (Result (Box Held Global) Cond) → Option Held → Option Held → ℕ → Type 0
PortTold (Some (Ok b)) old new status = (new ≡ Some b.value) × (status ≡ condition_number Normal)
PortTold (Some (Err cond)) old new status = (new ≡ old) × (status ≡ condition_number cond)
PortTold None old new status = (new ≡ old) × (status ≡ condition_number Badparam)

-- a call gives the port of a node of the hub of a handle to another handle
pub record GivesPortTo (node : ℕ) (before after port_before port_after : Option Held) (status : ℕ) : Type 0 where
  pub given : Option (Result (Box Held Global) Cond)
  pub lends : LendsHub (GivesPort node) before given after
  pub told : PortTold given port_before port_after status

-- the handle for the port has nothing; otherwise nothing changes
abbrev pub GivesPortIf : Option Held → ℕ → Option Held → Option Held → Option Held → ℕ → Type 0
GivesPortIf None node before after port_after status = GivesPortTo node before after None port_after status
GivesPortIf (Some held) node before after port_after status =
    (after ≡ before) × (port_after ≡ Some held) × (status ≡ condition_number Badparam)
