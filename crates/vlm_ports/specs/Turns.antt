-- The result of a turn.
use Rattle.std.specs.Prelude.{ℕ}
use Rattle.vlm_ports.specs.declared.hub.Turn.TheVariants.{Idle, NoMemory, Served}
use Rattle.vlm_ports.specs.declared.hub.Turn.{Turn}

-- how many entries a turn made
abbrev pub turn_entries : Turn → ℕ
turn_entries (Served n) = n
turn_entries Idle = 0
turn_entries (NoMemory n) = n

-- the turn served
abbrev pub IsServedTurn : Turn → Type 0
IsServedTurn (Served n) = Unit {0}
IsServedTurn Idle = ⊥
IsServedTurn (NoMemory n) = ⊥

-- the turn found nothing to do
abbrev pub IsIdleTurn : Turn → Type 0
IsIdleTurn (Served n) = ⊥
IsIdleTurn Idle = Unit {0}
IsIdleTurn (NoMemory n) = ⊥
