-- How a handle lends what it holds to a call.
use Rattle.std.specs.Prelude.{◌≡◌, Option, Some, None}
use Rattle.vlm_words.specs.State.{State}
use Rattle.vlm_capi.specs.declared.held.Held.{Held}
use Rattle.vlm_capi.specs.declared.held.Held.TheVariants.{Core as core_held, Hub as hub_held, Port as port_held}
use Rattle.vlm_capi.specs.declared.held.OwnedHub.{OwnedHub}
use Rattle.vlm_ports.specs.declared.port.Port.{Port}

-- the core of a handle, if it holds one
abbrev pub core_of : Option Held → Option State
core_of (Some (core_held s)) = Some s
core_of (Some (hub_held b)) = None
core_of (Some (port_held p)) = None
core_of None = None

-- the call relates the core before, its result and the core after; without a core it does not run, and nothing changes
abbrev pub LendsCore : {R : Type 0} → (State → R → State → Type 0)
    → Option Held → Option R → Option Held → Type 0
LendsCore call (Some (core_held s)) (Some r) (Some (core_held s')) = call s r s'
LendsCore call (Some (core_held s)) (Some r) (Some (hub_held b)) = ⊥
LendsCore call (Some (core_held s)) (Some r) (Some (port_held p)) = ⊥
LendsCore call (Some (core_held s)) (Some r) None = ⊥
LendsCore call (Some (core_held s)) None after = ⊥
LendsCore call (Some (hub_held b)) result after = (result ≡ None) × (after ≡ Some (hub_held b))
LendsCore call (Some (port_held p)) result after = (result ≡ None) × (after ≡ Some (port_held p))
LendsCore call None result after = (result ≡ None) × (after ≡ None)

-- the call relates the hub before, its result and the hub after; without a hub it does not run, and nothing changes
abbrev pub LendsHub : {R : Type 0} → (OwnedHub → R → OwnedHub → Type 0)
    → Option Held → Option R → Option Held → Type 0
LendsHub call (Some (hub_held b)) (Some r) (Some (hub_held b')) = call b.value r b'.value
LendsHub call (Some (hub_held b)) (Some r) (Some (core_held s)) = ⊥
LendsHub call (Some (hub_held b)) (Some r) (Some (port_held p)) = ⊥
LendsHub call (Some (hub_held b)) (Some r) None = ⊥
LendsHub call (Some (hub_held b)) None after = ⊥
LendsHub call (Some (core_held s)) result after = (result ≡ None) × (after ≡ Some (core_held s))
LendsHub call (Some (port_held p)) result after = (result ≡ None) × (after ≡ Some (port_held p))
LendsHub call None result after = (result ≡ None) × (after ≡ None)

-- the call relates the port before, its result and the port after; without a port it does not run, and nothing changes
abbrev pub LendsPort : {R : Type 0} → (Port → R → Port → Type 0)
    → Option Held → Option R → Option Held → Type 0
LendsPort call (Some (port_held p)) (Some r) (Some (port_held p')) = call p r p'
LendsPort call (Some (port_held p)) (Some r) (Some (core_held s)) = ⊥
LendsPort call (Some (port_held p)) (Some r) (Some (hub_held b)) = ⊥
LendsPort call (Some (port_held p)) (Some r) None = ⊥
LendsPort call (Some (port_held p)) None after = ⊥
LendsPort call (Some (core_held s)) result after = (result ≡ None) × (after ≡ Some (core_held s))
LendsPort call (Some (hub_held b)) result after = (result ≡ None) × (after ≡ Some (hub_held b))
LendsPort call None result after = (result ≡ None) × (after ≡ None)

-- it holds the same
abbrev pub IsSameHeld : Option Held → Option Held → Type 0
IsSameHeld (Some (hub_held b)) (Some (hub_held b')) = b'.value ≡ b.value
IsSameHeld (Some (hub_held b)) (Some (core_held s)) = ⊥
IsSameHeld (Some (hub_held b)) (Some (port_held p)) = ⊥
IsSameHeld (Some (hub_held b)) None = ⊥
IsSameHeld (Some (core_held s)) after = after ≡ Some (core_held s)
IsSameHeld (Some (port_held p)) after = after ≡ Some (port_held p)
IsSameHeld None after = after ≡ None
