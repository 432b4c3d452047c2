-- A journal in parts.
use Rattle.std.specs.Prelude.{◌≡◌, ◌<◌, ◌≤◌, ◌-◌, ◌+◌, ◌*◌, ◌^◌, ◌++◌, ℕ, All, List, [], ◌∷◌, Some, length, min, slice_get, take}
use Rattle.vlm_journal.specs.declared.entries.Entry.{Entry}
use Rattle.vlm_journal.specs.declared.entries.Part.{Part}
use Rattle.vlm_journal.specs.Journals.{Journal}
use Rattle.vlm_journal.specs.Told.{asked, told}
use Rattle.vlm_ports.specs.declared.hub.Hub.{Hub}
use Rattle.vlm_ports.specs.Hubs.{HubTakesAlone, asked_before, base, journal, rings, state, told_before}

-- the entries of the parts, in order
abbrev pub entries_in : List Part → List Entry
entries_in [] = []
entries_in (part ∷ parts) = part.entries.items ++ entries_in parts

-- each part has at least `every` entries
abbrev pub HaveEnough : ℕ → List Part → Type 0
HaveEnough every parts = All (λ part. every ≤ length part.entries.items) parts

-- each part has fewer entries than this
abbrev pub HaveFewer : ℕ → List Part → Type 0
HaveFewer most parts = All (λ part. length part.entries.items < most) parts

-- a journal has fewer entries than this: before a turn it has fewer than `every`, and a turn makes at most two for each
-- node
abbrev pub bound_of : ℕ → Hub → ℕ
bound_of every h = every + 2 * length (rings h)

-- the base of a part after these entries: their number, at most 2 ^ 64 - 1
abbrev pub base_behind : List Entry → ℕ
base_behind entries = min (length entries) (2 ^ 64 - 1)

-- the base of each part is the number of entries before it
abbrev pub AreNumbered : List Part → Type 0
AreNumbered parts = (k : ℕ) (part : Part) → slice_get parts k ≡ Some part
    → part.base ≡ base_behind (entries_in (take k parts))

-- the entries of the parts and then of the hub's journal are a legal journal that leads to the hub's state; the hub's
-- own entries are takes; the parts say what each node had asked for and was told before the last cut
pub record IsAccounted (parts : List Part) (h : Hub) : Type 0 where
  pub legal : Journal (entries_in parts ++ journal h) (state h)
  pub base : base h ≡ base_behind (entries_in parts)
  pub numbered : AreNumbered parts
  pub takes : HubTakesAlone (entries_in parts ++ journal h)
  pub asked : (node : ℕ) → 0 < node → node ≤ length (rings h) → asked_before h node ≡ asked node (entries_in parts)
  pub told : (node : ℕ) → 0 < node → node ≤ length (rings h) → told_before h node ≡ told node (entries_in parts)
