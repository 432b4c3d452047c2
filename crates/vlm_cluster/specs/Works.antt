-- What a worker does with a port and a list.
use Rattle.std.specs.Prelude.{◌≡◌, ◌<◌, ◌≤◌, ◌++◌, ℕ, Bool, true, false, List, [], ◌∷◌, length, map, slice_index_or, take}
use mathlib.Core.List.{IsPrefix}
use Rattle.vlm_words.specs.declared.steps.Step.{Step}
use Rattle.vlm_words.specs.declared.steps.Step.TheVariants.{Leave}
use Rattle.vlm_journal.specs.declared.entries.Entry.{Entry}
use Rattle.vlm_journal.specs.declared.entries.Item.{Item}
use Rattle.vlm_journal.specs.Told.{asked, told}
use Rattle.vlm_ports.specs.declared.hub.Hub.{Hub}
use Rattle.vlm_ports.specs.declared.port.Port.{Port}
use Rattle.vlm_ports.specs.Hubs.{IsPortOf, journal}
use Rattle.vlm_ports.specs.Ports.{identity, posted}
use Rattle.vlm_ports.specs.Rings.{RingName}
use Rattle.vlm_cluster.specs.declared.hub_driver.HubDriver.{HubDriver}
use Rattle.vlm_cluster.specs.declared.worker.WorkerResult.{WorkerResult}
use Rattle.vlm_cluster.specs.Gates.{IsFollowed, IsTold, Moves, Point}
use Rattle.vlm_cluster.specs.Parts.{entries_in}

-- the departure, if it was posted
abbrev pub farewell : ℕ → Bool → List Step
farewell node true = Leave node ∷ []
farewell node false = []

-- what settling and taking leave unchanged in a worker's result: the port, the steps posted on it, how many of them are
-- of the list, and whether the departure was posted after them
pub record Work : Type 0 where
  pub port : ℕ × RingName × RingName
  pub posts : List Step
  pub count : ℕ
  pub left : Bool

-- the work in a worker's result
abbrev pub work_of : {G : Type 0} → WorkerResult G → Work
work_of d = record { port = identity d.client.port; posts = posted d.client.port; count = d.posted; left = d.left }

-- no worker's work changes
abbrev pub WorksStay : {G : Type 0} → List (WorkerResult G) → List (WorkerResult G) → Type 0
WorksStay old new = map work_of new ≡ map work_of old

-- the worker has posted the first steps of the list, and then the departure if `left`; it has posted all steps if its
-- gate never stops and it has left
pub record IsWorkOn (never_stops : Bool) (port : Port) (list : List Step) (w : Work) : Type 0 where
  pub port_is : w.port ≡ identity port
  pub posts_are : w.posts ≡ take w.count list ++ farewell port.node w.left
  pub within : w.count ≤ length list
  pub whole : never_stops ≡ true → w.left ≡ true → w.count ≡ length list

-- all entries of the journal, in the parts and in the hub
abbrev pub entries_at : HubDriver → List Entry
entries_at driver = entries_in driver.parts.items ++ journal driver.hub

-- each port was made with the hub
abbrev pub ArePortsOf : {G : Type 0} → Hub → List (WorkerResult G) → Type 0
ArePortsOf {G} h results = (k : ℕ) (d : WorkerResult G) → k < length results
    → IsPortOf h (slice_index_or results k d).client.port

-- the node's steps in the journal are a prefix of its posts, and these items are a prefix of what the journal tells it
pub record IsBegun (entries : List Entry) (w : Work) (items : List Item) : Type 0 where
  pub asked : IsPrefix (asked w.port.0 entries) w.posts
  pub told : IsPrefix items (told w.port.0 entries)

-- the departure was posted, the node's steps in the journal are its posts, and these items are its items there
pub record IsWhole (entries : List Entry) (w : Work) (items : List Item) : Type 0 where
  pub left : w.left ≡ true
  pub asked : asked w.port.0 entries ≡ w.posts
  pub told : items ≡ told w.port.0 entries

-- the fact holds of the work and the items in each of the first n results
abbrev pub HoldsOfWorks : {G : Type 0} → (Work → List Item → Type 0) → List (WorkerResult G) → ℕ → Type 0
HoldsOfWorks {G} P results n = (k : ℕ) (d : WorkerResult G) → k < n
    → P (work_of (slice_index_or results k d)) (slice_index_or results k d).client.items.items

-- a worker's gate, and the items that it has taken
abbrev pub point_of : {G : Type 0} → WorkerResult G → Point G
point_of d = (d.gate, d.client.items.items)

-- the worker has posted its list as its gate said, from the gate's first state on
abbrev pub IsGatedWork : {G : Type 0} → Moves G → G → List Step → WorkerResult G → Type 0
IsGatedWork moves gate list d = IsFollowed moves (gate, []) (point_of d) (length list) d.posted d.left

-- each worker's gate was told the items taken from its port, and was asked nothing
abbrev pub AreTold : {G : Type 0} → Moves G → List (WorkerResult G) → List (WorkerResult G) → Type 0
AreTold {G} moves old new = (k : ℕ) (d : WorkerResult G) → k < length old
    → IsTold moves (point_of (slice_index_or old k d)) (point_of (slice_index_or new k d))
