-- Worlds: a journal, and for each node the posts and items between the hub and its port.
use Rattle.std.specs.Prelude.{◌≡◌, ◌==◌, ◌+◌, ◌<◌, ◌≤◌, ℕ, List, [], ◌∷◌, ◌++◌, Some, length, if◌then◌else◌}
use mathlib.Core.List.{IsPrefix}
use Rattle.vlm_words.specs.declared.asts.Ast.{Ast}
use Rattle.vlm_words.specs.declared.steps.Answer.TheVariants.{Taken}
use Rattle.vlm_words.specs.declared.steps.Answer.{Answer}
use Rattle.vlm_words.specs.declared.steps.Step.TheVariants.{Leave, Take}
use Rattle.vlm_words.specs.declared.steps.Step.{Step}
use Rattle.vlm_words.specs.State.{State, start}
use Rattle.vlm_model.specs.Stepped.{Outcome}
use Rattle.vlm_journal.specs.declared.entries.Entry.{Entry}
use Rattle.vlm_journal.specs.declared.entries.Item.{Item}
use Rattle.vlm_journal.specs.Journals.{IsPostOf, Journal}
use Rattle.vlm_journal.specs.Told.{asked, told}

-- the posts of a node, the served posts, the items sent to the node, and the items that it has received
pub record Lists : Type 0 where
  pub posted : List Step
  pub served : List Step
  pub sent : List Item
  pub received : List Item

-- a journal, the state to which it leads, and the lists of each node
pub record World : Type 0 where
  pub journal : List Entry
  pub state : State
  pub lists : ℕ → Lists

-- nothing is posted and nothing is sent
abbrev pub no_lists : Lists
no_lists = record { posted = []; served = []; sent = []; received = [] }

-- nothing has happened
abbrev pub first_world : World
first_world = record { journal = []; state = start; lists = λ node. no_lists }

-- other lists of one node
abbrev pub with_lists_of : (ℕ → Lists) → ℕ → Lists → ℕ → Lists
with_lists_of lists node own other = if other == node then own else lists other

-- the world with one more entry
abbrev pub with_entry : World → Entry → State → (ℕ → Lists) → World
with_entry w entry state lists = record { journal = w.journal ++ entry ∷ []; state = state; lists = lists }

-- the world with other lists of one node
abbrev pub with_node : World → ℕ → Lists → World
with_node w node own = record { journal = w.journal; state = w.state; lists = with_lists_of w.lists node own }

-- the kinds of event: of a node, or a delivery to a process
pub data Event : Type 0 where
  post : ℕ → Step → Event
  apply : ℕ → Event
  deliver : ℕ → Event
  depart : ℕ → Event
  send : ℕ → Event
  take : ℕ → Event

-- the next element of the list, after the elements that came already
abbrev pub IsNext : {X : Type 0} → X → List X → List X → Type 0
IsNext {X} x come all = (rest : List X) × (all ≡ come ++ x ∷ rest)

-- the node's number is from 1 to this number
abbrev pub IsNode : ℕ → ℕ → Type 0
IsNode nodes node = (0 < node) × (node ≤ nodes)

-- a node posts a step of its own, if fewer than 64 of its posts are not yet served
pub record Posts (nodes : ℕ) (w : World) (node : ℕ) (step : Step) (v : World) : Type 0 where
  pub node_is : IsNode nodes node
  pub post : IsPostOf node step
  pub place : length (w.lists node).posted < length (w.lists node).served + 64
  pub becomes : v ≡ with_node w node (record (w.lists node) { posted = (w.lists node).posted ++ step ∷ [] })

-- the hub serves the oldest post of a node, and writes an entry
pub record Serves (nodes : ℕ) (w : World) (node : ℕ) (v : World) : Type 0 where
  pub node_is : IsNode nodes node
  pub step : Step
  pub answer : Answer
  pub state : State
  pub follows : IsNext step (w.lists node).served (w.lists node).posted
  pub outcome : Outcome w.state step state answer
  pub becomes : v ≡ with_entry w (record { sender = node; step = step; answer = answer }) state
      (with_lists_of w.lists node (record (w.lists node) { served = (w.lists node).served ++ step ∷ [] }))

-- the hub takes an AST of a process, and writes an entry
pub record Delivers (w : World) (pid : ℕ) (v : World) : Type 0 where
  pub ast : Ast
  pub state : State
  pub outcome : Outcome w.state (Take pid) state (Taken (Some ast))
  pub becomes : v ≡ with_entry w (record { sender = 0; step = Take pid; answer = Taken (Some ast) }) state w.lists

-- the hub makes the departure of a lost node, and writes an entry
pub record Loses (w : World) (node : ℕ) (v : World) : Type 0 where
  pub answer : Answer
  pub state : State
  pub outcome : Outcome w.state (Leave node) state answer
  pub becomes : v ≡ with_entry w (record { sender = 0; step = Leave node; answer = answer }) state w.lists

-- the hub sends a node its next item in the journal, if fewer than 64 items are on their way to it
pub record Sends (nodes : ℕ) (w : World) (node : ℕ) (v : World) : Type 0 where
  pub node_is : IsNode nodes node
  pub item : Item
  pub follows : IsNext item (w.lists node).sent (told node w.journal)
  pub place : length (w.lists node).sent < length (w.lists node).received + 64
  pub becomes : v ≡ with_node w node (record (w.lists node) { sent = (w.lists node).sent ++ item ∷ [] })

-- a node takes the next item that is sent to it
pub record Takes (nodes : ℕ) (w : World) (node : ℕ) (v : World) : Type 0 where
  pub node_is : IsNode nodes node
  pub item : Item
  pub follows : IsNext item (w.lists node).received (w.lists node).sent
  pub becomes : v ≡ with_node w node (record (w.lists node) { received = (w.lists node).received ++ item ∷ [] })

-- the event leads from one world to another
abbrev pub Happens : ℕ → World → Event → World → Type 0
Happens nodes w (post node step) v = Posts nodes w node step v
Happens nodes w (apply node) v = Serves nodes w node v
Happens nodes w (deliver pid) v = Delivers w pid v
Happens nodes w (depart node) v = Loses w node v
Happens nodes w (send node) v = Sends nodes w node v
Happens nodes w (take node) v = Takes nodes w node v

-- the step that the hub itself asks for at an event: the take of a delivery, or the departure of a lost node
abbrev pub own_step : Event → List Step
own_step (deliver pid) = Take pid ∷ []
own_step (depart node) = Leave node ∷ []
own_step (post node step) = []
own_step (apply node) = []
own_step (send node) = []
own_step (take node) = []

-- the steps that the hub itself asks for, in order
abbrev pub own_steps : List Event → List Step
own_steps [] = []
own_steps (event ∷ events) = own_step event ++ own_steps events

-- the events of this many nodes and their hub lead to the world
pub data Reached (nodes : ℕ) : List Event → World → Type 0 where
  begin : Reached nodes [] first_world
  next : {events : List Event} {old new : World} (event : Event)
      → Reached nodes events old → Happens nodes old event new → Reached nodes (events ++ event ∷ []) new

-- the served steps are the node's requests in the journal, and a prefix of its posts; the sent items are a prefix of
-- its items in the journal, and the received items a prefix of the sent; at most 64 posts are not served, and at most
-- 64 items are on their way
pub record IsInOrder (node : ℕ) (journal : List Entry) (own : Lists) : Type 0 where
  pub served : own.served ≡ asked node journal
  pub posted : IsPrefix own.served own.posted
  pub sent : IsPrefix own.sent (told node journal)
  pub received : IsPrefix own.received own.sent
  pub few_posts : length own.posted ≤ length own.served + 64
  pub few_items : length own.sent ≤ length own.received + 64

-- the journal is legal, and the lists of each node are in order
pub record IsRight (nodes : ℕ) (w : World) : Type 0 where
  pub legal : Journal w.journal w.state
  pub in_order : (node : ℕ) → IsNode nodes node → IsInOrder node w.journal (w.lists node)
