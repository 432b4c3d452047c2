-- The lists of entries that a hub may write.
use Rattle.std.specs.Prelude.{◌≡◌, ◌⊎◌, ◌<◌, ◌≤◌, ℕ, List, [], ◌∷◌, ◌++◌, Option, None, Some, map, ◌==◌, ◌&&◌, Bool, not, is_some}
use Rattle.vlm_words.specs.declared.asts.Ast.{Ast}
use Rattle.vlm_words.specs.declared.steps.Answer.TheVariants.{Taken}
use Rattle.vlm_words.specs.declared.steps.Answer.{Answer}
use Rattle.vlm_words.specs.declared.steps.Step.TheVariants.{Leave, Take}
use Rattle.vlm_words.specs.declared.steps.Step.{Step}
use Rattle.vlm_words.specs.State.{State, start}
use Rattle.vlm_model.specs.Stepped.{Outcome}
use Rattle.vlm_words.specs.Steps.{node_of}
use Rattle.vlm_journal.specs.declared.entries.Entry.{Entry}

-- the process that a step takes an AST of, if it is a take
abbrev pub taker : Step → Option ℕ
taker (Take pid) = Some pid
taker step = None

-- a node may post the step: it is a step of that node, and not a take
abbrev pub IsPostOf : ℕ → Step → Type 0
IsPostOf node step = (node_of step ≡ node) × (taker step ≡ None)

-- whether a node may post the step
abbrev pub is_post_of : ℕ → Step → Bool
is_post_of node step = not (is_some (taker step)) && (node_of step == node)

-- the hub itself may make the step, if this is its answer: the departure of a node, or a take that gets an AST
pub data IsHubs : Step → Answer → Type 0 where
  leaves : (node : ℕ) (answer : Answer) → IsHubs (Leave node) answer
  takes : (pid : ℕ) (ast : Ast) → IsHubs (Take pid) (Taken (Some ast))

-- a hub may make the entry: for itself, or for one of the eight nodes, which posted the step
abbrev pub IsAllowed : Entry → Type 0
IsAllowed entry =
    ((entry.sender ≡ 0) × IsHubs entry.step entry.answer)
    ⊎ ((0 < entry.sender) × (entry.sender ≤ 8) × IsPostOf entry.sender entry.step)

-- from this state the entries are legal and lead to a state: a hub may make each, and its answer is an outcome of its
-- step in the state before it
pub data JournalFrom (first : State) : List Entry → State → Type 0 where
  begin : JournalFrom first [] first
  next : {entries : List Entry} {old new : State} {entry : Entry}
      → JournalFrom first entries old → IsAllowed entry → Outcome old entry.step new entry.answer
      → JournalFrom first (entries ++ entry ∷ []) new

-- a legal journal begins at the start of the machine
abbrev pub Journal : List Entry → State → Type 0
Journal entries last = JournalFrom start entries last

-- the steps of a journal, in order
abbrev pub steps_of : List Entry → List Step
steps_of entries = map (λ entry. entry.step) entries

-- their answers, in order
abbrev pub answers_of : List Entry → List Answer
answers_of entries = map (λ entry. entry.answer) entries
