-- The requests of each node, and its items.
use Rattle.std.specs.Prelude.{ℕ, ◌==◌, List, [], ◌∷◌, ◌++◌, Option, None, Some, if◌then◌else◌}
use Rattle.vlm_words.specs.declared.asts.Ast.{Ast}
use Rattle.vlm_words.specs.declared.steps.Answer.TheVariants.{Taken}
use Rattle.vlm_words.specs.declared.steps.Answer.{Answer}
use Rattle.vlm_words.specs.declared.steps.Step.{Step}
use Rattle.vlm_words.specs.Steps.{node_of_pid}
use Rattle.vlm_journal.specs.declared.entries.Entry.{Entry}
use Rattle.vlm_journal.specs.declared.entries.Item.TheVariants.{Answer as answer_item, Ast as ast_item}
use Rattle.vlm_journal.specs.declared.entries.Item.{Item}
use Rattle.vlm_journal.specs.Journals.{taker}

-- the steps that the sender asked for, in order
abbrev pub asked : ℕ → List Entry → List Step
asked sender [] = []
asked sender (entry ∷ entries) =
    if entry.sender == sender then entry.step ∷ asked sender entries else asked sender entries

-- the AST in an answer, if there is one
abbrev pub given_ast : Answer → Option Ast
given_ast (Taken ast) = ast
given_ast answer = None

-- the taken AST, if its process is of the node
abbrev pub ast_told : ℕ → Option ℕ → Option Ast → List Item
ast_told node (Some pid) (Some ast) = if node_of_pid pid == node then ast_item pid ast ∷ [] else []
ast_told node pid ast = []

-- the items of an entry for a node: the answer if the node asked, and the AST that is taken of one of its processes
abbrev pub items_told : ℕ → Entry → List Item
items_told node entry =
    (if entry.sender == node then answer_item entry.answer ∷ [] else [])
    ++ ast_told node (taker entry.step) (given_ast entry.answer)

-- the items of a node, in order
abbrev pub told : ℕ → List Entry → List Item
told node [] = []
told node (entry ∷ entries) = items_told node entry ++ told node entries
