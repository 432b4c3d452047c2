-- The texts that a script's run prints, of several lines or beside a script.
use Rattle.std.specs.Prelude.{ℕ, List, [], ◌∷◌, ◌++◌, codes, decimal, flat_map}
use Rattle.vlm_words.specs.declared.asts.Ast.{Ast}
use Rattle.vlm_words.specs.declared.locks.LockState.{LockState}
use Rattle.vlm_words.specs.declared.resources.Queue.{Queue}
use Rattle.vlm_words.specs.declared.resources.Queue.TheVariants.{Granted, Conversion, Waiting}
use Rattle.vlm_words.specs.declared.steps.Answer.{Answer}
use Rattle.vlm_words.specs.State.{Resource}
use Rattle.vlm_lines.specs.Texts.{answer_text, ast_text, hex_text, line_feed, no_resources_line, resource_line, row_line, tail_line, validity}
use Rattle.vlm_queue.specs.Views.{resource_view, row_view}
use Rattle.vlm_script.specs.declared.printed.rows.WatchedRow.{WatchedRow}
use Rattle.vlm_script.specs.declared.show.Part.{Part}
use Rattle.vlm_script.specs.declared.show.Part.TheVariants.{Queues, Tail}

-- the beginning of an item's line: its node, and its number among the node's items
unfoldable pub item_text : ℕ → ℕ → List ℕ
item_text node number = codes "node " ++ decimal node ++ codes " item " ++ decimal number ++ codes ": "

-- the line of an item that is an answer
unfoldable pub answer_item_line : ℕ → ℕ → Answer → List ℕ
answer_item_line node number answer = item_text node number ++ answer_text answer ++ line_feed

-- the line of an item that is an AST, with its process
unfoldable pub ast_item_line : ℕ → ℕ → ℕ → Ast → List ℕ
ast_item_line node number pid ast =
    item_text node number ++ ast_text ast ast.kind ++ codes " process " ++ decimal pid ++ line_feed

-- the line of the number of entries of a journal
unfoldable pub journal_line : ℕ → List ℕ
journal_line entries = codes "journal " ++ decimal entries ++ line_feed

-- the lines of a queue, in queue order
abbrev pub queue_lines : Queue → List LockState → List ℕ
queue_lines queue rows = flat_map (λ row. row_line queue (row_view row)) rows

-- a resource with its three queues
unfoldable pub resource_text : Resource → List ℕ
resource_text r =
    resource_line (resource_view r) ++ queue_lines Granted r.granted ++ queue_lines Conversion r.converting
    ++ queue_lines Waiting r.waiting

-- the text of this part of a resource
abbrev pub part_text : Part → Resource → List ℕ
part_text Queues r = resource_text r
part_text Tail r = tail_line (resource_view r)

-- this part of each resource by rising serial, or a line that says that there is none
unfoldable pub parts_text : Part → List Resource → List ℕ
parts_text part [] = no_resources_line
parts_text part (r ∷ rest) = part_text part r ++ flat_map (part_text part) rest

-- all resources with their queues
abbrev pub resources_text : List Resource → List ℕ
resources_text resources = parts_text Queues resources

-- the tails of the value blocks of all resources
abbrev pub tails_text : List Resource → List ℕ
tails_text resources = parts_text Tail resources

-- the counts, each after a space
abbrev pub counts_text : List ℕ → List ℕ
counts_text [] = []
counts_text (count ∷ counts) = codes " " ++ decimal count ++ counts_text counts

-- the line of a watched resource after a line of the script
unfoldable pub watch_line : ℕ → WatchedRow → List ℕ
watch_line line row =
    codes "line " ++ decimal line ++ codes " held" ++ counts_text row.held ++ codes " conversions "
    ++ decimal row.conversions
    ++ codes " waiters " ++ decimal row.waiters ++ codes " value " ++ hex_text row.value ++ codes " "
    ++ validity row.valid ++ line_feed
