-- The texts of single lines that a script's run prints.
use Rattle.std.specs.Prelude.{ℕ, Bool, true, false, not, ◌&&◌, ◌+◌, ◌/◌, ◌%◌, nat_lt, nat_le, List, [], ◌∷◌, ◌++◌}
use Rattle.std.specs.Prelude.{codes, decimal, Option, None, Some, if◌then◌else◌}
use Rattle.std.specs.List.{list_all}
use Rattle.vlm_words.specs.declared.asts.Ast.{Ast}
use Rattle.vlm_words.specs.declared.asts.AstKind.TheVariants.{Completion, Blocking}
use Rattle.vlm_words.specs.declared.asts.AstKind.{AstKind}
use Rattle.vlm_words.specs.declared.blocks.Block.{Block}
use Rattle.vlm_words.specs.declared.modes.Mode.TheVariants.{Nl, Cr, Cw, Pr, Pw, Ex}
use Rattle.vlm_words.specs.declared.modes.Mode.{Mode}
use Rattle.vlm_words.specs.declared.resources.Domain.TheVariants.{Group, System}
use Rattle.vlm_words.specs.declared.resources.Domain.{Domain}
use Rattle.vlm_words.specs.declared.steps.Answer.TheVariants.{Process as process_answer, Lock, Victim, Taken, Plain}
use Rattle.vlm_words.specs.declared.steps.Answer.{Answer}
use Rattle.vlm_words.specs.Conditions.{condition_name}
use Rattle.vlm_lines.specs.Lines.{has_key}
use Rattle.vlm_words.specs.declared.resources.Queue.{Queue}
use Rattle.vlm_words.specs.declared.resources.Queue.TheVariants.{Granted, Conversion, Waiting}
use Rattle.vlm_queue.specs.declared.views.ResourceView.{ResourceView}
use Rattle.vlm_queue.specs.declared.views.RowView.{RowView}

-- the end of a line
abbrev pub line_feed : List ℕ
line_feed = 10 ∷ []

-- a mode's name
abbrev pub mode_name : Mode → List ℕ
mode_name Nl = codes "NL"
mode_name Cr = codes "CR"
mode_name Cw = codes "CW"
mode_name Pr = codes "PR"
mode_name Pw = codes "PW"
mode_name Ex = codes "EX"

-- a hexadecimal digit in lower case
abbrev pub hex_digit : ℕ → ℕ
hex_digit n = if nat_lt n 10 then 48 + n else 87 + n

-- two digits for each byte
unfoldable pub hex_text : List ℕ → List ℕ
hex_text [] = []
hex_text (byte ∷ bytes) = hex_digit (byte / 16) ∷ hex_digit (byte % 16) ∷ hex_text bytes

-- an AST: its kind, routine, parameter and lock
abbrev pub ast_text : Ast → AstKind → List ℕ
ast_text ast Completion =
    codes "completion " ++ decimal ast.routine ++ codes " param " ++ decimal ast.param ++ codes " lock "
    ++ decimal ast.lkid
ast_text ast Blocking =
    codes "blocking " ++ decimal ast.routine ++ codes " param " ++ decimal ast.param ++ codes " lock "
    ++ decimal ast.lkid

-- an answer without the name before it
unfoldable pub answer_text : Answer → List ℕ
answer_text (process_answer pid) = codes "process " ++ decimal pid
answer_text (Lock cond lkid) = condition_name cond ++ codes " lock " ++ decimal lkid
answer_text (Victim None) = codes "victim none"
answer_text (Victim (Some lkid)) = codes "victim " ++ decimal lkid
answer_text (Taken None) = codes "none"
answer_text (Taken (Some ast)) = ast_text ast ast.kind
answer_text (Plain cond) = condition_name cond

-- the line of an answer to a process, under its name
unfoldable pub answer_line : List ℕ → Answer → List ℕ
answer_line name answer = name ++ codes ": " ++ answer_text answer ++ line_feed

-- the line of an answer to a node, under its number
unfoldable pub node_line : ℕ → Answer → List ℕ
node_line node answer = codes "node " ++ decimal node ++ codes ": " ++ answer_text answer ++ line_feed

-- a status block under its process's name: its contents, or that the process has no such block
unfoldable pub status_block_line : List ℕ → ℕ → Option Block → List ℕ
status_block_line name number None = name ++ codes ": block " ++ decimal number ++ codes " none" ++ line_feed
status_block_line name number (Some block) =
    name ++ codes ": block " ++ decimal number ++ codes " status " ++ decimal block.status
    ++ codes " lock " ++ decimal block.lkid ++ codes " value " ++ hex_text block.value ++ line_feed

-- the tail of a status block under its process's name, or that the process has no such block
unfoldable pub status_tail_line : List ℕ → ℕ → Option Block → List ℕ
status_tail_line name number None = name ++ codes ": tail " ++ decimal number ++ codes " none" ++ line_feed
status_tail_line name number (Some block) =
    name ++ codes ": tail " ++ decimal number ++ codes " " ++ hex_text block.tail ++ line_feed

-- every byte is readable, and the name does not look like hexadecimal digits
abbrev pub is_readable : List ℕ → Bool
is_readable name = list_all (λ byte. nat_le 33 byte && nat_le byte 126) name && not (has_key (codes "x:") name)

-- a resource's name as a script writes it
unfoldable pub name_text : List ℕ → List ℕ
name_text name = if is_readable name then name else codes "x:" ++ hex_text name

-- a domain: the system's, or a group's
abbrev pub domain_text : Domain → List ℕ
domain_text (Group group) = codes "group " ++ decimal group
domain_text System = codes "system"

-- whether a value block, or its tail, is valid
abbrev pub validity : Bool → List ℕ
validity true = codes "valid"
validity false = codes "invalid"

-- the resource's own line
unfoldable pub resource_line : ResourceView → List ℕ
resource_line r =
    codes "resource " ++ decimal r.serial ++ codes " in " ++ decimal r.parent ++ codes " " ++ domain_text r.domain
    ++ codes " name " ++ name_text r.name ++ codes " value " ++ hex_text r.value ++ codes " " ++ validity r.valid
    ++ line_feed

-- the mode of a request, or nothing if there is no request
abbrev pub mode_text : Option Mode → List ℕ
mode_text None = []
mode_text (Some mode) = mode_name mode

-- the beginning of a lock's line
unfoldable pub lock_text : List ℕ → RowView → List ℕ
lock_text queue row = codes "  " ++ queue ++ codes " " ++ decimal row.lkid ++ codes " process " ++ decimal row.pid
    ++ codes " "

-- a granted lock
unfoldable pub granted_line : RowView → List ℕ
granted_line row = lock_text (codes "granted") row ++ mode_text row.held ++ line_feed

-- a lock that holds one mode and waits for another
unfoldable pub converting_line : RowView → List ℕ
converting_line row = lock_text (codes "converting") row ++ mode_text row.held ++ codes " to " ++ mode_text row.want
    ++ line_feed

-- a lock that waits to be granted for the first time
unfoldable pub waiting_line : RowView → List ℕ
waiting_line row = lock_text (codes "waiting") row ++ mode_text row.want ++ line_feed

-- a lock's line in a queue
abbrev pub row_line : Queue → RowView → List ℕ
row_line Granted row = granted_line row
row_line Conversion row = converting_line row
row_line Waiting row = waiting_line row

-- the tail of a resource's value block, under its serial
unfoldable pub tail_line : ResourceView → List ℕ
tail_line r =
    codes "tail " ++ decimal r.serial ++ codes " value " ++ hex_text r.tail ++ codes " " ++ validity r.tail_valid
    ++ line_feed

-- a line that says that there is no resource
abbrev pub no_resources_line : List ℕ
no_resources_line = codes "no resources" ++ line_feed
