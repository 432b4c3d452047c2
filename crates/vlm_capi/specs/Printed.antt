-- The lines that C has printed.
use Rattle.std.specs.Prelude.{◌≡◌, ℕ, false, List, nat_le, ◌==◌, ◌&&◌, length, take, codes, Option, Some, None, if◌then◌else◌}
use Rattle.std.specs.Option.{option_map}
use Rattle.vlm_words.specs.Padding.{padded}
use Rattle.vlm_words.specs.declared.asts.Ast.{Ast}
use Rattle.vlm_words.specs.declared.asts.AstKind.{AstKind}
use Rattle.vlm_words.specs.declared.asts.AstKind.TheVariants.{Completion, Blocking}
use Rattle.vlm_words.specs.declared.blocks.Block.{Block}
use Rattle.vlm_words.specs.Conditions.{condition_number}
use Rattle.vlm_words.specs.declared.conditions.Cond.{Cond}
use Rattle.vlm_words.specs.declared.conditions.Cond.TheVariants.{Normal, Synch, Notqueued, Abort, Cancel, Deadlock}
use Rattle.vlm_words.specs.declared.conditions.Cond.TheVariants.{Valnotvalid, Cancelgrant, Sublocks, Ivlockid}
use Rattle.vlm_words.specs.declared.conditions.Cond.TheVariants.{Cvtungrant, Parnotgrant, Exdepth, Exenqlm, Nolockid}
use Rattle.vlm_words.specs.declared.conditions.Cond.TheVariants.{Insfmem, Ivbuflen, Badparam, Unsupported, Nosyslck}
use Rattle.vlm_words.specs.declared.conditions.Cond.TheVariants.{Accvio, Nonexpr, Departed, Widenotvalid}
use Rattle.vlm_words.specs.declared.steps.Answer.{Answer}
use Rattle.vlm_words.specs.declared.steps.Answer.TheVariants.{Process, Lock, Victim, Taken, Plain}
use Rattle.vlm_lines.specs.Texts.{answer_line, node_line}
use Rattle.vlm_queue.specs.declared.views.RowView.{RowView}
use Rattle.vlm_capi.specs.declared.printed.VlmText.{VlmText}
use Rattle.vlm_capi.specs.declared.replies.VlmAst.{VlmAst}
use Rattle.vlm_capi.specs.declared.script_lines.VlmLine.{VlmLine}
use Rattle.vlm_capi.specs.declared.shown.VlmLock.{VlmLock}
use Rattle.vlm_capi.specs.Replies.{answer_number, answer_status}
use Rattle.vlm_capi.specs.Structs.{mode_of, node_of}

-- the condition with this number
unfoldable pub condition_of : ℕ → Option Cond
condition_of n =
    if n == 1 then Some Normal
    else (if n == 2 then Some Synch
    else (if n == 3 then Some Notqueued
    else (if n == 4 then Some Abort
    else (if n == 5 then Some Cancel
    else (if n == 6 then Some Deadlock
    else (if n == 7 then Some Valnotvalid
    else (if n == 8 then Some Cancelgrant
    else (if n == 9 then Some Sublocks
    else (if n == 10 then Some Ivlockid
    else (if n == 11 then Some Cvtungrant
    else (if n == 12 then Some Parnotgrant
    else (if n == 13 then Some Exdepth
    else (if n == 14 then Some Exenqlm
    else (if n == 15 then Some Nolockid
    else (if n == 16 then Some Insfmem
    else (if n == 17 then Some Ivbuflen
    else (if n == 18 then Some Badparam
    else (if n == 19 then Some Unsupported
    else (if n == 20 then Some Nosyslck
    else (if n == 21 then Some Accvio
    else (if n == 22 then Some Nonexpr
    else (if n == 23 then Some Departed
    else (if n == 24 then Some Widenotvalid
    else None)))))))))))))))))))))))

-- the answer that a condition and a number tell of a line of this kind
unfoldable pub answer_told : ℕ → Cond → ℕ → Answer
answer_told kind cond number =
    if number == 0 then (if (kind == 8) && (condition_number cond == 1) then Victim None else Plain cond)
    else (if kind == 1 then Process number
    else (if kind == 8 then Victim (Some number) else Lock cond number))

-- the answers to a line of this kind
abbrev pub IsAnswerTo : ℕ → Answer → Type 0
IsAnswerTo kind (Process pid) = (kind ≡ 1) × ((pid == 0) ≡ false)
IsAnswerTo kind (Lock cond lkid) = ((kind == 1) ≡ false) × ((kind == 8) ≡ false) × ((lkid == 0) ≡ false)
IsAnswerTo kind (Victim (Some lkid)) = (kind ≡ 8) × ((lkid == 0) ≡ false)
IsAnswerTo kind (Victim None) = kind ≡ 8
IsAnswerTo kind (Taken ast) = ⊥
IsAnswerTo kind (Plain cond) = ((kind == 8) && (condition_number cond == 1)) ≡ false

-- the answer to a line of this kind that C has as this condition and this number
abbrev pub IsToldOf : ℕ → Cond → ℕ → Answer → Type 0
IsToldOf kind cond number answer =
    IsAnswerTo kind answer × (answer_status answer ≡ condition_number cond) × (answer_number answer ≡ number)

-- the AST of this kind of a struct
abbrev pub ast_with : AstKind → VlmAst → Ast
ast_with kind ast = record { kind = kind; routine = ast.routine; param = ast.param; lkid = ast.lkid }

-- the AST of a struct
unfoldable pub ast_told : VlmAst → Option Ast
ast_told ast =
    if ast.kind == 1 then Some (ast_with Completion ast)
    else (if ast.kind == 2 then Some (ast_with Blocking ast) else None)

-- an AST that was taken, or that none was pending, or why none was taken
unfoldable pub taken_told : Cond → VlmAst → Answer
taken_told cond ast =
    if condition_number cond == 1 then Taken (ast_told ast) else Plain cond

-- the line under the name that a line of a script has
abbrev pub under_name : VlmLine → (List ℕ → List ℕ) → Option (List ℕ)
under_name line text = if nat_le line.name_len 15 then Some (text (take line.name_len line.name)) else None

-- the line of an answer to a line of a script
unfoldable pub answer_printed : VlmLine → Answer → Option (List ℕ)
answer_printed line answer =
    if line.kind == 7 then option_map (λ node. node_line node answer) (node_of line.number)
    else (if line.kind == 8 then Some (answer_line (codes "search") answer)
    else under_name line (λ name. answer_line name answer))

-- the line of a condition and a number
abbrev pub told_printed : VlmLine → Option Cond → ℕ → Option (List ℕ)
told_printed line None number = None
told_printed line (Some cond) number = answer_printed line (answer_told line.kind cond number)

-- the line of a taken AST
abbrev pub taken_printed : VlmLine → Option Cond → VlmAst → Option (List ℕ)
taken_printed line None ast = None
taken_printed line (Some cond) ast = under_name line (λ name. answer_line name (taken_told cond ast))

-- the line that a text makes of a status block: its own line, or that of its tail
abbrev pub status_printed : (List ℕ → ℕ → Option Block → List ℕ) → VlmLine → Option ℕ → Option (Option Block)
    → Option (List ℕ)
status_printed text line (Some number) (Some block) = under_name line (λ name. text name number block)
status_printed text line number shown = None

-- the lock of a struct
abbrev pub row_told : VlmLock → RowView
row_told lock = record { lkid = lock.lkid; pid = lock.pid; held = mode_of lock.held; want = mode_of lock.want }

-- the struct of a printed line
abbrev pub text_of : List ℕ → VlmText
text_of text = record { size = 256; len = length text; bytes = padded 248 text }
