-- What C gets of an answer.
use Rattle.std.specs.Prelude.{ℕ, ◌==◌, Option, Some, None, replicate, if◌then◌else◌}
use Rattle.vlm_words.specs.declared.asts.Ast.{Ast}
use Rattle.vlm_words.specs.declared.asts.AstKind.{AstKind}
use Rattle.vlm_words.specs.declared.asts.AstKind.TheVariants.{Completion, Blocking}
use Rattle.vlm_words.specs.declared.conditions.Cond.TheVariants.{Normal}
use Rattle.vlm_words.specs.declared.steps.Answer.TheVariants.{Process as process_answer, Lock, Victim, Taken, Plain}
use Rattle.vlm_words.specs.declared.steps.Answer.{Answer}
use Rattle.vlm_words.specs.Conditions.{condition_number}
use Rattle.vlm_capi.specs.declared.replies.VlmAst.{VlmAst}

-- the caller's struct for the AST has its size
abbrev pub take_of : ℕ → ℕ → Option ℕ
take_of pid size = if size == 32 then Some pid else None

abbrev pub answer_status : Answer → ℕ
answer_status (process_answer pid) = condition_number Normal
answer_status (Lock cond lkid) = condition_number cond
answer_status (Victim lkid) = condition_number Normal
answer_status (Taken ast) = condition_number Normal
answer_status (Plain cond) = condition_number cond

-- the ID in an answer, or 0
abbrev pub answer_number : Answer → ℕ
answer_number (process_answer pid) = pid
answer_number (Lock cond lkid) = lkid
answer_number (Victim (Some lkid)) = lkid
answer_number (Victim None) = 0
answer_number (Taken ast) = 0
answer_number (Plain cond) = 0

abbrev pub kind_number : AstKind → ℕ
kind_number Completion = 1
kind_number Blocking = 2

abbrev pub ast_of : Ast → VlmAst
ast_of a = record {
  size = 32;
  kind = kind_number a.kind;
  routine = a.routine;
  param = a.param;
  lkid = a.lkid;
  reserved = replicate 3 0;
}

-- what C reads if no AST is pending
abbrev pub no_ast : VlmAst
no_ast = record { size = 32; kind = 0; routine = 0; param = 0; lkid = 0; reserved = replicate 3 0 }

-- the caller's struct after a Take; a refusal leaves it as it was
abbrev pub ast_written : Answer → VlmAst → VlmAst
ast_written (Taken (Some ast)) old = ast_of ast
ast_written (Taken None) old = no_ast
ast_written (process_answer pid) old = old
ast_written (Lock cond lkid) old = old
ast_written (Victim lkid) old = old
ast_written (Plain cond) old = old
