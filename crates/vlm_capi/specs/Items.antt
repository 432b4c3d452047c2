-- What C gets of an item.
use Rattle.std.specs.Prelude.{ℕ, Option, Some, None, replicate}
use Rattle.vlm_words.specs.declared.asts.Ast.{Ast}
use Rattle.vlm_words.specs.declared.steps.Answer.{Answer}
use Rattle.vlm_journal.specs.declared.entries.Item.{Item}
use Rattle.vlm_journal.specs.declared.entries.Item.TheVariants.{Answer as answer, Ast as ast}
use Rattle.vlm_capi.specs.Replies.{answer_number, answer_status, ast_of, no_ast}
use Rattle.vlm_capi.specs.declared.items.VlmItem.{VlmItem}

-- kind 1 is an answer
abbrev pub answer_item : Answer → VlmItem
answer_item a = record {
  size = 64;
  kind = 1;
  status = answer_status a;
  number = answer_number a;
  pid = 0;
  reserved = replicate 3 0;
  ast = no_ast;
}

-- kind 2 is an AST
abbrev pub ast_item : ℕ → Ast → VlmItem
ast_item pid a =
    record { size = 64; kind = 2; status = 0; number = 0; pid = pid; reserved = replicate 3 0; ast = ast_of a }

-- kind 0 is no item
abbrev pub no_item : VlmItem
no_item = record { size = 64; kind = 0; status = 0; number = 0; pid = 0; reserved = replicate 3 0; ast = no_ast }

abbrev pub item_or_none : Option Item → VlmItem
item_or_none (Some (answer a)) = answer_item a
item_or_none (Some (ast pid a)) = ast_item pid a
item_or_none None = no_item
