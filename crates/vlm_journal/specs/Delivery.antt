-- The answer to a take of the hub.
use Rattle.std.specs.Prelude.{◌≡◌, ◌/◌, ℕ, Some}
use Rattle.vlm_words.specs.declared.asts.Ast.{Ast}
use Rattle.vlm_words.specs.declared.steps.Answer.TheVariants.{Taken}
use Rattle.vlm_words.specs.declared.steps.Answer.{Answer}

-- the answer is an AST, and the process is one of the node
pub record GivesAst (node pid : ℕ) (answer : Answer) : Type 0 where
  pub ast : Ast
  pub answered : answer ≡ Taken (Some ast)
  pub of_node : pid / 65536 ≡ node
