-- The step Take: takes the oldest AST of a process.
use Rattle.std.specs.Prelude.{ℕ, Option}
use Rattle.vlm_words.specs.declared.asts.Ast.{Ast}
use Rattle.vlm_words.specs.declared.conditions.Cond.{Cond}
use Rattle.vlm_words.specs.State.{State}
use Rattle.vlm_model.specs.Asts.{asts_of, processes_after_take}
use Rattle.vlm_words.specs.Processes.{oldest}
use Rattle.vlm_model.specs.Checks.{caller_refusal}

-- the check of a Take: DEPARTED or NONEXPR
abbrev pub take_refusal : State → ℕ → Option Cond
take_refusal s pid = caller_refusal s pid

-- the AST that is taken, if one is pending
abbrev pub taken_ast : State → ℕ → Option Ast
taken_ast s pid = oldest (asts_of s.processes pid)

-- the AST is not pending after the step
unfoldable pub take_change : State → ℕ → State
take_change s pid = record s { processes = processes_after_take pid s.processes }
