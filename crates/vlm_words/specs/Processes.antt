-- A process, its status blocks and its ASTs.
use Rattle.std.specs.Prelude.{ℕ, Bool, ◌&&◌, ◌==◌, ◌-◌, ◌++◌, nat_lt, List, [], ◌∷◌, drop, length, replicate, slice_get, slice_set, Option, if◌then◌else◌}
use Rattle.vlm_words.specs.declared.asts.Ast.{Ast}
use Rattle.vlm_words.specs.declared.blocks.Block.{Block}
use Rattle.vlm_words.specs.declared.steps.Declaration.{Declaration}
use Rattle.vlm_words.specs.State.{Process}
use Rattle.vlm_words.specs.Steps.{node_of_pid}

-- a new status block: all zeros
abbrev pub new_status_block : Block
new_status_block = record { status = 0; lkid = 0; value = replicate 16 0; tail = replicate 48 0 }

-- block n is replaced, if it exists
abbrev pub with_block : ℕ → Block → List Block → List Block
with_block n block blocks = if nat_lt 0 n then slice_set blocks (n - 1) block else blocks

-- the process with its block n replaced
abbrev pub process_with_block : ℕ → Block → Process → Process
process_with_block n block p = record p { blocks = with_block n block p.blocks }

-- a new process: its status blocks are new, and no AST is pending
abbrev pub new_process : ℕ → Declaration → Process
new_process pid d = record {
  pid = pid;
  group = d.group;
  syslck = d.syslck;
  quota = d.quota;
  blocks = replicate d.blocks new_status_block;
  asts = [];
}

-- the oldest AST, if one is pending
abbrev pub oldest : List Ast → Option Ast
oldest asts = slice_get asts 0

-- the ASTs except the oldest
abbrev pub later : List Ast → List Ast
later asts = drop 1 asts

-- the process after its oldest AST is taken
abbrev pub without_oldest_ast : Process → Process
without_oldest_ast p = record p { asts = later p.asts }

-- the process with one more AST, at the end
abbrev pub with_ast : Ast → Process → Process
with_ast ast p = record p { asts = p.asts ++ ast ∷ [] }

-- the process is of the node and has a pending AST
abbrev pub is_pending_on : ℕ → Process → Bool
is_pending_on node p = (node_of_pid p.pid == node) && nat_lt 0 (length p.asts)
