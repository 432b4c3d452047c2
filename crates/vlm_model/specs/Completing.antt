-- The law that each request completes once.
use Rattle.std.specs.Prelude.{◌≡◌, ◌&&◌, ◌||◌, ℕ, Bool, true, false, List, [], ◌∷◌, Option, None, Some, filter, flat_map, if◌then◌else◌}
use Rattle.vlm_words.specs.declared.asts.AstKind.{AstKind}
use Rattle.vlm_words.specs.declared.asts.AstKind.TheVariants.{Completion, Blocking}
use Rattle.vlm_words.specs.Flags.{flag_bits, has_flag, syncsts}
use Rattle.vlm_model.specs.Endings.{Ending, How}
use Rattle.vlm_model.specs.Endings.How.{by_abort, by_cancel, by_deadlock, by_grant, by_rundown}
use Rattle.vlm_model.specs.Asts.{Queued}

-- the AST is a completion
abbrev pub tells_completion : AstKind → Bool
tells_completion Completion = true
tells_completion Blocking = false

-- the queued AST is a completion
abbrev pub is_completion : Queued → Bool
is_completion q = tells_completion q.ast.kind

-- an immediate grant with SYNCSTS, which only the answer reports
abbrev pub is_told_by_answer : Ending → Bool
is_told_by_answer ending = ending.at_once && has_flag (flag_bits ending.request.flags) syncsts

-- the request ends by rundown
abbrev pub ends_with_its_process : How → Bool
ends_with_its_process (by_grant act) = false
ends_with_its_process by_abort = false
ends_with_its_process by_cancel = false
ends_with_its_process by_deadlock = false
ends_with_its_process by_rundown = true

-- the completion of an ending, if a routine is named: for the lock's process, with the request's parameter and the
-- lock
abbrev pub call_of : Option ℕ → Ending → List Queued
call_of None ending = []
call_of (Some routine) ending =
    record {
      pid = ending.pid;
      ast = record { kind = Completion; routine = routine; param = ending.request.param; lkid = ending.lkid };
    }
    ∷ []

-- the completion of an ending; a rundown and an immediate grant with SYNCSTS have no completion
abbrev pub completion_of : Ending → List Queued
completion_of ending =
    if ends_with_its_process ending.how || is_told_by_answer ending then []
    else call_of ending.request.completion ending

-- the queued completions are the completions of the endings, each once, in their order
pub record EachRequestCompletesOnce (endings : List Ending) (queued : List Queued) : Type 0 where
  pub completions : filter is_completion queued ≡ flat_map completion_of endings
