-- The ASTs of processes.
use Rattle.std.specs.Prelude.{ℕ, Bool, false, List, [], ◌∷◌, map, ◌==◌, ◌&&◌, ◌||◌, flat_map, Option, None, Some, if◌then◌else◌}
use Rattle.std.specs.List.{list_any}
use Rattle.std.specs.Option.{option_map_or}
use Rattle.vlm_words.specs.declared.asts.Ast.{Ast}
use Rattle.vlm_words.specs.declared.asts.AstKind.{AstKind}
use Rattle.vlm_words.specs.declared.asts.AstKind.TheVariants.{Completion, Blocking}
use Rattle.vlm_words.specs.declared.locks.Request.{Request}
use Rattle.vlm_words.specs.declared.locks.LockState.{LockState}
use Rattle.vlm_words.specs.Flags.{flag_bits, has_flag, syncsts}
use Rattle.vlm_words.specs.State.{Process, Resource, process_of}
use Rattle.vlm_model.specs.Endings.{Ending, is_told}
use Rattle.vlm_words.specs.Rows.{blocks_request}
use Rattle.vlm_words.specs.Processes.{with_ast, without_oldest_ast}

-- the pending ASTs of a process, oldest first; empty if the process does not live
abbrev pub asts_of : List Process → ℕ → List Ast
asts_of processes pid = option_map_or (λ p. p.asts) (process_of processes pid) []

-- the oldest AST of the process is taken, if it has this ID
unfoldable pub process_after_take : ℕ → Process → Process
process_after_take pid p = if p.pid == pid then without_oldest_ast p else p

-- the oldest AST of this process is taken, and no other process changes
abbrev pub processes_after_take : ℕ → List Process → List Process
processes_after_take pid processes = map (process_after_take pid) processes

-- an AST and the process it is queued to
pub record Queued : Type 0 where
  pub pid : ℕ
  pub ast : Ast

-- the AST is queued to the process, if it has this ID
unfoldable pub process_after_queueing : ℕ → Ast → Process → Process
process_after_queueing pid ast p = if p.pid == pid then with_ast ast p else p

-- an AST is queued to this process, and no other process changes
abbrev pub processes_after_queueing : ℕ → Ast → List Process → List Process
processes_after_queueing pid ast processes = map (process_after_queueing pid ast) processes

-- ASTs are queued one after another, each to its process
abbrev pub processes_after_asts : List Queued → List Process → List Process
processes_after_asts [] processes = processes
processes_after_asts (q ∷ queued) processes =
    processes_after_asts queued (processes_after_queueing q.pid q.ast processes)

-- the AST of a request, if the request names a routine of this kind
abbrev pub asts_for : AstKind → Option ℕ → Request → ℕ → ℕ → List Queued
asts_for kind None request lkid pid = []
asts_for kind (Some routine) request lkid pid =
    record { pid = pid; ast = record { kind = kind; routine = routine; param = request.param; lkid = lkid } }
    ∷ []

-- ---- completions

-- an immediate grant with SYNCSTS, which only the answer reports
abbrev pub is_synchronous : Bool → Request → Bool
is_synchronous at_once request = at_once && has_flag (flag_bits request.flags) syncsts

-- the completion AST of an ended request
unfoldable pub completion_asts : Bool → Request → ℕ → ℕ → List Queued
completion_asts at_once request lkid pid =
    if is_synchronous at_once request then []
    else asts_for Completion request.completion request lkid pid

-- the completion AST of an ending; a rundown queues no AST
abbrev pub completions : Ending → List Queued
completions ending =
    if is_told ending.how then completion_asts ending.at_once ending.request ending.lkid ending.pid
    else []

-- the completion ASTs of several endings, in order
abbrev pub completions_of : List Ending → List Queued
completions_of endings = flat_map completions endings

-- ---- warnings

-- the held mode, if there is one, is incompatible with some queued request
abbrev pub blocks_a_request : Option Request → List LockState → List LockState → Bool
blocks_a_request None converting waiting = false
blocks_a_request (Some held) converting waiting =
    list_any (λ row. blocks_request held.mode row.want) converting
    || list_any (λ row. blocks_request held.mode row.want) waiting

-- the granted lock is armed and blocks a queued request
unfoldable pub is_to_warn : List LockState → List LockState → LockState → Bool
is_to_warn converting waiting row = row.armed && blocks_a_request row.held converting waiting

-- the blocking AST of a held request, if it names a blocking routine
abbrev pub blocking_asts : Option Request → ℕ → ℕ → List Queued
blocking_asts None lkid pid = []
blocking_asts (Some held) lkid pid = asts_for Blocking held.blocking held lkid pid

-- the blocking AST of a granted lock, if the lock is to be warned
unfoldable pub row_warnings : List LockState → List LockState → LockState → List Queued
row_warnings converting waiting row =
    if is_to_warn converting waiting row then blocking_asts row.held row.lkid row.pid else []

-- the blocking ASTs of a resource, in the order of its granted queue
unfoldable pub warnings : Resource → List Queued
warnings r = flat_map (row_warnings r.converting r.waiting) r.granted

-- a warned lock is disarmed
unfoldable pub row_after_warning : List LockState → List LockState → LockState → LockState
row_after_warning converting waiting row =
    if is_to_warn converting waiting row then record row { armed = false } else row

-- the resource after its granted locks are warned
unfoldable pub resource_after_warning : Resource → Resource
resource_after_warning r =
    record r { granted = map (row_after_warning r.converting r.waiting) r.granted }

-- some granted lock of the resource is to be warned
unfoldable pub has_to_warn : Resource → Bool
has_to_warn r = list_any (is_to_warn r.converting r.waiting) r.granted
