-- What the replay of a journal's entry does.
use Rattle.std.specs.Prelude.{◌≡◌, ℕ, Bool, true, false, ◌==◌, ◌&&◌, nat_le, nat_lt, take, Option, Some, None, if◌then◌else◌}
use Rattle.std.specs.Option.{option_map}
use Rattle.vlm_words.specs.declared.conditions.Cond.TheVariants.{Normal, Insfmem, Badparam}
use Rattle.vlm_words.specs.declared.steps.Answer.{Answer}
use Rattle.vlm_words.specs.declared.steps.Step.{Step}
use Rattle.vlm_words.specs.declared.steps.Step.TheVariants.{Convert, Declare, Deq, Enq, Leave, Rundown, Search, SetValue, Take}
use Rattle.vlm_words.specs.declared.steps.Which.{Which}
use Rattle.vlm_words.specs.declared.steps.Which.TheVariants.{Id, Block}
use Rattle.vlm_words.specs.Conditions.{condition_number}
use Rattle.vlm_words.specs.Names.{is_name}
use Rattle.vlm_words.specs.State.{State}
use Rattle.vlm_model.specs.Stepped.{Outcome}
use Rattle.vlm_capi.specs.declared.entries.VlmEntry.{VlmEntry}
use Rattle.vlm_capi.specs.declared.held.Held.{Held}
use Rattle.vlm_capi.specs.declared.replies.VlmAst.{VlmAst}
use Rattle.vlm_capi.specs.Entries.{ast_in}
use Rattle.vlm_capi.specs.Lending.{LendsCore}
use Rattle.vlm_capi.specs.Replies.{answer_number, answer_status}
use Rattle.vlm_capi.specs.StepStructs.{declaration_struct}
use Rattle.vlm_capi.specs.Structs.{conversion_of, declaration_of, dequeue_of, is_declaration, node_of, request_of, setting_of}

-- the step with this number, from the members that belong to it
abbrev pub numbered_step : VlmEntry → ℕ → Option Step
numbered_step e n =
    if n == 1 then option_map Declare (declaration_of e.declaration)
    else (if n == 2 then option_map SetValue (setting_of e.setting)
    else (if n == 3 then option_map Enq (request_of e.request (take e.name_len e.name))
    else (if n == 4 then option_map Convert (conversion_of e.request)
    else (if n == 5 then option_map Deq (dequeue_of e.dequeue)
    else (if n == 6 then Some (Rundown e.pid)
    else (if n == 7 then option_map Leave (node_of e.node)
    else (if n == 8 then option_map Search (node_of e.node)
    else (if n == 9 then Some (Take e.pid) else None))))))))

-- the step of an entry; an entry has its size, and its name has at most 32 bytes
unfoldable pub step_of : VlmEntry → Option Step
step_of e = if (e.size == 512) && nat_le e.name_len 32 then numbered_step e e.step else None

-- both tell the same AST
abbrev pub is_ast : VlmAst → VlmAst → Bool
is_ast a b = (a.kind == b.kind) && (a.routine == b.routine) && (a.param == b.param) && (a.lkid == b.lkid)

-- the entry has this answer
abbrev pub is_answer : VlmEntry → Answer → Bool
is_answer e answer =
    (answer_status answer == e.status) && (answer_number answer == e.number) && is_ast (ast_in answer) e.ast

-- whether the replayed answer is the entry's; a step that wants memory can be replayed again
abbrev pub replay_status : VlmEntry → Answer → ℕ
replay_status e answer =
    if answer_status answer == 16 then condition_number Insfmem
    else (if is_answer e answer then condition_number Normal else condition_number Badparam)

-- the step leads to an outcome of it, and the status compares its answer with the entry's
pub record Replays (e : VlmEntry) (step : Step) (before : State) (status : ℕ) (after : State) : Type 0 where
  pub answer : Answer
  pub outcome : Outcome before step after answer
  pub compared : status ≡ replay_status e answer

-- a step that was answered INSFMEM changed nothing, and is not made
abbrev pub ReplaysIf : Bool → VlmEntry → Step → State → ℕ → State → Type 0
ReplaysIf true e step before status after = (after ≡ before) × (status ≡ condition_number Normal)
ReplaysIf false e step before status after = Replays e step before status after

-- what the call tells: without a core BADPARAM
abbrev pub status_or_bad : Option ℕ → ℕ
status_or_bad (Some status) = status
status_or_bad None = condition_number Badparam

-- the core of the handle makes the step; without a core nothing changes
pub record ReplaysHeld (e : VlmEntry) (step : Step) (before after : Option Held) (status : ℕ) : Type 0 where
  pub told : Option ℕ
  pub lent : LendsCore (λ s r s'. ReplaysIf (e.status == 16) e step s r s') before told after
  pub status_told : status ≡ status_or_bad told

-- an entry without a step changes nothing, with BADPARAM
abbrev pub ReplaysStep : Option Step → VlmEntry → Option Held → Option Held → ℕ → Type 0
ReplaysStep None e before after status = (after ≡ before) × (status ≡ condition_number Badparam)
ReplaysStep (Some step) e before after status = ReplaysHeld e step before after status

abbrev pub Replayed : VlmEntry → Option Held → Option Held → ℕ → Type 0
Replayed e before after status = ReplaysStep (step_of e) e before after status

-- a lock's name has a form in C: a status block is a byte
abbrev pub HasNumber : Which → Type 0
HasNumber (Id lkid) = Unit
HasNumber (Block block) = nat_lt block 256 ≡ true

-- the numbers of a step fit the structs of C, and its name is one
abbrev pub FitsStructs : Step → Type 0
FitsStructs (Declare d) = is_declaration (declaration_struct d) ≡ true
FitsStructs (SetValue s) = nat_le s.block 255 ≡ true
FitsStructs (Enq r) =
    (nat_le r.flags 65535 ≡ true) × (nat_le r.block 255 ≡ true) × HasNumber r.parent × (is_name r.name ≡ true)
FitsStructs (Convert c) = (nat_le c.flags 65535 ≡ true) × (nat_le c.block 255 ≡ true) × HasNumber c.lock
FitsStructs (Deq d) = (nat_le d.flags 65535 ≡ true) × HasNumber d.lock
FitsStructs (Rundown pid) = Unit
FitsStructs (Leave node) = nat_le node 255 ≡ true
FitsStructs (Search node) = nat_le node 255 ≡ true
FitsStructs (Take pid) = Unit
