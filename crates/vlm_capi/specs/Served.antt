-- What the calls that make a step do.
use Rattle.std.specs.Prelude.{◌≡◌, ◌⊎◌, ℕ, Bool, true, false, Option, Some, None}
use Rattle.vlm_words.specs.declared.conditions.Cond.TheVariants.{Normal, Insfmem, Badparam}
use Rattle.vlm_words.specs.declared.steps.Answer.TheVariants.{Plain}
use Rattle.vlm_words.specs.declared.steps.Answer.{Answer}
use Rattle.vlm_words.specs.declared.steps.Step.{Step}
use Rattle.vlm_words.specs.Conditions.{condition_number}
use Rattle.vlm_words.specs.declared.steps.Step.TheVariants.{Take}
use Rattle.vlm_words.specs.State.{State, start}
use Rattle.vlm_core.specs.Readers.{IsFirstPending, NonePendingBelow}
use Rattle.vlm_model.specs.Stepped.{Outcome}
use Rattle.vlm_capi.specs.declared.held.Held.{Held}
use Rattle.vlm_capi.specs.declared.held.Held.TheVariants.{Core as core_held, Hub as hub_held, Port as port_held}
use Rattle.vlm_capi.specs.declared.replies.VlmAst.{VlmAst}
use Rattle.vlm_capi.specs.Replies.{answer_number, answer_status, ast_written, no_ast}

-- the step leads to an outcome of it; without a core or a step nothing changes and the answer is BADPARAM
abbrev pub Served : Option Held → Option Step → Option Held → Answer → Type 0
Served (Some (core_held s)) (Some step) (Some (core_held s')) answer = Outcome s step s' answer
Served (Some (core_held s)) (Some step) (Some (hub_held b)) answer = ⊥
Served (Some (core_held s)) (Some step) (Some (port_held p)) answer = ⊥
Served (Some (core_held s)) (Some step) None answer = ⊥
Served (Some (core_held s)) None after answer = (after ≡ Some (core_held s)) × (answer ≡ Plain Badparam)
Served (Some (hub_held b)) step after answer = (after ≡ Some (hub_held b)) × (answer ≡ Plain Badparam)
Served (Some (port_held p)) step after answer = (after ≡ Some (port_held p)) × (answer ≡ Plain Badparam)
Served None step after answer = (after ≡ None) × (answer ≡ Plain Badparam)

-- a call makes a step, returns the status of its answer and writes the ID in it
pub record Replied (before : Option Held) (step : Option Step) (after : Option Held)
    (status : ℕ) (number : ℕ) : Type 0 where
  pub answer : Answer
  pub served : Served before step after answer
  pub status_told : status ≡ answer_status answer
  pub number_told : number ≡ answer_number answer

-- a call makes a step and returns the status of its answer
pub record StatusReplied (before : Option Held) (step : Option Step) (after : Option Held) (status : ℕ) : Type 0 where
  pub answer : Answer
  pub served : Served before step after answer
  pub status_told : status ≡ answer_status answer

-- a call makes a Take, returns the status of its answer and writes the caller's struct
pub record AstReplied (before : Option Held) (step : Option Step) (after : Option Held)
    (status : ℕ) (old new : VlmAst) : Type 0 where
  pub answer : Answer
  pub served : Served before step after answer
  pub status_told : status ≡ answer_status answer
  pub ast_told : new ≡ ast_written answer old

-- an open handle stays, with BADPARAM; a closed one gets a new core, or stays with INSFMEM
abbrev pub Opened : Option Held → Option Held → ℕ → Type 0
Opened (Some held) after status = (after ≡ Some held) × (status ≡ condition_number Badparam)
Opened None (Some (core_held s)) status = (s ≡ start) × (status ≡ condition_number Normal)
Opened None (Some (hub_held b)) status = ⊥
Opened None (Some (port_held p)) status = ⊥
Opened None None status = status ≡ condition_number Insfmem

-- a handle is opened if the options are right; otherwise nothing changes, with BADPARAM
abbrev pub OpenedIf : Bool → Option Held → Option Held → ℕ → Type 0
OpenedIf true before after status = Opened before after status
OpenedIf false before after status = (after ≡ before) × (status ≡ condition_number Badparam)

-- the oldest AST of the first process that has one is taken; with no pending AST nothing changes
abbrev pub TakesFirst : State → Option (ℕ × Answer) → State → Type 0
TakesFirst s None s' = NonePendingBelow 9 s.processes × (s' ≡ s)
TakesFirst s (Some (pid, answer)) s' = IsFirstPending pid s.processes × Outcome s (Take pid) s' answer

-- nothing changes, with BADPARAM, and 0 is written for the process
abbrev pub TookNone : Option Held → Option Held → ℕ → ℕ → VlmAst → VlmAst → Type 0
TookNone before after status pid old new =
    (after ≡ before) × (status ≡ condition_number Badparam) × (pid ≡ 0) × (new ≡ old)

-- an AST of the first process that has one was taken and written with the process; or none is pending, and 0 and no AST
-- are written
abbrev pub TookFrom : State → Option Held → ℕ → ℕ → VlmAst → VlmAst → Type 0
TookFrom s after status pid old new =
    (NonePendingBelow 9 s.processes × (after ≡ Some (core_held s)) × (status ≡ condition_number Normal) × (pid ≡ 0)
    × (new ≡ no_ast))
    ⊎ (IsFirstPending pid s.processes × AstReplied (Some (core_held s)) (Some (Take pid)) after status old new)

-- if the caller's struct has its size, an AST of any process of the core of a handle is taken; else nothing changes
abbrev pub TookAnyIf : Bool → Option Held → Option Held → ℕ → ℕ → VlmAst → VlmAst → Type 0
TookAnyIf true (Some (core_held s)) after status pid old new = TookFrom s after status pid old new
TookAnyIf fits before after status pid old new = TookNone before after status pid old new
