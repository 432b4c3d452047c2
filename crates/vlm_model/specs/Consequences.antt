-- Words of the consequences of laws.
use Rattle.std.specs.Prelude.{Contains, List, None, Option, Some, [], count_by, false, length, sum_by, ℕ, ◌&&◌, ◌+◌, ◌==◌, ◌∷◌, ◌≡◌, ◌≢◌}
use Rattle.vlm_words.specs.Dues.{due}
use Rattle.vlm_words.specs.Flags.{flag_bits, has_flag, nodlckblk, nodlckwt}
use Rattle.vlm_words.specs.State.{Process, Resource, State}
use Rattle.vlm_words.specs.declared.locks.LockState.{LockState}
use Rattle.vlm_words.specs.declared.locks.Request.{Request}
use Rattle.vlm_words.specs.declared.modes.Mode.{Mode}
use Rattle.vlm_words.specs.declared.modes.Mode.TheVariants.{Ex, Pr}
use Rattle.vlm_words.specs.declared.steps.Answer.{Answer}
use Rattle.vlm_words.specs.declared.steps.Conversion.{Conversion}
use Rattle.vlm_words.specs.declared.steps.NewRequest.{NewRequest}
use Rattle.vlm_words.specs.declared.steps.Step.{Step}
use Rattle.vlm_model.specs.Asts.{Queued}
use Rattle.vlm_model.specs.Endings.{Ending}
use Rattle.vlm_model.specs.Runs.{History}
use Rattle.vlm_model.specs.Stepped.{step_change}

-- how many rows are of this lock and this process
abbrev pub rows_of_lock : ℕ → ℕ → State → ℕ
rows_of_lock pid lkid s =
    sum_by (λ r. count_by (λ row. (row.lkid == lkid) && (row.pid == pid)) r.granted
    + count_by (λ row. (row.lkid == lkid) && (row.pid == pid)) r.converting
    + count_by (λ row. (row.lkid == lkid) && (row.pid == pid)) r.waiting)
    s.resources

-- a history of these steps, answers, endings and queued ASTs
abbrev pub history_of : List Step → List Answer → List Ending → List Queued → History
history_of steps answers endings queued =
    record { steps = steps; answers = answers; endings = endings; queued = queued }

-- the ASTs of a process, pending and due together
abbrev pub due_or_pending : ℕ → Process → State → ℕ
due_or_pending pid p s = length p.asts + due pid s.resources

-- the resource has this granted lock and no other
pub record IsHeldAlone (row : LockState) (r : Resource) : Type 0 where
  pub granted : r.granted ≡ row ∷ []
  pub converting : r.converting ≡ []
  pub waiting : r.waiting ≡ []

-- the resource has this converting lock and no other
pub record ConvertsAlone (row : LockState) (r : Resource) : Type 0 where
  pub granted : r.granted ≡ []
  pub converting : r.converting ≡ row ∷ []
  pub waiting : r.waiting ≡ []

-- the resource has this waiting lock and no other
pub record WaitsAlone (row : LockState) (r : Resource) : Type 0 where
  pub granted : r.granted ≡ []
  pub converting : r.converting ≡ []
  pub waiting : r.waiting ≡ row ∷ []

-- what the resources are after the step's own change, before its sweep
abbrev pub changed : State → Step → Option LockState → List Resource
changed old step choice = (step_change old step choice).state.resources

-- the request has this number and all that the caller asked for
pub record IsAsRequested (number : ℕ) (mode : Mode) (flags block : ℕ) (completion blocking : Option ℕ) (param : ℕ)
    (request : Request) : Type 0 where
  pub numbered : request.number ≡ number
  pub in_mode : request.mode ≡ mode
  pub flagged : flag_bits request.flags ≡ flags
  pub for_block : request.block ≡ block
  pub completes : request.completion ≡ completion
  pub blocks : request.blocking ≡ blocking
  pub with_param : request.param ≡ param

-- the request is that of the new lock
abbrev pub IsOfNewLock : ℕ → NewRequest → Option Request → Type 0
IsOfNewLock number e None = ⊥
IsOfNewLock number e (Some request) = IsAsRequested number e.mode e.flags e.block e.ast e.bast e.param request

-- the request is that of the conversion
abbrev pub IsOfConversion : ℕ → Conversion → Option Request → Type 0
IsOfConversion number c None = ⊥
IsOfConversion number c (Some request) = IsAsRequested number c.mode c.flags c.block c.ast c.bast c.param request

-- the lock holds PR and wants EX, and its requests wait and are waited for
pub record ConvertsUp (row : LockState) : Type 0 where
  pub was : Request
  pub held : row.held ≡ Some was
  pub reads : was.mode ≡ Pr
  pub blocks : has_flag (flag_bits was.flags) nodlckblk ≡ false
  pub asked : Request
  pub want : row.want ≡ Some asked
  pub writes : asked.mode ≡ Ex
  pub waits : has_flag (flag_bits asked.flags) nodlckwt ≡ false

-- two locks of one resource hold PR, and both convert to EX
pub record AreDeadlocked (s : State) (a b : LockState) : Type 0 where
  pub r : Resource
  pub there : Contains s.resources r
  pub first : Contains r.converting a
  pub second : Contains r.converting b
  pub another : a.lkid ≢ b.lkid
  pub one : ConvertsUp a
  pub other : ConvertsUp b
