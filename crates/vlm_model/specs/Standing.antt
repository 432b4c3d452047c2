-- The law that the lock of an accepted request is as its request says.
use Rattle.std.specs.Prelude.{◌≡◌, ◌⊎◌, ℕ, Any, Option, None, Some}
use Rattle.vlm_words.specs.declared.conditions.Cond.{Cond}
use Rattle.vlm_words.specs.declared.locks.Request.{Request}
use Rattle.vlm_words.specs.declared.locks.LockState.{LockState}
use Rattle.vlm_words.specs.declared.steps.Answer.TheVariants.{Lock}
use Rattle.vlm_words.specs.declared.steps.Conversion.{Conversion}
use Rattle.vlm_words.specs.declared.steps.NewRequest.{NewRequest}
use Rattle.vlm_words.specs.declared.steps.Step.TheVariants.{Convert, Enq}
use Rattle.vlm_words.specs.State.{Resource, State}
use Rattle.vlm_model.specs.Checks.{named_lkid}
use Rattle.vlm_model.specs.Stepped.{IsChoice, stepped}
use Rattle.vlm_model.specs.Laws.{IsAskedFor, IsSameResource}

-- the request of a new lock, with this number
abbrev pub new_request : ℕ → NewRequest → Request
new_request number e = record {
  number = number;
  mode = e.mode;
  flags = record { 0 = e.flags };
  block = e.block;
  completion = e.ast;
  blocking = e.bast;
  param = e.param;
}

-- the request of a conversion, with this number
abbrev pub new_conversion : ℕ → Conversion → Request
new_conversion number c = record {
  number = number;
  mode = c.mode;
  flags = record { 0 = c.flags };
  block = c.block;
  completion = c.ast;
  blocking = c.bast;
  param = c.param;
}

-- the row has this lock, process, parent lock, held request and wanted request
pub record IsRow (lkid pid parent : ℕ) (held want : Option Request) (row : LockState) : Type 0 where
  pub lock : row.lkid ≡ lkid
  pub process : row.pid ≡ pid
  pub above : row.parent ≡ parent
  pub holds : row.held ≡ held
  pub wants : row.want ≡ want

-- the new lock is granted and holds the request, or it waits and wants the request
abbrev pub StandsNew : ℕ → ℕ → ℕ → Request → Resource → Type 0
StandsNew lkid pid parent request r =
    Any (IsRow lkid pid parent (Some request) None) r.granted
    ⊎ Any (IsRow lkid pid parent None (Some request)) r.waiting

-- the lock of an accepted new request is on the resource asked for, is the caller's, is under the named parent lock,
-- and has the whole request
abbrev pub NewLocksStandAsAskedFor : State → Type 0
NewLocksStandAsAskedFor old = (e : NewRequest) (choice : Option LockState) (cond : Cond) (lkid : ℕ)
    → IsChoice old (Enq e) choice → (stepped old (Enq e) choice).answer ≡ Lock cond lkid
    → Any (λ r. IsAskedFor old e r
    × StandsNew lkid e.pid (named_lkid old e.pid e.parent) (new_request old.next_request e) r)
    (stepped old (Enq e) choice).state.resources

-- the lock is granted and holds the request, or it converts, holds what it held, and wants the request
abbrev pub StandsConverted : LockState → Request → Resource → Type 0
StandsConverted was request r =
    Any (IsRow was.lkid was.pid was.parent (Some request) None) r.granted
    ⊎ Any (IsRow was.lkid was.pid was.parent was.held (Some request)) r.converting

-- the lock of an accepted conversion was granted and is the caller's; it is on the same resource, with the whole
-- request
abbrev pub ConvertedLocksStandAsAskedFor : State → Type 0
ConvertedLocksStandAsAskedFor old = (c : Conversion) (choice : Option LockState) (cond : Cond) (lkid : ℕ)
    → IsChoice old (Convert c) choice → (stepped old (Convert c) choice).answer ≡ Lock cond lkid
    → Any (λ before.
    Any (λ was. (was.lkid ≡ lkid) × (was.pid ≡ c.pid)
    × Any (λ r. IsSameResource before r × StandsConverted was (new_conversion old.next_request c) r)
    (stepped old (Convert c) choice).state.resources) before.granted)
    old.resources
