-- The definitions of most laws. They use no definition that serves, grants or sweeps, but for `step_change` in
-- `GrantsFollowQueueOrder`: a step before its sweep.
use Rattle.std.specs.Prelude.{◌≡◌, ◌≢◌, ◌<◌, ◌≤◌, ◌+◌, ◌==◌, ◌⊎◌, ◌++◌, ℕ, zero, suc, Bool, List, [], ◌∷◌, true, false}
use Rattle.std.specs.Prelude.{All, AllPairs, Any, count_by, sum_by, take, drop, Option, None, Some, IsSome, ⊤}
use Rattle.std.specs.List.{AllZip}
use Rattle.std.specs.Option.{option_map_or}
use Rattle.vlm_words.specs.declared.conditions.Cond.{Cond}
use Rattle.vlm_words.specs.declared.locks.Request.{Request}
use Rattle.vlm_words.specs.declared.locks.LockState.{LockState}
use Rattle.vlm_words.specs.declared.modes.Act.TheVariants.{Nothing, Write}
use Rattle.vlm_words.specs.declared.modes.Act.{Act}
use Rattle.vlm_words.specs.declared.modes.Mode.TheVariants.{Nl}
use Rattle.vlm_words.specs.declared.modes.Mode.{Mode}
use Rattle.vlm_words.specs.declared.resources.Domain.TheVariants.{Group, System}
use Rattle.vlm_words.specs.declared.resources.Domain.{Domain}
use Rattle.vlm_words.specs.declared.steps.Answer.TheVariants.{Lock, Process as process_answer}
use Rattle.vlm_words.specs.declared.steps.Conversion.{Conversion}
use Rattle.vlm_words.specs.declared.steps.Declaration.{Declaration}
use Rattle.vlm_words.specs.declared.steps.NewRequest.{NewRequest}
use Rattle.vlm_words.specs.declared.steps.Step.TheVariants.{Declare, Enq, Convert}
use Rattle.vlm_words.specs.declared.steps.Step.{Step}
use Rattle.vlm_words.specs.Modes.{is_compatible, value_action}
use Rattle.vlm_words.specs.Flags.{expedite, has_flag, quecvt, system}
use Rattle.vlm_words.specs.State.{Process, Resource, State, process_of}
use Rattle.vlm_model.specs.Endings.{Ending, How}
use Rattle.vlm_model.specs.Endings.How.{by_abort, by_cancel, by_deadlock, by_grant, by_rundown}
use Rattle.vlm_model.specs.Checks.{named_lkid}
use Rattle.vlm_model.specs.OwnLocks.{is_below}
use Rattle.vlm_model.specs.Stepped.{IsChoice, step_change, stepped}

-- the mode is compatible with what is held, if anything is held
abbrev pub IsBeside : Mode → Option Request → Type 0
IsBeside mode None = ⊤
IsBeside mode (Some held) = is_compatible mode held.mode ≡ true

-- the held modes are compatible, if both rows hold one
abbrev pub AreCompatible : Option Request → Option Request → Type 0
AreCompatible None b = ⊤
AreCompatible (Some a) None = ⊤
AreCompatible (Some a) (Some b) = is_compatible a.mode b.mode ≡ true

-- in each resource, the held modes of any two locks are compatible
abbrev pub HeldModesAreCompatible : State → Type 0
HeldModesAreCompatible s =
    All (λ r. AllPairs (λ a b. AreCompatible a.held b.held) (r.granted ++ r.converting)) s.resources

-- the wanted mode is incompatible with what one of these rows holds
abbrev pub Conflicts : Option Request → List LockState → Type 0
Conflicts None rows = ⊤
Conflicts (Some want) rows = Any (λ row. IsBeside want.mode row.held → ⊥) rows

-- the first conversion does not fit; without conversions, the first waiting request does not fit
abbrev pub HeadsDoNotFit : List LockState → List LockState → List LockState → Type 0
HeadsDoNotFit granted [] [] = ⊤
HeadsDoNotFit granted [] (row ∷ rows) = Conflicts row.want granted
HeadsDoNotFit granted (row ∷ rows) waiting = Conflicts row.want (granted ++ rows)

-- in each resource nothing is left to grant
abbrev pub NothingIsLeftToGrant : State → Type 0
NothingIsLeftToGrant s = All (λ r. HeadsDoNotFit r.granted r.converting r.waiting) s.resources

-- if the row is armed, its held mode is compatible with every queued request
abbrev pub IsInNobodysWay : List LockState → LockState → Type 0
IsInNobodysWay queued row = row.armed ≡ true → All (λ other. AreCompatible other.want row.held) queued

-- in each resource nothing is left to warn
abbrev pub NothingIsLeftToWarn : State → Type 0
NothingIsLeftToWarn s =
    All (λ r. All (IsInNobodysWay (r.converting ++ r.waiting)) r.granted) s.resources

-- the row wants the request with this number
abbrev pub wants_number : ℕ → Option Request → Bool
wants_number number None = false
wants_number number (Some request) = request.number == number

-- how many rows of a resource want the request with this number
abbrev pub wanting_on : ℕ → Resource → ℕ
wanting_on number r =
    count_by (λ row. wants_number number row.want) r.granted
    + count_by (λ row. wants_number number row.want) r.converting
    + count_by (λ row. wants_number number row.want) r.waiting

-- how many rows of all resources want the request with this number
abbrev pub wanting : ℕ → State → ℕ
wanting number s = sum_by (wanting_on number) s.resources

-- how many endings the request with this number has
abbrev pub times_ended : ℕ → List Ending → ℕ
times_ended number endings = count_by (λ ending. ending.request.number == number) endings

-- an accepted request is wanted by one row and has not ended, or is wanted by no row and has ended once; a number
-- that is still to be given is wanted by no row and has no ending
pub record EachRequestEndsOnce (endings : List Ending) (last : State) : Type 0 where
  pub accepted : (number : ℕ) → 0 < number → number < last.next_request
      → ((wanting number last ≡ 1) × (times_ended number endings ≡ 0))
      ⊎ ((wanting number last ≡ 0) × (times_ended number endings ≡ 1))
  pub to_come : (number : ℕ) → last.next_request ≤ number
      → (wanting number last ≡ 0) × (times_ended number endings ≡ 0)

-- the same lock after its grant: it holds what it wanted, and wants nothing
pub record IsGranted (before after : LockState) : Type 0 where
  pub lkid : after.lkid ≡ before.lkid
  pub pid : after.pid ≡ before.pid
  pub parent : after.parent ≡ before.parent
  pub wanted : IsSome before.want
  pub holds : after.held ≡ before.want
  pub wants_nothing : after.want ≡ None

-- the ending is a grant
abbrev pub IsGrant : How → Type 0
IsGrant (by_grant act) = ⊤
IsGrant by_abort = ⊥
IsGrant by_cancel = ⊥
IsGrant by_deadlock = ⊥
IsGrant by_rundown = ⊥

-- the ending is the grant of what the row wanted, from a queue
pub record IsGrantOf (row : LockState) (ending : Ending) : Type 0 where
  pub lkid : ending.lkid ≡ row.lkid
  pub pid : ending.pid ≡ row.pid
  pub request : Some ending.request ≡ row.want
  pub how : IsGrant ending.how
  pub queued : ending.at_once ≡ false

-- the same lock, which holds and wants the same; only whether it is armed may differ
pub record IsSameButArmed (before after : LockState) : Type 0 where
  pub lkid : after.lkid ≡ before.lkid
  pub pid : after.pid ≡ before.pid
  pub parent : after.parent ≡ before.parent
  pub held : after.held ≡ before.held
  pub want : after.want ≡ before.want

-- the same resource: its place in the tree stays
pub record IsSameResource (before after : Resource) : Type 0 where
  pub serial : after.serial ≡ before.serial
  pub parent : after.parent ≡ before.parent
  pub domain : after.domain ≡ before.domain
  pub name : after.name ≡ before.name
  pub level : after.level ≡ before.level

-- the first rows of the conversion queue and of the waiting queue, this many of each
abbrev pub first_rows : ℕ → ℕ → Resource → List LockState
first_rows conversions new_requests r = take conversions r.converting ++ take new_requests r.waiting

-- grants go to the first rows of each queue, in order, to waiting ones only if no conversion is left; all other rows
-- stay in their order, and granted locks may be disarmed
pub record GrantsFirst (before after : Resource) (endings : List Ending) : Type 0 where
  pub conversions : ℕ
  pub new_requests : ℕ
  pub kept : List LockState
  pub given : List LockState
  pub same : IsSameResource before after
  pub converting : after.converting ≡ drop conversions before.converting
  pub waiting : after.waiting ≡ drop new_requests before.waiting
  pub granted : after.granted ≡ kept ++ given
  pub stay : AllZip IsSameButArmed before.granted kept
  pub rows : AllZip IsGranted (first_rows conversions new_requests before) given
  pub ends : AllZip IsGrantOf (first_rows conversions new_requests before) endings
  pub conversions_before : 0 < new_requests → after.converting ≡ []

-- no lock is on the resource
pub record IsVacant (r : Resource) : Type 0 where
  pub granted : r.granted ≡ []
  pub converting : r.converting ≡ []
  pub waiting : r.waiting ≡ []

-- a sweep: each resource grants from the heads of its queues, then stays, or goes if no lock is left
pub data SweptInOrder : List Resource → List Resource → List Ending → Type 0 where
  none : SweptInOrder [] [] []
  stays : {before after : Resource} {rest left : List Resource} {endings more : List Ending}
      → GrantsFirst before after endings → SweptInOrder rest left more
      → SweptInOrder (before ∷ rest) (after ∷ left) (endings ++ more)
  goes : {before after : Resource} {rest left : List Resource} {endings more : List Ending}
      → GrantsFirst before after endings → IsVacant after → SweptInOrder rest left more
      → SweptInOrder (before ∷ rest) left (endings ++ more)

-- on each resource some lock is left
abbrev pub NoResourceIsVacant : State → Type 0
NoResourceIsVacant s = All (λ r. IsVacant r → ⊥) s.resources

-- nobody is queued, and the mode is compatible with all held modes
pub record IsFreeFor (mode : Mode) (r : Resource) : Type 0 where
  pub no_conversions : r.converting ≡ []
  pub nobody_waits : r.waiting ≡ []
  pub beside : All (λ row. IsBeside mode row.held) r.granted

-- the lock of this process is on the resource, in some queue
abbrev pub StandsOn : ℕ → ℕ → Resource → Type 0
StandsOn lkid pid r =
    Any (λ row. (row.lkid ≡ lkid) × (row.pid ≡ pid)) (r.granted ++ r.converting ++ r.waiting)

-- the domain of a root: the system's with SYSTEM, else the group of the process
abbrev pub IsRootDomain : Bool → Process → Domain → Type 0
IsRootDomain true p domain = domain ≡ System
IsRootDomain false p domain = domain ≡ Group p.group

-- the place asked for: with parent lock 0 a root, else below the resource of the parent lock, which is the caller's
abbrev pub StandsAsAskedFor : State → NewRequest → Process → ℕ → Resource → Type 0
StandsAsAskedFor s e caller zero r =
    (r.parent ≡ 0) × IsRootDomain (has_flag e.flags system) caller r.domain
StandsAsAskedFor s e caller (suc parent) r =
    Any (λ up. StandsOn (suc parent) caller.pid up × (r.parent ≡ up.serial)) s.resources

-- the resource is the one that the new request asks for
pub record IsAskedFor (s : State) (e : NewRequest) (r : Resource) : Type 0 where
  pub caller : Process
  pub lives : process_of s.processes e.pid ≡ Some caller
  pub name : r.name ≡ e.name
  pub stands : StandsAsAskedFor s e caller (named_lkid s e.pid e.parent) r

-- the new request fits and nobody is queued, or it has EXPEDITE at NL
abbrev pub EntersInTurn : State → NewRequest → Type 0
EntersInTurn s e =
    All (λ r. IsAskedFor s e r → IsFreeFor e.mode r) s.resources
    ⊎ ((has_flag e.flags expedite ≡ true) × (e.mode ≡ Nl))

-- the lock is in the queue
abbrev pub Stands : ℕ → List LockState → Type 0
Stands lkid rows = Any (λ row. row.lkid ≡ lkid) rows

-- the conversion fits beside all other locks, and with QUECVT no conversion is queued
pub record ConvertsInTurn (c : Conversion) (lkid : ℕ) (r : Resource) : Type 0 where
  pub beside : All (λ row. row.lkid ≢ lkid → IsBeside c.mode row.held) (r.granted ++ r.converting)
  pub overtakes_none : has_flag c.flags quecvt ≡ true → r.converting ≡ []

-- a grant at once is of the step's own request, mode and lock, and passes queued requests only where the rules allow
-- it
abbrev pub IsGrantedInTurn : State → Step → Ending → Type 0
IsGrantedInTurn s (Enq e) ending =
    (ending.request.number ≡ s.next_request) × (ending.request.mode ≡ e.mode) × (ending.lkid ≡ s.next_lkid)
    × EntersInTurn s e
IsGrantedInTurn s (Convert c) ending =
    (ending.request.number ≡ s.next_request) × (ending.request.mode ≡ c.mode)
    × (ending.lkid ≡ named_lkid s c.pid c.lock)
    × All (λ r. Stands ending.lkid r.granted → ConvertsInTurn c ending.lkid r) s.resources
IsGrantedInTurn s step ending = ⊥

-- a step grants at once only its own request; its sweep then grants the first requests of each queue, in order
pub record GrantsFollowQueueOrder (old : State) (step : Step) (choice : Option LockState) : Type 0 where
  pub swept_endings : List Ending
  pub swept :
      SweptInOrder (step_change old step choice).state.resources (stepped old step choice).state.resources swept_endings
  pub ends : (stepped old step choice).endings ≡ (step_change old step choice).endings ++ swept_endings
  pub at_once :
      All (λ ending. IsGrant ending.how → (ending.at_once ≡ true) × IsGrantedInTurn old step ending)
      (step_change old step choice).endings

-- a granted lock holds a mode and wants nothing
abbrev pub IsHeld : LockState → Type 0
IsHeld row = IsSome row.held × (row.want ≡ None)

-- a converting lock holds a mode and wants a mode
abbrev pub IsConverting : LockState → Type 0
IsConverting row = IsSome row.held × IsSome row.want

-- a waiting lock holds nothing and wants a mode
abbrev pub IsWaiting : LockState → Type 0
IsWaiting row = (row.held ≡ None) × IsSome row.want

-- each lock of the resource is in the queue that fits what it holds and wants
pub record RowsFit (r : Resource) : Type 0 where
  pub granted : All IsHeld r.granted
  pub converting : All IsConverting r.converting
  pub waiting : All IsWaiting r.waiting

-- the same on every resource
abbrev pub RowsFitTheirQueues : State → Type 0
RowsFitTheirQueues s = All RowsFit s.resources

-- what VALBLK does on a conversion from the held mode
abbrev pub action_from : Option Request → Mode → Act
action_from None mode = Nothing
action_from (Some held) mode = value_action held.mode mode

-- the request with this number is granted at once
abbrev pub IsGrantedAtOnce : ℕ → List Ending → Type 0
IsGrantedAtOnce number endings =
    Any (λ ending. IsGrant ending.how × (ending.at_once ≡ true) × (ending.request.number ≡ number))
    endings

-- an accepted conversion between modes that write the value block is granted at once
abbrev pub WritesAreGrantedAtOnce : State → Type 0
WritesAreGrantedAtOnce old = (c : Conversion) (choice : Option LockState) (cond : Cond) (lkid : ℕ)
    → IsChoice old (Convert c) choice → (stepped old (Convert c) choice).answer ≡ Lock cond lkid
    → Any (λ r. Any (λ row. (row.lkid ≡ lkid) × (action_from row.held c.mode ≡ Write)) r.granted)
    old.resources
    → IsGrantedAtOnce old.next_request (stepped old (Convert c) choice).endings

-- how many rows of a resource are of this lock
abbrev pub rows_on : ℕ → Resource → ℕ
rows_on lkid r =
    count_by (λ row. row.lkid == lkid) r.granted + count_by (λ row. row.lkid == lkid) r.converting
    + count_by (λ row. row.lkid == lkid) r.waiting

-- no two rows have one ID; no row has 0, or an ID that is still to be given
pub record IdsAreApart (s : State) : Type 0 where
  pub one_row : (lkid : ℕ) → sum_by (rows_on lkid) s.resources ≤ 1
  pub none_is_0 : sum_by (rows_on 0) s.resources ≡ 0
  pub none_to_come : (lkid : ℕ) → s.next_lkid ≤ lkid → sum_by (rows_on lkid) s.resources ≡ 0

-- one key: the same parent resource and name, and for roots the same domain
pub record HaveOneKey (a b : Resource) : Type 0 where
  pub parent : a.parent ≡ b.parent
  pub domain : a.parent ≡ 0 → a.domain ≡ b.domain
  pub name : a.name ≡ b.name

-- no two resources have one key
abbrev pub KeysAreApart : State → Type 0
KeysAreApart s = AllPairs (λ a b. HaveOneKey a b → ⊥) s.resources

-- serials rise from 1 and are below the next serial; at most as many were given as lock IDs
pub record SerialsRise (s : State) : Type 0 where
  pub rising : AllPairs (λ a b. a.serial < b.serial) s.resources
  pub from_1 : All (λ r. 0 < r.serial) s.resources
  pub given : All (λ r. r.serial < s.next_serial) s.resources
  pub few : s.next_serial ≤ s.next_lkid

-- a declaration gives an ID that no living process has
abbrev pub DeclarationsGiveNewIds : State → Type 0
DeclarationsGiveNewIds s = (d : Declaration) (choice : Option LockState) (pid : ℕ)
    → IsChoice s (Declare d) choice → (stepped s (Declare d) choice).answer ≡ process_answer pid
    → All (λ p. p.pid ≢ pid) s.processes

-- the lock of this process holds a mode on the resource, granted or converting
abbrev pub HoldsOn : ℕ → ℕ → Resource → Type 0
HoldsOn lkid pid r = Any (λ row. (row.lkid ≡ lkid) × (row.pid ≡ pid)) (r.granted ++ r.converting)

-- a lock on a root has no parent lock; on a sub-resource it has one of the same process that holds a mode on the
-- parent resource
abbrev pub HasItsParent : List Resource → Resource → LockState → Type 0
HasItsParent resources r row =
    ((r.parent ≡ 0) × (row.parent ≡ 0))
    ⊎ ((r.parent ≢ 0) × (row.parent ≢ 0)
    × Any (λ up. (up.serial ≡ r.parent) × HoldsOn row.parent row.pid up) resources)

-- the same for all locks
abbrev pub ParentsOutliveTheirSublocks : State → Type 0
ParentsOutliveTheirSublocks s =
    All (λ r. All (HasItsParent s.resources r) (r.granted ++ r.converting ++ r.waiting)) s.resources

-- a root is at level 0; a sub-resource is one level below its parent resource, which exists, in the same domain
abbrev pub HasItsLevel : List Resource → Resource → Type 0
HasItsLevel resources r =
    ((r.parent ≡ 0) × (r.level ≡ 0))
    ⊎ Any (λ up. (up.serial ≡ r.parent) × (up.domain ≡ r.domain) × (r.level ≡ up.level + 1)) resources

-- each resource has its level, and level 15 is the lowest
abbrev pub TreesAreBounded : State → Type 0
TreesAreBounded s = All (λ r. HasItsLevel s.resources r × (r.level ≤ 15)) s.resources

-- a lock that is any number of levels below another is at most 15 levels below it
abbrev pub ChainsAreBounded : State → Type 0
ChainsAreBounded s = (top levels lkid : ℕ) → top ≢ 0 → is_below levels top s.resources lkid ≡ true
    → is_below 15 top s.resources lkid ≡ true

-- how many locks of the process are on the resource, waiting ones included
abbrev pub locks_on : ℕ → Resource → ℕ
locks_on pid r = count_by (λ row. row.pid == pid) (r.granted ++ r.converting ++ r.waiting)

-- a living process has at most as many locks as its quota; no other process has any
abbrev pub QuotasAreKept : State → Type 0
QuotasAreKept s = (pid : ℕ)
    → sum_by (locks_on pid) s.resources ≤ option_map_or (λ p. p.quota) (process_of s.processes pid) 0
