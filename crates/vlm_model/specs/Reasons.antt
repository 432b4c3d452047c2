-- The law that a refusal has its reason: the rule of each condition, in words of its own.
use Rattle.std.specs.Prelude.{◌≡◌, ◌≢◌, ◌<◌, ◌≤◌, ◌/◌, ◌^◌, ◌⊎◌, ℕ, true, false, List, [], ◌∷◌, ◌++◌, length, sum_by, All, Any, Option, None, Some, IsSome, ⊤}
use Rattle.std.specs.Int.{bit_at}
use Rattle.vlm_words.specs.declared.conditions.Cond.TheVariants.{Normal, Synch, Notqueued, Cancelgrant, Sublocks}
use Rattle.vlm_words.specs.declared.conditions.Cond.TheVariants.{Ivlockid, Cvtungrant, Parnotgrant, Exdepth, Exenqlm}
use Rattle.vlm_words.specs.declared.conditions.Cond.TheVariants.{Nolockid, Ivbuflen, Badparam, Unsupported, Nosyslck}
use Rattle.vlm_words.specs.declared.conditions.Cond.TheVariants.{Accvio, Nonexpr, Departed}
use Rattle.vlm_words.specs.declared.conditions.Cond.{Cond}
use Rattle.vlm_words.specs.declared.locks.Request.{Request}
use Rattle.vlm_words.specs.declared.locks.LockState.{LockState}
use Rattle.vlm_words.specs.declared.modes.Mode.TheVariants.{Nl}
use Rattle.vlm_words.specs.declared.modes.Mode.{Mode}
use Rattle.vlm_words.specs.declared.steps.Answer.TheVariants.{Process as process_answer, Lock, Plain, Taken, Victim}
use Rattle.vlm_words.specs.declared.steps.Answer.{Answer}
use Rattle.vlm_words.specs.declared.steps.Conversion.{Conversion}
use Rattle.vlm_words.specs.declared.steps.Declaration.{Declaration}
use Rattle.vlm_words.specs.declared.steps.Dequeue.{Dequeue}
use Rattle.vlm_words.specs.declared.steps.NewRequest.{NewRequest}
use Rattle.vlm_words.specs.declared.steps.Step.TheVariants.{Declare, SetValue, Enq, Convert, Deq, Rundown, Leave, Search, Take}
use Rattle.vlm_words.specs.declared.steps.Step.{Step}
use Rattle.vlm_words.specs.declared.steps.ValueSetting.{ValueSetting}
use Rattle.vlm_words.specs.declared.steps.Which.TheVariants.{Id, Block}
use Rattle.vlm_words.specs.declared.steps.Which.{Which}
use Rattle.vlm_words.specs.Modes.{is_queued_legally}
use Rattle.vlm_words.specs.Flags.{cancel, deqall, expedite, has_flag, invvalblk, nodlckblk, nodlckwt, noqueue, quecvt, syncsts, system, valblk, wide}
use Rattle.vlm_words.specs.State.{Process, State, node_at, process_of}
use Rattle.vlm_model.specs.Checks.{named_lkid}
use Rattle.vlm_model.specs.Stepped.{stepped}
use Rattle.vlm_model.specs.Laws.{ConvertsInTurn, IsAskedFor, IsFreeFor, IsGrantedAtOnce, StandsOn, locks_on}

-- the known flags of new requests and conversions
abbrev pub request_flags : List ℕ
request_flags = valblk ∷ noqueue ∷ syncsts ∷ system ∷ expedite ∷ quecvt ∷ nodlckwt ∷ nodlckblk ∷ wide ∷ []

-- the known flags of dequeues
abbrev pub dequeue_flags : List ℕ
dequeue_flags = deqall ∷ cancel ∷ invvalblk ∷ []

-- some set bit is not a bit of these flags
pub record HasUnknownBit (flags : List ℕ) (bits : ℕ) : Type 0 where
  pub place : ℕ
  pub set : bit_at bits place ≡ 1
  pub unknown : All (λ flag. bit_at flag place ≡ 0) flags

-- the node has departed; there is no node 0
abbrev pub HasDeparted : State → ℕ → Type 0
HasDeparted s node = (0 < node) × ((node_at s.nodes node).departed ≡ true)

-- no living process has the ID
abbrev pub IsNobody : State → ℕ → Type 0
IsNobody s pid = All (λ p. p.pid ≢ pid) s.processes

-- a living process has the ID, and P holds of it
abbrev pub IsOfCaller : State → ℕ → (Process → Type 0) → Type 0
IsOfCaller s pid P = (p : Process) × (process_of s.processes pid ≡ Some p) × P p

-- the process has no status block with this number; numbers begin at 1
abbrev pub HasNoBlock : State → ℕ → ℕ → Type 0
HasNoBlock s pid block = IsOfCaller s pid (λ p. (block ≡ 0) ⊎ (length p.blocks < block))

-- the lock is named by a status block that the process does not have
abbrev pub IsNamedByNoBlock : State → ℕ → Which → Type 0
IsNamedByNoBlock s pid (Id lkid) = ⊥
IsNamedByNoBlock s pid (Block number) = HasNoBlock s pid number

-- the process has a lock with this ID
abbrev pub HasLock : State → ℕ → ℕ → Type 0
HasLock s pid lkid = Any (StandsOn lkid pid) s.resources

-- the lock of this process is among the rows
abbrev pub IsAmong : ℕ → ℕ → List LockState → Type 0
IsAmong lkid pid rows = Any (λ row. (row.lkid ≡ lkid) × (row.pid ≡ pid)) rows

-- the lock of this process is granted on some resource
abbrev pub IsGrantedSomewhere : State → ℕ → ℕ → Type 0
IsGrantedSomewhere s pid lkid = Any (λ r. IsAmong lkid pid r.granted) s.resources

-- the caller's node has departed, or no living process is the caller
abbrev pub CallerBreaks : State → ℕ → Cond → Type 0
CallerBreaks s pid Departed = HasDeparted s (pid / 65536)
CallerBreaks s pid Nonexpr = IsNobody s pid
CallerBreaks s pid cond = ⊥

-- the rules that a declaration breaks
abbrev pub DeclarationBreaks : State → Declaration → Cond → Type 0
DeclarationBreaks s d Badparam = (d.node ≡ 0) ⊎ (8 < d.node) ⊎ (65535 ≤ (node_at s.nodes d.node).declared)
DeclarationBreaks s d Departed = HasDeparted s d.node
DeclarationBreaks s d cond = ⊥

-- the rules that a SetValue breaks
abbrev pub SettingBreaks : State → ValueSetting → Cond → Type 0
SettingBreaks s v Accvio = HasNoBlock s v.pid v.block
SettingBreaks s v cond = CallerBreaks s v.pid cond

-- the named parent lock, or 0
abbrev pub named_parent : State → NewRequest → ℕ
named_parent s e = named_lkid s e.pid e.parent

-- the rules that a new request breaks: bad arguments, a bad parent lock, a missing privilege, no quota or numbers
-- left, or NOQUEUE
abbrev pub RequestBreaks : State → NewRequest → Cond → Type 0
RequestBreaks s e Badparam = HasUnknownBit request_flags e.flags
RequestBreaks s e Accvio = HasNoBlock s e.pid e.block ⊎ IsNamedByNoBlock s e.pid e.parent
RequestBreaks s e Ivbuflen = (length e.name ≡ 0) ⊎ (31 < length e.name)
RequestBreaks s e Unsupported = (has_flag e.flags expedite ≡ true) × (e.mode ≢ Nl)
RequestBreaks s e Ivlockid = (named_parent s e ≢ 0) × (HasLock s e.pid (named_parent s e) → ⊥)
RequestBreaks s e Parnotgrant =
    (named_parent s e ≢ 0) × Any (λ r. IsAmong (named_parent s e) e.pid r.waiting) s.resources
RequestBreaks s e Exdepth =
    (named_parent s e ≢ 0) × Any (λ r. StandsOn (named_parent s e) e.pid r × (15 ≤ r.level)) s.resources
RequestBreaks s e Nosyslck =
    (named_parent s e ≡ 0) × (has_flag e.flags system ≡ true)
    × IsOfCaller s e.pid (λ p. p.syslck ≡ false)
RequestBreaks s e Exenqlm = IsOfCaller s e.pid (λ p. p.quota ≤ sum_by (locks_on e.pid) s.resources)
RequestBreaks s e Nolockid = (2 ^ 32 ≤ s.next_lkid) ⊎ (2 ^ 64 ≤ s.next_request)
RequestBreaks s e Notqueued =
    (has_flag e.flags noqueue ≡ true) × (has_flag e.flags expedite ≡ false)
    × Any (λ r. IsAskedFor s e r × (IsFreeFor e.mode r → ⊥)) s.resources
RequestBreaks s e cond = CallerBreaks s e.pid cond

-- the lock that a conversion names
abbrev pub named_lock : State → Conversion → ℕ
named_lock s c = named_lkid s c.pid c.lock

-- QUECVT does not go with a conversion from the held mode
abbrev pub IsNotQueuedFrom : Option Request → Mode → Type 0
IsNotQueuedFrom None mode = ⊤
IsNotQueuedFrom (Some held) mode = is_queued_legally held.mode mode ≡ false

-- QUECVT does not go with the conversion of the granted lock
abbrev pub IsNotQueuedLegally : State → Conversion → Type 0
IsNotQueuedLegally s c =
    (has_flag c.flags quecvt ≡ true)
    × Any (λ r.
    Any (λ row. ((row.lkid ≡ named_lock s c) × (row.pid ≡ c.pid)) × IsNotQueuedFrom row.held c.mode) r.granted)
    s.resources

-- the rules that a conversion breaks: bad arguments, a lock that is not the caller's or not granted, no numbers left,
-- or NOQUEUE
abbrev pub ConversionBreaks : State → Conversion → Cond → Type 0
ConversionBreaks s c Badparam =
    HasUnknownBit request_flags c.flags ⊎ IsNotQueuedLegally s c
ConversionBreaks s c Accvio = HasNoBlock s c.pid c.block ⊎ IsNamedByNoBlock s c.pid c.lock
ConversionBreaks s c Ivlockid = HasLock s c.pid (named_lock s c) → ⊥
ConversionBreaks s c Cvtungrant =
    HasLock s c.pid (named_lock s c) × (IsGrantedSomewhere s c.pid (named_lock s c) → ⊥)
ConversionBreaks s c Nolockid = 2 ^ 64 ≤ s.next_request
ConversionBreaks s c Notqueued =
    (has_flag c.flags noqueue ≡ true)
    × Any (λ r. IsAmong (named_lock s c) c.pid r.granted × (ConvertsInTurn c (named_lock s c) r → ⊥)) s.resources
ConversionBreaks s c cond = CallerBreaks s c.pid cond

-- the lock that a dequeue names
abbrev pub named_by_dequeue : State → Dequeue → ℕ
named_by_dequeue s d = named_lkid s d.pid d.lock

-- the rules that a dequeue breaks: bad arguments, a lock that is not the caller's, a cancel of a granted lock, or
-- sublocks
abbrev pub DequeueBreaks : State → Dequeue → Cond → Type 0
DequeueBreaks s d Badparam =
    HasUnknownBit dequeue_flags d.flags
    ⊎ ((has_flag d.flags deqall ≡ true) × ((has_flag d.flags cancel ≡ true) ⊎ IsSome d.value))
    ⊎ (IsSome d.tail × (d.value ≡ None))
DequeueBreaks s d Accvio = IsNamedByNoBlock s d.pid d.lock
DequeueBreaks s d Ivlockid =
    (has_flag d.flags deqall ≡ true → named_by_dequeue s d ≢ 0) × (HasLock s d.pid (named_by_dequeue s d) → ⊥)
DequeueBreaks s d Cancelgrant =
    (has_flag d.flags cancel ≡ true) × IsGrantedSomewhere s d.pid (named_by_dequeue s d)
DequeueBreaks s d Sublocks =
    (has_flag d.flags cancel ≡ false) × (has_flag d.flags deqall ≡ false)
    × Any (λ r. Any (λ row. row.parent ≡ named_by_dequeue s d) (r.granted ++ r.converting ++ r.waiting)) s.resources
DequeueBreaks s d cond = CallerBreaks s d.pid cond

-- the rules that a departure or a search breaks: there is no such node, or it has departed
abbrev pub DepartureBreaks : State → ℕ → Cond → Type 0
DepartureBreaks s node Badparam = (node ≡ 0) ⊎ (8 < node)
DepartureBreaks s node Departed = HasDeparted s node
DepartureBreaks s node cond = ⊥

-- the step breaks the rule of the condition in this state
abbrev pub Breaks : State → Step → Cond → Type 0
Breaks s (Declare d) cond = DeclarationBreaks s d cond
Breaks s (SetValue v) cond = SettingBreaks s v cond
Breaks s (Enq e) cond = RequestBreaks s e cond
Breaks s (Convert c) cond = ConversionBreaks s c cond
Breaks s (Deq d) cond = DequeueBreaks s d cond
Breaks s (Rundown pid) cond = CallerBreaks s pid cond
Breaks s (Leave node) cond = DepartureBreaks s node cond
Breaks s (Search node) cond = DepartureBreaks s node cond
Breaks s (Take pid) cond = CallerBreaks s pid cond

-- an accepted request answers SYNCH if it has SYNCSTS and is granted at once, else NORMAL
abbrev pub IsAcceptedWith : ℕ → Type 0 → Cond → Type 0
IsAcceptedWith flags AtOnce cond =
    ((cond ≡ Synch) × (has_flag flags syncsts ≡ true) × AtOnce)
    ⊎ ((cond ≡ Normal) × (has_flag flags syncsts ≡ true → AtOnce → ⊥))

-- the answer is an acceptance of this kind of step
abbrev pub IsAcceptance : Step → Type 0 → Answer → Type 0
IsAcceptance (Declare d) AtOnce (process_answer pid) = ⊤
IsAcceptance (SetValue v) AtOnce (Plain Normal) = ⊤
IsAcceptance (Enq e) AtOnce (Lock cond lkid) = IsAcceptedWith e.flags AtOnce cond
IsAcceptance (Convert c) AtOnce (Lock cond lkid) = IsAcceptedWith c.flags AtOnce cond
IsAcceptance (Deq d) AtOnce (Plain Normal) = ⊤
IsAcceptance (Rundown pid) AtOnce (Plain Normal) = ⊤
IsAcceptance (Leave node) AtOnce (Plain Normal) = ⊤
IsAcceptance (Search node) AtOnce (Victim lkid) = ⊤
IsAcceptance (Take pid) AtOnce (Taken ast) = ⊤
IsAcceptance step AtOnce answer = ⊥

-- the step breaks no rule and is accepted
pub record IsAccepted (old : State) (step : Step) (choice : Option LockState) : Type 0 where
  pub keeps : (cond : Cond) → Breaks old step cond → ⊥
  pub answered :
      IsAcceptance step (IsGrantedAtOnce old.next_request (stepped old step choice).endings)
      (stepped old step choice).answer

-- the step breaks a rule, is answered the condition of that rule, and changes nothing
pub record IsRefused (old : State) (step : Step) (choice : Option LockState) : Type 0 where
  pub told : Cond
  pub breaks : Breaks old step told
  pub answered : (stepped old step choice).answer ≡ Plain told
  pub unchanged : (stepped old step choice).state ≡ old
  pub none_ends : (stepped old step choice).endings ≡ []

-- a step is accepted, or refused for a reason; if it breaks several rules, the law leaves open which one answers
abbrev pub RefusalHasItsReason : State → Step → Option LockState → Type 0
RefusalHasItsReason old step choice = IsAccepted old step choice ⊎ IsRefused old step choice
