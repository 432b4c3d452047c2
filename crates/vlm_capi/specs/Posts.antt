-- What the calls of a port do.
use Rattle.std.specs.Prelude.{◌≡◌, ◌<◌, ◌≤◌, ◌+◌, ◌∷◌, ◌++◌, ℕ, Bool, true, false, [], length, Option, Some, None, IfSome, IfNone, IsSome}
use mathlib.Core.List.{IsPrefix}
use Rattle.vlm_words.specs.declared.conditions.Cond.TheVariants.{Normal, Badparam}
use Rattle.vlm_words.specs.declared.steps.Step.{Step}
use Rattle.vlm_words.specs.Conditions.{condition_number}
use Rattle.vlm_journal.specs.declared.entries.Item.{Item}
use Rattle.vlm_journal.specs.Journals.{IsPostOf}
use Rattle.vlm_ports.specs.declared.port.Port.{Port}
use Rattle.vlm_ports.specs.Ports.{arrived, free_places, identity, posted, taken}
use Rattle.vlm_capi.specs.Copies.{Told}
use Rattle.vlm_capi.specs.declared.held.Held.{Held}
use Rattle.vlm_capi.specs.declared.items.VlmItem.{VlmItem}
use Rattle.vlm_capi.specs.declared.posts.PostEnd.{PostEnd}
use Rattle.vlm_capi.specs.declared.posts.PostEnd.TheVariants.{Posted, Full, OfAnotherNode}
use Rattle.vlm_capi.specs.Items.{item_or_none}
use Rattle.vlm_capi.specs.Lending.{LendsPort}

-- it is the same port, and its items are as they were
abbrev pub KeepsItems : Port → Port → Type 0
KeepsItems old new = (identity new ≡ identity old) × (taken new ≡ taken old) × (arrived new ≡ arrived old)

-- a step of the port's node is the last of its posts, or the port knows no free place, and knew none before; a step of
-- another node changes nothing
abbrev pub HasPosted : Port → Step → PostEnd → Port → Type 0
HasPosted old step Posted new = IsPostOf old.node step × KeepsItems old new
    × (posted new ≡ posted old ++ step ∷ []) × (free_places old ≤ free_places new + 1)
HasPosted old step Full new = IsPostOf old.node step × KeepsItems old new
    × (posted new ≡ posted old) × (free_places new ≡ 0) × (0 < free_places old → ⊥)
HasPosted old step OfAnotherNode new = (IsPostOf old.node step → ⊥) × (new ≡ old)

-- the number that C has for the end of a post; 256 says that the port is full
abbrev pub post_status : Option PostEnd → ℕ
post_status (Some Posted) = condition_number Normal
post_status (Some Full) = 256
post_status (Some OfAnotherNode) = condition_number Badparam
post_status None = condition_number Badparam

-- a call posts a step on the port of a handle
pub record PostsAs (step_of : Port → Step) (before after : Option Held) (status : ℕ) : Type 0 where
  pub end : Option PostEnd
  pub lends : LendsPort (λ old r new. HasPosted old (step_of old) r new) before end after
  pub status_told : status ≡ post_status end

-- a call posts the step that its fields name; fields that name none change nothing
abbrev pub Posts : Option Step → Option Held → Option Held → ℕ → Type 0
Posts None before after status = (after ≡ before) × (status ≡ condition_number Badparam)
Posts (Some step) before after status = PostsAs (λ p. step) before after status

-- the item is the last one taken, and was the first that the port knew to have come; without an item the port knows of
-- none, and knew of none before
pub record HasTaken (old : Port) (item : Option Item) (new : Port) : Type 0 where
  pub same : identity new ≡ identity old
  pub posted : posted new ≡ posted old
  pub free : free_places new ≡ free_places old
  pub some : IfSome item (λ x. taken new ≡ taken old ++ x ∷ [])
  pub none : IfNone item ((taken new ≡ taken old) × (arrived new ≡ []))
  pub known : 0 < length (arrived old) → IsSome item
  pub more : IfSome item (λ x. IsPrefix (arrived old) (x ∷ arrived new))

-- a call writes what was taken; without a port it writes nothing
abbrev pub ItemTold : Option (Option Item) → VlmItem → VlmItem → ℕ → Type 0
ItemTold (Some item) old new status = (new ≡ item_or_none item) × (status ≡ condition_number Normal)
ItemTold None old new status = (new ≡ old) × (status ≡ condition_number Badparam)

-- a call takes the next item of the port of a handle
pub record TakesItem (before after : Option Held) (old new : VlmItem) (status : ℕ) : Type 0 where
  pub item : Option (Option Item)
  pub lends : LendsPort HasTaken before item after
  pub told : ItemTold item old new status

-- the caller's struct has its size; otherwise nothing changes
abbrev pub TakesItemIf : Bool → Option Held → Option Held → VlmItem → VlmItem → ℕ → Type 0
TakesItemIf true before after old new status = TakesItem before after old new status
TakesItemIf false before after old new status =
    (after ≡ before) × (new ≡ old) × (status ≡ condition_number Badparam)

-- the items that have come are counted, and the port knows of them
pub record HasItemsCounted (old : Port) (count : ℕ) (new : Port) : Type 0 where
  pub same : identity new ≡ identity old
  pub posted : posted new ≡ posted old
  pub free : free_places new ≡ free_places old
  pub taken : taken new ≡ taken old
  pub counted : count ≡ length (arrived new)
  pub known : IsPrefix (arrived old) (arrived new)

-- a call counts the items that wait for the port of a handle
pub record CountsItems (before after : Option Held) (old new status : ℕ) : Type 0 where
  pub count : Option ℕ
  pub lends : LendsPort HasItemsCounted before count after
  pub told : Told count old new status
