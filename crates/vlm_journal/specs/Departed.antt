-- The answers to a node that has departed.
use Rattle.std.specs.Prelude.{◌≡◌, ◌⊎◌, ◌<◌, ℕ, All, List, Some, slice_get}
use Rattle.vlm_words.specs.declared.conditions.Cond.TheVariants.{Departed, Normal}
use Rattle.vlm_words.specs.declared.steps.Answer.TheVariants.{Plain}
use Rattle.vlm_words.specs.declared.steps.Step.TheVariants.{Leave}
use Rattle.vlm_model.specs.Reasons.{HasDeparted}
use Rattle.vlm_words.specs.State.{State}
use Rattle.vlm_journal.specs.declared.entries.Entry.{Entry}

-- each entry of the node after its accepted departure, from the node or the hub, is answered DEPARTED
abbrev pub IsAnsweredDeparted : ℕ → List Entry → Type 0
IsAnsweredDeparted node entries = (earlier later : ℕ) (leaving entry : Entry) → earlier < later
    → slice_get entries earlier ≡ Some leaving → slice_get entries later ≡ Some entry
    → leaving.step ≡ Leave node → leaving.answer ≡ Plain Normal
    → entry.sender ≡ node → entry.answer ≡ Plain Departed

-- the entry is a departure of the node that was accepted, or came too late
abbrev pub ShowsDeparture : ℕ → Entry → Type 0
ShowsDeparture node entry = (entry.step ≡ Leave node) × ((entry.answer ≡ Plain Normal)
    ⊎ (entry.answer ≡ Plain Departed))

-- after these entries the node has departed, and each of the node's entries among them is answered DEPARTED
pub record StaysDeparted (node : ℕ) (entries : List Entry) (last : State) : Type 0 where
  pub departed : HasDeparted last node
  pub told : All (λ entry. entry.sender ≡ node → entry.answer ≡ Plain Departed) entries
