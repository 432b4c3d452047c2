-- The change by one more entry.
use Rattle.std.specs.Prelude.{◌≡◌, ◌≢◌, ◌<◌, ◌≤◌, ◌/◌, ℕ, List, [], ◌∷◌, ◌++◌, Some, length}
use Rattle.vlm_words.specs.declared.asts.Ast.{Ast}
use Rattle.vlm_words.specs.declared.steps.Answer.TheVariants.{Taken}
use Rattle.vlm_words.specs.declared.steps.Step.TheVariants.{Leave, Take}
use Rattle.vlm_journal.specs.declared.entries.Entry.{Entry}
use Rattle.vlm_journal.specs.declared.entries.Item.TheVariants.{Answer as answer_item, Ast as ast_item}
use Rattle.vlm_journal.specs.declared.entries.Item.{Item}
use Rattle.vlm_journal.specs.Told.{asked, told}

-- no node has requests, and no node has items
abbrev pub IsSilent : List Entry → Type 0
IsSilent entries = (node : ℕ) → (asked node entries ≡ []) × (told node entries ≡ [])

-- one more entry adds its step to the steps of its sender only; it sends at most one item: the answer to its
-- sender, or a taken AST to the node of its process; a departure that the hub makes by itself sends nothing
pub record LengthensLittle (entries : List Entry) (entry : Entry) : Type 0 where
  pub asks : asked entry.sender (entries ++ entry ∷ []) ≡ asked entry.sender entries ++ entry.step ∷ []
  pub asks_none : (other : ℕ) → other ≢ entry.sender → asked other (entries ++ entry ∷ []) ≡ asked other entries
  pub one : ℕ
  pub items : List Item
  pub few : length items ≤ 1
  pub tells : 0 < one → told one (entries ++ entry ∷ []) ≡ told one entries ++ items
  pub tells_none : (other : ℕ) → 0 < other → other ≢ one → told other (entries ++ entry ∷ []) ≡ told other entries
  pub answers : 0 < entry.sender → (one ≡ entry.sender) × (items ≡ answer_item entry.answer ∷ [])
  pub takes : (pid : ℕ) (ast : Ast) → entry.step ≡ Take pid → entry.answer ≡ Taken (Some ast)
      → (one ≡ pid / 65536) × (items ≡ ast_item pid ast ∷ [])
  pub leaves : (node : ℕ) → entry.sender ≡ 0 → entry.step ≡ Leave node → items ≡ []
