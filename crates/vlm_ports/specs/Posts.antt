-- How the hub reads a post of a node.
use Rattle.std.specs.Prelude.{ℕ, if◌then◌else◌}
use Rattle.vlm_words.specs.declared.steps.Step.TheVariants.{Leave}
use Rattle.vlm_words.specs.declared.steps.Step.{Step}
use Rattle.vlm_journal.specs.Journals.{is_post_of}

-- the step, if the node may post it; else the departure of the node
abbrev pub on_behalf : ℕ → Step → Step
on_behalf node step = if is_post_of node step then step else Leave node
