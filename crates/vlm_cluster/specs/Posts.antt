-- Which lists a node may post.
use Rattle.std.specs.Prelude.{◌+◌, ◌<◌, ℕ, List, All, length, slice_index_or}
use Rattle.std.specs.declared.alloc.Global.{Global}
use Rattle.std.specs.declared.vec.Vec.{Vec}
use Rattle.vlm_words.specs.declared.steps.Step.{Step}
use Rattle.vlm_journal.specs.Journals.{IsPostOf}

-- the node may post each step of the list
abbrev pub ArePostsOf : ℕ → List Step → Type 0
ArePostsOf node list = All (λ step. IsPostOf node step) list

-- node k + 1 may post each step of list k
abbrev pub AreListsOfPosts : List (Vec Step Global) → Type 0
AreListsOfPosts lists = (k : ℕ) (list : Vec Step Global) → k < length lists
    → ArePostsOf (k + 1) (slice_index_or lists k list).items
