use Rattle.std.proofs.Common.{◌+◌, ◌<◌, ℕ, get_or}
use Rattle.std.specs.declared.alloc.Global.{Global}
use Rattle.std.specs.declared.vec.Vec.{Vec}
use Rattle.vlm_words.specs.declared.steps.Step.{Step}
use Rattle.vlm_cluster.specs.Posts.{ArePostsOf}
use Rattle.vlm_hub_tests.proofs.lists.may_serve.Given as goal

abbrev pub invariant-loop-at : goal.invariant-loop-at
invariant-loop-at l =
    (k : ℕ) (list : Vec Step Global) → k < l.at → ArePostsOf (k + 1) (get_or l.lists k list).items
