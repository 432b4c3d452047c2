-- Shared-out steps are posts of their nodes.
use Rattle.std.proofs.Common.{◌+◌, ℕ, List, [], map, All, arith, refl, subst}
use Rattle.std.proofs.lemmas.List.{get_or-map, length-map}
use Rattle.std.proofs.lemmas.List.Elements.{All-weaker}
use Rattle.vlm_words.specs.declared.steps.Step.TheVariants.{Declare, SetValue, Enq, Convert, Deq, Rundown, Leave, Search, Take}
use Rattle.vlm_words.specs.declared.steps.Step.{Step}
use Rattle.vlm_journal.specs.Journals.{IsPostOf}
use Rattle.vlm_cluster.specs.Headline.{StepList}
use Rattle.vlm_cluster.specs.Posts.{AreListsOfPosts}
use Rattle.vlm_script.specs.Shares.{AreListed, IsListed}

-- a step that may stand in the list of a node may be posted by it
listed_post : (node : ℕ) (step : Step) → IsListed node step → IsPostOf node step
listed_post node (Declare declaration) l = (l.of_node, refl)
listed_post node (SetValue setting) l = (l.of_node, refl)
listed_post node (Enq request) l = (l.of_node, refl)
listed_post node (Convert conversion) l = (l.of_node, refl)
listed_post node (Deq dequeue) l = (l.of_node, refl)
listed_post node (Rundown pid) l = (l.of_node, refl)
listed_post node (Leave left) l = (l.of_node, refl)
listed_post node (Search searched) l = (l.of_node, refl)
listed_post node (Take pid) l = let bad = l.untaken in cc

pub listed_posts : (lists : List StepList) → AreListed (map (λ l. l.items) lists) → AreListsOfPosts lists
listed_posts lists listed k list within =
    let here = listed k (omega (arith, length-map lists (λ (l : StepList). l.items))) in
    let same = get_or-map (λ (l : StepList). l.items) lists k list [] within in
    All-weaker (IsListed (k + 1)) (IsPostOf (k + 1)) (listed_post (k + 1)) _ (subst (All (IsListed (k + 1))) same here)
