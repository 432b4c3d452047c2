-- What holds between two steps, and what a step needs of it.
use Rattle.std.specs.Prelude.{◌≤◌, ◌<◌, All, AllPairs}
use Rattle.std.specs.List.{AllByRecursion}
use Rattle.vlm_model.specs.Laws.{ChainsAreBounded, DeclarationsGiveNewIds, IdsAreApart, ParentsOutliveTheirSublocks, RowsFitTheirQueues}
use Rattle.vlm_model.specs.Stable.{IsStable}
use Rattle.vlm_model.specs.Pending.{AreOfNodes}
use Rattle.vlm_words.specs.State.{State}

-- the laws that a step relies on: no resource needs a sweep; IDs of locks differ, are not 0 and were given;
-- serials rise from 1, and are no more than the IDs given; a declaration gives an ID that no
-- living process has; each process belongs to one of the eight nodes; each parent lock holds a mode; no lock is more
-- than 15 levels below another; and each lock is in the queue that fits its held and its wanted mode
pub record IsBetweenSteps (s : State) : Type 0 where
  pub stable : AllByRecursion IsStable s.resources
  pub ids : IdsAreApart s
  pub serials_rise : AllPairs (λ a b. a.serial < b.serial) s.resources
  pub serials_from_1 : All (λ r. 0 < r.serial) s.resources
  pub few_serials : s.next_serial ≤ s.next_lkid
  pub new_processes : DeclarationsGiveNewIds s
  pub of_nodes : AreOfNodes s
  pub parents : ParentsOutliveTheirSublocks s
  pub chains : ChainsAreBounded s
  pub rows_fit : RowsFitTheirQueues s
