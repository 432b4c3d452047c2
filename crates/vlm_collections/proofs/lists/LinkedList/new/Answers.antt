use Rattle.std.proofs.Common.{rules}
use Rattle.vlm_collections.proofs.lists.LinkedList.new.Goals as goal

pub returns : goal.returns
returns g c = search rules
