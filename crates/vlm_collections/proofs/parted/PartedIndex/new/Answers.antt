use Rattle.vlm_collections.proofs.IndexParts.{none_found}
use Rattle.vlm_collections.proofs.parted.PartedIndex.new.Goals as goal

pub returns : goal.returns
returns g c = none_found c.from_fn.result (λ k part within. let made = (c.from_fn.ensures.items.at k part within).2 in cc)
