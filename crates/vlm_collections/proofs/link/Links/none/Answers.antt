use Rattle.vlm_collections.proofs.link.Links.none.Goals as goal

pub returns-clause-prev : goal.returns-clause-prev
returns-clause-prev c = c.none.ensures
