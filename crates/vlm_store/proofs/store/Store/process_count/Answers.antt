use Rattle.std.proofs.Common.{◌∙◌, sym}
use Rattle.std.proofs.lemmas.List.{length-map}
use Rattle.vlm_store.specs.Holdings.{processes_of}
use Rattle.vlm_store.specs.Store.{records_of}
use Rattle.vlm_store.proofs.store.Store.process_count.Goals as goal

pub returns : goal.returns
unfolding records_of processes_of
returns c = rw (← c.self.view_is) (c.len.ensures ∙ sym (length-map _ _))
