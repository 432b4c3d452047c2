use Rattle.std.proofs.Common.{ap, map}
use Rattle.vlm_store.specs.Records.{Records, process_with_lock}
use Rattle.vlm_store.proofs.Records.{joins_queue}
use Rattle.vlm_store.proofs.laws.law_a_new_lock_joins_one_queue.Goals as goal

pub returns : goal.returns
returns c s at row owner parent res queue =
    ap (λ (x : Records). record x { processes = map (process_with_lock owner parent at) s.processes }) (joins_queue (record { at = at; row = row }) res queue s)
