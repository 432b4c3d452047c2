use Rattle.vlm_model.proofs.Declarations.{processes_always}
use Rattle.vlm_model.proofs.laws.law_process_ids_rise.Goals as goal

pub returns : goal.returns
returns c = processes_always
