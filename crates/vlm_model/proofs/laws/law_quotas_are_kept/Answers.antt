use Rattle.vlm_model.proofs.Quotas.{quotas_always}
use Rattle.vlm_model.proofs.laws.law_quotas_are_kept.Goals as goal

pub returns : goal.returns
returns c = quotas_always
