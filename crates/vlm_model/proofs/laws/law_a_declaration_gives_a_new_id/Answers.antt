use Rattle.vlm_model.proofs.Declarations.{declarations_always}
use Rattle.vlm_model.proofs.laws.law_a_declaration_gives_a_new_id.Goals as goal

pub returns : goal.returns
returns c = declarations_always
