use Rattle.std.proofs.Common.{◌∙◌, rules}
use Rattle.vlm_script.proofs.Bound.{get-bound}
use Rattle.vlm_script.proofs.bindings.process_of.Goals as goal

-- the process that the name is bound to
pub returns : goal.returns
returns c =
    let bound = c.copied-bound.ensures ∙ c.get.ensures.value ∙ get-bound c.args.name.now c.args.names.now in
    search rules
