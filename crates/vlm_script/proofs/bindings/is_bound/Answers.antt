use Rattle.std.proofs.Common.{◌∙◌, ap, is_some}
use Rattle.vlm_script.proofs.Bound.{get-bound}
use Rattle.vlm_script.proofs.bindings.is_bound.Goals as goal

pub returns : goal.returns
returns c = c.contains_key.ensures ∙ ap is_some (get-bound c.args.name.now c.args.names.now)
