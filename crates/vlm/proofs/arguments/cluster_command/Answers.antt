use Rattle.std.proofs.Common.{rules, ap₂, ◌≡◌, ◌∙◌, codes}
use Rattle.std.proofs.lemmas.Result.{IfOk-weaker}
use Rattle.clap.specs.Words.{app_of, new_app, with_rule}
use Rattle.vlm.proofs.arguments.cluster_command.Goals as goal

-- the command before it has the option
pub returns-clause-app : goal.returns-clause-app
returns-clause-app c =
    let bare : app_of c.after_help.result ≡ new_app (codes "cluster") = search rules in
    IfOk-weaker c.arg.result _ _ (λ command adds. adds.shape c.nodes_option.ensures.local ∙ ap₂ with_rule bare c.nodes_option.ensures.rule) c.arg.ensures
