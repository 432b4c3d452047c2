use Rattle.std.proofs.Common.{rules, ap, ap₂, ◌≡◌, ◌∙◌, codes}
use Rattle.std.proofs.lemmas.Result.{IfOk-weaker}
use Rattle.clap.specs.Words.{App, app_of, new_app, with_subcommand}
use Rattle.vlm.specs.Words.{play_or_cluster, with_needed_subcommand}
use Rattle.vlm.proofs.arguments.program_commands.Goals as goal

-- each command as it stands before the one is put below the other
pub returns : goal.returns
returns c =
    let vlm_is : app_of c.subcommand_required.result ≡ with_needed_subcommand (new_app (codes "vlm")) = search rules in
    let with_play : app_of c.in_ok-subcommand.field-0 ≡ with_subcommand (with_needed_subcommand (new_app (codes "vlm"))) (new_app (codes "play")).top =
    c.in_ok-subcommand.ensures.shape c.play_command.ensures.local ∙ ap₂ with_subcommand vlm_is (ap (λ (a : App). a.top) c.play_command.ensures.app) in
    let with_cluster : app_of c.in_ok-subcommand-2.field-0 ≡ play_or_cluster =
    c.in_ok-subcommand-2.ensures.shape c.in_ok-cluster.ensures.local ∙ ap₂ with_subcommand with_play (ap (λ (a : App). a.top) c.in_ok-cluster.ensures.app) in
    let all = ap₂ with_subcommand with_cluster (ap (λ (a : App). a.top) c.in_ok-watch.ensures.app) in
    IfOk-weaker c.subcommand-3.result _ _ (λ command adds. adds.shape c.in_ok-watch.ensures.local ∙ all) c.subcommand-3.ensures
