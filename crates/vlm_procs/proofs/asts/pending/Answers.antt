use Rattle.std.proofs.Common.{◌∙◌, ap}
use Rattle.std.specs.Prelude.{List, length}
use Rattle.vlm_words.specs.declared.asts.Ast.{Ast}
use Rattle.vlm_procs.proofs.WrittenProcesses.{asts_are}
use Rattle.vlm_procs.proofs.asts.pending.Goals as goal

pub returns : goal.returns
returns c pid is =
    c.len.ensures
    ∙ ap (λ (asts : List Ast). length asts)
    (asts_are c.args.store.now c.args.at pid c.process_record.result.now.asts.pending c.process_record.ensures.sound is c.process_record.ensures.asts)
