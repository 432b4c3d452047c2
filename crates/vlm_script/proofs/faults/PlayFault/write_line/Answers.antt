use Rattle.vlm_lines.specs.Texts.{line_feed}
use Rattle.vlm_script.specs.Faults.{play_fault_text}
use Rattle.vlm_script.proofs.Written.{part_after, on_err_map}
use Rattle.vlm_script.proofs.faults.PlayFault.write_line.Goals as goal

-- a part of the line feed after the text
pub returns-clause-part : goal.returns-clause-part
returns-clause-part g c =
    on_err_map c.write_whole.result c.write_whole.ensures.part
    (λ part. part_after _ _ _ (play_fault_text c.args.self.now) line_feed c.in_ok-write_text.ensures.whole part)
