-- The texts of the faults that end a script's run.
use Rattle.std.specs.Prelude.{ℕ, List, ◌++◌, codes, decimal}
use Rattle.vlm_lines.specs.Faults.{fault_text}
use Rattle.vlm_lines.specs.Texts.{line_feed}
use Rattle.vlm_script.specs.declared.faults.PlayFault.{PlayFault}
use Rattle.vlm_script.specs.declared.faults.PlayFault.TheVariants.{Line, Memory, Read, Write, Long}

-- a fault's own text
abbrev pub play_fault_text : PlayFault → List ℕ
play_fault_text (Line number fault) =
    codes "line " ++ decimal number ++ codes ": " ++ fault_text fault
play_fault_text Memory = codes "memory"
play_fault_text Read = codes "read"
play_fault_text Write = codes "write"
play_fault_text Long = codes "script too long"

-- the line that the program prints for a fault
abbrev pub fault_line : PlayFault → List ℕ
fault_line fault = play_fault_text fault ++ line_feed
