-- The texts of the faults of a script's lines.
use Rattle.std.specs.Prelude.{ℕ, List, codes}
use Rattle.vlm_lines.specs.declared.faults.LineFault.{LineFault}
use Rattle.vlm_lines.specs.declared.faults.LineFault.TheVariants.{TooLong, UnknownCommand, WrongWord, NumberOutOfRange, UnknownName, NameUsed}

-- a fault's text
abbrev pub fault_text : LineFault → List ℕ
fault_text TooLong = codes "too long"
fault_text UnknownCommand = codes "unknown command"
fault_text WrongWord = codes "wrong word"
fault_text NumberOutOfRange = codes "number out of range"
fault_text UnknownName = codes "unknown name"
fault_text NameUsed = codes "name used"
