use Rattle.std.proofs.Common.{◌++◌, codes, decimal}
use Rattle.std.proofs.KnownBytes.{Appends-trans}
use Rattle.vlm_lines.specs.Faults.{fault_text}
use Rattle.vlm_script.proofs.Written.{part_of_first, part_after, on_err, on_err_map}
use Rattle.vlm_script.proofs.fault_lines.write_line_fault.Goals as goal

-- a part of the first piece
pub returns-in_err-write_whole-clause-part : goal.returns-in_err-write_whole-clause-part
returns-in_err-write_whole-clause-part g c =
    let word = codes "line " in
    let number = decimal c.args.number in
    on_err c.from_residual.result (
    part_of_first _ _ (word ++ number ++ codes ": ") (fault_text c.args.fault) (
    part_of_first _ _ (word ++ number) (codes ": ") (part_of_first _ _ word number c.in_err-write_whole.ensures.part)
    )
    )

-- a part of the number after it
pub returns-in_err-write_whole-2-clause-part : goal.returns-in_err-write_whole-2-clause-part
returns-in_err-write_whole-2-clause-part g c =
    let word = codes "line " in
    let number = decimal c.args.number in
    let digits = rw (c.as_bytes.ensures.value, c.format.ensures.text) at c.in_err-write_whole-2.ensures.part in
    on_err c.from_residual-in_err-write_whole-2.result (
    part_of_first _ _ (word ++ number ++ codes ": ") (fault_text c.args.fault) (
    part_of_first _ _ (word ++ number) (codes ": ") (part_after _ _ _ word number c.in_ok-write_whole.ensures.whole digits)
    )
    )

-- a part of the text between the number and the fault
pub returns-in_err-write_whole-3-clause-part : goal.returns-in_err-write_whole-3-clause-part
returns-in_err-write_whole-3-clause-part g c =
    let word = codes "line " in
    let number = decimal c.args.number in
    let digits = rw (c.as_bytes.ensures.value, c.format.ensures.text) at c.in_ok-write_whole-2.ensures.whole in
    let front = Appends-trans _ _ _ word number c.in_ok-write_whole.ensures.whole digits in
    on_err c.from_residual-in_err-write_whole-3.result (
    part_of_first _ _ (word ++ number ++ codes ": ") (fault_text c.args.fault)
    (part_after _ _ _ (word ++ number) (codes ": ") front c.in_err-write_whole-3.ensures.part)
    )

-- a part of the text
pub returns-clause-part : goal.returns-clause-part
returns-clause-part g c =
    let word = codes "line " in
    let number = decimal c.args.number in
    let digits = rw (c.as_bytes.ensures.value, c.format.ensures.text) at c.in_ok-write_whole-2.ensures.whole in
    let front = Appends-trans _ _ _ word number c.in_ok-write_whole.ensures.whole digits in
    let before = Appends-trans _ _ _ (word ++ number) (codes ": ") front c.in_ok-write_whole-3.ensures.whole in
    let text = rw (c.as_bytes-2.ensures.value, c.text.ensures) at c.write_whole-4.ensures.part in
    on_err_map c.write_whole-4.result text (λ part. part_after _ _ _ (word ++ number ++ codes ": ") (fault_text c.args.fault) before part)
