use Rattle.std.proofs.Common.{length}
use Rattle.vlm_lines.proofs.Hexadecimal.{all_read, written_is}
use Rattle.vlm_lines.proofs.names.read_pairs.Goals as goal

pub returns : goal.returns
returns c =
    written_is _ _ _ c.decode_to_slice.new.out
    (all_read c.args.digits.now
    (length c.args.bytes.now) c.requires.digits c.requires.twice) c.decode_to_slice.ensures.value
