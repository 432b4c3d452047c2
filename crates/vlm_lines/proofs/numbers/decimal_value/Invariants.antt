use Rattle.std.proofs.Common.{◌≡◌, ◌<◌, ◌^◌, take}
use Rattle.vlm_lines.specs.Lines.{decimal_value}
use Rattle.vlm_lines.proofs.numbers.decimal_value.Given as goal

abbrev pub invariant-loop-digit : goal.invariant-loop-digit
invariant-loop-digit l = record {
  value : l.value ≡ decimal_value (take l.digit-index l.digits);
  below : l.value < 10 ^ l.digit-index;
}
