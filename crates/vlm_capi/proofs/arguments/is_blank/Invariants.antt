use Rattle.std.proofs.Common.{◌≡◌, take}
use Rattle.vlm_capi.specs.Structs.{is_blank}
use Rattle.vlm_capi.proofs.arguments.is_blank.Given as goal

-- blank are the fields before this one
abbrev pub invariant-loop-word : goal.invariant-loop-word
invariant-loop-word l = l.blank ≡ is_blank (take l.word-index l.fields)
