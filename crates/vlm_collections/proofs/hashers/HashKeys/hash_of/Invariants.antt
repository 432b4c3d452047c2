use Rattle.std.proofs.Common.{◌≡◌, take}
use Rattle.std.specs.List.{fold}
use Rattle.vlm_collections.specs.Sip.{compressed}
use Rattle.vlm_collections.proofs.hashers.HashKeys.hash_of.Given as goal

-- the words so far are taken
abbrev pub invariant-loop-word : goal.invariant-loop-word
invariant-loop-word l = l.state ≡ fold compressed l.self.words (take l.word-index l.words)
