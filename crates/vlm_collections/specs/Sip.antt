-- SipHash-1-3 of words.
use Rattle.std.specs.Prelude.{ℕ, ◌+◌, ◌%◌, ◌^◌, bit_and, bit_xor}
use Rattle.std.specs.Int.{w64, rotate_left}
use Rattle.vlm_collections.specs.declared.sip.SipState.{SipState}

-- the state after two words of keys
abbrev pub initial : ℕ → ℕ → SipState
initial k0 k1 = record {
  v0 = bit_xor k0 0x736f6d6570736575;
  v1 = bit_xor k1 0x646f72616e646f6d;
  v2 = bit_xor k0 0x6c7967656e657261;
  v3 = bit_xor k1 0x7465646279746573;
}

-- the state after a round
unfoldable pub rounded : SipState → SipState
rounded s =
    let v0 = (s.v0 + s.v1) % 2 ^ 64 in
    let v2 = (s.v2 + s.v3) % 2 ^ 64 in
    let v1 = bit_xor (rotate_left w64 s.v1 13) v0 in
    let v3 = bit_xor (rotate_left w64 s.v3 16) v2 in
    let sum2 = (v2 + v1) % 2 ^ 64 in
    let sum0 = (rotate_left w64 v0 32 + v3) % 2 ^ 64 in
    record {
      v0 = sum0;
      v1 = bit_xor (rotate_left w64 v1 17) sum2;
      v2 = rotate_left w64 sum2 32;
      v3 = bit_xor (rotate_left w64 v3 21) sum0;
    }

-- the state after one more word
unfoldable pub compressed : SipState → ℕ → SipState
compressed s word =
    let after = rounded (record s { v3 = bit_xor s.v3 word }) in
    record after { v0 = bit_xor after.v0 word }

-- the low 32 bits of the hash
unfoldable pub finished : SipState → ℕ
finished s =
    let last = rounded (rounded (rounded (record s { v2 = bit_xor s.v2 0xff }))) in
    bit_and (bit_xor (bit_xor (bit_xor last.v0 last.v1) last.v2) last.v3) 4294967295
