-- The keyed hash of words, and the hash that spreads numbers.
use Rattle.std.specs.Prelude.{ℕ, ◌*◌, ◌/◌, ◌%◌, ◌^◌, ◌==◌, List, bit_and, length, if◌then◌else◌}
use Rattle.std.specs.Int.{w32, w128, from_le_bytes}
use Rattle.std.specs.List.{fold}
use Rattle.vlm_collections.specs.declared.hashers.HashSpread.{HashSpread}
use Rattle.vlm_collections.specs.declared.hashers.HashKeys.{HashKeys}
use Rattle.vlm_collections.specs.Sip.{compressed, finished}

-- sixteen bytes as two words of keys
abbrev pub key_words : List ℕ → ℕ × ℕ
key_words bytes = (bit_and (from_le_bytes w128 bytes) 0xFFFFFFFFFFFFFFFF, from_le_bytes w128 bytes / 2 ^ 64)

-- the hash of words under keys
unfoldable pub hash_of : HashKeys → List ℕ → ℕ
hash_of keys words = finished (fold compressed keys.words words)

-- four bytes are a number, low byte first; its hash is the upper half of a product of 64 bits
abbrev pub spreading : HashSpread → List ℕ → HashSpread
spreading h bytes = record {
  spread = if length bytes == 4 then (from_le_bytes w32 bytes * 0x9E3779B97F4A7C15) % 2 ^ 64 / 2 ^ 32 else 0;
}
