-- The words that are hashed for a key.
use Rattle.std.specs.Prelude.{ℕ, ◌+◌, ◌*◌, List, [], ◌∷◌, length, nat_le, slice_index, take, if◌then◌else◌}
use Rattle.std.specs.Int.{w64, from_le_bytes}
use Rattle.vlm_words.specs.declared.resources.Key.{Key}
use Rattle.vlm_words.specs.Keys.{name_space}
use Rattle.vlm_words.specs.Padding.{padded}
use Rattle.vlm_words.specs.Resources.{key_name}

-- the eight bytes from this index on as a word, low byte first
abbrev pub word_at : List ℕ → ℕ → ℕ
word_at bytes at = from_le_bytes w64 (
    slice_index bytes at
    ∷ slice_index bytes (at + 1)
    ∷ slice_index bytes (at + 2)
    ∷ slice_index bytes (at + 3)
    ∷ slice_index bytes (at + 4)
    ∷ slice_index bytes (at + 5)
    ∷ slice_index bytes (at + 6)
    ∷ slice_index bytes (at + 7)
    ∷ []
    )

-- the bytes of a name in four words; 31 bytes are one short, so the last word begins one byte early
abbrev pub name_words : List ℕ → List ℕ
name_words name = word_at (padded 31 name) 0 ∷ word_at (padded 31 name) 8 ∷ word_at (padded 31 name) 16
    ∷ word_at (padded 31 name) 23 ∷ []

-- the name space with the length of the name, then the words of the name
abbrev pub key_words : Key → List ℕ
key_words key = (256 * name_space key + length (key_name key)) ∷ name_words (key_name key)

-- how many of these words are hashed; the words after them are zeros
abbrev pub word_count : Key → ℕ
word_count key =
    if nat_le (length (key_name key)) 8 then 2
    else if nat_le (length (key_name key)) 16 then 3
    else 5

-- the words that are hashed
abbrev pub hash_input : Key → List ℕ
hash_input key = take (word_count key) (key_words key)
