-- Bits in words of 64.
use Rattle.std.specs.Prelude.{◌≡◌, ◌≢◌, ℕ, ◌/◌, ◌%◌, ◌<◌, List, min, slice_index}
use Rattle.std.specs.Int.{bit_at}

-- the bit of a number
unfoldable pub bit_of : List ℕ → ℕ → ℕ
bit_of words number = bit_at (slice_index words (number / 64)) (number % 64)

-- this bit becomes the value; other bits and other words stay
pub record Sets (value number : ℕ) (old new : List ℕ) : Type 0 where
  pub bit : bit_of new number ≡ value
  pub bits : (other : ℕ) → other ≢ number → bit_of new other ≡ bit_of old other
  pub words : (word : ℕ) → word ≢ number / 64 → slice_index new word ≡ slice_index old word

-- each bit of the upper words says whether its lower word is not 0
pub record Tells (lower upper : List ℕ) : Type 0 where
  pub each : (word : ℕ) → bit_of upper word ≡ min 1 (slice_index lower word)

-- the first word that is not 0
pub record IsFirstWord (words : List ℕ) (word : ℕ) : Type 0 where
  pub some : 0 < slice_index words word
  pub before : (earlier : ℕ) → earlier < word → slice_index words earlier ≡ 0

-- the first number whose bit is 1
pub record IsFirstBit (words : List ℕ) (number : ℕ) : Type 0 where
  pub one : bit_of words number ≡ 1
  pub before : (earlier : ℕ) → earlier < number → bit_of words earlier ≡ 0
