-- Bits that change, and the level above that tells of it.
use Rattle.std.proofs.Common.{◌≡◌, ◌≢◌, ℕ, ◌+◌, ◌-◌, ◌*◌, ◌/◌, ◌%◌, ◌^◌, ◌<◌, min, List, length, get_or, set, refl, sym, ap, ◌∙◌, inl, inr, arith, w64}
use Rattle.std.specs.Prelude.{slice_index}
use Rattle.std.specs.Int.{bit_at, trailing_zeros}
use Rattle.std.proofs.lemmas.Bool.{cases_eq}
use Rattle.std.proofs.lemmas.List.{get_or-set_same, get_or-set_other, get_or_past}
use Rattle.std.proofs.lemmas.Nat.Bits.{bit_at-zero, bit_at-trailing_zeros}
use Rattle.vlm_collections.specs.Words.{IsFirstBit, IsFirstWord, Sets, Tells, bit_of}

-- in a word that is 0 each bit is 0
pub bit_of-zero : (words : List ℕ) (n : ℕ) → slice_index words (n / 64) ≡ 0 → bit_of words n ≡ 0
unfolding bit_of
bit_of-zero words n empty = rw empty (bit_at-zero (n % 64))

-- a word with a bit that is 1 is not 0
pub word_of-one : (words : List ℕ) (n : ℕ) → bit_of words n ≡ 1 → 0 < slice_index words (n / 64)
word_of-one words n one =
    elim (cases_eq (slice_index words (n / 64)) 0) [
      | inl empty ↦ absurd (omega (arith, bit_of-zero words n empty))
      | inr some ↦ omega arith
    ]

-- a word that is not 0 is one of them
pub within-some : (words : List ℕ) (k : ℕ) → 0 < slice_index words k → k < length words
within-some words k some =
    elim (cases_eq (length words - k) 0) [
      | inl past ↦
          let empty : slice_index words k ≡ 0 = get_or_past words k 0 (omega arith) in
          absurd (omega arith)
      | inr inside ↦ omega arith
    ]

-- a number whose bit is 1 has a word
pub within-one : (words : List ℕ) (n : ℕ) → bit_of words n ≡ 1 → n < 64 * length words
within-one words n one =
    let some : 0 < slice_index words (n / 64) = word_of-one words n one in
    let within : n / 64 < length words = within-some words (n / 64) some in
    omega arith

-- a word with another bit in place of one of its bits
pub sets_of : (b n : ℕ) (words : List ℕ) (word : ℕ) → n / 64 < length words
    → bit_at word (n % 64) ≡ b
    → ((i : ℕ) → i < 64 → i ≢ n % 64 → bit_at word i ≡ bit_at (get_or words (n / 64) 0) i)
    → Sets b n words (set words (n / 64) word)
unfolding bit_of
sets_of b n words word within bit rest = record {
  bit = rw (get_or-set_same words (n / 64) word 0 within) bit;
  bits = λ other differs. elim (cases_eq (other / 64) (n / 64)) [
    | inl same ↦
        let apart : other % 64 ≢ n % 64 = λ e. differs (omega arith) in
        let inside : other % 64 < 64 = omega arith in
        rw (same, get_or-set_same words (n / 64) word 0 within) (rest (other % 64) inside apart)
    | inr away ↦ rw (get_or-set_other words (n / 64) (other / 64) word 0 away) refl
  ];
  words = λ other away. get_or-set_other words (n / 64) other word 0 away;
}

-- where a bit becomes 1, the bit of its word does too
pub tells-one : (lower lower' upper upper' : List ℕ) (n : ℕ) → Tells lower upper → Sets 1 n lower lower' → Sets 1 (n / 64) upper upper' → Tells lower' upper'
tells-one lower lower' upper upper' n tells low up = record {
  each = λ word. elim (cases_eq word (n / 64)) [
    | inl same ↦
        rw same (omega (arith, up.bit, word_of-one lower' n low.bit))
    | inr away ↦ up.bits word away ∙ tells.each word ∙ ap (min 1) (sym (low.words word away))
  ];
}

-- where a word becomes 0, its bit does too
pub tells-none : (lower lower' upper upper' : List ℕ) (n : ℕ) → Tells lower upper → Sets 0 n lower lower'
    → slice_index lower' (n / 64) ≡ 0 → Sets 0 (n / 64) upper upper' → Tells lower' upper'
tells-none lower lower' upper upper' n tells low empty up = record {
  each = λ word. elim (cases_eq word (n / 64)) [
    | inl same ↦
        rw same (omega (arith, up.bit, empty))
    | inr away ↦ up.bits word away ∙ tells.each word ∙ ap (min 1) (sym (low.words word away))
  ];
}

-- where a word stays what it was, 0 or not, the level above stays
pub tells-kept : (lower lower' upper : List ℕ) (b n : ℕ) → Tells lower upper → Sets b n lower lower'
    → min 1 (slice_index lower (n / 64)) ≡ min 1 (slice_index lower' (n / 64)) → Tells lower' upper
tells-kept lower lower' upper b n tells low stays = record {
  each = λ word. elim (cases_eq word (n / 64)) [
    | inl same ↦ rw same (tells.each (n / 64) ∙ stays)
    | inr away ↦ tells.each word ∙ ap (min 1) (sym (low.words word away))
  ];
}

-- where all words are 0, there is nothing to tell
pub tells-zeros : (lower upper : List ℕ) → ((k : ℕ) → slice_index lower k ≡ 0) → ((k : ℕ) → slice_index upper k ≡ 0) → Tells lower upper
tells-zeros lower upper low up = record {
  each = λ word.
      let none : bit_of upper word ≡ 0 = bit_of-zero upper word (up (word / 64)) in
      let empty : slice_index lower word ≡ 0 = low word in
      omega arith;
}

-- where the words above are 0, those below are
pub none_below : (lower upper : List ℕ) → Tells lower upper → ((k : ℕ) → slice_index upper k ≡ 0) → (k : ℕ) → slice_index lower k ≡ 0
none_below lower upper tells empty k =
    let told : bit_of upper k ≡ min 1 (slice_index lower k) = tells.each k in
    let none : bit_of upper k ≡ 0 = bit_of-zero upper k (empty (k / 64)) in
    omega arith

-- the first bit above is that of the first word that is not 0
pub first_below : (lower upper : List ℕ) (word : ℕ) → Tells lower upper → IsFirstBit upper word → IsFirstWord lower word
first_below lower upper word tells first = record {
  some = omega (arith, tells.each word, first.one);
  before = λ k h. omega (arith, tells.each k, first.before k h);
}

-- where the words are 0, no bit is 1
pub no_bits : (words : List ℕ) → ((k : ℕ) → slice_index words k ≡ 0) → (n : ℕ) → bit_of words n ≡ 0
no_bits words empty n = bit_of-zero words n (empty (n / 64))

-- the first bit of the first word that is not 0
pub first_in : (words : List ℕ) (word : ℕ) → IsFirstWord words word → slice_index words word < 2 ^ 64
    → IsFirstBit words (64 * word + trailing_zeros w64 (slice_index words word))
unfolding bit_of
first_in words word first fits =
    let lowest = bit_at-trailing_zeros w64 (slice_index words word) first.some fits in
    let t : ℕ = trailing_zeros w64 (slice_index words word) in
    let inside : t < 64 = lowest.0 in
    let its_word : (64 * word + t) / 64 ≡ word = omega arith in
    let its_bit : (64 * word + t) % 64 ≡ t = omega arith in
    record {
      one = rw (its_word, its_bit) lowest.1;
      before = λ k h. elim (cases_eq (k / 64) word) [
        | inl same ↦
            let sooner : k % 64 < t = omega arith in
            rw same (lowest.2 (k % 64) sooner)
        | inr away ↦
            let sooner : k / 64 < word = omega arith in
            rw (first.before (k / 64) sooner) (bit_at-zero (k % 64))
      ];
    }

-- a word that is not 0 afterwards was not 0 before
pub stays : (old new : ℕ) → (old ≡ 0 → new ≡ 0) → (new ≡ 0 → ⊥) → min 1 old ≡ min 1 new
stays old new none some =
    elim (cases_eq old 0) [
      | inl zero ↦ absurd (some (none zero))
      | inr more ↦ omega arith
    ]

-- where the one word is 0, all are
pub one_word : (words : List ℕ) → length words ≡ 1 → slice_index words 0 ≡ 0 → (k : ℕ) → slice_index words k ≡ 0
one_word words one empty k =
    elim (cases_eq k 0) [
      | inl zero ↦ rw zero empty
      | inr behind ↦ get_or_past words k 0 (omega arith)
    ]
