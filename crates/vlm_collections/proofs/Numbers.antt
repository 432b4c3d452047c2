-- The marks of numbers, by their bits.
use Rattle.std.proofs.Common.{◌≡◌, ℕ, ◌+◌, ◌-◌, ◌*◌, ◌/◌, ◌<◌, ◌≤◌, Bool, false, List, ◌++◌, length, get_or, set}
use Rattle.std.proofs.Common.{replicate, None, Some, refl, sym, ap, ◌∙◌, inl, inr, arith}
use Rattle.std.specs.Prelude.{◌==◌, position}
use Rattle.std.proofs.lemmas.Bool.{cases_eq, le-ltb, lt-ltb}
use Rattle.std.proofs.lemmas.List.{get_or-set_same, get_or-set_other, get_or_past, get_or-replicate, length-append, length-replicate, length-set}
use Rattle.std.proofs.lemmas.List.FromFn.{fill_by_all, get_or-map-range_with_len, length-map-range_with_len}
use Rattle.std.proofs.lemmas.List.Sums.{position_or_len_is}
use Rattle.std.proofs.Math.ListN.{get_or-append}
use Rattle.std.proofs.Math.Seq.{get_or-append_right}
use Rattle.vlm_collections.specs.Words.{IsFirstBit, Sets, bit_of}
use Rattle.vlm_collections.specs.Marks.{marks_of}
use Rattle.vlm_collections.proofs.Bits.{bit_of-zero, within-one}

pub length-marks_of : (words : List ℕ) → length (marks_of words) ≡ 64 * length words
unfolding marks_of
length-marks_of words = length-map-range_with_len (λ n. bit_of words n == 1) 0 (64 * length words)

pub get_or-marks_of : (words : List ℕ) (n : ℕ) (d : Bool) → n < 64 * length words → get_or (marks_of words) n d ≡ (bit_of words n == 1)
unfolding marks_of
get_or-marks_of words n d within = get_or-map-range_with_len (λ k. bit_of words k == 1) 0 (64 * length words) n n d within (omega arith)

-- a number without room is not marked
pub marked : (words : List ℕ) (n : ℕ) → get_or (marks_of words) n false ≡ (bit_of words n == 1)
marked words n =
    elim (cases_eq (length words - n / 64) 0) [
      | inl past ↦
          let away : length (marks_of words) ≤ n = omega (arith, length-marks_of words) in
          get_or_past (marks_of words) n false away
          ∙ sym (ap (λ b. b == 1) (bit_of-zero words n (get_or_past words (n / 64) 0 (omega arith))))
      | inr inside ↦ get_or-marks_of words n false (omega arith)
    ]

-- a bit that changes is a mark that changes
pub marks_of-set : (words words' : List ℕ) (n b : ℕ) → length words' ≡ length words → n < 64 * length words
    → Sets b n words words' → marks_of words' ≡ set (marks_of words) n (b == 1)
unfolding marks_of
marks_of-set words words' n b same within sets =
    sym (fill_by_all (λ k. bit_of words' k == 1) (set (marks_of words) n (b == 1)) (64 * length words') false
    (length-set (marks_of words) n (b == 1) ∙ length-marks_of words ∙ ap (λ l. 64 * l) (sym same)) each)
  where
    each : (k : ℕ) → k < 64 * length words' → get_or (set (marks_of words) n (b == 1)) k false ≡ (bit_of words' k == 1)
    each k h =
        elim (cases_eq k n) [
          | inl this ↦
              let room : n < length (marks_of words) = omega (arith, length-marks_of words) in
              rw this (get_or-set_same (marks_of words) n (b == 1) false room ∙ ap (λ x. x == 1) (sym sets.bit))
          | inr other ↦
              get_or-set_other (marks_of words) n k (b == 1) false other
              ∙ marked words k ∙ ap (λ x. x == 1) (sym (sets.bits k other))
        ]

-- a list of one value has it everywhere, and no other behind its end
pub get_or-of_default : {A : Type 0} (more i : ℕ) (d : A) → get_or (replicate more d) i d ≡ d
get_or-of_default more i d =
    elim (cases_eq (more - i) 0) [
      | inl past ↦ get_or_past (replicate more d) i d (omega (arith, length-replicate more d))
      | inr inside ↦ get_or-replicate more i d d (omega arith)
    ]

-- what stands behind a list is as if it were not there
pub get_or-behind : {A : Type 0} (xs : List A) (more k : ℕ) (d : A) → get_or (xs ++ replicate more d) k d ≡ get_or xs k d
get_or-behind xs more k d =
    elim (cases_eq (length xs - k) 0) [
      | inl past ↦
          let away : length xs ≤ k = omega arith in
          get_or-append_right xs (replicate more d) k d away ∙ get_or-of_default more (k - length xs) d ∙ sym (get_or_past xs k d away)
      | inr inside ↦ get_or-append xs (replicate more d) d k (omega arith)
    ]

-- words that are new have no bit that is 1
pub bit_of-grown : (words : List ℕ) (more k : ℕ) → bit_of (words ++ replicate more 0) k ≡ bit_of words k
unfolding bit_of
bit_of-grown words more k = rw (get_or-behind words more (k / 64) 0) refl

-- they bring numbers without marks
pub marks_of-grown : (words : List ℕ) (more : ℕ) → marks_of (words ++ replicate more 0) ≡ marks_of words ++ replicate (64 * more) false
unfolding marks_of
marks_of-grown words more =
    sym (fill_by_all (λ k. bit_of (words ++ replicate more 0) k == 1) (marks_of words ++ replicate (64 * more) false)
    (64 * length (words ++ replicate more 0)) false same each)
  where
    same : length (marks_of words ++ replicate (64 * more) false) ≡ 64 * length (words ++ replicate more 0)
    same =
        let more_words : length (replicate {A = ℕ} more 0) ≡ more = length-replicate more 0 in
        let more_marks : length (replicate {A = Bool} (64 * more) false) ≡ 64 * more = length-replicate (64 * more) false in
        simp (length-append, length-marks_of) (omega arith)

    each : (k : ℕ) → k < 64 * length (words ++ replicate more 0)
        → get_or (marks_of words ++ replicate (64 * more) false) k false ≡ (bit_of (words ++ replicate more 0) k == 1)
    each k h =
        get_or-behind (marks_of words) (64 * more) k false ∙ marked words k
        ∙ ap (λ b. b == 1) (sym (bit_of-grown words more k))

-- a number is marked where its bit is 1, and not where it is 0
marked-bit : (words : List ℕ) (n b : ℕ) → bit_of words n ≡ b → get_or (marks_of words) n false ≡ (b == 1)
marked-bit words n b is = marked words n ∙ ap (λ x. x == 1) is

-- the first mark is that of the first bit
pub position-first : (words : List ℕ) (n : ℕ) → IsFirstBit words n → Some n ≡ position (λ is_marked. is_marked) (marks_of words)
position-first words n first =
    let within : n < length (marks_of words) = omega (arith, length-marks_of words, within-one words n first.one) in
    let place = position_or_len_is (λ m. m) (marks_of words) n false (omega arith)
    (λ k h. marked-bit words k 0 (first.before k h)) (λ h. marked-bit words n 1 first.one) in
    rw (place, lt-ltb n (length (marks_of words)) within) refl

-- without a bit there is no mark
pub position-none : (words : List ℕ) → ((k : ℕ) → bit_of words k ≡ 0) → None ≡ position (λ is_marked. is_marked) (marks_of words)
position-none words none =
    let count : ℕ = length (marks_of words) in
    let place = position_or_len_is (λ m. m) (marks_of words) count false (omega arith)
    (λ k h. marked-bit words k 0 (none k)) (λ h. absurd (omega arith)) in
    rw (place, le-ltb count count (omega arith)) refl

-- the numbers that are new have no marks
pub marks_of-more : (old new : List ℕ) (more : ℕ) → new ≡ old ++ replicate more 0
    → marks_of new ≡ marks_of old ++ replicate (length (marks_of new) - length (marks_of old)) false
marks_of-more old new more is =
    let more_words : length (replicate {A = ℕ} more 0) ≡ more = length-replicate more 0 in
    let words : length new ≡ length old + length (replicate {A = ℕ} more 0) = ap length is ∙ length-append old (replicate more 0) in
    let marks : length (marks_of new) - length (marks_of old) ≡ 64 * more = omega (arith, length-marks_of new, length-marks_of old) in
    ap marks_of is ∙ marks_of-grown old more ∙ ap (λ n. marks_of old ++ replicate n false) (sym marks)
