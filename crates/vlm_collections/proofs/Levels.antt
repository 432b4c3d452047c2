-- The levels as a number is marked or unmarked, and as there is more room.
use Rattle.std.proofs.Common.{◌≡◌, ℕ, ◌+◌, ◌-◌, ◌*◌, ◌/◌, ◌<◌, ◌≤◌, Bool, false, List, ◌++◌, length, replicate, set}
use Rattle.std.proofs.Common.{take, take_all, refl, subst, sym, ap, ◌∙◌, arith}
use Rattle.std.specs.Prelude.{◌==◌, slice_index}
use Rattle.std.specs.Vec.{with_items}
use Rattle.std.proofs.lemmas.List.{with_items_is}
use Rattle.vlm_collections.specs.declared.marks.Marks.TheInside.{Inside}
use Rattle.vlm_collections.specs.Marks.{IsLevelled, marks_of}
use Rattle.vlm_collections.specs.Words.{Sets, Tells}
use Rattle.vlm_collections.proofs.Bits.{stays, tells-kept, tells-none, tells-one}
use Rattle.vlm_collections.proofs.Numbers.{length-marks_of, marks_of-more, marks_of-set}

-- a number that there is room for has a word
pub has_word : (m : Inside) (marks : List Bool) (n : ℕ) → marks_of m.numbers.items ≡ marks → n < length marks → n < 64 * length m.numbers.items
has_word m marks n shown within = omega (arith, length-marks_of m.numbers.items, ap length shown)

-- a bit of the lowest level is a mark
pub marks-set : (m : Inside) (old new : List ℕ) (marks : List Bool) (bit place n : ℕ) → old ≡ m.numbers.items
    → length new ≡ length m.numbers.items → marks_of m.numbers.items ≡ marks → place ≡ n → n < length marks
    → Sets bit place old new → marks_of (with_items m.numbers new).items ≡ set marks n (bit == 1)
marks-set m old new marks bit place n is len shown same within low =
    let sets : Sets bit n m.numbers.items new = rw (sym is, sym same) low in
    ap marks_of (with_items_is m.numbers new (len ∙ sym m.numbers.ok.0))
    ∙ marks_of-set m.numbers.items new n bit len (has_word m marks n shown within) sets
    ∙ ap (λ l. set l n (bit == 1)) shown

-- the levels, where the two upper ones are known to tell of those below
levels_of : (m : Inside) (new words top : List ℕ) → IsLevelled m → length new ≡ length m.numbers.items → length top ≡ length m.top
    → Tells new words → Tells words top → IsLevelled (record { numbers = with_items m.numbers new; words = words; top = top })
levels_of m new words top levels len len_top lower upper =
    let is : (with_items m.numbers new).items ≡ new = with_items_is m.numbers new (len ∙ sym m.numbers.ok.0) in
    record {
      few = omega (arith, ap length is, levels.few);
      words = (let T : List ℕ → Type 0 = λ l. Tells l words in subst T (sym is) lower);
      top = upper;
      single = len_top ∙ levels.single;
    }

-- a bit becomes 1 in each level
pub levels-marked : (m : Inside) (old new words top : List ℕ) (n : ℕ) → IsLevelled m → old ≡ m.numbers.items
    → length new ≡ length m.numbers.items → length top ≡ length m.top
    → Sets 1 n old new → Sets 1 (n / 64) m.words words → Sets 1 (n / 64 / 64) m.top top
    → IsLevelled (record { numbers = with_items m.numbers new; words = words; top = top })
levels-marked m old new words top n levels is len len_top low up highest =
    let sets : Sets 1 n m.numbers.items new = rw (sym is) low in
    levels_of m new words top levels len len_top
    (tells-one m.numbers.items new m.words words n levels.words sets up)
    (tells-one m.words words m.top top (n / 64) levels.top up highest)

-- a bit becomes 0, and its word does not
pub levels-kept : (m : Inside) (old new : List ℕ) (n : ℕ) → IsLevelled m → old ≡ m.numbers.items → length new ≡ length m.numbers.items
    → Sets 0 n old new → (slice_index old (n / 64) ≡ 0 → slice_index new (n / 64) ≡ 0) → (slice_index new (n / 64) ≡ 0 → ⊥)
    → IsLevelled (record { numbers = with_items m.numbers new; words = m.words; top = m.top })
levels-kept m old new n levels is len low none some =
    let lower : Tells old m.words = rw is levels.words in
    levels_of m new m.words m.top levels len refl
    (tells-kept old new m.words 0 n lower low (stays (slice_index old (n / 64)) (slice_index new (n / 64)) none some))
    levels.top

-- a word becomes 0, and the word above does not
pub levels-word : (m : Inside) (old new words : List ℕ) (n : ℕ) → IsLevelled m → old ≡ m.numbers.items → length new ≡ length m.numbers.items
    → Sets 0 n old new → slice_index new (n / 64) ≡ 0
    → Sets 0 (n / 64) m.words words → (slice_index m.words (n / 64 / 64) ≡ 0 → slice_index words (n / 64 / 64) ≡ 0) → (slice_index words (n / 64 / 64) ≡ 0 → ⊥)
    → IsLevelled (record { numbers = with_items m.numbers new; words = words; top = m.top })
levels-word m old new words n levels is len low empty up none some =
    let lower : Tells old m.words = rw is levels.words in
    levels_of m new words m.top levels len refl
    (tells-none old new m.words words n lower low empty up)
    (tells-kept m.words words m.top 0 (n / 64) levels.top up (stays (slice_index m.words (n / 64 / 64)) (slice_index words (n / 64 / 64)) none some))

-- a word becomes 0 in each level but the top one
pub levels-top : (m : Inside) (old new words top : List ℕ) (n : ℕ) → IsLevelled m → old ≡ m.numbers.items
    → length new ≡ length m.numbers.items → length top ≡ length m.top
    → Sets 0 n old new → slice_index new (n / 64) ≡ 0 → Sets 0 (n / 64) m.words words → slice_index words (n / 64 / 64) ≡ 0 → Sets 0 (n / 64 / 64) m.top top
    → IsLevelled (record { numbers = with_items m.numbers new; words = words; top = top })
levels-top m old new words top n levels is len len_top low empty up empty_above highest =
    let lower : Tells old m.words = rw is levels.words in
    levels_of m new words top levels len len_top
    (tells-none old new m.words words n lower low empty up)
    (tells-none m.words words m.top top (n / 64) levels.top up empty_above highest)

-- words are put behind those that there are
resized : (old new : List ℕ) (count : ℕ) → length old < count → new ≡ take count old ++ replicate (count - length old) 0
    → new ≡ old ++ replicate (count - length old) 0
resized old new count less is = is ∙ ap (λ l. l ++ replicate (count - length old) 0) (take_all count old (omega arith))

-- the numbers that are new have no marks
pub marks-grown : (m : Inside) (new : List ℕ) (marks : List Bool) (count : ℕ) → marks_of m.numbers.items ≡ marks
    → length m.numbers.items < count → new ≡ take count m.numbers.items ++ replicate (count - length m.numbers.items) 0
    → marks_of new ≡ marks ++ replicate (length (marks_of new) - length marks) false
marks-grown m new marks count shown less is =
    marks_of-more m.numbers.items new (count - length m.numbers.items) (resized m.numbers.items new count less is)
    ∙ ap (λ l. l ++ replicate (length (marks_of new) - length l) false) shown

-- the words of a number and of those below it are room for it
pub room_for : (new : List ℕ) (place n : ℕ) → place ≡ n → length new ≡ place / 64 + 1 → n < length (marks_of new)
room_for new place n same len = omega (arith, length-marks_of new)

-- where there are fewer words there is no room for the first number of the last one
pub no_room : (m : Inside) (marks : List Bool) (place n : ℕ) → marks_of m.numbers.items ≡ marks → place ≡ n
    → length m.numbers.items < place / 64 + 1 → 64 * (n / 64) < length marks → ⊥
no_room m marks place n shown same less within = omega (arith, has_word m marks (64 * (n / 64)) shown within)

-- where there are as many words there is room
pub has_room : (m : Inside) (marks : List Bool) (place n : ℕ) → marks_of m.numbers.items ≡ marks → place ≡ n
    → place / 64 + 1 ≤ length m.numbers.items → n < length marks
has_room m marks place n shown same enough = omega (arith, length-marks_of m.numbers.items, ap length shown)
