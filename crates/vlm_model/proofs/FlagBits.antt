-- Which flags are built, bit by bit.
use Rattle.std.proofs.Common.{◌≡◌, ◌≤◌, ◌<◌, ◌^◌, ◌⊎◌, ℕ, zero, suc, Bool, true, false, inl, inr, refl, sym, ap, subst, ◌∙◌, arith}
use Rattle.std.specs.Prelude.{◌==◌, min, nat_lt}
use Rattle.std.specs.Int.{bit_at}
use Rattle.std.specs.Int.RustNames.{bit_and}
use Rattle.std.specs.List.{AllByRecursion}
use Rattle.std.proofs.Math.Nat.{two-pow-succ}
use Rattle.std.proofs.lemmas.Bool.{eq-eqb, eqb-true, true≢false}
use Rattle.std.proofs.lemmas.Bool.Decides.{nat_tests}
use Rattle.std.proofs.lemmas.List.Elements.{All-from_recursion, recursion_from_All}
use Rattle.std.proofs.lemmas.Nat.Bits.{bit_at-lt, bit_at_above, bit_at_and, same_from_bits}
use Rattle.vlm_words.specs.Flags.{deq_bits, enq_bits, is_known}
use Rattle.vlm_model.specs.Reasons.{HasUnknownBit, dequeue_flags, request_flags}

-- ---- bits

-- some bit is set that is not among those built
record HasBitOutside (built bits : ℕ) : Type 0 where
  place : ℕ
  set : bit_at bits place ≡ 1
  unknown : bit_at built place ≡ 0

-- no such bit is set, where the test says so
known_bits : (built bits : ℕ) → is_known built bits ≡ true → HasBitOutside built bits → ⊥
unfolding is_known
known_bits built bits known bit =
    let same : bit_and bits built ≡ bits = eqb-true (bit_and bits built) bits known in
    let least : bit_at (bit_and bits built) bit.place ≡ min (bit_at bits bit.place) (bit_at built bit.place) = bit_at_and bits built bit.place in
    let kept : bit_at (bit_and bits built) bit.place ≡ bit_at bits bit.place = ap (λ (n : ℕ). bit_at n bit.place) same in
    let least_0 : min (bit_at bits bit.place) (bit_at built bit.place) ≡ min 1 0 = rw (bit.set, bit.unknown) refl in
    let nothing : bit_at bits bit.place ≡ 0 = sym kept ∙ least ∙ least_0 in
    omega (arith, nothing, bit.set)

-- the bits below a place are known, or one of them is not
bits_below : (built bits places : ℕ) → ((i : ℕ) → i < places → bit_at bits i ≤ bit_at built i) ⊎ HasBitOutside built bits
bits_below built bits zero = inl (λ i below. absurd (omega (arith, below)))
bits_below built bits (suc places) =
    elim (bits_below built bits places) [
      | inl known ↦ of_bits (bit_at bits places) (bit_at built places) refl refl known
      | inr unknown ↦ inr unknown
    ]
  where
    more : bit_at bits places ≤ bit_at built places → ((i : ℕ) → i < places → bit_at bits i ≤ bit_at built i) → (i : ℕ) → i < suc places
        → bit_at bits i ≤ bit_at built i
    more here known i below = of_place (i == places) refl
      where
        of_place : (b : Bool) → (i == places) ≡ b → bit_at bits i ≤ bit_at built i
        of_place true is = subst (λ (n : ℕ). bit_at bits n ≤ bit_at built n) (sym (eqb-true i places is)) here
        of_place false is = known i (grind (arith, nat_tests, is, below))

    of_bits : (a b : ℕ) → bit_at bits places ≡ a → bit_at built places ≡ b → ((i : ℕ) → i < places → bit_at bits i ≤ bit_at built i)
        → ((i : ℕ) → i < suc places → bit_at bits i ≤ bit_at built i) ⊎ HasBitOutside built bits
    of_bits zero b first second known = inl (more (omega (arith, first)) known)
    of_bits (suc a) zero first second known =
        inr (record { place = places; set = omega (arith, first, bit_at-lt bits places); unknown = second })
    of_bits (suc a) (suc b) first second known = inl (more (omega (arith, first, second, bit_at-lt bits places)) known)

-- a number has no more bits than itself
few_bits : (n : ℕ) → n < 2 ^ n
few_bits zero = omega arith
few_bits (suc n) = omega (arith, few_bits n, two-pow-succ n)

-- a bit that is not among those built is set, where the test says so
unknown_bits : (built bits : ℕ) → is_known built bits ≡ false → HasBitOutside built bits
unfolding is_known
unknown_bits built bits unknown =
    elim (bits_below built bits bits) [
      | inl known ↦ absurd (true≢false (sym (eq-eqb (bit_and bits built) bits (same_from_bits (bit_and bits built) bits (each known))) ∙ unknown))
      | inr there ↦ there
    ]
  where
    each : ((i : ℕ) → i < bits → bit_at bits i ≤ bit_at built i) → (i : ℕ) → bit_at (bit_and bits built) i ≡ bit_at bits i
    each known i = bit_at_and bits built i ∙ of_place (nat_lt i bits) refl
      where
        of_place : (b : Bool) → nat_lt i bits ≡ b → min (bit_at bits i) (bit_at built i) ≡ bit_at bits i
        of_place true is = let less : bit_at bits i ≤ bit_at built i = known i (grind (arith, nat_tests, is)) in omega (arith, less)
        of_place false is =
            let above : bit_at bits i ≡ 0 = bit_at_above bits bits i (few_bits bits) (grind (arith, nat_tests, is)) in
            omega (arith, above)

-- ---- the bits of each flag

-- a place where no flag of requests has its bit
flag_places : (place : ℕ) → bit_at enq_bits place ≡ 0 → AllByRecursion (λ flag. bit_at flag place ≡ 0) request_flags
flag_places zero is = cc
flag_places (suc zero) is = cc
flag_places (suc (suc zero)) is = cc
flag_places (suc (suc (suc zero))) is = cc
flag_places (suc (suc (suc (suc zero)))) is = cc
flag_places (suc (suc (suc (suc (suc zero))))) is = cc
flag_places (suc (suc (suc (suc (suc (suc zero)))))) is = cc
flag_places (suc (suc (suc (suc (suc (suc (suc zero))))))) is = cc
flag_places (suc (suc (suc (suc (suc (suc (suc (suc zero)))))))) is = cc
flag_places (suc (suc (suc (suc (suc (suc (suc (suc (suc n))))))))) is = (
  past 1 (omega arith),
  (
    past 2 (omega arith),
    (
      past 4 (omega arith),
      (
        past 8 (omega arith),
        (
          past 16 (omega arith),
          (past 32 (omega arith), (past 64 (omega arith), (past 128 (omega arith), (past 256 (omega arith), tt)))),
        ),
      ),
    ),
  ),
)
  where
    past : (flag : ℕ) → flag < 2 ^ 9 → bit_at flag (suc (suc (suc (suc (suc (suc (suc (suc (suc n))))))))) ≡ 0
    past flag below = bit_at_above flag 9 (suc (suc (suc (suc (suc (suc (suc (suc (suc n))))))))) below (omega arith)

-- and none of all has one there
no_flag_place : (place : ℕ) → AllByRecursion (λ flag. bit_at flag place ≡ 0) request_flags → bit_at enq_bits place ≡ 0
no_flag_place zero each = absurd (omega (arith, each.0))
no_flag_place (suc zero) each = absurd (omega (arith, each.1.0))
no_flag_place (suc (suc zero)) each = absurd (omega (arith, each.1.1.0))
no_flag_place (suc (suc (suc zero))) each = absurd (omega (arith, each.1.1.1.0))
no_flag_place (suc (suc (suc (suc zero)))) each = absurd (omega (arith, each.1.1.1.1.0))
no_flag_place (suc (suc (suc (suc (suc zero))))) each = absurd (omega (arith, each.1.1.1.1.1.0))
no_flag_place (suc (suc (suc (suc (suc (suc zero)))))) each = absurd (omega (arith, each.1.1.1.1.1.1.0))
no_flag_place (suc (suc (suc (suc (suc (suc (suc zero))))))) each = absurd (omega (arith, each.1.1.1.1.1.1.1.0))
no_flag_place (suc (suc (suc (suc (suc (suc (suc (suc zero)))))))) each = absurd (omega (arith, each.1.1.1.1.1.1.1.1.0))
no_flag_place (suc (suc (suc (suc (suc (suc (suc (suc (suc n))))))))) each =
    bit_at_above 511 9 (suc (suc (suc (suc (suc (suc (suc (suc (suc n))))))))) (omega arith) (omega arith)

-- a place where no flag of dequeues has its bit
dequeue_places : (place : ℕ) → bit_at deq_bits place ≡ 0 → AllByRecursion (λ flag. bit_at flag place ≡ 0) dequeue_flags
dequeue_places zero is = cc
dequeue_places (suc zero) is = cc
dequeue_places (suc (suc zero)) is = cc
dequeue_places (suc (suc (suc n))) is = (past 1 (omega arith), (past 2 (omega arith), (past 4 (omega arith), tt)))
  where
    past : (flag : ℕ) → flag < 2 ^ 3 → bit_at flag (suc (suc (suc n))) ≡ 0
    past flag below = bit_at_above flag 3 (suc (suc (suc n))) below (omega arith)

-- and none of all has one there
no_dequeue_place : (place : ℕ) → AllByRecursion (λ flag. bit_at flag place ≡ 0) dequeue_flags → bit_at deq_bits place ≡ 0
no_dequeue_place zero each = absurd (omega (arith, each.0))
no_dequeue_place (suc zero) each = absurd (omega (arith, each.1.0))
no_dequeue_place (suc (suc zero)) each = absurd (omega (arith, each.1.1.0))
no_dequeue_place (suc (suc (suc n))) each = bit_at_above 7 3 (suc (suc (suc n))) (omega arith) (omega arith)

-- a bit outside all flags is no flag's
some_flag : (bits : ℕ) → HasBitOutside enq_bits bits → HasUnknownBit request_flags bits
some_flag bits bit = record {
  place = bit.place;
  set = bit.set;
  unknown = All-from_recursion (λ flag. bit_at flag bit.place ≡ 0) request_flags (flag_places bit.place bit.unknown);
}

-- and no flag's is outside all
no_flag : (bits : ℕ) → HasUnknownBit request_flags bits → HasBitOutside enq_bits bits
no_flag bits bit = record {
  place = bit.place;
  set = bit.set;
  unknown = no_flag_place bit.place (recursion_from_All (λ flag. bit_at flag bit.place ≡ 0) request_flags bit.unknown);
}

-- where the flags of a dequeue are not known, some bit is no flag's
pub dequeue_unknown : (bits : ℕ) → is_known deq_bits bits ≡ false → HasUnknownBit dequeue_flags bits
dequeue_unknown bits unknown =
    let bit : HasBitOutside deq_bits bits = unknown_bits deq_bits bits unknown in
    record {
      place = bit.place;
      set = bit.set;
      unknown = All-from_recursion (λ flag. bit_at flag bit.place ≡ 0) dequeue_flags (dequeue_places bit.place bit.unknown);
    }

-- and where they are, none is
pub dequeue_known : (bits : ℕ) → is_known deq_bits bits ≡ true → HasUnknownBit dequeue_flags bits → ⊥
dequeue_known bits known bit =
    known_bits deq_bits bits known
    (record {
      place = bit.place;
      set = bit.set;
      unknown = no_dequeue_place bit.place (recursion_from_All (λ flag. bit_at flag bit.place ≡ 0) dequeue_flags bit.unknown);
    })

-- ---- flags of requests

-- where some flag is unknown
pub request_flag_unknown : (bits : ℕ) → is_known enq_bits bits ≡ false → HasUnknownBit request_flags bits
request_flag_unknown bits is = some_flag bits (unknown_bits enq_bits bits is)

-- and where none is
pub request_flags_known : (bits : ℕ) → is_known enq_bits bits ≡ true → HasUnknownBit request_flags bits → ⊥
request_flags_known bits is unknown = known_bits enq_bits bits is (no_flag bits unknown)
