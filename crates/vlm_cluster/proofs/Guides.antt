-- What passes between a worker and its gate, a piece after another.
use Rattle.std.proofs.Common.{◌≡◌, ◌+◌, ℕ, Bool, true, false, arith, List, [], ◌∷◌, ◌++◌, refl, sym, ap, append-nil, ◌∙◌, subst}
use Rattle.std.proofs.lemmas.List.{append_assoc}
use Rattle.vlm_journal.specs.declared.entries.Item.{Item}
use Rattle.vlm_cluster.specs.declared.gate.Go.{Go}
use Rattle.vlm_cluster.specs.declared.gate.Go.TheVariants.{Later, Post, Stop}
use Rattle.vlm_cluster.specs.Gates.{AreInTurn, Chain, Event, IsCounted, IsFollowed, IsGuided, IsTold, Point, Standing}
use Rattle.vlm_cluster.specs.Gates.{Moves, items_told, tellings, asks, tells, open_at, shut_at}

told_more : (es fs : List Event) → items_told (es ++ fs) ≡ items_told es ++ items_told fs
told_more [] fs = refl
told_more (asks n go ∷ es) fs = told_more es fs
told_more (tells item ∷ es) fs = ap (λ (xs : List Item). item ∷ xs) (told_more es fs)

in_turn_more : (es fs : List Event) (a b c : Standing) → AreInTurn es a b → AreInTurn fs b c → AreInTurn (es ++ fs) a c
in_turn_more [] fs a b c first second = subst (λ (s : Standing). AreInTurn fs s c) first second
in_turn_more (tells item ∷ es) fs a b c first second = in_turn_more es fs a b c first second
in_turn_more (asks k Post ∷ es) fs (open_at n) b c first second = (first.0, in_turn_more es fs (open_at (n + 1)) b c first.1 second)
in_turn_more (asks k Later ∷ es) fs (open_at n) b c first second = (first.0, in_turn_more es fs (open_at n) b c first.1 second)
in_turn_more (asks k Stop ∷ es) fs (open_at n) b c first second = (first.0, in_turn_more es fs (shut_at n) b c first.1 second)
in_turn_more (asks k Post ∷ es) fs (shut_at n) b c first second = absurd first
in_turn_more (asks k Later ∷ es) fs (shut_at n) b c first second = absurd first
in_turn_more (asks k Stop ∷ es) fs (shut_at n) b c first second = absurd first

-- the items of tellings
items_of_tellings : (items : List Item) → items_told (tellings items) ≡ items
items_of_tellings [] = refl
items_of_tellings (x ∷ xs) = ap (λ (ys : List Item). x ∷ ys) (items_of_tellings xs)

tellings_more : (xs ys : List Item) → tellings (xs ++ ys) ≡ tellings xs ++ tellings ys
tellings_more [] ys = refl
tellings_more (x ∷ xs) ys = ap (λ (es : List Event). tells x ∷ es) (tellings_more xs ys)

tellings_in_turn : (items : List Item) (s : Standing) → AreInTurn (tellings items) s s
tellings_in_turn [] s = refl
tellings_in_turn (x ∷ xs) s = tellings_in_turn xs s

-- the count of a worker that ends is a possible count of a cancelled worker
counted_cancelled : (s : Standing) (size count : ℕ) (whole : Bool) → IsCounted s size count whole → IsCounted s size count false
counted_cancelled (shut_at n) size count whole is = is
counted_cancelled (open_at n) size count true is = (let e = is.0 in omega (arith, e), let e = is.0 in omega (arith, e))
counted_cancelled (open_at n) size count false is = is

module _ {G : Type 0} (moves : Moves G) where
  chain_more : (es fs : List Event) (a b c : G) → Chain moves a es b → Chain moves b fs c → Chain moves a (es ++ fs) c
  chain_more [] fs a b c first second = subst (λ (g : G). Chain moves g fs c) first second
  chain_more (e ∷ es) fs a b c first second = (first.0, first.1, chain_more es fs first.0 b c first.2 second)

  -- nothing is taken and nothing is told
  pub told_none : (a : Point G) → IsTold moves a a
  told_none a = ([], sym (append-nil a.1), refl)

  pub told_then : (a b c : Point G) → IsTold moves a b → IsTold moves b c → IsTold moves a c
  told_then a b c first second = (
    first.0 ++ second.0,
    second.1 ∙ ap (λ (xs : List Item). xs ++ second.0) first.1 ∙ append_assoc a.1 first.0 second.0,
    subst (λ (es : List Event). Chain moves a.0 es c.0) (sym (tellings_more first.0 second.0))
        (chain_more (tellings first.0) (tellings second.0) a.0 b.0 c.0 first.2 second.2),
  )

  pub guided_then : (a b c : Point G) (s t u : Standing) → IsGuided moves a b s t → IsGuided moves b c t u → IsGuided moves a c s u
  guided_then a b c s t u first second = record {
    events = first.events ++ second.events;
    chain = chain_more first.events second.events a.0 b.0 c.0 first.chain second.chain;
    told = second.told ∙ ap (λ (xs : List Item). xs ++ items_told second.events) first.told
        ∙ append_assoc a.1 (items_told first.events) (items_told second.events)
        ∙ ap (λ (xs : List Item). a.1 ++ xs) (sym (told_more first.events second.events));
    asked = in_turn_more first.events second.events s t u first.asked second.asked;
  }

  -- what is told alone guides too
  pub guided_told : (a b : Point G) (s : Standing) → IsTold moves a b → IsGuided moves a b s s
  guided_told a b s told = record {
    events = tellings told.0;
    chain = told.2;
    told = told.1 ∙ ap (λ (xs : List Item). a.1 ++ xs) (sym (items_of_tellings told.0));
    asked = tellings_in_turn told.0 s;
  }

  -- one ask
  pub guided_ask : (old new : G) (items : List Item) (n : ℕ) (go : Go) (s t : Standing) → moves old (asks n go) new → AreInTurn (asks n go ∷ []) s t
      → IsGuided moves (old, items) (new, items) s t
  guided_ask old new items n go s t word turn = record {
    events = asks n go ∷ [];
    chain = (new, word, refl);
    told = sym (append-nil items);
    asked = turn;
  }

  -- a round of a worker: it asks, and then takes items
  pub guided_round : (o a b : Point G) (n : ℕ) (go : Go) (next : G) (s t u : Standing) → IsGuided moves o a s t
      → moves a.0 (asks n go) next → AreInTurn (asks n go ∷ []) t u
      → IsTold moves (next, a.1) b → IsGuided moves o b s u
  guided_round o a b n go next s t u before word turn told =
      guided_then o a b s t u before (guided_then a (next, a.1) b t u u (guided_ask a.0 next a.1 n go t u word turn) (guided_told (next, a.1) b u told))

  -- the same at equal points
  pub guided_at : (o b d : Point G) (s t u : Standing) → IsGuided moves o b s t → d.0 ≡ b.0 → d.1 ≡ b.1 → u ≡ t → IsGuided moves o d s u
  guided_at o b d s t u guided gate items standing =
      subst (λ (v : Standing). IsGuided moves o d s v) (sym standing)
      (subst (λ (g : G). IsGuided moves o (g, d.1) s t) (sym gate) (subst (λ (xs : List Item). IsGuided moves o (b.0, xs) s t) (sym items) guided))

  -- what did not change was told nothing
  pub told_kept : (a b : Point G) → b.0 ≡ a.0 → b.1 ≡ a.1 → IsTold moves a b
  told_kept a b gate items = ([], items ∙ sym (append-nil a.1), gate)

  -- items that are told later
  pub followed_told : (o a b : Point G) (size count : ℕ) (whole : Bool) → IsFollowed moves o a size count whole
      → IsTold moves a b → IsFollowed moves o b size count whole
  followed_told o a b size count whole followed told = record {
    standing = followed.standing;
    guided = guided_then o a b (open_at 0) followed.standing followed.standing followed.guided (guided_told a b followed.standing told);
    counted = followed.counted;
  }

  -- what a gate said to a worker that ended, it may say to a cancelled one
  pub followed_cancelled : (o a : Point G) (size count : ℕ) (whole : Bool) → IsFollowed moves o a size count whole → IsFollowed moves o a size count false
  followed_cancelled o a size count whole followed = record {
    standing = followed.standing;
    guided = followed.guided;
    counted = counted_cancelled followed.standing size count whole followed.counted;
  }

  -- nothing was asked or told
  pub followed_none : (o : Point G) (size : ℕ) → IsFollowed moves o o size 0 false
  followed_none o size = record {
    standing = open_at 0;
    guided = guided_told o o (open_at 0) (told_none o);
    counted = (omega arith, omega arith);
  }
