-- How many ASTs of each node the hub takes.
use Rattle.std.proofs.Common.{◌≡◌, ◌+◌, ◌-◌, ◌<◌, ◌≤◌, ◌/◌, ◌⊎◌, ℕ, Bool, true, false, ◌&&◌, List, [], ◌∷◌, ◌++◌, cond}
use Rattle.std.proofs.Common.{refl, sym, ap, ◌∙◌, subst, arith, inl, inr}
use Rattle.std.specs.Prelude.{◌==◌}
use Rattle.std.proofs.lemmas.Bool.{cases_eq, cases_lt, ne_eqb}
use Rattle.std.proofs.lemmas.List.Sums.{sum_by-append, sum_by-cons}
use Rattle.vlm_words.specs.declared.asts.Ast.{Ast}
use Rattle.vlm_journal.specs.declared.entries.Entry.{Entry}
use Rattle.vlm_ports.specs.Hubs.{EachIsDeliveredOnce, NoneIsDelivered, OneIsDelivered, deliveries, delivery_of, is_take_of}
use Rattle.vlm_ports.proofs.Lines.{delivery}

-- one entry more
counted : (node : ℕ) (js room ks : List Entry) (e : Entry) → room ≡ js → ks ≡ room ++ e ∷ []
    → deliveries node ks ≡ deliveries node js + delivery_of node e
counted node js room ks e same more =
    omega (
      arith,
      ap (λ (es : List Entry). deliveries node es) more,
      ap (λ (es : List Entry). deliveries node es) same,
      sum_by-append (delivery_of node) room (e ∷ []),
      sum_by-cons (delivery_of node) e [],
    )

one_or_none : (b : Bool) → cond b 1 0 ≤ 1
one_or_none true = omega arith
one_or_none false = omega arith

-- nothing is taken where the journal is the same
pub none_delivered : (js ks : List Entry) → ks ≡ js → NoneIsDelivered js ks
none_delivered js ks same k = ap (λ (es : List Entry). deliveries (k + 1) es) same

-- nor where a post is served
pub served_delivers_none : (at : ℕ) (js room ks : List Entry) (e : Entry) → room ≡ js → ks ≡ room ++ e ∷ [] → e.sender ≡ at + 1 → NoneIsDelivered js ks
served_delivers_none at js room ks e same more from k =
    let other : (e.sender == 0) ≡ false = ne_eqb e.sender 0 (λ none. omega (arith, none, from)) in
    let none : delivery_of (k + 1) e ≡ 0 = ap (λ (b : Bool). cond (b && is_take_of (k + 1) e.step) 1 0) other in
    omega (arith, none, counted (k + 1) js room ks e same more)

-- one AST is taken
pub delivers_one : (at : ℕ) (js room ks : List Entry) (pid : ℕ) (ast : Ast) → room ≡ js → ks ≡ room ++ delivery pid ast ∷ []
    → pid / 65536 ≡ at + 1 → OneIsDelivered at js ks
delivers_one at js room ks pid ast same more to = record {
  own = omega (arith, counted (at + 1) js room ks (delivery pid ast) same more, one_or_none (pid / 65536 == at + 1));
  others = λ k ne.
      let other : (pid / 65536 == k + 1) ≡ false = ne_eqb (pid / 65536) (k + 1) (λ is. ne (omega (arith, is, to))) in
      let none : delivery_of (k + 1) (delivery pid ast) ≡ 0 = ap (λ (b : Bool). cond b 1 0) other in
      omega (arith, none, counted (k + 1) js room ks (delivery pid ast) same more);
}

pub none_is_one : (at : ℕ) (js ks : List Entry) → NoneIsDelivered js ks → OneIsDelivered at js ks
none_is_one at js ks none = record { own = omega (arith, none at); others = λ k ne. none k }

pub one_then_none : (at : ℕ) (js ks ls : List Entry) → OneIsDelivered at js ks → NoneIsDelivered ks ls → OneIsDelivered at js ls
one_then_none at js ks ls one none = record {
  own = omega (arith, none at, one.own);
  others = λ k ne. none k ∙ one.others k ne;
}

-- below a place at most one AST of each node was taken, and from there on none
pub record DeliveredBelow (at : ℕ) (js ks : List Entry) : Type 0 where
  pub below : (k : ℕ) → k < at → deliveries (k + 1) ks ≤ deliveries (k + 1) js + 1
  pub above : (k : ℕ) → at ≤ k → deliveries (k + 1) ks ≡ deliveries (k + 1) js

pub delivered_first : (js : List Entry) → DeliveredBelow 0 js js
delivered_first js = record { below = λ k lt. absurd (omega (arith, lt)); above = λ k le. refl }

pub delivered_on : (at : ℕ) (js ks ls : List Entry) → DeliveredBelow at js ks → OneIsDelivered at ks ls → DeliveredBelow (at + 1) js ls
delivered_on at js ks ls before one = record {
  below = λ k lt.
      elim (cases_eq k at) [
        | inl e ↦
            let here : deliveries (at + 1) ls ≤ deliveries (at + 1) js + 1 = omega (arith, before.above at (omega arith), one.own) in
            subst (λ (m : ℕ). deliveries (m + 1) ls ≤ deliveries (m + 1) js + 1) (sym e) here
        | inr ne ↦ omega (arith, one.others k ne, before.below k (omega (arith, lt, ne)))
      ];
  above = λ k le. one.others k (λ e. omega (arith, le, e)) ∙ before.above k (omega (arith, le));
}

pub delivered_each : (at : ℕ) (js ks : List Entry) → DeliveredBelow at js ks → EachIsDeliveredOnce js ks
delivered_each at js ks so node some =
    subst (λ (m : ℕ). deliveries m ks ≤ deliveries m js + 1) (omega (arith, some))
    (elim (below_or (node - 1) at) [
      | inl lt ↦ so.below (node - 1) lt
      | inr le ↦ omega (arith, so.above (node - 1) le)
    ])
  where
    below_or : (m n : ℕ) → (m < n) ⊎ (n ≤ m)
    below_or m n = cases_lt m n
