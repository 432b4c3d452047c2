-- How many requests of each node are taken.
use Rattle.std.proofs.Common.{◌≡◌, ◌+◌, ◌-◌, ◌<◌, ◌≤◌, ◌⊎◌, ℕ, List, [], ◌∷◌, ◌++◌, length, refl, sym, ap, ◌∙◌, subst, arith, inl, inr}
use Rattle.std.proofs.lemmas.Bool.{cases_eq, cases_lt}
use Rattle.std.proofs.lemmas.List.{length-append}
use Rattle.vlm_words.specs.declared.steps.Step.{Step}
use Rattle.vlm_journal.specs.declared.entries.Entry.{Entry}
use Rattle.vlm_journal.specs.Lengthening.{LengthensLittle}
use Rattle.vlm_journal.specs.Told.{asked}
use Rattle.vlm_ports.specs.Hubs.{EachAsksOnce, NoneAsks, OneAsks}

-- no more is asked where the journal is the same
pub none_asks : (js ks : List Entry) → ks ≡ js → NoneAsks js ks
none_asks js ks same k = ap (λ (es : List Entry). asked (k + 1) es) same

-- nor where the hub makes an entry by itself
pub hub_asks : (js room ks : List Entry) (e : Entry) → room ≡ js → LengthensLittle room e → ks ≡ room ++ e ∷ [] → e.sender ≡ 0 → NoneAsks js ks
hub_asks js room ks e same little more from k =
    ap (λ (es : List Entry). asked (k + 1) es) more ∙ little.asks_none (k + 1) (λ h. omega (arith, h, from))
    ∙ ap (λ (es : List Entry). asked (k + 1) es) same

-- one more is asked where it serves
pub node_asks : (at : ℕ) (js room ks : List Entry) (e : Entry) → room ≡ js → LengthensLittle room e → ks ≡ room ++ e ∷ [] → e.sender ≡ at + 1 → OneAsks at js ks
node_asks at js room ks e same little more from =
    let own : asked (at + 1) (room ++ e ∷ []) ≡ asked (at + 1) room ++ e.step ∷ [] =
    subst (λ (n : ℕ). asked n (room ++ e ∷ []) ≡ asked n room ++ e.step ∷ []) from little.asks in
    let now : asked (at + 1) ks ≡ asked (at + 1) js ++ e.step ∷ [] =
    ap (λ (es : List Entry). asked (at + 1) es) more ∙ own ∙ ap (λ (es : List Entry). asked (at + 1) es ++ e.step ∷ []) same in
    let long = ap (λ (ss : List Step). length ss) now ∙ length-append (asked (at + 1) js) (e.step ∷ []) in record {
      own = omega (arith, long);
      others = λ k ne.
          ap (λ (es : List Entry). asked (k + 1) es) more ∙ little.asks_none (k + 1) (λ h. ne (omega (arith, h, from)))
          ∙ ap (λ (es : List Entry). asked (k + 1) es) same;
    }

pub at_most_one : (at : ℕ) (js ks : List Entry) → NoneAsks js ks → OneAsks at js ks
at_most_one at js ks none =
    let long = ap (λ (ss : List Step). length ss) (none at) in
    record { own = omega (arith, long); others = λ k ne. none k }

pub none_then_one : (at : ℕ) (js ks ls : List Entry) → NoneAsks js ks → OneAsks at ks ls → OneAsks at js ls
none_then_one at js ks ls none one =
    let long = ap (λ (ss : List Step). length ss) (none at) in
    let own = one.own in
    record { own = omega (arith, long, own); others = λ k ne. one.others k ne ∙ none k }

-- below a place each node has asked once at most, and from there on none
pub record AskedBelow (at : ℕ) (js ks : List Entry) : Type 0 where
  pub below : (k : ℕ) → k < at → length (asked (k + 1) ks) ≤ length (asked (k + 1) js) + 1
  pub above : (k : ℕ) → at ≤ k → asked (k + 1) ks ≡ asked (k + 1) js

pub asked_first : (js : List Entry) → AskedBelow 0 js js
asked_first js = record { below = λ k lt. absurd (omega (arith, lt)); above = λ k le. refl }

pub asked_more : (at : ℕ) (js ks ls : List Entry) → AskedBelow at js ks → OneAsks at ks ls → AskedBelow (at + 1) js ls
asked_more at js ks ls before one = record {
  below = λ k lt.
      elim (cases_eq k at) [
        | inl e ↦
            let long = ap (λ (ss : List Step). length ss) (before.above at (omega arith)) in
            let own = one.own in
            let here : length (asked (at + 1) ls) ≤ length (asked (at + 1) js) + 1 = omega (arith, long, own) in
            subst (λ (m : ℕ). length (asked (m + 1) ls) ≤ length (asked (m + 1) js) + 1) (sym e) here
        | inr ne ↦
            let long = ap (λ (ss : List Step). length ss) (one.others k ne) in
            let was = before.below k (omega (arith, lt, ne)) in
            omega (arith, long, was)
      ];
  above = λ k le. one.others k (λ e. omega (arith, le, e)) ∙ before.above k (omega (arith, le));
}

pub asked_each : (at : ℕ) (js ks : List Entry) → AskedBelow at js ks → EachAsksOnce js ks
asked_each at js ks asks node some =
    let is : node - 1 + 1 ≡ node = omega (arith, some) in
    subst (λ (m : ℕ). length (asked m ks) ≤ length (asked m js) + 1) is
    (elim (below_or (node - 1) at) [
      | inl lt ↦ asks.below (node - 1) lt
      | inr le ↦ (let long = ap (λ (ss : List Step). length ss) (asks.above (node - 1) le) in omega (arith, long))
    ])
  where
    below_or : (m n : ℕ) → (m < n) ⊎ (n ≤ m)
    below_or m n = cases_lt m n
