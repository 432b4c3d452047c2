-- What the hub knows of its nodes' rings lasts.
use Rattle.std.proofs.Common.{◌≡◌, ◌+◌, ◌-◌, ◌<◌, ◌≤◌, ◌++◌, ℕ, zero, suc, List, [], ◌∷◌, ap, ap₂, append-nil}
use Rattle.std.proofs.Common.{append_assoc, arith, get_or, get_or-set_other, get_or-set_same, inl, inr, length, map}
use Rattle.std.proofs.Common.{refl, set, subst, sym, ◌∙◌}
use Rattle.std.proofs.lemmas.Bool.{cases_eq}
use Rattle.std.proofs.lemmas.List.{get_or-map, get_or_default, length-append, length-map, map-append}
use mathlib.Core.List.{IsPrefix}
use Rattle.vlm_words.specs.declared.steps.Step.{Step}
use Rattle.vlm_journal.specs.declared.entries.Entry.{Entry}
use Rattle.vlm_journal.specs.declared.entries.Item.{Item}
use Rattle.vlm_journal.specs.Told.{asked, told}
use Rattle.vlm_journal.proofs.Lists.{prefix_behind, prefix_then}
use Rattle.vlm_ports.specs.declared.node_rings.NodeRings.{NodeRings}
use Rattle.vlm_ports.specs.Links.{AreLinked, Base, Lasts, front, has_taken, has_told, knows, node_rings_base, node_rings_identity, no_base, places}
use Rattle.vlm_ports.specs.Rings.{RingName}

-- ---- lists that begin others

prefix_same : {X : Type 0} (xs : List X) → IsPrefix xs xs
prefix_same xs = ([], append-nil xs)

pub prefix_map : {X Y : Type 0} (f : X → Y) (xs ys : List X) → IsPrefix xs ys → IsPrefix (map f xs) (map f ys)
prefix_map f xs ys h = (map f h.0, sym (map-append f xs h.0) ∙ ap (map f) h.1)

-- what is taken and what is known are together what they were
taken_one : {X : Type 0} (ro ko rn kn : List X) (x : X) → rn ≡ ro ++ x ∷ [] → ko ≡ x ∷ kn → ro ++ ko ≡ rn ++ kn
taken_one ro ko rn kn x r k = ap (λ (l : List _). ro ++ l) k ∙ sym (append_assoc ro (x ∷ []) kn) ∙ ap (λ (l : List _). l ++ kn) (sym r)

pub mapped_one : {X Y : Type 0} (f : X → Y) (ro ko rn kn : List X) (x : X) → rn ≡ ro ++ x ∷ [] → ko ≡ x ∷ kn → map f ro ++ map f ko ≡ map f rn ++ map f kn
mapped_one f ro ko rn kn x r k = sym (map-append f ro ko) ∙ ap (map f) (taken_one ro ko rn kn x r k) ∙ map-append f rn kn

-- the first that is known is taken
pub taken_first : {X Y : Type 0} (f : X → Y) (ro ko rn kn : List X) (x : X) → rn ≡ ro ++ x ∷ [] → ko ≡ x ∷ kn
    → (y : Y) → IsPrefix (y ∷ []) (map f ko) → map f rn ≡ map f ro ++ y ∷ []
taken_first f ro ko rn kn x r k y first =
    let is : y ≡ f x = ap (λ (l : List _). get_or l 0 y) (first.1 ∙ ap (map f) k) in
    ap (map f) r ∙ map-append f ro (x ∷ []) ∙ ap (λ (z : _). map f ro ++ z ∷ []) (sym is)

-- ---- one line

pub lasts_still : (l : NodeRings) → Lasts l l
lasts_still l = record { posts = prefix_same (has_taken l ++ knows l); places = omega arith }

pub lasts_then : (a b c : NodeRings) → Lasts a b → Lasts b c → Lasts a c
lasts_then a b c first then = record {
  posts = prefix_then (has_taken a ++ knows a) (has_taken b ++ knows b) (has_taken c ++ knows c) first.posts then.posts;
  places = let m = first.places in let n = then.places in omega (arith, m, n);
}

-- more is known
pub lasts_more : (was l : NodeRings) → has_taken l ≡ has_taken was → IsPrefix (knows was) (knows l)
    → has_told l ≡ has_told was → places was ≤ places l → Lasts was l
lasts_more was l taken known told more = record {
  posts = subst (λ (ss : List Step). IsPrefix (has_taken was ++ knows was) (ss ++ knows l)) (sym taken)
      (prefix_behind (has_taken was) (knows was) (knows l) known);
  places = let long = ap (λ (xs : List Item). length xs) told in omega (arith, long, more);
}

-- more places are known
pub lasts_free : (was l : NodeRings) → has_taken l ≡ has_taken was → knows l ≡ knows was → has_told l ≡ has_told was → places was ≤ places l → Lasts was l
lasts_free was l taken known told more =
    lasts_more was l taken (subst (λ (ss : List Step). IsPrefix (knows was) ss) (sym known) (prefix_same (knows was))) told more

-- a post is taken
pub lasts_taken : (was l : NodeRings) → has_taken was ++ knows was ≡ has_taken l ++ knows l → has_told l ≡ has_told was → places l ≡ places was → Lasts was l
lasts_taken was l posts told same = record {
  posts = ([], append-nil (has_taken was ++ knows was) ∙ posts);
  places = let long = ap (λ (xs : List Item). length xs) told in omega (arith, long, same);
}

-- an item is sent
pub lasts_sent : (was l : NodeRings) (item : Item) → has_taken l ≡ has_taken was → knows l ≡ knows was
    → has_told l ≡ has_told was ++ item ∷ [] → places was ≡ places l + 1 → Lasts was l
lasts_sent was l item taken known told fewer = record {
  posts = ([], append-nil (has_taken was ++ knows was) ∙ ap₂ (λ (x y : List Step). x ++ y) (sym taken) (sym known));
  places =
      let long : length (has_told l) ≡ length (has_told was) + 1 = ap (λ (xs : List Item). length xs) told ∙ length-append (has_told was) (item ∷ []) in
      omega (arith, long, fewer);
}

-- ---- all lines

-- one of them is written back
pub lasts_at : (ls : List NodeRings) (at : ℕ) (l was : NodeRings) → at < length ls → was ≡ get_or ls at was → Lasts was l
    → (k : ℕ) (d : NodeRings) → Lasts (get_or ls k d) (get_or (set ls at l) k d)
lasts_at ls at l was lt is lasts k d =
    elim (cases_eq k at) [
      | inl e ↦
          let P : ℕ → Type 0 = λ m. Lasts (get_or ls m d) (get_or (set ls at l) m d) in
          let here : Lasts (get_or ls at d) l = subst (λ (x : NodeRings). Lasts x l) (is ∙ get_or_default ls at was d lt) lasts in
          subst P (sym e) (subst (λ (x : NodeRings). Lasts (get_or ls at d) x) (sym (get_or-set_same ls at l d lt)) here)
      | inr ne ↦ subst (λ (x : NodeRings). Lasts (get_or ls k d) x) (sym (get_or-set_other ls at k l d ne)) (lasts_still (get_or ls k d))
    ]

-- all of them, and all again
abbrev pub EachLasts : List NodeRings → List NodeRings → Type 0
EachLasts ls ms = (k : ℕ) (d : NodeRings) → Lasts (get_or ls k d) (get_or ms k d)

pub all_node_rings_still : (ls : List NodeRings) → EachLasts ls ls
all_node_rings_still ls k d = lasts_still (get_or ls k d)

pub all_node_rings_then : (ls ms ns : List NodeRings) → EachLasts ls ms → EachLasts ms ns → EachLasts ls ns
all_node_rings_then ls ms ns first then k d = lasts_then (get_or ls k d) (get_or ms k d) (get_or ns k d) (first k d) (then k d)

-- what is read of the lines at another place
pub at_other : {Y : Type 0} (f : NodeRings → Y) (ls : List NodeRings) (at : ℕ) (l : NodeRings) (m : ℕ) (e : Y)
    → (m ≡ at → ⊥) → get_or (map f (set ls at l)) m e ≡ get_or (map f ls) m e
at_other f [] at l m e ne = refl
at_other f (x ∷ xs) zero l zero e ne = absurd (ne refl)
at_other f (x ∷ xs) zero l (suc m) e ne = refl
at_other f (x ∷ xs) (suc at) l zero e ne = refl
at_other f (x ∷ xs) (suc at) l (suc m) e ne = at_other f xs at l m e (λ h. ne (ap suc h))

-- ---- a node

some_node_rings : (ls : List NodeRings) → 0 < length ls → NodeRings
some_node_rings [] lt = absurd (omega (arith, lt))
some_node_rings (l ∷ ls) lt = l

-- what a line has taken and sent is what its node asked for and is told
made_is : (ls : List NodeRings) (js : List Entry) → AreLinked ls js → (node : ℕ) → 0 < node → (d : NodeRings) → node - 1 < length ls
    → (has_taken (get_or ls (node - 1) d) ≡ (get_or (map (node_rings_base js) ls) (node - 1) no_base).asked_before ++ asked node js)
    × (has_told (get_or ls (node - 1) d) ≡ (get_or (map (node_rings_base js) ls) (node - 1) no_base).told_before ++ told node js)
made_is ls js linked node some d lt =
    let l = get_or ls (node - 1) d in
    let here = linked (node - 1) d lt in
    let is : node - 1 + 1 ≡ node = omega (arith, some) in
    let same : l.node ≡ node = here.node ∙ is in
    let P : ℕ → Type 0 = λ n. (has_taken l ≡ front (has_taken l) (asked n js) ++ asked node js)
    × (has_told l ≡ front (has_told l) (told n js) ++ told node js) in
    let Q : ℕ → Type 0 = λ n. (has_taken l ≡ front (has_taken l) (asked n js) ++ asked n js) × (has_told l ≡ front (has_told l) (told n js) ++ told n js) in
    let both : P l.node = subst P (sym same) (subst Q is (here.taken, here.told)) in
    subst (λ (b : Base). (has_taken l ≡ b.asked_before ++ asked node js) × (has_told l ≡ b.told_before ++ told node js))
    (sym (get_or-map (node_rings_base js) ls (node - 1) d no_base lt)) both

-- the posts of a node that are known, and the places of items
abbrev pub known_of : List NodeRings → List Entry → ℕ → List Step
known_of ls js node = ((get_or (map (node_rings_base js) ls) (node - 1) no_base).asked_before ++ asked node js) ++ get_or (map knows ls) (node - 1) []

abbrev pub places_of : List NodeRings → List Entry → ℕ → ℕ
places_of ls js node = length ((get_or (map (node_rings_base js) ls) (node - 1) no_base).told_before ++ told node js) + get_or (map places ls) (node - 1) 0

posts_are : (ls : List NodeRings) (js : List Entry) → AreLinked ls js → (node : ℕ) → 0 < node → (d : NodeRings) → node - 1 < length ls
    → has_taken (get_or ls (node - 1) d) ++ knows (get_or ls (node - 1) d) ≡ known_of ls js node
posts_are ls js linked node some d lt =
    ap₂ (λ (x y : List Step). x ++ y) (made_is ls js linked node some d lt).0 (sym (get_or-map knows ls (node - 1) d [] lt))

places_are : (ls : List NodeRings) (js : List Entry) → AreLinked ls js → (node : ℕ) → 0 < node → (d : NodeRings) → node - 1 < length ls
    → length (has_told (get_or ls (node - 1) d)) + places (get_or ls (node - 1) d) ≡ places_of ls js node
places_are ls js linked node some d lt =
    ap₂ (λ (x y : ℕ). x + y) (ap (λ (xs : List Item). length xs) (made_is ls js linked node some d lt).1) (sym (get_or-map places ls (node - 1) d 0 lt))

-- what lasts of each line lasts of each node
pub known_kept : (ls ms : List NodeRings) (js ks : List Entry) → AreLinked ls js → AreLinked ms ks
    → map node_rings_identity ms ≡ map node_rings_identity ls → EachLasts ls ms
    → (node : ℕ) → 0 < node → node ≤ length ls → IsPrefix (known_of ls js node) (known_of ms ks node) × (places_of ls js node ≤ places_of ms ks node)
known_kept ls ms js ks linked now same last node some within =
    let long : length ms ≡ length ls = sym (length-map ms node_rings_identity)
    ∙ ap (λ (rs : List (ℕ × RingName × RingName)). length rs) same ∙ length-map ls node_rings_identity in
    let lt : node - 1 < length ls = omega (arith, some, within) in
    let there : node - 1 < length ms = omega (arith, lt, long) in
    let d = some_node_rings ls (omega (arith, lt)) in
    let lasts = last (node - 1) d in
    let more = lasts.places in
    let first = places_are ls js linked node some d lt in let then = places_are ms ks now node some d there in (
      subst (λ (ss : List Step). IsPrefix ss (known_of ms ks node)) (posts_are ls js linked node some d lt)
          (subst (λ (ss : List Step). IsPrefix
          (has_taken (get_or ls (node - 1) d) ++ knows (get_or ls (node - 1) d)) ss)
          (posts_are ms ks now node some d there) lasts.posts),
      omega (arith, first, then, more),
    )

-- of the nodes whose line is not written back what is known is what was known
pub others_last : (ls : List NodeRings) (at own : ℕ) (l : NodeRings) → own ≡ at + 1 → (node : ℕ) → 0 < node → (node ≡ own → ⊥)
    → (get_or (map knows (set ls at l)) (node - 1) [] ≡ get_or (map knows ls) (node - 1) [])
    × (get_or (map places (set ls at l)) (node - 1) 0 ≡ get_or (map places ls) (node - 1) 0)
others_last ls at own l here node some other =
    let ne : node - 1 ≡ at → ⊥ = λ h. other (omega (arith, h, here, some)) in
    (at_other knows ls at l (node - 1) [] ne, at_other places ls at l (node - 1) 0 ne)
