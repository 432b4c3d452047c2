-- One line of the hub changes, as the journal grows.
use Rattle.std.proofs.Common.{◌≡◌, ◌≢◌, ◌+◌, ◌-◌, ◌/◌, ◌<◌, ◌≤◌, ◌⊎◌, ℕ, List, [], ◌∷◌, ◌++◌, refl, ap, ◌∙◌, sym, subst}
use Rattle.std.proofs.Common.{append-nil, arith, length, map, get_or, set, length-set, get_or-set_same}
use Rattle.std.proofs.Common.{get_or-set_other, inl, inr, Some}
use Rattle.std.proofs.Math.Seq.{map-set_same}
use Rattle.std.proofs.lemmas.Bool.{cases_eq}
use Rattle.std.proofs.lemmas.List.{get_or-map, get_or_default, length-map}
use Rattle.std.proofs.lemmas.Option.{slice_get_within}
use Rattle.std.specs.List.{slice_get}
use Rattle.vlm_words.specs.declared.asts.Ast.{Ast}
use Rattle.vlm_words.specs.declared.steps.Answer.TheVariants.{Taken}
use Rattle.vlm_words.specs.declared.steps.Answer.{Answer}
use Rattle.vlm_words.specs.declared.steps.Step.TheVariants.{Leave, Take}
use Rattle.vlm_words.specs.declared.steps.Step.{Step}
use Rattle.vlm_journal.specs.declared.entries.Entry.{Entry}
use Rattle.vlm_journal.specs.declared.entries.Item.TheVariants.{Answer as answer_item, Ast as ast_item}
use Rattle.vlm_journal.specs.declared.entries.Item.{Item}
use Rattle.vlm_journal.specs.Lengthening.{LengthensLittle}
use Rattle.vlm_journal.specs.Told.{asked, told}
use Rattle.vlm_ports.specs.declared.node_rings.NodeRings.{NodeRings}
use Rattle.vlm_ports.specs.Links.{AreFresh, AreLinked, Base, IsLinked, front, has_taken, has_told, node_rings_base, node_rings_identity, no_base}
use Rattle.vlm_ports.specs.Rings.{RingName}
use Rattle.vlm_ports.proofs.Fronts.{ends_with_none, front_all, front_stays, same_maps, still_ends}

-- ---- places

-- the rings stay
pub rings_set : (ls : List NodeRings) (at : ℕ) (l was : NodeRings) → was ≡ get_or ls at was
    → node_rings_identity l ≡ node_rings_identity was
    → map node_rings_identity (set ls at l) ≡ map node_rings_identity ls
rings_set ls at l was is same = map-set_same node_rings_identity ls at l was (same ∙ ap node_rings_identity is)

pub node_rings_within : (ls : List NodeRings) (at : ℕ) (r : ℕ × RingName × RingName) → slice_get (map node_rings_identity ls) at ≡ Some r → at < length ls
node_rings_within ls at r is = let w = slice_get_within (map node_rings_identity ls) at r is in omega (arith, length-map ls node_rings_identity)

-- ---- one line

-- what a line has taken and sent more is what its node has asked for and is told more
pub record HasMore (k : ℕ) (l was : NodeRings) (js ks : List Entry) : Type 0 where
  pub same : node_rings_identity l ≡ node_rings_identity was
  pub steps : List Step
  pub items : List Item
  pub taken : has_taken l ≡ has_taken was ++ steps
  pub asks : asked (k + 1) ks ≡ asked (k + 1) js ++ steps
  pub sent : has_told l ≡ has_told was ++ items
  pub tells : told (k + 1) ks ≡ told (k + 1) js ++ items

abbrev base_of : List Step → List Item → Base
base_of steps items = record { asked_before = steps; told_before = items }

same_base : (a b : List Step) (c d : List Item) → a ≡ b → c ≡ d
    → base_of a c ≡ base_of b d
same_base a b c d steps items = ap (λ (x : List Step). base_of x c) steps ∙ ap (λ (y : List Item). base_of b y) items

module _ (k : ℕ) (l was : NodeRings) (js ks : List Entry) (linked : IsLinked k was js) (more : HasMore k l was js ks) where
  node_is : l.node ≡ k + 1
  node_is = ap (λ (i : ℕ × RingName × RingName). i.0) more.same ∙ linked.node

  linked_more : IsLinked k l ks
  linked_more = record {
    node = node_is;
    taken = still_ends (has_taken was) (has_taken l) (asked (k + 1) js) (asked (k + 1) ks) more.steps linked.taken more.taken more.asks;
    told = still_ends (has_told was) (has_told l) (told (k + 1) js) (told (k + 1) ks) more.items linked.told more.sent more.tells;
  }

  base_stays : node_rings_base ks l ≡ node_rings_base js was
  base_stays =
      same_base (front (has_taken l) (asked l.node ks)) (front (has_taken was) (asked was.node js))
      (front (has_told l) (told l.node ks)) (front (has_told was) (told was.node js))
      (ap (λ (n : ℕ). front (has_taken l) (asked n ks)) node_is
      ∙ front_stays (has_taken was) (has_taken l) (asked (k + 1) js) (asked (k + 1) ks) more.steps linked.taken more.taken more.asks
      ∙ ap (λ (n : ℕ). front (has_taken was) (asked n js)) (sym linked.node))
      (ap (λ (n : ℕ). front (has_told l) (told n ks)) node_is
      ∙ front_stays (has_told was) (has_told l) (told (k + 1) js) (told (k + 1) ks) more.items linked.told more.sent more.tells
      ∙ ap (λ (n : ℕ). front (has_told was) (told n js)) (sym linked.node))

-- a line that has taken and sent nothing more
pub none_more : (k : ℕ) (l was : NodeRings) (js ks : List Entry) → node_rings_identity l ≡ node_rings_identity was
    → has_taken l ≡ has_taken was → has_told l ≡ has_told was
    → asked (k + 1) ks ≡ asked (k + 1) js → told (k + 1) ks ≡ told (k + 1) js → HasMore k l was js ks
none_more k l was js ks same taken sent asks tells = record {
  same = same;
  steps = [];
  items = [];
  taken = taken ∙ sym (append-nil (has_taken was));
  asks = asks ∙ sym (append-nil (asked (k + 1) js));
  sent = sent ∙ sym (append-nil (has_told was));
  tells = tells ∙ sym (append-nil (told (k + 1) js));
}

-- ---- all lines

-- nobody but the node at a place asks for more or is told more
abbrev pub OthersStay : ℕ → List Entry → List Entry → Type 0
OthersStay at js ks = (k : ℕ) → k ≢ at → (asked (k + 1) ks ≡ asked (k + 1) js) × (told (k + 1) ks ≡ told (k + 1) js)

-- all lines are linked to the longer journal, and what was taken and sent before stays
pub record Follow (ls now : List NodeRings) (js ks : List Entry) : Type 0 where
  pub linked : AreLinked now ks
  pub bases : map (node_rings_base ks) now ≡ map (node_rings_base js) ls

module _ (ls : List NodeRings) (js ks : List Entry) (linked : AreLinked ls js) where
  -- a line of which nobody asks for more
  unasked : (k : ℕ) (d : NodeRings) → k < length ls → (asked (k + 1) ks ≡ asked (k + 1) js) × (told (k + 1) ks ≡ told (k + 1) js)
      → IsLinked k (get_or ls k d) ks × (node_rings_base ks (get_or ls k d) ≡ node_rings_base js (get_or ls k d))
  unasked k d within stays =
      let l = get_or ls k d in
      let more = none_more k l l js ks refl refl refl stays.0 stays.1 in
      (linked_more k l l js ks (linked k d within) more, base_stays k l l js ks (linked k d within) more)

  module _ (at : ℕ) (l was : NodeRings) (lt : at < length ls) (is : was ≡ get_or ls at was) (more : HasMore at l was js ks) (others : OthersStay at js ks) where
    was_linked : IsLinked at was js
    was_linked = let P : NodeRings → Type 0 = λ x. IsLinked at x js in subst P (sym is) (linked at was lt)

    by_place : (k : ℕ) (d : NodeRings) → k < length ls
        → IsLinked k (get_or (set ls at l) k d) ks × (node_rings_base ks (get_or (set ls at l) k d) ≡ node_rings_base js (get_or ls k d))
    by_place k d within =
        elim (cases_eq k at) [
          | inl e ↦
              let P : ℕ → Type 0 = λ m. IsLinked m (get_or (set ls at l) m d) ks
              × (node_rings_base ks (get_or (set ls at l) m d) ≡ node_rings_base js (get_or ls m d)) in
              let Q : NodeRings → Type 0 = λ x. IsLinked at x ks × (node_rings_base ks x ≡ node_rings_base js (get_or ls at d)) in
              subst P (sym e) (subst Q (sym (get_or-set_same ls at l d lt)) (
                linked_more at l was js ks was_linked more,
                base_stays at l was js ks was_linked more
                    ∙ ap (node_rings_base js) (is ∙ get_or_default ls at was d lt),
              ))
          | inr ne ↦
              let Q : NodeRings → Type 0 = λ x. IsLinked k x ks × (node_rings_base ks x ≡ node_rings_base js (get_or ls k d)) in
              subst Q (sym (get_or-set_other ls at k l d ne)) (unasked k d within (others k ne))
        ]

    pub set_follows : Follow ls (set ls at l) js ks
    set_follows = record {
      linked = λ k d within. (by_place k d (let long = length-set ls at l in omega (arith, long, within))).0;
      bases = same_maps (node_rings_base ks) (node_rings_base js) (set ls at l) ls (length-set ls at l) (λ k d within. (by_place k d within).1);
    }

  -- no line changes, and nobody asks for more
  pub all_follow : ((k : ℕ) → (asked (k + 1) ks ≡ asked (k + 1) js) × (told (k + 1) ks ≡ told (k + 1) js)) → Follow ls ls js ks
  all_follow stays = record {
    linked = λ k d within. (unasked k d within (stays k)).0;
    bases = same_maps (node_rings_base ks) (node_rings_base js) ls ls refl (λ k d within. (unasked k d within (stays k)).1);
  }

-- ---- entries

-- a post of the node is served
pub served_more : (at : ℕ) (l was : NodeRings) (js : List Entry) (e : Entry) → LengthensLittle js e → e.sender ≡ at + 1
    → node_rings_identity l ≡ node_rings_identity was
    → has_taken l ≡ has_taken was ++ e.step ∷ [] → has_told l ≡ has_told was ++ answer_item e.answer ∷ [] → HasMore at l was js (js ++ e ∷ [])
served_more at l was js e little from same taken sent =
    let some : 0 < e.sender = omega (arith, from) in
    let both = little.answers some in
    let one_some : 0 < little.one = (let o = both.0 in omega (arith, o, some)) in record {
      same = same;
      steps = e.step ∷ [];
      items = answer_item e.answer ∷ [];
      taken = taken;
      asks = subst (λ (n : ℕ). asked n (js ++ e ∷ []) ≡ asked n js ++ e.step ∷ []) from little.asks;
      sent = sent;
      tells =
          subst (λ (n : ℕ). told n (js ++ e ∷ []) ≡ told n js ++ little.items) (both.0 ∙ from) (little.tells one_some)
          ∙ ap (λ (xs : List Item). told (at + 1) js ++ xs) both.1;
    }

-- an AST of a process of the node is taken
abbrev pub delivery : ℕ → Ast → Entry
delivery pid ast = record { sender = 0; step = Take pid; answer = Taken (Some ast) }

pub delivered_more : (at : ℕ) (l was : NodeRings) (js : List Entry) (pid : ℕ) (ast : Ast) → LengthensLittle js (delivery pid ast) → pid / 65536 ≡ at + 1
    → node_rings_identity l ≡ node_rings_identity was → has_taken l ≡ has_taken was → has_told l ≡ has_told was ++ ast_item pid ast ∷ []
    → HasMore at l was js (js ++ delivery pid ast ∷ [])
delivered_more at l was js pid ast little to same taken sent =
    let both = little.takes pid ast refl refl in
    let one_some : 0 < little.one = (let o = both.0 ∙ to in omega (arith, o)) in record {
      same = same;
      steps = [];
      items = ast_item pid ast ∷ [];
      taken = taken ∙ sym (append-nil (has_taken was));
      asks = little.asks_none (at + 1) (λ h. omega (arith, h)) ∙ sym (append-nil (asked (at + 1) js));
      sent = sent;
      tells =
          subst (λ (n : ℕ). told n (js ++ delivery pid ast ∷ []) ≡ told n js ++ little.items) (both.0 ∙ to) (little.tells one_some)
          ∙ ap (λ (xs : List Item). told (at + 1) js ++ xs) both.1;
    }

-- the other nodes
others_of : (at : ℕ) (js : List Entry) (e : Entry) (little : LengthensLittle js e) → little.one ≡ at + 1
    → (e.sender ≡ 0) ⊎ (e.sender ≡ at + 1) → OthersStay at js (js ++ e ∷ [])
others_of at js e little to from k ne = (
  little.asks_none (k + 1) (λ h. elim from [ inl z ↦ absurd (omega (arith, h, z)) | inr s ↦ ne (omega (arith, h, s)) ]),
  little.tells_none (k + 1) (omega arith) (λ h. ne (omega (arith, h, to))),
)

pub others_of_served : (at : ℕ) (js : List Entry) (e : Entry) → LengthensLittle js e → e.sender ≡ at + 1 → OthersStay at js (js ++ e ∷ [])
others_of_served at js e little from =
    let some : 0 < e.sender = omega (arith, from) in
    others_of at js e little ((little.answers some).0 ∙ from) (inr from)

pub others_of_delivered : (at : ℕ) (js : List Entry) (pid : ℕ) (ast : Ast) → LengthensLittle js (delivery pid ast)
    → pid / 65536 ≡ at + 1 → OthersStay at js (js ++ delivery pid ast ∷ [])
others_of_delivered at js pid ast little to = others_of at js (delivery pid ast) little ((little.takes pid ast refl refl).0 ∙ to) (inl refl)

-- a node is lost
abbrev pub leaving : ℕ → Answer → Entry
leaving node answer = record { sender = 0; step = Leave node; answer = answer }

pub lost_stays : (js : List Entry) (e : Entry) (node : ℕ) → LengthensLittle js e → e.sender ≡ 0 → e.step ≡ Leave node → (k : ℕ)
    → (asked (k + 1) (js ++ e ∷ []) ≡ asked (k + 1) js) × (told (k + 1) (js ++ e ∷ []) ≡ told (k + 1) js)
lost_stays js e node little from step k = (
  little.asks_none (k + 1) (λ h. omega (arith, h, from)),
  elim (cases_eq (k + 1) little.one) [
    | inl same ↦
        subst (λ (n : ℕ). told n (js ++ e ∷ []) ≡ told n js) (sym same)
        (little.tells (omega (arith, same))
        ∙ ap (λ (xs : List Item). told little.one js ++ xs) (little.leaves node from step)
        ∙ append-nil (told little.one js))
    | inr other ↦ little.tells_none (k + 1) (omega arith) other
  ],
)

-- the line at a place is that of its node
pub node_at : (ls : List NodeRings) (js : List Entry) (at : ℕ) (l was : NodeRings) → AreLinked ls js → at < length ls
    → was ≡ get_or ls at was → node_rings_identity l ≡ node_rings_identity was → l.node ≡ at + 1
node_at ls js at l was linked lt is same =
    let P : NodeRings → Type 0 = λ x. x.node ≡ at + 1 in
    ap (λ (i : ℕ × RingName × RingName). i.0) same ∙ subst P (sym is) (linked at was lt).node

-- a line that has taken and sent nothing more, at the same journal
pub set_same : (ls : List NodeRings) (js : List Entry) (at : ℕ) (l was : NodeRings) → AreLinked ls js → at < length ls → was ≡ get_or ls at was
    → node_rings_identity l ≡ node_rings_identity was → has_taken l ≡ has_taken was → has_told l ≡ has_told was → Follow ls (set ls at l) js js
set_same ls js at l was linked lt is same taken sent =
    set_follows ls js js linked at l was lt is (none_more at l was js js same taken sent refl refl) (λ k ne. (refl, refl))

-- the journal in which there is room, with an entry more
longer : (js room ks : List Entry) (e : Entry) → room ≡ js → ks ≡ room ++ e ∷ [] → ks ≡ js ++ e ∷ []
longer js room ks e same is = is ∙ ap (λ (es : List Entry). es ++ e ∷ []) same

-- an AST is sent
pub delivered_follows : (ls : List NodeRings) (js room ks : List Entry) (at : ℕ) (l was : NodeRings) (pid : ℕ)
    (ast : Ast) → AreLinked ls js → at < length ls → was ≡ get_or ls at was
    → room ≡ js → LengthensLittle room (delivery pid ast) → ks ≡ room ++ delivery pid ast ∷ [] → pid / 65536 ≡ at + 1
    → node_rings_identity l ≡ node_rings_identity was → has_taken l ≡ has_taken was → has_told l ≡ has_told was ++ ast_item pid ast ∷ []
    → Follow ls (set ls at l) js ks
delivered_follows ls js room ks at l was pid ast linked lt is same little more to ring taken sent =
    let here : LengthensLittle js (delivery pid ast) = subst (λ (es : List Entry). LengthensLittle es (delivery pid ast)) same little in
    subst (λ (es : List Entry). Follow ls (set ls at l) js es) (sym (longer js room ks (delivery pid ast) same more))
    (set_follows ls js (js ++ delivery pid ast ∷ []) linked at l was lt is
    (delivered_more at l was js pid ast here to ring taken sent) (others_of_delivered at js pid ast here to))

-- a post is answered
pub served_follows : (ls : List NodeRings) (js room ks : List Entry) (at : ℕ) (l was : NodeRings) (e : Entry)
    → AreLinked ls js → at < length ls → was ≡ get_or ls at was
    → room ≡ js → LengthensLittle room e → ks ≡ room ++ e ∷ [] → e.sender ≡ at + 1
    → node_rings_identity l ≡ node_rings_identity was → has_taken l ≡ has_taken was ++ e.step ∷ [] → has_told l ≡ has_told was ++ answer_item e.answer ∷ []
    → Follow ls (set ls at l) js ks
served_follows ls js room ks at l was e linked lt is same little more from ring taken sent =
    let here : LengthensLittle js e = subst (λ (es : List Entry). LengthensLittle es e) same little in
    subst (λ (es : List Entry). Follow ls (set ls at l) js es) (sym (longer js room ks e same more))
    (set_follows ls js (js ++ e ∷ []) linked at l was lt is (served_more at l was js e here from ring taken sent) (others_of_served at js e here from))

-- a node is lost
pub lost_follows : (ls : List NodeRings) (js room ks : List Entry) (node : ℕ) (answer : Answer) → AreLinked ls js
    → room ≡ js → LengthensLittle room (leaving node answer) → ks ≡ room ++ leaving node answer ∷ [] → Follow ls ls js ks
lost_follows ls js room ks node answer linked same little more =
    let here : LengthensLittle js (leaving node answer) = subst (λ (es : List Entry). LengthensLittle es (leaving node answer)) same little in
    subst (λ (es : List Entry). Follow ls ls js es) (sym (longer js room ks (leaving node answer) same more))
    (all_follow ls js (js ++ leaving node answer ∷ []) linked (lost_stays js (leaving node answer) node here refl refl))

-- ---- a cut

-- behind a cut each line is linked to nothing
pub cut_linked : (ls : List NodeRings) (js : List Entry) → AreLinked ls js → AreLinked ls []
cut_linked ls js linked k d within = record {
  node = (linked k d within).node;
  taken = ends_with_none (has_taken (get_or ls k d));
  told = ends_with_none (has_told (get_or ls k d));
}

pub fresh_linked : (ls : List NodeRings) → AreFresh ls → AreLinked ls []
fresh_linked ls fresh k d within = record {
  node = (fresh k d within).0;
  taken = ends_with_none (has_taken (get_or ls k d));
  told = ends_with_none (has_told (get_or ls k d));
}

-- what is read of all lines at a node
at_node_rings : {Y : Type 0} (f : NodeRings → Y) (x : NodeRings) (xs : List NodeRings) (node : ℕ) (e : Y) → 0 < node
    → node ≤ length (x ∷ xs) → get_or (map f (x ∷ xs)) (node - 1) e ≡ f (get_or (x ∷ xs) (node - 1) x)
at_node_rings f x xs node e some within = get_or-map f (x ∷ xs) (node - 1) x e (omega (arith, some, within))

-- then all that a node asked for and was told stands before
abbrev pub StandsBefore : List NodeRings → List Entry → List Entry → ℕ → Type 0
StandsBefore ls es js node =
    ((get_or (map (node_rings_base es) ls) (node - 1) no_base).asked_before ≡
    (get_or (map (node_rings_base js) ls) (node - 1) no_base).asked_before ++ asked node js)
    × ((get_or (map (node_rings_base es) ls) (node - 1) no_base).told_before ≡
    (get_or (map (node_rings_base js) ls) (node - 1) no_base).told_before ++ told node js)

all_before : (l : NodeRings) (js : List Entry) (k node : ℕ) → node ≡ k + 1 → IsLinked k l js
    → (front (has_taken l) (asked l.node []) ≡ front (has_taken l) (asked l.node js) ++ asked node js)
    × (front (has_told l) (told l.node []) ≡ front (has_told l) (told l.node js) ++ told node js)
all_before l js k node is linked =
    let same : l.node ≡ node = linked.node ∙ sym is in
    let P : ℕ → Type 0 = λ n. (front (has_taken l) [] ≡ front (has_taken l) (asked n js) ++ asked node js)
    × (front (has_told l) [] ≡ front (has_told l) (told n js) ++ told node js) in
    let Q : ℕ → Type 0 = λ n. (front (has_taken l) [] ≡ front (has_taken l) (asked n js) ++ asked n js)
    × (front (has_told l) [] ≡ front (has_told l) (told n js) ++ told n js) in
    subst P (sym same) (subst Q (sym is) (front_all (has_taken l) ∙ linked.taken, front_all (has_told l) ∙ linked.told))

pub cut_before : (ls : List NodeRings) (js : List Entry) → AreLinked ls js → (node : ℕ) → 0 < node → node ≤ length ls → StandsBefore ls [] js node
cut_before [] js linked node some within = absurd (omega (arith, some, within))
cut_before (x ∷ xs) js linked node some within =
    let lt : node - 1 < length (x ∷ xs) = omega (arith, some, within) in
    let l = get_or (x ∷ xs) (node - 1) x in
    let both = all_before l js (node - 1) node (omega (arith, some)) (linked (node - 1) x lt) in
    let now = at_node_rings (node_rings_base []) x xs node no_base some within in
    let then = at_node_rings (node_rings_base js) x xs node no_base some within in
    let P : Base → Base → Type 0 = λ a b. (a.asked_before ≡ b.asked_before ++ asked node js) × (a.told_before ≡ b.told_before ++ told node js) in
    subst (λ (a : Base). P a (get_or (map (node_rings_base js) (x ∷ xs)) (node - 1) no_base)) (sym now)
    (subst (λ (b : Base). P (node_rings_base [] l) b) (sym then) both)

-- at first nothing stands before
pub none_before : (ls : List NodeRings) → AreFresh ls → (node : ℕ) → 0 < node → node ≤ length ls
    → ((get_or (map (node_rings_base []) ls) (node - 1) no_base).asked_before ≡ [])
    × ((get_or (map (node_rings_base []) ls) (node - 1) no_base).told_before ≡ [])
none_before [] fresh node some within = absurd (omega (arith, some, within))
none_before (x ∷ xs) fresh node some within =
    let lt : node - 1 < length (x ∷ xs) = omega (arith, some, within) in
    let l = get_or (x ∷ xs) (node - 1) x in
    let new = fresh (node - 1) x lt in
    subst (λ (a : Base). (a.asked_before ≡ []) × (a.told_before ≡ [])) (sym (at_node_rings (node_rings_base []) x xs node no_base some within))
    (front_all (has_taken l) ∙ new.1, front_all (has_told l) ∙ new.2)

-- ---- a settled port

-- what is read of the lines once one of them is written back
pub at_set : {Y : Type 0} (f : NodeRings → Y) (ls : List NodeRings) (at : ℕ) (l : NodeRings) (m : ℕ) (e : Y) → m ≡ at
    → at < length ls → get_or (map f (set ls at l)) m e ≡ f l
at_set f ls at l m e is lt =
    let P : ℕ → Type 0 = λ n. get_or (map f (set ls at l)) n e ≡ f l in
    subst P (sym is) (get_or-map f (set ls at l) at l e (let long = length-set ls at l in omega (arith, long, lt)) ∙ ap f (get_or-set_same ls at l l lt))

-- what a line has taken and sent is what stands before, and what its node asked for and is told
pub settled_node_rings : (ls : List NodeRings) (js : List Entry) (at : ℕ) (l : NodeRings) (node : ℕ)
    → AreLinked (set ls at l) js → at < length ls → node ≡ at + 1
    → (has_taken l ≡ (get_or (map (node_rings_base js) (set ls at l)) (node - 1) no_base).asked_before ++ asked node js)
    × (has_told l ≡ (get_or (map (node_rings_base js) (set ls at l)) (node - 1) no_base).told_before ++ told node js)
settled_node_rings ls js at l node linked lt is =
    let here : IsLinked at l js = subst (λ (x : NodeRings). IsLinked at x js) (get_or-set_same ls at l l lt)
    (linked at l (let long = length-set ls at l in omega (arith, long, lt))) in
    let same : l.node ≡ node = here.node ∙ sym is in
    let P : ℕ → Type 0 = λ n. (has_taken l ≡ front (has_taken l) (asked n js) ++ asked node js)
    × (has_told l ≡ front (has_told l) (told n js) ++ told node js) in
    let Q : ℕ → Type 0 = λ n. (has_taken l ≡ front (has_taken l) (asked n js) ++ asked n js) × (has_told l ≡ front (has_told l) (told n js) ++ told n js) in
    let both : P l.node = subst P (sym same) (subst Q (sym is) (here.taken, here.told)) in
    subst (λ (b : Base). (has_taken l ≡ b.asked_before ++ asked node js) × (has_told l ≡ b.told_before ++ told node js))
    (sym (at_set (node_rings_base js) ls at l (node - 1) no_base (omega (arith, is)) lt)) both
