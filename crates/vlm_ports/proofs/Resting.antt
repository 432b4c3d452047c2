-- When the hub may idle.
use Rattle.std.proofs.Common.{◌≡◌, ℕ, zero, suc, ◌+◌, ◌-◌, ◌<◌, ◌≤◌, List, [], ◌∷◌, ◌++◌, refl, ap, ◌∙◌, sym, subst}
use Rattle.std.proofs.Common.{append-nil, append_assoc, arith, length, map, get_or, ◌⊎◌, inl, inr, length-append}
use Rattle.std.proofs.lemmas.Bool.{cases_eq}
use Rattle.vlm_journal.specs.declared.entries.Entry.{Entry}
use Rattle.std.specs.Prelude.{None}
use Rattle.std.proofs.lemmas.List.{get_or-map, length-map}
use Rattle.std.proofs.lemmas.List.Elements.{All-append, All-nil}
use Rattle.vlm_words.specs.declared.conditions.Cond.TheVariants.{Departed}
use Rattle.vlm_words.specs.declared.steps.Answer.TheVariants.{Plain}
use Rattle.vlm_model.specs.Pending.{first_pending}
use Rattle.vlm_model.specs.Reasons.{HasDeparted}
use Rattle.vlm_words.specs.State.{State}
use Rattle.vlm_journal.specs.Departed.{StaysDeparted}
use Rattle.vlm_journal.specs.Journals.{JournalFrom, begin}
use Rattle.vlm_journal.proofs.Joining.{join}
use Rattle.vlm_ports.specs.declared.hub.Hub.{Hub}
use Rattle.vlm_ports.specs.declared.node_rings.NodeRings.{NodeRings}
use Rattle.vlm_ports.specs.Rings.{RingName}
use Rattle.vlm_ports.specs.Links.{AreLinked, MayRest, knows, places, node_rings_identity}
use Rattle.vlm_ports.specs.Hubs.{Grew, HubTakesAlone, IsSameBut, MayRestAt, MayIdle, TakesAst, nodes, rings}

-- an entry is one of itself alone
takes_one : (e : Entry) → (e.sender ≡ 0 → TakesAst e) → HubTakesAlone (e ∷ [])
takes_one e takes zero d lt = takes
takes_one e takes (suc k) d lt = absurd (omega (arith, lt))

pub grew_none : (js ks : List Entry) (s t : State) → ks ≡ js → t ≡ s → Grew 0 js s ks t
grew_none js ks s t same stays = record {
  more = [];
  is = same ∙ sym (append-nil js);
  count = refl;
  legal = subst (λ (x : State). JournalFrom s [] x) (sym stays) begin;
  takes = All-nil _;
  departed = λ node gone. record { departed = subst (λ (x : State). HasDeparted x node) (sym stays) gone; told = All-nil _ };
}

pub grew_one : (js room ks : List Entry) (s r t : State) (e : Entry) → room ≡ js → r ≡ s → ks ≡ room ++ e ∷ [] → JournalFrom r (e ∷ []) t
    → ((node : ℕ) → HasDeparted r node → StaysDeparted node (e ∷ []) t) → (e.sender ≡ 0 → TakesAst e) → Grew 1 js s ks t
grew_one js room ks s r t e same stays is leads departed takes = record {
  more = e ∷ [];
  is = is ∙ ap (λ (es : List Entry). es ++ e ∷ []) same;
  count = refl;
  legal = subst (λ (x : State). JournalFrom x (e ∷ []) t) stays leads;
  takes = takes_one e takes;
  departed = λ node gone. departed node (subst (λ (x : State). HasDeparted x node) (sym stays) gone);
}

-- entries behind one another of a node that had departed
stays_on : {node : ℕ} {a b : List Entry} {t u : State} → StaysDeparted node a t → StaysDeparted node b u → StaysDeparted node (a ++ b) u
stays_on {node} {a} {b} first then =
    record {
      departed = then.departed;
      told = All-append (λ (e : Entry). e.sender ≡ node
          → e.answer ≡ Plain Departed) a b first.told then.told;
    }

pub grew_add : {m n : ℕ} {js ks ls : List Entry} {s t u : State} → Grew m js s ks t → Grew n ks t ls u → Grew (m + n) js s ls u
grew_add {m} {n} {js} {ks} {ls} {s} a b = record {
  more = a.more ++ b.more;
  is = b.is ∙ (ap (λ (xs : List Entry). xs ++ b.more) a.is ∙ append_assoc js a.more b.more);
  count = length-append a.more b.more ∙ (ap (λ (x : ℕ). x + length b.more) a.count ∙ ap (λ (x : ℕ). m + x) b.count);
  legal = join s a.more b.more a.legal b.legal;
  takes = All-append (λ (e : Entry). e.sender ≡ 0 → TakesAst e) a.more b.more a.takes b.takes;
  departed = λ node gone. let first = a.departed node gone in stays_on first (b.departed node first.departed);
}

-- the lines below the next place may rest
pub rest_more : (at : ℕ) (a b : Hub) → IsSameBut at a b → ((k : ℕ) → k < at → MayRestAt a k) → MayRestAt b at → (k : ℕ) → k < at + 1 → MayRestAt b k
rest_more at a b same below here k lt d = elim (cases_eq k at) [
  | inl e ↦ let P : ℕ → Type 0 = λ m. MayRestAt b m in subst P (sym e) here d
  | inr ne ↦
      let P : State → Type 0 = λ s. MayRest s (get_or a.all_node_rings.items k d) in
      let Q : NodeRings → Type 0 = λ l. MayRest b.journaled.state l in
      subst Q (sym (same.all_node_rings k d ne)) (subst P (sym same.state) (below k (omega (arith, ne)) d))
]

same_rings : (a b : Hub) → rings a ≡ rings b → nodes a ≡ nodes b
same_rings a b e = sym (length-map a.all_node_rings.items node_rings_identity)
    ∙ (ap (λ (rs : List (ℕ × RingName × RingName)). length rs) e
    ∙ length-map b.all_node_rings.items node_rings_identity)

pub within_rings : (a b : Hub) (at : ℕ) → rings a ≡ rings b → at < nodes b → at < nodes a
within_rings a b at e lt = let n = same_rings a b e in omega arith

may_idle_at : (x : NodeRings) (xs : List NodeRings) (s : State) (js : List Entry) → AreLinked (x ∷ xs) js → (k node : ℕ) → node ≡ k + 1 → k < length (x ∷ xs)
    → MayRest s (get_or (x ∷ xs) k x)
    → (get_or (map places (x ∷ xs)) k 0 ≡ 0) ⊎ ((first_pending node s.processes ≡ None) × (get_or (map knows (x ∷ xs)) k [] ≡ []))
may_idle_at x xs s js linked k node is lt rests = elim rests [
  | inl full ↦ inl (get_or-map places (x ∷ xs) k x 0 lt ∙ full)
  | inr none ↦ inr (
    ap (λ (n : ℕ). first_pending n s.processes) (is ∙ sym (linked k x lt).node) ∙ none.0,
    get_or-map knows (x ∷ xs) k x [] lt ∙ none.1,
  )
]

may_idle_by : (ls : List NodeRings) (s : State) (js : List Entry) → AreLinked ls js → ((k : ℕ) → k < length ls → (d : NodeRings) → MayRest s (get_or ls k d))
    → (node : ℕ) → 0 < node → node ≤ length ls
    → (get_or (map places ls) (node - 1) 0 ≡ 0) ⊎ ((first_pending node s.processes ≡ None) × (get_or (map knows ls) (node - 1) [] ≡ []))
may_idle_by [] s js linked rests node some within = absurd (omega arith)
may_idle_by (x ∷ xs) s js linked rests node some within =
    let lt : node - 1 < length (x ∷ xs) = omega arith in
    may_idle_at x xs s js linked (node - 1) node (omega arith) lt (rests (node - 1) lt x)

-- where each line may rest the hub may idle
pub may_idle : (h : Hub) → AreLinked h.all_node_rings.items h.journaled.entries → ((k : ℕ) → k < nodes h → MayRestAt h k) → MayIdle h
may_idle h linked rests node some within = may_idle_by h.all_node_rings.items h.journaled.state h.journaled.entries linked rests node some within
