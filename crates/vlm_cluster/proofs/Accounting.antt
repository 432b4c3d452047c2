-- The parts and the hub, as it turns and as it is cut.
use Rattle.std.proofs.Common.{◌≡◌, ◌+◌, ◌-◌, ◌<◌, ◌≤◌, ◌^◌, ℕ, List, [], ◌∷◌, ◌++◌, length, min, get_or, take, refl}
use Rattle.std.proofs.Common.{sym, ap, ◌∙◌, subst, append_assoc, append-nil, arith, inl, inr}
use Rattle.std.proofs.Math.Seq.{take-append_seam}
use Rattle.std.proofs.lemmas.List.{length-append, length-map, take-append-le}
use Rattle.std.proofs.lemmas.List.Elements.{All-append, All-nil}
use Rattle.std.proofs.lemmas.Option.{slice_get_within}
use Rattle.vlm_words.specs.declared.steps.Step.{Step}
use Rattle.vlm_model.specs.Reasons.{HasDeparted}
use Rattle.vlm_words.specs.State.{State, start}
use Rattle.vlm_journal.specs.declared.entries.Entry.{Entry}
use Rattle.vlm_journal.specs.declared.entries.Item.{Item}
use Rattle.vlm_journal.specs.declared.entries.Part.{Part}
use Rattle.vlm_journal.specs.Journals.{Journal, JournalFrom, begin}
use Rattle.vlm_journal.specs.Told.{asked, told}
use Rattle.vlm_journal.proofs.Appending.{asked-append, told-append}
use Rattle.vlm_journal.proofs.GoingOn.{counts_on}
use Rattle.vlm_journal.proofs.Joining.{join}
use Rattle.vlm_journal.proofs.Lists.{by_place}
use Rattle.vlm_ports.specs.declared.hub.Hub.{Hub}
use Rattle.vlm_ports.specs.declared.port.Port.{Port}
use Rattle.vlm_ports.specs.Hubs.{Grew, HubTakesAlone, IsNewHub, IsPortOf, TakesAst, asked_before, base, bases, journal, nodes, rings, state, told_before}
use Rattle.vlm_ports.specs.Links.{Base, no_base, node_rings_identity}
use Rattle.vlm_ports.specs.Ports.{identity}
use Rattle.vlm_ports.specs.Rings.{RingName}
use Rattle.vlm_cluster.specs.Parts.{AreNumbered, IsAccounted, base_behind, entries_in}
use Rattle.vlm_cluster.specs.Settling.{asked_by, standing, told_by}

-- ---- parts

pub entries_in-append : (ps qs : List Part) → entries_in (ps ++ qs) ≡ entries_in ps ++ entries_in qs
entries_in-append [] qs = refl
entries_in-append (p ∷ ps) qs =
    ap (λ (es : List Entry). p.entries.items ++ es) (entries_in-append ps qs) ∙ sym (append_assoc p.entries.items (entries_in ps) (entries_in qs))

pub entries_with : (ps : List Part) (p : Part) → entries_in (ps ++ p ∷ []) ≡ entries_in ps ++ p.entries.items
entries_with ps p = entries_in-append ps (p ∷ []) ∙ ap (λ (es : List Entry). entries_in ps ++ es) (append-nil p.entries.items)

pub numbered_more : (ps : List Part) (p : Part) → AreNumbered ps → p.base ≡ base_behind (entries_in ps) → AreNumbered (ps ++ p ∷ [])
numbered_more ps p before is k q at =
    elim (by_place ps p q k at) [
      | inl here ↦
          let lt = slice_get_within ps k q here in
          let front : take k (ps ++ p ∷ []) ≡ take k ps = take-append-le k ps (p ∷ []) (omega (arith, lt)) in
          before k q here ∙ ap (λ (xs : List Part). base_behind (entries_in xs)) (sym front)
      | inr e ↦
          let front : take (length ps) (ps ++ p ∷ []) ≡ ps = take-append_seam ps (p ∷ []) in
          ap (λ (x : Part). x.base) (sym e.1) ∙ is
          ∙ ap (λ (xs : List Part). base_behind (entries_in xs)) (sym front)
          ∙ ap (λ (m : ℕ). base_behind (entries_in (take m (ps ++ p ∷ [])))) (sym e.0)
    ]

-- ---- the hub

-- at first
pub accounts_begin : (h : Hub) → IsNewHub (nodes h) h → IsAccounted [] h
accounts_begin h new = record {
  legal = subst (λ (es : List Entry). Journal es (state h)) (sym new.journal) (subst (λ (s : State). Journal [] s) (sym new.state) begin);
  base = new.base;
  numbered = λ k part at. cc;
  takes = subst HubTakesAlone (sym new.journal) (All-nil _);
  asked = λ node some within. new.asked node some (omega (arith, within, length-map h.all_node_rings.items node_rings_identity));
  told = λ node some within. new.told node some (omega (arith, within, length-map h.all_node_rings.items node_rings_identity));
}

-- with more entries
pub accounts_go_on : (n : ℕ) (ps : List Part) (h i : Hub) → IsAccounted ps h → rings i ≡ rings h → base i ≡ base h → bases i ≡ bases h
    → Grew n (journal h) (state h) (journal i) (state i) → IsAccounted ps i
accounts_go_on n ps h i was same_rings same_base same_bases grew =
    let long : length (rings i) ≡ length (rings h) = ap (λ (rs : List (ℕ × RingName × RingName)). length rs) same_rings in
    let all : (entries_in ps ++ journal h) ++ grew.more ≡ entries_in ps ++ journal i =
    append_assoc (entries_in ps) (journal h) grew.more ∙ ap (λ (es : List Entry). entries_in ps ++ es) (sym grew.is) in
    record {
      legal = subst (λ (es : List Entry). Journal es (state i)) all (join start (entries_in ps ++ journal h) grew.more was.legal grew.legal);
      base = same_base ∙ was.base;
      numbered = was.numbered;
      takes = subst HubTakesAlone all (All-append (λ (e : Entry). e.sender ≡ 0 → TakesAst e) (entries_in ps ++ journal h) grew.more was.takes grew.takes);
      asked = λ node some within.
          ap (λ (bs : List Base). (get_or bs (node - 1) no_base).asked_before) same_bases ∙ was.asked node some (omega (arith, within, long));
      told = λ node some within.
          ap (λ (bs : List Base). (get_or bs (node - 1) no_base).told_before) same_bases ∙ was.told node some (omega (arith, within, long));
    }

-- with a port settled
pub accounts_stand : (ps : List Part) (h i : Hub) → standing i ≡ standing h → IsAccounted ps h → IsAccounted ps i
accounts_stand ps h i same was =
    let ends : JournalFrom (state h) [] (state i) = subst (λ (s : State). JournalFrom (state h) [] s) (sym (ap (λ s. s.3) same)) begin in
    accounts_go_on 0 ps h i was (ap (λ s. s.0) same) (ap (λ s. s.4) same) (ap (λ s. s.1) same)
    (record {
      more = [];
      is = ap (λ s. s.2) same ∙ sym (append-nil (journal h));
      count = refl;
      legal = ends;
      takes = All-nil _;
      departed = λ node gone. record {
        departed =
            subst (λ (s : State). HasDeparted s node) (sym (ap (λ s. s.3) same)) gone;
        told =
            λ k entry lt. absurd (omega arith);
      };
    })

-- what each node had asked for and was told is put before
abbrev pub PutsBefore : Hub → Hub → Type 0
PutsBefore h i = (node : ℕ) → 0 < node → node ≤ nodes h
    → (asked_before i node ≡ asked_before h node ++ asked node (journal h))
    × (told_before i node ≡ told_before h node ++ told node (journal h))

-- with a part cut off
pub accounts_cut : (ps : List Part) (p : Part) (h i : Hub) → IsAccounted ps h → rings i ≡ rings h → p.entries.items ≡ journal h → p.base ≡ base h
    → journal i ≡ [] → base i ≡ min (base h + length (journal h)) (2 ^ 64 - 1) → state i ≡ state h → PutsBefore h i → IsAccounted (ps ++ p ∷ []) i
accounts_cut ps p h i was same_rings entries number left next same_state before =
    let long : length (rings i) ≡ length (rings h) = ap (λ (rs : List (ℕ × RingName × RingName)). length rs) same_rings in
    let lines = length-map h.all_node_rings.items node_rings_identity in
    let all : entries_in (ps ++ p ∷ []) ≡ entries_in ps ++ journal h = entries_with ps p ∙ ap (λ (es : List Entry). entries_in ps ++ es) entries in
    let rest : entries_in ps ++ journal h ≡ entries_in (ps ++ p ∷ []) ++ journal i =
    sym all ∙ sym (append-nil (entries_in (ps ++ p ∷ []))) ∙ ap (λ (es : List Entry). entries_in (ps ++ p ∷ []) ++ es) (sym left) in
    record {
      legal = subst (λ (s : State). Journal (entries_in (ps ++ p ∷ []) ++ journal i) s) (sym same_state)
          (subst (λ (es : List Entry). Journal es (state h)) rest was.legal);
      base =
          next ∙ ap (λ (b : ℕ). min (b + length (journal h)) (2 ^ 64 - 1)) was.base
          ∙ counts_on (length (entries_in ps)) (length (journal h)) (2 ^ 64 - 1)
          ∙ ap (λ (m : ℕ). min m (2 ^ 64 - 1)) (sym (length-append (entries_in ps) (journal h)))
          ∙ ap (λ (es : List Entry). min (length es) (2 ^ 64 - 1)) (sym all);
      numbered = numbered_more ps p was.numbered (number ∙ was.base);
      takes = subst HubTakesAlone rest was.takes;
      asked = λ node some within.
          (before node some (omega (arith, within, long, lines))).0
          ∙ ap (λ (ss : List Step). ss ++ asked node (journal h)) (was.asked node some (omega (arith, within, long)))
          ∙ sym (asked-append node (entries_in ps) (journal h))
          ∙ ap (λ (es : List Entry). asked node es) (sym all);
      told = λ node some within.
          (before node some (omega (arith, within, long, lines))).1
          ∙ ap (λ (xs : List Item). xs ++ told node (journal h)) (was.told node some (omega (arith, within, long)))
          ∙ sym (told-append node (entries_in ps) (journal h))
          ∙ ap (λ (es : List Entry). told node es) (sym all);
    }

-- ---- one node

-- all that a node has asked for, and is told, by the hub's account and by the journal
pub asked_in_all : (ps : List Part) (h : Hub) (node : ℕ) → IsAccounted ps h → 0 < node → node ≤ length (rings h)
    → asked_by h node ≡ asked node (entries_in ps ++ journal h)
asked_in_all ps h node was some within =
    ap (λ (ss : List Step). ss ++ asked node (journal h)) (was.asked node some within) ∙ sym (asked-append node (entries_in ps) (journal h))

pub told_in_all : (ps : List Part) (h : Hub) (node : ℕ) → IsAccounted ps h → 0 < node → node ≤ length (rings h)
    → told_by h node ≡ told node (entries_in ps ++ journal h)
told_in_all ps h node was some within =
    ap (λ (xs : List Item). xs ++ told node (journal h)) (was.told node some within) ∙ sym (told-append node (entries_in ps) (journal h))

-- the node of a port of the hub is one of its nodes
pub node_within : (h : Hub) (p : Port) → IsPortOf h p → p.node ≤ length (rings h)
node_within h p is =
    let some = is.0 in let lt = slice_get_within (rings h) (p.node - 1) (identity p) is.1 in omega (arith, some, lt)
