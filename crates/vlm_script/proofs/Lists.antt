-- The steps of nodes in their lists, and the names that are bound to their processes.
use Rattle.std.proofs.Common.{◌≡◌, ℕ, ◌+◌, ◌-◌, ◌*◌, ◌<◌, inl, inr, Bool, true, false, cond, List, [], ◌∷◌, ◌++◌}
use Rattle.std.proofs.Common.{length, map, get_or, set, find, All, nat_le, nat_lt, is_some, Option, None, Some}
use Rattle.std.proofs.Common.{option_map, refl, sym, ap, subst, ◌∙◌, arith}
use Rattle.std.proofs.Math.Seq.{map-set_same}
use Rattle.std.proofs.lemmas.Bool.{and_parts, cases_eq, leb-true, ltb-true}
use Rattle.std.proofs.lemmas.Grind.{get_or-set_at}
use Rattle.std.proofs.lemmas.List.Elements.{All-push}
use Rattle.std.proofs.lemmas.List.{get_or-map, get_or-set_other, length-set, map-set}
use Rattle.vlm_lines.specs.Lines.{is_text}
use Rattle.vlm_words.specs.declared.steps.Declaration.{Declaration}
use Rattle.vlm_words.specs.declared.steps.Step.{Step}
use Rattle.vlm_words.specs.declared.steps.Step.TheVariants.{Declare as declare_step}
use Rattle.vlm_words.specs.Steps.{node_of_pid}
use Rattle.vlm_script.specs.Scripts.{Binding, bound_to}
use Rattle.vlm_script.specs.Shares.{AreListed, IsListed, Shares, can_declare, declared_by, has_node, next_process, share_declaration, with_step}
use Rattle.vlm_script.specs.Sharing.{AreOfNodes, IsOneOfNodes, IsSharing}
use Rattle.vlm_script.specs.Steps.{IsPostable}

-- a list that has grown by a step, among lists of any kind that have these steps
module _ {V : Type 0} (steps_of : V → List Step) (vecs : List V) (node : ℕ) (old new : V) (is : old ≡ get_or vecs (node - 1) old) where
  pub with_step-grown : (step : Step) → node - 1 < length vecs → steps_of new ≡ steps_of old ++ step ∷ []
      → map steps_of (set vecs (node - 1) new) ≡ with_step (map steps_of vecs) node step
  unfolding with_step
  with_step-grown step within grown =
      let before : steps_of old ≡ get_or (map steps_of vecs) (node - 1) [] =
      ap steps_of is ∙ sym (get_or-map steps_of vecs (node - 1) old [] within) in
      map-set steps_of vecs (node - 1) new
      ∙ ap (set (map steps_of vecs) (node - 1)) (grown ∙ ap (λ steps. steps ++ step ∷ []) before)

  -- or that has not
  pub steps-unchanged : steps_of new ≡ steps_of old → map steps_of (set vecs (node - 1) new) ≡ map steps_of vecs
  steps-unchanged same = map-set_same steps_of vecs (node - 1) new old (same ∙ ap steps_of is)

-- a number that passes the test is the number of a node
pub is_node : (nodes node : ℕ) → has_node nodes node ≡ true → IsOneOfNodes nodes node
is_node nodes node is =
    let parts = and_parts (nat_le 1 node) (nat_le node nodes) is in
    record { above = leb-true 1 node parts.0; within = leb-true node nodes parts.1 }

-- a node that may have one more declare line is one of the nodes, and has fewer than 65,535
pub is_declarable : (nodes : ℕ) (s : Shares) (node : ℕ) → can_declare nodes s node ≡ true → IsOneOfNodes nodes node × (declared_by s node < 65535)
is_declarable nodes s node is =
    let parts = and_parts (has_node nodes node) (nat_lt (declared_by s node) 65535) is in
    (is_node nodes node parts.0, ltb-true (declared_by s node) 65535 parts.1)

-- a step of the list of a node that there is may be posted
pub is_postable : (nodes node : ℕ) (step : Step) → IsListed node step → IsOneOfNodes nodes node → IsPostable nodes step
is_postable nodes node step listed there = record {
  listed = record { of_node = refl; untaken = listed.untaken };
  of_nodes = subst (IsOneOfNodes nodes) (sym listed.of_node) there;
}

-- where there is no answer, it is none
pub is_none : {T : Type 0} (o : Option T) → is_some o ≡ false → o ≡ None
is_none None is = refl
is_none (Some x) is = cc

-- the process of a declare line is of its node
pub node_of_next : (node count : ℕ) → count < 65535 → node_of_pid (node * 65536 + (count + 1)) ≡ node
node_of_next node count below = omega arith

-- what a declare line binds, counts and puts is its share
pub shares-declared : (old : Shares) (name : List ℕ) (d : Declaration) (names : List Binding) (declared : List ℕ) (lists : List (List Step)) (pid : ℕ)
    → names ≡ old.names ++ record { name = name; pid = pid } ∷ [] → pid ≡ next_process old d.node
    → declared ≡ set old.declared (d.node - 1) (declared_by old d.node + 1)
    → lists ≡ with_step old.lists d.node (declare_step d) → record { names = names; declared = declared; lists = lists } ≡ share_declaration old name d
unfolding share_declaration
shares-declared old name d names declared lists pid bound is counted put = rw (bound, is, counted, put) refl

-- a step more leaves as many lists
pub length-with_step : (lists : List (List Step)) (node : ℕ) (step : Step) → length (with_step lists node step) ≡ length lists
unfolding with_step
length-with_step lists node step = length-set lists (node - 1) (get_or lists (node - 1) [] ++ step ∷ [])

-- a step of the node joins its list
listed-with_step : (lists : List (List Step)) (node : ℕ) (step : Step) → IsOneOfNodes (length lists) node → IsListed node step → AreListed lists
    → AreListed (with_step lists node step)
unfolding with_step
listed-with_step lists node step there of_node listed k below =
    let within : k < length lists = omega (arith, length-set lists (node - 1) (get_or lists (node - 1) [] ++ step ∷ [])) in
    elim (cases_eq k (node - 1)) [
      | inl same ↦
          let here : node ≡ k + 1 = omega (arith, there.above) in
          let grown : get_or (set lists (node - 1) (get_or lists (node - 1) [] ++ step ∷ [])) k [] ≡ get_or lists k [] ++ step ∷ [] =
          get_or-set_at lists (node - 1) k _ [] same (omega (arith, there.above, there.within))
          ∙ ap (λ j. get_or lists j [] ++ step ∷ []) (sym same) in
          subst (All (IsListed (k + 1))) (sym grown)
          (All-push (IsListed (k + 1)) (get_or lists k []) step (listed k within) (subst (λ n. IsListed n step) here of_node))
      | inr other ↦ subst (All (IsListed (k + 1))) (sym (get_or-set_other lists (node - 1) k _ [] other)) (listed k within)
    ]

module _ (nodes : ℕ) where
  -- a bound name is bound to a process of one of the nodes
  pub bound_node : (names : List Binding) (name : List ℕ) (pid : ℕ) → AreOfNodes nodes names
      → bound_to names name ≡ Some pid → IsOneOfNodes nodes (node_of_pid pid)
  bound_node [] name pid all is = cc
  bound_node (b ∷ names) name pid all is = first (is_text b.name name) is (bound_node names name pid all.1)
    where
      first : (same : Bool) → option_map (λ (e : Binding). e.pid) (cond same (Some b) (find (λ e. is_text e.name name) names)) ≡ Some pid
          → (bound_to names name ≡ Some pid → IsOneOfNodes nodes (node_of_pid pid)) → IsOneOfNodes nodes (node_of_pid pid)
      first true here rest = let same : b.pid ≡ pid = cc here in subst (λ p. IsOneOfNodes nodes (node_of_pid p)) same all.0
      first false here rest = rest here

  -- one more name
  bound_more : (names : List Binding) (b : Binding) → AreOfNodes nodes names → IsOneOfNodes nodes (node_of_pid b.pid) → AreOfNodes nodes (names ++ b ∷ [])
  bound_more [] b all there = (there, tt)
  bound_more (e ∷ names) b all there = (all.0, bound_more names b all.1 there)

module _ (names : List Binding) (declared : List ℕ) (lists : List (List Step)) (node : ℕ) (step : Step) where
  -- a step of a node goes to its list
  pub sharing-with_step : IsSharing names declared lists → IsOneOfNodes (length lists) node → IsListed node step
      → IsSharing names declared (with_step lists node step)
  sharing-with_step s there of_node = record {
    counted = s.counted ∙ sym (length-with_step lists node step);
    bound = subst (λ nodes. AreOfNodes nodes names) (sym (length-with_step lists node step)) s.bound;
    listed = listed-with_step lists node step there of_node s.listed;
  }

  -- a declare line does so too, and binds its name to a process of the node
  pub sharing-declared : (b : Binding) (count : ℕ) → IsSharing names declared lists → IsOneOfNodes (length lists) node
      → IsListed node step → node_of_pid b.pid ≡ node
      → IsSharing (names ++ b ∷ []) (set declared (node - 1) count) (with_step lists node step)
  sharing-declared b count s there of_node is =
      let more = bound_more (length lists) names b s.bound (subst (IsOneOfNodes (length lists)) (sym is) there) in
      record {
        counted = length-set declared (node - 1) count ∙ s.counted ∙ sym (length-with_step lists node step);
        bound = subst (λ nodes. AreOfNodes nodes (names ++ b ∷ [])) (sym (length-with_step lists node step)) more;
        listed = listed-with_step lists node step there of_node s.listed;
      }
