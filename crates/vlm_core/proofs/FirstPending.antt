-- The first process of a node with an AST pending is the one of them with the least ID.
use Rattle.std.proofs.Common.{◌≡◌, ◌<◌, ℕ, Bool, true, false, List, [], ◌∷◌, map, Option, None, Some, refl, sym, ap, ◌∙◌, subst, inl, inr, arith}
use Rattle.std.specs.Prelude.{◌&&◌, All, AllPairs}
use Rattle.std.specs.List.{AllByRecursion}
use Rattle.std.proofs.lemmas.Bool.{and_parts, eqb-true}
use Rattle.std.proofs.lemmas.List.Elements.{recursion_from_All}
use Rattle.vlm_collections.specs.Lists.{IsIn}
use Rattle.vlm_model.specs.Declare.{is_node}
use Rattle.vlm_model.specs.Pending.{first_pending}
use Rattle.vlm_words.specs.Processes.{is_pending_on}
use Rattle.vlm_words.specs.State.{Process}
use Rattle.vlm_words.specs.Steps.{node_of_pid}
use Rattle.vlm_model.proofs.Pairs.{EachPair}
use Rattle.vlm_store.specs.Pending.{IsFirstPending, waits_on}
use Rattle.vlm_store.specs.Records.{StoredProcess}
use Rattle.vlm_store.proofs.MarkedProcesses.{no_and}
use Rattle.vlm_machine.proofs.Pairing.{pairs_by_recursion}

-- the process is of one of the eight nodes
abbrev IsOfNode : Process → Type 0
IsOfNode p = is_node (node_of_pid p.pid) ≡ true

-- of two processes of one node the later has the greater ID
abbrev Rises : Process → Process → Type 0
Rises a b = node_of_pid a.pid ≡ node_of_pid b.pid → a.pid < b.pid

-- each process among them has what all have
of_all : (P : Process → Type 0) (p : StoredProcess) (ps : List StoredProcess)
    → AllByRecursion P (map (λ (x : StoredProcess). x.process) ps) → IsIn p ps → P p.process
of_all P p [] all among = absurd among
of_all P p (x ∷ ps) all among =
    elim among [
      | inl here ↦ subst (λ (y : StoredProcess). P y.process) here all.0
      | inr there ↦ of_all P p ps all.1 there
    ]

module _ (node : ℕ) where
  -- a process that is of one of the eight nodes waits where it has an AST pending
  waits_as : (p : Process) → IsOfNode p → waits_on node p ≡ is_pending_on node p
  waits_as p named = by_test (is_pending_on node p) refl
    where
      by_test : (pending : Bool) → is_pending_on node p ≡ pending → (is_node node && is_pending_on node p) ≡ is_pending_on node p
      by_test true is =
          let same = eqb-true (node_of_pid p.pid) node (and_parts _ _ is).0 in
          ap (λ b. b && is_pending_on node p) (ap is_node (sym same) ∙ named)
      by_test false is = ap (λ b. is_node node && b) is ∙ no_and (is_node node) ∙ sym is

  -- where none waits none is found
  none_found : (ps : List StoredProcess) → AllByRecursion IsOfNode (map (λ (x : StoredProcess). x.process) ps) → IsFirstPending node ps None
      → None ≡ first_pending node (map (λ (x : StoredProcess). x.process) ps)
  none_found [] named none = refl
  none_found (x ∷ ps) named none =
      rw (sym (waits_as x.process named.0) ∙ none x (inl refl)) (none_found ps named.1 (λ p among. none p (inr among)))

  -- the one with the least ID is found
  least_found : (ps : List StoredProcess) (pid : ℕ)
      → AllByRecursion IsOfNode (map (λ (x : StoredProcess). x.process) ps)
      → EachPair Rises (map (λ (x : StoredProcess). x.process) ps)
      → IsFirstPending node ps (Some pid) → Some pid ≡ first_pending node (map (λ (x : StoredProcess). x.process) ps)
  least_found [] pid named rising first = absurd first.0.1.0
  least_found (x ∷ ps) pid named rising first =
      by_test (λ there. least_found ps pid named.1 rising.1 (
        (first.0.0, (there, first.0.1.1, first.0.1.2)),
        λ q among. first.1 q (inr among),
      )) (is_pending_on node x.process) refl
    where
      p : StoredProcess
      p = first.0.0

      waits : is_pending_on node p.process ≡ true
      waits = sym (waits_as p.process (of_all IsOfNode p (x ∷ ps) named first.0.1.0)) ∙ first.0.1.2

      node_of : (q : Process) → is_pending_on node q ≡ true → node_of_pid q.pid ≡ node
      node_of q is = eqb-true (node_of_pid q.pid) node (and_parts _ _ is).0

      by_test : (IsIn p ps → Some pid ≡ first_pending node (map (λ (y : StoredProcess). y.process) ps))
          → (pending : Bool) → is_pending_on node x.process ≡ pending
          → Some pid ≡ first_pending node (map (λ (y : StoredProcess). y.process) (x ∷ ps))
      by_test later true is =
          let least = first.1 x (inl refl) (waits_as x.process named.0 ∙ is) in
          rw is
          (ap Some
          (elim first.0.1.0 [
            | inl here ↦ sym first.0.1.1 ∙ ap (λ (y : StoredProcess). y.process.pid) (sym here)
            | inr there ↦
                let above = of_all (Rises x.process) p ps rising.0 there (node_of x.process is ∙ sym (node_of p.process waits)) in
                absurd (omega (arith, least, above, first.0.1.1))
          ]))
      by_test later false is =
          rw is
          (elim first.0.1.0 [
            | inl here ↦ (let never : true ≡ false = sym waits ∙ ap (λ (y : StoredProcess). is_pending_on node y.process) (sym here) ∙ is in cc)
            | inr there ↦ later there
          ])

  pub first_found : (ps : List StoredProcess) (result : Option ℕ)
      → All IsOfNode (map (λ (x : StoredProcess). x.process) ps)
      → AllPairs Rises (map (λ (x : StoredProcess). x.process) ps)
      → IsFirstPending node ps result → result ≡ first_pending node (map (λ (x : StoredProcess). x.process) ps)
  first_found ps None named rising none = none_found ps (recursion_from_All IsOfNode (map (λ (x : StoredProcess). x.process) ps) named) none
  first_found ps (Some pid) named rising first =
      least_found ps pid (recursion_from_All IsOfNode (map (λ (x : StoredProcess). x.process) ps) named)
      (pairs_by_recursion Rises (map (λ (x : StoredProcess). x.process) ps) rising) first
