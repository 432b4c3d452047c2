-- The words `NAME cluster --nodes N` and `NAME cluster` get no error, and name that command with its number of nodes.
use Rattle.std.proofs.Common.{◌≡◌, ◌∙◌, ◌≤◌, ℕ, zero, suc, List, [], ◌∷◌, Option, Some, arith, codes, decimal, inl, inr, refl, subst, sym}
use Rattle.std.specs.Fmt.{digits}
use Rattle.clap.proofs.OnLiterals.{clap_on_literals}
use Rattle.clap.specs.Words.{Text}
use Rattle.vlm.specs.Words.{AreClusterWords, AskForCluster, named_command, named_nodes, word_errors}
use Rattle.vlm.specs.Ends.{ClustersOrWantsMemory, Output, StartsCluster}

-- what is known of such words
pub record IsKnown (words : List Text) (nodes : ℕ) : Type 0 where
  pub named : named_command words ≡ Some (codes "cluster")
  pub number : named_nodes words ≡ Some (decimal nodes)
  pub errors : word_errors words ≡ []

abbrev numbered : Text → ℕ → List Text
numbered name nodes = name ∷ codes "cluster" ∷ codes "--nodes" ∷ decimal nodes ∷ []

known : (name : Text) (nodes : ℕ) → 1 ≤ nodes → nodes ≤ 8 → IsKnown (numbered name nodes) nodes
unfolding clap_on_literals digits
known name zero least most = absurd (omega arith)
known name (suc zero) least most = record { named = refl; number = refl; errors = refl }
known name (suc (suc zero)) least most = record { named = refl; number = refl; errors = refl }
known name (suc (suc (suc zero))) least most = record { named = refl; number = refl; errors = refl }
known name (suc (suc (suc (suc zero)))) least most = record { named = refl; number = refl; errors = refl }
known name (suc (suc (suc (suc (suc zero))))) least most = record { named = refl; number = refl; errors = refl }
known name (suc (suc (suc (suc (suc (suc zero)))))) least most = record { named = refl; number = refl; errors = refl }
known name (suc (suc (suc (suc (suc (suc (suc zero))))))) least most = record { named = refl; number = refl; errors = refl }
known name (suc (suc (suc (suc (suc (suc (suc (suc zero)))))))) least most = record { named = refl; number = refl; errors = refl }
known name (suc (suc (suc (suc (suc (suc (suc (suc (suc more))))))))) least most = absurd (omega arith)

two_known : (name : Text) → IsKnown (name ∷ codes "cluster" ∷ []) 2
unfolding clap_on_literals digits
two_known name = record { named = refl; number = refl; errors = refl }

pub all_known : (name : Text) (nodes : ℕ) (words : List Text) → 1 ≤ nodes → nodes ≤ 8 → AreClusterWords name nodes words → IsKnown words nodes
all_known name nodes words least most (inl are) = subst (λ w. IsKnown w nodes) (sym are) (known name nodes least most)
all_known name nodes words least most (inr two) =
    subst (λ w. IsKnown w nodes) (sym two.1) (subst (IsKnown (name ∷ codes "cluster" ∷ [])) (sym two.0) (two_known name))

-- the cluster that was started is of so many nodes
pub cluster_started : (words : List Text) (nodes served n : ℕ) (script left : Option (List ℕ)) (old new : Output)
    (status : ℕ) → 1 ≤ nodes → nodes ≤ 8 → IsKnown words nodes
    → served ≡ n → AskForCluster words n → StartsCluster served script left old new status → ClustersOrWantsMemory nodes script left old new status
cluster_started words nodes served n script left old new status least most is same ask starts =
    inl (subst (λ m. StartsCluster m script left old new status) (same ∙ ask.number nodes least most is.number) starts)
