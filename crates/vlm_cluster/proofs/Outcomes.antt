-- What a run comes to, from what each worker hands back.
use Rattle.std.proofs.Common.{◌≡◌, ◌+◌, ◌<◌, ◌++◌, ℕ, Bool, true, false, List, [], ◌∷◌, length, get_or, take, refl, sym, ap, ◌∙◌, subst}
use mathlib.Core.List.{IsPrefix}
use Rattle.vlm_words.specs.declared.steps.Step.{Step}
use Rattle.vlm_words.specs.declared.steps.Step.TheVariants.{Leave}
use Rattle.vlm_journal.specs.declared.entries.Entry.{Entry}
use Rattle.vlm_journal.specs.declared.entries.Item.{Item}
use Rattle.vlm_journal.specs.Told.{asked, told}
use Rattle.vlm_journal.proofs.Lists.{prefix_behind, prefix_then}
use Rattle.vlm_ports.specs.declared.port.Port.{Port}
use Rattle.vlm_ports.specs.Ports.{AreNew}
use Rattle.vlm_ports.specs.Rings.{RingName}
use Rattle.vlm_cluster.specs.Works.{IsBegun, IsWhole, IsWorkOn, Work, farewell}

-- a departure that is posted or not begins one that is
farewell_begins : (node : ℕ) (left : Bool) → IsPrefix (farewell node left) (Leave node ∷ [])
farewell_begins node true = ([], refl)
farewell_begins node false = (Leave node ∷ [], refl)

module _ (never : Bool) (ports : List Port) (new : AreNew ports) (k : ℕ) (p : Port) (lt : k < length ports) (list : List Step) (w : Work)
    (is : IsWorkOn never (get_or ports k p) list w) where
  -- the node of a worker
  pub node_is : w.port.0 ≡ k + 1
  node_is = ap (λ (port : ℕ × RingName × RingName). port.0) is.port_is ∙ (new k p lt).0

  -- what was posted for a list
  pub posts_are : w.posts ≡ take w.count list ++ farewell (k + 1) w.left
  posts_are = is.posts_are ∙ ap (λ (node : ℕ). take w.count list ++ farewell node w.left) (new k p lt).0

  module _ (entries : List Entry) (items : List Item) (n : ℕ) (count : n ≡ w.count) where
    pub whole_asked : IsWhole entries w items → asked (k + 1) entries ≡ take n list ++ Leave (k + 1) ∷ []
    whole_asked whole =
        ap (λ (node : ℕ). asked node entries) (sym node_is) ∙ whole.asked ∙ posts_are
        ∙ ap (λ (left : Bool). take w.count list ++ farewell (k + 1) left) whole.left
        ∙ ap (λ (m : ℕ). take m list ++ Leave (k + 1) ∷ []) (sym count)

    pub whole_told : IsWhole entries w items → items ≡ told (k + 1) entries
    whole_told whole = whole.told ∙ ap (λ (node : ℕ). told node entries) node_is

    pub begun_asked : IsBegun entries w items → IsPrefix (asked (k + 1) entries) (take n list ++ Leave (k + 1) ∷ [])
    begun_asked begun =
        let P : ℕ → List Step → ℕ → Type 0 = λ node posts m. IsPrefix (asked node entries) posts in
        let all : IsPrefix (asked (k + 1) entries) (take w.count list ++ farewell (k + 1) w.left) =
        subst (λ (node : ℕ). IsPrefix (asked node entries) (take w.count list ++ farewell (k + 1) w.left)) node_is
        (subst (λ (posts : List Step). IsPrefix (asked w.port.0 entries) posts) posts_are begun.asked) in
        subst (λ (m : ℕ). IsPrefix (asked (k + 1) entries) (take m list ++ Leave (k + 1) ∷ [])) (sym count)
        (prefix_then (asked (k + 1) entries) (take w.count list ++ farewell (k + 1) w.left) (take w.count list ++ Leave (k + 1) ∷ []) all
        (prefix_behind (take w.count list) (farewell (k + 1) w.left) (Leave (k + 1) ∷ []) (farewell_begins (k + 1) w.left)))

    pub begun_told : IsBegun entries w items → IsPrefix items (told (k + 1) entries)
    begun_told begun = subst (λ (node : ℕ). IsPrefix items (told node entries)) node_is begun.told
