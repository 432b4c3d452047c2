-- How an index stays sound and complete as records come and go.
use Rattle.std.proofs.Common.{◌≡◌, ◌≢◌, ◌⊎◌, ℕ, Bool, true, false, Option, None, Some, nat_eq, refl, sym, ap, ◌∙◌, inl, inr}
use Rattle.std.specs.Bool.{Decides}
use Rattle.std.specs.Cmp.{unsigned_Decides}
use Rattle.std.proofs.lemmas.Bool.{cases_eq}
use Rattle.std.proofs.lemmas.Option.{none-some, same_Some}
use Rattle.vlm_collections.specs.Parts.{Parts, Writes, handle_in}
use Rattle.vlm_store.specs.Index.{Indexes}

pub Indexes-same : {K : Type 0} (found found' : K → Option ℕ) (label label' : ℕ → Option K)
    → ((k : K) → found' k ≡ found k) → ((at : ℕ) → label' at ≡ label at) → Indexes found label → Indexes found' label'
Indexes-same found found' label label' finds labels indexes = record {
  sound = λ k at is. labels at ∙ indexes.sound k at (sym (finds k) ∙ is);
  complete = λ k at is. finds k ∙ indexes.complete k at (sym (labels at) ∙ is);
}

-- what is found of one key changes, as its record comes or goes
module _ {K : Type 0} (eq : K → K → Bool) (decides : (a b : K) → Decides (eq a b) (a ≡ b)) (found found' : K
    → Option ℕ) (key : K) (label label' : ℕ → Option K) (at : ℕ)
    (rest : (k : K) → eq key k ≡ false → found' k ≡ found k) (others : (other : ℕ) → other ≢ at → label' other ≡ label other) where
  key_cases : (k : K) → (k ≡ key) ⊎ (eq key k ≡ false)
  key_cases k = by_test (eq key k) refl
    where
      by_test : (b : Bool) → eq key k ≡ b → (k ≡ key) ⊎ (eq key k ≡ false)
      by_test true is = inl (sym ((decides key k).0 is))
      by_test false is = inr is

  -- a record comes
  pub found_added : found' key ≡ Some at → label at ≡ None → label' at ≡ Some key → found key ≡ None → Indexes found label → Indexes found' label'
  found_added here was is fresh indexes = record {
    sound = λ k x told. elim (key_cases k) [
      | inl same ↦
          let at_is : x ≡ at = same_Some x at (sym (ap found' (sym same) ∙ told) ∙ here) in
          ap label' at_is ∙ is ∙ ap Some (sym same)
      | inr differs ↦
          let old : found k ≡ Some x = sym (rest k differs) ∙ told in
          let label_old = indexes.sound k x old in
          others x (λ same. none-some k (sym was ∙ ap label (sym same) ∙ label_old)) ∙ label_old
    ];
    complete = λ k x labelled. elim (cases_eq x at) [
      | inl same ↦
          let key_is : key ≡ k = same_Some key k (sym is ∙ ap label' (sym same) ∙ labelled) in
          ap found' (sym key_is) ∙ here ∙ ap Some (sym same)
      | inr differs ↦
          let old = indexes.complete k x (sym (others x differs) ∙ labelled) in
          elim (key_cases k) [
            | inl same ↦ absurd (none-some x (sym fresh ∙ ap found (sym same) ∙ old))
            | inr apart ↦ rest k apart ∙ old
          ]
    ];
  }

  -- a record goes
  pub found_removed : found' key ≡ None → label at ≡ Some key → label' at ≡ None → Indexes found label → Indexes found' label'
  found_removed here was is indexes = record {
    sound = λ k x told. elim (key_cases k) [
      | inl same ↦ absurd (none-some x (sym here ∙ ap found' (sym same) ∙ told))
      | inr differs ↦
          let old : found k ≡ Some x = sym (rest k differs) ∙ told in
          let label_old = indexes.sound k x old in
          others x (λ same. true_false (sym ((decides key k).1 (same_Some key k (sym was ∙ ap label (sym same) ∙ label_old))) ∙ differs)) ∙ label_old
    ];
    complete = λ k x labelled. elim (cases_eq x at) [
      | inl same ↦ absurd (none-some k (sym is ∙ ap label' (sym same) ∙ labelled))
      | inr differs ↦
          let old = indexes.complete k x (sym (others x differs) ∙ labelled) in
          elim (key_cases k) [
            | inl same ↦
                absurd (differs (same_Some x at (sym old ∙ ap found same ∙ indexes.complete key at was)))
            | inr apart ↦ rest k apart ∙ old
          ]
    ];
  }
    where
      true_false : true ≡ false → ⊥
      true_false e = cc

-- what is found of the other numbers, by the test that tells them apart
others_apart : (found found' : ℕ → Option ℕ) (number : ℕ)
    → ((other : ℕ) → ¬ (other ≡ number) → found' other ≡ found other) → (k : ℕ) → nat_eq number k ≡ false
    → found' k ≡ found k
others_apart found found' number others k differs = others k (λ same. true_false (sym ((unsigned_Decides number k).1 (sym same)) ∙ differs))
  where
    true_false : true ≡ false → ⊥
    true_false e = cc

-- in an index in parts
module _ (parts parts' : Parts) (number : ℕ) (label label' : ℕ → Option ℕ) (at : ℕ) where
  pub Indexes-added : Writes number (Some at) parts parts' → label at ≡ None → label' at ≡ Some number
      → ((other : ℕ) → other ≢ at → label' other ≡ label other) → handle_in parts number ≡ None
      → Indexes (handle_in parts) label → Indexes (handle_in parts') label'
  Indexes-added writes was is others =
      found_added nat_eq unsigned_Decides (handle_in parts) (handle_in parts') number label label' at
      (others_apart (handle_in parts) (handle_in parts') number writes.others) others writes.this was is

  pub Indexes-removed : Writes number None parts parts' → label at ≡ Some number → label' at ≡ None → ((other : ℕ) → other ≢ at → label' other ≡ label other)
      → Indexes (handle_in parts) label → Indexes (handle_in parts') label'
  Indexes-removed writes was is others =
      found_removed nat_eq unsigned_Decides (handle_in parts) (handle_in parts') number label label' at
      (others_apart (handle_in parts) (handle_in parts') number writes.others) others writes.this was is
