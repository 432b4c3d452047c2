-- What becomes of a family of lists as locks leave them, join them, come and go.
use Rattle.std.proofs.Common.{◌≡◌, ◌≢◌, ◌⊎◌, ℕ, [], ◌∷◌, ◌++◌, Option, None, Some, refl, sym, ap, ◌∙◌, subst, inl, inr}
use Rattle.std.proofs.lemmas.Bool.{cases_eq}
use Rattle.std.proofs.lemmas.Option.{none-some, same_Some}
use Rattle.slab.specs.Slab.{Slab, get, ContainsKey}
use Rattle.vlm_collections.specs.declared.link.Links.{Links}
use Rattle.vlm_collections.specs.declared.lists.LinkedList.{LinkedList}
use Rattle.vlm_collections.specs.Lists.{IsIn, IsLinked, IsNoList, handles_of, next_in, prev_in, without}
use Rattle.vlm_collections.proofs.HandleLists.{IsIn-without, IsIn-without_kept, IsIn-push, IsIn-push_kept, IsIn-push_last, without_absent}
use Rattle.vlm_collections.proofs.Rings.{kept-handles, kept-linked, no_list-linked, same-handles, same-linked}
use Rattle.vlm_records.specs.declared.locks.Lock.{Lock}
use Rattle.vlm_records.specs.Families.{IsFamily}

module _ {I Kind : Type 0} (links : Lock → Links) (noted : Option Lock → Option I) where
  -- each list has the handles that it had
  abbrev AllStay : Slab Lock → (I → LinkedList Kind) → Slab Lock → (I → LinkedList Kind) → Type 0
  AllStay locks lists locks' lists' = (i : I) → handles_of links locks' (lists' i) ≡ handles_of links locks (lists i)

  -- each list but one has
  abbrev OthersStay : Slab Lock → (I → LinkedList Kind) → Slab Lock → (I → LinkedList Kind) → I → Type 0
  OthersStay locks lists locks' lists' i =
      (j : I) → j ≢ i → handles_of links locks' (lists' j) ≡ handles_of links locks (lists j)

  module _ (locks : Slab Lock) (lists : I → LinkedList Kind) (out : Option ℕ) (family : IsFamily links noted locks lists out) where
    -- a lock stands in one list
    pub one_list : (at : ℕ) (i j : I) → IsIn at (handles_of links locks (lists i)) → IsIn at (handles_of links locks (lists j)) → i ≡ j
    one_list at i j here there = same_Some i j (sym (family.listed i at here) ∙ family.listed j at there)

    -- the lists stay where their heads do, and their records keep their neighbours
    module _ (locks' : Slab Lock) (lists' : I → LinkedList Kind) (same : (i : I) → lists' i ≡ lists i)
        (nexts : (i : I) (k : ℕ) → IsIn k (handles_of links locks (lists i)) → next_in links (get locks' k) ≡ next_in links (get locks k))
        (prevs : (i : I) (k : ℕ) → IsIn k (handles_of links locks (lists i)) → prev_in links (get locks' k) ≡ prev_in links (get locks k))
        (there : (i : I) (k : ℕ) → IsIn k (handles_of links locks (lists i)) → ContainsKey locks k → ContainsKey locks' k) where
      pub family-handles : AllStay locks lists locks' lists'
      family-handles i = ap (handles_of links locks') (same i) ∙ kept-handles links locks locks' (lists i) (family.linked i) (nexts i) (prevs i) (there i)

      linked_still : (i : I) → IsLinked links locks' (lists' i)
      linked_still i = subst (IsLinked links locks') (sym (same i)) (kept-linked links locks locks' (lists i) (family.linked i) (nexts i) (prevs i) (there i))

      -- each record notes what it noted
      pub family-kept : ((k : ℕ) → noted (get locks' k) ≡ noted (get locks k)) → IsFamily links noted locks' lists' out
      family-kept notes = record {
        linked = linked_still;
        listed = λ i at found. notes at ∙ family.listed i at (subst (IsIn at) (family-handles i) found);
        stands = λ i at differs is. subst (IsIn at) (sym (family-handles i)) (family.stands i at differs (sym (notes at) ∙ is));
        gone = λ i at out_so found. family.gone i at out_so (subst (IsIn at) (family-handles i) found);
      }

    -- a record that stands in no list is none of those that stand in one
    pub other_handle : (at : ℕ) → ((i : I) → ¬ IsIn at (handles_of links locks (lists i))) → (i : I) (k : ℕ)
        → IsIn k (handles_of links locks (lists i)) → k ≢ at
    other_handle at unlisted i k found is = unlisted i (subst (λ x. IsIn x (handles_of links locks (lists i))) is found)

    -- one record changes, comes or goes that stands in no list
    module _ (locks' : Slab Lock) (lists' : I → LinkedList Kind) (same : (i : I)
        → lists' i ≡ lists i) (at : ℕ) (unlisted : (i : I) → ¬ IsIn at (handles_of links locks (lists i)))
        (nexts : (k : ℕ) → k ≢ at → next_in links (get locks' k) ≡ next_in links (get locks k)) (prevs : (k : ℕ)
        → k ≢ at → prev_in links (get locks' k) ≡ prev_in links (get locks k))
        (there : (k : ℕ) → k ≢ at → ContainsKey locks k → ContainsKey locks' k) where
      pub family-other_handles : AllStay locks lists locks' lists'
      family-other_handles =
          family-handles locks' lists' same (λ i k found. nexts k (other_handle at unlisted i k found))
          (λ i k found. prevs k (other_handle at unlisted i k found))
          (λ i k found. there k (other_handle at unlisted i k found))

      other_linked : (i : I) → IsLinked links locks' (lists' i)
      other_linked =
          linked_still locks' lists' same (λ i k found. nexts k (other_handle at unlisted i k found))
          (λ i k found. prevs k (other_handle at unlisted i k found))
          (λ i k found. there k (other_handle at unlisted i k found))

      module _ (notes : (k : ℕ) → k ≢ at → noted (get locks' k) ≡ noted (get locks k)) where
        -- the record is new
        pub family-grown : out ≡ None → IsFamily links noted locks' lists' (Some at)
        family-grown none = record {
          linked = other_linked;
          listed = λ i k found.
              let was = subst (IsIn k) (family-other_handles i) found in
              notes k (other_handle at unlisted i k was) ∙ family.listed i k was;
          stands = λ i k differs is.
              subst (IsIn k) (sym (family-other_handles i))
              (family.stands i k (λ e. none-some k (sym none ∙ sym e)) (sym (notes k (λ at_is. differs (ap Some at_is))) ∙ is));
          gone = λ i k is found. other_handle at unlisted i k (subst (IsIn k) (family-other_handles i) found) (same_Some k at is);
        }

        -- the record is gone, or notes no list now
        pub family-shrunk : ((i : I) → noted (get locks' at) ≢ Some i) → out ≡ Some at → IsFamily links noted locks' lists' None
        family-shrunk none is_out = record {
          linked = other_linked;
          listed = λ i k found.
              let was = subst (IsIn k) (family-other_handles i) found in
              notes k (other_handle at unlisted i k was) ∙ family.listed i k was;
          stands = λ i k _ is. elim (cases_eq k at) [
            | inl at_is ↦ absurd (none i (ap (λ x. noted (get locks' x)) (sym at_is) ∙ is))
            | inr differs ↦
                subst (IsIn k) (sym (family-other_handles i)) (family.stands i k (λ e. differs (same_Some k at (e ∙ is_out))) (sym (notes k differs) ∙ is))
          ];
          gone = λ i k is found. none-some k (sym is);
        }

  -- no lock is there
  pub family-empty : (locks : Slab Lock) (lists : I → LinkedList Kind) → ((i : I) → IsNoList (lists i))
      → ((k : ℕ) → get locks k ≡ None) → ((i : I) → noted None ≢ Some i) → IsFamily links noted locks lists None
  family-empty locks lists empty none unnoted = record {
    linked = λ i. (no_list-linked links locks (lists i) (empty i)).0;
    listed = λ i k found. absurd (subst (IsIn k) ((no_list-linked links locks (lists i) (empty i)).1) found);
    stands = λ i k _ is. absurd (unnoted i (sym (ap noted (none k)) ∙ is));
    gone = λ i k is found. none-some k (sym is);
  }

  -- a lock that notes no list is out of all
  pub family-unnoted : (locks : Slab Lock) (lists : I → LinkedList Kind) (at : ℕ)
      → IsFamily links noted locks lists None → ((i : I) → noted (get locks at) ≢ Some i)
      → IsFamily links noted locks lists (Some at)
  family-unnoted locks lists at family none = record {
    linked = family.linked;
    listed = family.listed;
    stands = λ i k _ is. family.stands i k (λ e. none-some k (sym e)) is;
    gone = λ i k is found. none i (ap (λ x. noted (get locks x)) (sym (same_Some k at is)) ∙ family.listed i k found);
  }

  -- a lock is taken off its list
  module _ (cases : (i j : I) → (i ≡ j) ⊎ (i ≢ j)) (locks locks1 locks' : Slab Lock) (lists lists' : I
      → LinkedList Kind) (list1 : LinkedList Kind) (at : ℕ) (i : I)
      (nexts : (k : ℕ) → next_in links (get locks' k) ≡ next_in links (get locks1 k)) (prevs : (k : ℕ)
      → prev_in links (get locks' k) ≡ prev_in links (get locks1 k))
      (there : (k : ℕ) → ContainsKey locks1 k → ContainsKey locks' k) (linked1 : IsLinked links locks1 list1) (here : lists' i ≡ list1)
      (elsewhere : (j : I) → j ≢ i → lists' j ≡ lists j) where
    -- the other lists keep their records
    module _ (out : Option ℕ) (family : IsFamily links noted locks lists out)
        (others1 : (other : ℕ) → ¬ IsIn other (handles_of links locks (lists i)) → Some other ≢ out → get locks1 other ≡ get locks other) where
      unchanged : (j : I) → j ≢ i → (k : ℕ) → IsIn k (handles_of links locks (lists j)) → get locks1 k ≡ get locks k
      unchanged j differs k found = others1 k (λ also. differs (one_list locks lists out family k j i found also)) (λ is_out. family.gone j k is_out found)

      other_linked1 : (j : I) → j ≢ i → IsLinked links locks1 (lists j)
      other_linked1 j differs = same-linked links locks locks1 (lists j) (family.linked j) (unchanged j differs)

      handles_elsewhere : OthersStay locks lists locks' lists' i
      handles_elsewhere j differs =
          ap (handles_of links locks') (elsewhere j differs)
          ∙ kept-handles links locks1 locks' (lists j) (other_linked1 j differs) (λ k _. nexts k) (λ k _. prevs k) (λ k _. there k)
          ∙ same-handles links locks locks1 (lists j) (family.linked j) (unchanged j differs)

      all_linked : (j : I) → IsLinked links locks' (lists' j)
      all_linked j =
          elim (cases j i) [
            | inl same ↦ rw (same, here) (kept-linked links locks1 locks' list1 linked1 (λ k _. nexts k) (λ k _. prevs k) (λ k _. there k))
            | inr differs ↦ rw (elsewhere j differs)
                (kept-linked links locks1 locks' (lists j) (other_linked1 j differs) (λ k _. nexts k) (λ k _. prevs k)
                (λ k _. there k))
          ]

    module _ (family : IsFamily links noted locks lists None) (is : noted (get locks at) ≡ Some i)
        (handles1 : handles_of links locks1 list1 ≡ without at (handles_of links locks (lists i)))
        (others1 : (other : ℕ) → ¬ IsIn other (handles_of links locks (lists i)) → get locks1 other ≡ get locks other) where
      stood : IsIn at (handles_of links locks (lists i))
      stood = family.stands i at (λ e. none-some at (sym e)) is

      pub family-taken_handles : (j : I) → handles_of links locks' (lists' j) ≡ without at (handles_of links locks (lists j))
      family-taken_handles j =
          elim (cases j i) [
            | inl same ↦ rw (same, here) (kept-handles links locks1 locks' list1 linked1 (λ k _. nexts k) (λ k _. prevs k) (λ k _. there k) ∙ handles1)
            | inr differs ↦
                let absent : ¬ IsIn at (handles_of links locks (lists j)) = λ found. differs (one_list locks lists None family at j i found stood) in
                handles_elsewhere None family (λ other absent _. others1 other absent) j differs ∙ sym (without_absent at _ absent)
          ]

      pub family-taken : ((k : ℕ) → noted (get locks' k) ≡ noted (get locks k)) → IsFamily links noted locks' lists' (Some at)
      family-taken notes = record {
        linked = all_linked None family (λ other absent _. others1 other absent);
        listed = λ j k found. notes k ∙ family.listed j k (IsIn-without at k _ (subst (IsIn k) (family-taken_handles j) found)).0;
        stands = λ j k differs noted_so.
            subst (IsIn k) (sym (family-taken_handles j))
            (IsIn-without_kept at k _ (family.stands j k (λ e. none-some k (sym e)) (sym (notes k) ∙ noted_so)) (λ same. differs (ap Some same)));
        gone = λ j k same found. (IsIn-without at k _ (subst (IsIn k) (family-taken_handles j) found)).1 (same_Some k at same);
      }

    -- a lock is put at the end of a list
    module _ (family : IsFamily links noted locks lists (Some at)) (handles1 : handles_of links locks1 list1 ≡ handles_of links locks (lists i) ++ at ∷ [])
        (others1 : (other : ℕ) → ¬ IsIn other (handles_of links locks (lists i)) → other ≢ at → get locks1 other ≡ get locks other) where
      unlisted : (j : I) → ¬ IsIn at (handles_of links locks (lists j))
      unlisted j = family.gone j at refl

      pub family-put_here : handles_of links locks' (lists' i) ≡ handles_of links locks (lists i) ++ at ∷ []
      family-put_here = ap (handles_of links locks') here
          ∙ kept-handles links locks1 locks' list1 linked1 (λ k _. nexts k) (λ k _. prevs k) (λ k _. there k) ∙ handles1

      others_but : (other : ℕ) → ¬ IsIn other (handles_of links locks (lists i)) → Some other ≢ Some at → get locks1 other ≡ get locks other
      others_but other absent differs = others1 other absent (λ same. differs (ap Some same))

      pub family-put_others : OthersStay locks lists locks' lists' i
      family-put_others = handles_elsewhere (Some at) family others_but

      pub family-put : noted (get locks' at) ≡ Some i → ((k : ℕ) → k ≢ at → noted (get locks' k) ≡ noted (get locks k))
          → IsFamily links noted locks' lists' None
      family-put note notes = record {
        linked = all_linked (Some at) family others_but;
        listed = λ j k found. elim (cases j i) [
          | inl same ↦
              elim (IsIn-push at k _ (subst (IsIn k) family-put_here (subst (λ x. IsIn k (handles_of links locks' (lists' x))) same found))) [
                | inl old ↦ listed_other i k old ∙ ap Some (sym same)
                | inr new ↦ ap (λ x. noted (get locks' x)) (sym new) ∙ note ∙ ap Some (sym same)
              ]
          | inr differs ↦ listed_other j k (subst (IsIn k) (family-put_others j differs) found)
        ];
        stands = λ j k _ noted_so. elim (cases_eq k at) [
          | inl same ↦
              let is_list : i ≡ j = same_Some i j (sym note ∙ ap (λ x. noted (get locks' x)) (sym same) ∙ noted_so) in
              subst (λ x. IsIn k (handles_of links locks' (lists' x))) is_list
              (subst (IsIn k) (sym family-put_here)
              (subst (λ x. IsIn x (handles_of links locks (lists i) ++ at ∷ [])) (sym same)
              (IsIn-push_last at (handles_of links locks (lists i)))))
          | inr differs ↦
              let was = family.stands j k (λ same. differs (same_Some k at same)) (sym (notes k differs) ∙ noted_so) in
              elim (cases j i) [
                | inl same ↦
                    subst (λ x. IsIn k (handles_of links locks' (lists' x))) (sym same)
                    (subst (IsIn k) (sym family-put_here)
                    (IsIn-push_kept at k (handles_of links locks (lists i))
                    (subst (λ x. IsIn k (handles_of links locks (lists x))) same was)))
                | inr apart ↦ subst (IsIn k) (sym (family-put_others j apart)) was
              ]
        ];
        gone = λ j k same found. none-some k (sym same);
      }
        where
          listed_other : (j : I) (k : ℕ) → IsIn k (handles_of links locks (lists j)) → noted (get locks' k) ≡ Some j
          listed_other j k found =
              notes k (λ same. unlisted j (subst (λ x. IsIn x (handles_of links locks (lists j))) same found)) ∙ family.listed j k found
