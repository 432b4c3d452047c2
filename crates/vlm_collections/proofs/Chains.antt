-- How a chain of links changes when a handle joins or leaves it.
use Rattle.std.proofs.Common.{◌≡◌, ◌≢◌, ◌⊎◌, ℕ, List, [], ◌∷◌, ◌++◌, length, Some, None, refl, sym, ap, ◌∙◌, subst, inl, inr, eq-eqb, ne_eqb}
use Rattle.std.proofs.lemmas.Bool.{cases_eq}
use Rattle.std.proofs.lemmas.Option.{none-some, same_Some}
use Rattle.vlm_collections.specs.Lists.{without, IsIn, IsApart, Joins, Spot, before_from, first_handle, handle_after, handles_from, last_from, IsChain}
use Rattle.vlm_collections.proofs.HandleLists.{without_head, without_past, without_absent}

-- the spot is this end, or one of the handles
abbrev pub IsOn : Spot → List ℕ → Spot → Type 0
IsOn end handles at = (at ≡ end) ⊎ ((handle : ℕ) × IsIn handle handles × (at ≡ Some handle))

-- the spot is none of the handles
abbrev pub IsOff : List ℕ → Spot → Type 0
IsOff handles at = (handle : ℕ) → IsIn handle handles → at ≢ Some handle

IsOn-cons : (from : Spot) (first : ℕ) (rest : List ℕ) (at : Spot) → IsOn (Some first) rest at → IsOn from (first ∷ rest) at
IsOn-cons from first rest at on =
    elim on [ inl here ↦ inr (first, inl refl, here) | inr there ↦ inr (there.0, inr there.1, there.2) ]

IsOn-more : (to : Spot) (first : ℕ) (rest : List ℕ) (at : Spot) → IsOn to rest at → IsOn to (first ∷ rest) at
IsOn-more to first rest at on =
    elim on [ inl here ↦ inl here | inr there ↦ inr (there.0, inr there.1, there.2) ]

-- a spot that is not the end and is off the handles is not on the chain
off_not_on : (end : Spot) (handles : List ℕ) (at on : Spot) → at ≢ end → IsOff handles at → IsOn end handles on → at ≢ on
off_not_on end handles at on other off found same =
    elim found [ inl here ↦ other (same ∙ here) | inr there ↦ off there.0 there.1 (same ∙ there.2) ]

IsOff-head : (first : ℕ) (rest : List ℕ) → ¬ IsIn first rest → IsOff rest (Some first)
IsOff-head first rest absent handle found same = absent (subst (λ k. IsIn k rest) (sym (same_Some first handle same)) found)

some_not_none : (handle : ℕ) → Some handle ≢ None
some_not_none handle same = none-some handle (sym same)

module _ (next prev : Spot → Spot) where
  pub handles_from-chain : (from : Spot) (handles : List ℕ) → IsChain next prev from handles → handles_from next (length handles) from ≡ handles
  handles_from-chain from [] chain = refl
  handles_from-chain from (first ∷ rest) chain = rw chain.0 (ap (λ xs. first ∷ xs) (handles_from-chain (Some first) rest chain.2))

  pub prev_end_on : (from : Spot) (handles : List ℕ) → IsChain next prev from handles → IsOn from handles (prev None)
  prev_end_on from [] chain = inl chain.1
  prev_end_on from (first ∷ rest) chain = IsOn-cons from first rest _ (prev_end_on (Some first) rest chain.2)

  next_start_on : (from : Spot) (handles : List ℕ) → IsChain next prev from handles → IsOn None handles (next from)
  next_start_on from [] chain = inl chain.0
  next_start_on from (first ∷ rest) chain = inr (first, inl refl, chain.0)

  pub prev_on : (from : Spot) (handles : List ℕ) (handle : ℕ) → IsChain next prev from handles → IsIn handle handles → IsOn from handles (prev (Some handle))
  prev_on from [] handle chain found = absurd found
  prev_on from (first ∷ rest) handle chain found =
      elim found [
        | inl here ↦ inl (ap (λ k. prev (Some k)) (sym here) ∙ chain.1)
        | inr there ↦ IsOn-cons from first rest _ (prev_on (Some first) rest handle chain.2 there)
      ]

  pub next_on : (from : Spot) (handles : List ℕ) (handle : ℕ) → IsChain next prev from handles → IsIn handle handles → IsOn None handles (next (Some handle))
  next_on from [] handle chain found = absurd found
  next_on from (first ∷ rest) handle chain found =
      IsOn-more None first rest _
      (elim found [
        | inl here ↦ subst (λ k. IsOn None rest (next (Some k))) here (next_start_on (Some first) rest chain.2)
        | inr there ↦ next_on (Some first) rest handle chain.2 there
      ])

  -- the links lead to the first handle
  pub next_is_first : (from : Spot) (handles : List ℕ) → IsChain next prev from handles → next from ≡ first_handle handles
  next_is_first from [] chain = chain.0
  next_is_first from (first ∷ rest) chain = chain.0

  -- and from each handle to the one that follows it
  pub next_is_after : (from : Spot) (handles : List ℕ) (handle : ℕ) → IsChain next prev from handles → IsApart handles
      → IsIn handle handles → next (Some handle) ≡ handle_after handle handles
  next_is_after from [] handle chain apart found = absurd found
  next_is_after from (first ∷ rest) handle chain apart found =
      elim (cases_eq first handle) [
        | inl same ↦ rw (eq-eqb first handle same) (ap (λ k. next (Some k)) (sym same) ∙ next_is_first (Some first) rest chain.2)
        | inr differs ↦
            rw (ne_eqb first handle differs)
            (next_is_after (Some first) rest handle chain.2 apart.1 (elim found [ inl here ↦ absurd (differs here) | inr there ↦ there ]))
      ]

  -- they lead back to the last handle
  pub prev_is_last : (from : Spot) (handles : List ℕ) → IsChain next prev from handles → prev None ≡ last_from from handles
  prev_is_last from [] chain = chain.1
  prev_is_last from (first ∷ rest) chain = prev_is_last (Some first) rest chain.2

  -- and from each handle to the one that it follows
  pub prev_is_before : (from : Spot) (handles : List ℕ) (handle : ℕ) → IsChain next prev from handles
      → IsIn handle handles → prev (Some handle) ≡ before_from from handle handles
  prev_is_before from [] handle chain found = absurd found
  prev_is_before from (first ∷ rest) handle chain found =
      elim (cases_eq first handle) [
        | inl same ↦ rw (eq-eqb first handle same) (ap (λ k. prev (Some k)) (sym same) ∙ chain.1)
        | inr differs ↦
            rw (ne_eqb first handle differs)
            (prev_is_before (Some first) rest handle chain.2 (elim found [ inl here ↦ absurd (differs here) | inr there ↦ there ]))
      ]

module _ (next prev next' prev' : Spot → Spot) where
  -- a chain stays where the links stay on it
  pub IsChain-kept : (from : Spot) (handles : List ℕ) → IsChain next prev from handles → ((at : Spot) → IsOn from handles at → next' at ≡ next at)
      → ((at : Spot) → IsOn None handles at → prev' at ≡ prev at) → IsChain next' prev' from handles
  IsChain-kept from [] chain nexts prevs = (nexts from (inl refl) ∙ chain.0, prevs None (inl refl) ∙ chain.1)
  IsChain-kept from (first ∷ rest) chain nexts prevs = (
    nexts from (inl refl) ∙ chain.0,
    prevs (Some first) (inr (first, inl refl, refl)) ∙ chain.1,
    IsChain-kept (Some first) rest chain.2
        (λ at on. nexts at (IsOn-cons from first rest at on))
        (λ at on. prevs at (IsOn-more None first rest at on)),
  )

  -- the first handle leaves, and the start is joined to what followed it
  IsChain-skip_first : (from : Spot) (first : ℕ) (rest : List ℕ) → IsChain next prev (Some first) rest → IsApart rest → IsOff rest from
      → Joins next next' from (next (Some first)) → Joins prev prev' (next (Some first)) from → IsChain next' prev' from rest
  IsChain-skip_first from first [] chain apart from_off nexts prevs =
      (nexts.here ∙ chain.0, ap prev' (sym chain.0) ∙ prevs.here)
  IsChain-skip_first from first (second ∷ rest) chain apart from_off nexts prevs = (
    nexts.here ∙ chain.0,
    ap prev' (sym chain.0) ∙ prevs.here,
    IsChain-kept (Some second) rest chain.2
        (λ at on. nexts.others at (λ same.
        off_not_on (Some second) rest from at (from_off second (inl refl)) (λ k there. from_off k (inr there)) on (sym same)))
        (λ at on. prevs.others at (λ same.
        off_not_on None rest (Some second) at (some_not_none second) (IsOff-head second rest apart.0) on (sym (same ∙ chain.0)))),
  )

  -- a handle leaves, and its neighbours are joined
  pub IsChain-skip : (from : Spot) (handles : List ℕ) (handle : ℕ) → IsChain next prev from handles → IsApart handles → IsOff handles from → IsIn handle handles
      → Joins next next' (prev (Some handle)) (next (Some handle))
      → Joins prev prev' (next (Some handle)) (prev (Some handle))
      → IsChain next' prev' from (without handle handles)
  IsChain-skip from [] handle chain apart from_off found nexts prevs = absurd found
  IsChain-skip from (first ∷ rest) handle chain apart from_off found nexts prevs =
      elim (cases_eq first handle) [
        | inl same ↦
            let gone = without_head handle first rest same ∙ without_absent handle rest (λ there. apart.0 (subst (λ k. IsIn k rest) (sym same) there)) in
            subst (λ ks. IsChain next' prev' from ks) (sym gone)
            (IsChain-skip_first from first rest chain.2 apart.1 (λ k there. from_off k (inr there))
            (rw (← same, chain.1) at nexts) (rw (← same, chain.1) at prevs))
        | inr differs ↦
            let there : IsIn handle rest = elim found [ inl here ↦ absurd (differs here) | inr later ↦ later ] in
            let first_off = IsOff-head first rest apart.0 in
            subst (λ ks. IsChain next' prev' from ks) (sym (without_past handle first rest differs)) (
              nexts.others from (off_not_on (Some first) rest from _ (from_off first (inl refl))
                  (λ k later. from_off k (inr later)) (prev_on next prev (Some first) rest handle chain.2 there))
                  ∙ chain.0,
              prevs.others (Some first)
                  (off_not_on None rest (Some first) _ (some_not_none first) first_off
                  (next_on next prev (Some first) rest handle chain.2 there)) ∙ chain.1,
              IsChain-skip (Some first) rest handle chain.2 apart.1 first_off there nexts prevs,
            )
      ]

  -- a handle joins at the end
  pub record Inserts (handle : ℕ) : Type 0 where
    pub into : next' (prev None) ≡ Some handle
    pub out : next' (Some handle) ≡ None
    pub back_into : prev' None ≡ Some handle
    pub back_out : prev' (Some handle) ≡ prev None
    pub nexts : (other : Spot) → other ≢ prev None → other ≢ Some handle → next' other ≡ next other
    pub prevs : (other : Spot) → other ≢ None → other ≢ Some handle → prev' other ≡ prev other

  pub IsChain-push : (from : Spot) (handles : List ℕ) (handle : ℕ) → IsChain next prev from handles → IsApart handles
      → IsOff handles from → ¬ IsIn handle handles → from ≢ Some handle
      → Inserts handle → IsChain next' prev' from (handles ++ handle ∷ [])
  IsChain-push from [] handle chain apart from_off absent other inserts =
      (ap next' (sym chain.1) ∙ inserts.into, inserts.back_out ∙ chain.1, (inserts.out, inserts.back_into))
  IsChain-push from (first ∷ rest) handle chain apart from_off absent other inserts =
      let new : Some first ≢ Some handle = λ same. absent (inl (same_Some first handle same)) in (
        inserts.nexts from (off_not_on (Some first) rest from _ (from_off first (inl refl))
            (λ k later. from_off k (inr later)) (prev_end_on next prev (Some first) rest chain.2)) other ∙ chain.0,
        inserts.prevs (Some first) (some_not_none first) new ∙ chain.1,
        IsChain-push (Some first) rest handle chain.2 apart.1 (IsOff-head first rest apart.0) (λ later. absent (inr later)) new inserts,
      )
