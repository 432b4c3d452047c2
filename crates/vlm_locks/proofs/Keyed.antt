-- A resource of the store is found by its handle among the plain resources.
use Rattle.std.proofs.Common.{◌≡◌, ◌≢◌, ◌⊎◌, ◌<◌, ℕ, Bool, List, [], ◌∷◌, map, find, true, false, ◌&&◌, None, Some}
use Rattle.std.proofs.Common.{refl, sym, ap, ◌∙◌, inl, inr, ne_eqb, nat_eq, arith}
use Rattle.std.specs.Cmp.Lexicographic.{pointwise}
use Rattle.vlm_words.specs.declared.resources.Domain.{Domain}
use Rattle.vlm_words.specs.declared.resources.Key.{Key}
use Rattle.vlm_words.specs.declared.resources.Key.TheVariants.{Root, Below}
use Rattle.vlm_model.specs.Enqueue.{has_resource}
use Rattle.vlm_words.specs.Keys.{is_same_key, is_same_key-Decides}
use Rattle.vlm_words.specs.Resources.{is_at, is_domain, IsKeyed}
use Rattle.vlm_collections.specs.Lists.{IsIn}
use Rattle.vlm_store.specs.Plain.{plain_resource, plain_resources}
use Rattle.vlm_store.specs.Records.{FindsResource, IsSound, Records, StoredResource, resource_at}
use Rattle.vlm_locks.proofs.FoundByHandle.{resource_alone}
use Rattle.vlm_locks.specs.Rest.{IsAtRest}
use Rattle.vlm_locks.proofs.QueuedLocks.{resource_among}

-- each of the resources is in the domain of its key
abbrev pub AreKeyed : List StoredResource → Type 0
AreKeyed rs = (r : StoredResource) → IsIn r rs → IsKeyed r.domain r.key

-- no resource of the list stands under the handle
abbrev pub IsKeyFree : Key → List StoredResource → Type 0
IsKeyFree key rs = (r : StoredResource) → IsIn r rs → r.key ≢ key

-- a resource in the domain of its key stands under just that key
same_key : (r : StoredResource) (own key : Key) (domain : Domain) → IsKeyed r.domain own → IsKeyed domain key
    → is_at key (plain_resource (record r { key = own })) ≡ is_same_key own key
same_key r (Root a name) (Root b other) domain own_under_handle keyed = ap (λ d. is_domain d b && pointwise nat_eq name other) own_under_handle
same_key r (Root a name) (Below q other) domain own_under_handle keyed = rw (ne_eqb 0 q (λ e. absurd (positive q keyed e))) refl
  where
    positive : (n : ℕ) → 0 < n → 0 ≢ n
    positive n some e = omega arith
same_key r (Below p name) (Root b other) domain own_under_handle keyed = rw (ne_eqb p 0 (λ e. absurd (positive p own_under_handle e))) refl
  where
    positive : (n : ℕ) → 0 < n → n ≢ 0
    positive n some e = omega arith
same_key r (Below p name) (Below q other) domain own_under_handle keyed = refl

module _ (domain : Domain) (key : Key) (keyed : IsKeyed domain key) where
  -- a resource stands under the handle, or under another
  pub key_cases : (r : StoredResource) → IsKeyed r.domain r.key
      → ((is_at key (plain_resource r) ≡ true) × (r.key ≡ key)) ⊎ ((is_at key (plain_resource r) ≡ false) × (r.key ≢ key))
  key_cases r own_under_handle = of_test (is_same_key r.key key) (same_key r r.key key domain own_under_handle keyed) refl
    where
      of_test : (test : Bool) → is_at key (plain_resource r) ≡ is_same_key r.key key → is_same_key r.key key ≡ test
          → ((is_at key (plain_resource r) ≡ true) × (r.key ≡ key)) ⊎ ((is_at key (plain_resource r) ≡ false) × (r.key ≢ key))
      of_test true at is = inl (at ∙ is, (is_same_key-Decides r.key key).0 is)
      of_test false at is = inr (at ∙ is, λ same. let test = (is_same_key-Decides r.key key).1 same in cc)

  -- the one resource under the handle is found
  pub find-key : (rs : List StoredResource) (r : StoredResource) → AreKeyed rs → IsIn r rs → r.key ≡ key
      → ((x : StoredResource) → IsIn x rs → x.key ≡ key → x ≡ r) → find (is_at key) (map plain_resource rs) ≡ Some (plain_resource r)
  find-key [] r all among same only = absurd among
  find-key (x ∷ rest) r all among same only =
      elim (key_cases x (all x (inl refl))) [
        | inl here ↦ rw (here.0) (ap (λ y. Some (plain_resource y)) (only x (inl refl) here.1))
        | inr other ↦
            rw (other.0)
            (elim among [
              | inl is ↦ absurd (other.1 (ap (λ (y : StoredResource). y.key) is ∙ same))
              | inr there ↦ find-key rest r (λ y in_rest. all y (inr in_rest)) there same (λ y in_rest. only y (inr in_rest))
            ])
      ]

  -- under a free handle none is found
  pub find-free : (rs : List StoredResource) → AreKeyed rs → IsKeyFree key rs → find (is_at key) (map plain_resource rs) ≡ None
  find-free [] all free = refl
  find-free (x ∷ rest) all free =
      elim (key_cases x (all x (inl refl))) [
        | inl here ↦ absurd (free x (inl refl) here.1)
        | inr other ↦ rw (other.0) (find-free rest (λ y there. all y (inr there)) (λ y there. free y (inr there)))
      ]

  -- some resource stands under the handle of one
  has-key : (rs : List StoredResource) (r : StoredResource) → AreKeyed rs → IsIn r rs → r.key ≡ key → has_resource key (map plain_resource rs) ≡ true
  has-key [] r all among same = absurd among
  has-key (x ∷ rest) r all among same =
      elim (key_cases x (all x (inl refl))) [
        | inl here ↦ rw (here.0) refl
        | inr other ↦
            rw (other.0)
            (elim among [
              | inl is ↦ absurd (other.1 (ap (λ (y : StoredResource). y.key) is ∙ same))
              | inr there ↦ has-key rest r (λ y in_rest. all y (inr in_rest)) there same
            ])
      ]

  -- none stands under a free handle
  has-free : (rs : List StoredResource) → AreKeyed rs → IsKeyFree key rs → has_resource key (map plain_resource rs) ≡ false
  has-free [] all free = refl
  has-free (x ∷ rest) all free =
      elim (key_cases x (all x (inl refl))) [
        | inl here ↦ absurd (free x (inl refl) here.1)
        | inr other ↦ rw (other.0) (has-free rest (λ y there. all y (inr there)) (λ y there. free y (inr there)))
      ]

  module _ (s : Records) (rest : IsAtRest s) where
    -- where no resource has the key, the plain machine finds none
    pub finds_none : FindsResource s key None → find (is_at key) (plain_resources s) ≡ None
    finds_none free = find-free s.resources rest.keyed free

    -- and knows of none
    pub has_none : FindsResource s key None → has_resource key (plain_resources s) ≡ false
    has_none free = has-free s.resources rest.keyed free

    -- where a resource has the key, the plain machine finds it
    pub finds_one : IsSound s → (res : ℕ) → FindsResource s key (Some res) → (r : StoredResource) → resource_at res s.resources ≡ Some r
        → find (is_at key) (plain_resources s) ≡ Some (plain_resource r)
    finds_one sound res found r here =
        find-key s.resources r rest.keyed (resource_among res s.resources r here) (own_handle sound res found r here)
        (λ x among same. resource_alone res s.resources r x sound.resources_apart here among
        (sound.keys_apart x found.0 among found.1.0 (same ∙ sym found.1.2) ∙ found.1.1))
      where
        own_handle : (sound : IsSound s) (res : ℕ) (found : FindsResource s key (Some res)) (r : StoredResource)
            → resource_at res s.resources ≡ Some r → r.key ≡ key
        own_handle sound res found r here =
            ap (λ (y : StoredResource). y.key) (sym (resource_alone res s.resources r found.0 sound.resources_apart here found.1.0 found.1.1)) ∙ found.1.2

    -- and knows of it
    pub has_one : (res : ℕ) → FindsResource s key (Some res) → has_resource key (plain_resources s) ≡ true
    has_one res found = has-key s.resources found.0 rest.keyed found.1.0 found.1.2
