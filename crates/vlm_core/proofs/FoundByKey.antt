-- A resource that is found by its key is the one of the plain machine.
use Rattle.std.proofs.Common.{◌≡◌, ◌<◌, ◌==◌, ℕ, Bool, true, false, List, find, None, Some, IfSome, refl, sym, ap, ◌∙◌, subst, inl, inr, eq-eqb, arith}
use Rattle.std.specs.Prelude.{if◌then◌else◌}
use Rattle.std.proofs.lemmas.Bool.{cases_eq}
use Rattle.std.specs.Option.{option_map}
use Rattle.vlm_words.specs.declared.resources.Domain.{Domain}
use Rattle.vlm_words.specs.declared.resources.Key.{Key}
use Rattle.vlm_words.specs.declared.resources.Key.TheVariants.{Below, Root}
use Rattle.vlm_words.specs.Resources.{IsKeyed, is_at}
use Rattle.vlm_words.specs.State.{Resource}
use Rattle.vlm_store.specs.Plain.{plain_resource, plain_resources}
use Rattle.vlm_store.specs.Records.{FindsResource, IsSound, Records, resource_at}
use Rattle.vlm_store.proofs.Records.{resource_is}
use Rattle.vlm_queue.specs.Walks.{plain_resource_at}
use Rattle.vlm_locks.specs.Rest.{IsAtRest}
use Rattle.vlm_locks.proofs.Keyed.{finds_none, finds_one}
use Rattle.vlm_core.specs.Readers.{key_of}

module _ {X : Type 0} (read : Resource → X) (domain : Domain) (key : Key) (keyed : IsKeyed domain key) (s : Records) (rest : IsAtRest s) where
  -- what is read of the resource under the key is read of the one that the plain machine finds
  pub key_read : IsSound s → (res : ℕ) → FindsResource s key (Some res) → (told : X) → IfSome (plain_resource_at res s) (λ r. told ≡ read r)
      → Some told ≡ option_map read (find (is_at key) (plain_resources s))
  key_read sound res found told is_read =
      let here : resource_at res s.resources ≡ Some found.0 =
      subst (λ at. resource_at at s.resources ≡ Some found.0) found.1.1
      (resource_is found.0 s.resources sound.resources_apart found.1.0) in
      let is : told ≡ read (plain_resource found.0) = subst (λ o. IfSome (option_map plain_resource o) (λ r. told ≡ read r)) here is_read in
      ap Some is ∙ sym (ap (option_map read) (finds_one domain key keyed s rest sound res found found.0 here))

  -- where no resource has its key there is no such resource
  pub key_missing : FindsResource s key None → None ≡ option_map read (find (is_at key) (plain_resources s))
  key_missing free = sym (ap (option_map read) (finds_none domain key keyed s rest free))

-- the key of a resource fits the domain of its root
pub key_fits : (parent : ℕ) (domain : Domain) (name : List ℕ) → IsKeyed domain (key_of parent domain name)
key_fits parent domain name = of_test (parent == 0) refl
  where
    positive : (n : ℕ) → (n == 0) ≡ false → 0 < n
    positive n differs =
        elim (cases_eq n 0) [
          | inl is ↦ (let never : true ≡ false = sym (eq-eqb n 0 is) ∙ differs in cc)
          | inr apart ↦ omega (arith, apart)
        ]

    of_test : (test : Bool) → (parent == 0) ≡ test → IsKeyed domain (if test then Root domain name else Below parent name)
    of_test true is = refl
    of_test false is = positive parent is
