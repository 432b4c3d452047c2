-- The keys of resources.
use Rattle.std.specs.Prelude.{◌≡◌, ◌+◌, ◌&&◌, ◌==◌, ℕ, Bool, false, nat_eq, refl}
use Rattle.std.specs.Bool.{Decides}
use Rattle.std.specs.Cmp.{unsigned_Decides}
use Rattle.std.specs.Cmp.Lexicographic.{bytes_decides, pointwise}
use Rattle.std.proofs.Common.{ap}
use Rattle.std.proofs.lemmas.Bool.{and_from, and_parts}
use Rattle.vlm_words.specs.declared.resources.Domain.{Domain}
use Rattle.vlm_words.specs.declared.resources.Domain.TheVariants.{Group, System}
use Rattle.vlm_words.specs.declared.resources.Key.{Key}
use Rattle.vlm_words.specs.declared.resources.Key.TheVariants.{Root, Below}
use Rattle.vlm_words.specs.Resources.{is_domain}

-- the keys are equal
abbrev pub is_same_key : Key → Key → Bool
is_same_key (Root a name) (Root b other) = is_domain a b && pointwise nat_eq name other
is_same_key (Root a name) (Below q other) = false
is_same_key (Below p name) (Root b other) = false
is_same_key (Below p name) (Below q other) = (p == q) && pointwise nat_eq name other

-- the name space as one number: groups come first, the system's domain after them, and parent resources far above
abbrev pub name_space : Key → ℕ
name_space (Root (Group group) name) = group
name_space (Root System name) = 65536
name_space (Below parent name) = 4294967296 + parent

is_domain-Decides : (a b : Domain) → Decides (is_domain a b) (a ≡ b)
is_domain-Decides (Group a) (Group b) = (λ h. ap Group ((unsigned_Decides a b).0 h), λ e. (unsigned_Decides a b).1 (cc))
is_domain-Decides (Group a) System = (λ h. cc, λ e. cc)
is_domain-Decides System (Group b) = (λ h. cc, λ e. cc)
is_domain-Decides System System = (λ h. refl, λ e. refl)

-- the comparison decides equality
pub is_same_key-Decides : (a b : Key) → Decides (is_same_key a b) (a ≡ b)
is_same_key-Decides (Root a name) (Root b other) = (
  λ h.
      let parts = and_parts (is_domain a b) (pointwise nat_eq name other) h in
      let domain = (is_domain-Decides a b).0 parts.0 in
      let text = (bytes_decides name other).0 parts.1 in
      cc,
  λ e. and_from (is_domain a b) (pointwise nat_eq name other) ((is_domain-Decides a b).1 (cc))
      ((bytes_decides name other).1 (cc)),
)
is_same_key-Decides (Root a name) (Below q other) = (λ h. cc, λ e. cc)
is_same_key-Decides (Below p name) (Root b other) = (λ h. cc, λ e. cc)
is_same_key-Decides (Below p name) (Below q other) = (
  λ h.
      let parts = and_parts (p == q) (pointwise nat_eq name other) h in
      let parent = (unsigned_Decides p q).0 parts.0 in
      let text = (bytes_decides name other).0 parts.1 in
      cc,
  λ e. and_from (p == q) (pointwise nat_eq name other) ((unsigned_Decides p q).1 (cc))
      ((bytes_decides name other).1 (cc)),
)
