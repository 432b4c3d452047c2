-- The keys and sites of resources, and a new resource.
use Rattle.std.specs.Prelude.{◌≡◌, ◌<◌, ℕ, Bool, true, false, ◌&&◌, ◌==◌, List, []}
use Rattle.std.specs.Cmp.Lexicographic.{pointwise}
use Rattle.vlm_words.specs.declared.resources.Domain.TheVariants.{Group, System}
use Rattle.vlm_words.specs.declared.resources.Domain.{Domain}
use Rattle.vlm_words.specs.declared.resources.Key.TheVariants.{Root, Below}
use Rattle.vlm_words.specs.declared.resources.Key.{Key}
use Rattle.vlm_words.specs.declared.resources.Site.{Site}
use Rattle.vlm_words.specs.ValueBlocks.{new_value_block}
use Rattle.vlm_words.specs.State.{Resource}

-- the domains are equal
abbrev pub is_domain : Domain → Domain → Bool
is_domain (Group a) (Group b) = a == b
is_domain (Group a) System = false
is_domain System (Group b) = false
is_domain System System = true

-- the resource has this key
abbrev pub is_at : Key → Resource → Bool
is_at (Root domain name) r = (r.parent == 0) && is_domain r.domain domain && pointwise ◌==◌ r.name name
is_at (Below parent name) r = (r.parent == parent) && pointwise ◌==◌ r.name name

-- the serial of the parent resource, or 0 for a root
abbrev pub key_parent : Key → ℕ
key_parent (Root domain name) = 0
key_parent (Below parent name) = parent

-- the name in the key
abbrev pub key_name : Key → List ℕ
key_name (Root domain name) = name
key_name (Below parent name) = name

-- a new resource: no locks, and a value block of zeros, all valid
abbrev pub new_resource : ℕ → Site → Resource
new_resource serial site = record {
  serial = serial;
  parent = key_parent site.key;
  domain = site.domain;
  name = key_name site.key;
  level = site.level;
  value_block = new_value_block;
  granted = [];
  converting = [];
  waiting = [];
}

-- the key fits the domain: a root names this domain, a sub-resource names a parent
abbrev pub IsKeyed : Domain → Key → Type 0
IsKeyed domain (Root own name) = domain ≡ own
IsKeyed domain (Below parent name) = 0 < parent
