-- The resources and queues that the structs and numbers of C name.
use Rattle.std.specs.Prelude.{ℕ, List, ◌==◌, ◌&&◌, nat_le, take, Option, Some, None, if◌then◌else◌}
use Rattle.std.specs.Result.{result_ok}
use Rattle.vlm_words.specs.declared.resources.Queue.{Queue}
use Rattle.vlm_words.specs.declared.resources.Queue.TheVariants.{Granted, Conversion, Waiting}
use Rattle.vlm_words.specs.declared.resources.Domain.{Domain}
use Rattle.vlm_words.specs.declared.resources.Domain.TheVariants.{Group, System}
use Rattle.vlm_words.specs.Names.{name_of}
use Rattle.vlm_capi.specs.declared.resource_keys.ResourceKey.{ResourceKey}
use Rattle.vlm_capi.specs.declared.shown.VlmResource.{VlmResource}

unfoldable pub queue_of : ℕ → Option Queue
queue_of n =
    if n == 0 then Some Granted
    else (if n == 1 then Some Conversion
    else (if n == 2 then Some Waiting else None))

-- the domain of a resource: the system's, or a group's
abbrev pub domain_of : ℕ → ℕ → Domain
domain_of is_system group = if is_system == 1 then System else Group group

-- the key with this name, if it is one
abbrev pub key_with : VlmResource → Option (List ℕ) → Option ResourceKey
key_with w None = None
key_with w (Some name) = Some (record { parent = w.parent; domain = domain_of w.is_system w.group; name = name })

-- the struct has its size, and its numbers fit
unfoldable pub key_of : VlmResource → Option ResourceKey
key_of w =
    if (w.size == 144) && nat_le w.is_system 1 && nat_le w.group 65535 && nat_le w.name_len 32
    then key_with w (result_ok (name_of (take 32 (take w.name_len w.name)))) else None
