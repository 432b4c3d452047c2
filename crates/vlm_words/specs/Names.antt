-- The names of resources.
use Rattle.std.specs.Prelude.{ℕ, Bool, ◌&&◌, List, length, nat_lt, nat_le, Result, Ok, Err, if◌then◌else◌}
use Rattle.vlm_words.specs.declared.conditions.Cond.{Cond}
use Rattle.vlm_words.specs.declared.conditions.Cond.TheVariants.{Ivbuflen}

-- a resource name has 1 to 31 bytes
abbrev pub is_name : List ℕ → Bool
is_name bytes = nat_lt 0 (length bytes) && nat_le (length bytes) 31

-- the bytes as a name, or IVBUFLEN
unfoldable pub name_of : List ℕ → Result (List ℕ) Cond
name_of bytes = if is_name bytes then Ok bytes else Err Ivbuflen
