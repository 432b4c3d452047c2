-- The value of a map of bound names.
use Rattle.std.specs.Prelude.{ℕ, List, map}
use Rattle.indexmap.specs.IndexMap.{IndexMap}
use Rattle.vlm_script.specs.Scripts.{Binding}

-- the bindings in the order of insertion
abbrev pub bindings_of : {S : Type 0} → IndexMap (List ℕ) ℕ S → List Binding
bindings_of names = map (λ e. record { name = e.0; pid = e.1 }) names.entries
