-- What a map of bound names shows, as names are looked up and bound.
use Rattle.std.proofs.Common.{◌≡◌, ◌∙◌, ℕ, Bool, true, false, cond, nat_eq, List, [], ◌∷◌, ◌++◌, map, None, Some, Result, Ok, Err, IsOk, OnOk, refl, ap}
use Rattle.std.proofs.lemmas.List.{map-append}
use Rattle.std.specs.Cmp.Lexicographic.{pointwise, nat_list_eq_equiv}
use Rattle.std.specs.List.{find}
use Rattle.std.specs.Map.{lookup}
use Rattle.std.specs.Option.{option_map}
use Rattle.indexmap.specs.IndexMap.{IndexMap, get, insert_entry}
use Rattle.indexmap.proofs.CallerLemmas.{insert_entry-new}
use Rattle.vlm_lines.specs.Lines.{is_text}
use Rattle.vlm_script.specs.Scripts.{Binding, bound_to}
use Rattle.vlm_script.specs.Bindings.{bindings_of}

-- an entry of the map, as a binding
abbrev binding : List ℕ × ℕ → Binding
binding e = record { name = e.0; pid = e.1 }

module _ (name : List ℕ) where
  found : (entries : List (List ℕ × ℕ)) → lookup (pointwise nat_eq name) entries ≡ bound_to (map binding entries) name
  found [] = refl
  found (e ∷ entries) =
      ap (λ same. cond same (Some e.1) (lookup (pointwise nat_eq name) entries)) (nat_list_eq_equiv.symm name e.0)
      ∙ first (is_text e.0 name) (found entries)
    where
      first : (same : Bool) → lookup (pointwise nat_eq name) entries ≡ bound_to (map binding entries) name
          → cond same (Some e.1) (lookup (pointwise nat_eq name) entries)
          ≡ option_map (λ (b : Binding). b.pid) (cond same (Some (binding e)) (find (λ b. is_text b.name name) (map binding entries)))
      first true rest = refl
      first false rest = rest

  module _ {S : Type 0} (names : IndexMap (List ℕ) ℕ S) where
    -- what the map has at a name is the process that it is bound to
    pub get-bound : get (pointwise nat_eq) names name ≡ bound_to (bindings_of names) name
    get-bound = found names.entries

    -- a new name is the last
    pub bindings-inserted : (new : IndexMap (List ℕ) ℕ S) (pid : ℕ) → bound_to (bindings_of names) name ≡ None
        → new.entries ≡ insert_entry (pointwise nat_eq) names.entries name pid
        → bindings_of new ≡ bindings_of names ++ record { name = name; pid = pid } ∷ []
    bindings-inserted new pid unbound inserted =
        ap (map binding) (inserted ∙ insert_entry-new (pointwise nat_eq) names name pid (get-bound ∙ unbound))
        ∙ map-append binding names.entries ((name, pid) ∷ [])

-- what holds on an answer that is there
pub on_ok : {T E P : Type 0} (r : Result T E) → IsOk r → OnOk r P → P
on_ok (Ok x) is p = p
on_ok (Err e) is p = cc
