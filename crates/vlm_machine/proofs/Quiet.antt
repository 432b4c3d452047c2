-- A lock that is granted at once where nobody is queued leaves nothing to sweep.
use Rattle.std.proofs.Common.{◌≡◌, ◌&&◌, ℕ, Bool, true, false, cond, find, List, [], ◌∷◌, ◌++◌, Option, None, Some, refl, unwrap_or}
use Rattle.std.specs.List.{AllByRecursion, list_any}
use Rattle.std.proofs.lemmas.Bool.{and_parts}
use Rattle.vlm_words.specs.declared.locks.Request.{Request}
use Rattle.vlm_words.specs.declared.locks.LockState.{LockState}
use Rattle.vlm_words.specs.declared.resources.Site.{Site}
use Rattle.vlm_model.specs.Asts.{has_to_warn, blocks_a_request, is_to_warn}
use Rattle.vlm_model.specs.Enqueue.{is_at_once, is_free_for, resource_after_entry, resources_after_entry}
use Rattle.vlm_words.specs.Flags.{expedite, flag_bits, has_flag}
use Rattle.vlm_words.specs.Rows.{fits, is_empty}
use Rattle.vlm_model.specs.Grants.{service}
use Rattle.vlm_words.specs.Resources.{is_at, new_resource}
use Rattle.vlm_model.specs.Stable.{IsStable}
use Rattle.vlm_words.specs.State.{Resource}

-- nobody is warned where nobody is queued
none_blocks : (rows : List LockState) → list_any (is_to_warn [] []) rows ≡ false
unfolding is_to_warn
none_blocks [] = refl
none_blocks (row ∷ rows) = rw (of_row row.armed row.held) (none_blocks rows)
  where
    of_row : (armed : Bool) (held : Option Request) → (armed && blocks_a_request held [] []) ≡ false
    of_row true None = refl
    of_row true (Some held) = refl
    of_row false held = refl

-- a resource with a lock more among the granted ones, on which nobody is queued, is stable
stable_with : (base : Resource) (granted : List LockState) (row : LockState) (converting waiting : List LockState)
    → is_empty converting ≡ true → is_empty waiting ≡ true
    → IsStable (record base { granted = granted ++ row ∷ []; converting = converting; waiting = waiting })
unfolding service has_to_warn
stable_with base granted row [] [] none_converts none_waits = record {
  served = refl;
  warned = none_blocks (granted ++ row ∷ []);
  occupied = of_granted granted;
}
  where
    of_granted : (rows : List LockState) → (is_empty (rows ++ row ∷ []) && true && true) ≡ false
    of_granted [] = refl
    of_granted (first ∷ rest) = refl
stable_with base granted row [] (x ∷ rest) none_converts none_waits = cc
stable_with base granted row (x ∷ rest) waiting none_converts none_waits = cc

-- so is one that a lock enters at once, unless the lock is expedited
entered_quiet : (request : Request) (row : LockState) (r : Resource) → is_at_once request r ≡ true → has_flag (flag_bits request.flags) expedite ≡ false
    → IsStable (resource_after_entry row true r)
unfolding is_at_once resource_after_entry
entered_quiet request row r at_once plain =
    let free : is_free_for request r ≡ true = rw plain at at_once in
    let parts = and_parts (fits request.mode r.granted r.converting && is_empty r.converting) (is_empty r.waiting) free in
    let first = and_parts (fits request.mode r.granted r.converting) (is_empty r.converting) parts.0 in
    stable_with r r.granted _ r.converting r.waiting first.1 parts.1

-- then all resources are stable
pub all_quiet : (request : Request) (serial : ℕ) (site : Site) (row : LockState) (rs : List Resource) → AllByRecursion IsStable rs
    → is_at_once request (unwrap_or (find (is_at site.key) rs) (new_resource serial site)) ≡ true → has_flag (flag_bits request.flags) expedite ≡ false
    → AllByRecursion IsStable (resources_after_entry serial site row true rs)
all_quiet request serial site row [] stable at_once plain = (entered_quiet request row (new_resource serial site) at_once plain, tt)
all_quiet request serial site row (r ∷ rest) stable at_once plain =
    of_test (is_at site.key r) (λ now. all_quiet request serial site row rest stable.1 now plain) at_once
  where
    of_test : (here : Bool)
        → (is_at_once request (unwrap_or (find (is_at site.key) rest) (new_resource serial site)) ≡ true
        → AllByRecursion IsStable (resources_after_entry serial site row true rest))
        → is_at_once request (unwrap_or (cond here (Some r) (find (is_at site.key) rest)) (new_resource serial site)) ≡ true
        → AllByRecursion IsStable (cond here (resource_after_entry row true r ∷ rest) (r ∷ resources_after_entry serial site row true rest))
    of_test true later now = (entered_quiet request row r now plain, stable.1)
    of_test false later now = (stable.0, later now)
