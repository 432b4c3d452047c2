-- The stored form of a link.
use Rattle.std.specs.Prelude.{◌≡◌, ℕ, ◌==◌, Option, None, Some, if◌then◌else◌}
use Rattle.std.proofs.Common.{refl, sym, inl, inr, eq-eqb, ne_eqb}
use Rattle.std.proofs.lemmas.Bool.{cases_eq}

-- the stored handle; the greatest number of four bytes stores that there is no handle
abbrev pub handle_in : ℕ → Option ℕ
handle_in raw = if raw == 4294967295 then None else Some raw

-- the number that stores a handle, or that there is no handle
abbrev pub raw_handle : Option ℕ → ℕ
raw_handle None = 4294967295
raw_handle (Some handle) = handle

-- a stored handle is stored again unchanged
pub raw_handle-handle_in : (raw : ℕ) → raw_handle (handle_in raw) ≡ raw
raw_handle-handle_in raw =
    elim (cases_eq raw 4294967295) [
      | inl none ↦ rw (eq-eqb raw 4294967295 none) (sym none)
      | inr some ↦ rw (ne_eqb raw 4294967295 some) refl
    ]
