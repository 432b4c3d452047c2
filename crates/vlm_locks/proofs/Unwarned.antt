-- Only a lock in a list of armed locks may have to be warned.
use Rattle.std.proofs.Common.{◌≡◌, ℕ, Bool, true, false, nat_lt, List, [], ◌∷◌, Option, None, Some, IfSome, if◌then◌else◌, refl, sym, subst}
use Rattle.std.specs.Prelude.{◌&&◌, ◌||◌}
use Rattle.std.specs.List.{list_any}
use Rattle.vlm_words.specs.declared.locks.Request.{Request}
use Rattle.vlm_words.specs.declared.locks.LockState.{LockState}
use Rattle.vlm_words.specs.declared.modes.Mode.{Mode}
use Rattle.vlm_words.specs.declared.modes.Mode.TheVariants.{Nl, Cr, Cw, Pr, Pw, Ex}
use Rattle.vlm_model.specs.Asts.{blocks_a_request, is_to_warn}
use Rattle.vlm_words.specs.Rows.{blocks_request}
use Rattle.vlm_words.specs.Modes.{is_compatible, rank}
use Rattle.vlm_records.specs.declared.handles.Armed.{Armed}
use Rattle.vlm_records.specs.declared.handles.Armed.TheVariants.{AboveNl, AboveCr}
use Rattle.vlm_records.specs.Armed.{floor, held_rank, is_listed}
use Rattle.vlm_store.specs.Records.{Records, resource_at, rows_of_locks}
use Rattle.vlm_locks.specs.Warning.{SparesOthers}

-- NL keeps nothing out
nl_fits : (mode : Mode) → is_compatible mode Nl ≡ true
unfolding is_compatible
nl_fits Nl = refl
nl_fits Cr = refl
nl_fits Cw = refl
nl_fits Pr = refl
nl_fits Pw = refl
nl_fits Ex = refl

nl_admits : (want : Option Request) → blocks_request Nl want ≡ false
nl_admits None = refl
nl_admits (Some want) = rw (nl_fits want.mode) refl

nl_admits_all : (rows : List LockState) → list_any (λ row. blocks_request Nl row.want) rows ≡ false
nl_admits_all [] = refl
nl_admits_all (row ∷ rows) = rw (nl_admits row.want) (nl_admits_all rows)

module _ (converting waiting : List LockState) where
  -- a lock that holds the mode is in nobody's way
  abbrev pub IsFree : Mode → Type 0
  IsFree mode = (list_any (λ row. blocks_request mode row.want) converting || list_any (λ row. blocks_request mode row.want) waiting) ≡ false

  nl_is_free : IsFree Nl
  nl_is_free = rw (nl_admits_all converting, nl_admits_all waiting) refl

  free_above_nl : (mode : Mode) → nat_lt 0 (rank mode) ≡ false → IsFree mode
  free_above_nl Nl low = nl_is_free
  free_above_nl Cr low = cc
  free_above_nl Cw low = cc
  free_above_nl Pr low = cc
  free_above_nl Pw low = cc
  free_above_nl Ex low = cc

  free_above_cr : IsFree Cr → (mode : Mode) → nat_lt 1 (rank mode) ≡ false → IsFree mode
  free_above_cr cr Nl low = nl_is_free
  free_above_cr cr Cr low = cr
  free_above_cr cr Cw low = cc
  free_above_cr cr Pr low = cc
  free_above_cr cr Pw low = cc
  free_above_cr cr Ex low = cc

  -- where no mode below a list is in anybody's way, nobody is to be warned but those in the list
  spared : (which : Armed) → ((mode : Mode) → nat_lt (floor which) (rank mode) ≡ false → IsFree mode)
      → (row : LockState) → is_listed which row ≡ false → is_to_warn converting waiting row ≡ false
  unfolding is_to_warn
  spared which free row unlisted = of_parts row.armed row.held unlisted
    where
      of_parts : (armed : Bool) (held : Option Request)
          → nat_lt (floor which) (if armed then held_rank held else 0) ≡ false
          → (armed && blocks_a_request held converting waiting) ≡ false
      of_parts false held low = refl
      of_parts true None low = refl
      of_parts true (Some held) low = free held.mode low

pub spares_above_nl : (res : ℕ) (s : Records) → SparesOthers AboveNl res s
spares_above_nl res s r row found =
    spared (rows_of_locks r.converting) (rows_of_locks r.waiting) AboveNl (free_above_nl (rows_of_locks r.converting) (rows_of_locks r.waiting)) row

pub spares_above_cr : (res : ℕ) (s : Records) → IfSome (resource_at res s.resources)
    (λ r. false ≡ (list_any (λ row. blocks_request Cr row.want) (rows_of_locks r.converting) || list_any
    (λ row. blocks_request Cr row.want) (rows_of_locks r.waiting)))
    → SparesOthers AboveCr res s
spares_above_cr res s none r row found =
    let cr = subst (λ o. IfSome o
    (λ r. false ≡ (list_any (λ row. blocks_request Cr row.want) (rows_of_locks r.converting) || list_any
    (λ row. blocks_request Cr row.want) (rows_of_locks r.waiting)))) found none in
    spared (rows_of_locks r.converting) (rows_of_locks r.waiting) AboveCr (free_above_cr (rows_of_locks r.converting) (rows_of_locks r.waiting) (sym cr)) row
