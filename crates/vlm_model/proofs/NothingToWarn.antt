-- After every step nobody is left to warn.
use Rattle.std.proofs.Common.{◌≡◌, ◌&&◌, Bool, true, false, not, List, [], ◌∷◌, ◌++◌, Option, None, Some, refl, subst}
use Rattle.std.specs.Prelude.{All}
use Rattle.std.specs.List.{AllByRecursion, list_any}
use Rattle.std.proofs.lemmas.Bool.{or_parts}
use Rattle.std.proofs.lemmas.List.Elements.{All-from_recursion}
use Rattle.vlm_words.specs.declared.locks.Request.{Request}
use Rattle.vlm_words.specs.declared.locks.LockState.{LockState}
use Rattle.vlm_words.specs.Modes.{is_compatible}
use Rattle.vlm_words.specs.State.{Resource, State}
use Rattle.vlm_model.specs.Asts.{has_to_warn, blocks_a_request, is_to_warn}
use Rattle.vlm_words.specs.Rows.{blocks_request}
use Rattle.vlm_model.specs.Runs.{History, Run}
use Rattle.vlm_model.specs.Laws.{AreCompatible, IsInNobodysWay, NothingIsLeftToWarn}
use Rattle.vlm_model.proofs.Each.{each_append, each_weaker}
use Rattle.vlm_model.proofs.Stable.{unwarned_always}

not_not : (b : Bool) → not b ≡ false → b ≡ true
not_not true is = refl
not_not false is = cc

-- what keeps no request out is compatible with each
none_kept_out : (held : Request) (rows : List LockState) → list_any (λ row. blocks_request held.mode row.want) rows ≡ false
    → AllByRecursion (λ row. AreCompatible row.want (Some held)) rows
none_kept_out held [] none = tt
none_kept_out held (row ∷ rows) none =
    let parts = or_parts (blocks_request held.mode row.want) (list_any (λ x. blocks_request held.mode x.want) rows) none in
    (of_want row.want parts.0, none_kept_out held rows parts.1)
  where
    of_want : (want : Option Request) → blocks_request held.mode want ≡ false → AreCompatible want (Some held)
    of_want None out = tt
    of_want (Some want) out = not_not (is_compatible want.mode held.mode) out

-- a row that holds nothing is in nobody's way
nothing_held : (rows : List LockState) → AllByRecursion (λ row. AreCompatible row.want None) rows
nothing_held [] = tt
nothing_held (row ∷ rows) = (of_want row.want, nothing_held rows)
  where
    of_want : (want : Option Request) → AreCompatible want None
    of_want None = tt
    of_want (Some want) = tt

-- an armed row that is not to be warned is in nobody's way
in_nobodys_way : (converting waiting : List LockState) (row : LockState) → is_to_warn converting waiting row ≡ false
    → IsInNobodysWay (converting ++ waiting) row
unfolding is_to_warn
in_nobodys_way converting waiting row none armed =
    All-from_recursion (λ other. AreCompatible other.want row.held) (converting ++ waiting)
    (of_held row.held (subst (λ (b : Bool). (b && blocks_a_request row.held converting waiting) ≡ false) armed none))
  where
    of_held : (held : Option Request) → blocks_a_request held converting waiting ≡ false
        → AllByRecursion (λ other. AreCompatible other.want held) (converting ++ waiting)
    of_held None out = nothing_held (converting ++ waiting)
    of_held (Some held) out =
        let parts = or_parts (list_any (λ x. blocks_request held.mode x.want) converting) (list_any (λ x. blocks_request held.mode x.want) waiting) out in
        each_append (λ other. AreCompatible other.want (Some held)) converting waiting
        (none_kept_out held converting parts.0) (none_kept_out held waiting parts.1)

-- each granted row of a resource on which nobody is to be warned
all_in_nobodys_way : (r : Resource) → has_to_warn r ≡ false → All (IsInNobodysWay (r.converting ++ r.waiting)) r.granted
unfolding has_to_warn
all_in_nobodys_way r none = All-from_recursion (IsInNobodysWay (r.converting ++ r.waiting)) r.granted (each r.granted none)
  where
    each : (rows : List LockState) → list_any (is_to_warn r.converting r.waiting) rows ≡ false
        → AllByRecursion (IsInNobodysWay (r.converting ++ r.waiting)) rows
    each [] out = tt
    each (row ∷ rows) out =
        let parts = or_parts (is_to_warn r.converting r.waiting row) (list_any (is_to_warn r.converting r.waiting) rows) out in
        (in_nobodys_way r.converting r.waiting row parts.0, each rows parts.1)

-- after every run nobody is left to warn
pub nothing_to_warn_always : (history : History) (last : State) → Run history last → NothingIsLeftToWarn last
nothing_to_warn_always history last run =
    All-from_recursion (λ r. All (IsInNobodysWay (r.converting ++ r.waiting)) r.granted) last.resources
    (each_weaker (λ r. has_to_warn r ≡ false) (λ r. All (IsInNobodysWay (r.converting ++ r.waiting)) r.granted) all_in_nobodys_way last.resources
    (unwarned_always history last run))
