-- After every step nothing is left to grant.
use Rattle.std.proofs.Common.{◌≡◌, ◌&&◌, Bool, true, false, List, [], ◌∷◌, ◌++◌, Option, None, Some, refl, sym, subst, ◌∙◌, map}
use Rattle.std.specs.Prelude.{⊤, Any}
use Rattle.std.specs.List.{AllByRecursion, list_all}
use Rattle.std.proofs.lemmas.List.{append-nil}
use Rattle.std.proofs.lemmas.Bool.{cond_both}
use Rattle.std.proofs.lemmas.List.Folds.{list_all-append}
use Rattle.std.proofs.lemmas.List.Elements.{All-from_recursion}
use Rattle.vlm_words.specs.declared.locks.Request.{Request}
use Rattle.vlm_words.specs.declared.locks.LockState.{LockState}
use Rattle.vlm_words.specs.declared.modes.Mode.{Mode}
use Rattle.vlm_words.specs.State.{Resource, State}
use Rattle.vlm_words.specs.Rows.{fits, is_beside, is_empty}
use Rattle.vlm_model.specs.Grants.{no_service, resource_after_grant, service, service_after_grant}
use Rattle.vlm_model.specs.Grants.{service_of_conversions, service_of_new_requests, service_of_waiting, wanted_fits}
use Rattle.vlm_model.specs.Runs.{History, Run}
use Rattle.vlm_model.specs.Laws.{Conflicts, HeadsDoNotFit, IsBeside, NothingIsLeftToGrant}
use Rattle.vlm_model.proofs.Each.{each_weaker, Any-here, Any-there}
use Rattle.vlm_model.proofs.EachResource.{KeptByChanges, each_always}
use Rattle.vlm_model.specs.Asts.{resource_after_warning, row_after_warning}
use Rattle.vlm_model.specs.Effects.{with_value_block}
use Rattle.vlm_model.proofs.Warned.{fits_warned}

-- the first conversion, if there is one, does not fit
abbrev pub FirstConversionWaits : List LockState → List LockState → Type 0
FirstConversionWaits granted [] = ⊤
FirstConversionWaits granted (row ∷ rows) = wanted_fits row.want granted rows ≡ false

-- after the conversions are served, the first that is left does not fit
pub serve_converting_stops : (r : Resource) (rows : List LockState) → r.converting ≡ rows
    → FirstConversionWaits (service_of_conversions r rows).resource.granted (service_of_conversions r rows).resource.converting
serve_converting_stops r [] is = subst (FirstConversionWaits r.granted) (sym is) tt
serve_converting_stops r (row ∷ rows) is =
    cond_both (wanted_fits row.want r.granted rows)
    (service_after_grant row (service_of_conversions (record (resource_after_grant r row) { converting = rows }) rows)) (no_service r)
    (λ left. FirstConversionWaits left.resource.granted left.resource.converting)
    (λ _. serve_converting_stops (record (resource_after_grant r row) { converting = rows }) rows refl)
    (λ waits. subst (FirstConversionWaits r.granted) (sym is) waits)

-- the first conversion does not fit; where there is none, the first new request does not
abbrev pub HeadsWait : List LockState → List LockState → List LockState → Type 0
HeadsWait granted [] [] = ⊤
HeadsWait granted [] (row ∷ rows) = wanted_fits row.want granted [] ≡ false
HeadsWait granted (row ∷ rows) waiting = wanted_fits row.want granted rows ≡ false

-- the first request of each queue does not fit
abbrev pub NothingFits : Resource → Type 0
NothingFits r = HeadsWait r.granted r.converting r.waiting

-- with no conversion queued, after the waiting queue is served, the first that is left does not fit
pub serve_waiting_stops : (r : Resource) (rows : List LockState) → r.converting ≡ [] → r.waiting ≡ rows → NothingFits (service_of_waiting r rows).resource
serve_waiting_stops r [] none is =
    subst (λ converting. HeadsWait r.granted converting r.waiting) (sym none) (subst (HeadsWait r.granted []) (sym is) tt)
serve_waiting_stops r (row ∷ rows) none is =
    cond_both (wanted_fits row.want r.granted r.converting)
    (service_after_grant row (service_of_waiting (record (resource_after_grant r row) { waiting = rows }) rows)) (no_service r)
    (λ left. NothingFits left.resource)
    (λ _. serve_waiting_stops (record (resource_after_grant r row) { waiting = rows }) rows none refl)
    (λ waits.
    subst (λ converting. HeadsWait r.granted converting r.waiting) (sym none)
    (subst (HeadsWait r.granted []) (sym is)
    (subst (λ converting. wanted_fits row.want r.granted converting ≡ false) none waits)))

-- an empty queue is the empty list
pub is_empty-true : (rows : List LockState) → is_empty rows ≡ true → rows ≡ []
is_empty-true [] empty = refl
is_empty-true (row ∷ rows) empty = cc

-- a conversion that waits keeps the waiting queue from being served
waiting_behind : (granted converting waiting : List LockState) → is_empty converting ≡ false → FirstConversionWaits granted converting
    → HeadsWait granted converting waiting
waiting_behind granted [] waiting some waits = cc
waiting_behind granted (row ∷ rows) waiting some waits = waits

-- serving leaves nothing that fits
pub served_stops : (r : Resource) → NothingFits (service r).resource
unfolding service
served_stops r = new_requests (service_of_conversions r r.converting).resource (serve_converting_stops r r.converting refl)
  where
    new_requests : (left : Resource) → FirstConversionWaits left.granted left.converting → NothingFits (service_of_new_requests left).resource
    new_requests left waits =
        cond_both (is_empty left.converting) (service_of_waiting left left.waiting) (no_service left) (λ more. NothingFits more.resource)
        (λ empty. serve_waiting_stops left left.waiting (is_empty-true left.converting empty) refl)
        (λ some. waiting_behind left.granted left.converting left.waiting some waits)

-- and warnings make nothing fit
pub warned_stops : (r : Resource) → NothingFits r → NothingFits (resource_after_warning r)
unfolding resource_after_warning
warned_stops r waits = of_queues r.converting r.waiting waits
  where
    warned : List LockState
    warned = map (row_after_warning r.converting r.waiting) r.granted

    wanted : (want : Option Request) (others : List LockState) → wanted_fits want warned others ≡ wanted_fits want r.granted others
    wanted None others = refl
    wanted (Some request) others = fits_warned request.mode r.converting r.waiting r.granted others

    of_queues : (converting waiting : List LockState) → HeadsWait r.granted converting waiting → HeadsWait warned converting waiting
    of_queues [] [] waits = tt
    of_queues [] (row ∷ rows) waits = wanted row.want [] ∙ waits
    of_queues (row ∷ rows) waiting waits = wanted row.want rows ∙ waits

-- a test that not all rows pass, some row does not pass
some_fails : (test : LockState → Bool) (P : LockState → Type 0) → ((row : LockState) → test row ≡ false → P row) → (rows : List LockState)
    → list_all test rows ≡ false → Any P rows
some_fails test P fails [] failed = cc
some_fails test P fails (row ∷ rows) failed =
    elim (test row) as (λ b. test row ≡ b → (b && list_all test rows) ≡ false → Any P (row ∷ rows)) [
      | true ↦ λ _ later. Any-there P row rows (some_fails test P fails rows later)
      | false ↦ λ here _. Any-here P row rows (fails row here)
    ] refl failed

-- a mode that may not be held beside what a row holds
not_beside : (mode : Mode) (row : LockState) → is_beside mode row.held ≡ false → IsBeside mode row.held → ⊥
not_beside mode row fails = conflict row.held fails
  where
    conflict : (held : Option Request) → is_beside mode held ≡ false → IsBeside mode held → ⊥
    conflict None fails beside = cc
    conflict (Some held) fails beside = cc

-- what does not fit conflicts with what some row holds
conflicts : (want : Option Request) (granted converting : List LockState) → wanted_fits want granted converting ≡ false
    → Conflicts want (granted ++ converting)
unfolding fits
conflicts None granted converting waits = tt
conflicts (Some request) granted converting waits =
    some_fails (λ row. is_beside request.mode row.held) (λ row. IsBeside request.mode row.held → ⊥) (not_beside request.mode)
    (granted ++ converting) (list_all-append (λ row. is_beside request.mode row.held) granted converting ∙ waits)

-- heads that wait conflict with what is held
heads_conflict : (r : Resource) → NothingFits r → HeadsDoNotFit r.granted r.converting r.waiting
heads_conflict r = heads r.granted r.converting r.waiting
  where
    heads : (granted converting waiting : List LockState) → HeadsWait granted converting waiting → HeadsDoNotFit granted converting waiting
    heads granted [] [] waits = tt
    heads granted [] (row ∷ rows) waits = subst (Conflicts row.want) (append-nil granted) (conflicts row.want granted [] waits)
    heads granted (row ∷ rows) waiting waits = conflicts row.want granted rows waits

-- every change keeps what says nothing
pub kept_by_all : KeptByChanges (λ _. ⊤)
kept_by_all = record {
  fresh = λ _ _. tt;
  entry = λ _ _ _ _. tt;
  conversion = λ _ _ _ _ _ _ _. tt;
  leaving = λ _ _ _. tt;
  going = λ _ _ _. tt;
}

-- after every run nothing is left to grant, by recursion
pub nothing_fits_always : (history : History) (last : State)
    → Run history last → AllByRecursion NothingFits last.resources
nothing_fits_always history last run =
    each_always (λ _. ⊤) NothingFits (λ _ _. tt)
    (λ block r _. warned_stops (with_value_block block (service r).resource)
    (served_stops r)) kept_by_all history last run

-- after every run nothing is left to grant
pub nothing_left_always : (history : History) (last : State)
    → Run history last → NothingIsLeftToGrant last
nothing_left_always history last run =
    All-from_recursion (λ r. HeadsDoNotFit r.granted r.converting r.waiting) last.resources
    (each_weaker NothingFits (λ r. HeadsDoNotFit r.granted r.converting r.waiting) heads_conflict last.resources
    (nothing_fits_always history last run))
