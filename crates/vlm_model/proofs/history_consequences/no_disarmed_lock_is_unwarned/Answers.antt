use Rattle.std.proofs.Common.{◌≡◌, ◌≢◌, ◌⊎◌, inl, inr, ℕ, List, ◌++◌, Option, Some, subst, refl}
use Rattle.std.specs.Prelude.{All, Any, Contains}
use Rattle.std.proofs.lemmas.List.Elements.{All-contains, Contains-append_cases, Contains-append_left, Contains-append_right}
use Rattle.vlm_words.specs.declared.locks.LockState.{LockState}
use Rattle.vlm_words.specs.declared.locks.Request.{Request}
use Rattle.vlm_words.specs.declared.asts.AstKind.TheVariants.{Blocking}
use Rattle.vlm_words.specs.State.{Resource, State}
use Rattle.vlm_model.specs.Asts.{Queued}
use Rattle.vlm_model.specs.Endings.{Ending}
use Rattle.vlm_model.specs.Granted.{IsGrantTo}
use Rattle.vlm_model.specs.Runs.{History, Run, begin, next}
use Rattle.vlm_model.specs.Stepped.{outcome_endings, outcome_queued}
use Rattle.vlm_model.specs.WarnedSince.{EachGrantIsArmedOrWarned, IsArmedOrWarned, IsTold, IsWarningOf, QueuedSince, and_then, at_grant}
use Rattle.vlm_model.proofs.history_consequences.no_disarmed_lock_is_unwarned.Goals as goal

-- what was queued since a grant was queued in the run
queued_in_run : {lkid pid : ℕ} {held : Request} {history : History} {last : State} {run : Run history last} {since : List Queued}
    → QueuedSince lkid pid held history last run since → (q : Queued) → Contains since q → Contains history.queued q
queued_in_run (at_grant {history} run outcome granted) q has = Contains-append_right history.queued (outcome_queued outcome) q has
queued_in_run (and_then {history} {queued = since} run outcome earlier) q has =
    elim (Contains-append_cases since (outcome_queued outcome) q has) [
      | inl before ↦ Contains-append_left history.queued (outcome_queued outcome) q (queued_in_run earlier q before)
      | inr after ↦ Contains-append_right history.queued (outcome_queued outcome) q after
    ]

-- the grant is in the run
granted_in_run : {lkid pid : ℕ} {held : Request} {history : History} {last : State} {run : Run history last} {since : List Queued}
    → QueuedSince lkid pid held history last run since → Any (IsGrantTo lkid pid held) history.endings
granted_in_run (at_grant {history} run outcome granted) =
    let has = Contains-append_right history.endings (outcome_endings outcome) granted.1 (granted.0, granted.2, granted.3) in
    (has.0, granted.1, has.1, has.2, granted.4)
granted_in_run (and_then {history} run outcome earlier) =
    let granted = granted_in_run earlier in
    let has = Contains-append_left history.endings (outcome_endings outcome) granted.1 (granted.0, granted.2, granted.3) in
    (has.0, granted.1, has.1, has.2, granted.4)

-- the grant is in the run before the last step, or the last step queued what was queued since
abbrev SaidOfLast : ℕ → ℕ → Request → {history : History} {last : State} → Run history last → List Queued → Type 0
SaidOfLast lkid pid held begin since = ⊥
SaidOfLast lkid pid held (next {history} run outcome) since =
    Any (IsGrantTo lkid pid held) history.endings ⊎ (since ≡ outcome_queued outcome)

-- so it is of each run
said_of_last : {lkid pid : ℕ} {held : Request} {history : History} {last : State} {run : Run history last} {since : List Queued}
    → QueuedSince lkid pid held history last run since → SaidOfLast lkid pid held run since
said_of_last (at_grant run outcome granted) = inr refl
said_of_last (and_then run outcome earlier) = inl (granted_in_run earlier)

-- what the law says of a lock that holds the request
told_of : {history : History} {last : State} (run : Run history last) (r : Resource) (row : LockState) (held : Request) (routine : ℕ)
    → EachGrantIsArmedOrWarned run → Contains last.resources r → Contains (r.granted ++ r.converting) row → row.held ≡ Some held
    → held.blocking ≡ Some routine → IsArmedOrWarned row.lkid row.pid row.armed held routine run
told_of {history} {last} run r row held routine law there here holds names =
    let at = All-contains (λ (r : Resource). All (λ (row : LockState). IsTold run row.lkid row.pid row.armed row.held) (r.granted ++ r.converting))
    last.resources r law there in
    let told : IsTold run row.lkid row.pid row.armed row.held =
    All-contains (λ (row : LockState). IsTold run row.lkid row.pid row.armed row.held) (r.granted ++ r.converting) row at here in
    subst (λ (held : Option Request). IsTold run row.lkid row.pid row.armed held) holds told routine names

pub returns-clause-ever : goal.returns-clause-ever
returns-clause-ever c = λ history last run r row held routine law there here holds names disarmed unwarned.
    let told = told_of run r row held routine law there here holds names in
    elim told.warning [
      | inl armed ↦ cc
      | inr warned ↦
          let warning : IsWarningOf row.lkid row.pid held routine warned.1 = warned.4 in
          All-contains (λ (q : Queued). q.ast.kind ≡ Blocking → q.pid ≡ row.pid → q.ast.lkid ≡ row.lkid → q.ast.routine ≡ routine
          → q.ast.param ≢ held.param) history.queued warned.1 unwarned
          (queued_in_run told.queued warned.1 (warned.0, warned.2, warned.3)) warning.kind warning.process warning.lock
          warning.routine_named warning.param
    ]

pub returns-clause-since : goal.returns-clause-since
returns-clause-since c = λ history old new step answer run outcome r row held routine law there here holds names disarmed ungranted unwarned.
    let told = told_of (next run outcome) r row held routine law there here holds names in
    elim told.warning [
      | inl armed ↦ cc
      | inr warned ↦
          let warning : IsWarningOf row.lkid row.pid held routine warned.1 = warned.4 in
          elim (said_of_last told.queued) [
            | inl granted ↦
                let grant : IsGrantTo row.lkid row.pid held granted.1 = granted.4 in
                All-contains (λ (ending : Ending). ending.lkid ≡ row.lkid → ending.request ≢ held) history.endings granted.1 ungranted
                (granted.0, granted.2, granted.3) grant.lock grant.whole
            | inr last ↦
                let has : Contains (outcome_queued outcome) warned.1 =
                subst (λ (queued : List Queued). Contains queued warned.1) last (warned.0, warned.2, warned.3) in
                All-contains (λ (q : Queued). q.ast.kind ≡ Blocking → q.ast.lkid ≢ row.lkid) (outcome_queued outcome) warned.1 unwarned has
                warning.kind warning.lock
          ]
    ]
