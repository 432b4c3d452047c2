-- An accepted conversion that may write the value block is granted at once.
use Rattle.std.proofs.Common.{◌≡◌, ◌≤◌, ◌||◌, ◌⊎◌, ℕ, Bool, true, false, not, List, [], ◌∷◌, ◌++◌, cond, Option, None}
use Rattle.std.proofs.Common.{Some, inl, inr, refl, sym, subst, ap, ◌∙◌, arith}
use Rattle.std.specs.Prelude.{⊤, ◌==◌, Any}
use Rattle.std.specs.List.{AllByRecursion, find, list_all, sum_by}
use Rattle.std.proofs.lemmas.Bool.{and_parts, eqb-true, eq-eqb}
use Rattle.std.proofs.lemmas.List.Sums.{sum_by-cons}
use Rattle.vlm_words.specs.declared.conditions.Cond.TheVariants.{Badparam}
use Rattle.vlm_words.specs.declared.conditions.Cond.{Cond}
use Rattle.vlm_words.specs.declared.locks.Request.{Request}
use Rattle.vlm_words.specs.declared.locks.LockState.{LockState}
use Rattle.vlm_words.specs.declared.modes.Act.TheVariants.{Nothing, Return, Write}
use Rattle.vlm_words.specs.declared.modes.Act.{Act}
use Rattle.vlm_words.specs.declared.modes.Mode.TheVariants.{Nl, Cr, Cw, Pr, Pw, Ex}
use Rattle.vlm_words.specs.declared.modes.Mode.{Mode}
use Rattle.vlm_words.specs.declared.steps.Answer.TheVariants.{Lock}
use Rattle.vlm_words.specs.declared.steps.Conversion.{Conversion}
use Rattle.vlm_words.specs.declared.steps.Step.TheVariants.{Convert}
use Rattle.vlm_words.specs.Modes.{is_compatible, is_queued_legally, value_action}
use Rattle.vlm_words.specs.Flags.{has_flag, quecvt}
use Rattle.vlm_words.specs.State.{Resource, State}
use Rattle.vlm_model.specs.Endings.{Ending}
use Rattle.vlm_words.specs.Rows.{fits, is_beside, is_lock_of, rows_without}
use Rattle.vlm_model.specs.Sweeps.{sweep_endings}
use Rattle.vlm_model.specs.Convert.{ConversionAdmission, admission_among, admission_or, conversion_endings}
use Rattle.vlm_model.specs.Convert.{convert_admission, convert_change, convert_lkid, convert_refusal, convert_request}
use Rattle.vlm_model.specs.Convert.{converts_at_once, is_queued_legally_from, pair_refusal}
use Rattle.vlm_model.specs.Stepped.{Stepped, conversion_change, refused_or, step_change, stepped, stepped_after_sweep}
use Rattle.vlm_model.specs.Runs.{History, Run}
use Rattle.vlm_model.specs.Laws.{AreCompatible, IsGrantedAtOnce, WritesAreGrantedAtOnce, action_from}
use Rattle.vlm_model.proofs.Each.{Any-cases, Any-here, Any-none, Any-weaker, found_at, each_passes, each_weaker}
use Rattle.vlm_model.proofs.Pairs.{each_pair_found}
use Rattle.vlm_model.proofs.PassedChecks.{first_fails, pair_passes, second_passes, test_fails}
use Rattle.vlm_model.proofs.Always.{admission_of}
use Rattle.vlm_model.proofs.Admissions.{admitted_request, some_same}
use Rattle.vlm_model.proofs.HeldModes.{HoldCompatible, HoldersAgree, hold_compatible-comm, holders_agree_always}
use Rattle.vlm_model.proofs.Weights.{weigh}
use Rattle.vlm_model.proofs.IdsApart.{Apart, apart_always, stands, standing}
use Rattle.vlm_model.proofs.Counts.{found_stands}
use Rattle.vlm_model.proofs.GrantsAtOnce.{admitted_at_once, admitted_stands, stands_counted}

-- the six modes
abbrev modes : List Mode
modes = Nl ∷ Cr ∷ Cw ∷ Pr ∷ Pw ∷ Ex ∷ []

-- what holds of all modes holds of each
of_each : (test : Mode → Bool) → list_all test modes ≡ true → (mode : Mode) → test mode ≡ true
of_each test all Nl = (each_passes test modes all).0
of_each test all Cr = (each_passes test modes all).1.0
of_each test all Cw = (each_passes test modes all).1.1.0
of_each test all Pr = (each_passes test modes all).1.1.1.0
of_each test all Pw = (each_passes test modes all).1.1.1.1.0
of_each test all Ex = (each_passes test modes all).1.1.1.1.1.0

-- the action is a write
abbrev is_write : Act → Bool
is_write Nothing = false
is_write Return = false
is_write Write = true

-- where a conversion writes, a mode beside the held one is beside the wanted one too
abbrev stays_beside : Mode → Mode → Mode → Bool
stays_beside held want other = not (is_write (value_action held want)) || (not (is_compatible held other) || is_compatible want other)

-- where a conversion writes, QUECVT does not go with it
abbrev is_not_queued : Mode → Mode → Bool
is_not_queued held want = not (is_write (value_action held want)) || not (is_queued_legally held want)

-- both, by the tables
all_stay_beside : list_all (λ held. list_all (λ want. list_all (λ other. stays_beside held want other) modes) modes) modes ≡ true
unfolding value_action is_compatible
all_stay_beside = refl

all_not_queued : list_all (λ held. list_all (λ want. is_not_queued held want) modes) modes ≡ true
unfolding value_action is_queued_legally
all_not_queued = refl

-- a mode beside the held one is beside the wanted one, where the conversion writes
beside_write : (held want other : Mode) → value_action held want ≡ Write → is_compatible held other ≡ true → is_compatible want other ≡ true
beside_write held want other writes compatible =
    second_passes _ _
    (second_passes _ _
    (of_each (λ m. stays_beside held want m)
    (of_each (λ w. list_all (λ m. stays_beside held w m) modes)
    (of_each (λ h. list_all (λ w. list_all (λ m. stays_beside h w m) modes) modes) all_stay_beside held) want) other)
    (ap is_write writes)) compatible

-- the same of what another row holds
beside_writer : (held : Option Request) (mode : Mode) (other : Option Request) → action_from held mode ≡ Write → AreCompatible held other
    → is_beside mode other ≡ true
beside_writer None mode other writes compatible = cc
beside_writer (Some held) mode None writes compatible = refl
beside_writer (Some held) mode (Some other) writes compatible = beside_write held.mode mode other.mode writes compatible

-- a conversion that writes is not one that QUECVT goes with
write_is_not_queued : (held : Option Request) (mode : Mode) → action_from held mode ≡ Write → is_queued_legally_from held mode ≡ false
write_is_not_queued None mode writes = cc
write_is_not_queued (Some held) mode writes =
    is_false (is_queued_legally held.mode mode)
    (second_passes _ _
    (of_each (λ w. is_not_queued held.mode w) (of_each (λ h. list_all (λ w. is_not_queued h w) modes) all_not_queued held.mode) mode)
    (ap is_write writes))
  where
    is_false : (b : Bool) → not b ≡ true → b ≡ false
    is_false true negated = cc
    is_false false negated = refl

-- a mode that may be held beside every row fits
fits_beside : (mode : Mode) (granted converting : List LockState)
    → AllByRecursion (λ row. is_beside mode row.held ≡ true) (granted ++ converting) → fits mode granted converting ≡ true
unfolding fits
fits_beside mode [] converting each = all_pass converting each
  where
    all_pass : (rows : List LockState) → AllByRecursion (λ row. is_beside mode row.held ≡ true) rows
        → list_all (λ row. is_beside mode row.held) rows ≡ true
    all_pass [] each = refl
    all_pass (row ∷ rows) each = rw each.0 (all_pass rows each.1)
fits_beside mode (row ∷ granted) converting each = rw each.0 (fits_beside mode granted converting each.1)

-- where a lock has one row, what holds of some row of it holds of the row that converts
only_row : (P : LockState → Type 0) (pid lkid : ℕ) (rows : List LockState) (row : LockState) → sum_by (stands lkid) rows ≤ 1
    → find (is_lock_of pid lkid) rows ≡ Some row → Any (λ x. (x.lkid ≡ lkid) × P x) rows → P row
only_row P pid lkid [] row one found some = cc
only_row P pid lkid (x ∷ xs) row one found some =
    of_test (is_lock_of pid lkid x) refl found (Any-cases (λ y. (y.lkid ≡ lkid) × P y) x xs some)
    (λ later there. only_row P pid lkid xs row (omega (arith, one, sum_by-cons (stands lkid) x xs)) later there)
  where
    counted : (y : LockState) → y.lkid ≡ lkid → stands lkid y ≡ 1
    counted y named = ap (λ (b : Bool). cond b 1 0) (eq-eqb y.lkid lkid named)

    others : Any (λ y. (y.lkid ≡ lkid) × P y) xs → 1 ≤ sum_by (stands lkid) xs
    others there = stands_counted lkid xs (Any-weaker (λ y. (y.lkid ≡ lkid) × P y) (λ y. y.lkid ≡ lkid) (λ y both. both.0) xs there)

    of_test : (b : Bool) → is_lock_of pid lkid x ≡ b → cond b (Some x) (find (is_lock_of pid lkid) xs) ≡ Some row
        → ((x.lkid ≡ lkid) × P x) ⊎ Any (λ y. (y.lkid ≡ lkid) × P y) xs
        → (find (is_lock_of pid lkid) xs ≡ Some row → Any (λ y. (y.lkid ≡ lkid) × P y) xs → P row) → P row
    of_test true is at (inl here) behind = (let same : x ≡ row = cc in subst P same here.1)
    of_test true is at (inr there) behind =
        let named : x.lkid ≡ lkid = eqb-true x.lkid lkid (and_parts (x.lkid == lkid) (x.pid == pid) is).0 in
        absurd (omega (arith, one, counted x named, others there, sum_by-cons (stands lkid) x xs))
    of_test false is at (inl here) behind =
        absurd (omega (arith, one, counted x here.0, found_stands pid lkid xs row (found_at (is_lock_of pid lkid) xs row at), sum_by-cons (stands lkid) x xs))
    of_test false is at (inr there) behind = behind at there

-- a lock that stands granted on some resource is counted
all_counted : (P : LockState → Type 0) (lkid : ℕ) (resources : List Resource) → Any (λ r. Any (λ x. (x.lkid ≡ lkid) × P x) r.granted) resources
    → 1 ≤ standing lkid resources
all_counted P lkid [] some = absurd (Any-none (λ (r : Resource). Any (λ x. (x.lkid ≡ lkid) × P x) r.granted) some)
all_counted P lkid (r ∷ rest) some =
    elim (Any-cases (λ (t : Resource). Any (λ x. (x.lkid ≡ lkid) × P x) t.granted) r rest some) [
      | inl here ↦ omega (
        arith,
        stands_counted lkid r.granted (Any-weaker (λ (x : LockState). (x.lkid ≡ lkid) × P x) (λ x. x.lkid ≡ lkid) (λ x both. both.0) r.granted here),
        sum_by-cons (weigh (stands lkid)) r rest,
      )
      | inr there ↦ omega (arith, all_counted P lkid rest there, sum_by-cons (weigh (stands lkid)) r rest)
    ]

-- the same on all resources
pub only_row_among : (P : LockState → Type 0) (request : Request) (pid lkid : ℕ) (a : ConversionAdmission) (resources : List Resource)
    → standing lkid resources ≤ 1 → admission_among request pid lkid resources ≡ Some a
    → Any (λ r. Any (λ x. (x.lkid ≡ lkid) × P x) r.granted) resources → P a.row
only_row_among P request pid lkid a [] one admitted some = cc
only_row_among P request pid lkid a (r ∷ rest) one admitted some =
    of_found (find (is_lock_of pid lkid) r.granted) refl admitted
    (Any-cases (λ (t : Resource). Any (λ x. (x.lkid ≡ lkid) × P x) t.granted) r rest some)
    (λ later there. only_row_among P request pid lkid a rest (omega (arith, one, sum_by-cons (weigh (stands lkid)) r rest)) later there)
  where
    here_counted : Any (λ x. (x.lkid ≡ lkid) × P x) r.granted → 1 ≤ weigh (stands lkid) r
    here_counted here =
        omega (
          arith,
          stands_counted lkid r.granted (Any-weaker (λ x. (x.lkid ≡ lkid) × P x) (λ x. x.lkid ≡ lkid) (λ x both. both.0) r.granted here),
        )

    of_found : (found : Option LockState) → find (is_lock_of pid lkid) r.granted ≡ found
        → admission_or request r found (admission_among request pid lkid rest) ≡ Some a
        → Any (λ x. (x.lkid ≡ lkid) × P x) r.granted ⊎ Any (λ t. Any (λ x. (x.lkid ≡ lkid) × P x) t.granted) rest
        → (admission_among request pid lkid rest ≡ Some a → Any (λ t. Any (λ x. (x.lkid ≡ lkid) × P x) t.granted) rest → P a.row) → P a.row
    of_found None is at (inl here) behind =
        absurd (omega (arith, one, here_counted here, (admitted_stands request pid lkid a rest at).0, sum_by-cons (weigh (stands lkid)) r rest))
    of_found None is at (inr there) behind = behind at there
    of_found (Some row) is at (inl here) behind =
        let fewer : sum_by (stands lkid) r.granted ≤ 1 = omega (arith, one, sum_by-cons (weigh (stands lkid)) r rest) in
        subst (λ (b : ConversionAdmission). P b.row) (some_same _ a at) (only_row P pid lkid r.granted row fewer is here)
    of_found (Some row) is at (inr there) behind =
        absurd (omega (
          arith,
          one,
          found_stands pid lkid r.granted row (found_at (is_lock_of pid lkid) r.granted row is),
          all_counted P lkid rest there,
          sum_by-cons (weigh (stands lkid)) r rest,
        ))

-- what is known of an admitted conversion: the held modes of its resource are compatible, and its lock is granted there
abbrev Known : ℕ → ℕ → Option ConversionAdmission → Type 0
Known pid lkid None = ⊤
Known pid lkid (Some a) = HoldersAgree a.resource × (find (is_lock_of pid lkid) a.resource.granted ≡ Some a.row)

-- it is so of every admission
admission_known : (request : Request) (pid lkid : ℕ) (resources : List Resource) → AllByRecursion HoldersAgree resources
    → Known pid lkid (admission_among request pid lkid resources)
admission_known request pid lkid [] agree = tt
admission_known request pid lkid (r ∷ rest) agree =
    here (find (is_lock_of pid lkid) r.granted) refl (admission_among request pid lkid rest) (admission_known request pid lkid rest agree.1)
  where
    here : (found : Option LockState) → find (is_lock_of pid lkid) r.granted ≡ found → (later : Option ConversionAdmission) → Known pid lkid later
        → Known pid lkid (admission_or request r found later)
    here None is later known = known
    here (Some row) is later known = (agree.0, is)

-- where the held modes of a resource are compatible, a conversion that writes fits there at once
fits_at_write : (c : Conversion) (pid lkid : ℕ) (a : ConversionAdmission) → Known pid lkid (Some a) → action_from a.row.held c.mode ≡ Write
    → fits c.mode (rows_without lkid a.resource.granted) a.resource.converting ≡ true
fits_at_write c pid lkid a known writes =
    let found = found_at (is_lock_of pid lkid) a.resource.granted a.row known.1 in
    fits_beside c.mode (rows_without lkid a.resource.granted) a.resource.converting
    (each_weaker (HoldCompatible a.row) (λ other. is_beside c.mode other.held ≡ true)
    (λ other compatible. beside_writer a.row.held c.mode other.held writes compatible)
    (rows_without lkid a.resource.granted ++ a.resource.converting)
    (each_pair_found HoldCompatible hold_compatible-comm (is_lock_of pid lkid) (λ other. not (other.lkid == lkid)) a.resource.granted
    a.resource.converting a.row (ap not (and_parts _ _ found.passes).0) found known.0))

-- where held modes are compatible, an accepted conversion that writes is granted at once
pub write_at_once : (s : State) (c : Conversion) (a : ConversionAdmission) → AllByRecursion HoldersAgree s.resources → convert_refusal s c ≡ None
    → convert_admission s c ≡ Some a → action_from a.row.held c.mode ≡ Write → a.at_once ≡ true
unfolding convert_admission converts_at_once pair_refusal
write_at_once s c a agree passed admitted writes =
    let lkid : ℕ = convert_lkid s c in
    let known : Known c.pid lkid (Some a) =
    subst (Known c.pid lkid) admitted (admission_known (convert_request s c) c.pid lkid s.resources agree) in
    let unflagged : has_flag c.flags quecvt ≡ false =
    first_fails (has_flag c.flags quecvt) (is_queued_legally_from a.row.held c.mode)
    (test_fails _ Badparam (pair_passes s c a passed admitted)) (write_is_not_queued a.row.held c.mode writes) in
    let named : a.row.lkid ≡ lkid = (admitted_stands (convert_request s c) c.pid lkid a s.resources admitted).1 in
    admitted_at_once (convert_request s c) c.pid lkid a s.resources admitted
    ∙ (rw named (rw (fits_at_write c c.pid lkid a known writes) (rw unflagged refl)))

-- a refused step answers no lock
pub refused_answers_no_lock : (refusal : Option Cond) (s : State) (change : Stepped) (cond : Cond) (lkid : ℕ)
    → (refused_or refusal s change).answer ≡ Lock cond lkid → refusal ≡ None
refused_answers_no_lock None s change cond lkid answer = refl
refused_answers_no_lock (Some refusal) s change cond lkid answer = cc

-- the endings of a conversion that is granted at once begin with its grant
pub at_once_first : (number : ℕ) (a : ConversionAdmission) (more : List Ending) → a.request.number ≡ number → a.at_once ≡ true
    → IsGrantedAtOnce number (conversion_endings a ++ more)
at_once_first number a more numbered at_once =
    rw at_once (Any-here _ _ more (tt, refl, numbered))

-- what an accepted conversion answers and ends
pub made_conversion : (s : State) (c : Conversion) (choice : Option LockState) (a : ConversionAdmission)
    → convert_refusal s c ≡ None → convert_admission s c ≡ Some a
    → stepped s (Convert c) choice ≡ stepped_after_sweep (conversion_change s c (Some a))
made_conversion s c choice a passed admitted =
    ap (λ (refusal : Option Cond). refused_or refusal s (step_change s (Convert c) choice)) passed
    ∙ ap (λ (there : Option ConversionAdmission). stepped_after_sweep (conversion_change s c there)) admitted

-- one answer names one lock
pub lock_same : (first second : Cond) (m n : ℕ) → Lock first m ≡ Lock second n → m ≡ n
lock_same first second m n same = cc

-- where held modes are compatible and IDs apart, accepted conversions that write are granted at once
writes_at_once : (s : State) → AllByRecursion HoldersAgree s.resources → Apart s → WritesAreGrantedAtOnce s
unfolding convert_admission
writes_at_once s agree apart c choice cond lkid chosen answer some =
    let passed : convert_refusal s c ≡ None = refused_answers_no_lock (convert_refusal s c) s (step_change s (Convert c) choice) cond lkid answer in
    let admitted = admission_of s c passed in
    let a : ConversionAdmission = admitted.0 in
    let made : stepped s (Convert c) choice ≡ stepped_after_sweep (conversion_change s c (Some a)) = made_conversion s c choice a passed admitted.1 in
    let named : convert_lkid s c ≡ lkid =
    lock_same _ cond (convert_lkid s c) lkid (sym (ap (λ (t : Stepped). t.answer) made) ∙ answer) in
    let writes : action_from a.row.held c.mode ≡ Write =
    only_row_among (λ row. action_from row.held c.mode ≡ Write) (convert_request s c) c.pid (convert_lkid s c) a s.resources
    (apart.one_row (convert_lkid s c)) admitted.1
    (subst (λ (n : ℕ). Any (λ r. Any (λ row. (row.lkid ≡ n) × (action_from row.held c.mode ≡ Write)) r.granted) s.resources) (sym named) some) in
    subst (λ (t : Stepped). IsGrantedAtOnce s.next_request t.endings) (sym made)
    (at_once_first s.next_request a (sweep_endings (convert_change s c a).resources)
    (ap (λ (q : Request). q.number) (admitted_request (convert_request s c) c.pid (convert_lkid s c) a s.resources admitted.1))
    (write_at_once s c a agree passed admitted.1 writes))

-- after every run
pub writes_at_once_always : (history : History) (old : State)
    → Run history old → WritesAreGrantedAtOnce old
writes_at_once_always history old run =
    writes_at_once old (holders_agree_always history old run) (apart_always history old run)
