-- What a conversion that is refused breaks, and that one that is accepted breaks nothing.
use Rattle.std.proofs.Common.{◌≡◌, ◌≢◌, ◌≤◌, ◌+◌, ◌^◌, ◌⊎◌, ◌&&◌, ◌||◌, ℕ, Bool, true, false, not, cond, List, [], ◌∷◌}
use Rattle.std.proofs.Common.{◌++◌, Option, None, Some, inl, inr, refl, sym, ap, subst, ◌∙◌, arith}
use Rattle.std.specs.Prelude.{◌==◌, Any, nat_lt}
use Rattle.std.specs.List.{AllByRecursion, find, list_all, list_any, sum_by}
use Rattle.std.proofs.lemmas.Bool.{and_from, and_parts, eq-eqb, not-false, not-true, true≢false}
use Rattle.std.proofs.lemmas.Bool.Decides.{nat_tests}
use Rattle.std.proofs.lemmas.List.Elements.{recursion_from_All}
use Rattle.std.proofs.lemmas.List.Sums.{sum_by-cons}
use Rattle.vlm_words.specs.declared.conditions.Cond.TheVariants.{Accvio, Badparam, Cvtungrant, Departed, Ivlockid, Nolockid, Nonexpr, Notqueued}
use Rattle.vlm_words.specs.declared.conditions.Cond.{Cond}
use Rattle.vlm_words.specs.declared.locks.Request.{Request}
use Rattle.vlm_words.specs.declared.locks.LockState.{LockState}
use Rattle.vlm_words.specs.declared.modes.Mode.{Mode}
use Rattle.vlm_words.specs.declared.steps.Conversion.{Conversion}
use Rattle.vlm_words.specs.Flags.{enq_bits, flag_bits, has_flag, is_known, noqueue, quecvt}
use Rattle.vlm_words.specs.State.{Resource, State}
use Rattle.vlm_words.specs.Rows.{fits, is_beside, is_empty, is_lock_of, rows_without}
use Rattle.vlm_model.specs.Checks.{caller_refusal, lock_refusal, queue_refusal, request_flags_refusal}
use Rattle.vlm_model.specs.Checks.{request_numbers_refusal, status_block_refusal, which_refusal}
use Rattle.vlm_model.specs.Convert.{ConversionAdmission, admission_among, admission_or, admission_refusal}
use Rattle.vlm_model.specs.Convert.{convert_admission, convert_lkid, convert_refusal, convert_request, converts_at_once}
use Rattle.vlm_model.specs.Convert.{is_queued_legally_from, pair_refusal}
use Rattle.vlm_model.specs.Laws.{ConvertsInTurn, IsBeside, Stands}
use Rattle.vlm_model.specs.Reasons.{ConversionBreaks, HasLock, IsAmong, IsGrantedSomewhere, IsNotQueuedFrom, IsNotQueuedLegally}
use Rattle.vlm_model.proofs.Each.{Any-cases, Any-here, Any-none, Any-there, Any-weaker, found_at}
use Rattle.vlm_model.proofs.PassedChecks.{both_pass, second_fails, test_fails, test_passes}
use Rattle.vlm_model.proofs.Admissions.{some_same}
use Rattle.vlm_model.proofs.Holders.{is_lock}
use Rattle.vlm_model.proofs.Weights.{weigh}
use Rattle.vlm_model.proofs.IdsApart.{Apart, standing, stands}
use Rattle.vlm_model.proofs.Counts.{found_stands}
use Rattle.vlm_model.proofs.GrantsAtOnce.{admitted_at_once, admitted_stands, converts_in_turn, only_there, stands_counted}
use Rattle.vlm_model.proofs.FlagBits.{request_flag_unknown, request_flags_known}
use Rattle.vlm_model.proofs.Refusals.{Any_found, IsCaller, Says, among_found, block_passes, caller_passes, is_somebody}
use Rattle.vlm_model.proofs.Refusals.{lock_is, lock_passes, none_found, says_block, says_caller, says_either, says_lock}
use Rattle.vlm_model.proofs.Refusals.{says_some, says_unless, says_where, says_which, which_passes}

-- ---- the lock that is granted

-- an admitted conversion is that of a row that is granted on one of the resources
record IsAdmitted (pid lkid : ℕ) (a : ConversionAdmission) (resources : List Resource) : Type 0 where
  found : find (is_lock_of pid lkid) a.resource.granted ≡ Some a.row
  few : weigh (stands lkid) a.resource ≤ standing lkid resources
  there : Any (λ r. r ≡ a.resource) resources

-- as admissions are made
is_admitted : (request : Request) (pid lkid : ℕ) (a : ConversionAdmission) (resources : List Resource)
    → admission_among request pid lkid resources ≡ Some a → IsAdmitted pid lkid a resources
is_admitted request pid lkid a [] is = cc
is_admitted request pid lkid a (r ∷ rest) is =
    of_found (find (is_lock_of pid lkid) r.granted) refl (admission_among request pid lkid rest) (is_admitted request pid lkid a rest) is
  where
    of_found : (found : Option LockState) → find (is_lock_of pid lkid) r.granted ≡ found → (later : Option ConversionAdmission)
        → (later ≡ Some a → IsAdmitted pid lkid a rest) → admission_or request r found later ≡ Some a → IsAdmitted pid lkid a (r ∷ rest)
    of_found None at later behind is =
        let admitted : IsAdmitted pid lkid a rest = behind is in
        record {
          found = admitted.found;
          few = omega (arith, admitted.few, sum_by-cons (weigh (stands lkid)) r rest);
          there = Any-there (λ x. x ≡ a.resource) r rest admitted.there;
        }
    of_found (Some row) at later behind is =
        subst (λ (b : ConversionAdmission). IsAdmitted pid lkid b (r ∷ rest)) (some_same _ a is)
        (record {
          found = at;
          few = omega (arith, sum_by-cons (weigh (stands lkid)) r rest);
          there = Any-here (λ x. x ≡ r) r rest refl;
        })

-- where none is admitted, none is granted
none_admitted : (request : Request) (pid lkid : ℕ) (resources : List Resource) → admission_among request pid lkid resources ≡ None
    → Any (λ r. IsAmong lkid pid r.granted) resources → ⊥
none_admitted request pid lkid [] is any = Any-none (λ r. IsAmong lkid pid r.granted) any
none_admitted request pid lkid (r ∷ rest) is any =
    of_found (find (is_lock_of pid lkid) r.granted) refl is (none_admitted request pid lkid rest)
  where
    none_passes : (rows : List LockState) → AllByRecursion (λ row. is_lock_of pid lkid row ≡ false) rows → list_any (is_lock_of pid lkid) rows ≡ false
    none_passes [] each = refl
    none_passes (row ∷ rows) each = rw each.0 (none_passes rows each.1)

    of_found : (found : Option LockState) → find (is_lock_of pid lkid) r.granted ≡ found
        → admission_or request r found (admission_among request pid lkid rest) ≡ None
        → (admission_among request pid lkid rest ≡ None → Any (λ x. IsAmong lkid pid x.granted) rest → ⊥) → ⊥
    of_found None at is behind =
        elim (Any-cases (λ x. IsAmong lkid pid x.granted) r rest any) [
          | inl here ↦ true≢false (sym (among_found pid lkid r.granted here) ∙ none_passes r.granted (none_found (is_lock_of pid lkid) r.granted at))
          | inr later ↦ behind is later
        ]
    of_found (Some row) at is behind = cc

-- where a lock has one row, that is the one that is found
one_row : (pid lkid : ℕ) (P : LockState → Type 0) (rows : List LockState) (row : LockState) → sum_by (stands lkid) rows ≤ 1
    → find (is_lock_of pid lkid) rows ≡ Some row → Any (λ x. ((x.lkid ≡ lkid) × (x.pid ≡ pid)) × P x) rows → P row
one_row pid lkid P [] row one is any = cc
one_row pid lkid P (x ∷ xs) row one is any =
    of_test (is_lock_of pid lkid x) refl is (Any-cases (λ y. ((y.lkid ≡ lkid) × (y.pid ≡ pid)) × P y) x xs any)
    (λ found. one_row pid lkid P xs row (omega (arith, one, sum_by-cons (stands lkid) x xs)) found)
  where
    behind_counted : Any (λ y. ((y.lkid ≡ lkid) × (y.pid ≡ pid)) × P y) xs → 1 ≤ sum_by (stands lkid) xs
    behind_counted later =
        stands_counted lkid xs (Any-weaker (λ y. ((y.lkid ≡ lkid) × (y.pid ≡ pid)) × P y) (λ y. y.lkid ≡ lkid) (λ y so. so.0.0) xs later)

    of_test : (b : Bool) → is_lock_of pid lkid x ≡ b → cond b (Some x) (find (is_lock_of pid lkid) xs) ≡ Some row
        → (((x.lkid ≡ lkid) × (x.pid ≡ pid)) × P x) ⊎ Any (λ y. ((y.lkid ≡ lkid) × (y.pid ≡ pid)) × P y) xs
        → (find (is_lock_of pid lkid) xs ≡ Some row → Any (λ y. ((y.lkid ≡ lkid) × (y.pid ≡ pid)) × P y) xs → P row) → P row
    of_test true here found (inl so) behind = let same : x ≡ row = cc in subst P same so.1
    of_test true here found (inr later) behind =
        let counted : stands lkid x ≡ 1 = ap (λ (b : Bool). cond b 1 0) (and_parts (x.lkid == lkid) (x.pid == pid) here).0 in
        absurd (omega (arith, one, counted, behind_counted later, sum_by-cons (stands lkid) x xs))
    of_test false here found (inl so) behind =
        absurd (true≢false (sym (is_lock pid lkid x so.0) ∙ here))
    of_test false here found (inr later) behind = behind found later

-- ---- its turn

-- a mode that may be held beside what is held passes the test
pub beside_passes : (mode : Mode) (held : Option Request) → IsBeside mode held → is_beside mode held ≡ true
beside_passes mode None so = refl
beside_passes mode (Some held) so = so

-- beside the other rows it passes
others_pass : (mode : Mode) (lkid : ℕ) (rows : List LockState) → AllByRecursion (λ row. row.lkid ≢ lkid → IsBeside mode row.held) rows
    → list_all (λ row. is_beside mode row.held) (rows_without lkid rows) ≡ true
others_pass mode lkid [] each = refl
others_pass mode lkid (row ∷ rows) each = of_test (row.lkid == lkid) refl (others_pass mode lkid rows each.1)
  where
    of_test : (b : Bool) → (row.lkid == lkid) ≡ b → list_all (λ x. is_beside mode x.held) (rows_without lkid rows) ≡ true
        → list_all (λ x. is_beside mode x.held) (cond (not b) (row ∷ rows_without lkid rows) (rows_without lkid rows)) ≡ true
    of_test true is behind = behind
    of_test false is behind =
        and_from (is_beside mode row.held) (list_all (λ x. is_beside mode x.held) (rows_without lkid rows))
        (beside_passes mode row.held (each.0 (λ same. true≢false (sym (eq-eqb row.lkid lkid same) ∙ is)))) behind

-- where the lock has no row, all rows are others
absent_pass : (mode : Mode) (lkid : ℕ) (rows : List LockState) → sum_by (stands lkid) rows ≡ 0
    → AllByRecursion (λ row. row.lkid ≢ lkid → IsBeside mode row.held) rows → list_all (λ row. is_beside mode row.held) rows ≡ true
absent_pass mode lkid [] none each = refl
absent_pass mode lkid (row ∷ rows) none each =
    let all : sum_by (stands lkid) (row ∷ rows) ≡ stands lkid row + sum_by (stands lkid) rows = sum_by-cons (stands lkid) row rows in
    and_from (is_beside mode row.held) (list_all (λ x. is_beside mode x.held) rows)
    (beside_passes mode row.held
    (each.0 (λ same. let one : stands lkid row ≡ 1 = ap (λ (b : Bool). cond b 1 0) (eq-eqb row.lkid lkid same) in omega (arith, one, all, none))))
    (absent_pass mode lkid rows (omega (arith, all, none)) each.1)

-- an empty queue
nothing_queued : (rows : List LockState) → rows ≡ [] → is_empty rows ≡ true
nothing_queued rows none = rw none refl

-- a conversion of a granted lock that has one row is granted at once in its turn
pub turn_passes : (c : Conversion) (request : Request) (lkid : ℕ) (r : Resource) → request.mode ≡ c.mode → flag_bits request.flags ≡ c.flags
    → 1 ≤ sum_by (stands lkid) r.granted → weigh (stands lkid) r ≤ 1 → ConvertsInTurn c lkid r → converts_at_once request lkid r ≡ true
unfolding converts_at_once fits
turn_passes c request lkid r mode flags granted one turn =
    and_from (list_all (λ x. is_beside request.mode x.held) (rows_without lkid r.granted) && list_all (λ x. is_beside request.mode x.held) r.converting)
    (not (has_flag (flag_bits request.flags) quecvt) || is_empty r.converting)
    (and_from (list_all (λ x. is_beside request.mode x.held) (rows_without lkid r.granted)) (list_all (λ x. is_beside request.mode x.held) r.converting)
    (others_pass request.mode lkid r.granted (each_left r.granted r.converting each))
    (absent_pass request.mode lkid r.converting
    (omega (arith, one, granted)) (each_right r.granted r.converting each)))
    (overtakes (has_flag (flag_bits request.flags) quecvt) refl)
  where
    Beside : LockState → Type 0
    Beside x = x.lkid ≢ lkid → IsBeside request.mode x.held

    each : AllByRecursion Beside (r.granted ++ r.converting)
    each =
        subst (λ (m : Mode). AllByRecursion (λ x. x.lkid ≢ lkid → IsBeside m x.held) (r.granted ++ r.converting)) (sym mode)
        (recursion_from_All (λ x. x.lkid ≢ lkid → IsBeside c.mode x.held) (r.granted ++ r.converting) turn.beside)

    each_left : (xs ys : List LockState) → AllByRecursion Beside (xs ++ ys) → AllByRecursion Beside xs
    each_left [] ys all = tt
    each_left (x ∷ xs) ys all = (all.0, each_left xs ys all.1)

    each_right : (xs ys : List LockState) → AllByRecursion Beside (xs ++ ys) → AllByRecursion Beside ys
    each_right [] ys all = all
    each_right (x ∷ xs) ys all = each_right xs ys all.1

    overtakes : (flagged : Bool) → has_flag (flag_bits request.flags) quecvt ≡ flagged → (not flagged || is_empty r.converting) ≡ true
    overtakes true is = nothing_queued r.converting (turn.overtakes_none (ap (λ (bits : ℕ). has_flag bits quecvt) (sym flags) ∙ is))
    overtakes false is = refl

-- ---- its rules

-- where the lock is granted, its conversion is admitted there
pub granted_there : (s : State) (c : Conversion) (a : ConversionAdmission) → Apart s → convert_admission s c ≡ Some a
    → AllByRecursion (λ r. Stands (convert_lkid s c) r.granted → r ≡ a.resource) s.resources
unfolding convert_admission
granted_there s c a apart is =
    only_there (convert_request s c) c.pid (convert_lkid s c) a s.resources (apart.one_row (convert_lkid s c)) is

-- the row of an admission is granted on its resource
admitted_row : (s : State) (c : Conversion) (a : ConversionAdmission) → convert_admission s c ≡ Some a
    → IsAdmitted c.pid (convert_lkid s c) a s.resources
unfolding convert_admission
admitted_row s c a is = is_admitted (convert_request s c) c.pid (convert_lkid s c) a s.resources is

-- it is granted at once where it converts in its turn
pub at_once_by_turn : (s : State) (c : Conversion) (a : ConversionAdmission) → convert_admission s c ≡ Some a
    → a.at_once ≡ converts_at_once (convert_request s c) (convert_lkid s c) a.resource
unfolding convert_admission
at_once_by_turn s c a is =
    admitted_at_once (convert_request s c) c.pid (convert_lkid s c) a s.resources is
    ∙ ap (λ (lkid : ℕ). converts_at_once (convert_request s c) lkid a.resource)
    (admitted_stands (convert_request s c) c.pid (convert_lkid s c) a s.resources is).1

-- of a lock that is granted somewhere, what is said of each resource where it is granted is said of the admission's
said_there : (s : State) (c : Conversion) (a : ConversionAdmission) → Apart s → convert_admission s c ≡ Some a → (P : Resource → Type 0)
    → ((r : Resource) → P r → Stands (convert_lkid s c) r.granted) → Any P s.resources → P a.resource
said_there s c a apart is P stands any =
    at_place s.resources (granted_there s c a apart is) any
  where
    at_place : (resources : List Resource) → AllByRecursion (λ r. Stands (convert_lkid s c) r.granted → r ≡ a.resource) resources → Any P resources
        → P a.resource
    at_place [] only any = absurd (Any-none P any)
    at_place (r ∷ rest) only any =
        elim (Any-cases P r rest any) [
          | inl here ↦ subst P (only.0 (stands r here)) here
          | inr later ↦ at_place rest only.1 later
        ]

-- a queued conversion that QUECVT does not go with
not_legally : (held : Option Request) (mode : Mode) → is_queued_legally_from held mode ≡ false → IsNotQueuedFrom held mode
not_legally None mode is = tt
not_legally (Some request) mode is = is

-- and one that it goes with
legally : (held : Option Request) (mode : Mode) → is_queued_legally_from held mode ≡ true → IsNotQueuedFrom held mode → ⊥
legally None mode is broken = cc
legally (Some request) mode is broken = true≢false (sym is ∙ broken)

-- the row of the admission is the lock's
row_is : (s : State) (c : Conversion) (a : ConversionAdmission) → convert_admission s c ≡ Some a
    → (a.row.lkid ≡ convert_lkid s c) × (a.row.pid ≡ c.pid)
row_is s c a is =
    lock_is c.pid (convert_lkid s c) a.row (found_at (is_lock_of c.pid (convert_lkid s c)) a.resource.granted a.row (admitted_row s c a is).found).passes

-- the refusals of an admitted conversion
admission_breaks : (s : State) (c : Conversion) (a : ConversionAdmission) → Apart s → convert_admission s c ≡ Some a
    → Says (ConversionBreaks s c) (admission_refusal s c (Some a))
unfolding pair_refusal request_numbers_refusal
admission_breaks s c a apart is =
    says_either B (pair_refusal c a.row) _
    (says_where B (has_flag c.flags quecvt && not (is_queued_legally_from a.row.held c.mode)) Badparam pair)
    (λ _. says_either B (request_numbers_refusal s) (queue_refusal c.flags a.at_once)
    (says_unless B (nat_lt s.next_request (2 ^ 64)) Nolockid (λ full. grind (arith, nat_tests, full)))
    (λ _. says_where B (has_flag c.flags noqueue && not a.at_once) Notqueued turn))
  where
    B : Cond → Type 0
    B = ConversionBreaks s c

    lkid : ℕ
    lkid = convert_lkid s c

    row : IsAdmitted c.pid lkid a s.resources
    row = admitted_row s c a is

    pair : (has_flag c.flags quecvt && not (is_queued_legally_from a.row.held c.mode)) ≡ true → B Badparam
    pair both =
        let parts = and_parts (has_flag c.flags quecvt) (not (is_queued_legally_from a.row.held c.mode)) both in
        let here : Any (λ x. ((x.lkid ≡ lkid) × (x.pid ≡ c.pid)) × IsNotQueuedFrom x.held c.mode) a.resource.granted =
        Any_found (λ x. ((x.lkid ≡ lkid) × (x.pid ≡ c.pid)) × IsNotQueuedFrom x.held c.mode) (is_lock_of c.pid lkid) a.resource.granted a.row row.found
        (row_is s c a is, not_legally a.row.held c.mode (not-true (is_queued_legally_from a.row.held c.mode) parts.1)) in
        inr (
          parts.0,
          Any-weaker (λ r. r ≡ a.resource) (λ r. Any (λ x. ((x.lkid ≡ lkid) × (x.pid ≡ c.pid)) × IsNotQueuedFrom x.held c.mode) r.granted)
              (λ r same. subst (λ (x : Resource). Any (λ y. ((y.lkid ≡ lkid) × (y.pid ≡ c.pid)) × IsNotQueuedFrom y.held c.mode) x.granted) (sym same) here)
              s.resources row.there,
        )

    few : weigh (stands lkid) a.resource ≤ 1
    few = omega (arith, row.few, apart.one_row lkid)

    no_turn : a.at_once ≡ false → ConvertsInTurn c lkid a.resource → ⊥
    no_turn waits its_turn =
        true≢false (sym (turn_passes c (convert_request s c) lkid a.resource refl refl
        (found_stands c.pid lkid a.resource.granted a.row (found_at (is_lock_of c.pid lkid) a.resource.granted a.row row.found)) few its_turn)
        ∙ sym (at_once_by_turn s c a is) ∙ waits)

    turn : (has_flag c.flags noqueue && not a.at_once) ≡ true → B Notqueued
    turn both =
        let parts = and_parts (has_flag c.flags noqueue) (not a.at_once) both in
        let here : IsAmong lkid c.pid a.resource.granted =
        Any_found (λ x. (x.lkid ≡ lkid) × (x.pid ≡ c.pid)) (is_lock_of c.pid lkid) a.resource.granted a.row row.found (row_is s c a is) in (
          parts.0,
          Any-weaker (λ r. r ≡ a.resource) (λ r. IsAmong lkid c.pid r.granted × (ConvertsInTurn c lkid r → ⊥))
              (λ r same. subst (λ (x : Resource). IsAmong lkid c.pid x.granted × (ConvertsInTurn c lkid x → ⊥)) (sym same)
              (here, no_turn (not-true a.at_once parts.1))) s.resources row.there,
        )

-- a refused conversion breaks the rule of its condition
pub conversion_breaks : (s : State) (c : Conversion) → Apart s → Says (ConversionBreaks s c) (convert_refusal s c)
unfolding convert_refusal request_flags_refusal convert_admission
conversion_breaks s c apart =
    says_either B (caller_refusal s c.pid) _ (says_caller B s c.pid (λ departed. departed) (λ none. none))
    (λ called. says_either B (request_flags_refusal c.flags) _ (says_unless B (is_known enq_bits c.flags) Badparam argument)
    (λ _. says_either B (status_block_refusal s c.pid c.block) _ (says_block B s c.pid c.block (caller_passes s c.pid called) (λ broken. inl broken))
    (λ _. says_either B (which_refusal s c.pid c.lock) _ (says_which B s c.pid c.lock (caller_passes s c.pid called) (λ broken. inr broken))
    (λ _. says_either B (lock_refusal s c.pid lkid) _ (says_lock B s c.pid lkid (λ broken. broken))
    (λ passed. of_admission (lock_passes s c.pid lkid passed) (convert_admission s c) refl)))))
  where
    B : Cond → Type 0
    B = ConversionBreaks s c

    lkid : ℕ
    lkid = convert_lkid s c

    argument : is_known enq_bits c.flags ≡ false → B Badparam
    argument is = inl (request_flag_unknown c.flags is)

    of_admission : HasLock s c.pid lkid → (admission : Option ConversionAdmission) → convert_admission s c ≡ admission
        → Says B (admission_refusal s c admission)
    of_admission has None is = says_some B Cvtungrant (has, none_admitted (convert_request s c) c.pid lkid s.resources is)
    of_admission has (Some a) is = admission_breaks s c a apart is

-- an accepted conversion breaks none
pub conversion_keeps : (s : State) (c : Conversion) → Apart s → convert_refusal s c ≡ None
    → (a : ConversionAdmission) → convert_admission s c ≡ Some a → (cond : Cond) → ConversionBreaks s c cond → ⊥
unfolding convert_refusal request_flags_refusal pair_refusal request_numbers_refusal
conversion_keeps s c apart passed a is =
    let first = both_pass (caller_refusal s c.pid) _ passed in
    let argument = both_pass (request_flags_refusal c.flags) _ first.1 in
    let block = both_pass (status_block_refusal s c.pid c.block) _ argument.1 in
    let which = both_pass (which_refusal s c.pid c.lock) _ block.1 in
    let lock = both_pass (lock_refusal s c.pid lkid) _ which.1 in
    let admitted : admission_refusal s c (Some a) ≡ None = subst (λ (found : Option ConversionAdmission). admission_refusal s c found ≡ None) is lock.1 in
    let pair = both_pass (pair_refusal c a.row) _ admitted in
    let numbers = both_pass (request_numbers_refusal s) (queue_refusal c.flags a.at_once) pair.1 in
    of_cond (caller_passes s c.pid first.0) (test_passes (is_known enq_bits c.flags) Badparam argument.0) block.0 which.0
    (lock_passes s c.pid lkid lock.0)
    (test_fails (has_flag c.flags quecvt && not (is_queued_legally_from a.row.held c.mode)) Badparam pair.0)
    (test_passes (nat_lt s.next_request (2 ^ 64)) Nolockid numbers.0)
    (test_fails (has_flag c.flags noqueue && not a.at_once) Notqueued numbers.1)
  where
    lkid : ℕ
    lkid = convert_lkid s c

    row : IsAdmitted c.pid lkid a s.resources
    row = admitted_row s c a is

    few : sum_by (stands lkid) a.resource.granted ≤ 1
    few = omega (arith, row.few, apart.one_row lkid)

    granted : IsGrantedSomewhere s c.pid lkid
    granted =
        Any-weaker (λ r. r ≡ a.resource) (λ r. IsAmong lkid c.pid r.granted)
        (λ r same. subst (λ (x : Resource). IsAmong lkid c.pid x.granted) (sym same)
        (Any_found (λ x. (x.lkid ≡ lkid) × (x.pid ≡ c.pid)) (is_lock_of c.pid lkid) a.resource.granted a.row row.found (row_is s c a is)))
        s.resources row.there

    pair_keeps : (has_flag c.flags quecvt && not (is_queued_legally_from a.row.held c.mode)) ≡ false → IsNotQueuedLegally s c → ⊥
    pair_keeps legal broken =
        let there : Any (λ x. ((x.lkid ≡ lkid) × (x.pid ≡ c.pid)) × IsNotQueuedFrom x.held c.mode) a.resource.granted =
        said_there s c a apart is (λ r. Any (λ x. ((x.lkid ≡ lkid) × (x.pid ≡ c.pid)) × IsNotQueuedFrom x.held c.mode) r.granted)
        (λ r any. Any-weaker (λ x. ((x.lkid ≡ lkid) × (x.pid ≡ c.pid)) × IsNotQueuedFrom x.held c.mode) (λ x. x.lkid ≡ lkid) (λ x so. so.0.0) r.granted any)
        broken.1 in
        legally a.row.held c.mode
        (not-false (is_queued_legally_from a.row.held c.mode)
        (second_fails (has_flag c.flags quecvt) (not (is_queued_legally_from a.row.held c.mode)) legal broken.0))
        (one_row c.pid lkid (λ x. IsNotQueuedFrom x.held c.mode) a.resource.granted a.row few row.found there)

    turn_keeps : (has_flag c.flags noqueue && not a.at_once) ≡ false → ConversionBreaks s c Notqueued → ⊥
    turn_keeps queue broken =
        let at_once : a.at_once ≡ true =
        not-false a.at_once (second_fails (has_flag c.flags noqueue) (not a.at_once) queue broken.0) in
        let there : IsAmong lkid c.pid a.resource.granted × (ConvertsInTurn c lkid a.resource → ⊥) =
        said_there s c a apart is (λ r. IsAmong lkid c.pid r.granted × (ConvertsInTurn c lkid r → ⊥))
        (λ r so. Any-weaker (λ x. (x.lkid ≡ lkid) × (x.pid ≡ c.pid)) (λ x. x.lkid ≡ lkid) (λ x same. same.0) r.granted so.0) broken.1 in
        there.1 (converts_in_turn c (convert_request s c) lkid a.resource refl refl (sym (at_once_by_turn s c a is) ∙ at_once))

    of_cond : IsCaller s c.pid → is_known enq_bits c.flags ≡ true → status_block_refusal s c.pid c.block ≡ None
        → which_refusal s c.pid c.lock ≡ None → HasLock s c.pid lkid
        → (has_flag c.flags quecvt && not (is_queued_legally_from a.row.held c.mode)) ≡ false → nat_lt s.next_request (2 ^ 64) ≡ true
        → (has_flag c.flags noqueue && not a.at_once) ≡ false → (cond : Cond) → ConversionBreaks s c cond → ⊥
    of_cond caller built block which has legal number queue Badparam (inl unknown) = request_flags_known c.flags built unknown
    of_cond caller built block which has legal number queue Badparam (inr pair) = pair_keeps legal pair
    of_cond caller built block which has legal number queue Accvio (inl none) = block_passes s c.pid c.block block none
    of_cond caller built block which has legal number queue Accvio (inr none) = which_passes s c.pid c.lock which none
    of_cond caller built block which has legal number queue Ivlockid broken = broken has
    of_cond caller built block which has legal number queue Cvtungrant broken = broken.1 granted
    of_cond caller built block which has legal number queue Nolockid broken = grind (arith, nat_tests, number, broken)
    of_cond caller built block which has legal number queue Notqueued broken = turn_keeps queue broken
    of_cond caller built block which has legal number queue Departed broken = caller.stays broken
    of_cond caller built block which has legal number queue Nonexpr broken = is_somebody s c.pid caller broken
    of_cond caller built block which has legal number queue cond broken = broken
