-- After every run each lock that holds a request was granted it.
use Rattle.std.proofs.Common.{◌≡◌, ℕ, Bool, true, false, List, [], ◌∷◌, ◌++◌, map, drop, cond, Option, None, Some, refl}
use Rattle.std.proofs.Common.{sym, subst, ap, inl, inr, ◌∙◌, append_assoc}
use Rattle.std.specs.Prelude.{◌==◌, All, Any}
use Rattle.std.specs.List.{AllByRecursion, AllZip, find}
use Rattle.std.proofs.lemmas.Bool.{and_parts, cond_both, eqb-true}
use Rattle.std.proofs.lemmas.List.Elements.{All-from_recursion}
use Rattle.vlm_words.specs.declared.locks.Request.{Request}
use Rattle.vlm_words.specs.declared.locks.LockState.{LockState}
use Rattle.vlm_words.specs.declared.resources.ValueBlock.{ValueBlock}
use Rattle.vlm_words.specs.declared.steps.Conversion.{Conversion}
use Rattle.vlm_words.specs.declared.steps.NewRequest.{NewRequest}
use Rattle.vlm_words.specs.State.{Process, Resource, State}
use Rattle.vlm_model.specs.Endings.{Ending}
use Rattle.vlm_model.specs.Effects.{with_value_block}
use Rattle.vlm_model.specs.Grants.{grant_endings, resource_after_grant}
use Rattle.vlm_words.specs.Rows.{granted_row, is_lock_of, rows_of, rows_without, wanting_row}
use Rattle.vlm_model.specs.Sweeps.{resources_after_sweep, sweep_endings}
use Rattle.vlm_model.specs.Declare.{declare_change}
use Rattle.vlm_model.specs.SetValue.{set_change}
use Rattle.vlm_model.specs.Take.{take_change}
use Rattle.vlm_model.specs.Trees.{enq_site}
use Rattle.vlm_model.specs.Enqueue.{enq_at_once, enq_change, enq_endings, enq_resource, enq_row, resource_after_entry}
use Rattle.vlm_model.specs.Convert.{ConversionAdmission, admission_among, admission_or, conversion_endings}
use Rattle.vlm_model.specs.Convert.{convert_admission, convert_blocks, convert_change, convert_lkid, convert_request}
use Rattle.vlm_model.specs.Convert.{resource_after_conversion, resource_after_conversion_of, resource_without_granted}
use Rattle.vlm_model.specs.Withdrawals.{Withdrawal, is_held_by_writer, resource_after_cancel, resource_after_going}
use Rattle.vlm_model.specs.Withdrawals.{resource_after_withdrawals, resource_after_writer, resource_without}
use Rattle.vlm_model.specs.Withdrawals.{row_after_cancel, value_block_after_writer, state_after_withdrawals}
use Rattle.vlm_model.specs.Withdrawals.{withdrawn_endings}
use Rattle.vlm_model.specs.Rundown.{processes_but, rundown_endings, rundowns, state_after_rundown}
use Rattle.vlm_model.specs.Runs.{History, Run}
use Rattle.vlm_model.specs.Laws.{GrantsFirst, IsGranted, IsGrantOf, IsSameButArmed, SweptInOrder, first_rows, goes, none, stays}
use Rattle.vlm_model.specs.Granted.{IsGrantTo, NoGrantIsHidden, WasGranted}
use Rattle.vlm_model.proofs.Always.{always, kept_by_stepped}
use Rattle.vlm_model.proofs.GrantsAtOnce.{admitted_stands}
use Rattle.vlm_model.proofs.Admissions.{some_same}
use Rattle.vlm_model.proofs.Each.{Any-behind, Any-cases, Any-here, Any-there, Found, any_left, each_append, each_at}
use Rattle.vlm_model.proofs.Each.{each_drop, each_filter, each_map, each_weaker, found_at}
use Rattle.vlm_model.proofs.EachResource.{each_entered_on, found_has}
use Rattle.vlm_model.proofs.InOrder.{sweep_in_order}
use Rattle.vlm_model.proofs.Withdrawing.{kept_withdrawn}

-- ---- endings that are added

-- also where these come between
any_within : {X : Type 0} (P : X → Type 0) (xs ys zs : List X) → Any P (xs ++ zs) → Any P (xs ++ (ys ++ zs))
any_within P [] ys zs any = Any-behind P ys zs any
any_within P (x ∷ xs) ys zs any =
    elim (Any-cases P x (xs ++ zs) any) [
      | inl here ↦ Any-here P x (xs ++ (ys ++ zs)) here
      | inr there ↦ Any-there P x (xs ++ (ys ++ zs)) (any_within P xs ys zs there)
    ]

-- what the row holds was granted to its lock
abbrev Has : List Ending → LockState → Type 0
Has endings row = WasGranted endings row.lkid row.pid row.held

has_more : (endings more : List Ending) → ((held : Request) (lkid pid : ℕ) → Any (IsGrantTo lkid pid held) endings → Any (IsGrantTo lkid pid held) more)
    → (row : LockState) → Has endings row → Has more row
has_more endings more kept row has = of_held row.held has
  where
    of_held : (held : Option Request) → WasGranted endings row.lkid row.pid held → WasGranted more row.lkid row.pid held
    of_held None has = tt
    of_held (Some held) has = kept held row.lkid row.pid has

-- each row of a resource has it
pub record EachRow (P : LockState → Type 0) (r : Resource) : Type 0 where
  pub granted : AllByRecursion P r.granted
  pub converting : AllByRecursion P r.converting
  pub waiting : AllByRecursion P r.waiting

-- what follows from it holds of each row too
pub each_row_weaker : (P Q : LockState → Type 0) → ((row : LockState) → P row → Q row) → (r : Resource) → EachRow P r → EachRow Q r
each_row_weaker P Q weaker r each = record {
  granted = each_weaker P Q weaker r.granted each.granted;
  converting = each_weaker P Q weaker r.converting each.converting;
  waiting = each_weaker P Q weaker r.waiting each.waiting;
}

-- all that was granted was so with more endings
all_left : (endings more : List Ending) (resources : List Resource) → AllByRecursion (EachRow (Has endings)) resources
    → AllByRecursion (EachRow (Has (endings ++ more))) resources
all_left endings more resources each =
    each_weaker (EachRow (Has endings)) (EachRow (Has (endings ++ more)))
    (λ r. each_row_weaker (Has endings) (Has (endings ++ more))
    (has_more endings (endings ++ more)
    (λ held lkid pid. any_left (IsGrantTo lkid pid held) endings more)) r) resources each

-- ---- the sweep

-- rows that are the same but for what arms them hold what they held
same_has : (endings : List Ending) (before after : List LockState) → AllZip IsSameButArmed before after
    → AllByRecursion (Has endings) before → AllByRecursion (Has endings) after
same_has endings [] [] same each = tt
same_has endings [] (row ∷ rows) same each = absurd same
same_has endings (row ∷ rows) [] same each = absurd same
same_has endings (row ∷ rows) (left ∷ others) same each = (
  subst (λ held. WasGranted endings left.lkid left.pid held) (sym same.0.held)
      (subst (λ pid. WasGranted endings left.lkid pid row.held) (sym same.0.pid)
      (subst (λ lkid. WasGranted endings lkid row.pid row.held) (sym same.0.lkid) each.0)),
  same_has endings rows others same.1 each.1,
)

-- rows that are granted hold what is granted to them
given_has : (rows given : List LockState) (endings : List Ending) → AllZip IsGranted rows given
    → AllZip IsGrantOf rows endings → AllByRecursion (Has endings) given
given_has [] [] endings granted ends = tt
given_has [] (row ∷ given) endings granted ends = absurd granted
given_has (row ∷ rows) [] endings granted ends = absurd granted
given_has (row ∷ rows) (left ∷ given) [] granted ends = absurd ends
given_has (row ∷ rows) (left ∷ given) (ending ∷ endings) granted ends = (
  subst (λ held. WasGranted (ending ∷ endings) left.lkid left.pid held) (sym (granted.0.holds ∙ sym ends.0.request))
      (Any-here (IsGrantTo left.lkid left.pid ending.request) ending endings (record {
        lock = ends.0.lkid ∙ sym granted.0.lkid;
        process = ends.0.pid ∙ sym granted.0.pid;
        whole = refl;
        grants = ends.0.how;
      })),
  each_weaker (Has endings) (Has (ending ∷ endings))
      (has_more endings (ending ∷ endings) (λ held lkid pid. Any-there (IsGrantTo lkid pid held) ending endings)) given
      (given_has rows given endings granted.1 ends.1),
)

-- grants from the heads of the queues are not hidden
first_has : (all : List Ending) (before after : Resource) (endings : List Ending) → GrantsFirst before after endings
    → EachRow (Has all) before → EachRow (Has (all ++ endings)) after
first_has all before after endings first each =
    let more = has_more all (all ++ endings) (λ held lkid pid. any_left (IsGrantTo lkid pid held) all endings) in
    let given = has_more endings (all ++ endings) (λ held lkid pid. Any-behind (IsGrantTo lkid pid held) all endings) in
    record {
      granted =
          subst (AllByRecursion (Has (all ++ endings))) (sym first.granted)
          (each_append (Has (all ++ endings)) first.kept first.given
          (each_weaker (Has all) (Has (all ++ endings)) more first.kept (same_has all before.granted first.kept first.stay each.granted))
          (each_weaker (Has endings) (Has (all ++ endings)) given first.given
          (given_has (first_rows first.conversions first.new_requests before) first.given endings first.rows first.ends)));
      converting =
          subst (AllByRecursion (Has (all ++ endings))) (sym first.converting)
          (each_weaker (Has all) (Has (all ++ endings)) more (drop first.conversions before.converting)
          (each_drop (Has all) first.conversions before.converting each.converting));
      waiting =
          subst (AllByRecursion (Has (all ++ endings))) (sym first.waiting)
          (each_weaker (Has all) (Has (all ++ endings)) more (drop first.new_requests before.waiting)
          (each_drop (Has all) first.new_requests before.waiting each.waiting));
    }

-- a sweep hides no grant
swept_has : (all : List Ending) (before after : List Resource) (endings : List Ending) → SweptInOrder before after endings
    → AllByRecursion (EachRow (Has all)) before → AllByRecursion (EachRow (Has (all ++ endings))) after
swept_has all _ _ _ none each = tt
swept_has all _ _ _ (stays {before} {after} {rest} {left} {endings} {more} first behind) each = (
  each_row_weaker (Has (all ++ endings)) (Has (all ++ (endings ++ more)))
      (has_more (all ++ endings) (all ++ (endings ++ more))
      (λ held lkid pid any. subst (Any (IsGrantTo lkid pid held)) (append_assoc all endings more)
      (any_left (IsGrantTo lkid pid held) (all ++ endings) more any)))
      after (first_has all before after endings first each.0),
  each_weaker (EachRow (Has (all ++ more))) (EachRow (Has (all ++ (endings ++ more))))
      (each_row_weaker (Has (all ++ more)) (Has (all ++ (endings ++ more)))
      (has_more (all ++ more) (all ++ (endings ++ more)) (λ held lkid pid. any_within (IsGrantTo lkid pid held) all endings more))) left
      (swept_has all rest left more behind each.1),
)
swept_has all _ _ _ (goes {before} {after} {rest} {left} {endings} {more} first vacant behind) each =
    each_weaker (EachRow (Has (all ++ more))) (EachRow (Has (all ++ (endings ++ more))))
    (each_row_weaker (Has (all ++ more)) (Has (all ++ (endings ++ more)))
    (has_more (all ++ more) (all ++ (endings ++ more)) (λ held lkid pid. any_within (IsGrantTo lkid pid held) all endings more))) left
    (swept_has all rest left more behind each.1)

-- a change that hides no grant, once it is swept
changed_has : (endings change : List Ending) (processes : List Process) (resources : List Resource)
    → AllByRecursion (EachRow (Has (endings ++ change))) resources
    → AllByRecursion (EachRow (Has (endings ++ (change ++ sweep_endings resources)))) (resources_after_sweep processes resources)
changed_has endings change processes resources each =
    subst (λ all. AllByRecursion (EachRow (Has all)) (resources_after_sweep processes resources)) (append_assoc endings change (sweep_endings resources))
    (swept_has (endings ++ change) resources (resources_after_sweep processes resources) (sweep_endings resources) (sweep_in_order processes resources) each)

-- ---- the changes of the steps

-- a new request
entered_has : (s : State) (e : NewRequest) (endings : List Ending) → EachRow (Has (endings ++ enq_endings s e)) (enq_resource s e)
    → EachRow (Has (endings ++ enq_endings s e)) (resource_after_entry (enq_row s e) (enq_at_once s e) (enq_resource s e))
unfolding resource_after_entry
entered_has s e endings each = of_at_once (enq_at_once s e) each
  where
    row : LockState
    row = enq_row s e

    of_at_once : (b : Bool) → EachRow (Has (endings ++ cond b (grant_endings true (enq_row s e)) [])) (enq_resource s e)
        → EachRow (Has (endings ++ cond b (grant_endings true (enq_row s e)) []))
        (cond b (resource_after_grant (enq_resource s e) (enq_row s e))
        (record (enq_resource s e) { waiting = (enq_resource s e).waiting ++ enq_row s e ∷ [] }))
    of_at_once true each = record {
      granted =
          each_append (Has (endings ++ grant_endings true (enq_row s e))) (enq_resource s e).granted (granted_row (enq_row s e) ∷ []) each.granted
          (Any-behind _ endings (grant_endings true (enq_row s e)) (Any-here _ _ [] (record { lock = refl; process = refl; whole = refl; grants = tt })), tt);
      converting = each.converting;
      waiting = each.waiting;
    }
    of_at_once false each = record {
      granted = each.granted;
      converting = each.converting;
      waiting = each_append (Has (endings ++ [])) (enq_resource s e).waiting (enq_row s e ∷ []) each.waiting (tt, tt);
    }

-- withdrawals
left_has : (endings : List Ending) (w : Withdrawal) (r : Resource) → EachRow (Has endings) r → EachRow (Has endings) (resource_after_writer w r)
left_has endings w r each =
    cond_both (is_held_by_writer w.lkid r) (record r { value_block = value_block_after_writer w r.value_block }) r (EachRow (Has endings))
    (λ _. record { granted = each.granted; converting = each.converting; waiting = each.waiting }) (λ _. each)

gone_has : (endings : List Ending) (w : Withdrawal) (r : Resource) → EachRow (Has endings) r → EachRow (Has endings) (resource_after_going w r)
unfolding resource_after_cancel resource_without
gone_has endings w r each =
    cond_both w.stays (resource_after_cancel w.lkid r) (resource_without w.lkid r) (EachRow (Has endings))
    (λ _. record {
      granted =
          each_append (Has endings) r.granted (map row_after_cancel (rows_of w.lkid r.converting)) each.granted
          (each_map (Has endings) (Has endings) row_after_cancel (λ row has. has) (rows_of w.lkid r.converting)
          (each_filter (Has endings) _ r.converting each.converting));
      converting = each_filter (Has endings) _ r.converting each.converting;
      waiting = each_filter (Has endings) _ r.waiting each.waiting;
    })
    (λ _. record {
      granted = each_filter (Has endings) _ r.granted each.granted;
      converting = each_filter (Has endings) _ r.converting each.converting;
      waiting = each_filter (Has endings) _ r.waiting each.waiting;
    })

-- an admitted conversion is of a lock of this process
pub admitted_owned : (request : Request) (pid lkid : ℕ) (a : ConversionAdmission) (resources : List Resource)
    → admission_among request pid lkid resources ≡ Some a → a.row.pid ≡ pid
admitted_owned request pid lkid a [] admitted = cc
admitted_owned request pid lkid a (r ∷ rest) admitted =
    of_found (find (is_lock_of pid lkid) r.granted) refl (admission_among request pid lkid rest) (admitted_owned request pid lkid a rest) admitted
  where
    of_found : (found : Option LockState) → find (is_lock_of pid lkid) r.granted ≡ found → (later : Option ConversionAdmission)
        → (later ≡ Some a → a.row.pid ≡ pid) → admission_or request r found later ≡ Some a → a.row.pid ≡ pid
    of_found None is later behind at = behind at
    of_found (Some row) is later behind at =
        let there : Found (is_lock_of pid lkid) r.granted row = found_at (is_lock_of pid lkid) r.granted row is in
        sym (ap (λ (b : ConversionAdmission). b.row.pid) (some_same _ a at))
        ∙ eqb-true row.pid pid (and_parts (row.lkid == lkid) (row.pid == pid) there.passes).1

-- a conversion, on one resource
module _ (pid lkid : ℕ) (a : ConversionAdmission) (named : a.row.lkid ≡ lkid) (owned : a.row.pid ≡ pid)
    (endings : List Ending) where
  abbrev all : List Ending
  all = endings ++ conversion_endings a

  -- the grant is among the endings
  its_grant : a.at_once ≡ true → Any (IsGrantTo lkid pid a.request) all
  its_grant now =
      Any-behind (IsGrantTo lkid pid a.request) endings (conversion_endings a)
      (subst (λ b. Any (IsGrantTo lkid pid a.request) (cond b (grant_endings true (wanting_row a.row a.request)) [])) (sym now)
      (Any-here (IsGrantTo lkid pid a.request) _ [] (record { lock = named; process = owned; whole = refl; grants = tt })))

  converted_row_has : (block : ValueBlock) (r : Resource) (found : Option LockState) → find (is_lock_of pid lkid) r.granted ≡ found
      → EachRow (Has all) r → EachRow (Has all) (resource_after_conversion_of a.request a.at_once lkid block r found)
  converted_row_has block r None is each = each
  converted_row_has block r (Some row) is each =
      let at : Found (is_lock_of pid lkid) r.granted row = found_at (is_lock_of pid lkid) r.granted row is in
      let tests = and_parts (row.lkid == lkid) (row.pid == pid) at.passes in
      let held : Has all row = each_at (Has all) at.before row at.after (subst (AllByRecursion (Has all)) at.split each.granted) in
      let others : AllByRecursion (Has all) (rows_without lkid r.granted) = each_filter (Has all) _ r.granted each.granted in
      cond_both a.at_once (with_value_block block (resource_after_grant (resource_without_granted lkid r) (wanting_row row a.request)))
      (record (resource_without_granted lkid r) { converting = r.converting ++ wanting_row row a.request ∷ [] }) (EachRow (Has all))
      (λ now. record {
        granted =
            each_append (Has all) (rows_without lkid r.granted) (granted_row (wanting_row row a.request) ∷ []) others (
              subst (λ n. Any (IsGrantTo n row.pid a.request) all) (sym (eqb-true row.lkid lkid tests.0))
                  (subst (λ n. Any (IsGrantTo lkid n a.request) all) (sym (eqb-true row.pid pid tests.1))
                  (its_grant now)),
              tt,
            );
        converting = each.converting;
        waiting = each.waiting;
      })
      (λ _. record {
        granted = others;
        converting = each_append (Has all) r.converting (wanting_row row a.request ∷ []) each.converting (held, tt);
        waiting = each.waiting;
      })

  converted_has : (block : ValueBlock) (resources : List Resource)
      → AllByRecursion (EachRow (Has all)) resources
      → AllByRecursion (EachRow (Has all))
      (map (resource_after_conversion a.request a.at_once pid lkid block) resources)
  unfolding resource_after_conversion
  converted_has block [] each = tt
  converted_has block (r ∷ rest) each =
      (converted_row_has block r (find (is_lock_of pid lkid) r.granted) refl each.0, converted_has block rest each.1)

-- ---- every run

-- what a conversion is of, by its admission
conversion_hides_none : (endings : List Ending) (s : State) (c : Conversion) (a : ConversionAdmission) → convert_admission s c ≡ Some a
    → AllByRecursion (EachRow (Has endings)) s.resources → AllByRecursion (EachRow (Has (endings ++ conversion_endings a))) (convert_change s c a).resources
unfolding convert_change convert_admission
conversion_hides_none endings s c a admitted each =
    let lkid : ℕ = convert_lkid s c in
    let request : Request = convert_request s c in
    converted_has c.pid lkid a (admitted_stands request c.pid lkid a s.resources admitted).1 (admitted_owned request c.pid lkid a s.resources admitted) endings
    (convert_blocks s c a).value_block s.resources (all_left endings (conversion_endings a) s.resources each)

has_always : (history : History) (last : State) → Run history last → AllByRecursion (EachRow (Has history.endings)) last.resources
unfolding declare_change set_change take_change enq_change enq_resource state_after_rundown
has_always =
    always (λ endings s. AllByRecursion (EachRow (Has endings)) s.resources) tt
    (λ history s run each.
    let endings : List Ending = history.endings in
    kept_by_stepped (λ all t. AllByRecursion (EachRow (Has all)) t.resources) endings s each
    (λ d _. changed_has endings [] (declare_change s d).processes s.resources (all_left endings [] s.resources each))
    (λ v _. changed_has endings [] (set_change s v).processes s.resources (all_left endings [] s.resources each))
    (λ taker _. changed_has endings [] (take_change s taker).processes s.resources (all_left endings [] s.resources each))
    (λ e _.
    let more = all_left endings (enq_endings s e) s.resources each in
    changed_has endings (enq_endings s e) (enq_change s e).processes (enq_change s e).resources
    (each_entered_on (EachRow (Has (endings ++ enq_endings s e))) s.next_serial (enq_site s e) (enq_row s e) (enq_at_once s e) s.resources
    (entered_has s e endings
    (found_has (EachRow (Has (endings ++ enq_endings s e))) s.next_serial (enq_site s e)
    (record { granted = tt; converting = tt; waiting = tt }) s.resources more)) more))
    (λ c a _ admitted.
    changed_has endings (conversion_endings a) (convert_change s c a).processes (convert_change s c a).resources
    (conversion_hides_none endings s c a admitted each))
    (λ withdrawals _.
    let more : List Ending = withdrawn_endings withdrawals s.resources in
    changed_has endings more (state_after_withdrawals withdrawals s).processes (state_after_withdrawals withdrawals s).resources
    (each_map (EachRow (Has (endings ++ more))) (EachRow (Has (endings ++ more))) (resource_after_withdrawals withdrawals)
    (kept_withdrawn (EachRow (Has (endings ++ more))) (left_has (endings ++ more)) (gone_has (endings ++ more)) withdrawals)
    s.resources (all_left endings more s.resources each)))
    (λ is_one nodes _.
    let more : List Ending = rundown_endings is_one s in
    changed_has endings more (processes_but is_one s.processes) (state_after_rundown is_one nodes s).resources
    (each_map (EachRow (Has (endings ++ more))) (EachRow (Has (endings ++ more))) (resource_after_withdrawals (rundowns is_one s))
    (kept_withdrawn (EachRow (Has (endings ++ more))) (left_has (endings ++ more)) (gone_has (endings ++ more)) (rundowns is_one s))
    s.resources (all_left endings more s.resources each))))

-- after every run no grant is hidden
pub granted_always : (history : History) (last : State) → Run history last → NoGrantIsHidden history.endings last
granted_always history last run =
    let Held : LockState → Type 0 = λ row. WasGranted history.endings row.lkid row.pid row.held in
    All-from_recursion (λ r. All Held (r.granted ++ r.converting ++ r.waiting)) last.resources
    (each_weaker (EachRow (Has history.endings)) (λ r. All Held (r.granted ++ r.converting ++ r.waiting))
    (λ r each. All-from_recursion Held (r.granted ++ r.converting ++ r.waiting)
    (each_append Held (r.granted ++ r.converting) r.waiting (each_append Held r.granted r.converting each.granted each.converting) each.waiting))
    last.resources (has_always history last run))
