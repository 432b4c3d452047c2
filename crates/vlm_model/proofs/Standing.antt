-- The lock of an accepted request is as the request asks.
use Rattle.std.proofs.Common.{◌≡◌, ◌⊎◌, ℕ, zero, suc, Bool, true, false, List, [], ◌∷◌, ◌++◌, map, take, drop, cond}
use Rattle.std.proofs.Common.{Option, None, Some, refl, sym, subst, inl, inr, ◌∙◌}
use Rattle.std.specs.Prelude.{◌==◌, Any, unwrap_or}
use Rattle.std.specs.List.{AllZip, find}
use Rattle.std.proofs.lemmas.Bool.{and_parts, cond_both, eqb-true}
use Rattle.vlm_words.specs.declared.conditions.Cond.{Cond}
use Rattle.vlm_words.specs.declared.locks.Request.{Request}
use Rattle.vlm_words.specs.declared.locks.LockState.{LockState}
use Rattle.vlm_words.specs.declared.resources.Site.{Site}
use Rattle.vlm_words.specs.declared.resources.ValueBlock.{ValueBlock}
use Rattle.vlm_words.specs.declared.steps.Answer.TheVariants.{Lock}
use Rattle.vlm_words.specs.declared.steps.Conversion.{Conversion}
use Rattle.vlm_words.specs.declared.steps.NewRequest.{NewRequest}
use Rattle.vlm_words.specs.declared.steps.Step.TheVariants.{Convert, Enq}
use Rattle.vlm_words.specs.State.{Resource, State}
use Rattle.vlm_model.specs.Endings.{Ending}
use Rattle.vlm_model.specs.Effects.{with_value_block}
use Rattle.vlm_words.specs.Rows.{granted_row, is_lock_of, wanting_row}
use Rattle.vlm_model.specs.Grants.{resource_after_grant}
use Rattle.vlm_model.specs.Sweeps.{resources_after_sweep, sweep_endings}
use Rattle.vlm_words.specs.Resources.{is_at, new_resource}
use Rattle.vlm_model.specs.Checks.{named_lkid}
use Rattle.vlm_words.specs.Flags.{has_flag, system}
use Rattle.vlm_model.specs.Trees.{enq_site, parent_lkid, parent_refusal, privilege_refusal, site_refusal}
use Rattle.vlm_model.specs.Enqueue.{enq_at_once, enq_change, enq_key, enq_refusal, enq_resource, enq_row, resource_after_entry, resources_after_entry}
use Rattle.vlm_model.specs.Convert.{ConversionAdmission, admission_among, admission_or, convert_admission}
use Rattle.vlm_model.specs.Convert.{convert_blocks, convert_change, convert_lkid, convert_refusal, convert_request}
use Rattle.vlm_model.specs.Convert.{resource_after_conversion, resource_after_conversion_of, resource_without_granted}
use Rattle.vlm_model.specs.Runs.{History, Run}
use Rattle.vlm_model.specs.Stepped.{conversion_change, refused_or, step_change, stepped_after_sweep}
use Rattle.vlm_model.specs.Laws.{GrantsFirst, IsAskedFor, IsGranted, IsSameButArmed, IsSameResource, IsVacant}
use Rattle.vlm_model.specs.Laws.{StandsAsAskedFor, StandsOn, SweptInOrder, IsRootDomain, first_rows, goes, none, stays}
use Rattle.vlm_model.specs.Standing.{ConvertedLocksStandAsAskedFor, IsRow, NewLocksStandAsAskedFor, StandsConverted, StandsNew, new_conversion, new_request}
use Rattle.vlm_model.proofs.Admissions.{admitted_request, some_same}
use Rattle.vlm_model.proofs.IdsApart.{Apart, apart_always}
use Rattle.vlm_model.proofs.Each.{Any-behind, Any-cases, Any-here, Any-none, Any-there, Any-weaker, Found, any_left, found_at}
use Rattle.vlm_model.proofs.InOrder.{same_then, sweep_in_order}
use Rattle.vlm_model.proofs.Keys.{Placed, at_key, conversion_keeps_place, enq_keyed, entry_keeps_place, placed_always}
use Rattle.vlm_model.proofs.PassedChecks.{both_pass, enq_passes}
use Rattle.vlm_model.proofs.ReasonsOfRequests.{asked_for}
use Rattle.vlm_model.proofs.Refusals.{Any_found, caller_passes}

-- ---- what a sweep leaves

-- what some row is, and each row passes on, some row is place by place
any_zip : {X Y : Type 0} (R : X → Y → Type 0) (P : X → Type 0) (Q : Y → Type 0) → ((x : X) (y : Y) → R x y → P x → Q y)
    → (xs : List X) (ys : List Y) → AllZip R xs ys → Any P xs → Any Q ys
any_zip R P Q pass [] ys zip some = absurd (Any-none P some)
any_zip R P Q pass (x ∷ xs) [] zip some = absurd zip
any_zip R P Q pass (x ∷ xs) (y ∷ ys) zip some =
    elim (Any-cases P x xs some) [
      | inl here ↦ Any-here Q y ys (pass x y zip.0 here)
      | inr there ↦ Any-there Q y ys (any_zip R P Q pass xs ys zip.1 there)
    ]

-- what some row is, some of the first ones is, or some behind them
any_split : {X : Type 0} (P : X → Type 0) (n : ℕ) (xs : List X) → Any P xs → Any P (take n xs) ⊎ Any P (drop n xs)
any_split P zero xs some = inr some
any_split P (suc n) [] some = absurd (Any-none P some)
any_split P (suc n) (x ∷ xs) some =
    elim (Any-cases P x xs some) [
      | inl here ↦ inl (Any-here P x (take n xs) here)
      | inr there ↦ elim (any_split P n xs there) [ inl first ↦ inl (Any-there P x (take n xs) first) | inr behind ↦ inr behind ]
    ]

-- what some resource is, and grants from the heads of its queues leave, some resource is after a sweep; on it a lock
-- is left
swept_any : (Q : Resource → Type 0) → ((before after : Resource) (endings : List Ending) → GrantsFirst before after endings → Q before → Q after)
    → ((r : Resource) → Q r → IsVacant r → ⊥)
    → (before after : List Resource) (endings : List Ending) → SweptInOrder before after endings → Any Q before → Any Q after
swept_any Q pass occupied _ _ _ none some = some
swept_any Q pass occupied _ _ _ (stays {before} {after} {rest} {left} {endings} {more} first behind) some =
    elim (Any-cases Q before rest some) [
      | inl here ↦ Any-here Q after left (pass before after endings first here)
      | inr there ↦ Any-there Q after left (swept_any Q pass occupied rest left more behind there)
    ]
swept_any Q pass occupied _ _ _ (goes {before} {after} {rest} {left} {endings} {more} first vacant behind) some =
    elim (Any-cases Q before rest some) [
      | inl here ↦ absurd (occupied after (pass before after endings first here) vacant)
      | inr there ↦ swept_any Q pass occupied rest left more behind there
    ]

-- a granted lock stays so
pub granted_stays : (P : LockState → Type 0) → ((x y : LockState) → IsSameButArmed x y → P x → P y) → (before after : Resource) (endings : List Ending)
    → GrantsFirst before after endings → Any P before.granted → Any P after.granted
granted_stays P pass before after endings first some =
    subst (Any P) (sym first.granted) (any_left P first.kept first.given (any_zip IsSameButArmed P P pass before.granted first.kept first.stay some))

-- a row is the same but for what arms it
same_row : (lkid pid parent : ℕ) (held want : Option Request) (x y : LockState) → IsSameButArmed x y
    → IsRow lkid pid parent held want x → IsRow lkid pid parent held want y
same_row lkid pid parent held want x y same is = record {
  lock = same.lkid ∙ is.lock;
  process = same.pid ∙ is.process;
  above = same.parent ∙ is.above;
  holds = same.held ∙ is.holds;
  wants = same.want ∙ is.wants;
}

-- a row that is granted holds what it wanted
row_granted : (lkid pid parent : ℕ) (held : Option Request) (request : Request) (x y : LockState) → IsGranted x y → IsRow lkid pid parent held (Some request) x
    → IsRow lkid pid parent (Some request) None y
row_granted lkid pid parent held request x y granted is = record {
  lock = granted.lkid ∙ is.lock;
  process = granted.pid ∙ is.process;
  above = granted.parent ∙ is.above;
  holds = granted.holds ∙ is.wants;
  wants = granted.wants_nothing;
}

module _ (lkid pid parent : ℕ) (held : Option Request) (request : Request) (before after : Resource)
    (endings : List Ending) (first : GrantsFirst before after endings) where
  -- one that is among the first of the queues is granted
  first_granted : Any (IsRow lkid pid parent held (Some request)) (first_rows first.conversions first.new_requests before)
      → Any (IsRow lkid pid parent (Some request) None) after.granted
  first_granted some =
      subst (Any (IsRow lkid pid parent (Some request) None)) (sym first.granted)
      (Any-behind (IsRow lkid pid parent (Some request) None) first.kept first.given
      (any_zip IsGranted (IsRow lkid pid parent held (Some request)) (IsRow lkid pid parent (Some request) None)
      (row_granted lkid pid parent held request) (first_rows first.conversions first.new_requests before) first.given first.rows some))

  -- one that waits is granted, or waits still
  waiting_after : Any (IsRow lkid pid parent held (Some request)) before.waiting
      → Any (IsRow lkid pid parent (Some request) None) after.granted ⊎ Any (IsRow lkid pid parent held (Some request)) after.waiting
  waiting_after some =
      elim (any_split (IsRow lkid pid parent held (Some request)) first.new_requests before.waiting some) [
        | inl now ↦ inl (first_granted
            (Any-behind (IsRow lkid pid parent held (Some request)) (take first.conversions before.converting)
            (take first.new_requests before.waiting) now))
        | inr later ↦ inr (subst (Any (IsRow lkid pid parent held (Some request))) (sym first.waiting) later)
      ]

  -- one that converts is granted, or converts still
  converting_after : Any (IsRow lkid pid parent held (Some request)) before.converting
      → Any (IsRow lkid pid parent (Some request) None) after.granted ⊎ Any (IsRow lkid pid parent held (Some request)) after.converting
  converting_after some =
      elim (any_split (IsRow lkid pid parent held (Some request)) first.conversions before.converting some) [
        | inl now ↦ inl (first_granted
            (any_left (IsRow lkid pid parent held (Some request)) (take first.conversions before.converting)
            (take first.new_requests before.waiting) now))
        | inr later ↦ inr (subst (Any (IsRow lkid pid parent held (Some request))) (sym first.converting) later)
      ]

-- among no rows is none
none_among : (P : LockState → Type 0) (rows : List LockState) → rows ≡ [] → Any P rows → ⊥
none_among P rows empty some = Any-none P (subst (Any P) empty some)

-- ---- a new request

-- what is asked for is known by its place
asked_same : (s : State) (e : NewRequest) (before after : Resource) → IsSameResource before after → IsAskedFor s e before → IsAskedFor s e after
asked_same s e before after same asked = record {
  caller = asked.caller;
  lives = asked.lives;
  name = same.name ∙ asked.name;
  stands = of_lkid (named_lkid s e.pid e.parent) asked.stands;
}
  where
    of_lkid : (lkid : ℕ) → StandsAsAskedFor s e asked.caller lkid before → StandsAsAskedFor s e asked.caller lkid after
    of_lkid zero there = (same.parent ∙ there.0, subst (IsRootDomain (has_flag e.flags system) asked.caller) (sym same.domain) there.1)
    of_lkid (suc n) there =
        Any-weaker (λ up. StandsOn (suc n) asked.caller.pid up
        × (before.parent ≡ up.serial)) (λ up. StandsOn (suc n) asked.caller.pid up × (after.parent ≡ up.serial))
        (λ up so. (so.0, same.parent ∙ so.1)) s.resources there

module _ (s : State) (e : NewRequest) (lkid pid parent : ℕ) (request : Request) where
  abbrev IsThere : Resource → Type 0
  IsThere r = IsAskedFor s e r × StandsNew lkid pid parent request r

  -- it is there after grants
  there_after : (before after : Resource) (endings : List Ending) → GrantsFirst before after endings → IsThere before → IsThere after
  there_after before after endings first there = (asked_same s e before after first.same there.0, still there.1)
    where
      still : StandsNew lkid pid parent request before → StandsNew lkid pid parent request after
      still (inl granted) =
          inl (granted_stays (IsRow lkid pid parent (Some request) None) (same_row lkid pid parent (Some request) None) before after endings first granted)
      still (inr waiting) = waiting_after lkid pid parent None request before after endings first waiting

  -- and so a lock is left
  there_occupied : (r : Resource) → IsThere r → IsVacant r → ⊥
  there_occupied r there vacant = of_queue there.1
    where
      of_queue : StandsNew lkid pid parent request r → ⊥
      of_queue (inl granted) = none_among (IsRow lkid pid parent (Some request) None) r.granted vacant.granted granted
      of_queue (inr waiting) = none_among (IsRow lkid pid parent None (Some request)) r.waiting vacant.waiting waiting

-- the resource that a lock enters is among the resources
pub any_entered : (P : Resource → Type 0) (serial : ℕ) (site : Site) (row : LockState) (at_once : Bool) (resources : List Resource)
    → P (resource_after_entry row at_once (unwrap_or (find (is_at site.key) resources) (new_resource serial site)))
    → Any P (resources_after_entry serial site row at_once resources)
any_entered P serial site row at_once [] here = Any-here P (resource_after_entry row at_once (new_resource serial site)) [] here
any_entered P serial site row at_once (r ∷ rest) here =
    elim (is_at site.key r) as (λ b. P (resource_after_entry row at_once (unwrap_or (cond b (Some r) (find (is_at site.key) rest)) (new_resource serial site)))
    → Any P (cond b (resource_after_entry row at_once r ∷ rest) (r ∷ resources_after_entry serial site row at_once rest))) [
      | true ↦ λ there. Any-here P (resource_after_entry row at_once r) rest there
      | false ↦ λ there. Any-there P r (resources_after_entry serial site row at_once rest) (any_entered P serial site row at_once rest there)
    ] here

-- what an accepted request finds is what it asks for
finds_asked : (s : State) (e : NewRequest) → Apart s → Placed s → enq_refusal s e ≡ None → IsAskedFor s e (enq_resource s e)
unfolding enq_resource site_refusal
finds_asked s e apart placed passed = of_found (find (is_at (enq_key s e)) s.resources) refl
  where
    asked : (r : Resource) → is_at (enq_key s e) r ≡ true → IsAskedFor s e r
    asked r at =
        asked_for s e r (caller_passes s e.pid (enq_passes s e passed).0) apart placed
        (both_pass (parent_refusal s e.pid (parent_lkid s e)) (privilege_refusal s e.pid e.flags (parent_lkid s e)) (enq_passes s e passed).2).0 at

    of_found : (found : Option Resource) → find (is_at (enq_key s e)) s.resources ≡ found
        → IsAskedFor s e (unwrap_or found (new_resource s.next_serial (enq_site s e)))
    of_found None is =
        asked (new_resource s.next_serial (enq_site s e))
        (at_key (enq_site s e).domain (enq_key s e) (new_resource s.next_serial (enq_site s e)) (enq_keyed s e placed) refl (λ _. refl) refl)
    of_found (Some r) is = asked r (found_at (is_at (enq_key s e)) s.resources r is).passes

-- it stands there
entered_there : (s : State) (e : NewRequest) → Apart s → Placed s → enq_refusal s e ≡ None
    → IsThere s e s.next_lkid e.pid (parent_lkid s e) (new_request s.next_request e) (resource_after_entry (enq_row s e) (enq_at_once s e) (enq_resource s e))
unfolding resource_after_entry
entered_there s e apart placed passed = (
  asked_same s e (enq_resource s e) (resource_after_entry (enq_row s e) (enq_at_once s e) (enq_resource s e))
      (entry_keeps_place (enq_row s e) (enq_at_once s e) (enq_resource s e)) (finds_asked s e apart placed passed),
  cond_both (enq_at_once s e) (resource_after_grant (enq_resource s e) (enq_row s e))
      (record (enq_resource s e) { waiting = (enq_resource s e).waiting ++ enq_row s e ∷ [] })
      (StandsNew s.next_lkid e.pid (parent_lkid s e) (new_request s.next_request e))
      (λ _.
      inl (Any-behind (IsRow s.next_lkid e.pid (parent_lkid s e) (Some (new_request s.next_request e)) None)
      (enq_resource s e).granted (granted_row (enq_row s e) ∷ [])
      (Any-here (IsRow s.next_lkid e.pid (parent_lkid s e) (Some (new_request s.next_request e)) None) (granted_row (enq_row s e)) []
      (record { lock = refl; process = refl; above = refl; holds = refl; wants = refl }))))
      (λ _.
      inr (Any-behind (IsRow s.next_lkid e.pid (parent_lkid s e) None (Some (new_request s.next_request e))) (enq_resource s e).waiting (enq_row s e ∷ [])
      (Any-here (IsRow s.next_lkid e.pid (parent_lkid s e) None (Some (new_request s.next_request e))) (enq_row s e) []
      (record { lock = refl; process = refl; above = refl; holds = refl; wants = refl })))),
)

-- and is there after the sweep
request_there : (s : State) (e : NewRequest) → Apart s → Placed s → enq_refusal s e ≡ None
    → Any (IsThere s e s.next_lkid e.pid (parent_lkid s e) (new_request s.next_request e))
    (resources_after_sweep (enq_change s e).processes (enq_change s e).resources)
unfolding enq_change enq_resource
request_there s e apart placed passed =
    swept_any (IsThere s e s.next_lkid e.pid (parent_lkid s e) (new_request s.next_request e))
    (there_after s e s.next_lkid e.pid (parent_lkid s e) (new_request s.next_request e))
    (there_occupied s e s.next_lkid e.pid (parent_lkid s e) (new_request s.next_request e))
    (enq_change s e).resources (resources_after_sweep (enq_change s e).processes (enq_change s e).resources) (sweep_endings (enq_change s e).resources)
    (sweep_in_order (enq_change s e).processes (enq_change s e).resources)
    (any_entered (IsThere s e s.next_lkid e.pid (parent_lkid s e) (new_request s.next_request e)) s.next_serial
    (enq_site s e) (enq_row s e) (enq_at_once s e) s.resources
    (entered_there s e apart placed passed))

-- after every run the lock of an accepted new request stands as it is asked for
pub new_locks_always : (history : History) (old : State) → Run history old → NewLocksStandAsAskedFor old
new_locks_always history old run e choice told lkid chosen answered = of_refusal (enq_refusal old e) refl answered
  where
    of_refusal : (refusal : Option Cond) → enq_refusal old e ≡ refusal → (refused_or refusal old (step_change old (Enq e) choice)).answer ≡ Lock told lkid
        → Any (IsThere old e lkid e.pid (parent_lkid old e) (new_request old.next_request e))
        (refused_or refusal old (step_change old (Enq e) choice)).state.resources
    of_refusal None passed answered =
        let same : old.next_lkid ≡ lkid = cc in
        subst (λ (n : ℕ). Any (IsThere old e n e.pid (parent_lkid old e) (new_request old.next_request e))
        (stepped_after_sweep (step_change old (Enq e) choice)).state.resources) same
        (request_there old e (apart_always history old run) (placed_always history old run) passed)
    of_refusal (Some refusal) is answered = cc

-- ---- a conversion

module _ (first : Resource) (was : LockState) (request : Request) where
  abbrev IsConverted : Resource → Type 0
  IsConverted r = IsSameResource first r × StandsConverted was request r

  -- it is there after grants
  converted_after : (before after : Resource) (endings : List Ending) → GrantsFirst before after endings → IsConverted before → IsConverted after
  converted_after before after endings grants there = (same_then first before after there.0 grants.same, still there.1)
    where
      still : StandsConverted was request before → StandsConverted was request after
      still (inl granted) =
          inl (granted_stays (IsRow was.lkid was.pid was.parent (Some request) None)
          (same_row was.lkid was.pid was.parent (Some request) None) before after endings grants granted)
      still (inr converting) = converting_after was.lkid was.pid was.parent was.held request before after endings grants converting

  -- and so a lock is left
  converted_occupied : (r : Resource) → IsConverted r → IsVacant r → ⊥
  converted_occupied r there vacant = of_queue there.1
    where
      of_queue : StandsConverted was request r → ⊥
      of_queue (inl granted) = none_among (IsRow was.lkid was.pid was.parent (Some request) None) r.granted vacant.granted granted
      of_queue (inr converting) = none_among (IsRow was.lkid was.pid was.parent was.held (Some request)) r.converting vacant.converting converting

-- the lock of an admitted conversion is granted on a resource that is there
pub admitted_there : (request : Request) (pid lkid : ℕ) (a : ConversionAdmission) (resources : List Resource)
    → admission_among request pid lkid resources ≡ Some a
    → (find (is_lock_of pid lkid) a.resource.granted ≡ Some a.row) × Any (λ r. a.resource ≡ r) resources
admitted_there request pid lkid a [] admitted = cc
admitted_there request pid lkid a (r ∷ rest) admitted =
    of_found (find (is_lock_of pid lkid) r.granted) refl (admission_among request pid lkid rest) (admitted_there request pid lkid a rest) admitted
  where
    of_found : (found : Option LockState) → find (is_lock_of pid lkid) r.granted ≡ found → (later : Option ConversionAdmission)
        → (later ≡ Some a → (find (is_lock_of pid lkid) a.resource.granted ≡ Some a.row) × Any (λ x. a.resource ≡ x) rest)
        → admission_or request r found later ≡ Some a
        → (find (is_lock_of pid lkid) a.resource.granted ≡ Some a.row) × Any (λ x. a.resource ≡ x) (r ∷ rest)
    of_found None is later behind at = let more = behind at in (more.0, Any-there (λ x. a.resource ≡ x) r rest more.1)
    of_found (Some row) is later behind at =
        subst (λ (b : ConversionAdmission). (find (is_lock_of pid lkid) b.resource.granted ≡ Some b.row)
        × Any (λ x. b.resource ≡ x) (r ∷ rest)) (some_same _ a at)
        (is, Any-here (λ x. r ≡ x) r rest refl)

-- what a function makes of some element is so of some that it makes
pub any_map : {X Y : Type 0} (P : X → Type 0) (Q : Y → Type 0) (f : X → Y) → ((x : X) → P x → Q (f x)) → (xs : List X) → Any P xs → Any Q (map f xs)
any_map P Q f pass [] some = absurd (Any-none P some)
any_map P Q f pass (x ∷ xs) some =
    elim (Any-cases P x xs some) [
      | inl here ↦ Any-here Q (f x) (map f xs) (pass x here)
      | inr there ↦ Any-there Q (f x) (map f xs) (any_map P Q f pass xs there)
    ]

-- it stands there as it converts
converts_there : (request : Request) (at_once : Bool) (pid lkid : ℕ) (block : ValueBlock) (r : Resource)
    (row : LockState) → find (is_lock_of pid lkid) r.granted ≡ Some row
    → IsConverted r row request (resource_after_conversion request at_once pid lkid block r)
unfolding resource_after_conversion
converts_there request at_once pid lkid block r row is = (
  conversion_keeps_place request at_once pid lkid block r,
  subst (λ (found : Option LockState). StandsConverted row request (resource_after_conversion_of request at_once lkid block r found)) (sym is)
      (cond_both at_once (with_value_block block (resource_after_grant (resource_without_granted lkid r) (wanting_row row request)))
      (record (resource_without_granted lkid r) { converting = r.converting ++ wanting_row row request ∷ [] })
      (StandsConverted row request)
      (λ _.
      inl (Any-behind (IsRow row.lkid row.pid row.parent (Some request) None) (resource_without_granted lkid r).granted
      (granted_row (wanting_row row request) ∷ [])
      (Any-here (IsRow row.lkid row.pid row.parent (Some request) None) (granted_row (wanting_row row request)) []
      (record { lock = refl; process = refl; above = refl; holds = refl; wants = refl }))))
      (λ _.
      inr (Any-behind (IsRow row.lkid row.pid row.parent row.held (Some request)) r.converting (wanting_row row request ∷ [])
      (Any-here (IsRow row.lkid row.pid row.parent row.held (Some request)) (wanting_row row request) []
      (record { lock = refl; process = refl; above = refl; holds = refl; wants = refl }))))),
)

-- what is said of the lock of a conversion
abbrev StandsOnAs : State → Conversion → ℕ → List Resource → Type 0
StandsOnAs s c lkid after =
    Any (λ before. Any (λ was. (was.lkid ≡ lkid) × (was.pid ≡ c.pid)
    × Any (IsConverted before was (new_conversion s.next_request c)) after) before.granted) s.resources

conversion_there : (s : State) (c : Conversion) (a : ConversionAdmission) → convert_admission s c ≡ Some a
    → StandsOnAs s c (convert_lkid s c) (resources_after_sweep (convert_change s c a).processes (convert_change s c a).resources)
unfolding convert_change convert_admission
conversion_there s c a admitted =
    let lkid : ℕ = convert_lkid s c in
    let request : Request = convert_request s c in
    let block : ValueBlock = (convert_blocks s c a).value_block in
    let after : List Resource = resources_after_sweep (convert_change s c a).processes (convert_change s c a).resources in
    let asks : a.request ≡ request = admitted_request request c.pid lkid a s.resources admitted in
    let there = admitted_there request c.pid lkid a s.resources admitted in
    let row : Found (is_lock_of c.pid lkid) a.resource.granted a.row = found_at (is_lock_of c.pid lkid) a.resource.granted a.row there.0 in
    let tests = and_parts (a.row.lkid == lkid) (a.row.pid == c.pid) row.passes in
    let converted : Any (IsConverted a.resource a.row request) (convert_change s c a).resources =
    any_map (λ r. a.resource ≡ r) (IsConverted a.resource a.row request) (resource_after_conversion a.request a.at_once c.pid lkid block)
    (λ r same.
    subst (λ (x : Resource). IsConverted a.resource a.row request (resource_after_conversion a.request a.at_once c.pid lkid block x)) same
    (subst (λ (q : Request). IsConverted a.resource a.row q (resource_after_conversion a.request a.at_once c.pid lkid block a.resource)) asks
    (converts_there a.request a.at_once c.pid lkid block a.resource a.row there.0))) s.resources there.1 in
    let swept : Any (IsConverted a.resource a.row request) after =
    swept_any (IsConverted a.resource a.row request) (converted_after a.resource a.row request) (converted_occupied a.resource a.row request)
    (convert_change s c a).resources after (sweep_endings (convert_change s c a).resources)
    (sweep_in_order (convert_change s c a).processes (convert_change s c a).resources) converted in
    Any-weaker (λ r. a.resource ≡ r)
    (λ before. Any (λ was. (was.lkid ≡ lkid) × (was.pid ≡ c.pid) × Any (IsConverted before was request) after) before.granted)
    (λ r same.
    subst (λ (before : Resource). Any (λ was. (was.lkid ≡ lkid) × (was.pid ≡ c.pid) × Any (IsConverted before was request) after) before.granted) same
    (Any_found (λ was. (was.lkid ≡ lkid) × (was.pid ≡ c.pid) × Any (IsConverted a.resource was request) after)
    (is_lock_of c.pid lkid) a.resource.granted a.row there.0
    (eqb-true a.row.lkid lkid tests.0, eqb-true a.row.pid c.pid tests.1, swept)))
    s.resources there.1

-- after every run that of an accepted conversion does
pub converted_locks_always : (history : History) (old : State) → Run history old → ConvertedLocksStandAsAskedFor old
converted_locks_always history old run c choice told lkid chosen answered = of_refusal (convert_refusal old c) refl answered
  where
    of_admission : (admission : Option ConversionAdmission) → convert_admission old c ≡ admission
        → (stepped_after_sweep (conversion_change old c admission)).answer ≡ Lock told lkid
        → StandsOnAs old c lkid (stepped_after_sweep (conversion_change old c admission)).state.resources
    of_admission None is answered = cc
    of_admission (Some a) is answered =
        let same : convert_lkid old c ≡ lkid = cc in
        subst (λ (n : ℕ). StandsOnAs old c n (stepped_after_sweep (conversion_change old c (Some a))).state.resources) same (conversion_there old c a is)

    of_refusal : (refusal : Option Cond) → convert_refusal old c ≡ refusal
        → (refused_or refusal old (step_change old (Convert c) choice)).answer ≡ Lock told lkid
        → StandsOnAs old c lkid (refused_or refusal old (step_change old (Convert c) choice)).state.resources
    of_refusal None passed answered = of_admission (convert_admission old c) refl answered
    of_refusal (Some refusal) is answered = cc
