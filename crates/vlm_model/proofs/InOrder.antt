-- Grants come from the heads of the queues, resource by resource.
use Rattle.std.proofs.Common.{◌≡◌, ◌<◌, ℕ, suc, true, false, not, ◌&&◌, List, [], ◌∷◌, ◌++◌, take, drop, cond, Option}
use Rattle.std.proofs.Common.{None, Some, append_assoc, refl, sym, subst, ap, ◌∙◌, arith, map}
use Rattle.std.specs.Prelude.{IsSome}
use Rattle.std.specs.List.{AllZip, AllByRecursion}
use Rattle.std.proofs.lemmas.Bool.{and_parts, cond_both}
use Rattle.std.proofs.lemmas.List.{append-nil, map-append}
use Rattle.vlm_words.specs.declared.locks.Request.{Request}
use Rattle.vlm_words.specs.declared.locks.LockState.{LockState}
use Rattle.vlm_words.specs.declared.resources.ValueBlock.{ValueBlock}
use Rattle.vlm_words.specs.State.{Process, Resource}
use Rattle.vlm_model.specs.Endings.{Ending, wanted_endings}
use Rattle.vlm_model.specs.Endings.How.{by_grant}
use Rattle.vlm_model.specs.Effects.{with_value_block}
use Rattle.vlm_model.specs.Grants.{Service, grant_act, grant_endings, no_service, resource_after_grant, service}
use Rattle.vlm_model.specs.Grants.{service_after_grant, service_of_conversions, service_of_new_requests}
use Rattle.vlm_model.specs.Grants.{service_of_waiting, wanted_fits}
use Rattle.vlm_words.specs.Rows.{granted_row, is_empty}
use Rattle.vlm_model.specs.Sweeps.{blocks_after_service, is_vacant, resource_after_service, resources_after_sweep, sweep_endings}
use Rattle.vlm_model.specs.Laws.{GrantsFirst, IsGrantOf, IsGranted, IsSameButArmed, IsSameResource, IsVacant}
use Rattle.vlm_model.specs.Laws.{SweptInOrder, goes, none, stays, first_rows, IsGrant}
use Rattle.vlm_model.proofs.NothingLeft.{is_empty-true}
use Rattle.vlm_model.specs.Asts.{resource_after_warning, row_after_warning}
use Rattle.vlm_model.proofs.Warned.{blind_warned, stay_warned}

-- of the rows in a queue the first are granted in their order, and these are left
record Serves (rows before after left : List LockState) (endings : List Ending) : Type 0 where
  served_rows : ℕ
  given : List LockState
  rest : left ≡ drop served_rows rows
  granted : after ≡ before ++ given
  each_granted : AllZip IsGranted (take served_rows rows) given
  each_ends : AllZip IsGrantOf (take served_rows rows) endings

-- what the service of a queue does
abbrev ServesFrom : List LockState → Resource → (Resource → List LockState) → Service → Type 0
ServesFrom rows r queue s = Serves rows r.granted s.resource.granted (queue s.resource) s.endings

-- no row is granted
serves_none : (rows before left : List LockState) → left ≡ rows → Serves rows before before left []
serves_none rows before left is = record {
  served_rows = 0;
  given = [];
  rest = is;
  granted = sym (append-nil before);
  each_granted = tt;
  each_ends = tt;
}

-- what fits is wanted
some_fits : (want : Option Request) (granted converting : List LockState) → wanted_fits want granted converting ≡ true → IsSome want
some_fits None granted converting fitting = cc
some_fits (Some request) granted converting fitting = refl

-- the grant of a row ends what it wanted
ends_zip : (row : LockState) (rows : List LockState) (endings : List Ending) (want : Option Request) → row.want ≡ want → IsSome want
    → AllZip IsGrantOf rows endings → AllZip IsGrantOf (row ∷ rows) (grant_endings false row ++ endings)
ends_zip row rows endings None is some each = cc
ends_zip row rows endings (Some request) is some each =
    subst (λ (want : Option Request).
    AllZip IsGrantOf (row ∷ rows) (wanted_endings (by_grant (grant_act row.held row.want)) false row.lkid row.pid want ++ endings)) (sym is)
    (record { lkid = refl; pid = refl; request = sym is; how = tt; queued = refl }, each)

-- the first row is granted, and then more
serves_one_more : (row : LockState) (rows before after left : List LockState) (endings : List Ending) → IsSome row.want
    → Serves rows (before ++ granted_row row ∷ []) after left endings → Serves (row ∷ rows) before after left (grant_endings false row ++ endings)
serves_one_more row rows before after left endings some serves = record {
  served_rows = suc serves.served_rows;
  given = granted_row row ∷ serves.given;
  rest = serves.rest;
  granted = serves.granted ∙ append_assoc before (granted_row row ∷ []) serves.given;
  each_granted = (record { lkid = refl; pid = refl; parent = refl; wanted = some; holds = refl; wants_nothing = refl }, serves.each_granted);
  each_ends = ends_zip row (take serves.served_rows rows) endings row.want refl some serves.each_ends;
}

-- conversions are granted from the head of their queue
conversions_served : (r : Resource) (rows : List LockState) → r.converting ≡ rows → ServesFrom rows r (λ t. t.converting) (service_of_conversions r rows)
conversions_served r [] is = serves_none [] r.granted r.converting is
conversions_served r (row ∷ rows) is =
    let granted : Resource = record (resource_after_grant r row) { converting = rows } in
    let further : Service = service_of_conversions granted rows in
    cond_both (wanted_fits row.want r.granted rows) (service_after_grant row further) (no_service r)
    (ServesFrom (row ∷ rows) r (λ t. t.converting))
    (λ fitting. serves_one_more row rows r.granted further.resource.granted further.resource.converting further.endings
    (some_fits row.want r.granted rows fitting) (conversions_served granted rows refl))
    (λ _. serves_none (row ∷ rows) r.granted r.converting is)

-- new requests are granted from the head of their queue
waiting_served : (r : Resource) (rows : List LockState) → r.waiting ≡ rows → ServesFrom rows r (λ t. t.waiting) (service_of_waiting r rows)
waiting_served r [] is = serves_none [] r.granted r.waiting is
waiting_served r (row ∷ rows) is =
    let granted : Resource = record (resource_after_grant r row) { waiting = rows } in
    let further : Service = service_of_waiting granted rows in
    cond_both (wanted_fits row.want r.granted r.converting) (service_after_grant row further) (no_service r)
    (ServesFrom (row ∷ rows) r (λ t. t.waiting))
    (λ fitting. serves_one_more row rows r.granted further.resource.granted further.resource.waiting further.endings
    (some_fits row.want r.granted r.converting fitting) (waiting_served granted rows refl))
    (λ _. serves_none (row ∷ rows) r.granted r.waiting is)

-- the two are one resource with one waiting queue
pub record SameWaiting (before after : Resource) : Type 0 where
  pub same : IsSameResource before after
  pub waiting : after.waiting ≡ before.waiting

-- the two are one resource with one conversion queue
record SameConverting (before after : Resource) : Type 0 where
  same : IsSameResource before after
  converting : after.converting ≡ before.converting

-- a resource is itself
pub same_resource : (r : Resource) → IsSameResource r r
same_resource r = record { serial = refl; parent = refl; domain = refl; name = refl; level = refl }

-- serving the conversions leaves the waiting queue
pub conversions_leave_waiting : (r : Resource) (rows : List LockState) → SameWaiting r (service_of_conversions r rows).resource
conversions_leave_waiting r [] = record { same = same_resource r; waiting = refl }
conversions_leave_waiting r (row ∷ rows) =
    let granted : Resource = record (resource_after_grant r row) { converting = rows } in
    let further : SameWaiting granted (service_of_conversions granted rows).resource = conversions_leave_waiting granted rows in
    cond_both (wanted_fits row.want r.granted rows) (service_after_grant row (service_of_conversions granted rows)) (no_service r)
    (λ s. SameWaiting r s.resource)
    (λ _. record {
      same = record {
        serial = further.same.serial;
        parent = further.same.parent;
        domain = further.same.domain;
        name =
            further.same.name;
        level = further.same.level;
      };
      waiting = further.waiting;
    })
    (λ _. record { same = same_resource r; waiting = refl })

-- serving the waiting queue leaves the conversions
waiting_leaves_conversions : (r : Resource) (rows : List LockState) → SameConverting r (service_of_waiting r rows).resource
waiting_leaves_conversions r [] = record { same = same_resource r; converting = refl }
waiting_leaves_conversions r (row ∷ rows) =
    let granted : Resource = record (resource_after_grant r row) { waiting = rows } in
    let further : SameConverting granted (service_of_waiting granted rows).resource = waiting_leaves_conversions granted rows in
    cond_both (wanted_fits row.want r.granted r.converting) (service_after_grant row (service_of_waiting granted rows)) (no_service r)
    (λ s. SameConverting r s.resource)
    (λ _. record {
      same = record {
        serial = further.same.serial;
        parent = further.same.parent;
        domain = further.same.domain;
        name =
            further.same.name;
        level = further.same.level;
      };
      converting = further.converting;
    })
    (λ _. record { same = same_resource r; converting = refl })

-- what holds place by place of two pairs of lists holds of both joined
zip_append : {A B : Type 0} (R : A → B → Type 0) (xs : List A) (ys : List B) (more : List A) (others : List B)
    → AllZip R xs ys → AllZip R more others → AllZip R (xs ++ more) (ys ++ others)
zip_append R [] [] more others first second = second
zip_append R [] (y ∷ ys) more others first second = absurd first
zip_append R (x ∷ xs) [] more others first second = absurd first
zip_append R (x ∷ xs) (y ∷ ys) more others first second = (first.0, zip_append R xs ys more others first.1 second)

-- one resource after another
pub same_then : (a b c : Resource) → IsSameResource a b → IsSameResource b c → IsSameResource a c
same_then a b c first second = record {
  serial = second.serial ∙ first.serial;
  parent = second.parent ∙ first.parent;
  domain = second.domain ∙ first.domain;
  name = second.name ∙ first.name;
  level = second.level ∙ first.level;
}

-- rows that stay are the same
same_each : (rows : List LockState) → AllZip IsSameButArmed rows rows
same_each [] = tt
same_each (row ∷ rows) = (record { lkid = refl; pid = refl; parent = refl; held = refl; want = refl }, same_each rows)

-- once the conversions are served, and none is left, the new requests are
then_new_requests : (r left : Resource) (endings : List Ending) → Serves r.converting r.granted left.granted left.converting endings
    → SameWaiting r left
    → GrantsFirst r (service_of_new_requests left).resource (endings ++ (service_of_new_requests left).endings)
then_new_requests r left endings first same =
    let further : Service = service_of_waiting left left.waiting in
    let second : Serves left.waiting left.granted further.resource.granted further.resource.waiting further.endings =
    waiting_served left left.waiting refl in
    let leaves : SameConverting left further.resource = waiting_leaves_conversions left left.waiting in
    cond_both (is_empty left.converting) further (no_service left) (λ s. GrantsFirst r s.resource (endings ++ s.endings))
    (λ none. record {
      conversions = first.served_rows;
      new_requests = second.served_rows;
      kept = r.granted;
      given = first.given ++ second.given;
      stay = same_each r.granted;
      same = same_then r left further.resource same.same leaves.same;
      converting = leaves.converting ∙ first.rest;
      waiting = second.rest ∙ ap (drop second.served_rows) same.waiting;
      granted = second.granted ∙ ap (λ (rows : List LockState). rows ++ second.given) first.granted ∙ append_assoc r.granted first.given second.given;
      rows =
          zip_append IsGranted (take first.served_rows r.converting) first.given (take second.served_rows r.waiting) second.given
          first.each_granted
          (subst (λ (rows : List LockState). AllZip IsGranted (take second.served_rows rows) second.given) same.waiting second.each_granted);
      ends =
          zip_append IsGrantOf (take first.served_rows r.converting) endings (take second.served_rows r.waiting) further.endings
          first.each_ends
          (subst (λ (rows : List LockState). AllZip IsGrantOf (take second.served_rows rows) further.endings) same.waiting second.each_ends);
      conversions_before = λ _. leaves.converting ∙ is_empty-true left.converting none;
    })
    (λ _. record {
      conversions = first.served_rows;
      new_requests = 0;
      kept = r.granted;
      given = first.given;
      stay = same_each r.granted;
      same = same.same;
      converting = first.rest;
      waiting = same.waiting;
      granted = first.granted;
      rows = subst (λ (rows : List LockState). AllZip IsGranted rows first.given) (sym (append-nil (take first.served_rows r.converting))) first.each_granted;
      ends =
          zip_append IsGrantOf (take first.served_rows r.converting) endings [] [] first.each_ends tt;
      conversions_before = λ (some : 0 < 0). absurd (omega arith);
    })

-- service grants from the heads of the queues
pub service_in_order : (r : Resource) → GrantsFirst r (service r).resource (service r).endings
unfolding service
service_in_order r =
    then_new_requests r (service_of_conversions r r.converting).resource (service_of_conversions r r.converting).endings
    (conversions_served r r.converting refl) (conversions_leave_waiting r r.converting)

-- the value block that is left does not matter
with_any_value_block : (block : ValueBlock) (before after : Resource) (endings : List Ending) → GrantsFirst before after endings
    → GrantsFirst before (with_value_block block after) endings
with_any_value_block block before after endings first = record {
  conversions = first.conversions;
  new_requests = first.new_requests;
  kept = first.kept;
  given = first.given;
  stay = first.stay;
  same = record { serial = first.same.serial; parent = first.same.parent; domain = first.same.domain; name = first.same.name; level = first.same.level };
  converting = first.converting;
  waiting = first.waiting;
  granted = first.granted;
  rows = first.rows;
  ends = first.ends;
  conversions_before = first.conversions_before;
}

-- granted rows that are warned are granted ones still
given_warned : (converting waiting rows given : List LockState) → AllZip IsGranted rows given
    → AllZip IsGranted rows (map (row_after_warning converting waiting) given)
given_warned converting waiting [] [] granted = tt
given_warned converting waiting [] (row ∷ given) granted = absurd granted
given_warned converting waiting (old ∷ rows) [] granted = absurd granted
given_warned converting waiting (old ∷ rows) (row ∷ given) granted = (
  record {
    lkid = blind_warned (λ x. x.lkid) (λ x armed. refl) converting waiting row ∙ granted.0.lkid;
    pid = blind_warned (λ x. x.pid) (λ x armed. refl) converting waiting row ∙ granted.0.pid;
    parent = blind_warned (λ x. x.parent) (λ x armed. refl) converting waiting row ∙ granted.0.parent;
    wanted = granted.0.wanted;
    holds = blind_warned (λ x. x.held) (λ x armed. refl) converting waiting row ∙ granted.0.holds;
    wants_nothing = blind_warned (λ x. x.want) (λ x armed. refl) converting waiting row ∙ granted.0.wants_nothing;
  },
  given_warned converting waiting rows given granted.1,
)

-- warnings disarm rows alone
with_warnings : (before after : Resource) (endings : List Ending) → GrantsFirst before after endings
    → GrantsFirst before (resource_after_warning after) endings
unfolding resource_after_warning
with_warnings before after endings first = record {
  conversions = first.conversions;
  new_requests = first.new_requests;
  kept = map (row_after_warning after.converting after.waiting) first.kept;
  given = map (row_after_warning after.converting after.waiting) first.given;
  stay = stay_warned after.converting after.waiting before.granted first.kept first.stay;
  same = record { serial = first.same.serial; parent = first.same.parent; domain = first.same.domain; name = first.same.name; level = first.same.level };
  converting = first.converting;
  waiting = first.waiting;
  granted = ap (map (row_after_warning after.converting after.waiting)) first.granted
      ∙ map-append (row_after_warning after.converting after.waiting) first.kept first.given;
  rows = given_warned after.converting after.waiting (first_rows first.conversions first.new_requests before) first.given first.rows;
  ends = first.ends;
  conversions_before = first.conversions_before;
}

-- a resource without rows is vacant
vacant : (r : Resource) → is_vacant r ≡ true → IsVacant r
vacant r empty =
    let both = and_parts (is_empty r.granted && is_empty r.converting) (is_empty r.waiting) empty in
    let first = and_parts (is_empty r.granted) (is_empty r.converting) both.0 in
    record {
      granted = is_empty-true r.granted first.0;
      converting = is_empty-true r.converting first.1;
      waiting = is_empty-true r.waiting both.1;
    }

-- a sweep grants from the heads of the queues, resource by resource, and drops those without locks
pub sweep_in_order : (processes : List Process) (resources : List Resource)
    → SweptInOrder resources (resources_after_sweep processes resources) (sweep_endings resources)
unfolding resources_after_sweep sweep_endings
sweep_in_order processes [] = none
sweep_in_order processes (r ∷ rest) =
    let after : Resource = resource_after_service processes r in
    let left : List Resource = resources_after_sweep (blocks_after_service processes r).processes rest in
    let first : GrantsFirst r after (service r).endings =
    let block : ValueBlock = (blocks_after_service processes r).value_block in
    with_warnings r (with_value_block block (service r).resource) (service r).endings
    (with_any_value_block block r (service r).resource (service r).endings (service_in_order r)) in
    let behind : SweptInOrder rest left (sweep_endings rest) = sweep_in_order (blocks_after_service processes r).processes rest in
    elim (is_vacant after) as (λ b. is_vacant after ≡ b
    → SweptInOrder (r ∷ rest) (cond (not b) (after ∷ left) left) ((service r).endings ++ sweep_endings rest)) [
      | true ↦ λ empty. goes first (vacant after empty) behind
      | false ↦ λ _. stays first behind
    ] refl

-- what is granted from queues ends by grants
pub granted_ends : (rows : List LockState) (endings : List Ending) → AllZip IsGrantOf rows endings → AllByRecursion (λ ending. IsGrant ending.how) endings
granted_ends [] [] ends = tt
granted_ends [] (ending ∷ endings) ends = absurd ends
granted_ends (row ∷ rows) [] ends = absurd ends
granted_ends (row ∷ rows) (ending ∷ endings) ends = (ends.0.how, granted_ends rows endings ends.1)

-- the service of a resource ends nothing but by grants
pub service_grants : (r : Resource) → AllByRecursion (λ ending. IsGrant ending.how) (service r).endings
service_grants r =
    let first : GrantsFirst r (service r).resource (service r).endings = service_in_order r in
    granted_ends (first_rows first.conversions first.new_requests r) (service r).endings first.ends
