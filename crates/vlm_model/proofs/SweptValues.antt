-- A sweep leaves value blocks as they are, since no queued request writes.
use Rattle.std.proofs.Common.{◌≡◌, filter, Bool, true, false, not, List, [], ◌∷◌, map, cond, Option, None, Some, refl, sym, subst, ap, ◌∙◌}
use Rattle.std.specs.Prelude.{Any}
use Rattle.std.specs.List.{AllByRecursion, find}
use Rattle.std.proofs.lemmas.Bool.{cond_both, true≢false}
use Rattle.vlm_words.specs.declared.locks.Request.{Request}
use Rattle.vlm_words.specs.declared.locks.LockState.{LockState}
use Rattle.vlm_words.specs.declared.modes.Act.TheVariants.{Nothing, Return, Write}
use Rattle.vlm_words.specs.declared.resources.ValueBlock.{ValueBlock}
use Rattle.vlm_words.specs.declared.steps.Conversion.{Conversion}
use Rattle.vlm_words.specs.declared.steps.NewRequest.{NewRequest}
use Rattle.vlm_words.specs.Flags.{flag_bits, has_flag, valblk}
use Rattle.vlm_words.specs.State.{Process, Resource, State}
use Rattle.vlm_model.specs.Endings.{Ending, How, wanted_endings}
use Rattle.vlm_model.specs.Endings.How.{by_abort, by_cancel, by_deadlock, by_grant, by_rundown}
use Rattle.vlm_model.specs.Effects.{Blocks, blocks_after, blocks_after_end, blocks_after_ending, blocks_after_return, blocks_with}
use Rattle.vlm_model.specs.Grants.{grant_act, grant_endings, no_service, resource_after_grant, service}
use Rattle.vlm_model.specs.Grants.{service_after_grant, service_of_conversions, service_of_new_requests}
use Rattle.vlm_model.specs.Grants.{service_of_waiting, valblk_act, wanted_fits}
use Rattle.vlm_words.specs.Rows.{is_empty, is_lock_of}
use Rattle.vlm_model.specs.Sweeps.{blocks_after_service, is_vacant, resource_after_service, resources_after_service, resources_after_sweep, served_with}
use Rattle.vlm_model.specs.Enqueue.{enq_row}
use Rattle.vlm_model.specs.Convert.{ConversionAdmission, convert_admission, convert_lkid, convert_refusal, convert_request}
use Rattle.vlm_model.specs.Runs.{History, Run}
use Rattle.vlm_model.specs.Laws.{action_from, IsSameResource}
use Rattle.vlm_model.proofs.Admissions.{admitted_request, found_lkid}
use Rattle.vlm_model.proofs.IdsApart.{Apart, apart_always}
use Rattle.vlm_model.proofs.Each.{Any-weaker, each_append, each_weaker, found_at, each_member}
use Rattle.vlm_model.proofs.HeldModes.{HoldersAgree, holders_agree_always}
use Rattle.vlm_model.proofs.InOrder.{SameWaiting, conversions_leave_waiting, same_then, service_in_order}
use Rattle.vlm_model.proofs.Refusals.{Any_found}
use Rattle.vlm_model.proofs.Waiting.{EachConverting, Queued, queued_always}
use Rattle.vlm_model.proofs.WritingConversions.{only_row_among, write_at_once}
use Rattle.vlm_model.specs.Asts.{resource_after_warning}
use Rattle.vlm_model.proofs.Warned.{warned_same}

-- ---- no queued request writes

-- the grant of what the row wants does not write the value block
abbrev pub IsHarmless : LockState → Type 0
IsHarmless row = grant_act row.held row.want ≡ Write → ⊥

-- nor does that of a new request
pub new_is_harmless : (s : State) (e : NewRequest) → IsHarmless (enq_row s e)
unfolding grant_act
new_is_harmless s e is = of_flag (has_flag e.flags valblk) is
  where
    of_flag : (flagged : Bool) → cond flagged Return Nothing ≡ Write → ⊥
    of_flag true is = cc
    of_flag false is = cc

-- a grant that writes is that of a conversion with VALBLK that the table lets write
pub writes_by_table : (held : Option Request) (request : Request) → grant_act held (Some request) ≡ Write
    → (has_flag (flag_bits request.flags) valblk ≡ true) × (action_from held request.mode ≡ Write)
unfolding grant_act
writes_by_table held request is = of_flag (has_flag (flag_bits request.flags) valblk) held is
  where
    of_flag : (flagged : Bool) (held : Option Request) → cond flagged (valblk_act held request.mode) Nothing ≡ Write
        → (flagged ≡ true) × (action_from held request.mode ≡ Write)
    of_flag true None is = cc
    of_flag true (Some held) is = (refl, is)
    of_flag false held is = cc

-- and the other way round
pub table_writes : (held : Option Request) (request : Request) → has_flag (flag_bits request.flags) valblk ≡ true → action_from held request.mode ≡ Write
    → grant_act held (Some request) ≡ Write
unfolding grant_act
table_writes held request flagged table = of_held held table
  where
    of_held : (held : Option Request) → action_from held request.mode ≡ Write
        → cond (has_flag (flag_bits request.flags) valblk) (valblk_act held request.mode) Nothing ≡ Write
    of_held None table = cc
    of_held (Some held) table = rw flagged table

-- an accepted conversion that is not granted at once does not write
pub conversion_is_harmless : (s : State) (c : Conversion) (a : ConversionAdmission) → AllByRecursion HoldersAgree s.resources → Apart s
    → convert_refusal s c ≡ None → convert_admission s c ≡ Some a → a.at_once ≡ false
    → AllByRecursion (EachConverting IsHarmless c (convert_lkid s c) a) s.resources
unfolding convert_admission
conversion_is_harmless s c a agree apart passed is waits =
    each_weaker (λ r. Any (λ x. r ≡ x) s.resources) (EachConverting IsHarmless c (convert_lkid s c) a) at_each s.resources (each_member s.resources)
  where
    asks : a.request ≡ convert_request s c
    asks = admitted_request (convert_request s c) c.pid (convert_lkid s c) a s.resources is

    writes : (r : Resource) (row : LockState) → find (is_lock_of c.pid (convert_lkid s c)) r.granted ≡ Some row → Any (λ x. r ≡ x) s.resources
        → action_from row.held c.mode ≡ Write → a.at_once ≡ true
    writes r row found there table =
        write_at_once s c a agree passed is
        (only_row_among (λ x. action_from x.held c.mode ≡ Write) (convert_request s c) c.pid
        (convert_lkid s c) a s.resources (apart.one_row (convert_lkid s c)) is
        (Any-weaker (λ x. r ≡ x) (λ x. Any (λ y. (y.lkid ≡ convert_lkid s c) × (action_from y.held c.mode ≡ Write)) x.granted)
        (λ x same.
        subst (λ (t : Resource). Any (λ y. (y.lkid ≡ convert_lkid s c) × (action_from y.held c.mode ≡ Write)) t.granted) same
        (Any_found (λ y. (y.lkid ≡ convert_lkid s c) × (action_from y.held c.mode ≡ Write)) (is_lock_of c.pid (convert_lkid s c)) r.granted row found
        (found_lkid c.pid (convert_lkid s c) row (found_at (is_lock_of c.pid (convert_lkid s c)) r.granted row found).passes, table))) s.resources there))

    at_each : (r : Resource) → Any (λ x. r ≡ x) s.resources → EachConverting IsHarmless c (convert_lkid s c) a r
    at_each r there row found act =
        true≢false (sym (writes r row found there
        (ap (λ (q : Request). action_from row.held q.mode) (sym asks) ∙ (writes_by_table row.held a.request act).1)) ∙ waits)

-- after every run no queued request writes
pub harmless_always : (history : History) (last : State) → Run history last → AllByRecursion (Queued IsHarmless) last.resources
harmless_always =
    queued_always IsHarmless (λ _ s _ e _ _. new_is_harmless s e)
    (λ history s run c a passed is waits. conversion_is_harmless s c a (holders_agree_always history s run) (apart_always history s run) passed is waits)

-- ---- so a sweep leaves value blocks

-- the end does not write the value block
abbrev pub WritesNothing : Ending → Type 0
WritesNothing ending = ending.how ≡ by_grant Write → ⊥

pub grant_harmless : (at_once : Bool) (row : LockState) → IsHarmless row → AllByRecursion WritesNothing (grant_endings at_once row)
grant_harmless at_once row harmless = of_want row.want
  where
    of_want : (want : Option Request) → AllByRecursion WritesNothing (wanted_endings (by_grant (grant_act row.held row.want)) at_once row.lkid row.pid want)
    of_want None = tt
    of_want (Some request) = ((λ is. harmless (cc)), tt)

-- what the grant of each row has, each ending of a service has
module _ (P : LockState → Type 0) (Q : Ending → Type 0) (grants : (row : LockState) → P row → AllByRecursion Q (grant_endings false row)) where
  conversions_each : (r : Resource) (rows : List LockState) → AllByRecursion P rows → AllByRecursion Q (service_of_conversions r rows).endings
  conversions_each r [] each = tt
  conversions_each r (row ∷ rows) each =
      let granted : Resource = record (resource_after_grant r row) { converting = rows } in
      cond_both (wanted_fits row.want r.granted rows) (service_after_grant row (service_of_conversions granted rows)) (no_service r)
      (λ s. AllByRecursion Q s.endings)
      (λ _. each_append Q (grant_endings false row) (service_of_conversions granted rows).endings (grants row each.0) (conversions_each granted rows each.1))
      (λ _. tt)

  waiting_each : (r : Resource) (rows : List LockState) → AllByRecursion P rows → AllByRecursion Q (service_of_waiting r rows).endings
  waiting_each r [] each = tt
  waiting_each r (row ∷ rows) each =
      let granted : Resource = record (resource_after_grant r row) { waiting = rows } in
      cond_both (wanted_fits row.want r.granted r.converting) (service_after_grant row (service_of_waiting granted rows)) (no_service r)
      (λ s. AllByRecursion Q s.endings)
      (λ _. each_append Q (grant_endings false row) (service_of_waiting granted rows).endings (grants row each.0) (waiting_each granted rows each.1))
      (λ _. tt)

  pub service_each : (r : Resource) → Queued P r → AllByRecursion Q (service r).endings
  unfolding service
  service_each r each =
      let first = service_of_conversions r r.converting in
      let same : SameWaiting r first.resource = conversions_leave_waiting r r.converting in
      each_append Q first.endings (service_of_new_requests first.resource).endings (conversions_each r r.converting each.converting)
      (cond_both (is_empty first.resource.converting) (service_of_waiting first.resource first.resource.waiting) (no_service first.resource)
      (λ s. AllByRecursion Q s.endings)
      (λ _. waiting_each first.resource first.resource.waiting (subst (AllByRecursion P) (sym same.waiting) each.waiting))
      (λ _. tt))

-- so no grant of a service writes
pub service_harmless : (r : Resource) → Queued IsHarmless r → AllByRecursion WritesNothing (service r).endings
service_harmless = service_each IsHarmless WritesNothing (grant_harmless false)

-- what does not write the value block leaves it
pub end_leaves : (how : How) (ending : Ending) (b : Blocks) → (how ≡ by_grant Write → ⊥) → (blocks_after_end how ending b).value_block ≡ b.value_block
unfolding blocks_after_return
end_leaves (by_grant Nothing) ending b nothing = refl
end_leaves (by_grant Return) ending b nothing = refl
end_leaves (by_grant Write) ending b nothing = absurd (nothing refl)
end_leaves by_abort ending b nothing = refl
end_leaves by_cancel ending b nothing = refl
end_leaves by_deadlock ending b nothing = refl
end_leaves by_rundown ending b nothing = refl

pub ends_leave : (endings : List Ending) (b : Blocks) → AllByRecursion WritesNothing endings → (blocks_after endings b).value_block ≡ b.value_block
ends_leave [] b nothing = refl
ends_leave (ending ∷ endings) b nothing =
    ends_leave endings (blocks_after_ending ending b) nothing.1 ∙ end_leaves ending.how ending b nothing.0

-- a service moves rows alone
conversions_leave : (r : Resource) (rows : List LockState) → (service_of_conversions r rows).resource.value_block ≡ r.value_block
conversions_leave r [] = refl
conversions_leave r (row ∷ rows) =
    let granted : Resource = record (resource_after_grant r row) { converting = rows } in
    cond_both (wanted_fits row.want r.granted rows) (service_after_grant row (service_of_conversions granted rows)) (no_service r)
    (λ s. s.resource.value_block ≡ r.value_block) (λ _. conversions_leave granted rows) (λ _. refl)

waiting_leaves : (r : Resource) (rows : List LockState) → (service_of_waiting r rows).resource.value_block ≡ r.value_block
waiting_leaves r [] = refl
waiting_leaves r (row ∷ rows) =
    let granted : Resource = record (resource_after_grant r row) { waiting = rows } in
    cond_both (wanted_fits row.want r.granted r.converting) (service_after_grant row (service_of_waiting granted rows)) (no_service r)
    (λ s. s.resource.value_block ≡ r.value_block) (λ _. waiting_leaves granted rows) (λ _. refl)

pub service_leaves : (r : Resource) → (service r).resource.value_block ≡ r.value_block
unfolding service
service_leaves r =
    let first = service_of_conversions r r.converting in
    cond_both (is_empty first.resource.converting) (service_of_waiting first.resource first.resource.waiting) (no_service first.resource)
    (λ s. s.resource.value_block ≡ r.value_block)
    (λ _. waiting_leaves first.resource first.resource.waiting ∙ conversions_leave r r.converting)
    (λ _. conversions_leave r r.converting)

-- the resource as its service leaves it where no grant writes the value block
abbrev pub served : Resource → Resource
served r = resource_after_warning (service r).resource

-- and so does a service with all that it writes
pub served_alone : (processes : List Process) (r : Resource) → Queued IsHarmless r → resource_after_service processes r ≡ served r
unfolding blocks_after_service
served_alone processes r harmless =
    ap (λ (block : ValueBlock). served_with block r)
    (ends_leave (service r).endings (blocks_with r.value_block processes) (service_harmless r harmless) ∙ sym (service_leaves r))

-- it is the resource that it was
pub served_same : (r : Resource) → IsSameResource r (served r)
served_same r = same_then r (service r).resource (served r) (service_in_order r).same (warned_same (service r).resource)

-- the value block stays
pub served_leaves : (r : Resource) → (served r).value_block ≡ r.value_block
unfolding resource_after_warning
served_leaves r = service_leaves r

all_served_alone : (processes : List Process) (resources : List Resource) → AllByRecursion (Queued IsHarmless) resources
    → resources_after_service processes resources ≡ map served resources
all_served_alone processes [] harmless = refl
all_served_alone processes (r ∷ rest) harmless =
    ap (λ (left : Resource). left ∷ resources_after_service (blocks_after_service processes r).processes rest) (served_alone processes r harmless.0)
    ∙ ap (λ (left : List Resource). served r ∷ left) (all_served_alone (blocks_after_service processes r).processes rest harmless.1)

-- so a sweep serves each resource alone, and drops those without locks
pub swept_alone : (processes : List Process) (resources : List Resource) → AllByRecursion (Queued IsHarmless) resources
    → resources_after_sweep processes resources ≡ filter (λ r. not (is_vacant r)) (map served resources)
unfolding resources_after_sweep
swept_alone processes resources harmless = ap (filter (λ r. not (is_vacant r))) (all_served_alone processes resources harmless)
