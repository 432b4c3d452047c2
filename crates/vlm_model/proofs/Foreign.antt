-- On a resource without a lock of a process, each grant is to another process.
use Rattle.std.proofs.Common.{◌≡◌, ℕ, Bool, true, false, List, [], ◌∷◌, cond, Option, None, Some, refl, sym, ap, ◌∙◌, subst, arith}
use Rattle.std.specs.Prelude.{◌==◌}
use Rattle.std.specs.List.{AllByRecursion, sum_by}
use Rattle.std.proofs.lemmas.List.Sums.{sum_by-cons}
use Rattle.vlm_words.specs.declared.locks.Request.{Request}
use Rattle.vlm_words.specs.declared.locks.LockState.{LockState}
use Rattle.vlm_words.specs.Rows.{is_empty}
use Rattle.vlm_words.specs.State.{Process, Resource}
use Rattle.vlm_model.specs.Asts.{warnings}
use Rattle.vlm_model.specs.Effects.{Blocks, blocks_after, blocks_after_asts, blocks_with}
use Rattle.vlm_model.specs.Endings.{wanted_endings}
use Rattle.vlm_model.specs.Endings.How.{by_grant}
use Rattle.vlm_model.specs.Grants.{Service, grant_act, grant_endings, no_service, resource_after_grant, service}
use Rattle.vlm_model.specs.Grants.{service_after_grant, service_of_conversions, service_of_new_requests}
use Rattle.vlm_model.specs.Grants.{service_of_waiting, wanted_fits}
use Rattle.vlm_model.specs.Sweeps.{blocks_after_service, processes_after_service, resource_after_service, resources_after_service, served_with}
use Rattle.vlm_model.proofs.Each.{each_append}
use Rattle.vlm_model.proofs.Weights.{weigh}
use Rattle.vlm_model.proofs.WhoseLocks.{owned, owning}
use Rattle.vlm_model.proofs.Others.{IsOthers, asts_but, blocks_but, ends_but, others}

module _ (pid : ℕ) where
  -- the row is of another process
  abbrev IsForeign : LockState → Type 0
  IsForeign row = (row.pid == pid) ≡ false

  foreign_rows : (rows : List LockState) → sum_by (owned pid) rows ≡ 0 → AllByRecursion IsForeign rows
  foreign_rows [] none = tt
  foreign_rows (row ∷ rows) none =
      let both = sum_by-cons (owned pid) row rows in
      (of_test (row.pid == pid) refl (omega (arith, none, both)), foreign_rows rows (omega (arith, none, both)))
    where
      of_test : (b : Bool) → (row.pid == pid) ≡ b → owned pid row ≡ 0 → (row.pid == pid) ≡ false
      of_test true is zero = let one : owned pid row ≡ 1 = ap (λ (b : Bool). cond b 1 0) is in absurd (omega (arith, one, zero))
      of_test false is zero = is

  granted_others : (row : LockState) → IsForeign row → AllByRecursion (IsOthers pid) (grant_endings false row)
  granted_others row foreign = of_want row.want
    where
      of_want : (want : Option Request) → AllByRecursion (IsOthers pid) (wanted_endings (by_grant (grant_act row.held row.want)) false row.lkid row.pid want)
      of_want None = tt
      of_want (Some request) = (foreign, tt)

  -- the row is served before those behind it, or stops the service: the endings are of others either way
  served_or_not : (row : LockState) → IsForeign row → (more : Service) → AllByRecursion (IsOthers pid) more.endings → (r : Resource) (is_served : Bool)
      → AllByRecursion (IsOthers pid) (cond is_served (service_after_grant row more) (no_service r)).endings
  served_or_not row foreign more later r true = each_append (IsOthers pid) (grant_endings false row) more.endings (granted_others row foreign) later
  served_or_not row foreign more later r false = tt

  conversions_others : (rows : List LockState) → AllByRecursion IsForeign rows → (r : Resource)
      → AllByRecursion (IsOthers pid) (service_of_conversions r rows).endings
  conversions_others [] each r = tt
  conversions_others (row ∷ rows) each r =
      let left : Resource = record (resource_after_grant r row) { converting = rows } in
      served_or_not row each.0 (service_of_conversions left rows) (conversions_others rows each.1 left) r (wanted_fits row.want r.granted rows)

  conversions_keep : (rows : List LockState) (r : Resource) → (service_of_conversions r rows).resource.waiting ≡ r.waiting
  conversions_keep [] r = refl
  conversions_keep (row ∷ rows) r =
      of_test (wanted_fits row.want r.granted rows) (conversions_keep rows (record (resource_after_grant r row) { converting = rows }))
    where
      more : Service
      more = service_of_conversions (record (resource_after_grant r row) { converting = rows }) rows

      of_test : (b : Bool) → more.resource.waiting ≡ r.waiting → (cond b (service_after_grant row more) (no_service r)).resource.waiting ≡ r.waiting
      of_test true later = later
      of_test false later = refl

  waiting_others : (rows : List LockState) → AllByRecursion IsForeign rows → (r : Resource) → AllByRecursion (IsOthers pid) (service_of_waiting r rows).endings
  waiting_others [] each r = tt
  waiting_others (row ∷ rows) each r =
      let left : Resource = record (resource_after_grant r row) { waiting = rows } in
      served_or_not row each.0 (service_of_waiting left rows) (waiting_others rows each.1 left) r (wanted_fits row.want r.granted r.converting)

  new_requests_others : (r : Resource) → AllByRecursion IsForeign r.waiting → AllByRecursion (IsOthers pid) (service_of_new_requests r).endings
  new_requests_others r each = of_test (is_empty r.converting)
    where
      of_test : (b : Bool) → AllByRecursion (IsOthers pid) (cond b (service_of_waiting r r.waiting) (no_service r)).endings
      of_test true = waiting_others r.waiting each r
      of_test false = tt

  -- what is granted on a resource without a lock of the process is of others
  served_others : (r : Resource) → weigh (owned pid) r ≡ 0 → AllByRecursion (IsOthers pid) (service r).endings
  unfolding service
  served_others r none =
      let after = service_of_conversions r r.converting in
      each_append (IsOthers pid) after.endings (service_of_new_requests after.resource).endings
      (conversions_others r.converting (foreign_rows r.converting (omega (arith, none))) r)
      (new_requests_others after.resource
      (subst (AllByRecursion IsForeign) (sym (conversions_keep r.converting r)) (foreign_rows r.waiting (omega (arith, none)))))

  -- ---- the sweep, with and without the process

  service_but : (ps : List Process) (r : Resource) → weigh (owned pid) r ≡ 0
      → blocks_after_service (others pid ps) r ≡ blocks_but pid (blocks_after_service ps r)
  unfolding blocks_after_service
  service_but ps r none =
      ap (λ b. blocks_after_asts (warnings (service r).resource) b) (ends_but pid (service r).endings (served_others r none) (blocks_with r.value_block ps))
      ∙ asts_but pid (warnings (service r).resource) (blocks_after (service r).endings (blocks_with r.value_block ps))

  pub processes_but_swept : (rs : List Resource) → owning pid rs ≡ 0 → (ps : List Process)
      → processes_after_service (others pid ps) rs ≡ others pid (processes_after_service ps rs)
  processes_but_swept [] none ps = refl
  processes_but_swept (r ∷ rs) none ps =
      let both = sum_by-cons (weigh (owned pid)) r rs in
      ap (λ (b : Blocks). processes_after_service b.processes rs) (service_but ps r (omega (arith, none, both)))
      ∙ processes_but_swept rs (omega (arith, none, both)) (blocks_after_service ps r).processes

  pub resources_swept : (rs : List Resource) → owning pid rs ≡ 0 → (ps : List Process)
      → resources_after_service (others pid ps) rs ≡ resources_after_service ps rs
  resources_swept [] none ps = refl
  resources_swept (r ∷ rs) none ps =
      let both = sum_by-cons (weigh (owned pid)) r rs in
      ap (λ (b : Blocks). served_with b.value_block r ∷ resources_after_service b.processes rs) (service_but ps r (omega (arith, none, both)))
      ∙ ap (λ rest. resource_after_service ps r ∷ rest) (resources_swept rs (omega (arith, none, both)) (blocks_after_service ps r).processes)
