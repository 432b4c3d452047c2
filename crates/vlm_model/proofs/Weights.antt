-- Sums over the locks in all queues, and how a grant changes them.
use Rattle.std.proofs.Common.{◌≡◌, ◌+◌, ℕ, Bool, true, false, not, ◌&&◌, List, [], ◌∷◌, ◌++◌, cond, refl, ap, arith}
use Rattle.std.specs.List.{sum_by}
use Rattle.std.proofs.lemmas.Bool.{and_parts, cond_both}
use Rattle.std.proofs.lemmas.List.Sums.{sum_by-cons, sum_by-append, sum_by_push}
use Rattle.vlm_words.specs.declared.locks.LockState.{LockState}
use Rattle.vlm_words.specs.declared.resources.Site.{Site}
use Rattle.vlm_words.specs.State.{Process, Resource}
use Rattle.vlm_model.specs.Endings.{Ending}
use Rattle.vlm_model.specs.Grants.{Service, grant_endings, no_service, resource_after_grant, service}
use Rattle.vlm_model.specs.Grants.{service_after_grant, service_of_conversions, service_of_new_requests}
use Rattle.vlm_model.specs.Grants.{service_of_waiting, wanted_fits}
use Rattle.vlm_words.specs.Rows.{granted_row, is_empty}
use Rattle.vlm_model.specs.Sweeps.{blocks_after_service, is_vacant, resource_after_service, resources_after_sweep, sweep_endings}
use Rattle.vlm_words.specs.Resources.{is_at, new_resource}
use Rattle.vlm_model.specs.Enqueue.{resource_after_entry, resources_after_entry}
use Rattle.vlm_model.proofs.NothingLeft.{is_empty-true}
use Rattle.vlm_model.proofs.Sums.{sum_of_one}
use Rattle.vlm_model.specs.Asts.{resource_after_warning}
use Rattle.vlm_model.proofs.Warned.{IsArmedBlind, sum_warned}
use Rattle.vlm_model.specs.Effects.{with_value_block}

-- what the rows of a resource weigh
abbrev pub weigh : (LockState → ℕ) → Resource → ℕ
weigh f r = sum_by f r.granted + sum_by f r.converting + sum_by f r.waiting

-- a row that is granted weighs as much as it did, with the ending that its grant brings
abbrev pub GrantKeeps : (LockState → ℕ) → (Ending → ℕ) → Type 0
GrantKeeps f g = (at_once : Bool) (row : LockState) → f (granted_row row) + sum_by g (grant_endings at_once row) ≡ f row

-- what a service leaves weighs as much as the resource did, with the endings that it brings
abbrev pub ServiceKeeps : (LockState → ℕ) → (Ending → ℕ) → Service → Resource → Type 0
ServiceKeeps f g more r = weigh f more.resource + sum_by g more.endings ≡ weigh f r

-- serving the conversions keeps the weight
serve_converting_weighs : (f : LockState → ℕ) (g : Ending → ℕ) → GrantKeeps f g → (r : Resource) (rows : List LockState) → r.converting ≡ rows
    → ServiceKeeps f g (service_of_conversions r rows) r
serve_converting_weighs f g keeps r [] is = omega arith
serve_converting_weighs f g keeps r (row ∷ rows) is =
    let granted : Resource = record (resource_after_grant r row) { converting = rows } in
    let more : Service = service_of_conversions granted rows in
    let after : weigh f more.resource + sum_by g more.endings ≡ weigh f granted = serve_converting_weighs f g keeps granted rows refl in
    cond_both (wanted_fits row.want r.granted rows) (service_after_grant row more) (no_service r) (λ given. ServiceKeeps f g given r)
    (λ _. omega (
      arith,
      after,
      keeps false row,
      sum_by-append g (grant_endings false row) more.endings,
      sum_by_push f r.granted (granted_row row),
      sum_by-cons f row rows,
      ap (sum_by f) is,
    ))
    (λ _. omega arith)

-- serving the waiting queue keeps the weight
serve_waiting_weighs : (f : LockState → ℕ) (g : Ending → ℕ) → GrantKeeps f g → (r : Resource) (rows : List LockState) → r.waiting ≡ rows
    → ServiceKeeps f g (service_of_waiting r rows) r
serve_waiting_weighs f g keeps r [] is = omega arith
serve_waiting_weighs f g keeps r (row ∷ rows) is =
    let granted : Resource = record (resource_after_grant r row) { waiting = rows } in
    let more : Service = service_of_waiting granted rows in
    let after : weigh f more.resource + sum_by g more.endings ≡ weigh f granted = serve_waiting_weighs f g keeps granted rows refl in
    cond_both (wanted_fits row.want r.granted r.converting) (service_after_grant row more) (no_service r) (λ given. ServiceKeeps f g given r)
    (λ _. omega (
      arith,
      after,
      keeps false row,
      sum_by-append g (grant_endings false row) more.endings,
      sum_by_push f r.granted (granted_row row),
      sum_by-cons f row rows,
      ap (sum_by f) is,
    ))
    (λ _. omega arith)

-- serving the new requests, if their turn has come, keeps the weight
serve_new_requests_weighs : (f : LockState → ℕ) (g : Ending → ℕ) → GrantKeeps f g → (r : Resource) → ServiceKeeps f g (service_of_new_requests r) r
serve_new_requests_weighs f g keeps r =
    cond_both (is_empty r.converting) (service_of_waiting r r.waiting) (no_service r) (λ given. ServiceKeeps f g given r)
    (λ _. serve_waiting_weighs f g keeps r r.waiting refl) (λ _. omega arith)

-- serving a resource keeps the weight
pub served_weighs : (f : LockState → ℕ) (g : Ending → ℕ) → GrantKeeps f g → (r : Resource) → ServiceKeeps f g (service r) r
unfolding service
served_weighs f g keeps r =
    let first : Service = service_of_conversions r r.converting in
    let kept : weigh f first.resource + sum_by g first.endings ≡ weigh f r = serve_converting_weighs f g keeps r r.converting refl in
    let later : Service = service_of_new_requests first.resource in
    let then_kept : weigh f later.resource + sum_by g later.endings ≡ weigh f first.resource = serve_new_requests_weighs f g keeps first.resource in
    omega (arith, kept, then_kept, sum_by-append g first.endings later.endings)

-- a vacant resource weighs nothing
pub vacant_weighs_nothing : (f : LockState → ℕ) (r : Resource) → is_vacant r ≡ true → weigh f r ≡ 0
vacant_weighs_nothing f r vacant =
    let both = and_parts (is_empty r.granted && is_empty r.converting) (is_empty r.waiting) vacant in
    let first = and_parts (is_empty r.granted) (is_empty r.converting) both.0 in
    omega (
      arith,
      ap (sum_by f) (is_empty-true r.granted first.0),
      ap (sum_by f) (is_empty-true r.converting first.1),
      ap (sum_by f) (is_empty-true r.waiting both.1),
    )

-- a resource that is dropped where it is vacant takes no weight away
pub dropped_weighs : (f : LockState → ℕ) (r : Resource) (rest : List Resource)
    → sum_by (weigh f) (cond (not (is_vacant r)) (r ∷ rest) rest) ≡ weigh f r + sum_by (weigh f) rest
dropped_weighs f r rest =
    elim (is_vacant r) as (λ b. is_vacant r ≡ b → sum_by (weigh f) (cond (not b) (r ∷ rest) rest) ≡ weigh f r + sum_by (weigh f) rest) [
      | true ↦ λ vacant. let nothing : weigh f r ≡ 0 = vacant_weighs_nothing f r vacant in omega arith
      | false ↦ λ _. sum_by-cons (weigh f) r rest
    ] refl

-- warnings keep the weight of what does not depend on them
pub warned_weighs : (f : LockState → ℕ) → IsArmedBlind f → (r : Resource) → weigh f (resource_after_warning r) ≡ weigh f r
unfolding resource_after_warning
warned_weighs f blind r = omega (arith, sum_warned f blind r.converting r.waiting r.granted)

-- a sweep keeps the weight
pub swept_weighs : (f : LockState → ℕ) (g : Ending → ℕ) → GrantKeeps f g → IsArmedBlind f → (processes : List Process) (resources : List Resource)
    → sum_by (weigh f) (resources_after_sweep processes resources) + sum_by g (sweep_endings resources) ≡ sum_by (weigh f) resources
unfolding resources_after_sweep sweep_endings
swept_weighs f g keeps blind processes [] = refl
swept_weighs f g keeps blind processes (r ∷ rest) =
    let after : List Process = (blocks_after_service processes r).processes in
    let behind : sum_by (weigh f) (resources_after_sweep after rest) + sum_by g (sweep_endings rest) ≡ sum_by
    (weigh f) rest = swept_weighs f g keeps blind after rest in
    omega (
      arith,
      behind,
      served_weighs f g keeps r,
      warned_weighs f blind (with_value_block (blocks_after_service processes r).value_block (service r).resource),
      dropped_weighs f (resource_after_service processes r) (resources_after_sweep after rest),
      sum_by-append g (service r).endings (sweep_endings rest),
      sum_by-cons (weigh f) r rest,
    )

-- an entry adds the weight of its row
pub entered_weighs : (f : LockState → ℕ) (g : Ending → ℕ) → GrantKeeps f g → (row : LockState) (at_once : Bool) (r : Resource)
    → weigh f (resource_after_entry row at_once r) + sum_by g (cond at_once (grant_endings true row) []) ≡ weigh f r + f row
unfolding resource_after_entry
entered_weighs f g keeps row at_once r =
    elim at_once as (λ b.
    weigh f (cond b (resource_after_grant r row) (record r { waiting = r.waiting ++ row ∷ [] })) + sum_by g (cond b (grant_endings true row) [])
    ≡ weigh f r + f row) [
      | true ↦ omega (arith, keeps true row, sum_by_push f r.granted (granted_row row))
      | false ↦ omega (arith, sum_by_push f r.waiting row)
    ]

-- an entry among the resources adds the weight of its row
pub entered_among_weighs : (f : LockState → ℕ) (g : Ending → ℕ) → GrantKeeps f g → (serial : ℕ) (site : Site) (row : LockState) (at_once : Bool)
    → (resources : List Resource)
    → sum_by (weigh f) (resources_after_entry serial site row at_once resources)
    + sum_by g (cond at_once (grant_endings true row) [])
    ≡ sum_by (weigh f) resources + f row
entered_among_weighs f g keeps serial site row at_once [] =
    omega (
      arith,
      entered_weighs f g keeps row at_once (new_resource serial site),
      sum_of_one (weigh f) (resource_after_entry row at_once (new_resource serial site)),
    )
entered_among_weighs f g keeps serial site row at_once (r ∷ rest) =
    let behind : sum_by (weigh f) (resources_after_entry serial site row at_once rest)
    + sum_by g (cond at_once (grant_endings true row) [])
    ≡ sum_by (weigh f) rest + f row = entered_among_weighs f g keeps serial site row at_once rest in
    elim (is_at site.key r) as (λ b.
    sum_by (weigh f) (cond b (resource_after_entry row at_once r ∷ rest) (r ∷ resources_after_entry serial site row at_once rest))
    + sum_by g (cond at_once (grant_endings true row) [])
    ≡ sum_by (weigh f) (r ∷ rest) + f row) [
      | true ↦ omega (
        arith,
        entered_weighs f g keeps row at_once r,
        sum_by-cons (weigh f) (resource_after_entry row at_once r) rest,
        sum_by-cons (weigh f) r rest,
      )
      | false ↦ omega (arith, behind, sum_by-cons (weigh f) r (resources_after_entry serial site row at_once rest), sum_by-cons (weigh f) r rest)
    ]
