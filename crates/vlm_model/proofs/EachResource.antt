-- What each step keeps of each resource, and so every run.
use Rattle.std.proofs.Common.{◌≡◌, ℕ, Bool, true, false, not, List, [], ◌∷◌, cond, None, Some}
use Rattle.std.specs.Prelude.{find, unwrap_or}
use Rattle.std.proofs.lemmas.Bool.{cond_both}
use Rattle.std.specs.List.{AllByRecursion}
use Rattle.vlm_words.specs.declared.locks.Request.{Request}
use Rattle.vlm_words.specs.declared.locks.LockState.{LockState}
use Rattle.vlm_words.specs.declared.resources.Site.{Site}
use Rattle.vlm_words.specs.declared.resources.ValueBlock.{ValueBlock}
use Rattle.vlm_words.specs.declared.steps.NewRequest.{NewRequest}
use Rattle.vlm_words.specs.State.{Process, Resource, State}
use Rattle.vlm_model.specs.Sweeps.{blocks_after_service, is_vacant, resources_after_service, resources_after_sweep, served_with}
use Rattle.vlm_words.specs.Resources.{is_at, new_resource}
use Rattle.vlm_model.specs.Declare.{declare_change}
use Rattle.vlm_model.specs.SetValue.{set_change}
use Rattle.vlm_model.specs.Take.{take_change}
use Rattle.vlm_model.specs.Trees.{enq_site}
use Rattle.vlm_model.specs.Enqueue.{enq_at_once, enq_change, enq_refusal, enq_resource, enq_row, resource_after_entry, resources_after_entry}
use Rattle.vlm_model.specs.Convert.{convert_admission, convert_blocks, convert_change, convert_lkid, resource_after_conversion}
use Rattle.vlm_model.specs.Rundown.{processes_but, rundowns, state_after_rundown}
use Rattle.vlm_model.specs.Withdrawals.{Withdrawal, resource_after_withdrawals, resource_after_going, resource_after_writer, state_after_withdrawals}
use Rattle.vlm_model.specs.Runs.{History, Run}
use Rattle.vlm_model.proofs.Each.{each_filter, each_map, each_weaker}
use Rattle.vlm_model.proofs.Always.{always, kept_by_stepped}
use Rattle.vlm_model.proofs.Withdrawing.{kept_withdrawn}

-- what serving makes of each resource, whatever its value block is then, holds of each once all are served
pub each_served : (P Q : Resource → Type 0) → ((block : ValueBlock) (r : Resource) → P r → Q (served_with block r))
    → (processes : List Process) (resources : List Resource) → AllByRecursion P resources → AllByRecursion Q (resources_after_service processes resources)
each_served P Q serving processes [] each = each
each_served P Q serving processes (r ∷ rest) each =
    (serving (blocks_after_service processes r).value_block r each.0, each_served P Q serving (blocks_after_service processes r).processes rest each.1)

-- and holds of each after a sweep
pub each_swept : (P Q : Resource → Type 0) → ((block : ValueBlock) (r : Resource) → P r → Q (served_with block r))
    → (processes : List Process) (resources : List Resource) → AllByRecursion P resources → AllByRecursion Q (resources_after_sweep processes resources)
unfolding resources_after_sweep
each_swept P Q serving processes resources each =
    each_filter Q (λ r. not (is_vacant r)) (resources_after_service processes resources) (each_served P Q serving processes resources each)

-- what the resource that a lock enters has then, and each had before, each has after the entry
pub each_entered_on : (P : Resource → Type 0) (serial : ℕ) (site : Site) (row : LockState) (at_once : Bool) (resources : List Resource)
    → P (resource_after_entry row at_once (unwrap_or (find (is_at site.key) resources) (new_resource serial site)))
    → AllByRecursion P resources → AllByRecursion P (resources_after_entry serial site row at_once resources)
each_entered_on P serial site row at_once [] entered each = (entered, each)
each_entered_on P serial site row at_once (r ∷ rest) entered each =
    elim (is_at site.key r) as (λ b. P (resource_after_entry row at_once (unwrap_or (cond b (Some r) (find (is_at site.key) rest)) (new_resource serial site)))
    → AllByRecursion P (cond b (resource_after_entry row at_once r ∷ rest) (r ∷ resources_after_entry serial site row at_once rest))) [
      | true ↦ λ here. (here, each.1)
      | false ↦ λ behind. (each.0, each_entered_on P serial site row at_once rest behind each.1)
    ] entered

-- the resource under a key has what each has, and a new one
pub found_has : (P : Resource → Type 0) (serial : ℕ) (site : Site) → P (new_resource serial site) → (resources : List Resource)
    → AllByRecursion P resources → P (unwrap_or (find (is_at site.key) resources) (new_resource serial site))
found_has P serial site fresh [] each = fresh
found_has P serial site fresh (r ∷ rest) each =
    elim (is_at site.key r) as (λ b. P (unwrap_or (cond b (Some r) (find (is_at site.key) rest)) (new_resource serial site))) [
      | true ↦ each.0
      | false ↦ found_has P serial site fresh rest each.1
    ]

-- what a new resource has and an entry keeps, where the lock enters, each resource has after an entry
pub each_entered_at : (P : Resource → Type 0) (serial : ℕ) (site : Site) (row : LockState) (at_once : Bool)
    → P (resource_after_entry row at_once (new_resource serial site))
    → (resources : List Resource) → AllByRecursion (λ r. is_at site.key r ≡ true → P (resource_after_entry row at_once r)) resources
    → AllByRecursion P resources → AllByRecursion P (resources_after_entry serial site row at_once resources)
each_entered_at P serial site row at_once fresh [] entry each = (fresh, each)
each_entered_at P serial site row at_once fresh (r ∷ rest) entry each =
    cond_both (is_at site.key r) (resource_after_entry row at_once r ∷ rest) (r ∷ resources_after_entry serial site row at_once rest) (AllByRecursion P)
    (λ here. (entry.0 here, each.1)) (λ _. (each.0, each_entered_at P serial site row at_once fresh rest entry.1 each.1))

-- what a new resource has and an entry keeps, each resource has after an entry
pub each_entered_among : (P : Resource → Type 0) (serial : ℕ) (site : Site) (row : LockState) (at_once : Bool)
    → P (new_resource serial site) → ((r : Resource) → P r → P (resource_after_entry row at_once r))
    → (resources : List Resource) → AllByRecursion P resources → AllByRecursion P (resources_after_entry serial site row at_once resources)
each_entered_among P serial site row at_once fresh entry resources each =
    each_entered_at P serial site row at_once (entry (new_resource serial site) fresh) resources
    (each_weaker P (λ r. is_at site.key r ≡ true → P (resource_after_entry row at_once r)) (λ r holds _. entry r holds) resources each) each

-- the changes of the steps keep P of each resource
pub record KeptByChanges (P : Resource → Type 0) : Type 0 where
  pub fresh : (serial : ℕ) (site : Site) → P (new_resource serial site)
  pub entry : (s : State) (e : NewRequest) → enq_refusal s e ≡ None → P (enq_resource s e)
      → P (resource_after_entry (enq_row s e) (enq_at_once s e) (enq_resource s e))
  pub conversion : (request : Request) (at_once : Bool) (pid lkid : ℕ) (block : ValueBlock) (r : Resource) → P r
      → P (resource_after_conversion request at_once pid lkid block r)
  pub leaving : (w : Withdrawal) (r : Resource) → P r → P (resource_after_writer w r)
  pub going : (w : Withdrawal) (r : Resource) → P r → P (resource_after_going w r)

-- the changes of the steps keep P, and serving makes Q of it: then Q holds of each resource after every run
pub each_always : (P Q : Resource → Type 0) → ((r : Resource) → Q r → P r)
    → ((block : ValueBlock) (r : Resource) → P r → Q (served_with block r)) → KeptByChanges P
    → (history : History) (last : State) → Run history last
    → AllByRecursion Q last.resources
unfolding declare_change set_change take_change enq_change enq_resource convert_change state_after_rundown convert_admission
each_always P Q weaker serving kept =
    always (λ _ s. AllByRecursion Q s.resources) tt
    (λ history s _ each.
    let changed : AllByRecursion P s.resources = each_weaker Q P weaker s.resources each in
    kept_by_stepped (λ _ s. AllByRecursion Q s.resources) history.endings s each
    (λ d _. each_swept P Q serving (declare_change s d).processes s.resources changed)
    (λ v _. each_swept P Q serving (set_change s v).processes s.resources changed)
    (λ taker _. each_swept P Q serving (take_change s taker).processes s.resources changed)
    (λ e passed.
    each_swept P Q serving (enq_change s e).processes (enq_change s e).resources
    (each_entered_on P s.next_serial (enq_site s e) (enq_row s e) (enq_at_once s e) s.resources
    (kept.entry s e passed (found_has P s.next_serial (enq_site s e) (kept.fresh s.next_serial (enq_site s e)) s.resources changed)) changed))
    (λ c a _ _.
    each_swept P Q serving (convert_change s c a).processes (convert_change s c a).resources
    (each_map P P (resource_after_conversion a.request a.at_once c.pid (convert_lkid s c) (convert_blocks s c a).value_block)
    (kept.conversion a.request a.at_once c.pid (convert_lkid s c) (convert_blocks s c a).value_block) s.resources changed))
    (λ withdrawals _.
    each_swept P Q serving (state_after_withdrawals withdrawals s).processes (state_after_withdrawals withdrawals s).resources
    (each_map P P (resource_after_withdrawals withdrawals) (kept_withdrawn P kept.leaving kept.going withdrawals) s.resources changed))
    (λ is_one nodes _.
    each_swept P Q serving (processes_but is_one s.processes) (state_after_rundown is_one nodes s).resources
    (each_map P P (resource_after_withdrawals (rundowns is_one s)) (kept_withdrawn P kept.leaving kept.going (rundowns is_one s))
    s.resources changed)))
