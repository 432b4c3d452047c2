-- A new request that is admitted, and its lock that has entered: the plain machine's change.
use Rattle.std.proofs.Common.{◌≡◌, ◌+◌, ℕ, Bool, true, List, [], cond, find, unwrap_or, Option, None, Some, is_some, sym, ap, ◌∙◌, arith}
use Rattle.vlm_words.specs.declared.locks.Request.{Request}
use Rattle.vlm_words.specs.declared.locks.LockState.{LockState}
use Rattle.vlm_words.specs.declared.resources.Site.{Site}
use Rattle.vlm_words.specs.declared.steps.NewRequest.{NewRequest}
use Rattle.vlm_model.specs.Effects.{blocks_after, blocks_with}
use Rattle.vlm_model.specs.Enqueue.{enq_at_once, enq_change, enq_key, enq_processes, enq_resource, enq_row, has_resource, is_at_once, resources_after_entry}
use Rattle.vlm_words.specs.Rows.{fits}
use Rattle.vlm_model.specs.Grants.{grant_endings}
use Rattle.vlm_words.specs.Resources.{is_at, new_resource}
use Rattle.vlm_words.specs.State.{Process, Resource, State}
use Rattle.vlm_store.specs.Plain.{plain_processes, plain_resources}
use Rattle.vlm_store.specs.Records.{FindsResource, Records}
use Rattle.vlm_model.specs.StatusBlocks.{processes_after_acceptance}
use Rattle.vlm_locks.specs.Entering.{new_row, processes_entered, resource_for}
use Rattle.vlm_model.specs.Trees.{enq_site}
use Rattle.vlm_locks.specs.Rest.{IsAtRest}
use Rattle.vlm_locks.specs.declared.new_locks.NewLock.{NewLock}
use Rattle.vlm_locks.proofs.Keyed.{has_none, has_one}
use Rattle.vlm_machine.specs.Admissions.{IsEntry}
use Rattle.vlm_machine.specs.Machine.{MachineState, plain_state}

-- a new resource is free for every request
pub is_at_once-new : (serial : ℕ) (site : Site) (request : Request) → is_at_once request (new_resource serial site) ≡ true
unfolding is_at_once fits
is_at_once-new serial site request = grind arith

module _ (m : MachineState) (e : NewRequest) (new_lock : NewLock) (is : IsEntry m e new_lock) where
  abbrev s : State
  s = plain_state m

  -- the resource that it finds
  found_is : resource_for new_lock s.resources ≡ enq_resource s e
  unfolding enq_resource
  found_is =
      ap (λ serial. unwrap_or (find (is_at new_lock.site.key) s.resources) (new_resource serial new_lock.site)) is.serial
      ∙ ap (λ (x : Site). unwrap_or (find (is_at x.key) s.resources) (new_resource m.next_serial x)) is.site

  -- the resources once it has entered
  pub resources_are : (t : Records)
      → plain_resources t ≡ resources_after_entry new_lock.serial new_lock.site (new_row new_lock) new_lock.at_once s.resources
      → plain_resources t ≡ resources_after_entry m.next_serial (enq_site s e) (enq_row s e) (enq_at_once s e) s.resources
  resources_are t entered =
      entered
      ∙ ap (λ serial. resources_after_entry serial new_lock.site (new_row new_lock) new_lock.at_once s.resources) is.serial
      ∙ ap (λ (x : Site). resources_after_entry m.next_serial x (new_row new_lock) new_lock.at_once s.resources) is.site
      ∙ ap (λ x. resources_after_entry m.next_serial (enq_site s e) x new_lock.at_once s.resources) is.row
      ∙ ap (λ b. resources_after_entry m.next_serial (enq_site s e) (enq_row s e) b s.resources) is.at_once

  -- the processes once it is accepted
  pub processes_are : (u : Records)
      → plain_processes u ≡ processes_entered new_lock (resource_for new_lock s.resources).value_block s.processes
      → plain_processes u ≡ enq_processes s e
  processes_are u statuses =
      statuses
      ∙ ap (λ (r : Resource). processes_entered new_lock r.value_block s.processes) found_is
      ∙ ap (λ b. written b (new_row new_lock)) is.at_once
      ∙ ap (λ (x : LockState). written (enq_at_once s e) x) is.row
    where
      accepted : Option Request → LockState → List Process
      accepted None row = s.processes
      accepted (Some want) row = processes_after_acceptance row.pid want.block row.lkid s.processes

      written : Bool → LockState → List Process
      written at_once row =
          (blocks_after (cond at_once (grant_endings true row) []) (blocks_with (enq_resource s e).value_block (accepted row.want row))).processes

  -- a serial is given where no resource stands under the handle
  pub serial_is : IsAtRest m.records → (last last_serial : ℕ) → last_serial + 1 ≡ m.next_serial → last ≡ cond (is_some new_lock.res) last_serial new_lock.serial
      → last + 1 ≡ cond (has_resource (enq_key s e) s.resources) m.next_serial (m.next_serial + 1)
  serial_is rest last last_serial next given = of_found new_lock.res is.found given
    where
      under : has_resource new_lock.site.key s.resources ≡ has_resource (enq_key s e) s.resources
      under = ap (λ (x : Site). has_resource x.key s.resources) is.site

      of_found : (res : Option ℕ) → FindsResource m.records new_lock.site.key res → last ≡ cond (is_some res) last_serial new_lock.serial
          → last + 1 ≡ cond (has_resource (enq_key s e) s.resources) m.next_serial (m.next_serial + 1)
      of_found None found given =
          ap (λ n. n + 1) (given ∙ is.serial)
          ∙ sym (ap (λ b. cond b m.next_serial (m.next_serial + 1)) (sym under ∙ has_none new_lock.site.domain new_lock.site.key is.keyed m.records rest found))
      of_found (Some res) found given =
          ap (λ n. n + 1) given ∙ next
          ∙ sym (ap (λ b. cond b m.next_serial (m.next_serial + 1)) (sym under
          ∙ has_one new_lock.site.domain new_lock.site.key is.keyed m.records rest res found))

  -- the whole change
  pub entered_state : (u : Records) (next_lkid next_request next_serial : ℕ)
      → plain_resources u ≡ resources_after_entry m.next_serial (enq_site s e) (enq_row s e) (enq_at_once s e) s.resources
      → plain_processes u ≡ enq_processes s e → next_lkid ≡ m.next_lkid + 1 → next_request ≡ m.next_request + 1
      → next_serial ≡ cond (has_resource (enq_key s e) s.resources) m.next_serial (m.next_serial + 1)
      → plain_state (record { nodes = m.nodes; records = u; next_lkid = next_lkid; next_request = next_request; next_serial = next_serial }) ≡ enq_change s e
  unfolding enq_change
  entered_state u next_lkid next_request next_serial resources processes lkid request serial =
      ap (λ x. record s {
        processes = x;
        resources = plain_resources u;
        next_lkid = next_lkid;
        next_request =
            next_request;
        next_serial = next_serial;
      }) processes
      ∙ ap (λ x. record s {
        processes = enq_processes s e;
        resources = x;
        next_lkid = next_lkid;
        next_request =
            next_request;
        next_serial = next_serial;
      }) resources
      ∙ ap (λ x. record (enq_change s e) { next_lkid = x; next_request = next_request; next_serial = next_serial }) lkid
      ∙ ap (λ x. record (enq_change s e) { next_request = x; next_serial = next_serial }) request
      ∙ ap (λ x. record (enq_change s e) { next_serial = x }) serial
