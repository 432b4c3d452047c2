-- The resource after a key, and the process after an ID, are those of the plain machine.
use Rattle.std.proofs.Common.{◌≡◌, ◌==◌, ℕ, true, false, List, [], ◌∷◌, map, Option, None, Some, IfSome, refl, sym, ap, ◌∙◌, subst, inl, inr, ne_eqb, eq-eqb}
use Rattle.std.specs.Prelude.{slice_get}
use Rattle.std.specs.Option.{option_map}
use Rattle.std.proofs.lemmas.Option.{none-some, same_Some}
use Rattle.vlm_words.specs.declared.resources.Domain.{Domain}
use Rattle.vlm_words.specs.declared.resources.Key.{Key}
use Rattle.vlm_words.specs.Resources.{is_at, IsKeyed}
use Rattle.vlm_words.specs.State.{Process, Resource}
use Rattle.vlm_collections.specs.Lists.{IsIn}
use Rattle.vlm_store.specs.Plain.{plain_processes, plain_resource, plain_resources}
use Rattle.vlm_store.specs.Records.{AreProcessesApart, FindsResource, HasResource, IsProcess, IsSound, Records}
use Rattle.vlm_store.specs.Records.{StoredProcess, StoredResource, process_after, resource_at, resource_at_after}
use Rattle.vlm_store.proofs.Records.{resource_is}
use Rattle.vlm_procs.specs.declared.views.ProcessView.{ProcessView}
use Rattle.vlm_procs.specs.Views.{process_view}
use Rattle.vlm_queue.specs.declared.views.ResourceView.{ResourceView}
use Rattle.vlm_queue.specs.Views.{resource_view}
use Rattle.vlm_queue.specs.Walks.{plain_resource_at}
use Rattle.vlm_locks.specs.Rest.{IsAtRest}
use Rattle.vlm_locks.proofs.Keyed.{AreKeyed, IsKeyFree, key_cases}
use Rattle.vlm_core.specs.Readers.{after_first, has_pid}

-- what comes after the resource with the key, in the store and in the plain machine
record NextOf (key : Key) (res : ℕ) (rs : List StoredResource) : Type 0 where
  next : Option StoredResource
  handle : resource_at_after res rs ≡ option_map (λ r. r.at) next
  rest : List Resource
  after : after_first (is_at key) (map plain_resource rs) ≡ Some rest
  first : slice_get rest 0 ≡ option_map plain_resource next
  among : IfSome next (λ r. IsIn r rs)

module _ (domain : Domain) (key : Key) (keyed : IsKeyed domain key) where
  next_of : (res : ℕ) (rs : List StoredResource) → AreKeyed rs → ((x : StoredResource) → IsIn x rs → x.key ≡ key → x.at ≡ res)
      → ((x : StoredResource) → IsIn x rs → x.at ≡ res → x.key ≡ key) → (r : StoredResource) → IsIn r rs → r.key ≡ key → NextOf key res rs
  next_of res [] all only back r among same = absurd among
  next_of res (x ∷ rest) all only back r among same =
      elim (key_cases domain key keyed x (all x (inl refl))) [
        | inl here ↦ first_is rest here.0 (only x (inl refl) here.1)
        | inr other ↦
            let apart : (x.at == res) ≡ false = ne_eqb x.at res (λ is. other.1 (back x (inl refl) is)) in
            let later : IsIn r rest = elim among [
              | inl is ↦ absurd (other.1 (ap (λ (y : StoredResource). y.key) is ∙ same))
              | inr there ↦ there
            ] in
            let found = next_of res rest (λ y there. all y (inr there)) (λ y there. only y (inr there)) (λ y there. back y (inr there)) r later same in
            record {
              next = found.next;
              handle = rw apart found.handle;
              rest = found.rest;
              after = rw (other.0) found.after;
              first = found.first;
              among = still found.next found.among;
            }
      ]
    where
      first_is : (tail : List StoredResource) → is_at key (plain_resource x) ≡ true → x.at ≡ res → NextOf key res (x ∷ tail)
      first_is [] here is = record {
        next = None;
        handle = rw (eq-eqb x.at res is) refl;
        rest = [];
        after = rw here refl;
        first = refl;
        among = tt;
      }
      first_is (y ∷ tail) here is = record {
        next = Some y;
        handle = rw (eq-eqb x.at res is) refl;
        rest = map plain_resource (y ∷ tail);
        after = rw here refl;
        first = refl;
        among = inr (inl refl);
      }

      still : (next : Option StoredResource) → IfSome next (λ y. IsIn y rest) → IfSome next (λ y. IsIn y (x ∷ rest))
      still None none = tt
      still (Some y) there = inr there

  none_after : (rs : List StoredResource) → AreKeyed rs → IsKeyFree key rs → after_first (is_at key) (map plain_resource rs) ≡ None
  none_after [] all free = refl
  none_after (x ∷ rest) all free =
      elim (key_cases domain key keyed x (all x (inl refl))) [
        | inl here ↦ absurd (free x (inl refl) here.1)
        | inr other ↦ rw (other.0) (none_after rest (λ y there. all y (inr there)) (λ y there. free y (inr there)))
      ]

-- what is shown of the resource after the first one with a key
abbrev shown_after : Key → List Resource → Option (Option ResourceView)
shown_after key rs = option_map (λ (rest : List Resource). option_map resource_view (slice_get rest 0)) (after_first (is_at key) rs)

module _ (domain : Domain) (key : Key) (keyed : IsKeyed domain key) (s : Records) (at_rest : IsAtRest s) where
  -- where no resource has the key there is none after it
  pub no_next : FindsResource s key None → None ≡ shown_after key (plain_resources s)
  no_next free =
      sym (ap (option_map (λ (rest : List Resource). option_map resource_view (slice_get rest 0))) (none_after domain key keyed s.resources at_rest.keyed free))

  module _ (sound : IsSound s) (res : ℕ) (found : FindsResource s key (Some res)) where
    its_next : NextOf key res s.resources
    its_next =
        next_of domain key keyed res s.resources at_rest.keyed (λ x among same. sound.keys_apart x found.0 among found.1.0 (same ∙ sym found.1.2) ∙ found.1.1)
        (λ x among is. ap (λ (y : StoredResource). y.key) (is_found x among is) ∙ found.1.2) found.0 found.1.0 found.1.2
      where
        is_found : (x : StoredResource) → IsIn x s.resources → x.at ≡ res → x ≡ found.0
        is_found x among is =
            same_Some x found.0
            (sym (resource_is x s.resources sound.resources_apart among)
            ∙ ap (λ n. resource_at n s.resources) (is ∙ sym found.1.1)
            ∙ resource_is found.0 s.resources sound.resources_apart found.1.0)

    -- the next one is there
    pub next_there : (next : ℕ) → resource_at_after res s.resources ≡ Some next → HasResource next s
    next_there next is = of_next its_next.next (sym its_next.handle ∙ is) its_next.among
      where
        of_next : (n : Option StoredResource) → option_map (λ (r : StoredResource). r.at) n ≡ Some next
            → IfSome n (λ r. IsIn r s.resources) → HasResource next s
        of_next None same among = absurd (none-some next same)
        of_next (Some r) same among =
            subst (λ at. HasResource at s) (same_Some r.at next same)
            (rw (resource_is r s.resources sound.resources_apart among) refl)

    -- and it is the one of the plain machine
    pub next_shown : (next : ℕ) → resource_at_after res s.resources ≡ Some next → (told : ResourceView)
        → IfSome (plain_resource_at next s) (λ r. told ≡ resource_view r)
        → Some (Some told) ≡ shown_after key (plain_resources s)
    next_shown next is told shows =
        rw (its_next.after, its_next.first) (of_next its_next.next (sym its_next.handle ∙ is) its_next.among)
      where
        of_next : (n : Option StoredResource) → option_map (λ (r : StoredResource). r.at) n ≡ Some next → IfSome n (λ r. IsIn r s.resources)
            → Some (Some told) ≡ Some (option_map resource_view (option_map plain_resource n))
        of_next None same among = absurd (none-some next same)
        of_next (Some r) same among =
            let here : resource_at next s.resources ≡ Some r =
            subst (λ at. resource_at at s.resources ≡ Some r) (same_Some r.at next same)
            (resource_is r s.resources sound.resources_apart among) in
            ap (λ v. Some (Some v)) (subst (λ o. IfSome (option_map plain_resource o) (λ x. told ≡ resource_view x)) here shows)

    -- after the last one there is none
    pub last_shown : resource_at_after res s.resources ≡ None → Some None ≡ shown_after key (plain_resources s)
    last_shown is = rw (its_next.after, its_next.first) (of_next its_next.next (sym its_next.handle ∙ is))
      where
        of_next : (n : Option StoredResource) → option_map (λ (r : StoredResource). r.at) n ≡ None
            → Some None ≡ Some (option_map resource_view (option_map plain_resource n))
        of_next None same = refl
        of_next (Some r) same = absurd (none-some r.at (sym same))

-- ---- processes

-- what is shown of the process after the one with an ID
abbrev shown_process : ℕ → List Process → Option (Option ProcessView)
shown_process pid ps = option_map (λ (rest : List Process). option_map process_view (slice_get rest 0)) (after_first (has_pid pid) ps)

module _ (p : StoredProcess) where
  after_stored : (ps : List StoredProcess) → AreProcessesApart ps → IsIn p ps
      → shown_process p.process.pid (map (λ (x : StoredProcess). x.process) ps) ≡ Some (option_map process_view (process_after p.at ps))
  after_stored [] apart found = absurd found
  after_stored (x ∷ ps) apart found =
      elim found [
        | inl here ↦
            rw (eq-eqb x.process.pid p.process.pid (ap (λ (y : StoredProcess). y.process.pid) here), eq-eqb x.at p.at (ap (λ (y : StoredProcess). y.at) here))
            (first ps)
        | inr there ↦
            rw (ne_eqb x.process.pid p.process.pid (λ same. (apart.0 p there).1 (sym same)), ne_eqb x.at p.at (λ same. (apart.0 p there).0 (sym same)))
            (after_stored ps apart.1 there)
      ]
    where
      first : (rest : List StoredProcess) → Some (option_map process_view (slice_get (map (λ (y : StoredProcess). y.process) rest) 0))
          ≡ Some (option_map process_view (option_map (λ (y : StoredProcess). y.process) (slice_get rest 0)))
      first [] = refl
      first (y ∷ rest) = refl

-- the process after another is that of the plain machine
pub process_shown : (s : Records) → IsSound s → (pid at : ℕ) → IsProcess at pid s
    → Some (option_map process_view (process_after at s.processes)) ≡ shown_process pid (plain_processes s)
process_shown s sound pid at is =
    subst (λ n. Some (option_map process_view (process_after at s.processes)) ≡ shown_process n (plain_processes s)) is.1.2
    (subst (λ n. Some (option_map process_view (process_after n s.processes)) ≡ shown_process is.0.process.pid (plain_processes s)) is.1.1
    (sym (after_stored is.0 s.processes sound.processes_apart is.1.0)))

-- where no process has the ID none is after it
pub no_process : (pid : ℕ) (ps : List StoredProcess) → ((p : StoredProcess) → IsIn p ps → ¬ (p.process.pid ≡ pid))
    → None ≡ shown_process pid (map (λ (x : StoredProcess). x.process) ps)
no_process pid [] absent = refl
no_process pid (x ∷ ps) absent = rw (ne_eqb x.process.pid pid (absent x (inl refl))) (no_process pid ps (λ p there. absent p (inr there)))
