-- The neighbours of a lock among those of its process, and below its parent, as a caller sees them.
use Rattle.std.proofs.Common.{◌≡◌, ◌⊎◌, ℕ, List, [], ◌∷◌, ◌++◌, map, Option, None, Some, IsSome, refl, sym, ap, ◌∙◌, subst, inl, inr, eq-eqb, ne_eqb}
use Rattle.std.specs.Prelude.{flat_map}
use Rattle.std.specs.Option.{option_map_or}
use Rattle.std.proofs.lemmas.Bool.{cases_eq}
use Rattle.std.proofs.lemmas.Option.{none-some, same_Some}
use Rattle.slab.specs.Slab.{get}
use Rattle.vlm_collections.specs.Lists.{IsIn, handles_of}
use Rattle.vlm_records.specs.declared.locks.Lock.{Lock}
use Rattle.vlm_records.specs.declared.processes.Process.{Process}
use Rattle.vlm_store.specs.declared.store.Store.TheInside.{Inside}
use Rattle.vlm_store.specs.Records.{HasProcess, HasNoParent, OwnLock, StoredProcess, own_handles_at, own_of_handle, process_at, sublocks_at, IsLock}
use Rattle.vlm_store.specs.Kept.{IsKept, records_shown}
use Rattle.vlm_records.specs.Shown.{rows}
use Rattle.vlm_store.specs.Holdings.{Holding, own_of}
use Rattle.vlm_records.specs.Kin.{below_in, below_handles, below_links, own_in, own_handles, own_links, owner_in, parent_in}
use Rattle.vlm_store.proofs.LivingProcesses.{are_owned, held, own_among_shown, own_is, there_has}
use Rattle.vlm_records.proofs.OwnLocks.{parent_there}

-- ---- the locks of all processes

own_ahead : (own : OwnLock) (xs ys : List OwnLock) → IsIn own xs → IsIn own (xs ++ ys)
own_ahead own [] ys among = absurd among
own_ahead own (x ∷ xs) ys among = elim among [ inl here ↦ inl here | inr there ↦ inr (own_ahead own xs ys there) ]

own_behind : (own : OwnLock) (xs ys : List OwnLock) → IsIn own ys → IsIn own (xs ++ ys)
own_behind own [] ys among = among
own_behind own (x ∷ xs) ys among = inr (own_behind own xs ys among)

own_either : (own : OwnLock) (xs ys : List OwnLock) → IsIn own (xs ++ ys) → IsIn own xs ⊎ IsIn own ys
own_either own [] ys among = inr among
own_either own (x ∷ xs) ys among =
    elim among [
      | inl here ↦ inl (inl here)
      | inr there ↦ elim (own_either own xs ys there) [ inl ahead ↦ inl (inr ahead) | inr behind ↦ inr behind ]
    ]

-- a lock of a process is one of all
pub own_of_all : (p : StoredProcess) (own : OwnLock) (ps : List StoredProcess) → IsIn p ps → IsIn own p.own
    → IsIn own (flat_map (λ (q : StoredProcess). q.own) ps)
own_of_all p own [] among has = absurd among
own_of_all p own (q ∷ ps) among has =
    elim among [
      | inl here ↦ own_ahead own q.own _ (subst (λ (x : StoredProcess). IsIn own x.own) (sym here) has)
      | inr there ↦ own_behind own q.own _ (own_of_all p own ps there has)
    ]

-- and one of all is a lock of a process
pub all_of_own : (own : OwnLock) (ps : List StoredProcess) → IsIn own (flat_map (λ (q : StoredProcess). q.own) ps)
    → (p : StoredProcess) × (IsIn p ps × IsIn own p.own)
all_of_own own [] among = absurd among
all_of_own own (q ∷ ps) among =
    elim (own_either own q.own _ among) [
      | inl here ↦ (q, (inl refl, here))
      | inr there ↦ let more = all_of_own own ps there in (more.0, (inr more.1.0, more.1.1))
    ]

-- a lock is found by its handle, or none of these has it
pub own_found : (at : ℕ) (owns : List OwnLock)
    → ((own : OwnLock) × ((own_of_handle at owns ≡ Some own) × IsIn own owns × (own.at ≡ at)))
    ⊎ ((own_of_handle at owns ≡ None) × ((own : OwnLock) → IsIn own owns → ¬ (own.at ≡ at)))
own_found at [] = inr (refl, λ own among. absurd among)
own_found at (x ∷ owns) =
    elim (cases_eq x.at at) [
      | inl same ↦ inl (x, (rw (eq-eqb x.at at same) refl, inl refl, same))
      | inr differs ↦
          elim (own_found at owns) [
            | inl found ↦ inl (found.0, (rw (ne_eqb x.at at differs) found.1.0, inr found.1.1, found.1.2))
            | inr none ↦
                inr (
                  rw (ne_eqb x.at at differs) none.0,
                  λ own among. elim among [
                    | inl here ↦ λ same. differs (ap (λ (y : OwnLock). y.at) here ∙ same)
                    | inr there ↦ none.1 own there
                  ],
                )
          ]
    ]

-- ---- as the fields show them

handles_told : (h : Holding) (ks : List ℕ) → map (λ (own : OwnLock). own.at) (map (own_of h) ks) ≡ ks
handles_told h [] = refl
handles_told h (k ∷ ks) = ap (λ rest. k ∷ rest) (handles_told h ks)

owner_there : (o : Option StoredProcess) (k : ℕ) → IsIn k (map (λ (own : OwnLock). own.at) (option_map_or (λ (p : StoredProcess). p.own) o [])) → IsSome o
owner_there None k found = absurd found
owner_there (Some p) k found = refl

module _ (s : Inside) (kept : IsKept s) where
  pub own_handles_is : (at : ℕ) → HasProcess at (records_shown s) → own_handles_at at (records_shown s) ≡ own_handles s.processes s.queues.locks at
  own_handles_is at has = ap (map (λ (own : OwnLock). own.at)) (own_is s kept at has) ∙ handles_told (held s kept) (own_handles s.processes s.queues.locks at)

  -- a lock is of the process among whose locks a caller sees it
  pub own_handles_here : (at k : ℕ) → IsIn k (own_handles_at at (records_shown s))
      → (own_handles_at at (records_shown s) ≡ own_handles s.processes s.queues.locks at) × (owner_in (get s.queues.locks k) ≡ Some at)
  own_handles_here at k found =
      let is = own_handles_is at (owner_there (process_at at (records_shown s).processes) k found) in
      (is, kept.owned.listed at k (subst (IsIn k) is found))

  -- the locks of the process that a lock notes are those among which a caller sees it
  pub own_of_lock : (k owner process : ℕ) → owner_in (get s.queues.locks k) ≡ Some owner → IsIn k (own_handles_at process (records_shown s))
      → own_handles s.processes s.queues.locks owner ≡ own_handles_at process (records_shown s)
  own_of_lock k owner process notes found =
      let here = own_handles_here process k found in
      ap (own_handles s.processes s.queues.locks) (same_Some owner process (sym notes ∙ here.1)) ∙ sym here.0

  -- and they are read off the record of the process
  pub own_listed : (at : ℕ) (p : Process) → get s.processes at ≡ Some p → handles_of own_links s.queues.locks p.own ≡ own_handles s.processes s.queues.locks at
  own_listed at p is = ap (λ slot. handles_of own_links s.queues.locks (own_in slot)) (sym is)

  -- the locks below a lock that is found
  sublocks_found : (at : ℕ) (own : OwnLock) → own_of_handle at (flat_map (λ (q : StoredProcess). q.own) (records_shown s).processes) ≡ Some own
      → IsIn own (flat_map (λ (q : StoredProcess). q.own) (records_shown s).processes) → own.at ≡ at
      → sublocks_at at (records_shown s) ≡ below_handles s.queues.locks at
  sublocks_found at own is among same =
      let of = all_of_own own (records_shown s).processes among in
      ap (λ o. option_map_or (λ (x : OwnLock). x.sublocks) o []) is
      ∙ sym (own_among_shown s kept of.0 own of.1.0 of.1.1).0.1 ∙ ap (below_handles s.queues.locks) same

  -- the locks below a lock
  pub sublocks_is : (at : ℕ) → IsLock at (records_shown s) → sublocks_at at (records_shown s) ≡ below_handles s.queues.locks at
  sublocks_is at stored =
      let owned = (are_owned s kept).owned at stored.0 stored.1 in
      elim (own_found at (flat_map (λ (q : StoredProcess). q.own) (records_shown s).processes)) [
        | inl found ↦ sublocks_found at found.0 found.1.0 found.1.1 found.1.2
        | inr none ↦ absurd (none.1 owned.1 (own_of_all owned.0 owned.1 (records_shown s).processes owned.2.0 owned.2.2) owned.2.3)
      ]

  -- a lock notes the parent among whose locks a caller sees it
  sublocks_here : (at k : ℕ) → IsIn k (sublocks_at at (records_shown s)) → sublocks_at at (records_shown s) ≡ below_handles s.queues.locks at
  sublocks_here at k found =
      elim (own_found at (flat_map (λ (q : StoredProcess). q.own) (records_shown s).processes)) [
        | inl own ↦ sublocks_found at own.0 own.1.0 own.1.1 own.1.2
        | inr none ↦ absurd (subst (IsIn k) (ap (λ o. option_map_or (λ (x : OwnLock). x.sublocks) o []) none.0) found)
      ]

  pub below_of_lock : (k up parent : ℕ) → parent_in (get s.queues.locks k) ≡ Some up
      → IsIn k (sublocks_at parent (records_shown s))
      → below_handles s.queues.locks up ≡ sublocks_at parent (records_shown s)
  below_of_lock k up parent notes found =
      let is = sublocks_here parent k found in
      let noted = kept.below.listed parent k (subst (IsIn k) is found) in
      ap (below_handles s.queues.locks) (same_Some up parent (sym notes ∙ noted)) ∙ sym is

  pub below_listed : (at : ℕ) (l : Lock) → get s.queues.locks at ≡ Some l → handles_of below_links s.queues.locks l.sublocks ≡ below_handles s.queues.locks at
  below_listed at l is = ap (λ slot. handles_of below_links s.queues.locks (below_in slot)) (sym is)

  -- a lock that notes a parent is seen below it
  pub seen_below : (k up : ℕ) → parent_in (get s.queues.locks k) ≡ Some up → ¬ HasNoParent k (records_shown s)
  seen_below k up notes none =
      let there = parent_there s.queues.locks kept.below k up notes in
      none up (subst (IsIn k) (sym (sublocks_is up (rows s.queues up, there_has s kept up there))) (kept.below.stands up k (λ e. none-some k (sym e)) notes))

  -- and one that notes none is seen below none
  pub unseen_below : (k parent : ℕ) → parent_in (get s.queues.locks k) ≡ None → ¬ IsIn k (sublocks_at parent (records_shown s))
  unseen_below k parent notes found =
      none-some parent (sym notes ∙ kept.below.listed parent k (subst (IsIn k) (sublocks_here parent k found) found))
