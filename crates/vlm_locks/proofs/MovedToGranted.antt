-- The first lock of a queue moves to the granted queue.
use Rattle.std.proofs.Common.{◌≡◌, ◌≢◌, ℕ, List, [], ◌∷◌, ◌++◌, cond, None, Some, refl, sym, ap, ◌∙◌, subst, inl, inr, eq-eqb, ne_eqb}
use Rattle.std.specs.Prelude.{◌==◌}
use Rattle.std.specs.Option.{option_map_or}
use Rattle.std.proofs.lemmas.Bool.{cases_eq}
use Rattle.std.proofs.lemmas.Option.{none-some, same_Some}
use Rattle.vlm_words.specs.declared.locks.LockState.{LockState}
use Rattle.vlm_words.specs.declared.resources.Queue.{Queue}
use Rattle.vlm_words.specs.declared.resources.Queue.TheVariants.{Granted, Conversion, Waiting}
use Rattle.vlm_collections.specs.Lists.{IsIn}
use Rattle.vlm_records.specs.declared.handles.Place.TheVariants.{Queued}
use Rattle.vlm_store.specs.Records.{AreApart, IsSound, Records, SameButNotices, StoredLock, StoredResource, Stores}
use Rattle.vlm_store.specs.Records.{first_at, is_place, locks_at, moving, on_resource, queued, resource_at}
use Rattle.vlm_store.specs.Records.{resource_with, with_lists, without_lock}
use Rattle.vlm_store.proofs.Records.{is_place-other, is_place-same, map_on, resource_is, unmoved, without_absent}
use Rattle.vlm_locks.specs.Rest.{but_service}
use Rattle.vlm_locks.specs.Serving.{IsLeft, but_stored_queues}
use Rattle.vlm_locks.proofs.FoundByHandle.{on_resource-put, resource_alone, resource_at-at, resource_at-put}

-- the lock of this handle and this row is the first of the queue, and these are behind it
pub record IsHead (queue : Queue) (r : StoredResource) (at : ℕ) (row : LockState) : Type 0 where
  pub rest : List StoredLock
  pub is : queued queue r ≡ record { at = at; row = row } ∷ rest

-- the first of the queue is put at the end of the granted locks, in this form
abbrev pub granted_first : Queue → StoredLock → List StoredLock → StoredResource → StoredResource
granted_first Granted lock rest r = r
granted_first Conversion lock rest r = record r { granted = r.granted ++ lock ∷ []; converting = rest }
granted_first Waiting lock rest r = record r { granted = r.granted ++ lock ∷ []; waiting = rest }

pub granted_first-rest : (queue : Queue) (lock : StoredLock) (rest : List StoredLock) (r : StoredResource)
    → but_stored_queues (granted_first queue lock rest r) ≡ but_stored_queues r
granted_first-rest Granted lock rest r = refl
granted_first-rest Conversion lock rest r = refl
granted_first-rest Waiting lock rest r = refl

granted_first-at : (queue : Queue) (lock : StoredLock) (rest : List StoredLock) (r : StoredResource) → (granted_first queue lock rest r).at ≡ r.at
granted_first-at queue lock rest r = ap (λ (x : StoredResource). x.at) (granted_first-rest queue lock rest r)

-- the queue behind the first is what is left of it
pub granted_first-queue : (queue : Queue) (lock : StoredLock) (rest : List StoredLock) (r : StoredResource)
    → Granted ≢ queue → queued queue (granted_first queue lock rest r) ≡ rest
granted_first-queue Granted lock rest r differs = absurd (differs refl)
granted_first-queue Conversion lock rest r differs = refl
granted_first-queue Waiting lock rest r differs = refl

-- the locks of a queue that is found
pub locks_found : (s : Records) (res : ℕ) (r : StoredResource) (queue : Queue) → resource_at res s.resources ≡ Some r
    → locks_at (Queued res queue) s ≡ queued queue r
locks_found s res r queue found = ap (λ o. option_map_or (queued queue) o []) found

-- the lock that is the first, with its row
pub head_is : (s : Records) (res : ℕ) (r : StoredResource) (queue : Queue) (at : ℕ) (row : LockState) → resource_at res s.resources ≡ Some r
    → first_at (locks_at (Queued res queue) s) ≡ Some at → ((x : LockState) → Stores s at x → x ≡ row) → IsHead queue r at row
head_is s res r queue at row found first only =
    of_list (queued queue r) refl (ap first_at (sym (locks_found s res r queue found)) ∙ first)
  where
    of_list : (locks : List StoredLock) → queued queue r ≡ locks → first_at locks ≡ Some at → IsHead queue r at row
    of_list [] is first = absurd (none-some at first)
    of_list (k ∷ rest) is first =
        let keyed : k.at ≡ at = same_Some k.at at first in
        let named : k ≡ record { at = at; row = k.row } = ap (λ x. record { at = x; row = k.row }) keyed in
        let stored : Stores s at k.row = (
          Queued res queue,
          subst (IsIn (record { at = at; row = k.row }))
              (sym (locks_found s res r queue found ∙ is)) (inl named),
        ) in
        record { rest = rest; is = is ∙ ap (λ x. x ∷ rest) (named ∙ ap (λ x. record { at = at; row = x }) (only k.row stored)) }

-- where no lock is the first there is none
pub no_first : (locks : List StoredLock) → first_at locks ≡ None → locks ≡ []
no_first [] none = refl
no_first (k ∷ rest) none = absurd (none-some k.at (sym none))

-- so the queue is empty
pub none_queued : (s : Records) (res : ℕ) (r : StoredResource) (queue : Queue) → resource_at res s.resources ≡ Some r
    → first_at (locks_at (Queued res queue) s) ≡ None → queued queue r ≡ []
none_queued s res r queue found first = no_first (queued queue r) (ap first_at (sym (locks_found s res r queue found)) ∙ first)

without_first : (at : ℕ) (row : LockState) (rest : List StoredLock) → AreApart (record { at = at; row = row } ∷ rest)
    → without_lock at (record { at = at; row = row } ∷ rest) ≡ rest
without_first at row rest apart = rw (eq-eqb at at refl) (without_absent at rest apart.0)

module _ (s : Records) (sound : IsSound s) (res : ℕ) (r : StoredResource) (queue : Queue) (at : ℕ) (row : LockState)
    (found : resource_at res s.resources ≡ Some r) (head : IsHead queue r at row) where
  head_stands : IsIn (record { at = at; row = row }) (locks_at (Queued res queue) s)
  head_stands = subst (IsIn (record { at = at; row = row })) (sym (locks_found s res r queue found ∙ head.is)) (inl refl)

  pub head_stored : Stores s at row
  head_stored = (Queued res queue, head_stands)

  -- the first lock stands in no other queue
  alone : (x : StoredResource) → IsIn x s.resources → (other : Queue) → Queued x.at other ≢ Queued res queue → without_lock at (queued other x) ≡ queued other x
  alone x among other differs =
      let here : locks_at (Queued x.at other) s ≡ queued other x = locks_found s x.at x other (resource_is x s.resources sound.resources_apart among) in
      ap (without_lock at) (sym here) ∙ unmoved s at row (Queued res queue) sound head_stands (Queued x.at other) differs ∙ here

  -- nor in another queue of its resource
  pub alone_here : (other : Queue) → queue ≢ other → without_lock at (queued other r) ≡ queued other r
  alone_here other differs =
      let here : locks_at (Queued res other) s ≡ queued other r = locks_found s res r other found in
      ap (without_lock at) (sym here) ∙ unmoved s at row (Queued res queue) sound head_stands (Queued res other) (λ e. differs (cc)) ∙ here

  -- the queue without it is what stands behind it
  pub behind : without_lock at (queued queue r) ≡ head.rest
  behind =
      ap (without_lock at) head.is
      ∙ without_first at row head.rest (subst AreApart (locks_found s res r queue found ∙ head.is) (sound.locks_apart (Queued res queue)))

  -- a list that the lock does not join
  not_joined : (granted : LockState) (x : StoredResource) (other : Queue) → Queued x.at other ≢ Queued res Granted
      → moving (Queued res Granted) (record { at = at; row = granted }) (Queued x.at other) (queued other x) ≡ without_lock at (queued other x)
  not_joined granted x other differs =
      ap (λ b. cond b (without_lock at (queued other x) ++ record { at = at; row = granted } ∷ []) (without_lock at (queued other x)))
      (is_place-other (Queued x.at other) (Queued res Granted) differs)

  -- the granted locks, with one more
  joined : (granted : LockState) → Granted ≢ queue
      → moving (Queued res Granted) (record { at = at; row = granted }) (Queued r.at Granted) r.granted ≡ r.granted ++ record { at = at; row = granted } ∷ []
  joined granted differs =
      ap (λ b. cond b (without_lock at r.granted ++ record { at = at; row = granted } ∷ []) (without_lock at r.granted))
      (ap (λ x. is_place (Queued x Granted) (Queued res Granted)) (resource_at-at res s.resources r found) ∙ is_place-same (Queued res Granted))
      ∙ ap (λ xs. xs ++ record { at = at; row = granted } ∷ []) (alone_here Granted (λ e. differs (sym e)))

  -- another resource stays
  moved_there : (granted : LockState) (x : StoredResource) → IsIn x s.resources → x.at ≢ res
      → resource_with (moving (Queued res Granted) (record { at = at; row = granted })) x ≡ x
  moved_there granted x among differs =
      let stays : (other : Queue) → moving (Queued res Granted) (record { at = at; row = granted }) (Queued x.at other) (queued other x) ≡ queued other x =
      λ other. not_joined granted x other (λ e. differs (cc)) ∙ alone x among other (λ e. differs (cc)) in
      rw (stays Granted, stays Conversion, stays Waiting) refl

-- the resource of the lock has it granted
moved_here : (s : Records) (sound : IsSound s) (res : ℕ) (r : StoredResource) (queue : Queue) (at : ℕ) (row : LockState)
    (found : resource_at res s.resources ≡ Some r) (head : IsHead queue r at row)
    (granted : LockState) → Granted ≢ queue
    → resource_with (moving (Queued res Granted) (record { at = at; row = granted })) r ≡ granted_first queue (record { at = at; row = granted }) head.rest r
moved_here s sound res r Granted at row found head granted differs = absurd (differs refl)
moved_here s sound res r Conversion at row found head granted differs =
    rw (
      joined s sound res r Conversion at row found head granted differs,
      not_joined s sound res r Conversion at row found head granted r Conversion (λ e. cc) ∙ behind s sound res r Conversion at row found head,
      not_joined s sound res r Conversion at row found head granted r Waiting (λ e. cc)
          ∙ alone_here s sound res r Conversion at row found head Waiting (λ e. cc),
    ) refl
moved_here s sound res r Waiting at row found head granted differs =
    rw (
      joined s sound res r Waiting at row found head granted differs,
      not_joined s sound res r Waiting at row found head granted r Conversion (λ e. cc)
          ∙ alone_here s sound res r Waiting at row found head Conversion (λ e. cc),
      not_joined s sound res r Waiting at row found head granted r Waiting (λ e. cc) ∙ behind s sound res r Waiting at row found head,
    ) refl

-- the first lock of a queue joins the granted locks of its resource, and nothing else moves
pub first_moved : (s : Records) (sound : IsSound s) (res : ℕ) (r : StoredResource) (queue : Queue) (at : ℕ)
    (row : LockState) (found : resource_at res s.resources ≡ Some r) (head : IsHead queue r at row)
    (granted : LockState) → Granted ≢ queue
    → with_lists (moving (Queued res Granted) (record { at = at; row = granted })) s
    ≡ record s { resources = on_resource res (λ x. granted_first queue (record { at = at; row = granted }) head.rest r) s.resources }
first_moved s sound res r queue at row found head granted differs =
    ap (λ x. record s { resources = x })
    (map_on (resource_with (moving (Queued res Granted) (record { at = at; row = granted })))
    (λ x. cond (x.at == res) (granted_first queue (record { at = at; row = granted }) head.rest r) x) s.resources
    (λ x among. elim (cases_eq x.at res) [
      | inl same ↦
          ap (resource_with (moving (Queued res Granted) (record { at = at; row = granted })))
          (resource_alone res s.resources r x sound.resources_apart found among same)
          ∙ moved_here s sound res r queue at row found head granted differs
          ∙ sym (ap (λ b. cond b (granted_first queue (record { at = at; row = granted }) head.rest r) x) (eq-eqb x.at res same))
      | inr other ↦
          moved_there s sound res r queue at row found head granted x among other
          ∙ sym (ap (λ b. cond b (granted_first queue (record { at = at; row = granted }) head.rest r) x) (ne_eqb x.at res other))
    ]))

-- so the queues of the resource are left like this
pub left_next : (old s new : Records) (sound : IsSound s) (res : ℕ) (had r : StoredResource) (queue : Queue) (at : ℕ)
    (row : LockState) (change : IsLeft res had r old s) (head : IsHead queue r at row)
    (granted : LockState) → Granted ≢ queue → SameButNotices (with_lists (moving (Queued res Granted) (record { at = at; row = granted })) s) new
    → IsLeft res had (granted_first queue (record { at = at; row = granted }) head.rest r) old new
left_next old s new sound res had r queue at row change head granted differs same =
    let next : StoredResource = granted_first queue (record { at = at; row = granted }) head.rest r in
    let keyed : next.at ≡ res = granted_first-at queue (record { at = at; row = granted }) head.rest r ∙ resource_at-at res s.resources r change.now in
    let moved = first_moved s sound res r queue at row change.now head granted differs in
    let resources : new.resources ≡ on_resource res (λ x. next) s.resources = same.resources ∙ ap (λ (x : Records). x.resources) moved in
    record {
      replaced = record {
        was = change.replaced.was;
        same = ap (λ (x : StoredResource). but_service x) (granted_first-rest queue (record { at = at; row = granted }) head.rest r) ∙ change.replaced.same;
        resources =
            resources ∙ ap (on_resource res (λ x. next)) change.replaced.resources
            ∙ on_resource-put res r (λ x. next) old.resources (resource_at-at res s.resources r change.now);
        processes = same.processes ∙ change.replaced.processes;
      };
      now = ap (resource_at res) resources ∙ resource_at-put res next s.resources r keyed change.now;
      rest = granted_first-rest queue (record { at = at; row = granted }) head.rest r ∙ change.rest;
    }
