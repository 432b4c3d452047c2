-- The granted locks of a resource are warned, one after the other.
use Rattle.std.proofs.Common.{◌≡◌, ◌≢◌, ◌≤◌, ◌<◌, ◌+◌, ◌-◌, ℕ, Bool, true, false, List, [], ◌∷◌, ◌++◌, map, flat_map}
use Rattle.std.proofs.Common.{length, cond, Option, None, Some, IfSome, IsSome, append_assoc, refl, sym, ap, ◌∙◌, subst}
use Rattle.std.proofs.Common.{inl, inr, arith, eq-eqb, ne_eqb}
use Rattle.std.specs.Prelude.{◌==◌, ◌&&◌}
use Rattle.std.specs.List.{list_any}
use Rattle.std.specs.Option.{option_map_or}
use Rattle.std.proofs.lemmas.Bool.{and_parts, cases_Bool, cases_eq}
use Rattle.std.proofs.lemmas.List.{append-nil, map-append}
use Rattle.std.proofs.lemmas.Option.{none-some, same_Some}
use Rattle.vlm_words.specs.declared.locks.Request.{Request}
use Rattle.vlm_words.specs.declared.locks.LockState.{LockState}
use Rattle.vlm_words.specs.declared.resources.Queue.{Queue}
use Rattle.vlm_words.specs.declared.resources.Queue.TheVariants.{Granted, Conversion, Waiting}
use Rattle.vlm_words.specs.Rows.{is_empty}
use Rattle.vlm_words.specs.State.{Process, Resource}
use Rattle.vlm_model.specs.Asts.{Queued as QueuedAst, blocking_asts, has_to_warn, blocks_a_request, is_to_warn}
use Rattle.vlm_model.specs.Asts.{processes_after_asts, processes_after_queueing, resource_after_warning}
use Rattle.vlm_model.specs.Asts.{row_after_warning, row_warnings, warnings}
use Rattle.vlm_words.specs.Dues.{due_to, one_where, routines_of, row_due}
use Rattle.vlm_model.proofs.Warned.{blind_warned}
use Rattle.vlm_collections.specs.Lists.{IsIn}
use Rattle.vlm_records.specs.declared.handles.Armed.{Armed}
use Rattle.vlm_records.specs.declared.handles.Place.TheVariants.{Queued}
use Rattle.vlm_records.specs.Armed.{is_listed}
use Rattle.vlm_store.specs.Armed.{IsArmedAt, armed_among, armed_at}
use Rattle.vlm_store.specs.Plain.{plain_processes, plain_resource}
use Rattle.vlm_store.proofs.Walks.{lock_among}
use Rattle.vlm_model.proofs.Stable.{unwarned_says_nothing, unwarned_stays}
use Rattle.vlm_store.specs.Records.{AreApart, DueChanges, HasResource, IsSameLock, IsSound, Records, SameButNotices}
use Rattle.vlm_store.specs.Records.{StoredLock, StoredResource, Stores, at_after, but_notices, disarmed, disarming}
use Rattle.vlm_store.specs.Records.{due_of, first_at, locks_at, on_resource, queued, resource_at, resource_with}
use Rattle.vlm_store.specs.Records.{rows_of_locks, with_lists}
use Rattle.vlm_store.proofs.Records.{map_on, queue_at}
use Rattle.vlm_locks.specs.Owing.{DueMoves, IsPaid, OwedMoves, due_for}
use Rattle.vlm_locks.specs.Rest.{IsReplaced}
use Rattle.vlm_locks.specs.Serving.{nothing_queued}
use Rattle.vlm_locks.specs.Staying.{LocksStay}
use Rattle.vlm_model.proofs.NothingLeft.{is_empty-true}
use Rattle.vlm_locks.specs.Warning.{IsLockWarned, IsWarned, SparesOthers, disarmed_if, disarmed_row, is_warned_on}
use Rattle.vlm_locks.proofs.ArmedOnes.{StartsArmed, among_armed, armed_apart, armed_split, behind, from_armed, from_lock, handles, handles_from}
use Rattle.vlm_locks.proofs.FoundByHandle.{on_resource-own, on_resource-put, resource_alone, resource_at-put}
use Rattle.vlm_locks.proofs.MovedToGranted.{no_first}
use Rattle.vlm_locks.proofs.ReservedAsts.{due_noticed, owed_moves, owed_other, owed_own, paid_still, weight}
use Rattle.vlm_locks.proofs.ReplacedResource.{found_left, left_at}
use Rattle.vlm_locks.proofs.GrantsKeepResources.{all_stay, same_back, same_lock}
use Rattle.vlm_locks.proofs.QueuedLocks.{resource_among}
use Rattle.vlm_locks.proofs.SumsOverLocks.{disarmed_weighs}

-- ---- one lock

-- its warning is owed, and is queued or forgiven
pub warned_owed : (row : LockState) (old new : Records) → row.armed ≡ true → row_due row ≤ due_of row.pid old → DueChanges row.pid (λ due. due - 1) old new
    → OwedMoves row (disarmed_row row) old new
warned_owed row old new armed enough changes =
    let before : row_due row ≡ routines_of row.want + 1 = ap (λ (b : Bool). routines_of row.want + one_where b) armed in
    let after : row_due (disarmed_row row) ≡ routines_of row.want = omega arith in
    owed_moves row (disarmed_row row) old new refl
    (omega (arith, owed_own row (λ due. due - 1) old new changes, enough, before, after))
    (λ pid differs. owed_other row (λ due. due - 1) old new changes pid differs)

-- an armed lock is owed one AST at least
pub warning_fits : (row : LockState) (s : Records) → row.armed ≡ true → row_due row ≤ due_of row.pid s → 1 ≤ due_of row.pid s
warning_fits row s armed enough =
    let before : row_due row ≡ routines_of row.want + 1 = ap (λ (b : Bool). routines_of row.want + one_where b) armed in
    omega (arith, before, enough)

-- a lock that is to be warned is armed
pub armed_there : (res : ℕ) (s : Records) (row : LockState) → HasResource res s
    → ((r : StoredResource) → resource_at res s.resources ≡ Some r → is_warned_on r row ≡ true) → row.armed ≡ true
unfolding is_to_warn
armed_there res s row there warned = of_found (resource_at res s.resources) refl there
  where
    of_found : (o : Option StoredResource) → resource_at res s.resources ≡ o → IsSome o → row.armed ≡ true
    of_found None found there = cc
    of_found (Some r) found there = (and_parts row.armed (blocks_a_request row.held (rows_of_locks r.converting) (rows_of_locks r.waiting)) (warned r found)).0

-- one that is not to be warned stays as it is
pub lock_unwarned : (r : StoredResource) (lock : ℕ) (row : LockState) (s : Records) → is_warned_on r row ≡ false → IsLockWarned r lock row s s
unfolding row_warnings row_after_warning
lock_unwarned r lock row s is = record {
  queued = rw is refl;
  only = rw is (record { resources = refl; processes = refl; room = refl; keys = refl });
  owed = λ pid. rw is refl;
}

-- and one that is queues its warning, and is armed no more
pub lock_warned : (r : StoredResource) (lock : ℕ) (row : LockState) (s t new : Records) → is_warned_on r row ≡ true
    → plain_processes t ≡ processes_after_asts (blocking_asts row.held row.lkid row.pid) (plain_processes s)
    → OwedMoves row (disarmed_row row) s t → SameButNotices s t
    → new ≡ with_lists (disarming lock) t → IsLockWarned r lock row s new
unfolding row_warnings row_after_warning
lock_warned r lock row s t new is told owed same wrote = record {
  queued = rw (wrote, is) told;
  only =
      rw (wrote, is) (record {
        resources = ap (map (resource_with (disarming lock))) same.resources;
        processes = same.processes;
        room = same.room;
        keys = same.keys;
      });
  owed = λ pid. rw (wrote, is) (owed pid);
}

-- what is due for it changes so
due_warned : (s t : Records) → IsSound s → (r : StoredResource) (lock : ℕ) (row : LockState) → Stores s lock row → IsLockWarned r lock row s t
    → DueMoves row (row_after_warning (rows_of_locks r.converting) (rows_of_locks r.waiting) row) s t
unfolding row_after_warning
due_warned s t sound r lock row stored warned pid = of_test (is_warned_on r row) refl
  where
    of_test : (b : Bool) → is_warned_on r row ≡ b → due_for pid t + due_to pid row ≡ due_for pid s + due_to pid (cond b (disarmed_row row) row)
    of_test true is =
        let same : SameButNotices (with_lists (disarming lock) s) t = subst (λ b. SameButNotices (disarmed_if b lock s) t) is warned.only in
        omega (arith, due_noticed (with_lists (disarming lock) s) t same pid, disarmed_weighs (weight pid) lock s sound row stored)
    of_test false is =
        let same : SameButNotices s t = subst (λ b. SameButNotices (disarmed_if b lock s) t) is warned.only in
        omega (arith, due_noticed s t same pid)

pub paid_warned : (s t : Records) → IsSound s → (r : StoredResource) (lock : ℕ) (row : LockState) → Stores s lock row
    → IsLockWarned r lock row s t → IsPaid s → IsPaid t
paid_warned s t sound r lock row stored warned =
    paid_still row (row_after_warning (rows_of_locks r.converting) (rows_of_locks r.waiting) row) s t
    (due_warned s t sound r lock row stored warned) warned.owed

-- ---- all of them

-- ASTs after ASTs
pub asts_append : (first second : List QueuedAst) (processes : List Process)
    → processes_after_asts (first ++ second) processes ≡ processes_after_asts second (processes_after_asts first processes)
asts_append [] second processes = refl
asts_append (q ∷ first) second processes = asts_append first second (processes_after_queueing q.pid q.ast processes)

-- a lock once it is warned
abbrev pub warned_lock : StoredResource → StoredLock → StoredLock
warned_lock r k = record k { row = row_after_warning (rows_of_locks r.converting) (rows_of_locks r.waiting) k.row }

-- the resource once the first of its granted locks are warned
abbrev pub halfway : StoredResource → List StoredLock → List StoredLock → StoredResource
halfway had done todo = record had { granted = map (warned_lock had) done ++ todo }

-- what is left of the granted locks, warned, gives what all give, warned
pub record IsWarning (res : ℕ) (old s : Records) (next : Option ℕ) : Type 0 where
  pub had : StoredResource
  pub done : List StoredLock
  pub todo : List StoredLock
  pub split : had.granted ≡ done ++ todo
  pub replaced : IsReplaced res had (halfway had done todo) old s
  pub first : next ≡ first_at todo
  pub effect : processes_after_asts (flat_map (row_warnings (rows_of_locks had.converting) (rows_of_locks had.waiting))
      (rows_of_locks todo)) (plain_processes s)
      ≡ processes_after_asts (warnings (plain_resource had)) (plain_processes old)

-- one that is not to be warned stays, and says nothing
lock_is_not_warned : (r : StoredResource) (k : StoredLock) → is_warned_on r k.row ≡ false → warned_lock r k ≡ k
unfolding row_after_warning
lock_is_not_warned r k is = rw is refl

lock_says_nothing : (r : StoredResource) (k : StoredLock) → is_warned_on r k.row ≡ false
    → row_warnings (rows_of_locks r.converting) (rows_of_locks r.waiting) k.row ≡ []
unfolding row_warnings
lock_says_nothing r k is = rw is refl

-- the walk passes over it
passed : (res : ℕ) (old s : Records) (next : Option ℕ) (w : IsWarning res old s next) (k : StoredLock)
    (rest : List StoredLock) → w.todo ≡ k ∷ rest → is_warned_on w.had k.row ≡ false
    → (x : IsWarning res old s (first_at rest)) × (x.todo ≡ rest)
passed res old s next w k rest is unwarned =
    let warned = warned_lock w.had in
    let says = row_warnings (rows_of_locks w.had.converting) (rows_of_locks w.had.waiting) in
    let same : map warned w.done ++ w.todo ≡ map warned (w.done ++ k ∷ []) ++ rest =
    ap (λ locks. map warned w.done ++ locks) is
    ∙ sym (
    ap (λ locks. locks ++ rest) (map-append warned w.done (k ∷ []))
    ∙ append_assoc (map warned w.done) (warned k ∷ []) rest
    ∙ ap (λ (x : StoredLock). map warned w.done ++ x ∷ rest) (lock_is_not_warned w.had k unwarned)
    ) in (
      record {
        had = w.had;
        done = w.done ++ k ∷ [];
        todo = rest;
        split = w.split ∙ ap (λ locks. w.done ++ locks) is ∙ sym (append_assoc w.done (k ∷ []) rest);
        replaced = subst (λ locks. IsReplaced res w.had (record w.had { granted = locks }) old s) same w.replaced;
        first = refl;
        effect =
            ap (λ asts. processes_after_asts (asts ++ flat_map says (rows_of_locks rest)) (plain_processes s)) (sym (lock_says_nothing w.had k unwarned))
            ∙ ap (λ locks. processes_after_asts (flat_map says (rows_of_locks locks)) (plain_processes s)) (sym is)
            ∙ w.effect;
      },
      refl,
    )

-- it stands at a lock of the list, or at the end
pub record IsAtArmed (which : Armed) (res : ℕ) (old s : Records) (next : Option ℕ) : Type 0 where
  pub warning : IsWarning res old s next
  pub armed : StartsArmed which warning.todo

-- from where it stands it goes on to the first that is armed
to_armed : (which : Armed) (res : ℕ) (old s : Records) → SparesOthers which res old
    → (todo : List StoredLock) (next after : Option ℕ) (w : IsWarning res old s next) → w.todo ≡ todo
    → after ≡ first_at (armed_among which todo) → IsAtArmed which res old s after
to_armed which res old s spares [] next after w is first = record {
  warning = record {
    had = w.had;
    done = w.done;
    todo = w.todo;
    split = w.split;
    replaced = w.replaced;
    first = first
        ∙ ap first_at (sym is);
    effect = w.effect;
  };
  armed = subst (StartsArmed which) (sym is) tt;
}
to_armed which res old s spares (k ∷ rest) next after w is first =
    elim (cases_Bool (is_listed which k.row)) [
      | inl armed ↦ record {
        warning = record {
          had = w.had;
          done = w.done;
          todo = w.todo;
          split = w.split;
          replaced = w.replaced;
          first =
              (rw armed at first) ∙ ap first_at (sym is);
          effect = w.effect;
        };
        armed = subst (StartsArmed which) (sym is) armed;
      }
      | inr unarmed ↦
          let on = passed res old s next w k rest is (spares w.had k.row w.replaced.was unarmed) in
          to_armed which res old s spares rest (first_at rest) after on.0 on.1 (rw unarmed at first)
    ]

-- before the first
pub warning_begun : (which : Armed) (res : ℕ) (s : Records) (next : Option ℕ) → IsSound s → HasResource res s
    → SparesOthers which res s → next ≡ first_at (armed_at which res s) → IsAtArmed which res s s next
unfolding warnings
warning_begun which res s next sound there spares is = of_found (resource_at res s.resources) refl there
  where
    of_found : (o : Option StoredResource) → resource_at res s.resources ≡ o → IsSome o → IsAtArmed which res s s next
    of_found None found there = cc
    of_found (Some r) found there =
        let w : IsWarning res s s (first_at r.granted) = record {
          had = r;
          done = [];
          todo = r.granted;
          split = refl;
          replaced = record {
            was = found;
            same = refl;
            resources = sym (on_resource-own res r s.resources sound.resources_apart found);
            processes = refl;
          };
          first = refl;
          effect = refl;
        } in
        to_armed which res s s spares r.granted (first_at r.granted) next w refl (is
        ∙ ap (λ o. first_at (armed_among which (option_map_or (queued Granted) o []))) found)

-- a list without the lock stays
disarm_absent : (at : ℕ) (locks : List StoredLock) → ((row : LockState) → ¬ IsIn (record { at = at; row = row }) locks)
    → map (λ (k : StoredLock). cond (k.at == at) (disarmed k) k) locks ≡ locks
disarm_absent at [] absent = refl
disarm_absent at (k ∷ rest) absent =
    elim (cases_eq k.at at) [
      | inl same ↦ absurd (absent k.row (inl (ap (λ x. record { at = x; row = k.row }) same)))
      | inr differs ↦ rw (ne_eqb k.at at differs) (ap (λ xs. k ∷ xs) (disarm_absent at rest (λ row there. absent row (inr there))))
    ]

-- a list with it has it armed no more
disarm_among : (before rest : List StoredLock) (k : StoredLock) → AreApart (before ++ k ∷ rest)
    → map (λ (x : StoredLock). cond (x.at == k.at) (disarmed x) x) (before ++ k ∷ rest) ≡ before ++ disarmed k ∷ rest
disarm_among [] rest k apart = rw (eq-eqb k.at k.at refl) (ap (λ xs. disarmed k ∷ xs) (disarm_absent k.at rest apart.0))
disarm_among (x ∷ before) rest k apart =
    rw (ne_eqb x.at k.at (λ same. apart.0 k.row
    (subst (λ (y : ℕ). IsIn (record { at = y; row = k.row }) (before ++ k ∷ rest)) (sym same)
    (lock_among k before rest))))
    (ap (λ xs. x ∷ xs) (disarm_among before rest k apart.1))

-- those that a walk of the granted locks has left
abbrev pub left_to_warn : ℕ → Option ℕ → Records → List ℕ
left_to_warn res next s = handles_from next (handles (locks_at (Queued res Granted) s))

-- what a warning makes of a lock
lock_is_warned : (r : StoredResource) (k : StoredLock) → is_warned_on r k.row ≡ true → warned_lock r k ≡ disarmed k
unfolding row_after_warning
lock_is_warned r k is = rw is refl

-- it stays the lock that it was
same_warned : (r : StoredResource) (k : StoredLock) → IsSameLock k.row (warned_lock r k).row
same_warned r k = record {
  lkid = sym (blind_warned (λ x. x.lkid) (λ x armed. refl) (rows_of_locks r.converting) (rows_of_locks r.waiting) k.row);
  pid = sym (blind_warned (λ x. x.pid) (λ x armed. refl) (rows_of_locks r.converting) (rows_of_locks r.waiting) k.row);
  parent = sym (blind_warned (λ x. x.parent) (λ x armed. refl) (rows_of_locks r.converting) (rows_of_locks r.waiting) k.row);
}

among_warned : (r : StoredResource) (k : StoredLock) (locks : List StoredLock) → IsIn k locks → IsIn (warned_lock r k) (map (warned_lock r) locks)
among_warned r k [] among = absurd among
among_warned r k (x ∷ locks) among = elim among [ inl here ↦ inl (ap (warned_lock r) here) | inr there ↦ inr (among_warned r k locks there) ]

-- each warned lock was there
was_warned : (r : StoredResource) (k : StoredLock) (locks : List StoredLock) → IsIn k (map (warned_lock r) locks)
    → (x : StoredLock) × (IsIn x locks × (warned_lock r x ≡ k))
was_warned r k [] among = absurd among
was_warned r k (x ∷ locks) among =
    elim among [
      | inl here ↦ (x, (inl refl, here))
      | inr there ↦ (let found = was_warned r k locks there in (found.0, (inr found.1.0, found.1.1)))
    ]

-- so each lock of the resource stays there, and none joins
module _ (had left : StoredResource) (granted : left.granted ≡ map (warned_lock had) had.granted)
    (converting : left.converting ≡ had.converting) (waiting : left.waiting ≡ had.waiting) where
  warned_stay : LocksStay had left
  warned_stay Granted k among = record {
    queue = Granted;
    row = (warned_lock had k).row;
    among = subst (IsIn (warned_lock had k)) (sym granted) (among_warned had k had.granted among);
    same = same_warned had k;
  }
  warned_stay Conversion k among = record { queue = Conversion; row = k.row; among = subst (IsIn k) (sym converting) among; same = same_lock k.row }
  warned_stay Waiting k among = record { queue = Waiting; row = k.row; among = subst (IsIn k) (sym waiting) among; same = same_lock k.row }

  none_join_warned : LocksStay left had
  none_join_warned Granted k among =
      let was = was_warned had k had.granted (subst (IsIn k) granted among) in
      record {
        queue = Granted;
        row = was.0.row;
        among = subst (λ (at : ℕ). IsIn (record { at = at; row = was.0.row }) had.granted) (ap (λ (x : StoredLock). x.at) was.1.1) was.1.0;
        same = subst (λ (x : StoredLock). IsSameLock x.row was.0.row) was.1.1 (same_back was.0.row (warned_lock had was.0).row (same_warned had was.0));
      }
  none_join_warned Conversion k among = record { queue = Conversion; row = k.row; among = subst (IsIn k) converting among; same = same_lock k.row }
  none_join_warned Waiting k among = record { queue = Waiting; row = k.row; among = subst (IsIn k) waiting among; same = same_lock k.row }

-- as the plain machine has it
warned_resource : (had left : StoredResource) → left.granted ≡ map (warned_lock had) had.granted → left ≡ record had { granted = left.granted }
    → plain_resource left ≡ resource_after_warning (plain_resource had)
unfolding resource_after_warning
warned_resource had left granted rest =
    ap plain_resource rest
    ∙ ap (λ rows. record (plain_resource had) { granted = rows }) (ap rows_of_locks granted ∙ rows_warned had.granted)
  where
    rows_warned : (locks : List StoredLock)
        → rows_of_locks (map (warned_lock had) locks) ≡ map (row_after_warning (rows_of_locks had.converting) (rows_of_locks had.waiting)) (rows_of_locks locks)
    rows_warned [] = refl
    rows_warned (k ∷ locks) = ap (λ rows. row_after_warning (rows_of_locks had.converting) (rows_of_locks had.waiting) k.row ∷ rows) (rows_warned locks)

-- a lock is disarmed where it stands: of the resources just its own is another
disarmed_resources : (s : Records) → IsSound s
    → (res : ℕ) (r : StoredResource) (lock : ℕ) (row : LockState) (before rest : List StoredLock)
    → resource_at res s.resources ≡ Some r
    → r.granted ≡ before ++ record { at = lock; row = row } ∷ rest → (then : StoredResource) → then ≡ record r { granted = then.granted }
    → then.granted ≡ before ++ disarmed (record { at = lock; row = row }) ∷ rest
    → map (resource_with (disarming lock)) s.resources ≡ on_resource res (λ x. then) s.resources
disarmed_resources s sound res r lock row before rest found split then same granted =
    map_on (resource_with (disarming lock)) (λ x. cond (x.at == res) then x) s.resources
    (λ x among. elim (cases_eq x.at res) [
      | inl is ↦
          ap (resource_with (disarming lock)) (resource_alone res s.resources r x sound.resources_apart found among is) ∙ here
          ∙ sym (ap (λ b. cond b then x) (eq-eqb x.at res is))
      | inr differs ↦ there x among differs ∙ sym (ap (λ b. cond b then x) (ne_eqb x.at res differs))
    ])
  where
    own : StoredLock
    own = record { at = lock; row = row }

    in_granted : locks_at (Queued res Granted) s ≡ r.granted
    in_granted = ap (λ o. option_map_or (queued Granted) o []) found

    stands : IsIn own (locks_at (Queued res Granted) s)
    stands = subst (IsIn own) (sym (in_granted ∙ split)) (lock_among own before rest)

    absent : (x : StoredResource) → IsIn x s.resources → (queue : Queue) → Queued x.at queue ≢ Queued res Granted
        → map (λ (k : StoredLock). cond (k.at == lock) (disarmed k) k) (queued queue x) ≡ queued queue x
    absent x among queue differs =
        disarm_absent lock (queued queue x)
        (λ other there. differs (sound.one_place lock other row (Queued x.at queue) (Queued res Granted)
        (subst (IsIn (record { at = lock; row = other })) (sym (queue_at s sound x among queue)) there) stands))

    there : (x : StoredResource) → IsIn x s.resources → x.at ≢ res → resource_with (disarming lock) x ≡ x
    there x among differs =
        rw (absent x among Granted (λ e. differs (cc)), absent x among Conversion (λ e. differs (cc)), absent x among Waiting (λ e. differs (cc))) refl

    in_it : IsIn r s.resources
    in_it = resource_among res s.resources r found

    here : resource_with (disarming lock) r ≡ then
    here =
        let apart : AreApart (before ++ own ∷ rest) = subst AreApart (in_granted ∙ split) (sound.locks_apart (Queued res Granted)) in
        let first : map (λ (k : StoredLock). cond (k.at == lock) (disarmed k) k) r.granted ≡ then.granted =
        ap (map (λ (k : StoredLock). cond (k.at == lock) (disarmed k) k)) split ∙ disarm_among before rest own apart ∙ sym granted in
        rw (first, absent r in_it Conversion (λ e. cc), absent r in_it Waiting (λ e. cc)) (sym same)

module _ (res : ℕ) (old s : Records) (next : Option ℕ) (warning : IsWarning res old s next) where
  -- the resource as it is now
  abbrev pub now : StoredResource
  now = halfway warning.had warning.done warning.todo

  pub now_found : resource_at res s.resources ≡ Some now
  now_found = found_left res warning.had now old s warning.replaced

  pub warning_there : HasResource res s
  warning_there = subst IsSome (sym now_found) refl

  granted_are : locks_at (Queued res Granted) s ≡ now.granted
  granted_are = ap (λ o. option_map_or (queued Granted) o []) now_found

  module _ (none : None ≡ next) where
    -- no lock is left to look at
    all_done : warning.todo ≡ []
    all_done = no_first warning.todo (sym warning.first ∙ sym none)

    -- the locks that were granted, each warned
    granted_now : now.granted ≡ map (warned_lock warning.had) warning.had.granted
    granted_now =
        ap (λ locks. map (warned_lock warning.had) warning.done ++ locks) all_done
        ∙ append-nil (map (warned_lock warning.had) warning.done)
        ∙ ap (map (warned_lock warning.had)) (sym (append-nil warning.done) ∙ ap (λ locks. warning.done ++ locks) (sym all_done) ∙ sym warning.split)

    -- all are warned
    pub warning_over : IsWarned res warning.had old s
    warning_over = record {
      left = now;
      replaced = warning.replaced;
      stay = warned_stay warning.had now granted_now refl refl;
      none_join = none_join_warned warning.had now granted_now refl refl;
      resource = warned_resource warning.had now granted_now refl;
      statuses =
          ap (λ locks. processes_after_asts
          (flat_map (row_warnings (rows_of_locks warning.had.converting) (rows_of_locks warning.had.waiting))
          (rows_of_locks locks)) (plain_processes s)) (sym all_done)
          ∙ warning.effect;
    }

  module _ (sound : IsSound s) (lock : ℕ) (first : Some lock ≡ next) where
    -- the next lock and those behind it
    pub record HasNext : Type 0 where
      pub row : LockState
      pub rest : List StoredLock
      pub is : warning.todo ≡ record { at = lock; row = row } ∷ rest

    pub has_next : HasNext
    has_next = of_list warning.todo refl (sym warning.first ∙ sym first)
      where
        of_list : (locks : List StoredLock) → warning.todo ≡ locks → first_at locks ≡ Some lock → HasNext
        of_list [] is none = absurd (none-some lock none)
        of_list (k ∷ rest) is some =
            record { row = k.row; rest = rest; is = is ∙ ap (λ (at : ℕ). record { at = at; row = k.row } ∷ rest) (same_Some k.at lock some) }

    -- those before it
    abbrev before : List StoredLock
    before = map (warned_lock warning.had) warning.done

    abbrev own : StoredLock
    own = record { at = lock; row = has_next.row }

    granted_split : locks_at (Queued res Granted) s ≡ before ++ own ∷ has_next.rest
    granted_split = granted_are ∙ ap (λ locks. before ++ locks) has_next.is

    granted_apart : AreApart (before ++ own ∷ has_next.rest)
    granted_apart = subst AreApart granted_split (sound.locks_apart (Queued res Granted))

    pub next_stands : IsIn own (locks_at (Queued res Granted) s)
    next_stands = subst (IsIn own) (sym granted_split) (lock_among own before has_next.rest)

    pub next_stored : Stores s lock has_next.row
    next_stored = (Queued res Granted, next_stands)

    module _ (which : Armed) (armed : StartsArmed which warning.todo) where
      own_armed : is_listed which has_next.row ≡ true
      own_armed = subst (StartsArmed which) has_next.is armed

      pub stands_armed : IsArmedAt which res lock s
      stands_armed = (has_next.row, among_armed which own (locks_at (Queued res Granted) s) next_stands own_armed)

      -- the armed lock that follows it
      pub follows : (after : Option ℕ) → after ≡ at_after lock (armed_at which res s) → after ≡ first_at (armed_among which has_next.rest)
      follows after is =
          let split : armed_among which
          (before ++ own ∷ has_next.rest) ≡ armed_among which before ++ own ∷ armed_among which has_next.rest =
          armed_split which before own has_next.rest own_armed in
          is ∙ ap (at_after lock) (ap (armed_among which) granted_split ∙ split)
          ∙ behind own (armed_among which has_next.rest) (armed_among which before)
          (subst AreApart split (armed_apart which (before ++ own ∷ has_next.rest) granted_apart))

    -- what is left for the walk is one less behind it
    pub left_shorter : (which : Armed) (after : Option ℕ) → after ≡ first_at (armed_among which has_next.rest)
        → length (left_to_warn res after s) < length (left_to_warn res next s)
    left_shorter which after is =
        let here : left_to_warn res next s ≡ lock ∷ handles has_next.rest =
        ap (λ (n : Option ℕ). handles_from n (handles (locks_at (Queued res Granted) s))) (sym first)
        ∙ ap (λ locks. handles_from (Some lock) (handles locks)) granted_split
        ∙ from_lock own has_next.rest before granted_apart in
        let apart : before ++ own ∷ has_next.rest ≡ (before ++ own ∷ []) ++ has_next.rest = sym (append_assoc before (own ∷ []) has_next.rest) in
        let there : left_to_warn res after s ≡ handles_from (first_at (armed_among which has_next.rest)) (handles ((before ++ own ∷ []) ++ has_next.rest)) =
        ap (λ (n : Option ℕ). handles_from n (handles (locks_at (Queued res Granted) s))) is
        ∙ ap (λ locks. handles_from (first_at (armed_among which has_next.rest)) (handles locks)) (granted_split ∙ apart) in
        let few = from_armed which has_next.rest (before ++ own ∷ []) (subst AreApart apart granted_apart) in
        rw (here, there) (omega (arith, few))

    -- the resource once it is warned too
    abbrev then : StoredResource
    then = halfway warning.had (warning.done ++ own ∷ []) has_next.rest

    then_granted : then.granted ≡ before ++ warned_lock warning.had own ∷ has_next.rest
    then_granted =
        ap (λ locks. locks ++ has_next.rest) (map-append (warned_lock warning.had) warning.done (own ∷ []))
        ∙ append_assoc before (warned_lock warning.had own ∷ []) has_next.rest

    module _ (t : Records) (warned : IsLockWarned now lock has_next.row s t) where
      -- it is disarmed on its resource, if it is warned
      resources_then : t.resources ≡ on_resource res (λ r. then) s.resources
      resources_then = of_test (is_warned_on now has_next.row) refl
        where
          of_test : (b : Bool) → is_warned_on now has_next.row ≡ b → t.resources ≡ on_resource res (λ r. then) s.resources
          of_test true is =
              let same : SameButNotices (with_lists (disarming lock) s) t = subst (λ b. SameButNotices (disarmed_if b lock s) t) is warned.only in
              same.resources ∙ disarmed_resources s sound res now lock has_next.row before has_next.rest now_found
              (ap (λ locks. before ++ locks) has_next.is) then refl
              (then_granted ∙ ap (λ k. before ++ k ∷ has_next.rest) (lock_is_warned warning.had own is))
          of_test false is =
              let same : SameButNotices s t = subst (λ b. SameButNotices (disarmed_if b lock s) t) is warned.only in
              let stays : then ≡ now =
              ap (λ locks. record warning.had { granted = locks })
              (then_granted ∙ ap (λ k. before ++ k ∷ has_next.rest) (lock_is_not_warned warning.had own is)
              ∙ ap (λ locks. before ++ locks) (sym has_next.is)) in
              same.resources ∙ sym (ap (λ r. on_resource res (λ x. r) s.resources) stays ∙ on_resource-own res now s.resources sound.resources_apart now_found)

      processes_then : map but_notices t.processes ≡ map but_notices s.processes
      processes_then = of_test (is_warned_on now has_next.row) refl
        where
          of_test : (b : Bool) → is_warned_on now has_next.row ≡ b → map but_notices t.processes ≡ map but_notices s.processes
          of_test true is = (subst (λ b. SameButNotices (disarmed_if b lock s) t) is warned.only).processes
          of_test false is = (subst (λ b. SameButNotices (disarmed_if b lock s) t) is warned.only).processes

      -- the walk goes on
      pub warning_next : (which : Armed) → SparesOthers which res old → (after : Option ℕ)
          → after ≡ first_at (armed_among which has_next.rest) → IsAtArmed which res old t after
      warning_next which spares after is =
          let w : IsWarning res old t (first_at has_next.rest) = record {
            had = warning.had;
            done = warning.done ++ own ∷ [];
            todo = has_next.rest;
            split = warning.split ∙ ap (λ locks. warning.done ++ locks) has_next.is ∙ sym (append_assoc warning.done (own ∷ []) has_next.rest);
            replaced = record {
              was = warning.replaced.was;
              same = refl;
              resources =
                  resources_then ∙ ap (on_resource res (λ r. then)) warning.replaced.resources
                  ∙ on_resource-put res now (λ r. then) old.resources (left_at res warning.had now old s warning.replaced);
              processes = processes_then ∙ warning.replaced.processes;
            };
            first = refl;
            effect =
                ap (processes_after_asts (flat_map (row_warnings converting waiting) (rows_of_locks has_next.rest))) warned.queued
                ∙ sym (asts_append (row_warnings converting waiting has_next.row)
                (flat_map (row_warnings converting waiting) (rows_of_locks has_next.rest)) (plain_processes s))
                ∙ ap (λ locks. processes_after_asts (flat_map (row_warnings converting waiting) (rows_of_locks locks)) (plain_processes s)) (sym has_next.is)
                ∙ warning.effect;
          } in
          to_armed which res old t spares has_next.rest (first_at has_next.rest) after w refl is
        where
          converting : List LockState
          converting = rows_of_locks warning.had.converting

          waiting : List LockState
          waiting = rows_of_locks warning.had.waiting

      -- with one lock less to look at
      pub warning_shorter : (which : Armed) (after : Option ℕ) → after ≡ first_at (armed_among which has_next.rest)
          → length (left_to_warn res after t) < length (left_to_warn res next s)
      warning_shorter which after is =
          let there : handles (locks_at (Queued res Granted) t) ≡ handles (locks_at (Queued res Granted) s) =
          ap (λ o. handles (option_map_or (queued Granted) o []))
          (ap (resource_at res) resources_then ∙ resource_at-put res then s.resources now (left_at res warning.had now old s warning.replaced) now_found)
          ∙ ap handles then_granted ∙ same_handles before ∙ sym (ap handles granted_split) in
          subst (λ hs. length (handles_from after hs) < length (left_to_warn res next s)) (sym there) (left_shorter which after is)
        where
          same_handles : (xs : List StoredLock) → handles (xs ++ warned_lock warning.had own ∷ has_next.rest) ≡ handles (xs ++ own ∷ has_next.rest)
          same_handles [] = refl
          same_handles (x ∷ xs) = ap (λ hs. x.at ∷ hs) (same_handles xs)

-- what is known of what is found
pub if_found : (P : StoredResource → Type 0) (res : ℕ) (s : Records) (r : StoredResource)
    → resource_at res s.resources ≡ Some r → P r → IfSome (resource_at res s.resources) P
if_found P res s r found holds = subst (λ o. IfSome o P) (sym found) holds

-- nobody is to be warned
pub none_warned : (res : ℕ) (s : Records) → IsSound s → HasResource res s → IfSome (resource_at res s.resources) (λ r. false ≡ has_to_warn (plain_resource r))
    → IfSome (resource_at res s.resources) (λ r. IsWarned res r s s)
none_warned res s sound there none = of_found (resource_at res s.resources) refl none
  where
    of_found : (o : Option StoredResource) → resource_at res s.resources ≡ o
        → IfSome o (λ r. false ≡ has_to_warn (plain_resource r)) → IfSome o (λ r. IsWarned res r s s)
    of_found None found none = tt
    of_found (Some r) found none = record {
      left = r;
      replaced = record {
        was = found;
        same = refl;
        resources = sym (on_resource-own res r s.resources sound.resources_apart found);
        processes = refl;
      };
      stay = all_stay r;
      none_join = all_stay r;
      resource = sym (unwarned_stays (plain_resource r) (sym none));
      statuses = sym (ap (λ queued. processes_after_asts queued (plain_processes s)) (unwarned_says_nothing (plain_resource r) (sym none)));
    }

-- where nothing is queued nobody is to be warned
unwarned : (queued : Resource) → nothing_queued queued ≡ true → (row : LockState) → is_to_warn queued.converting queued.waiting row ≡ false
unfolding is_to_warn
unwarned queued nothing row = rw (not_held row.held) (one row.armed)
  where
    both : (is_empty queued.converting ≡ true) × (is_empty queued.waiting ≡ true)
    both = and_parts (is_empty queued.converting) (is_empty queued.waiting) nothing

    not_held : (held : Option Request) → blocks_a_request held queued.converting queued.waiting ≡ false
    not_held None = refl
    not_held (Some held) = rw (is_empty-true queued.converting both.0, is_empty-true queued.waiting both.1) refl

    one : (armed : Bool) → (armed && false) ≡ false
    one true = refl
    one false = refl

none_unwarned : (queued : Resource) → nothing_queued queued ≡ true → (rows : List LockState)
    → list_any (is_to_warn queued.converting queued.waiting) rows ≡ false
none_unwarned queued nothing [] = refl
none_unwarned queued nothing (row ∷ rows) = rw (unwarned queued nothing row) (none_unwarned queued nothing rows)

pub none_blocks : (res : ℕ) (s : Records) → IsSound s → HasResource res s → IfSome (resource_at res s.resources) (λ r. true ≡ nothing_queued (plain_resource r))
    → IfSome (resource_at res s.resources) (λ r. IsWarned res r s s)
unfolding has_to_warn
none_blocks res s sound there nothing = none_warned res s sound there (of_found (resource_at res s.resources) nothing)
  where
    of_found : (o : Option StoredResource) → IfSome o (λ r. true ≡ nothing_queued (plain_resource r)) → IfSome o (λ r. false ≡ has_to_warn (plain_resource r))
    of_found None nothing = tt
    of_found (Some r) nothing = sym (none_unwarned (plain_resource r) (sym nothing) (plain_resource r).granted)

-- the walk is at its end
pub if_warned : (res : ℕ) (old s : Records) (next : Option ℕ) (warning : IsWarning res old s next) → None ≡ next
    → IfSome (resource_at res old.resources) (λ r. IsWarned res r old s)
if_warned res old s next warning none = if_found (λ r. IsWarned res r old s) res old warning.had warning.replaced.was (warning_over res old s next warning none)
