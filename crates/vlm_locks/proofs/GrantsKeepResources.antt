-- A grant leaves each lock on its resource.
use Rattle.std.proofs.Common.{◌≡◌, ℕ, List, [], ◌∷◌, ◌++◌, refl, sym, ap, ◌∙◌, subst, inl, inr, eq-eqb, ne_eqb}
use Rattle.std.proofs.lemmas.Bool.{cases_eq}
use Rattle.vlm_words.specs.declared.locks.LockState.{LockState}
use Rattle.vlm_words.specs.declared.resources.Queue.{Queue}
use Rattle.vlm_words.specs.declared.resources.Queue.TheVariants.{Granted, Conversion, Waiting}
use Rattle.vlm_words.specs.declared.resources.ValueBlock.{ValueBlock}
use Rattle.vlm_words.specs.Rows.{granted_row}
use Rattle.vlm_collections.specs.Lists.{IsIn}
use Rattle.vlm_store.specs.Records.{IsSameLock, StoredLock, StoredResource, queued, without_lock}
use Rattle.vlm_locks.specs.Staying.{LocksStay, LocksStayAmong, StandsStill}
use Rattle.vlm_locks.proofs.MovedToGranted.{IsHead, granted_first}
use Rattle.vlm_locks.proofs.OrderOfResources.{among_after, among_before}

-- a lock is the same as itself
pub same_lock : (row : LockState) → IsSameLock row row
same_lock row = record { lkid = refl; pid = refl; parent = refl }

pub same_back : (a b : LockState) → IsSameLock a b → IsSameLock b a
same_back a b same = record { lkid = sym same.lkid; pid = sym same.pid; parent = sym same.parent }

-- a lock that stands in a queue stands there still
pub stands_in : (r : StoredResource) (queue : Queue) (lock : StoredLock) → IsIn lock (queued queue r) → StandsStill lock r
stands_in r queue lock among = record { queue = queue; row = lock.row; among = among; same = same_lock lock.row }

pub all_stay : (r : StoredResource) → LocksStay r r
all_stay r queue lock among = stands_in r queue lock among

-- what stays twice stays
pub stay_twice : (first second third : StoredResource) → LocksStay first second → LocksStay second third → LocksStay first third
stay_twice first second third one two queue lock among =
    let between = one queue lock among in
    let then = two between.queue (record { at = lock.at; row = between.row }) between.among in
    record {
      queue = then.queue;
      row = then.row;
      among = then.among;
      same = record {
        lkid = between.same.lkid ∙ then.same.lkid;
        pid = between.same.pid ∙ then.same.pid;
        parent = between.same.parent ∙ then.same.parent;
      };
    }

-- a value block is no lock
pub stays_under_block : (had left : StoredResource) (block : ValueBlock) → LocksStay had left → LocksStay had (record left { value_block = block })
stays_under_block had left block stay queue lock among =
    let still = stay queue lock among in
    record { queue = still.queue; row = still.row; among = of_queue still.queue still.row still.among; same = still.same }
  where
    of_queue : (queue : Queue) (row : LockState) → IsIn (record { at = lock.at; row = row }) (queued queue left)
        → IsIn (record { at = lock.at; row = row }) (queued queue (record left { value_block = block }))
    of_queue Granted row among = among
    of_queue Conversion row among = among
    of_queue Waiting row among = among

pub none_joins_under_block : (had left : StoredResource) (block : ValueBlock) → LocksStay left had → LocksStay (record left { value_block = block }) had
none_joins_under_block had left block stay Granted lock among = stay Granted lock among
none_joins_under_block had left block stay Conversion lock among = stay Conversion lock among
none_joins_under_block had left block stay Waiting lock among = stay Waiting lock among

among_front : (lock : StoredLock) (xs ys : List StoredLock) → IsIn lock xs → IsIn lock (xs ++ ys)
among_front lock [] ys among = absurd among
among_front lock (x ∷ xs) ys among = elim among [ inl here ↦ inl here | inr there ↦ inr (among_front lock xs ys there) ]

pub among_last : (lock : StoredLock) (xs : List StoredLock) → IsIn lock (xs ++ lock ∷ [])
among_last lock [] = inl refl
among_last lock (x ∷ xs) = inr (among_last lock xs)

-- a lock of a list without one was there
pub among_without : (at : ℕ) (lock : StoredLock) (locks : List StoredLock) → IsIn lock (without_lock at locks) → IsIn lock locks
among_without at lock [] among = absurd among
among_without at lock (x ∷ locks) among =
    elim (cases_eq x.at at) [
      | inl same ↦ inr (among_without at lock locks (rw (eq-eqb x.at at same) at among))
      | inr differs ↦ elim (rw (ne_eqb x.at at differs) at among) [ inl here ↦ inl here | inr there ↦ inr (among_without at lock locks there) ]
    ]

-- a lock of a longer list is the last, or was there
pub of_joined : {X : Type 0} (lock last : StoredLock) (xs : List StoredLock) → IsIn lock (xs ++ last ∷ []) → (last ≡ lock → X) → (IsIn lock xs → X) → X
of_joined {X} lock last [] among is was = elim among [ inl here ↦ is here | inr none ↦ absurd none ]
of_joined {X} lock last (x ∷ xs) among is was =
    elim among [ inl here ↦ was (inl here) | inr there ↦ of_joined lock last xs there is (λ later. was (inr later)) ]

-- ---- the first of a queue is granted

module _ (r : StoredResource) (at : ℕ) (row : LockState) where
  abbrev granted : StoredLock
  granted = record { at = at; row = granted_row row }

  -- the lock is among the granted ones
  is_granted : (left : StoredResource) (lock : StoredLock) → record { at = at; row = row } ≡ lock
      → left.granted ≡ r.granted ++ granted ∷ [] → StandsStill lock left
  is_granted left lock is joined =
      subst (λ (k : StoredLock). StandsStill k left) is
      (record {
        queue = Granted;
        row = granted_row row;
        among = subst (IsIn granted) (sym joined) (among_last granted r.granted);
        same = record { lkid = refl; pid = refl; parent = refl };
      })

  -- and it was the first of the queue
  was_first : (queue : Queue) (head : IsHead queue r at row) (lock : StoredLock) → granted ≡ lock → StandsStill lock r
  was_first queue head lock is =
      subst (λ (k : StoredLock). StandsStill k r) is
      (record {
        queue = queue;
        row = row;
        among = subst (IsIn (record { at = at; row = row })) (sym head.is) (inl refl);
        same = record { lkid = refl; pid = refl; parent = refl };
      })

  pub stay_granted : (queue : Queue) (head : IsHead queue r at row) → LocksStay r (granted_first queue granted head.rest r)
  stay_granted Granted head q lock among = stands_in r q lock among
  stay_granted Conversion head Granted lock among =
      stands_in (granted_first Conversion granted head.rest r) Granted lock
      (among_front lock r.granted (granted ∷ []) among)
  stay_granted Conversion head Conversion lock among =
      elim (subst (IsIn lock) head.is among) [
        | inl here ↦ is_granted (granted_first Conversion granted head.rest r) lock here refl
        | inr there ↦ stands_in (granted_first Conversion granted head.rest r) Conversion lock there
      ]
  stay_granted Conversion head Waiting lock among = stands_in (granted_first Conversion granted head.rest r) Waiting lock among
  stay_granted Waiting head Granted lock among = stands_in (granted_first Waiting granted head.rest r) Granted lock
      (among_front lock r.granted (granted ∷ []) among)
  stay_granted Waiting head Conversion lock among = stands_in (granted_first Waiting granted head.rest r) Conversion lock among
  stay_granted Waiting head Waiting lock among =
      elim (subst (IsIn lock) head.is among) [
        | inl here ↦ is_granted (granted_first Waiting granted head.rest r) lock here refl
        | inr there ↦ stands_in (granted_first Waiting granted head.rest r) Waiting lock there
      ]

  pub none_join_granted : (queue : Queue) (head : IsHead queue r at row) → LocksStay (granted_first queue granted head.rest r) r
  none_join_granted Granted head q lock among = stands_in r q lock among
  none_join_granted Conversion head Granted lock among =
      of_joined lock granted r.granted among (was_first Conversion head lock) (λ was. stands_in r Granted lock was)
  none_join_granted Conversion head Conversion lock among = stands_in r Conversion lock (subst (IsIn lock) (sym head.is) (inr among))
  none_join_granted Conversion head Waiting lock among = stands_in r Waiting lock among
  none_join_granted Waiting head Granted lock among =
      of_joined lock granted r.granted among (was_first Waiting head lock) (λ was. stands_in r Granted lock was)
  none_join_granted Waiting head Conversion lock among = stands_in r Conversion lock among
  none_join_granted Waiting head Waiting lock among = stands_in r Waiting lock (subst (IsIn lock) (sym head.is) (inr among))

-- ---- among resources

-- one resource in the place of another
pub stay_alone : (had left : StoredResource) → left.at ≡ had.at → LocksStay had left → LocksStayAmong (had ∷ []) (left ∷ [])
stay_alone had left keyed stay r queue lock among here =
    elim among [
      | inl is ↦ (
        left,
        (
          inl refl,
          keyed
              ∙ ap (λ (x : StoredResource). x.at) is,
          stay queue lock (subst (λ (x : StoredResource). IsIn lock (queued queue x)) (sym is) here),
        ),
      )
      | inr none ↦ absurd none
    ]

-- a resource without locks may be absent
pub stay_none : (had : StoredResource) (others : List StoredResource)
    → ((queue : Queue) (lock : StoredLock) → IsIn lock (queued queue had) → ⊥) → LocksStayAmong (had ∷ []) others
stay_none had others none r queue lock among here =
    elim among [
      | inl is ↦ absurd (none queue lock (subst (λ (x : StoredResource). IsIn lock (queued queue x)) (sym is) here))
      | inr nothing ↦ absurd nothing
    ]

pub stay_all_among : (rs : List StoredResource) → LocksStayAmong rs rs
stay_all_among rs r queue lock among here = (r, (among, refl, stands_in r queue lock here))

pub stay_twice_among : (first second third : List StoredResource) → LocksStayAmong first second → LocksStayAmong second third → LocksStayAmong first third
stay_twice_among first second third one two r queue lock among here =
    let between = one r queue lock among here in
    let still = between.1.2 in
    let then = two between.0 still.queue (record { at = lock.at; row = still.row }) between.1.0 still.among in (
      then.0,
      (
        then.1.0,
        then.1.1 ∙ between.1.1,
        record {
          queue = then.1.2.queue;
          row = then.1.2.row;
          among = then.1.2.among;
          same = record {
            lkid = still.same.lkid ∙ then.1.2.same.lkid;
            pid = still.same.pid ∙ then.1.2.same.pid;
            parent = still.same.parent ∙ then.1.2.same.parent;
          };
        },
      ),
    )

-- two lists, each of which stays, one after the other
pub stay_parts : (olds news : List StoredResource) → LocksStayAmong olds news → (before after : List StoredResource)
    → LocksStayAmong (before ++ (olds ++ after)) (before ++ (news ++ after))
stay_parts olds news stay before after r queue lock among here =
    of_part before (olds ++ after) among
    (λ first. (r, (among_before before (news ++ after) r first, refl, stands_in r queue lock here)))
    (λ later. of_part olds after later
    (λ own. let still = stay r queue lock own here in (
      still.0,
      (
        among_after before (news ++ after) still.0 (among_before news after still.0 still.1.0),
        still.1.1,
        still.1.2,
      ),
    ))
    (λ last. (r, (among_after before (news ++ after) r (among_after news after r last), refl, stands_in r queue lock here))))
  where
    of_part : {X : Type 0} (xs ys : List StoredResource) → IsIn r (xs ++ ys) → (IsIn r xs → X) → (IsIn r ys → X) → X
    of_part {X} [] ys among first second = second among
    of_part {X} (y ∷ xs) ys among first second = elim among [ inl is ↦ first (inl is) | inr there ↦ of_part xs ys there (λ own. first (inr own)) second ]
