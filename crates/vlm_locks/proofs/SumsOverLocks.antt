-- Sums over all locks, and how a lock that moves, joins or leaves changes them.
use Rattle.std.proofs.Common.{◌≡◌, ◌≢◌, ◌+◌, ℕ, Bool, true, false, ◌&&◌, List, [], ◌∷◌, ◌++◌, map, cond, Option, None}
use Rattle.std.proofs.Common.{Some, IsSome, refl, sym, ap, ◌∙◌, subst, inl, inr, arith, eq-eqb, ne_eqb}
use Rattle.std.specs.Prelude.{◌==◌}
use Rattle.std.specs.List.{sum_by}
use Rattle.std.specs.Option.{option_map_or}
use Rattle.std.proofs.lemmas.Bool.{cases_eq, cond_both}
use Rattle.std.proofs.lemmas.List.Sums.{sum_by-append, sum_by-cons}
use Rattle.vlm_words.specs.declared.locks.LockState.{LockState}
use Rattle.vlm_words.specs.declared.resources.Queue.{Queue}
use Rattle.vlm_words.specs.declared.resources.Queue.TheVariants.{Granted, Conversion, Waiting}
use Rattle.vlm_collections.specs.Lists.{IsIn}
use Rattle.vlm_records.specs.declared.handles.Place.{Place}
use Rattle.vlm_records.specs.declared.handles.Place.TheVariants.{Queued}
use Rattle.vlm_locks.specs.Owing.{total_weight as all, weight_on as on_one}
use Rattle.vlm_store.specs.Records.{AreApart, AreResourcesApart, HasResource, IsIdle, IsSound, Records, StoredLock}
use Rattle.vlm_store.specs.Records.{StoredResource, Stores, disarmed, disarming, is_queue, joined_by, joining, leaving}
use Rattle.vlm_store.specs.Records.{locks_at, moving, on_resource, queued, resource_at, resource_with, with_lists}
use Rattle.vlm_store.specs.Records.{without_lock, without_resource}
use Rattle.vlm_store.proofs.Records.{joins_queue, queue_at}
use Rattle.vlm_locks.specs.Sweeping.{Parted}
use Rattle.vlm_locks.proofs.OrderOfResources.{after_differ, before_differ, parted_at}

-- what the lock of a handle weighs, and no other
abbrev pub only : ℕ → (StoredLock → ℕ) → StoredLock → ℕ
only at g k = cond (k.at == at) (g k) 0

-- ---- sums over resources

-- a sum of nothing
sum_none : {X : Type 0} (h : X → ℕ) (xs : List X) → ((x : X) → IsIn x xs → h x ≡ 0) → sum_by h xs ≡ 0
sum_none h [] none = refl
sum_none h (x ∷ xs) none = omega (arith, sum_by-cons h x xs, none x (inl refl), sum_none h xs (λ y there. none y (inr there)))

-- two sums whose terms are the same
pub sum_alike : {X : Type 0} (f h : X → ℕ) (xs : List X) → ((x : X) → IsIn x xs → f x ≡ h x) → sum_by f xs ≡ sum_by h xs
sum_alike f h [] same = refl
sum_alike f h (x ∷ xs) same =
    omega (arith, sum_by-cons f x xs, sum_by-cons h x xs, same x (inl refl), sum_alike f h xs (λ y there. same y (inr there)))

-- the terms of changed elements
sum_mapped : {X Y : Type 0} (f : Y → ℕ) (h : X → ℕ) (change : X → Y) (xs : List X) → ((x : X) → IsIn x xs → f (change x) ≡ h x)
    → sum_by f (map change xs) ≡ sum_by h xs
sum_mapped f h change [] same = refl
sum_mapped f h change (x ∷ xs) same =
    omega (arith, sum_by-cons f (change x) (map change xs), sum_by-cons h x xs, same x (inl refl), sum_mapped f h change xs (λ y there. same y (inr there)))

-- a sum of two
pub sum_both : {X : Type 0} (f h : X → ℕ) (xs : List X) → sum_by (λ x. f x + h x) xs ≡ sum_by f xs + sum_by h xs
sum_both f h [] = refl
sum_both f h (x ∷ xs) = omega (arith, sum_by-cons (λ y. f y + h y) x xs, sum_by-cons f x xs, sum_by-cons h x xs, sum_both f h xs)

-- one resource of a handle is there
sum_at : (n res : ℕ) (rs : List StoredResource) → AreResourcesApart rs → IsSome (resource_at res rs) → sum_by (λ r. cond (r.at == res) n 0) rs ≡ n
sum_at n res rs apart there =
    let p : Parted res rs = parted_at res rs there in
    let before : sum_by (λ r. cond (r.at == res) n 0) p.before ≡ 0 =
    sum_none (λ r. cond (r.at == res) n 0) p.before (λ x here. rw (ne_eqb x.at res (before_differ res rs apart p x here)) refl) in
    let after : sum_by (λ r. cond (r.at == res) n 0) p.after ≡ 0 =
    sum_none (λ r. cond (r.at == res) n 0) p.after (λ x later. rw (ne_eqb x.at res (after_differ res rs apart p x later)) refl) in
    let own : cond (p.own.at == res) n 0 ≡ n = rw (eq-eqb p.own.at res p.keyed) refl in
    omega (
      arith,
      ap (sum_by (λ (r : StoredResource). cond (r.at == res) n 0)) p.parted,
      sum_by-append (λ (r : StoredResource). cond (r.at == res) n 0) p.before (p.own ∷ p.after),
      sum_by-cons (λ (r : StoredResource). cond (r.at == res) n 0) p.own p.after,
      before,
      own,
      after,
    )

-- ---- a lock leaves

module _ (g : StoredLock → ℕ) (at : ℕ) where
  -- its list
  list_leaving : (locks : List StoredLock) → sum_by g (without_lock at locks) + sum_by (only at g) locks ≡ sum_by g locks
  list_leaving [] = refl
  list_leaving (k ∷ rest) =
      elim (k.at == at) as (λ b. (k.at == at) ≡ b → sum_by g (without_lock at (k ∷ rest)) + sum_by (only at g) (k ∷ rest) ≡ sum_by g (k ∷ rest)) [
        | true ↦ λ is. (
            let left : without_lock at (k ∷ rest) ≡ without_lock at rest = rw is refl in
            let own : only at g k ≡ g k = rw is refl in
            omega (arith, ap (sum_by g) left, sum_by-cons (only at g) k rest, own, list_leaving rest, sum_by-cons g k rest)
            )
        | false ↦ λ is. (
            let left : without_lock at (k ∷ rest) ≡ k ∷ without_lock at rest = rw is refl in
            let other : only at g k ≡ 0 = rw is refl in
            omega (
              arith,
              ap (sum_by g) left,
              sum_by-cons (only at g) k rest,
              other,
              list_leaving rest,
              sum_by-cons g k rest,
              sum_by-cons g k (without_lock at rest),
            )
            )
      ] refl

  one_leaving : (r : StoredResource) → on_one g (resource_with (leaving at) r) + on_one (only at g) r ≡ on_one g r
  one_leaving r = omega (arith, list_leaving r.granted, list_leaving r.converting, list_leaving r.waiting)

  resources_leaving : (rs : List StoredResource)
      → sum_by (on_one g) (map (resource_with (leaving at)) rs) + sum_by (on_one (only at g)) rs ≡ sum_by (on_one g) rs
  resources_leaving [] = refl
  resources_leaving (r ∷ rs) =
      omega (
        arith,
        sum_by-cons (on_one g) (resource_with (leaving at) r) (map (resource_with (leaving at)) rs),
        sum_by-cons (on_one (only at g)) r rs,
        sum_by-cons (on_one g) r rs,
        one_leaving r,
        resources_leaving rs,
      )

  all_leaving : (s : Records) → all g (with_lists (leaving at) s) + all (only at g) s ≡ all g s
  all_leaving s = resources_leaving s.resources

  -- where it does not stand it weighs nothing
  list_absent : (locks : List StoredLock) → ((row : LockState) → ¬ IsIn (record { at = at; row = row }) locks) → sum_by (only at g) locks ≡ 0
  list_absent locks absent =
      sum_none (only at g) locks (λ k among. elim (cases_eq k.at at) [
        | inl same ↦ absurd (absent k.row (subst (λ (x : ℕ). IsIn (record { at = x; row = k.row }) locks) same among))
        | inr differs ↦ rw (ne_eqb k.at at differs) refl
      ])

  -- and where it does, it weighs what it weighs
  list_present : (row : LockState) (locks : List StoredLock) → AreApart locks
      → IsIn (record { at = at; row = row }) locks → sum_by (only at g) locks ≡ g (record { at = at; row = row })
  list_present row [] apart among = absurd among
  list_present row (k ∷ rest) apart among =
      elim among [
        | inl here ↦ (
            let keyed : k.at ≡ at = ap (λ (x : StoredLock). x.at) here in
            let none : sum_by (only at g) rest ≡ 0 =
            list_absent rest (subst (λ (x : ℕ). (other : LockState) → ¬ IsIn (record { at = x; row = other }) rest) keyed apart.0) in
            let own : only at g k ≡ g (record { at = at; row = row }) = rw (eq-eqb k.at at keyed) (ap g here) in
            omega (arith, sum_by-cons (only at g) k rest, own, none)
            )
        | inr there ↦ (
            let other : only at g k ≡ 0 =
            rw (ne_eqb k.at at (λ same. apart.0 row (subst (λ (x : ℕ). IsIn (record { at = x; row = row }) rest) (sym same) there))) refl in
            omega (arith, sum_by-cons (only at g) k rest, other, list_present row rest apart.1 there)
            )
      ]

  -- a stored lock stands at one place
  module _ (s : Records) (sound : IsSound s) (row : LockState) where
    -- a queue of a resource, where the lock stands elsewhere
    queue_absent : (from : Place) → IsIn (record { at = at; row = row }) (locks_at from s) → (r : StoredResource) → IsIn r s.resources
        → (queue : Queue) → Queued r.at queue ≢ from → sum_by (only at g) (queued queue r) ≡ 0
    queue_absent from stands r among queue differs =
        list_absent (queued queue r)
        (λ other found.
        differs (sound.one_place at other row (Queued r.at queue) from
        (subst (IsIn (record { at = at; row = other })) (sym (queue_at s sound r among queue)) found) stands))

    module _ (res : ℕ) (queue : Queue) (there : HasResource res s) (stands : IsIn (record { at = at; row = row }) (locks_at (Queued res queue) s)) where
      -- its own queue
      own_queue : (r : StoredResource) → IsIn r s.resources → r.at ≡ res → sum_by (only at g) (queued queue r) ≡ g (record { at = at; row = row })
      own_queue r among same =
          let here : locks_at (Queued res queue) s ≡ queued queue r =
          ap (λ (x : ℕ). locks_at (Queued x queue) s) (sym same) ∙ queue_at s sound r among queue in
          list_present row (queued queue r) (subst AreApart here (sound.locks_apart (Queued res queue)))
          (subst (IsIn (record { at = at; row = row })) here stands)

      other_queue : (r : StoredResource) → IsIn r s.resources → (other : Queue) → other ≢ queue → sum_by (only at g) (queued other r) ≡ 0
      other_queue r among other differs = queue_absent (Queued res queue) stands r among other (λ e. differs (cc))

      elsewhere : (r : StoredResource) → IsIn r s.resources → r.at ≢ res → (other : Queue) → sum_by (only at g) (queued other r) ≡ 0
      elsewhere r among differs other = queue_absent (Queued res queue) stands r among other (λ e. differs (cc))

    own_resource : (queue : Queue) (res : ℕ) (there : HasResource res s) (stands : IsIn (record { at = at; row = row }) (locks_at (Queued res queue) s))
        → (r : StoredResource) → IsIn r s.resources → r.at ≡ res → on_one (only at g) r ≡ g (record { at = at; row = row })
    own_resource Granted res there stands r among same =
        omega (
          arith,
          own_queue res Granted there stands r among same,
          other_queue res Granted there stands r among Conversion (λ e. cc),
          other_queue res Granted there stands r among Waiting (λ e. cc),
        )
    own_resource Conversion res there stands r among same =
        omega (
          arith,
          own_queue res Conversion there stands r among same,
          other_queue res Conversion there stands r among Granted (λ e. cc),
          other_queue res Conversion there stands r among Waiting (λ e. cc),
        )
    own_resource Waiting res there stands r among same =
        omega (
          arith,
          own_queue res Waiting there stands r among same,
          other_queue res Waiting there stands r among Granted (λ e. cc),
          other_queue res Waiting there stands r among Conversion (λ e. cc),
        )

    queued_weighs : (res : ℕ) (queue : Queue) → HasResource res s → IsIn (record { at = at; row = row }) (locks_at (Queued res queue) s)
        → all (only at g) s ≡ g (record { at = at; row = row })
    queued_weighs res queue there stands =
        let resources : sum_by (on_one (only at g)) s.resources ≡ sum_by
        (λ (r : StoredResource). cond (r.at == res) (g (record { at = at; row = row })) 0) s.resources =
        sum_alike (on_one (only at g)) (λ r. cond (r.at == res) (g (record { at = at; row = row })) 0) s.resources
        (λ r among. elim (cases_eq r.at res) [
          | inl same ↦ rw (eq-eqb r.at res same) (own_resource queue res there stands r among same)
          | inr differs ↦ rw (ne_eqb r.at res differs) (omega (
            arith,
            elsewhere res queue there stands r among differs Granted,
            elsewhere res queue there stands r among differs Conversion,
            elsewhere res queue there stands r among differs Waiting,
          ))
        ]) in
        resources ∙ sum_at (g (record { at = at; row = row })) res s.resources sound.resources_apart there

    -- the resource of a queue in which a lock stands is there
    queue_there : (res : ℕ) (queue : Queue) → IsIn (record { at = at; row = row }) (locks_at (Queued res queue) s) → HasResource res s
    queue_there res queue stands = of_found (resource_at res s.resources) stands
      where
        of_found : (o : Option StoredResource) → IsIn (record { at = at; row = row }) (option_map_or (queued queue) o []) → IsSome o
        of_found None none = absurd none
        of_found (Some r) among = refl

    -- so it weighs what it weighs
    pub stored_weighs : Stores s at row → all (only at g) s ≡ g (record { at = at; row = row })
    stored_weighs stored = by_place stored.0 stored.1
      where
        by_place : (place : Place) → IsIn (record { at = at; row = row }) (locks_at place s) → all (only at g) s ≡ g (record { at = at; row = row })
        by_place (Queued res queue) stands = queued_weighs res queue (queue_there res queue stands) stands

-- ---- a lock joins

module _ (g : StoredLock → ℕ) (k : StoredLock) (res : ℕ) where
  -- a list that it joins or not
  list_moving : (joins : Bool) (locks : List StoredLock)
      → sum_by g (cond joins (without_lock k.at locks ++ k ∷ []) (without_lock k.at locks)) ≡ sum_by g (without_lock k.at locks) + cond joins (g k) 0
  list_moving true locks = omega (arith, sum_by-append g (without_lock k.at locks) (k ∷ []), sum_by-cons g k [])
  list_moving false locks = omega arith

  one_moving : (to : Queue) (r : StoredResource)
      → on_one g (resource_with (moving (Queued res to) k) r) ≡ on_one g (resource_with (leaving k.at) r) + cond (r.at == res) (g k) 0
  one_moving to r = of_queue to (r.at == res)
    where
      sums : (granted converting waiting : Bool)
          → sum_by g (cond granted (without_lock k.at r.granted ++ k ∷ []) (without_lock k.at r.granted))
          + sum_by g (cond converting (without_lock k.at r.converting ++ k ∷ []) (without_lock k.at r.converting))
          + sum_by g (cond waiting (without_lock k.at r.waiting ++ k ∷ []) (without_lock k.at r.waiting))
          ≡ on_one g (resource_with (leaving k.at) r) + (cond granted (g k) 0 + cond converting (g k) 0 + cond waiting (g k) 0)
      sums granted converting waiting = omega (arith, list_moving granted r.granted, list_moving converting r.converting, list_moving waiting r.waiting)

      of_queue : (queue : Queue) (here : Bool)
          → sum_by g (cond (here && is_queue Granted queue) (without_lock k.at r.granted ++ k ∷ []) (without_lock k.at r.granted))
          + sum_by g (cond (here && is_queue Conversion queue) (without_lock k.at r.converting ++ k ∷ []) (without_lock k.at r.converting))
          + sum_by g (cond (here && is_queue Waiting queue) (without_lock k.at r.waiting ++ k ∷ []) (without_lock k.at r.waiting))
          ≡ on_one g (resource_with (leaving k.at) r) + cond here (g k) 0
      of_queue queue false = omega (arith, sums false false false)
      of_queue Granted true = omega (arith, sums true false false)
      of_queue Conversion true = omega (arith, sums false true false)
      of_queue Waiting true = omega (arith, sums false false true)

  all_moving : (to : Queue) (s : Records) → IsSound s → HasResource res s
      → all g (with_lists (moving (Queued res to) k) s) ≡ all g (with_lists (leaving k.at) s) + g k
  all_moving to s sound there =
      omega (
        arith,
        sum_mapped (on_one g) (λ r. on_one g (resource_with (leaving k.at) r) + cond (r.at == res) (g k) 0)
            (resource_with (moving (Queued res to) k)) s.resources (λ r _. one_moving to r),
        sum_both (λ r. on_one g (resource_with (leaving k.at) r)) (λ r. cond (r.at == res) (g k) 0) s.resources,
        sum_mapped (on_one g) (λ r. on_one g (resource_with (leaving k.at) r)) (resource_with (leaving k.at)) s.resources (λ r _. refl),
        sum_at (g k) res s.resources sound.resources_apart there,
      )

-- a new lock joins a queue
module _ (g : StoredLock → ℕ) (k : StoredLock) (res : ℕ) (to : Queue) where
  one_joined : (queue : Queue) (here : Bool) (r : StoredResource) → on_one g (cond here (joined_by queue k r) r) ≡ on_one g r + cond here (g k) 0
  one_joined queue false r = omega arith
  one_joined Granted true r = omega (arith, sum_by-append g r.granted (k ∷ []), sum_by-cons g k [])
  one_joined Conversion true r = omega (arith, sum_by-append g r.converting (k ∷ []), sum_by-cons g k [])
  one_joined Waiting true r = omega (arith, sum_by-append g r.waiting (k ∷ []), sum_by-cons g k [])

  -- with it all weigh so much more
  pub joined_weighs : (s : Records) → IsSound s → HasResource res s → all g (with_lists (joining (Queued res to) k) s) ≡ all g s + g k
  joined_weighs s sound there =
      omega (
        arith,
        ap (all g) (joins_queue k res to s),
        sum_mapped (on_one g) (λ r. on_one g r + cond (r.at == res) (g k) 0)
            (λ r. cond (r.at == res) (joined_by to k r) r) s.resources (λ r _. one_joined to (r.at == res) r),
        sum_both (on_one g) (λ r. cond (r.at == res) (g k) 0) s.resources,
        sum_at (g k) res s.resources sound.resources_apart there,
      )

-- ---- what changes

module _ (g : StoredLock → ℕ) (s : Records) (sound : IsSound s) where
  -- a lock moves to a queue, with another row
  pub moved_weighs : (at : ℕ) (was now : LockState) (res : ℕ) (to : Queue) → Stores s at was → HasResource res s
      → all g (with_lists (moving (Queued res to) (record { at = at; row = now })) s) + g
      (record { at = at; row = was }) ≡ all g s + g (record { at = at; row = now })
  moved_weighs at was now res to stored there =
      omega (arith, all_moving g (record { at = at; row = now }) res to s sound there, all_leaving g at s, stored_weighs g at s sound was stored)

  -- a lock goes
  pub gone_weighs : (at : ℕ) (was : LockState) → Stores s at was → all g (with_lists (leaving at) s) + g (record { at = at; row = was }) ≡ all g s
  gone_weighs at was stored = omega (arith, all_leaving g at s, stored_weighs g at s sound was stored)

  -- resources that keep their locks
  pub kept_weighs : (change : StoredResource → StoredResource) (res : ℕ) → ((r : StoredResource) → on_one g (change r) ≡ on_one g r)
      → sum_by (on_one g) (on_resource res change s.resources) ≡ sum_by (on_one g) s.resources
  kept_weighs change res keeps =
      sum_mapped (on_one g) (on_one g) (λ r. cond (r.at == res) (change r) r) s.resources
      (λ r _. cond_both (r.at == res) (change r) r (λ x. on_one g x ≡ on_one g r) (λ _. keeps r) (λ _. refl))

  -- a resource without locks goes
  pub dropped_weighs : (res : ℕ) → IsIdle res s → sum_by (on_one g) (without_resource res s.resources) ≡ sum_by (on_one g) s.resources
  dropped_weighs res idle = each s.resources (λ r among. among)
    where
      nothing : (r : StoredResource) → IsIn r s.resources → r.at ≡ res → on_one g r ≡ 0
      nothing r among same =
          let empty : (queue : Queue) → queued queue r ≡ [] =
          λ queue. sym (queue_at s sound r among queue) ∙ ap (λ (x : ℕ). locks_at (Queued x queue) s) same ∙ idle queue in
          rw (empty Granted, empty Conversion, empty Waiting) refl

      each : (rs : List StoredResource) → ((r : StoredResource) → IsIn r rs → IsIn r s.resources)
          → sum_by (on_one g) (without_resource res rs) ≡ sum_by (on_one g) rs
      each [] there = refl
      each (r ∷ rs) there =
          let behind = each rs (λ x later. there x (inr later)) in
          elim (cases_eq r.at res) [
            | inl same ↦ rw (eq-eqb r.at res same) (omega (arith, sum_by-cons (on_one g) r rs, nothing r (there r (inl refl)) same, behind))
            | inr differs ↦ rw (ne_eqb r.at res differs)
                (omega (arith, sum_by-cons (on_one g) r rs, sum_by-cons (on_one g) r (without_resource res rs), behind))
          ]

-- ---- a lock is disarmed

module _ (g : StoredLock → ℕ) (at : ℕ) where
  -- its list
  list_disarmed : (locks : List StoredLock) → sum_by g (map (λ (k : StoredLock). cond (k.at == at) (disarmed k) k) locks) + sum_by (only at g) locks
      ≡ sum_by g locks + sum_by (only at (λ k. g (disarmed k))) locks
  list_disarmed [] = refl
  list_disarmed (k ∷ rest) =
      omega (
        arith,
        list_disarmed rest,
        of_test (k.at == at),
        sum_by-cons g (cond (k.at == at) (disarmed k) k) (map (λ (x : StoredLock). cond (x.at == at) (disarmed x) x) rest),
        sum_by-cons (only at g) k rest,
        sum_by-cons g k rest,
        sum_by-cons (only at (λ x. g (disarmed x))) k rest,
      )
    where
      of_test : (b : Bool) → g (cond b (disarmed k) k) + cond b (g k) 0 ≡ g k + cond b (g (disarmed k)) 0
      of_test true = omega arith
      of_test false = omega arith

  one_disarmed : (r : StoredResource) → on_one g (resource_with (disarming at) r) + on_one (only at g) r ≡ on_one g r + on_one (only at (λ k. g (disarmed k))) r
  one_disarmed r = omega (arith, list_disarmed r.granted, list_disarmed r.converting, list_disarmed r.waiting)

  resources_disarmed : (rs : List StoredResource) → sum_by (on_one g) (map (resource_with (disarming at)) rs) + sum_by (on_one (only at g)) rs
      ≡ sum_by (on_one g) rs + sum_by (on_one (only at (λ k. g (disarmed k)))) rs
  resources_disarmed [] = refl
  resources_disarmed (r ∷ rs) =
      omega (
        arith,
        sum_by-cons (on_one g) (resource_with (disarming at) r) (map (resource_with (disarming at)) rs),
        sum_by-cons (on_one (only at g)) r rs,
        sum_by-cons (on_one g) r rs,
        sum_by-cons (on_one (only at (λ k. g (disarmed k)))) r rs,
        one_disarmed r,
        resources_disarmed rs,
      )

  -- all weigh as with its disarmed row
  pub disarmed_weighs : (s : Records) → IsSound s → (row : LockState) → Stores s at row
      → all g (with_lists (disarming at) s) + g (record { at = at; row = row }) ≡ all g s + g (record { at = at; row = record row { armed = false } })
  disarmed_weighs s sound row stored =
      omega (arith, resources_disarmed s.resources, stored_weighs g at s sound row stored, stored_weighs (λ k. g (disarmed k)) at s sound row stored)
