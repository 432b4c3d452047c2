-- How the counts of a resource follow the locks in its queues.
use Rattle.std.proofs.Common.{◌≡◌, ◌≢◌, ℕ, ◌+◌, ◌<◌, ◌≤◌, List, [], ◌∷◌, ◌++◌, Bool, true, false, cond, Option, None}
use Rattle.std.proofs.Common.{Some, IsSome, refl, sym, ap, ◌∙◌, subst, inl, inr, arith, add-zero, length-append, eq-eqb}
use Rattle.std.proofs.Common.{ne_eqb}
use Rattle.std.specs.Prelude.{◌==◌, if◌then◌else◌}
use Rattle.std.proofs.lemmas.Bool.{cases_eq}
use Rattle.std.proofs.lemmas.Option.{none-some, same_Some}
use Rattle.slab.specs.Slab.{Slab, get, ContainsKey, Updates, with_value}
use Rattle.slab.proofs.SlabLemmas.{Updates-with_value}
use Rattle.vlm_collections.specs.declared.link.TheConstants.{LAST_HANDLE}
use Rattle.vlm_collections.specs.Lists.{IsIn, IsApart, IsLinked, handles_of, next_in, prev_in, without}
use Rattle.vlm_collections.proofs.Keeping.{updated-handles, vacant_unlisted}
use Rattle.vlm_collections.proofs.HandleLists.{IsIn-without, IsApart-without, IsApart-push, length-below, without_head, without_past, without_absent}
use Rattle.vlm_words.specs.declared.locks.LockState.{LockState}
use Rattle.vlm_words.specs.declared.modes.Mode.{Mode}
use Rattle.vlm_words.specs.declared.resources.Queue.{Queue}
use Rattle.vlm_words.specs.declared.resources.Queue.TheVariants.{Granted, Conversion, Waiting}
use Rattle.vlm_records.specs.declared.handles.Place.{Place}
use Rattle.vlm_records.specs.declared.handles.Place.TheVariants.{Queued}
use Rattle.vlm_records.specs.declared.locks.Lock.{Lock}
use Rattle.vlm_records.specs.declared.queues.Queues.{Queues}
use Rattle.vlm_records.specs.declared.resources.Resource.{Resource}
use Rattle.vlm_records.specs.declared.tallies.Tally.{Tally}
use Rattle.vlm_records.specs.Armed.{IsLaidOut}
use Rattle.vlm_records.specs.Kept.{Recounts}
use Rattle.vlm_records.specs.Shown.{IsPlaced, IsTallied, SameBut, but_lists, handles_at, handles_but, list_at, noted}
use Rattle.vlm_records.specs.Shown.{noted_in, own_share, queue_links, row_in, rows, share_of, shares, tally_in}
use Rattle.vlm_records.specs.Tallies.{Count, counted_request, has_mode, how_many, is_mode, one_if, total, weight_of}
use Rattle.vlm_records.proofs.Totals.{total-length}
use Rattle.vlm_records.proofs.Families.{family-grown, family-shrunk}
use Rattle.vlm_records.proofs.PlacesOnLists.{lists_same, noted_as, noted_is, one_place, place_cases, tally_but_lists}

pub total-without : (weight : LockState → ℕ) (rows : ℕ → LockState) (ks : List ℕ) (at : ℕ) → IsApart ks → IsIn at ks
    → total weight rows (without at ks) + weight (rows at) ≡ total weight rows ks
total-without weight rows [] at apart found = absurd found
total-without weight rows (k ∷ ks) at apart found =
    elim (cases_eq k at) [
      | inl same ↦
          let gone = without_head at k ks same ∙ without_absent at ks (λ there. apart.0 (subst (λ x. IsIn x ks) (sym same) there)) in
          rw gone (omega (arith, ap (λ x. weight (rows x)) same))
      | inr differs ↦
          let there : IsIn at ks = elim found [ inl here ↦ absurd (differs here) | inr later ↦ later ] in
          rw (without_past at k ks differs) (omega (arith, total-without weight rows ks at apart.1 there))
    ]

-- rows that stay weigh the same
pub total-kept : (weight : LockState → ℕ) (rows rows' : ℕ → LockState) (ks : List ℕ)
    → ((at : ℕ) → IsIn at ks → rows' at ≡ rows at) → total weight rows' ks ≡ total weight rows ks
total-kept weight rows rows' [] same = refl
total-kept weight rows rows' (k ∷ ks) same =
    rw (same k (inl refl)) (ap (λ n. weight (rows k) + n) (total-kept weight rows rows' ks (λ at found. same at (inr found))))

-- two lists that are apart from each other
pub IsIn-append : (k : ℕ) (xs ys : List ℕ) (P : Type 0) → (IsIn k xs → P) → (IsIn k ys → P) → IsIn k (xs ++ ys) → P
IsIn-append k [] ys P first second found = second found
IsIn-append k (x ∷ xs) ys P first second found =
    elim found [ inl here ↦ first (inl here) | inr there ↦ IsIn-append k xs ys P (λ h. first (inr h)) second there ]

pub IsApart-append : (xs ys : List ℕ) → IsApart xs → IsApart ys → ((k : ℕ) → IsIn k xs → ¬ IsIn k ys) → IsApart (xs ++ ys)
IsApart-append [] ys apart apart' other = apart'
IsApart-append (x ∷ xs) ys apart apart' other = (
  λ found. IsIn-append x xs ys ⊥ apart.0 (other x (inl refl)) found,
  IsApart-append xs ys apart.1 apart' (λ k h. other k (inr h)),
)

module _ (q : Queues) (weight : Queue → LockState → ℕ) (at : ℕ) (place : Place) (placed : IsPlaced q None) (is : noted q at ≡ Some place) (res : ℕ) where
  stood : IsIn at (handles_at q place)
  stood = placed.stands place at (λ same. none-some at (sym same)) is

  -- the locks of a queue are those without the lock, and the lock if it stands there
  stays : (queue : Queue) → place ≢ Queued res queue
      → total (weight queue) (rows q) (handles_at q (Queued res queue)) ≡ total (weight queue) (rows q)
      (without at (handles_at q (Queued res queue)))
  stays queue differs =
      ap (total (weight queue) (rows q)) (sym (without_absent at _ (λ found. differs (one_place q None placed at place (Queued res queue) stood found))))

  leaves : (queue : Queue) → place ≡ Queued res queue
      → total (weight queue) (rows q) (handles_at q (Queued res queue)) ≡ total (weight queue) (rows q)
      (without at (handles_at q (Queued res queue))) + weight queue (rows q at)
  leaves queue same =
      sym (total-without (weight queue) (rows q) (handles_at q (Queued res queue)) at
      (placed.linked (Queued res queue)).apart (subst (λ p. IsIn at (handles_at q p)) same stood))

-- the shares of a resource are those of the other locks, and that of the lock
pub shares-out : (q : Queues) (weight : Queue → LockState → ℕ) (at : ℕ) (place : Place) → IsPlaced q None → noted q at ≡ Some place → (res : ℕ)
    → shares q weight None res ≡ shares q weight (Some at) res + share_of weight place res (rows q at)
shares-out q weight at (Queued r queue) placed is res =
    elim (cases_eq r res) [
      | inl same ↦ rw (eq-eqb r res same) (by_queue queue is (ap (λ x. Queued x queue) same))
      | inr differs ↦
          rw (ne_eqb r res differs)
          (omega (
            arith,
            stays q weight at (Queued r queue) placed is res Granted (λ e. differs (cc)),
            stays q weight at (Queued r queue) placed is res Conversion (λ e. differs (cc)),
            stays q weight at (Queued r queue) placed is res Waiting (λ e. differs (cc)),
          ))
    ]
  where
    by_queue : (queue : Queue) → noted q at ≡ Some (Queued r queue) → Queued r queue ≡ Queued res queue
        → shares q weight None res ≡ shares q weight (Some at) res + weight queue (rows q at)
    by_queue Granted is same =
        omega (
          arith,
          leaves q weight at (Queued r Granted) placed is res Granted same,
          stays q weight at (Queued r Granted) placed is res Conversion (λ e. cc),
          stays q weight at (Queued r Granted) placed is res Waiting (λ e. cc),
        )
    by_queue Conversion is same =
        omega (
          arith,
          leaves q weight at (Queued r Conversion) placed is res Conversion same,
          stays q weight at (Queued r Conversion) placed is res Granted (λ e. cc),
          stays q weight at (Queued r Conversion) placed is res Waiting (λ e. cc),
        )
    by_queue Waiting is same =
        omega (
          arith,
          leaves q weight at (Queued r Waiting) placed is res Waiting same,
          stays q weight at (Queued r Waiting) placed is res Granted (λ e. cc),
          stays q weight at (Queued r Waiting) placed is res Conversion (λ e. cc),
        )

-- the other locks of a resource are fewer than a number of four bytes tells
pub shares-room : (q : Queues) (weight : Queue → LockState → ℕ)
    → ((queue : Queue) (row : LockState) → weight queue row ≤ 1) → (at : ℕ) (place : Place) → IsPlaced q None
    → noted q at ≡ Some place
    → (res : ℕ) → shares q weight (Some at) res + 1 ≤ LAST_HANDLE + 1
shares-room q weight one at place placed is res =
    let left : Queue → List ℕ = λ queue. without at (handles_at q (Queued res queue)) in
    let apart : (queue : Queue) → IsApart (left queue) = λ queue. IsApart-without at _ (placed.linked (Queued res queue)).apart in
    let was : (queue : Queue) (k : ℕ) → IsIn k (left queue) → IsIn k (handles_at q (Queued res queue)) = λ queue k found. (IsIn-without at k _ found).0 in
    let differ : (a b : Queue) → Queued res a ≢ Queued res b → (k : ℕ) → IsIn k (left a) → ¬ IsIn k (left b) =
    λ a b differs k here there. differs (one_place q None placed k (Queued res a) (Queued res b) (was a k here) (was b k there)) in
    let later = left Conversion ++ left Waiting in
    let all = left Granted ++ later in
    let later_apart : IsApart later = IsApart-append (left Conversion) (left Waiting) (apart Conversion) (apart Waiting)
    (differ Conversion Waiting (λ e. cc)) in
    let all_apart : IsApart all =
    IsApart-append (left Granted) later (apart Granted) later_apart
    (λ k here there. IsIn-append k (left Conversion) (left Waiting) ⊥ (differ Granted Conversion (λ e. cc) k here)
    (differ Granted Waiting (λ e. cc) k here) there) in
    let absent : ¬ IsIn at all =
    λ found. IsIn-append at (left Granted) later ⊥ (λ h. (IsIn-without at at _ h).1 refl)
    (λ h. IsIn-append at (left Conversion) (left Waiting) ⊥ (λ h'. (IsIn-without at at _ h').1 refl) (λ h'. (IsIn-without at at _ h').1 refl) h) found in
    let low : (queue : Queue) (k : ℕ) → IsIn k (left queue)
    → k < LAST_HANDLE + 1 = λ queue k found. let le =
    (placed.linked (Queued res queue)).within k (was queue k found) in omega arith in
    let stood' : IsIn at (handles_at q place) = placed.stands place at (λ same. none-some at (sym same)) is in
    let low_at : at < LAST_HANDLE + 1 = let le = (placed.linked place).within at stood' in omega arith in
    let low_all : (k : ℕ) → IsIn k (all ++ at ∷ []) → k < LAST_HANDLE + 1 =
    λ k found. IsIn-append k all (at ∷ []) (k < LAST_HANDLE + 1)
    (λ h. IsIn-append k (left Granted) later (k < LAST_HANDLE + 1) (low Granted k)
    (λ h'. IsIn-append k (left Conversion) (left Waiting) (k < LAST_HANDLE + 1) (low Conversion k)
    (low Waiting k) h') h)
    (λ h. elim h [ inl here ↦ subst (λ x. x < LAST_HANDLE + 1) here low_at | inr nowhere ↦ absurd nowhere ]) found in
    omega (
      arith,
      length-below (LAST_HANDLE + 1) (all ++ at ∷ []) (IsApart-push at all all_apart absent) low_all,
      length-append all (at ∷ []),
      length-append (left Granted) later,
      length-append (left Conversion) (left Waiting),
      total-length (weight Granted) (rows q) (one Granted) (left Granted),
      total-length (weight Conversion) (rows q) (one Conversion) (left Conversion),
      total-length (weight Waiting) (rows q) (one Waiting) (left Waiting),
    )

-- the count of one resource is written
module _ (count : Tally → ℕ) (s : Slab Resource) (res : ℕ) (was now : Resource) (weight : ℕ) (there : ContainsKey s res) (here : get s res ≡ Some was) where
  pub tally_less : count now.tally + weight ≡ count was.tally → (r : ℕ)
      → count (tally_in (get (with_value s res now) r)) + (if res == r then weight else 0) ≡ count (tally_in (get s r))
  tally_less less r =
      let updates = Updates-with_value s res now there in
      elim (cases_eq res r) [
        | inl same ↦
            rw (eq-eqb res r same)
            (ap (λ x. count (tally_in x) + weight) (ap (get (with_value s res now)) (sym same) ∙ updates.changed) ∙ less
            ∙ ap (λ x. count (tally_in x)) (sym here ∙ ap (get s) same))
        | inr differs ↦ rw (ne_eqb res r differs) (add-zero _ ∙ ap (λ x. count (tally_in x)) (updates.others r (λ e. differs (sym e))))
      ]

  pub tally_more : count now.tally ≡ count was.tally + weight → (r : ℕ)
      → count (tally_in (get (with_value s res now) r)) ≡ count (tally_in (get s r)) + (if res == r then weight else 0)
  tally_more more r =
      let updates = Updates-with_value s res now there in
      elim (cases_eq res r) [
        | inl same ↦
            rw (eq-eqb res r same)
            (ap (λ x. count (tally_in x)) (ap (get (with_value s res now)) (sym same) ∙ updates.changed) ∙ more
            ∙ ap (λ x. count (tally_in x) + weight) (sym here ∙ ap (get s) same))
        | inr differs ↦ rw (ne_eqb res r differs) (ap (λ x. count (tally_in x)) (updates.others r (λ e. differs (sym e))) ∙ sym (add-zero _))
      ]

-- shares stay where the handles do, and the rows of all locks but the one that is out
pub shares_same : (q q' : Queues) (weight : Queue → LockState → ℕ) (out : Option ℕ) (res : ℕ)
    → ((p : Place) → handles_at q' p ≡ handles_at q p) → ((k : ℕ) → Some k ≢ out → rows q' k ≡ rows q k)
    → shares q' weight out res ≡ shares q weight out res
shares_same q q' weight out res handles same = omega (arith, part Granted, part Conversion, part Waiting)
  where
    part_of : (out : Option ℕ) (queue : Queue) → ((k : ℕ) → Some k ≢ out → rows q' k ≡ rows q k)
        → total (weight queue) (rows q') (handles_but q' out (Queued res queue)) ≡ total (weight queue) (rows q) (handles_but q out (Queued res queue))
    part_of None queue same =
        ap (total (weight queue) (rows q')) (handles (Queued res queue))
        ∙ total-kept (weight queue) (rows q) (rows q') (handles_at q (Queued res queue)) (λ k _. same k (λ e. none-some k (sym e)))
    part_of (Some o) queue same =
        ap (λ ks. total (weight queue) (rows q') (without o ks)) (handles (Queued res queue))
        ∙ total-kept (weight queue) (rows q) (rows q') (without o (handles_at q (Queued res queue)))
        (λ k found. same k (λ e. (IsIn-without o k _ found).1 (same_Some k o e)))

    part : (queue : Queue)
        → total (weight queue) (rows q') (handles_but q' out (Queued res queue)) ≡ total (weight queue) (rows q)
        (handles_but q out (Queued res queue))
    part queue = part_of out queue same

-- a lock in a queue is counted out, or in
module _ (q q' : Queues) (at res : ℕ) (queue : Queue) (l : Lock) (placed : IsPlaced q None)
    (in_queue : IsSome (noted q at)) (here : get q.locks at ≡ Some l) (is : l.place ≡ Queued res queue)
    (lists : (p : Place) → list_at q' p ≡ list_at q p) (locks : q'.locks ≡ q.locks) (weight : Queue → LockState → ℕ) where
  notes : noted q at ≡ Some (Queued res queue)
  notes = noted_as (get q.locks at) l here in_queue ∙ ap Some is

  handles_same : (p : Place) → handles_at q' p ≡ handles_at q p
  handles_same p = ap (handles_of queue_links q'.locks) (lists p) ∙ ap (λ s. handles_of queue_links s (list_at q p)) locks

  rows_same : (k : ℕ) → rows q' k ≡ rows q k
  rows_same k = ap (λ s. row_in (get s k)) locks

  pub weighs : (r : ℕ) → shares q weight None r ≡ shares q weight (Some at) r + (if res == r then weight queue l.row else 0)
  weighs r =
      shares-out q weight at (Queued res queue) placed notes r
      ∙ ap (λ row. shares q weight (Some at) r + (if res == r then weight queue row else 0)) (ap row_in here)

  pub weighs_here : shares q weight None res ≡ shares q weight (Some at) res + weight queue l.row
  weighs_here = weighs res ∙ ap (λ b. shares q weight (Some at) res + (if b then weight queue l.row else 0)) (eq-eqb res res refl)

  module _ (count count' : ℕ → ℕ) where
    pub counted_out : ((r : ℕ) → count' r + (if res == r then weight queue l.row else 0) ≡ count r)
        → ((r : ℕ) → count r ≡ shares q weight None r) → (r : ℕ) → count' r ≡ shares q' weight (Some at) r
    counted_out less tallied r = omega (arith, less r, tallied r, weighs r, shares_same q q' weight (Some at) r handles_same (λ k _. rows_same k))

    pub counted_in : ((r : ℕ) → count' r ≡ count r + (if res == r then weight queue l.row else 0))
        → ((r : ℕ) → count r ≡ shares q weight (Some at) r) → (r : ℕ) → count' r ≡ shares q' weight None r
    counted_in more tallied r = omega (arith, more r, tallied r, weighs r, shares_same q q' weight None r handles_same (λ k _. rows_same k))

-- a lock weighs one at most
one_if-le : (b : Bool) → one_if b ≤ 1
one_if-le true = omega arith
one_if-le false = omega arith

pub weight_of-le : (count : Count) (mode : Mode) (queue : Queue) (row : LockState) → weight_of count mode queue row ≤ 1
weight_of-le count mode queue row = one_if-le (is_mode mode (counted_request count queue row))

-- a count that grew by a lock's mode grew by what the lock weighs
pub more_by : (count : Count) (mode : Mode) (was now : Tally) (counted request : Option Mode) → counted ≡ request
    → how_many count now mode ≡ how_many count was mode + one_if (has_mode mode counted)
    → how_many count now mode ≡ how_many count was mode + one_if (has_mode mode request)
more_by count mode was now counted request same more = more ∙ ap (λ m. how_many count was mode + one_if (has_mode mode m)) same

-- a count that shrank by a lock's mode shrank by what the lock weighs
pub less_by : (count : Count) (mode : Mode) (was now : Tally) (counted request : Option Mode) → counted ≡ request
    → how_many count now mode + one_if (has_mode mode counted) ≡ how_many count was mode
    → how_many count now mode + one_if (has_mode mode request) ≡ how_many count was mode
less_by count mode was now counted request same less = ap (λ m. how_many count now mode + one_if (has_mode mode m)) (sym same) ∙ less

pub without-twice : (at : ℕ) (ks : List ℕ) → without at (without at ks) ≡ without at ks
without-twice at ks = without_absent at (without at ks) (λ found. (IsIn-without at at ks found).1 refl)

without-push : (at : ℕ) (ks : List ℕ) → ¬ IsIn at ks → without at (ks ++ at ∷ []) ≡ without at ks
without-push at [] absent = without_head at at [] refl
without-push at (k ∷ ks) absent =
    without_past at k (ks ++ at ∷ []) (λ e. absent (inl e))
    ∙ ap (λ rest. k ∷ rest) (without-push at ks (λ h. absent (inr h)))
    ∙ sym (without_past at k ks (λ e. absent (inl e)))

-- the counts of all but one lock stay as that lock moves
module _ (q q' : Queues) (at : ℕ) (tallies : (r : ℕ) → tally_in (get q'.resources r) ≡ tally_in (get q.resources r))
    (handles : (p : Place) → without at (handles_at q' p) ≡ without at (handles_at q p)) (same : (k : ℕ) → k ≢ at → rows q' k ≡ rows q k) where
  part_moved : (weight : Queue → LockState → ℕ) (r : ℕ) (queue : Queue)
      → total (weight queue) (rows q') (without at (handles_at q' (Queued r queue))) ≡ total (weight queue) (rows q)
      (without at (handles_at q (Queued r queue)))
  part_moved weight r queue =
      ap (total (weight queue) (rows q')) (handles (Queued r queue))
      ∙ total-kept (weight queue) (rows q) (rows q') (without at (handles_at q (Queued r queue))) (λ k found. same k (IsIn-without at k _ found).1)

  shares_moved : (weight : Queue → LockState → ℕ) (r : ℕ) → shares q' weight (Some at) r ≡ shares q weight (Some at) r
  shares_moved weight r = omega (arith, part_moved weight r Granted, part_moved weight r Conversion, part_moved weight r Waiting)

  pub tallied_moved : IsTallied q (Some at) → IsTallied q' (Some at)
  tallied_moved tallied = record {
    counts = λ count r mode. ap (λ t. how_many count t mode) (tallies r) ∙ tallied.counts count r mode ∙ sym (shares_moved (weight_of count mode) r);
  }

pub tallied_taken : (q q' : Queues) (at : ℕ) → ((p : Place) → handles_at q' p ≡ without at (handles_at q p))
    → ((k : ℕ) → rows q' k ≡ rows q k) → SameBut but_lists q.resources q'.resources
    → IsTallied q (Some at) → IsTallied q' (Some at)
tallied_taken q q' at handles same rest =
    tallied_moved q q' at (tally_but_lists q.resources q'.resources rest) (λ p. ap (without at) (handles p) ∙ without-twice at (handles_at q p)) (λ k _. same k)

pub tallied_put : (q q' : Queues) (at : ℕ) (place : Place) → IsPlaced q (Some at)
    → handles_at q' place ≡ handles_at q place ++ at ∷ [] → ((p : Place) → p ≢ place → handles_at q' p ≡ handles_at q p)
    → ((k : ℕ) → rows q' k ≡ rows q k) → SameBut but_lists q.resources q'.resources → IsTallied q (Some at) → IsTallied q' (Some at)
tallied_put q q' at place placed here elsewhere same rest =
    tallied_moved q q' at (tally_but_lists q.resources q'.resources rest)
    (λ p. elim (place_cases p place) [
      | inl is ↦ ap (λ x. without at (handles_at q' x)) is ∙ ap (without at) here
          ∙ without-push at (handles_at q place) (placed.gone place at refl)
          ∙ ap (λ x. without at (handles_at q x)) (sym is)
      | inr differs ↦ ap (without at) (elsewhere p differs)
    ])
    (λ k _. same k)

-- a record is added, or removed, that stands in no list
module _ (q q' : Queues) (at : ℕ) (slot : Option Lock) (updates : Updates q.locks q'.locks at slot)
    (linked : (p : Place) → IsLinked queue_links q.locks (list_at q p))
    (unlisted : (p : Place) → ¬ IsIn at (handles_at q p)) (lists : (p : Place) → list_at q' p ≡ list_at q p) where
  pub updated_handles : (p : Place) → handles_at q' p ≡ handles_at q p
  updated_handles p =
      ap (handles_of queue_links q'.locks) (lists p) ∙ updated-handles queue_links q.locks q'.locks at slot updates (list_at q p) (linked p) (unlisted p)

  other_handle : (p : Place) (k : ℕ) → IsIn k (handles_at q p) → k ≢ at
  other_handle p k found same = unlisted p (subst (λ x. IsIn x (handles_at q p)) same found)

  -- any part of the other records is what it was
  part_kept : {Part : Type 0} (part : Option Lock → Part) (k : ℕ) → k ≢ at → part (get q'.locks k) ≡ part (get q.locks k)
  part_kept part k differs = ap part (updates.others k differs)

  still_there : (k : ℕ) → k ≢ at → ContainsKey q.locks k → ContainsKey q'.locks k
  still_there k differs there = rw (updates.others k differs) there

  -- the record is new
  pub added_placed : IsPlaced q None → IsPlaced q' (Some at)
  added_placed placed =
      family-grown queue_links noted_in q.locks (list_at q) None placed q'.locks (list_at q') lists at unlisted
      (part_kept (next_in queue_links)) (part_kept (prev_in queue_links)) still_there (part_kept noted_in) refl

  -- the record is gone, or notes no place
  pub removed_placed : noted_in slot ≡ None → IsPlaced q (Some at) → IsPlaced q' None
  removed_placed nothing placed =
      family-shrunk queue_links noted_in q.locks (list_at q) (Some at) placed q'.locks (list_at q') lists at unlisted
      (part_kept (next_in queue_links)) (part_kept (prev_in queue_links)) still_there (part_kept noted_in)
      (λ p is. none-some p (sym (ap noted_in updates.changed ∙ nothing) ∙ is)) refl

  module _ (resources : q'.resources ≡ q.resources) where
    part_updated : (weight : Queue → LockState → ℕ) (r : ℕ) (queue : Queue)
        → total (weight queue) (rows q') (handles_at q' (Queued r queue)) ≡ total (weight queue) (rows q) (handles_at q (Queued r queue))
    part_updated weight r queue =
        ap (total (weight queue) (rows q')) (updated_handles (Queued r queue))
        ∙ total-kept (weight queue) (rows q) (rows q') (handles_at q (Queued r queue))
        (λ k found. ap row_in (updates.others k (other_handle (Queued r queue) k found)))

    all_or_but : (weight : Queue → LockState → ℕ) (r : ℕ) → shares q weight (Some at) r ≡ shares q weight None r
    all_or_but weight r =
        omega (
          arith,
          ap (total (weight Granted) (rows q)) (without_absent at (handles_at q (Queued r Granted)) (unlisted (Queued r Granted))),
          ap (total (weight Conversion) (rows q)) (without_absent at (handles_at q (Queued r Conversion)) (unlisted (Queued r Conversion))),
          ap (total (weight Waiting) (rows q)) (without_absent at (handles_at q (Queued r Waiting)) (unlisted (Queued r Waiting))),
        )

    shares_updated : (weight : Queue → LockState → ℕ) (r : ℕ) → shares q' weight None r ≡ shares q weight None r
    shares_updated weight r = omega (arith, part_updated weight r Granted, part_updated weight r Conversion, part_updated weight r Waiting)

    pub removed_tallied : IsTallied q (Some at) → IsTallied q' None
    removed_tallied tallied = record {
      counts = λ count r mode. ap (λ s. how_many count (tally_in (get s r)) mode) resources
          ∙ tallied.counts count r mode ∙ all_or_but (weight_of count mode) r
          ∙ sym (shares_updated (weight_of count mode) r);
    }

    all_or_but' : (weight : Queue → LockState → ℕ) (r : ℕ) → shares q' weight (Some at) r ≡ shares q' weight None r
    all_or_but' weight r =
        let unlisted' : (p : Place) → ¬ IsIn at (handles_at q' p) = λ p found. unlisted p (subst (IsIn at) (updated_handles p) found) in
        omega (
          arith,
          ap (total (weight Granted) (rows q')) (without_absent at (handles_at q' (Queued r Granted)) (unlisted' (Queued r Granted))),
          ap (total (weight Conversion) (rows q')) (without_absent at (handles_at q' (Queued r Conversion)) (unlisted' (Queued r Conversion))),
          ap (total (weight Waiting) (rows q')) (without_absent at (handles_at q' (Queued r Waiting)) (unlisted' (Queued r Waiting))),
        )

    pub added_tallied : IsTallied q None → IsTallied q' (Some at)
    added_tallied tallied = record {
      counts = λ count r mode. ap (λ s. how_many count (tally_in (get s r)) mode) resources
          ∙ tallied.counts count r mode
          ∙ sym (all_or_but' (weight_of count mode) r ∙ shares_updated (weight_of count mode) r);
    }

-- the shares of a resource are those of the other locks, and that of one that is there
pub own_weighs : (q : Queues) (weight : Queue → LockState → ℕ) (own : ℕ) (l : Lock) → IsPlaced q None → get q.locks own ≡ Some l → (res : ℕ)
    → shares q weight None res ≡ shares q weight (Some own) res + own_share weight res l
own_weighs q weight own l placed here res = by_flag l.loose refl
  where
    by_flag : (loose : Bool) → l.loose ≡ loose → shares q weight None res ≡ shares q weight (Some own) res + cond loose 0 (share_of weight l.place res l.row)
    by_flag true is =
        let none : noted q own ≡ None = ap noted_in here ∙ ap (λ b. cond b None (Some l.place)) is in
        let unlisted : (p : Place) → ¬ IsIn own (handles_at q p) = λ p found. none-some p (sym none ∙ placed.listed p own found) in
        omega (
          arith,
          ap (total (weight Granted) (rows q)) (without_absent own (handles_at q (Queued res Granted)) (unlisted (Queued res Granted))),
          ap (total (weight Conversion) (rows q)) (without_absent own (handles_at q (Queued res Conversion)) (unlisted (Queued res Conversion))),
          ap (total (weight Waiting) (rows q)) (without_absent own (handles_at q (Queued res Waiting)) (unlisted (Queued res Waiting))),
        )
    by_flag false is =
        shares-out q weight own l.place placed (ap noted_in here ∙ ap (λ b. cond b None (Some l.place)) is) res
        ∙ ap (λ row. shares q weight (Some own) res + share_of weight l.place res row) (ap row_in here)

-- the count of one resource changes
tally_changed : (count : Tally → ℕ) (s : Slab Resource) (res : ℕ) (was now : Resource) (less more : ℕ)
    → ContainsKey s res → get s res ≡ Some was → count now.tally + less ≡ count was.tally + more → (r : ℕ)
    → count (tally_in (get (with_value s res now) r)) + (if res == r then less else 0) ≡ count (tally_in (get s r)) + (if res == r then more else 0)
tally_changed count s res was now less more there here change r =
    let updates = Updates-with_value s res now there in
    elim (cases_eq res r) [
      | inl same ↦
          rw (eq-eqb res r same)
          (ap (λ x. count (tally_in x) + less) (ap (get (with_value s res now)) (sym same) ∙ updates.changed) ∙ change
          ∙ ap (λ x. count (tally_in x) + more) (sym here ∙ ap (get s) same))
      | inr differs ↦ rw (ne_eqb res r differs) (ap (λ x. count (tally_in x) + 0) (updates.others r (λ e. differs (sym e))))
    ]

-- a lock is counted out, and in with another row
module _ (q : Queues) (at res : ℕ) (queue : Queue) (l : Lock) (was : Resource) (mid new : Tally) (now : LockState)
    (here : get q.locks at ≡ Some l) (is : l.place ≡ Queued res queue) (held : get q.resources res ≡ Some was)
    (less : (count : Count) (mode : Mode) → how_many count mid mode + weight_of count mode queue l.row ≡ how_many count was.tally mode)
    (more : (count : Count) (mode : Mode) → how_many count new mode ≡ how_many count mid mode + weight_of count mode queue now) where
  abbrev counted : Slab Resource
  counted = with_value q.resources res (record was { tally = new })

  pub recounts : (place : Place) → noted q at ≡ Some place → Recounts place (rows q at) now q.resources counted
  recounts place notes =
      let there : ContainsKey q.resources res = rw held refl in
      let same : Queued res queue ≡ place = sym is ∙ noted_is (get q.locks at) l place here notes in
      subst (λ p. Recounts p (rows q at) now q.resources counted) same
      (subst (λ row. Recounts (Queued res queue) row now q.resources counted) (sym (ap row_in here))
      (record {
        change = λ count mode r.
            tally_changed (λ t. how_many count t mode) q.resources res was (record was { tally = new })
            (weight_of count mode queue l.row) (weight_of count mode queue now) there held
            (omega (arith, less count mode, more count mode)) r;
      }))

-- a lock has another row where it stands, and is counted with it
module _ (q q' : Queues) (at : ℕ) (now : LockState) (placed : IsPlaced q None) (placed' : IsPlaced q' None) (in_queue : IsSome (noted q at))
    (handles : (p : Place) → handles_at q' p ≡ handles_at q p) (others : (k : ℕ) → k ≢ at
    → rows q' k ≡ rows q k) (here : rows q' at ≡ now) (notes : noted q' at ≡ noted q at) where
  pub recounted : ((place : Place) → noted q at ≡ Some place → Recounts place (rows q at) now q.resources q'.resources) → IsTallied q None → IsTallied q' None
  recounted recounts tallied = by_slot (get q.locks at) refl
    where
      by_slot : (slot : Option Lock) → get q.locks at ≡ slot → IsTallied q' None
      by_slot None is = let no = rw is at in_queue in cc
      by_slot (Some l) is = record {
        counts = λ count r mode.
            let noted_so : noted q at ≡ Some l.place = noted_as (get q.locks at) l is in_queue in
            omega (
              arith,
              (recounts l.place noted_so).change count mode r,
              tallied.counts count r mode,
              shares-out q (weight_of count mode) at l.place placed noted_so r,
              shares-out q' (weight_of count mode) at l.place placed' (notes ∙ noted_so) r,
              ap (λ row. share_of (weight_of count mode) l.place r row) here,
              shares_same q q' (weight_of count mode) (Some at) r handles (λ k differs. others k (λ e. differs (ap Some e))),
            );
      }

-- a record comes into a vacant slot of the locks, and is in no queue yet
module _ {q : Queues} {locks : Slab Lock} {at : ℕ} {slot : Option Lock} (laid_out : IsLaidOut q) (vacant : get q.locks at ≡ None)
    (updates : Updates q.locks locks at slot) where
  -- the queues with the record
  abbrev pub with_record : Queues
  with_record = record q { locks = locks }

  pub inserted_unlisted : (p : Place) → ¬ IsIn at (handles_at q p)
  inserted_unlisted p = vacant_unlisted queue_links q.locks (list_at q p) (laid_out.placed.linked p) at vacant

  pub inserted_handles : (p : Place) → handles_at with_record p ≡ handles_at q p
  inserted_handles =
      updated_handles q with_record at slot updates laid_out.placed.linked inserted_unlisted (lists_same q with_record refl)

  pub inserted_placed : IsPlaced with_record (Some at)
  inserted_placed =
      added_placed q with_record at slot updates laid_out.placed.linked inserted_unlisted
      (lists_same q with_record refl) laid_out.placed

  pub inserted_tallied : IsTallied with_record (Some at)
  inserted_tallied =
      added_tallied q with_record at slot updates laid_out.placed.linked inserted_unlisted
      (lists_same q with_record refl) refl laid_out.tallied
