-- The records stay sound if the resources stay, and of each process all except its status blocks and ASTs.
use Rattle.std.proofs.Common.{◌≡◌, ◌∙◌, ℕ, List, [], ◌∷◌, map, ap, subst, sym, refl, inl, inr}
use Rattle.std.specs.Option.{option_map_or}
use Rattle.vlm_words.specs.declared.locks.LockState.{LockState}
use Rattle.vlm_collections.specs.Lists.{IsIn}
use Rattle.vlm_records.specs.declared.handles.Place.{Place}
use Rattle.vlm_records.specs.declared.handles.Place.TheVariants.{Queued}
use Rattle.vlm_store.specs.Records.{AreApart, AreOwnApart, AreProcessesApart, AreResourcesApart, IsSound, OwnLock}
use Rattle.vlm_store.specs.Records.{Records, SameButNotices, StoredProcess, Stores, but_notices, locks_at, queued}
use Rattle.vlm_store.specs.Records.{resource_at, HasLock, IsLooseRow}

-- processes that are the same but for what tells them of requests
pub same_process_of : (olds news : List StoredProcess) → map but_notices news ≡ map but_notices olds → (x : StoredProcess) → IsIn x olds
    → (q : StoredProcess) × (IsIn q news × (q.at ≡ x.at) × (q.process.pid ≡ x.process.pid) × (q.own ≡ x.own))
same_process_of [] news same x there = absurd there
same_process_of (y ∷ olds) [] same x there = cc
same_process_of (y ∷ olds) (q ∷ news) same x there = elim there [
  | inl here ↦ (
    q,
    (
      inl refl,
      ap (λ (ps : List StoredProcess). first_at ps) same ∙ ap (λ (z : StoredProcess). z.at) here,
      ap (λ (ps : List StoredProcess). first_pid ps) same ∙ ap (λ (z : StoredProcess). z.process.pid) here,
      ap (λ (ps : List StoredProcess). first_own ps) same ∙ ap (λ (z : StoredProcess). z.own) here,
    ),
  )
  | inr later ↦ let found = same_process_of olds news (ap rest_of same) x later in (found.0, (inr found.1.0, found.1.1, found.1.2, found.1.3))
]
  where
    first_at : List StoredProcess → ℕ
    first_at [] = 0
    first_at (z ∷ zs) = z.at

    first_pid : List StoredProcess → ℕ
    first_pid [] = 0
    first_pid (z ∷ zs) = z.process.pid

    first_own : List StoredProcess → List OwnLock
    first_own [] = []
    first_own (z ∷ zs) = z.own

    rest_of : List StoredProcess → List StoredProcess
    rest_of [] = []
    rest_of (z ∷ zs) = zs

-- where the resources stay each lock stands as it did
pub stands_alike : (at : ℕ) (row : LockState) (s t : Records) → t.resources ≡ s.resources → (place : Place)
    → IsIn (record { at = at; row = row }) (locks_at place s) → IsIn (record { at = at; row = row }) (locks_at place t)
stands_alike at row s t resources (Queued res queue) among =
    subst (λ rs. IsIn (record { at = at; row = row }) (option_map_or (queued queue) (resource_at res rs) [])) (sym resources) among

-- processes that differ in their notices alone are apart
notices_apart : (olds news : List StoredProcess) → map but_notices news ≡ map but_notices olds → AreProcessesApart olds → AreProcessesApart news
notices_apart olds [] same apart = tt
notices_apart [] (q ∷ news) same apart = cc
notices_apart (p ∷ olds) (q ∷ news) same apart = (
  λ other among.
      let was = same_process_of news olds (sym (ap rest_of same)) other among in
      let differ = apart.0 was.0 was.1.0 in (
        λ here. differ.0 (was.1.1 ∙ here ∙ ap (λ (ps : List StoredProcess). first_at ps) same),
        λ named. differ.1 (was.1.2 ∙ named ∙ ap (λ (ps : List StoredProcess). first_pid ps) same),
      ),
  notices_apart olds news (ap rest_of same) apart.1,
)
  where
    first_at : List StoredProcess → ℕ
    first_at [] = 0
    first_at (z ∷ zs) = z.at

    first_pid : List StoredProcess → ℕ
    first_pid [] = 0
    first_pid (z ∷ zs) = z.process.pid

    rest_of : List StoredProcess → List StoredProcess
    rest_of [] = []
    rest_of (z ∷ zs) = zs

module _ (s t : Records) (resources : t.resources ≡ s.resources) (processes : map but_notices t.processes ≡ map but_notices s.processes) where
  -- each lock stands where it stood
  stood : (at : ℕ) (row : LockState) (place : Place) → IsIn (record { at = at; row = row }) (locks_at place t)
      → IsIn (record { at = at; row = row }) (locks_at place s)
  stood at row = stands_alike at row t s (sym resources)

  was_stored : (at : ℕ) (row : LockState) → Stores t at row → Stores s at row
  was_stored at row stored = (stored.0, stood at row stored.0 stored.1)

  is_stored : (at : ℕ) (row : LockState) → Stores s at row → Stores t at row
  is_stored at row stored = (stored.0, stands_alike at row s t resources stored.0 stored.1)

  was_loose : (at : ℕ) (row : LockState) → IsLooseRow t at row → IsLooseRow s at row
  was_loose at row loose =
      let q = same_process_of t.processes s.processes (sym processes) loose.0 loose.2.0 in
      (q.0, loose.1, (q.1.0, subst (IsIn loose.1) (sym q.1.3) loose.2.1, loose.2.2, loose.2.3))

  is_loose : (at : ℕ) (row : LockState) → IsLooseRow s at row → IsLooseRow t at row
  is_loose at row loose =
      let q = same_process_of s.processes t.processes processes loose.0 loose.2.0 in
      (q.0, loose.1, (q.1.0, subst (IsIn loose.1) (sym q.1.3) loose.2.1, loose.2.2, loose.2.3))

  was_lock : (at : ℕ) (row : LockState) → HasLock t at row → HasLock s at row
  was_lock at row (inl stored) = inl (was_stored at row stored)
  was_lock at row (inr loose) = inr (was_loose at row loose)

  is_lock : (at : ℕ) (row : LockState) → HasLock s at row → HasLock t at row
  is_lock at row (inl stored) = inl (is_stored at row stored)
  is_lock at row (inr loose) = inr (is_loose at row loose)

  module _ (sound : IsSound s) where
    locks_apart : (place : Place) → AreApart (locks_at place t)
    locks_apart (Queued res queue) = subst (λ rs. AreApart (option_map_or (queued queue) (resource_at res rs) []))
        (sym resources) (sound.locks_apart (Queued res queue))

    pub sound_alike : IsSound t
    sound_alike = record {
      resources_apart = subst AreResourcesApart (sym resources) sound.resources_apart;
      locks_apart = locks_apart;
      one_place = λ at a b p q first second. sound.one_place at a b p q (stood at a p first) (stood at b q second);
      lkids_apart = λ a b x y first second. sound.lkids_apart a b x y (was_lock a x first) (was_lock b y second);
      keys_apart = λ a b first second. sound.keys_apart a b (subst (IsIn a) resources first) (subst (IsIn b) resources second);
      processes_apart = notices_apart s.processes t.processes processes sound.processes_apart;
      owned = record {
        owned = λ at row stored.
            let was = sound.owned.owned at row (was_lock at row stored) in
            let q = same_process_of s.processes t.processes processes was.0 was.2.0 in
            (q.0, was.1, (q.1.0, q.1.2 ∙ was.2.1, subst (IsIn was.1) (sym q.1.3) was.2.2, was.2.3));
        owns = λ p own among its.
            let q = same_process_of t.processes s.processes (sym processes) p among in
            let was = sound.owned.owns q.0 own q.1.0 (subst (IsIn own) (sym q.1.3) its) in
            (was.0, (is_lock own.at was.0 was.1.0, was.1.1 ∙ q.1.2));
        below = λ p own at among its under.
            let q = same_process_of t.processes s.processes (sym processes) p among in
            let was = sound.owned.below q.0 own at q.1.0 (subst (IsIn own) (sym q.1.3) its) under in
            (was.0, was.1, (is_lock own.at was.0 was.2.0, is_lock at was.1 was.2.1, was.2.2));
        named = λ at row stored parent.
            let was = sound.owned.named at row (was_lock at row stored) parent in
            let q = same_process_of s.processes t.processes processes was.0 was.3.0 in
            (q.0, was.1, was.2, (q.1.0, subst (IsIn was.1) (sym q.1.3) was.3.1, was.3.2, is_lock was.1.at was.2 was.3.3, was.3.4));
        queued = λ at row other stored loose. sound.owned.queued at row other (was_stored at row stored) (was_loose at other loose);
      };
      own_apart = λ p among.
          let q = same_process_of t.processes s.processes (sym processes) p among in
          subst AreOwnApart q.1.3 (sound.own_apart q.0 q.1.0);
    }

-- where status blocks and ASTs alone change
pub still_sound : (s t : Records) → SameButNotices s t → IsSound s → IsSound t
still_sound s t same = sound_alike s t same.resources same.processes
