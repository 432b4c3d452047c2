-- The requests of locks that are given up together end, lock by lock.
use Rattle.std.proofs.Common.{◌≡◌, ◌≤◌, ◌<◌, ◌+◌, ℕ, Bool, true, false, List, [], ◌∷◌, ◌++◌, map, flat_map, length}
use Rattle.std.proofs.Common.{get_or, Option, None, Some, refl, sym, ap, ◌∙◌, subst, inl, inr, arith}
use Rattle.std.proofs.lemmas.List.{append_assoc, append-nil, length-append, length-map}
use Rattle.vlm_words.specs.declared.locks.LockState.{LockState}
use Rattle.std.specs.List.{AllByRecursion}
use Rattle.vlm_words.specs.declared.locks.Request.{Request}
use Rattle.vlm_words.specs.declared.resources.ValueBlock.{ValueBlock}
use Rattle.vlm_words.specs.Rows.{rows_of}
use Rattle.vlm_model.specs.Effects.{Blocks, blocks_after, blocks_after_end, blocks_after_ending, blocks_with}
use Rattle.vlm_model.specs.Endings.{Ending, How, row_endings, wanted_endings}
use Rattle.vlm_model.proofs.Each.{each_append}
use Rattle.vlm_model.specs.Endings.How.{by_abort}
use Rattle.vlm_words.specs.State.{Process, Resource}
use Rattle.vlm_words.specs.ValueBlocks.{new_value_block}
use Rattle.vlm_model.specs.Withdrawals.{Withdrawal, processes_after, queue_endings, withdrawal_endings, withdrawn_endings}
use Rattle.vlm_collections.specs.Lists.{IsIn}
use Rattle.vlm_store.specs.Plain.{plain_processes, plain_resource, plain_resources}
use Rattle.vlm_store.specs.Records.{IsProcess, IsSound, IsStored, Records, SameButNotices, Stores, own_handles_at}
use Rattle.vlm_locks.specs.declared.touched.Note.{Note}
use Rattle.vlm_locks.specs.GivingUp.{AreOfLocks, HaveEnded, IsPaidBut, RequestsHaveEnded, Rise, noted_lkids}
use Rattle.vlm_locks.specs.Left.{giving_up, is_among}
use Rattle.vlm_locks.specs.Owing.{IsPaid, OwedMoves, row_at_end}
use Rattle.vlm_locks.specs.Rest.{IsAtRest}
use Rattle.vlm_locks.specs.Rising.{handles_of_own}
use Rattle.vlm_locks.proofs.ChosenLocks.{above, among_in}
use Rattle.vlm_locks.proofs.ChangedResource.{rests_still}
use Rattle.vlm_locks.proofs.Granting.{blocks_after_append}
use Rattle.vlm_locks.proofs.ReservedAsts.{notices_twice}
use Rattle.vlm_locks.proofs.RunsDown.{its_handles}
use Rattle.vlm_locks.proofs.SoundRecords.{same_process_of, stands_alike}
use Rattle.vlm_locks.proofs.Notes.{note_in, number_there}
use Rattle.vlm_locks.proofs.QueuedLocks.{one_lock}
use Rattle.vlm_locks.proofs.ReservedWithoutEnded.{paid_on}
use Rattle.vlm_collections.proofs.HandleLists.{in_behind}

-- ---- the locks of the process

-- where notices alone change each process has the locks that it had
pub same_handles : (s t : Records) → IsSound s → IsSound t → SameButNotices s t → (owner pid : ℕ)
    → IsProcess owner pid s → own_handles_at owner t ≡ own_handles_at owner s
same_handles s t sound sound_t same owner pid lives =
    let q = same_process_of s.processes t.processes same.processes lives.0 lives.1.0 in
    its_handles owner pid t sound_t (q.0, (q.1.0, q.1.1 ∙ lives.1.1, q.1.2 ∙ lives.1.2))
    ∙ ap handles_of_own q.1.3 ∙ sym (its_handles owner pid s sound lives)

-- ---- the endings

-- those of one lock more come behind the others
ends_push : (f : ℕ → Withdrawal) (lkids : List ℕ) (last : ℕ) (s : Records)
    → withdrawn_endings (map f (lkids ++ last ∷ [])) (plain_resources s)
    ≡ withdrawn_endings (map f lkids) (plain_resources s) ++ flat_map (withdrawal_endings (f last)) (plain_resources s)
ends_push f [] last s = append-nil (flat_map (withdrawal_endings (f last)) (plain_resources s))
ends_push f (n ∷ lkids) last s =
    ap (λ (endings : List Ending). flat_map (withdrawal_endings (f n)) (plain_resources s) ++ endings) (ends_push f lkids last s)
    ∙ sym (append_assoc (flat_map (withdrawal_endings (f n)) (plain_resources s))
    (withdrawn_endings (map f lkids) (plain_resources s))
    (flat_map (withdrawal_endings (f last)) (plain_resources s)))

-- they end by abort
abbrev IsByAbort : Ending → Type 0
IsByAbort ending = ending.how ≡ by_abort

rows_abort : (rows : List LockState) → AllByRecursion IsByAbort (flat_map (row_endings by_abort false) rows)
rows_abort [] = tt
rows_abort (row ∷ rows) =
    each_append IsByAbort (row_endings by_abort false row) (flat_map (row_endings by_abort false) rows)
    (of_want row.want) (rows_abort rows)
  where
    of_want : (want : Option Request) → AllByRecursion IsByAbort (wanted_endings by_abort false row.lkid row.pid want)
    of_want None = tt
    of_want (Some request) = (refl, tt)

lock_aborts : (invalidates : Bool) (lkid : ℕ) (rs : List Resource)
    → AllByRecursion IsByAbort (flat_map (withdrawal_endings (giving_up by_abort by_abort invalidates lkid)) rs)
lock_aborts invalidates lkid [] = tt
lock_aborts invalidates lkid (r ∷ rs) =
    each_append IsByAbort (withdrawal_endings (giving_up by_abort by_abort invalidates lkid) r)
    (flat_map (withdrawal_endings (giving_up by_abort by_abort invalidates lkid)) rs)
    (each_append IsByAbort (queue_endings by_abort lkid r.converting) (queue_endings by_abort lkid r.waiting)
    (rows_abort (rows_of lkid r.converting)) (rows_abort (rows_of lkid r.waiting)))
    (lock_aborts invalidates lkid rs)

all_abort : (invalidates : Bool) (lkids : List ℕ) (rs : List Resource)
    → AllByRecursion IsByAbort (withdrawn_endings (map (giving_up by_abort by_abort invalidates) lkids) rs)
all_abort invalidates [] rs = tt
all_abort invalidates (lkid ∷ lkids) rs =
    each_append IsByAbort (flat_map (withdrawal_endings (giving_up by_abort by_abort invalidates lkid)) rs)
    (withdrawn_endings (map (giving_up by_abort by_abort invalidates) lkids) rs)
    (lock_aborts invalidates lkid rs) (all_abort invalidates lkids rs)

-- and leave the value block
block_stays : (endings : List Ending) → AllByRecursion IsByAbort endings → (b : Blocks) → (blocks_after endings b).value_block ≡ b.value_block
block_stays [] each b = refl
block_stays (ending ∷ endings) each b =
    block_stays endings each.1 (blocks_after_ending ending b) ∙ ap (λ (how : How). (blocks_after_end how ending b).value_block) each.0

-- so more endings take effect behind them as alone
ends_after : (first second : List Ending) → AllByRecursion IsByAbort first → (ps : List Process)
    → processes_after (first ++ second) ps ≡ processes_after second (processes_after first ps)
ends_after first second each ps =
    ap (λ (b : Blocks). b.processes) (blocks_after_append first second (blocks_with new_value_block ps))
    ∙ ap (λ (block : ValueBlock). (blocks_after second (blocks_with block (processes_after first ps))).processes)
    (block_stays first each (blocks_with new_value_block ps))

-- the requests of the first locks have ended, so many as this
pub record AreEnding (lkids : List ℕ) (invalidates : Bool) (old s : Records) (many : ℕ) : Type 0 where
  pub sound : IsSound s
  pub only_notices : SameButNotices old s
  pub done : List ℕ
  pub todo : List ℕ
  pub split : lkids ≡ done ++ todo
  pub count : length done ≡ many
  pub statuses : RequestsHaveEnded done invalidates old s
  pub paid : IsPaidBut done s

-- at first none has
pub none_has_ended : (lkids : List ℕ) (invalidates : Bool) (s : Records) → IsSound s → IsPaid s → AreEnding lkids invalidates s s 0
none_has_ended lkids invalidates s sound paid = record {
  sound = sound;
  only_notices = record { resources = refl; processes = refl; room = refl; keys = refl };
  done = [];
  todo = lkids;
  split = refl;
  count = refl;
  statuses = refl;
  paid = paid;
}

-- each of the first is below those behind it
pub below_later : (first : List ℕ) (lkid : ℕ) (others : List ℕ) → Rise (first ++ lkid ∷ others) → (n : ℕ) → IsIn n first → n < lkid
below_later [] lkid others rise n there = absurd there
below_later (x ∷ first) lkid others rise n there = elim there [
  | inl here ↦ subst (λ m. m < lkid) here (above x lkid (first ++ lkid ∷ others) rise.0 (in_behind lkid first (lkid ∷ others) (inl refl)))
  | inr later ↦ below_later first lkid others rise.1 n later
]

-- ---- a turn

module _ (notes : List Note) (invalidates : Bool) (old s : Records) (many : ℕ) (so_far : AreEnding (noted_lkids notes) invalidates old s many)
    (rise : Rise (noted_lkids notes)) (locks : AreOfLocks notes old) (within : many < length notes) (t : Note) (is : t ≡ get_or notes many t) where
  -- the lock is stored
  pub lock_stored : IsStored t.at s
  lock_stored =
      let row = locks t (note_in notes many t within is) in
      (row.0, (row.1.0.0, stands_alike t.at row.0 old s so_far.only_notices.resources row.1.0.0 row.1.0.1))

  pub rest_now : IsAtRest old → IsAtRest s
  rest_now rest = rests_still old s so_far.only_notices rest

  resources_now : plain_resources s ≡ plain_resources old
  resources_now = ap (map plain_resource) so_far.only_notices.resources

  others : (those : List ℕ) × (so_far.todo ≡ t.number ∷ those)
  others = number_there so_far.done so_far.todo notes many t so_far.split so_far.count within is

  module _ (sound_old : IsSound old) (row : LockState) (stored : Stores s t.at row) where
    named : row.lkid ≡ t.number
    named =
        let its = locks t (note_in notes many t within is) in
        ap (λ (x : LockState). x.lkid)
        (one_lock old sound_old t.at row its.0 (stored.0, stands_alike t.at row s old (sym so_far.only_notices.resources) stored.0 stored.1) its.1.0)
        ∙ its.1.1

    -- its request has not ended yet
    pub not_yet : is_among so_far.done row ≡ false
    not_yet = of_test (is_among so_far.done row) refl
      where
        of_test : (b : Bool) → is_among so_far.done row ≡ b → is_among so_far.done row ≡ false
        of_test false is_no = is_no
        of_test true is_yes =
            absurd (omega (
              arith,
              below_later so_far.done t.number others.0
                  (subst Rise (so_far.split ∙ ap (λ ns. so_far.done ++ ns) others.1) rise) row.lkid
                  (among_in row so_far.done is_yes),
              named,
            ))

    -- it ends
    pub ended : (new : Records) → IsSound new → SameButNotices s new → (w : Withdrawal) → w ≡ giving_up by_abort by_abort invalidates row.lkid
        → plain_processes new ≡ processes_after (flat_map (withdrawal_endings w) (plain_resources s)) (plain_processes s)
        → OwedMoves row (row_at_end row) s new → AreEnding (noted_lkids notes) invalidates old new (many + 1)
    ended new sound_new same w is_w statuses owed = record {
      sound = sound_new;
      only_notices = notices_twice old s new so_far.only_notices same;
      done = so_far.done ++ row.lkid ∷ [];
      todo = others.0;
      split = so_far.split ∙ ap (λ ns. so_far.done ++ ns) (others.1 ∙ ap (λ n. n ∷ others.0) (sym named))
          ∙ sym (append_assoc so_far.done (row.lkid ∷ []) others.0);
      count = omega (arith, so_far.count, length-append so_far.done (row.lkid ∷ []));
      statuses = told;
      paid = paid_on so_far.done s so_far.sound t.at row stored not_yet so_far.paid new same owed;
    }
      where
        f : ℕ → Withdrawal
        f = giving_up by_abort by_abort invalidates

        first : List Ending
        first = withdrawn_endings (map f so_far.done) (plain_resources old)

        last : List Ending
        last = flat_map (withdrawal_endings (f row.lkid)) (plain_resources old)

        told : RequestsHaveEnded (so_far.done ++ row.lkid ∷ []) invalidates old new
        told =
            statuses
            ∙ ap (λ (v : Withdrawal). processes_after (flat_map (withdrawal_endings v) (plain_resources s)) (plain_processes s)) is_w
            ∙ ap (λ rs. processes_after (flat_map (withdrawal_endings (f row.lkid)) rs) (plain_processes s)) resources_now
            ∙ ap (processes_after last) so_far.statuses
            ∙ sym (ends_after first last (all_abort invalidates so_far.done (plain_resources old)) (plain_processes old))
            ∙ ap (λ endings. processes_after endings (plain_processes old)) (sym (ends_push f so_far.done row.lkid old))

-- at the end the requests of all have ended
pub all_ended : (notes : List Note) (invalidates : Bool) (old s : Records) (many : ℕ)
    → AreEnding (noted_lkids notes) invalidates old s many → length notes ≤ many
    → HaveEnded (noted_lkids notes) invalidates old s
all_ended notes invalidates old s many so_far over =
    subst (λ lkids. HaveEnded lkids invalidates old s) (sym whole)
    (record { statuses = so_far.statuses; only_notices = so_far.only_notices; paid = so_far.paid })
  where
    none : (ns : List ℕ) → length ns ≡ 0 → ns ≡ []
    none [] is = refl
    none (n ∷ ns) is = absurd (omega (arith, is))

    whole : noted_lkids notes ≡ so_far.done
    whole =
        so_far.split
        ∙ ap (λ ns. so_far.done ++ ns)
        (none so_far.todo
        (omega (
          arith,
          over,
          so_far.count,
          length-append so_far.done so_far.todo,
          ap (λ (ns : List ℕ). length ns) so_far.split,
          length-map notes (λ (x : Note). x.number),
        )))
        ∙ append-nil so_far.done
