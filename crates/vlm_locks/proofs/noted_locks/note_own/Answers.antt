use Rattle.std.proofs.Common.{◌∙◌, ◌++◌, ℕ, List, length, Option, Some, ap, arith, subst}
use Rattle.vlm_collections.specs.Lists.{IsIn}
use Rattle.vlm_store.specs.Records.{IsStored, own_handles_at}
use Rattle.vlm_locks.specs.declared.touched.Note.{Note}
use Rattle.vlm_locks.specs.Touched.{touched_handles}
use Rattle.vlm_locks.proofs.ChosenLocks.{on_from}
use Rattle.vlm_locks.proofs.FoundByHandle.{process_here}
use Rattle.vlm_locks.proofs.Gathered.{own_at_most, own_chosen}
use Rattle.vlm_locks.proofs.Noting.{AreNoted, all_noted, fewer_left, has_room, lock_in, next_is, none_is_noted, one_more}
use Rattle.vlm_locks.proofs.RunsDown.{handles_apart, stored_here}
use Rattle.vlm_locks.proofs.noted_locks.note_own.Goals as goal

pub loop-next-init : goal.loop-next-init
loop-next-init c =
    none_is_noted c.args.store.now (own_handles_at c.args.owner c.args.store.now) c.args.touched.now c.first_own-next.result
    (λ t there. absurd (subst (λ (ts : List Note). IsIn t ts) c.requires.none there)) c.first_own-next.ensures.first

-- the lock is stored
pub of_lock-requires : goal.of_lock-requires
of_lock-requires c =
    let who = process_here c.args.store.now c.requires.rest.sound c.args.owner c.requires.owner in
    let so_far : AreNoted c.args.store.now (own_handles_at c.args.owner c.args.store.now) c.args.touched.now c.loop-next.touched (Some c.in-Some.lock) =
    subst (AreNoted c.args.store.now
    (own_handles_at c.args.owner c.args.store.now) c.args.touched.now c.loop-next.touched) c.in-Some.is
    c.loop-next.invariant in
    let apart = handles_apart c.args.owner who.0 c.args.store.now c.first_own-next.ensures.sound who.1 in
    (let here = stored_here c.args.owner who.0 c.args.store.now c.first_own-next.ensures.sound who.1
    c.requires.rest c.in-Some.lock
    (lock_in c.args.store.now
    (own_handles_at c.args.owner c.args.store.now) c.args.touched.now c.loop-next.touched c.in-Some.lock so_far
    apart) in (here.0, here.1.0))

pub note-requires : goal.note-requires
note-requires c =
    let who = process_here c.args.store.now c.requires.rest.sound c.args.owner c.requires.owner in
    let so_far : AreNoted c.args.store.now (own_handles_at c.args.owner c.args.store.now) c.args.touched.now c.loop-next.touched (Some c.in-Some.lock) =
    subst (AreNoted c.args.store.now
    (own_handles_at c.args.owner c.args.store.now) c.args.touched.now c.loop-next.touched) c.in-Some.is
    c.loop-next.invariant in
    let apart = handles_apart c.args.owner who.0 c.args.store.now c.first_own-next.ensures.sound who.1 in
    has_room c.args.store.now (own_handles_at c.args.owner c.args.store.now) c.args.touched.now c.loop-next.touched c.in-Some.lock so_far apart (omega (
      arith,
      c.requires.room,
      own_at_most c.args.owner who.0 c.args.store.now c.first_own-next.ensures.sound who.1 c.requires.rest,
      ap (λ (ts : List Note). length ts) c.requires.none,
    ))

pub next_own-next-requires : goal.next_own-next-requires
next_own-next-requires c =
    let who = process_here c.args.store.now c.requires.rest.sound c.args.owner c.requires.owner in
    let so_far : AreNoted c.args.store.now (own_handles_at c.args.owner c.args.store.now) c.args.touched.now c.loop-next.touched (Some c.in-Some.lock) =
    subst (AreNoted c.args.store.now
    (own_handles_at c.args.owner c.args.store.now) c.args.touched.now c.loop-next.touched) c.in-Some.is
    c.loop-next.invariant in
    let apart = handles_apart c.args.owner who.0 c.args.store.now c.first_own-next.ensures.sound who.1 in
    (let here = stored_here c.args.owner who.0 c.args.store.now c.first_own-next.ensures.sound who.1
    c.requires.rest c.in-Some.lock
    (lock_in c.args.store.now
    (own_handles_at c.args.owner c.args.store.now) c.args.touched.now c.loop-next.touched c.in-Some.lock so_far
    apart) in (here.0, here.1.0))

pub loop-next-smaller : goal.loop-next-smaller
loop-next-smaller c =
    let who = process_here c.args.store.now c.requires.rest.sound c.args.owner c.requires.owner in
    let so_far : AreNoted c.args.store.now (own_handles_at c.args.owner c.args.store.now) c.args.touched.now c.loop-next.touched (Some c.in-Some.lock) =
    subst (AreNoted c.args.store.now
    (own_handles_at c.args.owner c.args.store.now) c.args.touched.now c.loop-next.touched) c.in-Some.is
    c.loop-next.invariant in
    let apart = handles_apart c.args.owner who.0 c.args.store.now c.first_own-next.ensures.sound who.1 in
    let next = next_is c.args.store.now
    (own_handles_at c.args.owner c.args.store.now) c.args.touched.now c.loop-next.touched c.in-Some.lock so_far
    apart c.next_own-next.result
    (c.next_own-next.ensures.next c.args.owner
    (lock_in c.args.store.now
    (own_handles_at c.args.owner c.args.store.now) c.args.touched.now c.loop-next.touched c.in-Some.lock so_far
    apart)) in
    omega (
      arith,
      fewer_left c.args.store.now
          (own_handles_at c.args.owner c.args.store.now) c.args.touched.now c.loop-next.touched c.in-Some.lock so_far
          apart c.next_own-next.result next,
      ap (λ (spot : Option ℕ). length (on_from spot (own_handles_at c.args.owner c.args.store.now))) c.in-Some.is,
    )

pub loop-next-preserved : goal.loop-next-preserved
loop-next-preserved c =
    let who = process_here c.args.store.now c.requires.rest.sound c.args.owner c.requires.owner in
    let so_far : AreNoted c.args.store.now (own_handles_at c.args.owner c.args.store.now) c.args.touched.now c.loop-next.touched (Some c.in-Some.lock) =
    subst (AreNoted c.args.store.now
    (own_handles_at c.args.owner c.args.store.now) c.args.touched.now c.loop-next.touched) c.in-Some.is
    c.loop-next.invariant in
    let apart = handles_apart c.args.owner who.0 c.args.store.now c.first_own-next.ensures.sound who.1 in
    let next = next_is c.args.store.now
    (own_handles_at c.args.owner c.args.store.now) c.args.touched.now c.loop-next.touched c.in-Some.lock so_far
    apart c.next_own-next.result
    (c.next_own-next.ensures.next c.args.owner
    (lock_in c.args.store.now
    (own_handles_at c.args.owner c.args.store.now) c.args.touched.now c.loop-next.touched c.in-Some.lock so_far
    apart)) in
    let row : IsStored c.in-Some.lock c.args.store.now =
    (let here = stored_here c.args.owner who.0 c.args.store.now c.first_own-next.ensures.sound who.1
    c.requires.rest c.in-Some.lock
    (lock_in c.args.store.now
    (own_handles_at c.args.owner c.args.store.now) c.args.touched.now c.loop-next.touched c.in-Some.lock so_far
    apart) in (here.0, here.1.0)) in
    one_more c.args.store.now
    (own_handles_at c.args.owner c.args.store.now) c.args.touched.now c.loop-next.touched c.in-Some.lock so_far
    apart c.of_lock.result c.of_lock.ensures.lock row.0 row.1
    (c.of_lock.ensures.lkid row.0 row.1) c.note.new.self c.note.ensures.noted c.note.ensures.room
    c.next_own-next.result next

pub returns-clause-chosen : goal.returns-clause-chosen
returns-clause-chosen c pid lives =
    own_chosen c.args.owner pid c.args.store.now c.first_own-next.ensures.sound lives c.requires.rest
    c.loop-next.touched.noted c.loop-next.invariant.locks
    (all_noted c.args.store.now
    (own_handles_at c.args.owner c.args.store.now) c.args.touched.now c.loop-next.touched c.loop-next.next
    c.loop-next.invariant c.in_default.is
    ∙ ap (λ (ts : List Note). touched_handles ts ++ own_handles_at c.args.owner c.args.store.now) c.requires.none)

pub returns-clause-room : goal.returns-clause-room
returns-clause-room c = c.loop-next.invariant.room

pub returns-clause-locks : goal.returns-clause-locks
returns-clause-locks c = c.loop-next.invariant.locks
