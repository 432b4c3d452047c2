use Rattle.std.proofs.Common.{ℕ, length, Option, Some, ap, arith, subst}
use Rattle.vlm_store.specs.Records.{IsStored, sublocks_at}
use Rattle.vlm_locks.proofs.ChosenLocks.{on_from}
use Rattle.vlm_locks.proofs.Noting.{AreNoted, all_noted, fewer_left, has_room, lock_in, next_is, none_is_noted, one_more}
use Rattle.vlm_locks.proofs.Sublocks.{below_of, sublocks_apart}
use Rattle.vlm_locks.proofs.noted_locks.note_sublocks.Goals as goal

pub loop-next-init : goal.loop-next-init
loop-next-init c =
    none_is_noted c.args.store.now
    (sublocks_at c.args.lock c.args.store.now) c.args.touched.now c.first_sublock-next.result c.requires.locks
    c.first_sublock-next.ensures.first

-- the lock is stored
pub of_lock-requires : goal.of_lock-requires
of_lock-requires c =
    let so_far : AreNoted c.args.store.now (sublocks_at c.args.lock c.args.store.now) c.args.touched.now c.loop-next.touched (Some c.in-Some.sublock) =
    subst (AreNoted c.args.store.now (sublocks_at c.args.lock c.args.store.now) c.args.touched.now c.loop-next.touched) c.in-Some.is c.loop-next.invariant in
    let apart = sublocks_apart c.args.store.now c.first_sublock-next.ensures.sound c.args.lock c.requires.rest in
    (let below = below_of c.args.store.now c.first_sublock-next.ensures.sound c.args.lock c.requires.rest
    c.in-Some.sublock (lock_in c.args.store.now
    (sublocks_at c.args.lock c.args.store.now) c.args.touched.now c.loop-next.touched c.in-Some.sublock so_far
    apart) in (below.1, below.2.1))

pub note-requires : goal.note-requires
note-requires c =
    let so_far : AreNoted c.args.store.now (sublocks_at c.args.lock c.args.store.now) c.args.touched.now c.loop-next.touched (Some c.in-Some.sublock) =
    subst (AreNoted c.args.store.now (sublocks_at c.args.lock c.args.store.now) c.args.touched.now c.loop-next.touched) c.in-Some.is c.loop-next.invariant in
    let apart = sublocks_apart c.args.store.now c.first_sublock-next.ensures.sound c.args.lock c.requires.rest in
    has_room c.args.store.now (sublocks_at c.args.lock c.args.store.now) c.args.touched.now c.loop-next.touched c.in-Some.sublock so_far apart c.requires.room

pub next_sublock-next-requires : goal.next_sublock-next-requires
next_sublock-next-requires c =
    let so_far : AreNoted c.args.store.now (sublocks_at c.args.lock c.args.store.now) c.args.touched.now c.loop-next.touched (Some c.in-Some.sublock) =
    subst (AreNoted c.args.store.now (sublocks_at c.args.lock c.args.store.now) c.args.touched.now c.loop-next.touched) c.in-Some.is c.loop-next.invariant in
    let apart = sublocks_apart c.args.store.now c.first_sublock-next.ensures.sound c.args.lock c.requires.rest in
    (let below = below_of c.args.store.now c.first_sublock-next.ensures.sound c.args.lock c.requires.rest
    c.in-Some.sublock (lock_in c.args.store.now
    (sublocks_at c.args.lock c.args.store.now) c.args.touched.now c.loop-next.touched c.in-Some.sublock so_far
    apart) in (below.1, below.2.1))

pub loop-next-smaller : goal.loop-next-smaller
loop-next-smaller c =
    let so_far : AreNoted c.args.store.now (sublocks_at c.args.lock c.args.store.now) c.args.touched.now c.loop-next.touched (Some c.in-Some.sublock) =
    subst (AreNoted c.args.store.now (sublocks_at c.args.lock c.args.store.now) c.args.touched.now c.loop-next.touched) c.in-Some.is c.loop-next.invariant in
    let apart = sublocks_apart c.args.store.now c.first_sublock-next.ensures.sound c.args.lock c.requires.rest in
    let next = next_is c.args.store.now
    (sublocks_at c.args.lock c.args.store.now) c.args.touched.now c.loop-next.touched c.in-Some.sublock so_far apart
    c.next_sublock-next.result
    (c.next_sublock-next.ensures.after c.args.lock
    (lock_in c.args.store.now
    (sublocks_at c.args.lock c.args.store.now) c.args.touched.now c.loop-next.touched c.in-Some.sublock so_far
    apart)) in
    omega (
      arith,
      fewer_left c.args.store.now
          (sublocks_at c.args.lock c.args.store.now) c.args.touched.now c.loop-next.touched c.in-Some.sublock so_far
          apart c.next_sublock-next.result next,
      ap (λ (spot : Option ℕ). length (on_from spot (sublocks_at c.args.lock c.args.store.now))) c.in-Some.is,
    )

pub loop-next-preserved : goal.loop-next-preserved
loop-next-preserved c =
    let so_far : AreNoted c.args.store.now (sublocks_at c.args.lock c.args.store.now) c.args.touched.now c.loop-next.touched (Some c.in-Some.sublock) =
    subst (AreNoted c.args.store.now (sublocks_at c.args.lock c.args.store.now) c.args.touched.now c.loop-next.touched) c.in-Some.is c.loop-next.invariant in
    let apart = sublocks_apart c.args.store.now c.first_sublock-next.ensures.sound c.args.lock c.requires.rest in
    let next = next_is c.args.store.now
    (sublocks_at c.args.lock c.args.store.now) c.args.touched.now c.loop-next.touched c.in-Some.sublock so_far apart
    c.next_sublock-next.result
    (c.next_sublock-next.ensures.after c.args.lock
    (lock_in c.args.store.now
    (sublocks_at c.args.lock c.args.store.now) c.args.touched.now c.loop-next.touched c.in-Some.sublock so_far
    apart)) in
    let row : IsStored c.in-Some.sublock c.args.store.now =
    (let below = below_of c.args.store.now c.first_sublock-next.ensures.sound c.args.lock c.requires.rest
    c.in-Some.sublock (lock_in c.args.store.now
    (sublocks_at c.args.lock c.args.store.now) c.args.touched.now c.loop-next.touched c.in-Some.sublock so_far
    apart) in (below.1, below.2.1)) in
    one_more c.args.store.now
    (sublocks_at c.args.lock c.args.store.now) c.args.touched.now c.loop-next.touched c.in-Some.sublock so_far apart
    c.of_lock.result c.of_lock.ensures.lock row.0 row.1
    (c.of_lock.ensures.lkid row.0 row.1) c.note.new.self c.note.ensures.noted c.note.ensures.room
    c.next_sublock-next.result next

pub returns-clause-noted : goal.returns-clause-noted
returns-clause-noted c =
    all_noted c.args.store.now
    (sublocks_at c.args.lock c.args.store.now) c.args.touched.now c.loop-next.touched c.loop-next.next
    c.loop-next.invariant c.in_default.is
