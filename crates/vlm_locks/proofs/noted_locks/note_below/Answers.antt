use Rattle.std.proofs.Common.{◌≡◌, ◌≤◌, ◌<◌, ◌+◌, ◌++◌, List, length, get_or, ap, arith, subst, sym, ◌∙◌, inl}
use Rattle.vlm_store.specs.Records.{FindsLock, IsStored, sublocks_at}
use Rattle.vlm_locks.specs.declared.joint_withdrawals.Scope.TheVariants.{Below}
use Rattle.vlm_locks.specs.declared.touched.Note.{Note}
use Rattle.vlm_locks.specs.GivingUp.{AreChosen, IsOwnScope, noted_lkids}
use Rattle.vlm_locks.specs.Touched.{touched_handles}
use Rattle.vlm_locks.proofs.Gathered.{below_chosen, first_fits, first_level, lock_stored, next_level, one_scope, passes_one, sublocks_fit, top_found}
use Rattle.vlm_locks.proofs.noted_locks.note_below.Goals as goal

-- the top is stored
pub returns-in_default-clause-chosen : goal.returns-in_default-clause-chosen
returns-in_default-clause-chosen c pid own =
    absurd (subst (FindsLock c.args.store.now c.args.top) c.in_default.is c.lock.ensures.found own.1
    own.2 (inl own.3.0) own.3.1)

pub note_sublocks-requires-clause-stored : goal.note_sublocks-requires-clause-stored
note_sublocks-requires-clause-stored c =
    let found =
    top_found c.args.store.now c.lock.ensures.sound c.requires.top.0 c.args.top c.requires.top.1 c.in-Some.lock
    (subst (FindsLock c.args.store.now c.args.top) c.in-Some.is c.lock.ensures.found) in
    (found.0, found.1.0)

pub note_sublocks-requires-clause-room : goal.note_sublocks-requires-clause-room
note_sublocks-requires-clause-room c =
    let found =
    top_found c.args.store.now c.lock.ensures.sound c.requires.top.0 c.args.top c.requires.top.1 c.in-Some.lock
    (subst (FindsLock c.args.store.now c.args.top) c.in-Some.is c.lock.ensures.found) in
    let own : IsOwnScope (Below c.args.top) c.requires.top.0 c.args.store.now =
    (c.requires.top.1.0, c.in-Some.lock, found.0, found.1) in
    omega (
      arith,
      c.requires.room,
      first_fits c.args.store.now c.lock.ensures.sound c.requires.rest c.requires.top.0 c.args.top own c.requires.together c.requires.closed,
      ap (λ (ts : List Note). length ts) c.requires.none,
    )

pub loop-passed-init : goal.loop-passed-init
loop-passed-init c =
    let found =
    top_found c.args.store.now c.lock.ensures.sound c.requires.top.0 c.args.top c.requires.top.1 c.in-Some.lock
    (subst (FindsLock c.args.store.now c.args.top) c.in-Some.is c.lock.ensures.found) in
    let own : IsOwnScope (Below c.args.top) c.requires.top.0 c.args.store.now =
    (c.requires.top.1.0, c.in-Some.lock, found.0, found.1) in (
      c.requires.top.0,
      own,
      first_level c.args.store.now c.lock.ensures.sound c.requires.rest c.requires.top.0 c.args.top own c.requires.together c.requires.closed c.args.touched.now
          c.note_sublocks.new.touched c.requires.none c.note_sublocks.ensures.noted c.note_sublocks.ensures.locks c.note_sublocks.ensures.room,
    )

pub note_sublocks-requires-in-loop-passed-clause-stored : goal.note_sublocks-requires-in-loop-passed-clause-stored
note_sublocks-requires-in-loop-passed-clause-stored c =
    subst (λ at. IsStored at c.args.store.now) (sym c.lock-lock.ensures)
    (lock_stored c.args.store.now c.lock.ensures.sound c.requires.rest c.loop-passed.invariant.0 c.args.top c.loop-passed.invariant.1
    c.requires.together c.requires.closed c.args.touched.now c.loop-passed.touched c.loop-passed.passed c.loop-passed.invariant.2
    (subst (λ (ts : List Note). c.loop-passed.passed < length ts) c.notes.ensures c.loop-passed-test.true)
    c.index-notes-passed.result
    (subst (λ (ts : List Note). c.index-notes-passed.result ≡ get_or ts c.loop-passed.passed
    c.index-notes-passed.result) c.notes-in-loop-passed.ensures c.index-notes-passed.is))

pub note_sublocks-requires-in-loop-passed-clause-room : goal.note_sublocks-requires-in-loop-passed-clause-room
note_sublocks-requires-in-loop-passed-clause-room c =
    subst (λ at. length c.loop-passed.touched.noted + length (sublocks_at at c.args.store.now) ≤ c.loop-passed.touched.room) (sym c.lock-lock.ensures)
    (sublocks_fit c.args.store.now c.lock.ensures.sound c.requires.rest c.loop-passed.invariant.0 c.args.top c.loop-passed.invariant.1
    c.requires.together c.requires.closed c.args.touched.now c.loop-passed.touched c.loop-passed.passed c.loop-passed.invariant.2
    (subst (λ (ts : List Note). c.loop-passed.passed < length ts) c.notes.ensures c.loop-passed-test.true)
    c.index-notes-passed.result
    (subst (λ (ts : List Note). c.index-notes-passed.result ≡ get_or ts c.loop-passed.passed
    c.index-notes-passed.result) c.notes-in-loop-passed.ensures c.index-notes-passed.is)
    c.requires.room)

pub loop-passed-smaller : goal.loop-passed-smaller
loop-passed-smaller c =
    omega (
      arith,
      passes_one c.args.store.now c.lock.ensures.sound c.requires.rest c.loop-passed.invariant.0 c.args.top c.loop-passed.invariant.1
          c.requires.together c.requires.closed c.args.touched.now c.loop-passed.touched c.loop-passed.passed c.loop-passed.invariant.2
          (subst (λ (ts : List Note). c.loop-passed.passed < length ts) c.notes.ensures c.loop-passed-test.true)
          c.index-notes-passed.result
          (subst (λ (ts : List Note). c.index-notes-passed.result ≡ get_or ts c.loop-passed.passed
          c.index-notes-passed.result) c.notes-in-loop-passed.ensures c.index-notes-passed.is),
    )

pub loop-passed-preserved : goal.loop-passed-preserved
loop-passed-preserved c = (
  c.loop-passed.invariant.0,
  c.loop-passed.invariant.1,
  next_level c.args.store.now c.lock.ensures.sound c.requires.rest c.loop-passed.invariant.0 c.args.top c.loop-passed.invariant.1
      c.requires.together c.requires.closed c.args.touched.now c.loop-passed.touched c.loop-passed.passed c.loop-passed.invariant.2
      (subst (λ (ts : List Note). c.loop-passed.passed < length ts) c.notes.ensures c.loop-passed-test.true)
      c.index-notes-passed.result
      (subst (λ (ts : List Note). c.index-notes-passed.result ≡ get_or ts c.loop-passed.passed
      c.index-notes-passed.result) c.notes-in-loop-passed.ensures c.index-notes-passed.is)
      c.note_sublocks-in-loop-passed.new.touched
      (subst (λ at. touched_handles c.note_sublocks-in-loop-passed.new.touched.noted ≡ touched_handles
      c.loop-passed.touched.noted ++ sublocks_at at c.args.store.now) c.lock-lock.ensures
      c.note_sublocks-in-loop-passed.ensures.noted) c.note_sublocks-in-loop-passed.ensures.locks
      c.note_sublocks-in-loop-passed.ensures.room,
)

pub returns-clause-chosen : goal.returns-clause-chosen
returns-clause-chosen c pid own =
    subst (λ its. AreChosen (Below c.args.top) its c.args.store.now (noted_lkids c.in_order.new.self.noted))
    (one_scope c.args.store.now c.lock.ensures.sound c.args.top c.loop-passed.invariant.0 pid c.loop-passed.invariant.1 own)
    (below_chosen c.args.store.now c.lock.ensures.sound c.requires.rest c.loop-passed.invariant.0 c.args.top c.loop-passed.invariant.1
    c.requires.together c.requires.closed c.args.touched.now c.loop-passed.touched c.loop-passed.passed c.loop-passed.invariant.2
    (omega (
      arith,
      c.loop-passed-test.false,
      ap (λ (ts : List Note). length ts) c.notes.ensures,
    )) c.in_order.new.self.noted
    c.in_order.ensures.rising c.in_order.ensures.within c.in_order.ensures.each)

pub returns-clause-locks : goal.returns-clause-locks
returns-clause-locks c t there = c.loop-passed.invariant.2.locks t (c.in_order.ensures.within t there)

pub returns-clause-room : goal.returns-clause-room
returns-clause-room c = c.in_order.ensures.room ∙ c.loop-passed.invariant.2.room
