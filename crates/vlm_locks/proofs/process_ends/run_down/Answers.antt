use Rattle.std.proofs.Common.{◌≡◌, ℕ, [], ◌∷◌, ◌++◌, sym, ap, ◌∙◌, subst, arith, map, true, eq-eqb}
use Rattle.vlm_collections.specs.Lists.{IsIn}
use Rattle.vlm_records.specs.declared.handles.Place.TheVariants.{Queued}
use Rattle.vlm_store.specs.Records.{IsProcess, locks_at, own_handles_at, but_notices}
use Rattle.vlm_locks.specs.Withdrawals.{plain_withdrawal}
use Rattle.vlm_locks.proofs.FoundByHandle.{process_here, process_there}
use Rattle.vlm_locks.proofs.RunsDown.{IsTurn, all_left, fewer_own, is_row_of, its_row, one_untold, last_is_childless}
use Rattle.vlm_locks.proofs.RunsDown.{last_stored, last_there, next_turn, no_locks, none_at_all, one_at_least}
use Rattle.vlm_locks.proofs.QueuedLocks.{stands}
use Rattle.vlm_locks.proofs.process_ends.run_down.Goals as goal
use Rattle.vlm_locks.specs.Withdrawing.{goes, owned_after}
use Rattle.vlm_model.specs.Endings.How.{by_rundown}
use Rattle.vlm_model.specs.Rundown.{rundown_of}
use Rattle.vlm_model.specs.Withdrawals.{Withdrawal}

pub last_own-requires : goal.last_own-requires
last_own-requires c =
    let who = process_here c.args.store.now c.requires.can_end.rest.sound c.args.owner c.requires.owner in
    process_there c.loop-lock.store c.args.owner who.0 (c.loop-lock.invariant who.0 who.1).so_far.lives

pub located_lock-located-requires-clause-rest : goal.located_lock-located-requires-clause-rest
located_lock-located-requires-clause-rest c =
    let who = process_here c.args.store.now c.requires.can_end.rest.sound c.args.owner c.requires.owner in
    (c.loop-lock.invariant who.0 who.1).so_far.rest

pub located_lock-located-requires-clause-stored : goal.located_lock-located-requires-clause-stored
located_lock-located-requires-clause-stored c =
    let who = process_here c.args.store.now c.requires.can_end.rest.sound c.args.owner c.requires.owner in
    let so_far = (c.loop-lock.invariant who.0 who.1).so_far in
    last_stored c.args.owner who.0 c.loop-lock.store so_far.sound so_far.lives so_far.rest c.in-Some.lock
    (sym c.last_own.ensures ∙ c.in-Some.is)

pub withdraw-requires-clause-rest : goal.withdraw-requires-clause-rest
withdraw-requires-clause-rest c =
    let who = process_here c.args.store.now c.requires.can_end.rest.sound c.args.owner c.requires.owner in
    (c.loop-lock.invariant who.0 who.1).so_far.rest

pub withdraw-requires-clause-paid : goal.withdraw-requires-clause-paid
withdraw-requires-clause-paid c =
    let who = process_here c.args.store.now c.requires.can_end.rest.sound c.args.owner c.requires.owner in
    (c.loop-lock.invariant who.0 who.1).paid

pub withdraw-requires-clause-childless : goal.withdraw-requires-clause-childless
withdraw-requires-clause-childless c goes p own among its same =
    let who = process_here c.args.store.now c.requires.can_end.rest.sound c.args.owner c.requires.owner in
    let so_far = (c.loop-lock.invariant who.0 who.1).so_far in
    last_is_childless c.args.owner who.0 c.loop-lock.store so_far.sound so_far.lives so_far.rest c.in-Some.lock
    (sym c.last_own.ensures ∙ c.in-Some.is) so_far.together p own among its (same ∙ c.located_lock-located.ensures.lock)

pub withdraw-requires-clause-granted : goal.withdraw-requires-clause-granted
withdraw-requires-clause-granted c is =
    let who = process_here c.args.store.now c.requires.can_end.rest.sound c.args.owner c.requires.owner in
    let so_far = (c.loop-lock.invariant who.0 who.1).so_far in
    let f = c.located_lock-located.result in
    so_far.granted f.res (record { at = f.lock; row = f.row })
    (subst (λ queue. IsIn (record { at = f.lock; row = f.row }) (locks_at (Queued f.res queue) c.loop-lock.store)) is
    (stands c.loop-lock.store f c.located_lock-located.ensures.located))

pub note-requires : goal.note-requires
note-requires c =
    let who = process_here c.args.store.now c.requires.can_end.rest.sound c.args.owner c.requires.owner in
    let so_far = (c.loop-lock.invariant who.0 who.1).so_far in
    omega (
      arith,
      so_far.room,
      one_at_least c.loop-lock.store so_far.sound c.located_lock-located.result c.located_lock-located.ensures.located,
    )

-- it is withdrawn as a rundown withdraws a lock with its ID
abbrev pub rundown_is : (c : goal.After-note) → plain_withdrawal c.rundown.result ≡ rundown_of c.located_lock-located.result.row.lkid
rundown_is c = c.rundown.ensures ∙ ap rundown_of c.lkid.ensures

-- the turn that takes the last lock of the process with this ID
turn_of : (c : goal.After-note) (pid : ℕ) → IsProcess c.args.owner pid c.args.store.now
    → IsTurn (is_row_of pid) true c.args.owner c.loop-lock.store c.withdraw.new.store c.loop-lock.touched
    c.note.new.self c.located_lock-located.result (plain_withdrawal c.rundown.result)
turn_of c pid lives =
    let f = c.located_lock-located.result in
    let s = c.loop-lock.store in
    let so_far = (c.loop-lock.invariant pid lives).so_far in
    let mine : IsIn f.lock (own_handles_at c.args.owner s) =
    subst (λ at. IsIn at (own_handles_at c.args.owner s)) (sym c.located_lock-located.ensures.lock)
    (last_there c.args.owner pid s so_far.sound so_far.lives so_far.rest c.in-Some.lock (sym c.last_own.ensures ∙ c.in-Some.is)) in
    record {
      sound = c.of_resource.ensures.sound;
      located = c.located_lock-located.ensures.located;
      mine = mine;
      its = eq-eqb f.row.pid pid (its_row c.args.owner pid s so_far.sound so_far.lives so_far.rest f c.located_lock-located.ensures.located mine);
      waiting = by_rundown;
      converting = by_rundown;
      withdrawal = rundown_is c;
      resources = c.withdraw.ensures.resources;
      statuses = one_untold c.withdraw.new.store s f.row.lkid (plain_withdrawal c.rundown.result) (rundown_is c) c.withdraw.ensures.statuses;
      beside = c.withdraw.ensures.beside;
      own_locks =
          c.withdraw.ensures.own_locks
          ∙ ap (λ stays. map but_notices (owned_after (goes stays f.queue) f.lock s.processes)) (ap (λ (w : Withdrawal). w.stays) (rundown_is c));
      serial = c.of_resource.result.number;
      its_serial = c.of_resource.ensures.serial;
      notes =
          c.note.ensures.noted
          ∙ ap (λ (res : ℕ). c.loop-lock.touched.noted ++ record { number = c.of_resource.result.number; at = res } ∷ []) c.of_resource.ensures.res;
      room = c.note.ensures.room;
    }

pub loop-lock-smaller : goal.loop-lock-smaller
loop-lock-smaller c =
    let who = process_here c.args.store.now c.requires.can_end.rest.sound c.args.owner c.requires.owner in
    omega (
      arith,
      fewer_own
          (is_row_of who.0) true c.args.owner who.0 c.args.store.now c.loop-lock.store c.withdraw.new.store c.args.touched.now
          c.loop-lock.touched c.note.new.self c.located_lock-located.result (plain_withdrawal c.rundown.result)
          (c.loop-lock.invariant who.0 who.1).so_far (turn_of c who.0 who.1),
    )

pub loop-lock-preserved : goal.loop-lock-preserved
loop-lock-preserved c pid lives = record {
  so_far = next_turn (is_row_of pid) true c.args.owner pid c.args.store.now c.loop-lock.store c.withdraw.new.store
      c.args.touched.now c.loop-lock.touched c.note.new.self c.located_lock-located.result (plain_withdrawal c.rundown.result)
      (c.loop-lock.invariant pid lives).so_far (turn_of c pid lives);
  paid = c.withdraw.ensures.paid;
}

pub returns : goal.returns
returns c pid lives =
    let now = c.loop-lock.invariant pid lives in
    let so_far = now.so_far in
    record {
      resources =
          sym (all_left c.args.owner pid c.loop-lock.store so_far.sound so_far.lives
          (none_at_all (own_handles_at c.args.owner c.loop-lock.store) (sym c.last_own.ensures ∙ c.in_default.is)))
          ∙ so_far.resources;
      statuses = so_far.statuses;
      lives = so_far.lives;
      gone =
          no_locks c.args.owner pid c.loop-lock.store so_far.sound so_far.lives
          (none_at_all (own_handles_at c.args.owner c.loop-lock.store) (sym c.last_own.ensures ∙ c.in_default.is));
      kept = so_far.kept;
      only_touched = so_far.only_touched;
      same_room = so_far.same_room;
      can_end = record {
        rest = so_far.rest;
        together = so_far.together;
        granted = so_far.granted;
        paid = now.paid;
        noted = so_far.noted;
        room = so_far.room;
      };
    }
