use Rattle.std.proofs.Common.{◌≡◌, ◌-◌, sym, ap, ◌∙◌, subst, arith}
use Rattle.vlm_words.specs.Dues.{one_where}
use Rattle.vlm_store.specs.Records.{DueChanges}
use Rattle.vlm_locks.specs.Owing.{OwedMoves, left_row, row_after_end}
use Rattle.vlm_locks.proofs.FoundByHandle.{process_there}
use Rattle.vlm_locks.proofs.ReservedAsts.{spared_owed}
use Rattle.vlm_locks.proofs.releases.release_blocking_ast.Goals as goal

pub forgive-requires-clause-there : goal.forgive-requires-clause-there
forgive-requires-clause-there c =
    process_there c.args.store.now c.args.located.now.owner c.args.located.now.row.pid
    c.requires.located.owner

pub forgive-requires-clause-owed : goal.forgive-requires-clause-owed
forgive-requires-clause-owed c =
    let one : one_where c.args.located.now.row.armed ≡ 1 = ap one_where (sym c.is_armed.ensures ∙ c.if-is_armed.true) in
    record {
      pid = c.args.located.now.row.pid;
      process = c.requires.located.owner;
      due = omega (arith, one, c.requires.owed);
    }

pub returns-then-is_armed-clause-owed : goal.returns-then-is_armed-clause-owed
returns-then-is_armed-clause-owed c =
    let f = c.args.located.now in
    let one : one_where f.row.armed ≡ 1 = ap one_where (sym c.is_armed.ensures ∙ c.if-is_armed.true) in
    subst (λ gone. OwedMoves (row_after_end f.row) (left_row gone f.row) c.args.store.now c.forgive.new.store) (sym c.if-gone.true)
    (spared_owed f.row c.args.store.now c.forgive.new.store c.requires.owed
    (subst (λ n. DueChanges f.row.pid (λ due. due - n) c.args.store.now c.forgive.new.store) (sym one)
    (c.forgive.ensures.owed f.row.pid c.requires.located.owner)))
