use Rattle.vlm_store.specs.Records.{IsSound, Records}
use Rattle.vlm_locks.specs.Rest.{OtherLocksStay}
use Rattle.vlm_locks.proofs.OtherLocks.{block_alone}
use Rattle.std.proofs.Common.{is_some, refl, sym, ap, ◌∙◌, subst}
use Rattle.vlm_model.specs.Withdrawals.{resource_after_writer}
use Rattle.vlm_locks.specs.Standing.{IsLocated}
use Rattle.vlm_locks.specs.Withdrawals.{plain_withdrawal}
use Rattle.vlm_locks.specs.Withdrawing.{IsChange}
use Rattle.vlm_locks.proofs.ReservedAsts.{weighs_valued}
use Rattle.vlm_locks.proofs.Withdrawn.{left_block, left_nothing, left_unwritten, stands_left}
use Rattle.vlm_locks.proofs.releases.write_released_value.Goals as goal
use Rattle.std.proofs.lemmas.Bool.{or_parts}

-- where nothing is to be written it leaves nothing
pub returns-then-not-writes-clause-left : goal.returns-then-not-writes-clause-left
returns-then-not-writes-clause-left c =
    let w = c.args.withdrawal.now in
    let nothing = or_parts (is_some w.value) w.invalidates (sym c.writes.ensures ∙ c.if-not-writes.true) in
    record {
      made = left_unwritten c.args.store.now c.requires.located.sound c.args.located.now c.requires.located
          (plain_withdrawal w) nothing.0 nothing.1 c.requires.rest;
      locks = λ place. refl;
      own_locks = refl;
    }

-- what may write leaves its value block
pub returns-then-may_write-clause-left : goal.returns-then-may_write-clause-left
returns-then-may_write-clause-left c =
    let s = c.args.store.now in
    let f = c.args.located.now in
    let w = plain_withdrawal c.args.withdrawal.now in
    record {
      made =
          subst (IsChange f.res (resource_after_writer w) s) (sym c.set_value_block.ensures.written)
          (left_block s c.requires.located.sound f c.requires.located w c.resource_record.result.now.value_block
          c.block_after_writer.result c.requires.named (sym c.may_write.ensures
          ∙ c.if-may_write.true)
          (subst IsSound c.set_value_block.ensures.written c.set_value_block.ensures.sound.after) c.requires.rest
          c.resource_record.ensures.value_block c.block_after_writer.ensures);
      locks = subst (OtherLocksStay f.lock s) (sym c.set_value_block.ensures.written) (block_alone f.lock f.res c.block_after_writer.result s);
      own_locks = ap (λ (x : Records). x.processes) c.set_value_block.ensures.written;
    }

pub returns-then-may_write-clause-located : goal.returns-then-may_write-clause-located
returns-then-may_write-clause-located c =
    let f = c.args.located.now in
    subst (IsLocated f) (sym c.set_value_block.ensures.written)
    (stands_left c.args.store.now c.requires.located.sound f c.requires.located c.block_after_writer.result
    (subst IsSound c.set_value_block.ensures.written c.set_value_block.ensures.sound.after))

-- what may not write leaves nothing
pub returns-else-may_write-clause-left : goal.returns-else-may_write-clause-left
returns-else-may_write-clause-left c = record {
  made = left_nothing c.args.store.now c.requires.located.sound c.args.located.now c.requires.located
      (plain_withdrawal c.args.withdrawal.now) c.requires.named (sym c.may_write.ensures
      ∙ c.if-may_write.false) c.requires.rest;
  locks = λ place. refl;
  own_locks = refl;
}

-- it leaves the locks as they are
pub returns-then-may_write-clause-weighs : goal.returns-then-may_write-clause-weighs
returns-then-may_write-clause-weighs c measure =
    rw c.set_value_block.ensures.written (weighs_valued c.args.store.now c.requires.located.sound c.args.located.now.res c.block_after_writer.result measure)
