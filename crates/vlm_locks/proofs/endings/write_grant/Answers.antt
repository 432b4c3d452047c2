use Rattle.std.proofs.Common.{rules}
use Rattle.vlm_model.specs.Effects.{blocks_after_return}
use Rattle.vlm_locks.proofs.FoundByHandle.{process_there}
use Rattle.vlm_locks.proofs.endings.write_grant.Goals as goal

pub end-requires : goal.end-requires
end-requires c = process_there c.args.store.now _ _ c.requires

pub end_with_return-requires : goal.end_with_return-requires
end_with_return-requires c = process_there c.args.store.now _ _ c.requires

pub status_block_or_new-from-requires : goal.status_block_or_new-from-requires
status_block_or_new-from-requires c = process_there c.args.store.now _ _ c.requires

pub end-requires-in-Write : goal.end-requires-in-Write
end-requires-in-Write c = process_there c.args.store.now _ _ c.requires

pub returns-in-Return-clause-statuses : goal.returns-in-Return-clause-statuses
unfolding blocks_after_return
returns-in-Return-clause-statuses c = search rules
