use Rattle.std.proofs.Common.{arith}
use Rattle.vlm_store.proofs.Spares.{both_kept}
use Rattle.vlm_store.proofs.key_index.KeyIndex.remove.Goals as goal

pub returns-then-remove-clause-room : goal.returns-then-remove-clause-room
returns-then-remove-clause-room c =
    both_kept c.args.self.now
    (record c.args.self.now { main = c.args.self.now.main; others = c.remove.new.self }) c.remove.ensures.room
    (λ number. omega arith)

pub returns-clause-room : goal.returns-clause-room
returns-clause-room c =
    both_kept c.args.self.now
    (record c.args.self.now {
      main = c.remove-2.new.self;
      others =
          c.remove.new.self;
    }) c.remove.ensures.room c.remove-2.ensures.room
