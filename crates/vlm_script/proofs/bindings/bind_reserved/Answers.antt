use Rattle.vlm_script.proofs.Bound.{bindings-inserted, on_ok}
use Rattle.vlm_script.proofs.bindings.bind_reserved.Goals as goal

-- the name is bound last
pub returns : goal.returns
returns c =
    bindings-inserted c.args.name c.args.names.now c.insert.new.self c.args.pid c.requires.unbound
    (on_ok c.insert.result (c.insert.ensures.succeeds c.requires.room) c.insert.ensures.entries)
