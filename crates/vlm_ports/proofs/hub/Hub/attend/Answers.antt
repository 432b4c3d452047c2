use Rattle.vlm_ports.specs.Hubs.{journal, state}
use Rattle.vlm_ports.proofs.Resting.{grew_add, grew_none}
use Rattle.vlm_ports.proofs.Delivering.{none_delivered, none_is_one, one_then_none}
use Rattle.vlm_ports.proofs.Lasting.{all_node_rings_then}
use Rattle.vlm_ports.proofs.hub.Hub.attend.Goals as goal

pub returns-in-Err-clause-grew : goal.returns-in-Err-clause-grew
returns-in-Err-clause-grew c =
    grew_none (journal c.args.self.now) (journal c.deliver_ast.new.self) (state c.args.self.now)
    (state c.deliver_ast.new.self) c.in-Err.ensures.refused.0 c.in-Err.ensures.refused.1

pub returns-in-Ok-serve-clause-grew : goal.returns-in-Ok-serve-clause-grew
returns-in-Ok-serve-clause-grew c = grew_add c.in-Ok.ensures.grew.1 c.in-Ok-serve.ensures.grew.1

pub returns-in-Err-serve-clause-known : goal.returns-in-Err-serve-clause-known
returns-in-Err-serve-clause-known c =
    all_node_rings_then c.args.self.now.all_node_rings.items c.deliver_ast.new.self.all_node_rings.items
    c.serve.new.self.all_node_rings.items c.deliver_ast.ensures.known c.serve.ensures.known

pub returns-in-Ok-serve-clause-known : goal.returns-in-Ok-serve-clause-known
returns-in-Ok-serve-clause-known c =
    all_node_rings_then c.args.self.now.all_node_rings.items c.deliver_ast.new.self.all_node_rings.items
    c.serve.new.self.all_node_rings.items c.deliver_ast.ensures.known c.serve.ensures.known

pub returns-in-Err-clause-delivers : goal.returns-in-Err-clause-delivers
returns-in-Err-clause-delivers c =
    none_is_one c.args.at (journal c.args.self.now) (journal c.deliver_ast.new.self)
    (none_delivered (journal c.args.self.now) (journal c.deliver_ast.new.self) c.in-Err.ensures.refused.0)

pub returns-in-Err-serve-clause-delivers : goal.returns-in-Err-serve-clause-delivers
returns-in-Err-serve-clause-delivers c =
    one_then_none c.args.at (journal c.args.self.now) (journal c.deliver_ast.new.self) (journal c.serve.new.self) c.in-Ok.ensures.delivers
    (none_delivered (journal c.deliver_ast.new.self) (journal c.serve.new.self) c.in-Err-serve.ensures.refused.0)

pub returns-in-Ok-serve-clause-delivers : goal.returns-in-Ok-serve-clause-delivers
returns-in-Ok-serve-clause-delivers c =
    one_then_none c.args.at (journal c.args.self.now) (journal c.deliver_ast.new.self)
    (journal c.serve.new.self) c.in-Ok.ensures.delivers c.in-Ok-serve.ensures.delivers
