use Rattle.std.proofs.Common.{◌∙◌, ap, arith}
use Rattle.std.specs.Prelude.{◌==◌}
use Rattle.std.proofs.lemmas.Bool.{eqb-true}
use Rattle.vlm_words.specs.Steps.{is_of_node}
use Rattle.vlm_locks.proofs.NodeGone.{all_ended, fewer_left, living_first, none_lives, not_found, one_more_ends}
use Rattle.vlm_locks.proofs.process_ends.end_processes_of.Goals as goal

pub loop-pid-smaller : goal.loop-pid-smaller
loop-pid-smaller c =
    let first = living_first c.args.node c.first_of.result c.loop-pid.store.processes c.first_of.ensures.first c.in-Some.pid c.in-Some.is in
    let ended = c.end_process.ensures.ended c.in-Some.pid c.in-Some-process.ensures.found in
    omega (arith, fewer_left c.in-Some.pid c.loop-pid.store c.end_process.new.store ended.processes first.0 first.1.0 first.1.1)

pub loop-pid-preserved : goal.loop-pid-preserved
loop-pid-preserved c =
    let first = living_first c.args.node c.first_of.result c.loop-pid.store.processes c.first_of.ensures.first c.in-Some.pid c.in-Some.is in
    one_more_ends (is_of_node c.args.node) (λ p. p == c.in-Some.pid) (λ pid same. ap (is_of_node c.args.node) (eqb-true pid c.in-Some.pid same) ∙ first.1.2)
    c.args.store.now c.loop-pid.store c.end_process.new.store c.args.touched.now c.loop-pid.touched c.end_process.new.touched
    c.loop-pid.invariant (c.end_process.ensures.ended c.in-Some.pid c.in-Some-process.ensures.found) c.end_process.ensures.can_end

-- no process is left
pub returns-in_default-clause-ended : goal.returns-in_default-clause-ended
returns-in_default-clause-ended c =
    all_ended (is_of_node c.args.node) c.args.store.now c.loop-pid.store c.args.touched.now c.loop-pid.touched c.first_of.ensures.sound c.loop-pid.invariant
    (none_lives c.args.node c.first_of.result c.loop-pid.store.processes c.requires.first c.requires.last c.first_of.ensures.first c.in_default.is)

-- the first process of the node is found
pub returns-in_default-process-clause-ended : goal.returns-in_default-process-clause-ended
returns-in_default-process-clause-ended c =
    let first = living_first c.args.node c.first_of.result c.loop-pid.store.processes c.first_of.ensures.first c.in-Some.pid c.in-Some.is in
    absurd (not_found c.in-Some.pid c.loop-pid.store c.process.result c.process.ensures.found c.in_default-process.is first.0 first.1.0 first.1.1)
