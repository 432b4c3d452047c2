use Rattle.std.proofs.Common.{subst}
use Rattle.vlm_machine.specs.Between.{IsBetweenSteps}
use Rattle.vlm_core.proofs.public.Core.between_steps.Goals as goal

-- some run leads here, and each law holds after it
pub returns : goal.returns
returns c = subst IsBetweenSteps c.self.view_is (record {
  stable = c.law_each_resource_is_stable.ensures c.self.invariant.reachable.history _ c.self.invariant.reachable.run;
  ids = c.law_ids_are_apart.ensures c.self.invariant.reachable.history _ c.self.invariant.reachable.run;
  serials_rise = (c.law_serials_rise.ensures c.self.invariant.reachable.history _ c.self.invariant.reachable.run).rising;
  serials_from_1 = (c.law_serials_rise.ensures c.self.invariant.reachable.history _ c.self.invariant.reachable.run).from_1;
  few_serials = (c.law_serials_rise.ensures c.self.invariant.reachable.history _ c.self.invariant.reachable.run).few;
  new_processes = c.law_a_declaration_gives_a_new_id.ensures c.self.invariant.reachable.history _ c.self.invariant.reachable.run;
  of_nodes = (c.law_process_ids_rise.ensures c.self.invariant.reachable.history _ c.self.invariant.reachable.run).named;
  parents = c.law_a_parent_outlives_its_sublocks.ensures c.self.invariant.reachable.history _ c.self.invariant.reachable.run;
  chains = c.law_no_lock_is_more_than_15_levels_below.ensures c.self.invariant.reachable.history _ c.self.invariant.reachable.run;
  rows_fit = c.law_rows_fit_their_queues.ensures c.self.invariant.reachable.history _ c.self.invariant.reachable.run;
})
