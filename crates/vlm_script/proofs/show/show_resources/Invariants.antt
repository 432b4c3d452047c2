use Rattle.std.proofs.Common.{◌≡◌, ◌++◌, length}
use Rattle.std.specs.Prelude.{flat_map}
use Rattle.std.specs.Option.{ForSome}
use Rattle.vlm_queue.specs.Walks.{HasResource, resources_left}
use Rattle.vlm_script.specs.Texts.{part_text}
use Rattle.vlm_script.proofs.show.show_resources.Given as goal

-- the next resource is there, and what is printed so far and what is left give all resources
abbrev pub invariant-loop-next : goal.invariant-loop-next
invariant-loop-next l = record {
  there : ForSome l.next (λ res. HasResource res l.store);
  printed : l.out.items ++ flat_map (part_text l.part) (resources_left l.next l.store) ≡ l.initial.out.items ++ flat_map (part_text l.part) l.core.resources;
}

abbrev pub decreases-loop-next : goal.decreases-loop-next
decreases-loop-next l = length (resources_left l.next l.store)
