use Rattle.vlm_core_tests.proofs.tests.stores.add.Goals as goal

pub add_lock-requires-clause-new : goal.add_lock-requires-clause-new
add_lock-requires-clause-new g c = rw c.of.ensures c.in-None.ensures.found
