use Rattle.vlm_core_tests.proofs.tests.stores.add_reserved.Goals as goal

pub add_lock_reserved-requires-clause-new : goal.add_lock_reserved-requires-clause-new
add_lock_reserved-requires-clause-new g c = rw c.of.ensures c.in-None.ensures.found
