use Rattle.vlm_store.proofs.Undoing.{lock_undone, process_undone, resource_undone}
use Rattle.vlm_store.proofs.laws.law_removal_undoes_an_addition.Goals as goal

pub returns-clause-lock : goal.returns-clause-lock
returns-clause-lock c s at row owner parent to sound absent = lock_undone s at sound absent row owner parent to

pub returns-clause-resource : goal.returns-clause-resource
returns-clause-resource c s res serial site absent = resource_undone s res serial site absent

pub returns-clause-process : goal.returns-clause-process
returns-clause-process c s at pid d absent = process_undone s at pid d absent
