use Rattle.std.proofs.Common.{◌≡◌, Some, sym, subst}
use Rattle.vlm_store.specs.Records.{StoredResource, resource_at}
use Rattle.vlm_machine.specs.Machine.{MachineState}
use Rattle.vlm_machine.proofs.ParentLocks.{deep, of_some, shallow}
use Rattle.vlm_machine.proofs.records.Machine.check_depth.Goals as goal

pub returns-then-resource_record-lt-LAST_LEVEL : goal.returns-then-resource_record-lt-LAST_LEVEL
returns-then-resource_record-lt-LAST_LEVEL c r is =
    let found = subst (λ (m : MachineState). resource_at c.args.res m.records.resources ≡ Some r) (sym c.self.view_is) is in
    shallow r c.resource_record.result.now.level
    (of_some (λ (x : StoredResource). c.resource_record.result.now.level ≡ x.level)
    (resource_at c.args.res c.self.inside.store.resources) r found c.resource_record.ensures.level)
    c.if-resource_record-lt-LAST_LEVEL.true

pub returns-else-resource_record-lt-LAST_LEVEL : goal.returns-else-resource_record-lt-LAST_LEVEL
returns-else-resource_record-lt-LAST_LEVEL c r is =
    let found = subst (λ (m : MachineState). resource_at c.args.res m.records.resources ≡ Some r) (sym c.self.view_is) is in
    deep r c.resource_record.result.now.level
    (of_some (λ (x : StoredResource). c.resource_record.result.now.level ≡ x.level)
    (resource_at c.args.res c.self.inside.store.resources) r found c.resource_record.ensures.level)
    c.if-resource_record-lt-LAST_LEVEL.false
