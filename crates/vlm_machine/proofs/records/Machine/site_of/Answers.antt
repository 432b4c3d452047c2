use Rattle.std.proofs.Common.{◌≡◌, ◌<◌, Some, None, sym, ap, ◌∙◌, subst}
use Rattle.vlm_words.specs.declared.resources.Domain.{Domain}
use Rattle.vlm_words.specs.Flags.{flag_bits}
use Rattle.vlm_model.specs.Trees.{parent_resource, root_domain, site_below}
use Rattle.vlm_store.specs.Plain.{plain_resource}
use Rattle.vlm_store.specs.Records.{StoredResource, resource_at}
use Rattle.vlm_locks.proofs.QueuedLocks.{resource_among}
use Rattle.vlm_machine.specs.Machine.{MachineState, kept, plain_state}
use Rattle.vlm_machine.specs.Parents.{IsParent, IsParentLock}
use Rattle.vlm_machine.specs.Between.{IsBetweenSteps}
use Rattle.vlm_machine.proofs.ParentLocks.{of_some, parent_found, parent_none, serial_from_1, site_record}
use Rattle.vlm_machine.proofs.records.Machine.site_of.Goals as goal

pub returns-in-Some-clause-site : goal.returns-in-Some-clause-site
returns-in-Some-clause-site c =
    let m = kept c.self.inside in
    let pid = c.args.caller.now.pid in
    let up = c.in-Some.parent in
    let lkid = c.args.form.now.parent in
    let is : IsParentLock pid lkid up m.records =
    subst (λ o. IsParent pid lkid o m.records) c.in-Some.is
    (subst (λ (k : MachineState). IsParent pid lkid c.args.parent.now k.records)
    (sym c.self.view_is) c.requires.parent) in
    let r = is.located.located.resource in
    let found : resource_at up.res m.records.resources ≡ Some r =
    subst (λ at. resource_at at m.records.resources ≡ Some r) is.resource is.located.located.found in
    let below : parent_resource (plain_state m) pid lkid ≡ Some (plain_resource r) =
    ap (parent_resource (plain_state m) pid) (sym is.located.named)
    ∙ parent_found m c.resource_record-above.ensures.sound is.lock is.located.located pid is.located.owned (λ zero. is.named (sym is.located.named ∙ zero)) in
    rw (← c.self.view_is)
    (site_record (root_domain (plain_state m) pid
    (flag_bits c.args.form.now.flags)) c.checked-name.result c.resource_record-above.result.now.serial
    c.resource_record-above.result.now.domain c.resource_record-above.result.now.level r
    (of_some (λ (x : StoredResource). c.resource_record-above.result.now.serial ≡ x.serial)
    (resource_at up.res m.records.resources) r found c.resource_record-above.ensures.serial)
    (of_some (λ (x : StoredResource). c.resource_record-above.result.now.domain ≡ x.domain)
    (resource_at up.res m.records.resources) r found c.resource_record-above.ensures.domain)
    (of_some (λ (x : StoredResource). c.resource_record-above.result.now.level ≡ x.level)
    (resource_at up.res m.records.resources) r found c.resource_record-above.ensures.level)
    ∙ ap (λ name. site_below (root_domain (plain_state m) pid (flag_bits c.args.form.now.flags)) name (Some (plain_resource r))) c.checked-name.ensures
    ∙ sym (ap (site_below (root_domain (plain_state m) pid (flag_bits c.args.form.now.flags)) c.args.name.now) below))

-- a parent has a serial
pub returns-in-Some-clause-keyed : goal.returns-in-Some-clause-keyed
returns-in-Some-clause-keyed c =
    let m = kept c.self.inside in
    let pid = c.args.caller.now.pid in
    let up = c.in-Some.parent in
    let lkid = c.args.form.now.parent in
    let is : IsParentLock pid lkid up m.records =
    subst (λ o. IsParent pid lkid o m.records) c.in-Some.is
    (subst (λ (k : MachineState). IsParent pid lkid c.args.parent.now k.records)
    (sym c.self.view_is) c.requires.parent) in
    let r = is.located.located.resource in
    let found : resource_at up.res m.records.resources ≡ Some r =
    subst (λ at. resource_at at m.records.resources ≡ Some r) is.resource is.located.located.found in
    let between = subst (λ (k : MachineState). IsBetweenSteps (plain_state k)) (sym c.self.view_is) c.requires.between in
    let serial : c.resource_record-above.result.now.serial ≡ r.serial =
    of_some (λ (x : StoredResource). c.resource_record-above.result.now.serial ≡ x.serial)
    (resource_at up.res m.records.resources) r found c.resource_record-above.ensures.serial in
    subst (λ n. 0 < n) (sym serial) (serial_from_1 m.records between.serials_from_1 r (resource_among up.res m.records.resources r found))

pub returns-in-None-clause-site : goal.returns-in-None-clause-site
returns-in-None-clause-site c =
    let m = c.args.self.now in
    let pid = c.args.caller.now.pid in
    let lkid = c.args.form.now.parent in
    let zero : lkid ≡ 0 = subst (λ o. IsParent pid lkid o m.records) c.in-None.is c.requires.parent in
    let none : parent_resource (plain_state m) pid lkid ≡ None = ap (parent_resource (plain_state m) pid) zero ∙ parent_none m pid in
    ap (λ (d : Domain). site_below d c.checked-name.result None) c.root_domain-domain.ensures
    ∙ ap (λ name. site_below (root_domain (plain_state m) pid (flag_bits c.args.form.now.flags)) name None) c.checked-name.ensures
    ∙ sym (ap (site_below (root_domain (plain_state m) pid (flag_bits c.args.form.now.flags)) c.args.name.now) none)
