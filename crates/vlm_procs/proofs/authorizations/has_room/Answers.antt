use Rattle.std.proofs.Common.{◌≡◌, ap, ◌∙◌, nat_lt}
use Rattle.vlm_model.specs.Quotas.{locks_of, quota_of}
use Rattle.vlm_records.specs.declared.processes.Authorization.{Authorization}
use Rattle.vlm_store.specs.Plain.{plain_processes, plain_resources}
use Rattle.vlm_procs.proofs.Authorized.{told_is}
use Rattle.vlm_procs.proofs.Quotas.{on_all_same}
use Rattle.vlm_procs.proofs.authorizations.has_room.Goals as goal

pub returns : goal.returns
returns c pid is =
    let s = c.args.store.now in
    let count : c.own_lock_count.result ≡ locks_of pid (plain_resources s) =
    c.own_lock_count.ensures.owned c.requires.queued pid is ∙ on_all_same pid s.resources in
    let quota : c.process_record.result.now.authorization.quota ≡ quota_of (plain_processes s) pid =
    told_is s c.args.at pid
    (λ (a : Authorization). a.quota) 0 c.process_record.result.now.authorization c.process_record.ensures.sound is
    c.process_record.ensures.authorization in
    ap (λ n. nat_lt n c.from.result) count ∙ ap (nat_lt (locks_of pid (plain_resources s))) (c.from.ensures ∙ quota)
