use Rattle.std.proofs.Common.{false}
use Rattle.vlm_records.specs.declared.processes.Authorization.{Authorization}
use Rattle.vlm_procs.proofs.Authorized.{told_is}
use Rattle.vlm_procs.proofs.authorizations.has_syslck.Goals as goal

pub returns : goal.returns
returns c pid is =
    told_is c.args.store.now c.args.at pid
    (λ (a : Authorization). a.syslck) false c.process_record.result.now.authorization c.process_record.ensures.sound
    is c.process_record.ensures.authorization
