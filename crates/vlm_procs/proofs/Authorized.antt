-- What a process may do, by its handle and by its ID.
use Rattle.std.proofs.Common.{◌≡◌, ℕ, Some, IfSome, sym, ap, ◌∙◌}
use Rattle.std.specs.Option.{option_map_or}
use Rattle.vlm_words.specs.State.{Process, process_of}
use Rattle.vlm_records.specs.declared.processes.Authorization.{Authorization}
use Rattle.vlm_store.specs.Plain.{plain_processes}
use Rattle.vlm_store.specs.Records.{IsProcess, IsSound, Records, authorization_of, process_at}
use Rattle.vlm_store.proofs.PlainProcesses.{process_at-stored, process_of-stored}

-- a part of what the process at a handle may do
pub told_is : {X : Type 0} (s : Records) (at pid : ℕ) (part : Authorization → X) (none : X) (told : Authorization) → IsSound s → IsProcess at pid s
    → IfSome (process_at at s.processes) (λ p. told ≡ authorization_of p.process)
    → part told ≡ option_map_or (λ p. part (authorization_of p)) (process_of (plain_processes s) pid) none
told_is s at pid part none told sound is read =
    let field : Process → _ = λ p. part (authorization_of p) in
    let found : process_at at s.processes ≡ Some is.0 = ap (λ x. process_at x s.processes) (sym is.1.1)
    ∙ process_at-stored is.0 s.processes sound.processes_apart is.1.0 in
    let here = ap part (rw found at read) in
    let named = ap (λ o. option_map_or field o none) (process_of-stored is.0 s.processes sound.processes_apart is.1.0) in
    here ∙ sym named ∙ ap (λ x. option_map_or field (process_of (plain_processes s) x) none) is.1.2
