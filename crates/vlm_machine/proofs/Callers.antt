-- The process that makes a step, by its handle and by its ID.
use Rattle.std.proofs.Common.{◌≡◌, ℕ, None, IsSome, refl, sym, ap, ◌∙◌}
use Rattle.vlm_words.specs.State.{process_of}
use Rattle.vlm_store.specs.Plain.{plain_processes}
use Rattle.vlm_store.specs.Records.{FindsProcess, IsProcess, IsSound, Records}
use Rattle.vlm_store.proofs.PlainProcesses.{process_of-none, process_of-stored}

-- what is found of a process
pub found_lives : (s : Records) (at pid : ℕ) → IsSound s → IsProcess at pid s → IsSome (process_of (plain_processes s) pid)
found_lives s at pid sound is =
    rw (ap (process_of (plain_processes s)) (sym is.1.2) ∙ process_of-stored is.0 s.processes sound.processes_apart is.1.0) refl

pub found_none : (s : Records) (pid : ℕ) → FindsProcess s pid None → process_of (plain_processes s) pid ≡ None
found_none s pid found = process_of-none pid s.processes found
