-- What becomes of a watch whose name names no resource.
use Rattle.std.proofs.Common.{◌≡◌, ℕ, List, Option, None, Some, codes, refl}
use Rattle.vlm_words.specs.declared.resources.Domain.{Domain}
use Rattle.vlm.specs.Ends.{Output, PrintsLine, StartsWatch}

-- no resource has the name
pub name_refused : (domain : Domain) (name script : Option (List ℕ)) (old new : Output) (status : ℕ) → name ≡ None → new.printed ≡ old.printed
    → PrintsLine (codes "wrong name\n") old.faults new.faults → status ≡ 2 → StartsWatch domain name script script old new status
name_refused domain None script old new status is same told ended = (refl, record { printed = same; faults = told; ended = ended })
name_refused domain (Some name) script old new status is same told ended = cc
