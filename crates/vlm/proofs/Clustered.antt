-- What a cluster prints, by its end.
use Rattle.std.proofs.Common.{◌≡◌, ℕ, List, Option, Result, Ok, Err, OnOk, OnErr, IfErr, refl}
use Rattle.std.specs.Io.KnownBytes.{Appends}
use Rattle.vlm_script.specs.declared.faults.PlayFault.{PlayFault}
use Rattle.vlm_script.specs.declared.faults.PlayFault.TheVariants.{Line, Memory, Read, Write, Long}
use Rattle.vlm_script.specs.Plays.{PassesPart}
use Rattle.vlm.specs.Clusters.{IsClusterText, PrintsCluster, StopsCluster}

module _ (nodes : ℕ) (script old new : Option (List ℕ)) where
  -- it ends before anything was written
  pub prints_nothing : (fault : PlayFault) → StopsCluster nodes script fault → new ≡ old → PrintsCluster nodes script (Err fault) old new
  prints_nothing (Line number fault) stops same = (stops, same)
  prints_nothing Memory stops same = (stops, same)
  prints_nothing Read stops same = (stops, same)
  prints_nothing Write stops same = absurd (stops.no_write refl)
  prints_nothing Long stops same = (stops, same)

  -- its text is written, or only a first part of it
  pub prints_text : (text : List ℕ) (r : Result (Unit {0}) PlayFault) → IsClusterText nodes script text → OnOk r (Appends old new text)
      → OnErr r (PassesPart old new text) → IfErr r (λ fault. fault ≡ Write) → PrintsCluster nodes script r old new
  prints_text text (Ok done) is whole part fault = (text, whole, is)
  prints_text text (Err Write) is whole part fault = (text, is, part)
  prints_text text (Err (Line number line)) is whole part fault = cc
  prints_text text (Err Memory) is whole part fault = cc
  prints_text text (Err Read) is whole part fault = cc
  prints_text text (Err Long) is whole part fault = cc
