use Rattle.std.proofs.Common.{◌⊎◌, Ok, Err, Result, OnOk, OnErr, inl, inr}
use Rattle.vlm_script.specs.declared.faults.PlayFault.{PlayFault}
use Rattle.vlm.proofs.run.refused_by.Goals as goal

-- a write puts the whole there, or a first part of it
either : {A B : Type 0} (r : Result (Unit {0}) PlayFault) → OnOk r A → OnErr r B → A ⊎ B
either (Ok done) whole part = inl whole
either (Err fault) whole part = inr part

pub returns-clause-faults : goal.returns-clause-faults
returns-clause-faults g c = either c.write_whole.result c.write_whole.ensures.whole c.write_whole.ensures.part
