use Rattle.std.proofs.Common.{◌≡◌, sym, ◌∙◌, inl, inr}
use Rattle.vlm_words.specs.declared.resources.Queue.TheVariants.{Granted, Conversion, Waiting}
use Rattle.vlm_machine.proofs.ParentLocks.{refused_depth, refused_waiting}
use Rattle.vlm_machine.proofs.records.Machine.check_parent.Goals as goal

pub returns-in-Waiting : goal.returns-in-Waiting
returns-in-Waiting c =
    record { refusal = λ r found. refused_waiting c.args.self.now.records c.requires.sound c.args.parent.now c.requires r found c.in-Waiting.is }

-- a lock that holds a mode may be a parent
pub returns-in-Granted : goal.returns-in-Granted
returns-in-Granted c = record {
  refusal = λ r found.
      c.check_depth.ensures r found
      ∙ refused_depth c.args.self.now.records c.requires.sound c.args.parent.now c.requires r found (λ waits. elim c.in-Granted.is [
        | inl granted ↦ (let no : Granted ≡ Waiting = sym granted ∙ waits in cc)
        | inr converting ↦ (let no : Conversion ≡ Waiting = sym converting ∙ waits in cc)
      ]);
}
