use Rattle.std.proofs.Common.{◌≡◌, ℕ, List, [], ◌∷◌, ◌++◌, length, ap, ◌∙◌, refl}
use Rattle.std.specs.Prelude.{slice_set}
use Rattle.vlm_locks.specs.declared.touched.Note.{Note}
use Rattle.vlm_locks.specs.Touched.{Touches}
use Rattle.vlm_locks.proofs.touched.Touched.replace.Goals as goal

put_there : (before after : List Note) (was note : Note) → slice_set (before ++ was ∷ after) (length before) note ≡ before ++ note ∷ after
put_there [] after was note = refl
put_there (t ∷ before) after was note = ap (λ (ts : List Note). t ∷ ts) (put_there before after was note)

pub returns-clause-noted : goal.returns-clause-noted
returns-clause-noted c before after was is spot =
    ap (λ (ts : List Note). slice_set ts c.args.index c.args.note) (ap (λ (v : Touches). v.noted) c.self.view_is ∙ is)
    ∙ ap (λ (at : ℕ). slice_set (before ++ was ∷ after) at c.args.note) spot ∙ put_there before after was c.args.note
