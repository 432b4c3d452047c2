use Rattle.std.proofs.Common.{◌++◌, subst, Some}
use Rattle.std.specs.Prelude.{All, Option}
use Rattle.std.proofs.lemmas.List.Elements.{All-contains}
use Rattle.vlm_words.specs.declared.locks.LockState.{LockState}
use Rattle.vlm_words.specs.declared.locks.Request.{Request}
use Rattle.vlm_words.specs.State.{Resource}
use Rattle.vlm_model.specs.Laws.{AreCompatible, IsInNobodysWay}
use Rattle.vlm_model.proofs.law_consequences.no_armed_lock_keeps_out_a_queued_request.Goals as goal

pub returns : goal.returns
returns c = λ s r row other held want law in_s in_granted armed holds queued wants incompatible.
    let at_r : All (IsInNobodysWay (r.converting ++ r.waiting)) r.granted =
    All-contains (λ (r : Resource). All (IsInNobodysWay (r.converting ++ r.waiting)) r.granted) s.resources r law in_s in
    let fits : AreCompatible other.want row.held =
    All-contains (λ (other : LockState). AreCompatible other.want row.held) (r.converting ++ r.waiting) other
    (All-contains (IsInNobodysWay (r.converting ++ r.waiting)) r.granted row at_r in_granted armed) queued in
    let wanting : AreCompatible (Some want) row.held = subst (λ (x : Option Request). AreCompatible x row.held) wants fits in
    let both : AreCompatible (Some want) (Some held) = subst (λ (x : Option Request). AreCompatible (Some want) x) holds wanting in
    cc
