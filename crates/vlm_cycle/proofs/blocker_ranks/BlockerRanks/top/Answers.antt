use Rattle.std.proofs.Common.{◌∙◌, arith, subst, sym}
use Rattle.std.proofs.lemmas.Option.{same_Some}
use Rattle.vlm_words.specs.declared.locks.Request.{Request}
use Rattle.vlm_cycle.specs.Ranking.{IsAboveAll}
use Rattle.vlm_cycle.proofs.blocker_ranks.BlockerRanks.top.Goals as goal

pub returns-clause-held : goal.returns-clause-held
returns-clause-held c want is counted held differs other rank another there =
    let same = same_Some c.in-Some.want want (sym c.in-Some.is ∙ c.want.ensures ∙ is) in
    let above = subst (λ (w : Request). IsAboveAll c.args.self.now.held w.mode c.args.row.now.lkid c.against.result)
    same (rw c.lkid.ensures at c.against.ensures) in
    let less = above held differs other rank another there in
    omega (arith, less, c.max.ensures)
