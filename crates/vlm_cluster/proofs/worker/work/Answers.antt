use Rattle.std.proofs.Common.{Bool, true, not, List, [], length, ap, subst}
use Rattle.vlm_journal.specs.declared.entries.Item.{Item}
use Rattle.vlm_cluster.specs.declared.client.Client.{Client}
use Rattle.vlm_cluster.specs.Gates.{IsFollowed, IsTold, Moves, Point, moves}
use Rattle.vlm_cluster.proofs.Guides.{followed_cancelled, followed_told, told_kept, told_then}
use Rattle.vlm_cluster.proofs.worker.work.Goals as goal
use Rattle.vlm_cluster.proofs.worker.work.Goals.{then-posted-via-then-posted, then-posted-via-else-posted+then-is_err}

pub returns-then-posted-clause-gated : goal.returns-then-posted-clause-gated
returns-then-posted-clause-gated g c =
    let M : Moves g.row.G.Denot = moves g.G.Gate.answers g.G.Gate.hears in
    let o : Point g.row.G.Denot = (c.args.gate, []) in
    let a : Point g.row.G.Denot = (c.post_list-posted.new.gate, c.post_list-posted.new.client.items.items) in
    let e : Point g.row.G.Denot = (c.then-posted.gate, c.then-posted.client.items.items) in
    let size = length c.args.list.now in let count = c.post_list-posted.result.count in let whole = not c.post_list-posted.result.cancelled in
    let begun : IsFollowed M o a size count whole =
    subst (λ (items : List Item). IsFollowed M (c.args.gate, items) a size count whole) c.requires.new.1 c.post_list-posted.ensures.gated in
    let told : IsTold M a e = elim c.then-posted.branch [
      | then-posted-via-then-posted w ↦ told_kept M a e w.gate-is (ap (λ (x : Client). x.items.items) w.client-is)
      | then-posted-via-else-posted+then-is_err w ↦
          let b : Point g.row.G.Denot = (w.bye.new.gate, w.bye.new.self.items.items) in
          told_then M a b e w.bye.ensures.told (told_kept M b e w.gate-is (ap (λ (x : Client). x.items.items) w.client-is))
    ] in
    followed_cancelled M o e size count whole (followed_told M o a e size count whole begun told)

pub returns-clause-gated : goal.returns-clause-gated
returns-clause-gated g c =
    let M : Moves g.row.G.Denot = moves g.G.Gate.answers g.G.Gate.hears in
    let o : Point g.row.G.Denot = (c.args.gate, []) in
    let a : Point g.row.G.Denot = (c.post_list-posted.new.gate, c.post_list-posted.new.client.items.items) in
    let b : Point g.row.G.Denot = (c.bye.new.gate, c.bye.new.self.items.items) in
    let e : Point g.row.G.Denot = (c.await_answers.new.gate, c.await_answers.new.self.items.items) in
    let size = length c.args.list.now in let count = c.post_list-posted.result.count in
    let begun : IsFollowed M o a size count true =
    subst (λ (cancelled : Bool). IsFollowed M o a size count (not cancelled)) c.if-posted.false
    (subst (λ (items : List Item). IsFollowed M (c.args.gate, items) a size count
    (not c.post_list-posted.result.cancelled)) c.requires.new.1 c.post_list-posted.ensures.gated) in
    followed_told M o a e size count true begun (told_then M a b e c.bye.ensures.told c.await_answers.ensures.told)
