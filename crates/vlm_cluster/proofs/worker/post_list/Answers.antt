use Rattle.std.proofs.Common.{◌+◌, ◌≤◌, ℕ, Bool, length, not, refl, ap, sym, subst, arith, rules}
use Rattle.std.proofs.lemmas.Grind.{common_steps}
use Rattle.vlm_cluster.specs.declared.client.Client.{Client}
use Rattle.vlm_cluster.specs.declared.gate.Go.{Go}
use Rattle.vlm_cluster.specs.declared.gate.Go.TheVariants.{Later, Post, Stop}
use Rattle.vlm_cluster.specs.Gates.{IsCounted, Moves, Point, asks, moves, open_at, shut_at}
use Rattle.vlm_cluster.proofs.Guides.{guided_ask, guided_at, guided_round, guided_then}
use Rattle.vlm_cluster.proofs.worker.post_list.Goals as goal
use Rattle.vlm_cluster.proofs.worker.post_list.Goals.{in-Later, in-Post+then-is_ok, in-Post+else-is_ok}

pub returns-in-Stop-clause-gated : goal.returns-in-Stop-clause-gated
returns-in-Stop-clause-gated g c =
    let M : Moves g.row.G.Denot = moves g.G.Gate.answers g.G.Gate.hears in
    let o : Point g.row.G.Denot = (c.args.gate.now, c.args.client.now.items.items) in
    let a : Point g.row.G.Denot = (c.loop.gate, c.loop.client.items.items) in
    let b : Point g.row.G.Denot = (c.before-in-loop.new.self, c.loop.client.items.items) in
    let n = c.loop.next in record {
      standing = shut_at n;
      guided = guided_then M o a b (open_at 0) (open_at n) (shut_at n) c.loop.invariant.guided
          (guided_ask M a.0 b.0 a.1 n Stop (open_at n) (shut_at n)
          (subst (λ (go : Go). M a.0 (asks n go) b.0) c.in-Stop.is c.before-in-loop.ensures.answers) (refl, refl));
      counted = c.to_end-in-Stop.ensures.count;
    }

pub loop-preserved : goal.loop-preserved
loop-preserved g c =
    let M : Moves g.row.G.Denot = moves g.G.Gate.answers g.G.Gate.hears in
    let o : Point g.row.G.Denot = (c.args.gate.now, c.args.client.now.items.items) in
    let a : Point g.row.G.Denot = (c.loop.gate, c.loop.client.items.items) in
    let e : Point g.row.G.Denot = (c.match-before.gate, c.match-before.client.items.items) in
    let n = c.loop.next in
    let answer = c.before-in-loop.new.self in record {
      same = search rules;
      posted = grind (arith, common_steps);
      within = search rules;
      node = search rules;
      guided = elim c.match-before.branch [
        | in-Later w ↦
            let b : Point g.row.G.Denot = (w.wait-round.new.gate, w.wait-round.new.self.items.items) in
            guided_at M o b e (open_at 0) (open_at n) (open_at c.match-before.next)
            (guided_round M o a b n Later answer (open_at 0) (open_at n) (open_at n) c.loop.invariant.guided
            (subst (λ (go : Go). M a.0 (asks n go) answer) w.in-Later.is c.before-in-loop.ensures.answers) (refl, refl) w.wait-round.ensures.told)
            w.gate-is (ap (λ (x : Client). x.items.items) w.client-is) (ap open_at w.next-is)
        | in-Post+then-is_ok w ↦
            let b : Point g.row.G.Denot = (w.post-posted.new.gate, w.post-posted.new.self.items.items) in
            guided_at M o b e (open_at 0) (open_at (n + 1)) (open_at c.match-before.next)
            (guided_round M o a b n Post answer (open_at 0) (open_at n) (open_at (n + 1)) c.loop.invariant.guided
            (subst (λ (go : Go). M a.0 (asks n go) answer) w.in-Post.is c.before-in-loop.ensures.answers) (refl, refl) w.post-posted.ensures.told)
            w.gate-is (ap (λ (x : Client). x.items.items) w.client-is) (ap open_at w.next-is)
        | in-Post+else-is_ok w ↦ absurd (search rules)
      ];
    }

pub returns-then-is_err-clause-gated : goal.returns-then-is_err-clause-gated
returns-then-is_err-clause-gated g c =
    let M : Moves g.row.G.Denot = moves g.G.Gate.answers g.G.Gate.hears in
    let o : Point g.row.G.Denot = (c.args.gate.now, c.args.client.now.items.items) in
    let a : Point g.row.G.Denot = (c.loop.gate, c.loop.client.items.items) in
    let e : Point g.row.G.Denot = (c.match-before.gate, c.match-before.client.items.items) in
    let n = c.loop.next in
    let answer = c.before-in-loop.new.self in
    let cut = c.cut_short-then-is_err.ensures in let count = c.cut_short-then-is_err.result.count in let size = length c.args.list.now in
    let counted : (at : ℕ) → count ≤ at → at ≤ count + 1 → IsCounted (open_at at) size count (not c.cut_short-then-is_err.result.cancelled) =
    λ at low high. subst (λ (cancelled : Bool). IsCounted (open_at at) size count (not cancelled)) (sym cut.cancelled) (low, high) in
    elim c.match-before.branch [
      | in-Later w ↦
          let b : Point g.row.G.Denot = (w.wait-round.new.gate, w.wait-round.new.self.items.items) in record {
            standing = open_at n;
            guided = guided_at M o b e (open_at 0) (open_at n) (open_at n)
                (guided_round M o a b n Later answer (open_at 0) (open_at n) (open_at n) c.loop.invariant.guided
                (subst (λ (go : Go). M a.0 (asks n go) answer) w.in-Later.is c.before-in-loop.ensures.answers) (refl, refl) w.wait-round.ensures.told)
                w.gate-is (ap (λ (x : Client). x.items.items) w.client-is) refl;
            counted = counted n (let m = w.next-is in omega (arith, m, cut.count)) (let m = w.next-is in omega (arith, m, cut.count));
          }
      | in-Post+then-is_ok w ↦ absurd (search rules)
      | in-Post+else-is_ok w ↦
          let b : Point g.row.G.Denot = (w.post-posted.new.gate, w.post-posted.new.self.items.items) in record {
            standing = open_at (n + 1);
            guided = guided_at M o b e (open_at 0) (open_at (n + 1)) (open_at (n + 1))
                (guided_round M o a b n Post answer (open_at 0) (open_at n) (open_at (n + 1)) c.loop.invariant.guided
                (subst (λ (go : Go). M a.0 (asks n go) answer) w.in-Post.is c.before-in-loop.ensures.answers) (refl, refl) w.post-posted.ensures.told)
                w.gate-is (ap (λ (x : Client). x.items.items) w.client-is) refl;
            counted = counted (n + 1) (let m = w.next-is in omega (arith, m, cut.count)) (let m = w.next-is in omega (arith, m, cut.count));
          }
    ]
