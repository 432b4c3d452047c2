use Rattle.std.proofs.Common.{◌≡◌, ◌+◌, ◌<◌, ℕ, List, length, rules, arith, get_or, vec_len, sym, subst, ◌∙◌}
use Rattle.std.proofs.lemmas.List.{get_or_default}
use Rattle.std.specs.declared.thread.PromisedHandle.{PromisedHandle}
use Rattle.std.specs.Vec.Iter.{into_iter_items}
use Rattle.vlm_cluster.specs.declared.threads.WorkerPromise.{WorkerPromise}
use Rattle.vlm_cluster.specs.declared.worker.WorkerResult.{WorkerResult}
use Rattle.vlm_cluster.specs.Gates.{moves}
use Rattle.vlm_cluster.specs.Works.{IsGatedWork, IsWorkOn, work_of}
use Rattle.vlm_cluster.proofs.Results.{all_more}
use Rattle.vlm_cluster.proofs.threads.join_all.Goals as goal

-- the handle that is joined stood first among the rest, so it is the one at the next place
pub loop-child-preserved : goal.loop-child-preserved
loop-child-preserved g c =
    let D = WorkerResult g.row.G.Denot in let H = PromisedHandle D (WorkerPromise g.row.G.Denot) in
    let was = c.loop-child.invariant in let step = c.in-Some.ensures.steps in let done = vec_len c.loop-child.results in
    let child = c.in-Some.child in
    let children : List H = into_iter_items c.into_iter-child-iterator.result in
    let P : ℕ → D → Type 0 = λ m x. (h : H) × (h ≡ get_or children m h)
    × IsWorkOn g.G.Gate.never_stops h.promise.port.value h.promise.list.value.items (work_of x)
    × IsGatedWork (moves g.G.Gate.answers g.G.Gate.hears) h.promise.gate.value h.promise.list.value.items x in
    let next : child ≡ get_or children done child = let h = was.1 0 child in grind rules in
    let items = c.loop-child.results.items in
    let long : length items ≡ done = (let ok = c.loop-child.results.ok in omega arith) in
    let here : P (length items) c.join.result = subst (λ m. P m c.join.result) (sym long) (child, next, c.join.ensures.0, c.join.ensures.1) in
    let grown : vec_len c.push_reserved.new.self ≡ done + 1 = search rules in (
      search rules,
      (λ k h below. let e = was.1 (k + 1) h in grind rules),
      (λ k d below. subst (λ (xs : List D). P k (get_or xs k d)) (sym c.push_reserved.ensures.items)
          (all_more P items c.join.result (λ m x low. was.2 m x (omega (arith, low, long))) here k d (omega (arith, below, long, grown)))),
      search rules,
    )

pub returns-clause-each : goal.returns-clause-each
returns-clause-each g c k d h below =
    let D = WorkerResult g.row.G.Denot in let H = PromisedHandle D (WorkerPromise g.row.G.Denot) in
    let was = c.loop-child.invariant in let began = c.into_iter-child-iterator.ensures.into_iter_gives in
    let children : List H = c.args.children.items in
    let whole : vec_len c.loop-child.results ≡ vec_len c.args.children = omega (arith, was.0, c.in-None.ensures.steps.0, began.1) in
    let kept = was.2 k d (omega (arith, below, whole)) in
    let at : kept.0 ≡ get_or children k kept.0 = subst (λ (hs : List H). kept.0 ≡ get_or hs k kept.0) began.0 kept.1 in
    let lt : k < length children = (let ok = c.args.children.ok in omega (arith, below)) in
    let P : H → Type 0 = λ x. IsWorkOn g.G.Gate.never_stops x.promise.port.value x.promise.list.value.items (work_of (get_or c.loop-child.results.items k d)) in
    subst P (at ∙ get_or_default children k kept.0 h lt) kept.2

pub returns-clause-gated : goal.returns-clause-gated
returns-clause-gated g c k d h below =
    let D = WorkerResult g.row.G.Denot in let H = PromisedHandle D (WorkerPromise g.row.G.Denot) in
    let was = c.loop-child.invariant in let began = c.into_iter-child-iterator.ensures.into_iter_gives in
    let children : List H = c.args.children.items in
    let whole : vec_len c.loop-child.results ≡ vec_len c.args.children = omega (arith, was.0, c.in-None.ensures.steps.0, began.1) in
    let kept = was.2 k d (omega (arith, below, whole)) in
    let at : kept.0 ≡ get_or children k kept.0 = subst (λ (hs : List H). kept.0 ≡ get_or hs k kept.0) began.0 kept.1 in
    let lt : k < length children = (let ok = c.args.children.ok in omega (arith, below)) in
    let P : H → Type 0 = λ x. IsGatedWork
    (moves g.G.Gate.answers g.G.Gate.hears) x.promise.gate.value x.promise.list.value.items
    (get_or c.loop-child.results.items k d) in
    subst P (at ∙ get_or_default children k kept.0 h lt) kept.3
