use Rattle.std.proofs.Common.{◌≡◌, ◌<◌, ℕ, List, [], length, get_or, drop, vec_len, arith, sym, subst, ap, ◌∙◌}
use Rattle.vlm_cluster.specs.Headline.{Items}
use Rattle.vlm_cluster.proofs.Results.{after_lend, all_more, zeros}
use Rattle.vlm_cluster.proofs.finish.give_up.Goals as goal

pub loop-preserved : goal.loop-preserved
loop-preserved g c =
    let items : List Items = c.loop.items.items in let was = c.loop.invariant in
    let long : length items ≡ c.loop.counter = (let ok = c.loop.items.ok in let n = was.made in omega arith) in
    record {
      made = (let n = was.made in let m = c.push_reserved.ensures.len in omega arith);
      room = (let n = was.room in let m = c.push_reserved.ensures.capacity in omega arith);
      empty = λ k v below. subst (λ (xs : List Items). (get_or xs k v).items ≡ []) (sym c.push_reserved.ensures.items)
          (all_more (λ m x. x.items ≡ []) items c.new.result
          (λ m x low. was.empty m x (omega (arith, low, long))) c.new.ensures.items k v
          (omega (arith, below, long)));
    }

pub returns-clause-items : goal.returns-clause-items
returns-clause-items g c k v below =
    let at : k < c.loop.counter = (let n = c.len-end.ensures in omega (arith, below)) in
    ap (λ vs. (get_or vs.items k v).items) c.report.ensures.items ∙ c.loop.invariant.empty k v at

pub returns-clause-posted : goal.returns-clause-posted
returns-clause-posted g c k d below =
    let ps : List ℕ = c.note_posted.new.posted in
    let room : length ps ≡ c.args.space.posted.len = omega arith in
    ap (λ v. get_or v.items k 0) c.report.ensures.posted
    ∙ ap (λ (qs : List ℕ). get_or qs k 0) (after_lend c.args.space.posted.len ps (drop (length ps) c.args.space.posted.items) room)
    ∙ c.note_posted.ensures.each k d below

pub returns-clause-others : goal.returns-clause-others
returns-clause-others g c k above =
    let ps : List ℕ = c.note_posted.new.posted in
    let room : length ps ≡ c.args.space.posted.len = omega arith in
    ap (λ v. get_or v.items k 0) c.report.ensures.posted
    ∙ ap (λ (qs : List ℕ). get_or qs k 0) (after_lend c.args.space.posted.len ps (drop (length ps) c.args.space.posted.items) room)
    ∙ c.note_posted.ensures.others k above
    ∙ ap (λ (qs : List ℕ). get_or qs k 0) (c.as_mut_slice.ensures.value ∙ c.requires.posted)
    ∙ zeros (vec_len c.args.space.posted) k
