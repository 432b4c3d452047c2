use Rattle.std.proofs.Common.{◌≡◌, ◌<◌, ℕ, List, length, map, get_or, drop, arith, sym, ap, ◌∙◌, subst}
use Rattle.vlm_journal.specs.declared.entries.Entry.{Entry}
use Rattle.vlm_cluster.specs.declared.worker.WorkerResult.{WorkerResult}
use Rattle.vlm_cluster.specs.Gates.{moves}
use Rattle.vlm_cluster.specs.Works.{AreTold, IsBegun, IsWhole, Work, entries_at, work_of}
use Rattle.vlm_cluster.proofs.Results.{after_lend, as_many, reported_at, told_at, work_at}
use Rattle.vlm_cluster.proofs.finish.finish.Goals as goal

pub returns-clause-sound : goal.returns-clause-sound
returns-clause-sound g c = record {
  legal = c.report.ensures.legal;
  numbered = c.report.ensures.numbered;
  takes = c.report.ensures.takes;
  enough = rw (← c.close-whole.ensures.every) c.report.ensures.enough;
  fewer = rw (← c.close-whole.ensures.every, ← c.close-whole.ensures.rings) c.report.ensures.fewer;
}

pub returns-clause-posted : goal.returns-clause-posted
returns-clause-posted g c k d below =
    let D = WorkerResult g.row.G.Denot in
    let ds : List D = c.args.results.items in let xs : List D = c.close-whole.new.results in
    let same : map work_of xs ≡ map work_of ds = c.close-whole.ensures.same ∙ ap (λ (ys : List D). map work_of ys) c.as_mut_slice.ensures.value in
    let n = as_many xs ds same in
    let long : length xs ≡ c.args.results.len = (let ok = c.args.results.ok in omega (arith, n)) in
    let now : c.as_slice.result.now ≡ xs = c.as_slice.ensures.value ∙ after_lend c.args.results.len xs (drop (length xs) ds) long in
    let m = ap (λ (ys : List D). length ys) now in
    let lt : k < length xs = omega (arith, long, below) in
    let there : k < length c.as_slice.result.now = omega (arith, m, lt) in
    let ps : List ℕ = c.note_posted.new.posted in
    let room : length ps ≡ c.args.space.posted.len = omega arith in
    ap (λ v. get_or v.items k 0) c.report.ensures.posted
    ∙ ap (λ (qs : List ℕ). get_or qs k 0) (after_lend c.args.space.posted.len ps (drop (length ps) c.args.space.posted.items) room)
    ∙ c.note_posted.ensures.each k d there
    ∙ ap (λ (ys : List D). (get_or ys k d).posted) now
    ∙ ap (λ (w : Work). w.count) (work_at xs ds same k d lt)

pub returns-clause-begun : goal.returns-clause-begun
returns-clause-begun g c k d v below =
    let D = WorkerResult g.row.G.Denot in
    let ds : List D = c.args.results.items in let xs : List D = c.close-whole.new.results in
    let same : map work_of xs ≡ map work_of ds = c.close-whole.ensures.same ∙ ap (λ (ys : List D). map work_of ys) c.as_mut_slice.ensures.value in
    let n = as_many xs ds same in
    let long : length xs ≡ c.args.results.len = (let ok = c.args.results.ok in omega (arith, n)) in
    let are : c.report.result.items.items ≡ map (λ (x : D). x.client.items) xs =
    ap (λ vs. vs.items) c.report.ensures.items ∙ c.take_items.ensures
    ∙ ap (λ (ys : List D). map (λ (x : D). x.client.items) ys) (after_lend c.args.results.len xs (drop (length xs) ds) long) in
    let lt : k < length ds = (let ok = c.args.results.ok in omega (arith, below)) in
    subst (λ (es : List Entry). IsBegun es (work_of (get_or ds k d)) (get_or c.report.result.items.items k v).items) (sym c.report.ensures.entries)
    (reported_at ds xs c.report.result.items.items same are (IsBegun (entries_at c.close-whole.new.driver)) c.close-whole.ensures.begun k d v lt)

pub returns-clause-whole : goal.returns-clause-whole
returns-clause-whole g c is k d v below =
    let D = WorkerResult g.row.G.Denot in
    let ds : List D = c.args.results.items in let xs : List D = c.close-whole.new.results in
    let same : map work_of xs ≡ map work_of ds = c.close-whole.ensures.same ∙ ap (λ (ys : List D). map work_of ys) c.as_mut_slice.ensures.value in
    let n = as_many xs ds same in
    let long : length xs ≡ c.args.results.len = (let ok = c.args.results.ok in omega (arith, n)) in
    let are : c.report.result.items.items ≡ map (λ (x : D). x.client.items) xs =
    ap (λ vs. vs.items) c.report.ensures.items ∙ c.take_items.ensures
    ∙ ap (λ (ys : List D). map (λ (x : D). x.client.items) ys) (after_lend c.args.results.len xs (drop (length xs) ds) long) in
    let lt : k < length ds = (let ok = c.args.results.ok in omega (arith, below)) in
    subst (λ (es : List Entry). IsWhole es (work_of (get_or ds k d)) (get_or c.report.result.items.items k v).items) (sym c.report.ensures.entries)
    (reported_at ds xs c.report.result.items.items same are (IsWhole (entries_at c.close-whole.new.driver)) (c.close-whole.ensures.whole is) k d v lt)

pub returns-clause-told : goal.returns-clause-told
returns-clause-told g c k d v below =
    let D = WorkerResult g.row.G.Denot in
    let ds : List D = c.args.results.items in let xs : List D = c.close-whole.new.results in
    let M = moves g.G.Gate.answers g.G.Gate.hears in
    let same : map work_of xs ≡ map work_of ds = c.close-whole.ensures.same ∙ ap (λ (ys : List D). map work_of ys) c.as_mut_slice.ensures.value in
    let n = as_many xs ds same in
    let long : length xs ≡ c.args.results.len = (let ok = c.args.results.ok in omega (arith, n)) in
    let are : c.report.result.items.items ≡ map (λ (x : D). x.client.items) xs =
    ap (λ vs. vs.items) c.report.ensures.items ∙ c.take_items.ensures
    ∙ ap (λ (ys : List D). map (λ (x : D). x.client.items) ys) (after_lend c.args.results.len xs (drop (length xs) ds) long) in
    let lt : k < length ds = (let ok = c.args.results.ok in omega (arith, below)) in
    told_at ds xs c.report.result.items.items same are M
    (subst (λ (ys : List D). AreTold M ys xs) c.as_mut_slice.ensures.value c.close-whole.ensures.told) k d v lt
