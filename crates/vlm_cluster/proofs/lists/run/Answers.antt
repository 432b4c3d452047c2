use Rattle.std.proofs.Common.{◌≡◌, ◌<◌, ℕ, List, length, get_or, vec_len, arith, refl, ap, subst, sym, ◌∙◌}
use Rattle.std.proofs.lemmas.List.{length-append, length-replicate}
use Rattle.vlm_journal.specs.declared.entries.Entry.{Entry}
use Rattle.vlm_journal.proofs.Lists.{element}
use Rattle.vlm_ports.specs.Hubs.{journal}
use Rattle.vlm_cluster.specs.declared.report.Report.{Report}
use Rattle.vlm_cluster.specs.declared.worker.WorkerResult.{WorkerResult}
use Rattle.vlm_cluster.specs.Gates.{moves}
use Rattle.vlm_cluster.specs.Parts.{HaveEnough, entries_in}
use Rattle.vlm_cluster.proofs.Assembled.{AreNoted, all_posted, begun, given_up, ports_of_works, served}
use Rattle.vlm_cluster.proofs.Gated.{gated, gated_by_none, gated_in_part}
use Rattle.vlm_cluster.proofs.Joined.{ended, gated_ended, noted_in, parts_fewer, serving_in_part}
use Rattle.vlm_cluster.proofs.lists.run.Goals as goal

pub serve-requires-clause-few : goal.serve-requires-clause-few
serve-requires-clause-few g c =
    let some = c.args.driver.some in
    let none = ap (λ (xs : List Entry). length xs) c.requires.accounted.0 in
    omega (arith, some, none, length-append (entries_in c.args.driver.parts.items) (journal c.args.driver.hub))

pub finish-finished-requires-clause-ports : goal.finish-finished-requires-clause-ports
finish-finished-requires-clause-ports g c =
    let ports = c.args.inputs.ports in let lists = c.args.inputs.lists in let results = c.join_all-2.new.results in
    let done = ended ports lists c.start_all.new.children results c.start_all.ensures.few c.join_all-2.ensures.len c.start_all.ensures.each
    g.G.Gate.never_stops c.requires.new.0 c.requires.lens.0 c.join_all-2.ensures.each in
    ports_of_works g.G.Gate.never_stops ports.items lists.items results.items c.serve.new.self.hub c.requires.new.0 done.works
    (omega (arith, done.few, done.as_many)) done.few (c.serve.ensures.rings ∙ sym c.requires.new.1)

-- ---- all is served

pub returns-then-finished-clause-serving : goal.returns-then-finished-clause-serving
returns-then-finished-clause-serving g c =
    let lists = c.args.inputs.lists in let results = c.join_all-2.new.results in let r : Report = c.finish-finished.result.report in
    let done = ended c.args.inputs.ports lists c.start_all.new.children results c.start_all.ensures.few c.join_all-2.ensures.len c.start_all.ensures.each
    g.G.Gate.never_stops c.requires.new.0 c.requires.lens.0 c.join_all-2.ensures.each in
    let is = noted_in results r c.finish-finished.ensures.counts c.finish-finished.ensures.posted in
    let ol = lists.ok in let od = results.ok in
    let all : length results.items ≡ length lists.items =
    (let n = c.len-count.ensures in let m = c.len-started.ensures in let le = c.if-started-count.false in let len = c.join_all-2.ensures.len in
    omega (arith, done.few)) in
    let sound = c.finish-finished.ensures.sound in
    record {
      served = served done r is.noted all is.items is.posted sound c.law_departed.ensures.answered
          (λ k d v lt. c.finish-finished.ensures.whole c.if-finished.true k d v (omega arith));
      whole = λ never. all_posted done r is.noted all is.items is.posted sound c.law_departed.ensures.answered never
          (λ k d v lt. c.finish-finished.ensures.whole c.if-finished.true k d v (omega arith));
      modes = c.law_modes_stay_compatible.ensures _ _ sound.legal;
      once = c.law_requests_end_once.ensures _ _ sound.legal;
      order = c.law_grants_keep_order.ensures _ _ sound.legal;
      cut_short = tt;
    }

pub returns-then-finished-clause-gated : goal.returns-then-finished-clause-gated
returns-then-finished-clause-gated g c =
    let results = c.join_all-2.new.results in let r : Report = c.finish-finished.result.report in
    let M = moves g.G.Gate.answers g.G.Gate.hears in let od = results.ok in
    let is = noted_in results r c.finish-finished.ensures.counts c.finish-finished.ensures.posted in
    let works = gated_ended c.args.inputs.ports c.args.inputs.lists c.start_all.new.children results c.start_all.ensures.few c.join_all-2.ensures.len
    c.start_all.ensures.each M c.args.inputs.gates c.start_all.ensures.gates c.join_all-2.ensures.gated in
    gated M c.args.inputs.gates.items c.args.inputs.lists.items results.items r works is.noted is.items
    (λ k d v lt. c.finish-finished.ensures.told k d v (omega arith))
    (λ k d lt. (c.finish-finished.ensures.whole c.if-finished.true k d (element r.items.items k (omega (arith, is.items, lt))) (omega arith)).left)

-- the driver cuts parts as it was told
pub returns-then-finished-clause-parts : goal.returns-then-finished-clause-parts
returns-then-finished-clause-parts g c =
    let r : Report = c.finish-finished.result.report in
    let every = c.serve.ensures.every in record {
      enough = subst (λ (n : ℕ). HaveEnough n r.parts.items) every c.finish-finished.ensures.sound.enough;
      fewer = parts_fewer c.args.inputs.ports c.args.inputs.lists c.args.driver.every c.serve.new.self.every c.args.driver.hub c.serve.new.self.hub
          r.parts.items c.requires.lens.0 c.requires.new.1 c.serve.ensures.rings every c.finish-finished.ensures.sound.fewer;
      rest = subst (λ (n : ℕ). length r.rest.entries.items < n) every (c.finish-finished.ensures.rest c.if-finished.true);
    }

-- ---- memory was refused on the way

pub returns-clause-serving : goal.returns-clause-serving
returns-clause-serving g c =
    let lists = c.args.inputs.lists in let results = c.join_all-2.new.results in let r : Report = c.finish-finished.result.report in
    let done = ended c.args.inputs.ports lists c.start_all.new.children results c.start_all.ensures.few c.join_all-2.ensures.len c.start_all.ensures.each
    g.G.Gate.never_stops c.requires.new.0 c.requires.lens.0 c.join_all-2.ensures.each in
    let is = noted_in results r c.finish-finished.ensures.counts c.finish-finished.ensures.posted in
    let ol = lists.ok in let od = results.ok in
    let all : length results.items ≡ length lists.items =
    (let n = c.len-count.ensures in let m = c.len-started.ensures in let le = c.if-started-count.false in let len = c.join_all-2.ensures.len in
    omega (arith, done.few)) in
    serving_in_part (begun done r is.noted all is.items is.posted c.finish-finished.ensures.sound c.law_departed.ensures.answered
    (λ k d v lt. c.finish-finished.ensures.begun k d v (omega arith)))

pub returns-clause-gated : goal.returns-clause-gated
returns-clause-gated g c =
    let results = c.join_all-2.new.results in let r : Report = c.finish-finished.result.report in
    let M = moves g.G.Gate.answers g.G.Gate.hears in let od = results.ok in
    let is = noted_in results r c.finish-finished.ensures.counts c.finish-finished.ensures.posted in
    let works = gated_ended c.args.inputs.ports c.args.inputs.lists c.start_all.new.children results c.start_all.ensures.few c.join_all-2.ensures.len
    c.start_all.ensures.each M c.args.inputs.gates c.start_all.ensures.gates c.join_all-2.ensures.gated in
    gated_in_part M c.args.inputs.gates.items c.args.inputs.lists.items results.items r works is.noted is.items
    (λ k d v lt. c.finish-finished.ensures.told k d v (omega arith))

pub returns-clause-parts : goal.returns-clause-parts
returns-clause-parts g c =
    let r : Report = c.finish-finished.result.report in
    let every = c.serve.ensures.every in (
      subst (λ (n : ℕ). HaveEnough n r.parts.items) every c.finish-finished.ensures.sound.enough,
      parts_fewer c.args.inputs.ports c.args.inputs.lists c.args.driver.every c.serve.new.self.every c.args.driver.hub c.serve.new.self.hub
          r.parts.items c.requires.lens.0 c.requires.new.1 c.serve.ensures.rings every c.finish-finished.ensures.sound.fewer,
    )

-- ---- a worker was not started, and the run is given up

pub returns-then-started-count-clause-serving : goal.returns-then-started-count-clause-serving
returns-then-started-count-clause-serving g c =
    let D = WorkerResult g.row.G.Denot in
    let lists = c.args.inputs.lists in let results = c.join_all.new.results in let r : Report = c.give_up-report.result in
    let done = ended c.args.inputs.ports lists c.start_all.new.children results c.start_all.ensures.few c.join_all.ensures.len c.start_all.ensures.each
    g.G.Gate.never_stops c.requires.new.0 c.requires.lens.0 c.join_all.ensures.each in
    let ol = lists.ok in let od = results.ok in let oi = r.items.ok in let oq = r.posted.ok in let counts = c.give_up-report.ensures.counts in
    let now = c.as_slice.ensures.value in
    let long : length c.as_slice.result.now ≡ length results.items = ap (λ (xs : List D). length xs) now in
    let zeros : vec_len c.args.preallocated.space.posted ≡ vec_len lists =
    (let ok = c.args.preallocated.space.posted.ok in let n = ap (λ (xs : List ℕ). length xs) c.requires.posted in omega (arith, n, length-replicate {A = ℕ})) in
    let noted : AreNoted results.items r.posted.items =
    λ k d lt. c.give_up-report.ensures.posted k d (omega (arith, long, lt)) ∙ ap (λ (xs : List D). (get_or xs k d).posted) now in
    serving_in_part (given_up done r noted c.give_up-report.ensures.entries (omega arith) (omega arith) c.give_up-report.ensures.sound
    c.law_departed.ensures.answered (λ k v lt. c.give_up-report.ensures.items k v (omega arith))
    (λ k above. c.give_up-report.ensures.others k (omega (arith, long, above))))

pub returns-then-started-count-clause-gated : goal.returns-then-started-count-clause-gated
returns-then-started-count-clause-gated g c =
    let D = WorkerResult g.row.G.Denot in
    let results = c.join_all.new.results in let r : Report = c.give_up-report.result in
    let M = moves g.G.Gate.answers g.G.Gate.hears in
    let works = gated_ended c.args.inputs.ports c.args.inputs.lists c.start_all.new.children results c.start_all.ensures.few c.join_all.ensures.len
    c.start_all.ensures.each M c.args.inputs.gates c.start_all.ensures.gates c.join_all.ensures.gated in
    let oi = r.items.ok in let counts = c.give_up-report.ensures.counts in
    let now = c.as_slice.ensures.value in
    let long : length c.as_slice.result.now ≡ length results.items = ap (λ (xs : List D). length xs) now in
    let noted : AreNoted results.items r.posted.items =
    λ k d lt. c.give_up-report.ensures.posted k d (omega (arith, long, lt)) ∙ ap (λ (xs : List D). (get_or xs k d).posted) now in
    gated_by_none M c.args.inputs.gates.items c.args.inputs.lists.items results.items r works noted
    (λ k v lt. c.give_up-report.ensures.items k v (omega arith))
    (λ k above. c.give_up-report.ensures.others k (omega (arith, long, above)))

pub returns-then-started-count-clause-parts : goal.returns-then-started-count-clause-parts
returns-then-started-count-clause-parts g c = (
  c.give_up-report.ensures.sound.enough,
  parts_fewer c.args.inputs.ports c.args.inputs.lists c.args.driver.every c.args.driver.every c.args.driver.hub c.args.driver.hub
      c.give_up-report.result.parts.items c.requires.lens.0 c.requires.new.1 refl refl c.give_up-report.ensures.sound.fewer,
)
