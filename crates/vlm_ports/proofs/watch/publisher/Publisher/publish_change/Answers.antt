use Rattle.std.proofs.Common.{◌≡◌, ◌+◌, ◌++◌, ◌∷◌, List, [], drop, length, length-append, arith, ap, sym, ◌∙◌}
use Rattle.vlm_ports.specs.declared.watch.rows.Change.{Change}
use Rattle.vlm_ports.specs.declared.watch.sheet.Sheet.{Sheet}
use Rattle.vlm_ports.specs.declared.watch.sheet.Update.{Update}
use Rattle.vlm_ports.specs.Histories.{word_of}
use Rattle.vlm_ports.specs.Rule.{book_of}
use Rattle.vlm_ports.specs.Sheets.{changes_to}
use Rattle.vlm_ports.proofs.Sheets.{taken_in}
use Rattle.vlm_ports.proofs.Steps.{at_ok, publishes}
use Rattle.vlm_ports.proofs.watch.publisher.Publisher.publish_change.Goals as goal

pub publish_as-writer-requires : goal.publish_as-writer-requires
publish_as-writer-requires g c next is =
    let p = c.args.self in
    let change = c.args.change in
    let w = c.append.new.self in
    let desk = c.append.ensures.desk in
    let update : Update = record { change = change; count = c.published.result.now.count + 1; before = c.again.result } in
    let next_is = taken_in w.desk.shown.value next (drop w.behind w.log.items) (drop p.writer.behind p.writer.log.items) update c.in-Ok.ensures.pending is in
    let shown : changes_to w.desk.shown.value ≡ p.history.log = rw desk p.shows in
    let all : changes_to next ≡ p.history.log ++ change ∷ [] = ap changes_to next_is ∙ ap (λ s. s.log ++ change ∷ []) c.again.ensures in
    let count : next.count ≡ length (changes_to next) =
    omega (arith, ap (λ s. s.count) next_is, ap (λ s. s.count) c.published.ensures, p.counts, ap length all, length-append p.history.log (change ∷ [])) in
    let book : next.before.book ≡ w.desk.shown.value.before.book =
    ap (λ s. s.before.book) next_is ∙ (ap (λ s. s.book) c.again.ensures ∙ sym (rw desk p.of)) in
    publishes _ _ _ next change (all ∙ ap (λ (l : List Change). l ++ change ∷ []) (sym shown)) count book

pub invariant_of-publisher : goal.invariant_of-publisher
invariant_of-publisher g c =
    let p = c.args.self in
    let change = c.args.change in
    let w = c.append.new.self in
    let desk = c.append.ensures.desk in
    let update : Update = record { change = change; count = c.published.result.now.count + 1; before = c.again.result } in
    let done = c.publish_as-writer in
    let x : Sheet = done.result.0.desk.shown.value in
    let both = at_ok _ _ _ _ done.result.1 (done.ensures.succeeds tt) done.ensures.values done.ensures.rule in
    let seen = both.2 in
    let x_is = taken_in w.desk.shown.value x (drop w.behind w.log.items) (drop p.writer.behind p.writer.log.items) update c.in-Ok.ensures.pending both.1.0 in
    let all : changes_to x ≡ p.history.log ++ change ∷ [] = ap changes_to x_is ∙ ap (λ s. s.log ++ change ∷ []) c.again.ensures in
    let added : c.lengthen.new.history.log ≡ p.history.log ++ change ∷ [] =
    c.lengthen.ensures.added c.if-not-lengthen.false ∙ ap (λ s. s.log ++ change ∷ []) c.again-longer.ensures in
    let book : c.lengthen.new.history.book ≡ p.history.book = c.lengthen.ensures.book ∙ ap (λ s. s.book) c.again-longer.ensures in
    record {
      word = p.word ∙ ap word_of (sym book);
      shows = all ∙ sym added;
      counts = omega (
        arith,
        ap (λ s. s.count) x_is,
        ap (λ s. s.count) c.published.ensures,
        p.counts,
        ap length added,
        length-append p.history.log (change ∷ []),
      );
      saw = ap (λ v. v.seen) seen ∙ (all ∙ sym added);
      of = ap (λ s. s.before.book) x_is ∙ (ap (λ s. s.book) c.again.ensures ∙ sym book);
      knows = ap (λ v. v.knows) seen ∙ rw desk p.knows;
      home = ap book_of seen ∙ (rw desk p.home ∙ sym book);
    }
