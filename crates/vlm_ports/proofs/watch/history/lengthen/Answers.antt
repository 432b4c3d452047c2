use Rattle.std.proofs.Common.{sym, ◌∙◌, ap}
use Rattle.vlm_ports.proofs.Lengthening.{lengthens}
use Rattle.vlm_ports.proofs.watch.history.lengthen.Goals as goal

pub compare_exchange-found-requires : goal.compare_exchange-found-requires
compare_exchange-found-requires c =
    let word = c.requires.word in
    let offer = c.plain-offer.ensures in
    let pen = c.no_pen-pen.ensures in
    let book = sym (ap (λ w. w.book) word) in (
      ap (λ w. w.tracked) word,
      book,
      pen.0 ∙ book,
      offer.0,
      rw (ap (λ w. w.key) word, pen.1, offer.1, offer.3) (lengthens c.args.history.now.log c.args.change.now c.args.count (sym c.requires.count)),
    )
