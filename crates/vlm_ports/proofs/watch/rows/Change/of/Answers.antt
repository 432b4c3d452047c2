use Rattle.std.proofs.Common.{◌≡◌, ◌<◌, ◌∙◌, ◌++◌, ◌∷◌, [], ap, sym, arith, length, length-set, get_or}
use Rattle.std.proofs.lemmas.List.{map_more, take_more_set}
use Rattle.std.proofs.lemmas.Option.{slice_get-get_or}
use Rattle.vlm_ports.specs.Rows.{row_of}
use Rattle.vlm_ports.proofs.watch.rows.Change.of.Goals as goal

pub loop-at-preserved : goal.loop-at-preserved
loop-at-preserved c =
    let was = c.loop-at.invariant in
    let keys = c.args.keys.now in
    let key = c.index-keys-at.result in
    let row = c.root_row.result in
    let shows = row_of c.args.journaled.now in
    let at_key : c.loop-at.at < length keys = omega arith in
    let at_row : c.loop-at.at < length c.loop-at.rows = omega (arith, was.0, at_key, c.requires) in
    let here : get_or keys c.loop-at.at key ≡ key = cc (c.index-keys-at.is, slice_get-get_or keys c.loop-at.at key at_key) in
    let is : row ≡ shows (get_or keys c.loop-at.at key) = c.root_row.ensures ∙ ap shows (sym here) in (
      length-set c.loop-at.rows c.loop-at.at row ∙ was.0,
      take_more_set c.loop-at.rows c.loop-at.at row at_row
          ∙ ((λ k. was.1 k ++ is k ∷ []) ∙ sym (map_more shows keys c.loop-at.at key at_key)),
    )
