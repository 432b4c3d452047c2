use Rattle.std.proofs.Common.{◌∙◌, ap}
use Rattle.std.specs.Option.{option_map}
use Rattle.vlm_collections.specs.declared.number_map.Numbered.{Numbered}
use Rattle.vlm_collections.proofs.NumberMaps.{found_as_stored}
use Rattle.vlm_collections.proofs.number_map.NumberMap.get.Goals as goal

pub returns : goal.returns
returns g c =
    rw (← c.self.view_is)
    (ap (option_map (λ (x : Numbered g.row.Kind.Denot). x.at)) c.in_ok-found.ensures.key
    ∙ found_as_stored (record { number = c.args.number; at = 0; kind = record {} }) c.self.inside.numbered.keys)

pub returns-in_err-found : goal.returns-in_err-found
returns-in_err-found g c =
    rw (← c.self.view_is)
    (c.from_residual.ensures
    ∙ ap (option_map (λ (x : Numbered g.row.Kind.Denot). x.at)) c.in_err-found.ensures.key
    ∙ found_as_stored (record { number = c.args.number; at = 0; kind = record {} }) c.self.inside.numbered.keys)
